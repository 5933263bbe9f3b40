-- What a run that was cut short has replied and written.
use Rattle.std.proofs.Common.{◌≡◌, ◌⊎◌, ℕ, ◌+◌, Bool, true, false, List, [], ◌∷◌, ◌++◌, length, Option, Some, None, Result, Ok, Err, refl, sym, ap, subst, ◌∙◌, inl, inr, append_assoc, arith}
use Rattle.std.specs.List.{flat_map}
use Rattle.std.proofs.lemmas.Bool.{cases_Bool}
use Rattle.std.proofs.lemmas.List.{append_cancel_left}
use Rattle.mvt_document.specs.Opens.{OpensAs}
use Rattle.mvt_document.specs.Plain.{Document}
use Rattle.mvt_document.proofs.SameBytes.{one_document_by_bytes}
use Rattle.tile_arguments.specs.Request.{Request}
use Rattle.tile_device.specs.Seen.{IsPrefix}
use Rattle.tile_script.specs.Line.{answer_to}
use Rattle.tile_lines.specs.Lines.{lines_of, with_feed}
use Rattle.tile_lines.specs.declared.parse_error.ParseError.{ParseError}
use Rattle.tile_lines.specs.declared.parse_error.ParseError.TheVariants as parse
use Rattle.mvt_history_steps.specs.declared.error.HistoryError.TheVariants.{Stopped}
use Rattle.tile_course.specs.Answering.{Answer, carried_out}
use Rattle.tile_course.specs.Course.{Course, start_of, IsOpened, IsWritten, IsCutShort, lines_in}
use Rattle.tile_course.specs.Replies.{refused_reply, IsOutOfMemory, NoneIsOutOfMemory}
use Rattle.tile_course.specs.Run.{Progress, at_first, settled_by, answered_by, after_line, is_over, after_lines, ran, tile_of, MayFollow, Walk}
use Rattle.tile_course.specs.declared.outcome.Options.{Options}
use Rattle.tile_course.specs.declared.refused.Refused.{Refused}
use Rattle.tile_course.specs.declared.refused.Refused.TheVariants as refused
use Rattle.tile_course.proofs.Overs.{over_stays, goes_on}
use Rattle.tile_course.proofs.Prefixes.{after_lines-append}
use Rattle.tile_course.proofs.Replying.{lines_add, walks_are_runs}
use Rattle.run_laws.specs.FaultLaws.{script_in, OutFailsLast, ScriptFailsBetweenLines, StrictRunsReplyAlike, IsCutForMemory, RepliesAreCutShort}
use Rattle.run_laws.proofs.ReadLines.{prefix_on, lines_before, read_whole, read_lines}

-- ---- how many lines were carried out

settled_counts : (p : Progress) (result : Result Answer Refused) → (settled_by p result).lines ≡ p.lines + 1
settled_counts p (Ok answer) = refl
settled_counts p (Err reason) = refl

answer_counts : (p : Progress) (answer : Result (Option Request) ParseError) → (answered_by p answer).lines ≡ p.lines + 1
answer_counts p (Ok None) = refl
answer_counts p (Ok (Some request)) = settled_counts p (carried_out request p.history)
answer_counts p (Err error) = refl

-- where the run is not over, all of them were
lines_counted : (strict : Bool) (p : Progress) (lines : List (List ℕ)) → is_over strict (after_lines strict p lines) ≡ false → (after_lines strict p lines).lines ≡ p.lines + length lines
lines_counted strict p [] on = omega arith
lines_counted strict p (line ∷ lines) on =
    elim (cases_Bool (is_over strict p)) [
      | inl over ↦ absurd (let no : true ≡ false = sym over ∙ ap (is_over strict) (sym (over_stays strict p (line ∷ lines) over)) ∙ on in cc)
      | inr before ↦ (
          let same = goes_on strict p line lines before in
          let others = lines_counted strict (after_line p line) lines (ap (is_over strict) (sym same) ∙ on) in
          omega (arith, ap (λ (q : Progress). q.lines) same, others, answer_counts p (answer_to line))
          )
    ]

-- ---- walks from the tile

none_in_front : (front rest : List ℕ) → NoneIsOutOfMemory (front ++ rest) → NoneIsOutOfMemory front
none_in_front front rest none line reason before after ends out_of_memory e =
    none line reason before (after ++ rest) ends out_of_memory (ap (λ (t : List ℕ). t ++ rest) e ∙ append_assoc (before ++ refused_reply line reason) after rest)

module _ (options : Options) (document : Document) (course : Course) (opens : OpensAs course.tile.bytes document) where
  one_opening : (opened : Document) → IsOpened course.tile opened → opened ≡ document
  one_opening opened is = one_document_by_bytes opened document is.opens.settled opens.settled (is.opens.spelled ∙ sym opens.spelled)

  -- a walk in which no reply says that memory ran out
  walked : (opened : Document) → IsOpened course.tile opened → (lines : List (List ℕ)) (progress : Progress) → Walk options.strict (start_of options opened) lines progress
      → NoneIsOutOfMemory progress.replies → progress ≡ after_lines options.strict (at_first document options.depth) lines
  walked opened is lines progress walk none =
      walks_are_runs options.strict (start_of options opened) progress lines progress.replies walk refl none
      ∙ ap (λ (d : Document). after_lines options.strict (at_first d options.depth) lines) (one_opening opened is)

  -- and whose replies were all written
  walked_script : (opened : Document) → IsOpened course.tile opened → (progress : Progress) → Walk options.strict (start_of options opened) (lines_in course.script) progress
      → IsWritten course.replies progress.replies → NoneIsOutOfMemory course.replies.bytes → progress ≡ ran document options (script_in course.script)
  walked_script opened is progress walk written none =
      walked opened is (lines_in course.script) progress walk (subst NoneIsOutOfMemory written.all none)
      ∙ ap (after_lines options.strict (at_first document options.depth)) (sym (read_lines course.script))

  -- ---- a reply that was cut short

  module _ (opened : Document) (is : IsOpened course.tile opened) (short : IsCutShort options.strict (start_of options opened) (lines_in course.script) course.replies) (none : NoneIsOutOfMemory course.replies.bytes) where
    lines_split : lines_of (script_in course.script) ≡ short.first ++ short.line ∷ short.more
    lines_split = read_lines course.script ∙ short.split

    -- the lines before that reply
    before : short.progress ≡ after_lines options.strict (at_first document options.depth) short.first
    before = walked opened is short.first short.progress short.walk (none_in_front short.progress.replies short.prefix (subst NoneIsOutOfMemory short.written none))

    -- memory did not run out for its line
    cut_within : short.next ≡ after_line short.progress short.line → IsPrefix course.replies.bytes (ran document options (script_in course.script)).replies
    cut_within follows =
        let rest = short.is_prefix.0 in
        let goes : ran document options (script_in course.script) ≡ after_lines options.strict short.next short.more =
        ap (after_lines options.strict (at_first document options.depth)) lines_split
        ∙ after_lines-append options.strict (at_first document options.depth) short.first (short.line ∷ short.more)
        ∙ ap (λ (p : Progress). after_lines options.strict p (short.line ∷ short.more)) (sym before)
        ∙ goes_on options.strict short.progress short.line short.more short.goes_on
        ∙ ap (λ (p : Progress). after_lines options.strict p short.more) (sym follows) in
        let adds = lines_add options.strict short.next short.more in
        let sent : IsPrefix course.replies.bytes short.next.replies = (
          rest,
          short.replied ∙ ap (λ (t : List ℕ). short.progress.replies ++ t) short.is_prefix.1
              ∙ sym (append_assoc short.progress.replies short.prefix rest)
              ∙ ap (λ (t : List ℕ). t ++ rest) (sym short.written),
        ) in
        prefix_on course.replies.bytes short.next.replies (ran document options (script_in course.script)).replies sent (adds.reply, ap (λ (p : Progress). p.replies) goes ∙ adds.is)

    -- or it did
    cut_for_memory : (reason : Refused) → IsOutOfMemory reason → short.next.replies ≡ short.progress.replies ++ refused_reply (short.progress.lines + 1) reason
        → IsCutForMemory document options (script_in course.script) course.replies.bytes
    cut_for_memory reason out_of_memory adds =
        let front = lines_before (script_in course.script) short.first short.line short.more lines_split in
        let first = flat_map with_feed short.first in
        let on = ap (is_over options.strict) (sym before) ∙ short.goes_on in
        let counted : short.progress.lines ≡ length (lines_of first) =
        omega (arith, ap (λ (p : Progress). p.lines) before, lines_counted options.strict (at_first document options.depth) short.first on, ap length front.lines) in
        let reply : short.reply ≡ refused_reply (short.progress.lines + 1) reason =
        append_cancel_left short.progress.replies short.reply (refused_reply (short.progress.lines + 1) reason) (sym short.replied ∙ adds) in
        let made : short.progress ≡ ran document options first = before ∙ ap (after_lines options.strict (at_first document options.depth)) (sym front.lines) in
        record {
          first = first;
          others = front.prefix.0;
          split = front.prefix.1;
          some = front.some;
          ends = front.ends;
          reason = reason;
          out_of_memory = out_of_memory;
          beginning = short.prefix;
          begins = subst (λ (n : ℕ). IsPrefix short.prefix (refused_reply (n + 1) reason)) counted (subst (IsPrefix short.prefix) reply short.is_prefix);
          is = short.written ∙ ap (λ (p : Progress). p.replies ++ short.prefix) made;
        }

    cut_short : MayFollow short.progress short.line short.next
        → IsPrefix course.replies.bytes (ran document options (script_in course.script)).replies ⊎ IsCutForMemory document options (script_in course.script) course.replies.bytes
    cut_short (inl follows) = inl (cut_within follows)
    cut_short (inr (inl (runs_out, follows))) = inr (cut_for_memory (refused.Parse parse.NoMemory) (inl refl) (ap (λ (p : Progress). p.replies) follows))
    cut_short (inr (inr stop)) = inr (cut_for_memory (refused.History (Stopped stop.taken)) (inr refl) (ap (λ (p : Progress). p.replies) stop.stopped))

-- ---- how a run ends

pub out_fails_last : OutFailsLast
out_fails_last options document course run =
    let through = run.ends.through in
    let made : through.progress ≡ ran document options course.script.bytes =
    walked_script options document course run.opens through.document through.opened through.progress through.carried.walk through.carried.replies run.none_out_of_memory
    ∙ ap (ran document options) (read_whole course.script through.carried.whole) in (
      through.carried.replies.all ∙ ap (λ (p : Progress). p.replies) made,
      ap (is_over options.strict) (sym made) ∙ through.carried.goes_on,
      subst (λ (p : Progress). IsPrefix course.out.bytes (tile_of p)) made run.ends.prefix,
    )

pub script_fails_between_lines : ScriptFailsBetweenLines
script_fails_between_lines options document course run =
    let stops = run.ends.between in
    let made = walked_script options document course run.opens run.ends.document run.ends.opened stops.progress stops.walk stops.replies run.none_out_of_memory in
    (stops.replies.all ∙ ap (λ (p : Progress). p.replies) made, ap (is_over options.strict) (sym made) ∙ stops.goes_on, run.ends.out.all)

pub strict_runs_reply_alike : StrictRunsReplyAlike
strict_runs_reply_alike options document course run =
    let stops = run.ends.between in
    let made = walked_script options document course run.opens run.ends.document run.ends.opened stops.progress stops.walk stops.replies run.none_out_of_memory in
    (stops.replies.all ∙ ap (λ (p : Progress). p.replies) made, ap (is_over options.strict) (sym made) ∙ stops.over, run.ends.out.all)

pub replies_are_cut_short : RepliesAreCutShort
replies_are_cut_short options document course run =
    let short = run.ends.between.cut_short in
    (cut_short options document course run.opens run.ends.document run.ends.opened short run.none_out_of_memory short.follows, run.ends.out.all)
