-- Replies that were cut short: those up to a line feed were written whole.
use Rattle.std.proofs.Common.{◌≡◌, ◌⊎◌, ℕ, ◌+◌, true, false, List, [], ◌∷◌, ◌++◌, length, drop, get_or, refl, sym, ap, subst, ◌∙◌, inl, inr, append_assoc, append-nil, length-append, arith}
use Rattle.std.proofs.lemmas.List.{nil_from_length}
use Rattle.mvt_document.specs.Plain.{Document}
use Rattle.tile_device.specs.Seen.{IsPrefix}
use Rattle.tile_lines.specs.Lines.{is_line_feed, lines_of, HasNoLineFeed, with_feed, EndsWithALine}
use Rattle.tile_course.specs.Replies.{refused_reply, NoneIsOutOfMemory}
use Rattle.tile_course.specs.Run.{at_first, ran}
use Rattle.tile_course.specs.declared.outcome.Options.{Options}
use Rattle.tile_course.proofs.ReplyEnds.{refused_text}
use Rattle.tile_course.proofs.Replying.{lines_add}
use Rattle.run_laws.specs.FaultLaws.{script_in, IsCutForMemory, WholeRepliesStand}
use Rattle.run_laws.proofs.Faults.{replies_are_cut_short}
use Rattle.run_laws.proofs.LineLaws.{replies_stand}
use Rattle.run_laws.proofs.NoneOutOfMemory.{refused_uncut}
use Rattle.run_laws.proofs.ReadLines.{prefix_on}

-- the same text is cut in two ways: one front is a prefix of the other
two_fronts : (front rest text others : List ℕ) → front ++ rest ≡ text ++ others → IsPrefix front text ⊎ ((between : List ℕ) × (front ≡ text ++ between) × (others ≡ between ++ rest))
two_fronts [] rest text others e = inl (text, refl)
two_fronts (b ∷ front) rest [] others e = inr (b ∷ front, refl, sym e)
two_fronts (b ∷ front) rest (c ∷ text) others e =
    let same : b ≡ c = ap (λ (t : List ℕ). get_or t 0 0) e in
    elim (two_fronts front rest text others (ap (drop 1) e)) [
      | inl prefix ↦ inl (prefix.0, ap (λ (t : List ℕ). c ∷ t) prefix.1 ∙ ap (λ (d : ℕ). d ∷ (front ++ prefix.0)) (sym same))
      | inr cut ↦ inr (cut.0, ap (λ (t : List ℕ). b ∷ t) cut.1 ∙ ap (λ (d : ℕ). d ∷ (text ++ cut.0)) same, cut.2)
    ]

-- ---- texts that end with a line feed

abbrev EndsWithFeed : List ℕ → Type 0
EndsWithFeed text = (before : List ℕ) × (text ≡ with_feed before)

first_off : (b : ℕ) (text : List ℕ) → EndsWithFeed (b ∷ text) → ((text ≡ []) × (b ≡ 10)) ⊎ EndsWithFeed text
first_off b text ([], whole) = inl (ap (drop 1) whole, ap (λ (t : List ℕ). get_or t 0 0) whole)
first_off b text (c ∷ before, whole) = inr (before, ap (drop 1) whole)

front_off : (front text : List ℕ) → EndsWithFeed (front ++ text) → (text ≡ []) ⊎ EndsWithFeed text
front_off [] text fed = inr fed
front_off (b ∷ front) text fed =
    elim (first_off b (front ++ text) fed) [
      | inl alone ↦ inl (nil_from_length text (omega (arith, ap length alone.0, length-append front text)))
      | inr later ↦ front_off front text later
    ]

-- a front of a line that ends with a line feed is the whole line
one_feed : (text front others : List ℕ) → HasNoLineFeed text → with_feed text ≡ front ++ others → EndsWithFeed front → front ≡ with_feed text
one_feed text [] others uncut e fed = absurd (omega (arith, ap length fed.1, length-append fed.0 (10 ∷ [])))
one_feed [] (b ∷ front) others uncut e fed =
    let none : front ≡ [] = nil_from_length front (omega (arith, ap length e, length-append front others)) in
    ap (λ (t : List ℕ). b ∷ t) none ∙ ap (λ (d : ℕ). d ∷ []) (sym (ap (λ (t : List ℕ). get_or t 0 0) e))
one_feed (c ∷ text) (b ∷ front) others (other, uncut) e fed =
    let same : c ≡ b = ap (λ (t : List ℕ). get_or t 0 0) e in
    elim (first_off b front fed) [
      | inl alone ↦ absurd (let no : true ≡ false = sym (ap is_line_feed (same ∙ alone.1)) ∙ other in cc)
      | inr later ↦ ap (λ (t : List ℕ). b ∷ t) (one_feed text front others uncut (ap (drop 1) e) later) ∙ ap (λ (d : ℕ). d ∷ with_feed text) (sym same)
    ]

-- ---- replies

module _ (document : Document) (options : Options) (script written : List ℕ) (short : IsCutForMemory document options script written) (none : NoneIsOutOfMemory written) where
  replies_before : IsPrefix (ran document options short.first).replies (ran document options script).replies
  replies_before =
      let more = replies_stand document options short.first short.others short.ends in (more.0, ap (λ (text : List ℕ). (ran document options text).replies) short.split ∙ more.1)

  -- the reply that was cut short was not written whole, since no reply is out of memory
  not_whole : (between rest : List ℕ) → short.beginning ≡ between ++ rest → EndsWithFeed between → ⊥
  not_whole between rest cut fed =
      let number = length (lines_of short.first) + 1 in
      let before = (ran document options short.first).replies in
      let adds = lines_add options.strict (at_first document options.depth) (lines_of short.first) in
      let more = short.begins.0 in
      let sent : refused_reply number short.reason ≡ between ++ (rest ++ more) = short.begins.1 ∙ ap (λ (t : List ℕ). t ++ more) cut ∙ append_assoc between rest more in
      let whole : between ≡ refused_reply number short.reason =
      one_feed (refused_text number short.reason) between (rest ++ more) (refused_uncut number short.reason) sent fed in
      none number short.reason before rest (subst EndsWithALine (sym adds.is) adds.ends) short.out_of_memory (
      short.is ∙ ap (λ (t : List ℕ). before ++ t) (cut ∙ ap (λ (t : List ℕ). t ++ rest) whole) ∙ sym (append_assoc before (refused_reply number short.reason) rest)
      )

  front_before : (front rest : List ℕ) → written ≡ front ++ rest → EndsWithALine front → IsPrefix front (ran document options short.first).replies
  front_before front rest split (inl empty) = ((ran document options short.first).replies, ap (λ (t : List ℕ). t ++ (ran document options short.first).replies) (sym empty))
  front_before front rest split (inr fed) =
      let before = (ran document options short.first).replies in
      elim (two_fronts front rest before short.beginning (sym split ∙ short.is)) [
        | inl prefix ↦ prefix
        | inr cut ↦ elim (front_off before cut.0 (subst EndsWithFeed cut.1 fed)) [
          | inl nothing ↦ ([], sym (append-nil front ∙ cut.1 ∙ ap (λ (t : List ℕ). before ++ t) nothing ∙ append-nil before))
          | inr later ↦ absurd (not_whole cut.0 rest cut.2 later)
        ]
      ]

pub whole_replies_stand : WholeRepliesStand
whole_replies_stand options document course front rest run split ends =
    let script = script_in course.script in
    let replies = (ran document options script).replies in
    elim (replies_are_cut_short options document course run).0 [
      | inl prefix ↦ prefix_on front course.replies.bytes replies (rest, split) prefix
      | inr short ↦ (
          let before = front_before document options script course.replies.bytes short run.none_out_of_memory front rest split ends in
          prefix_on front (ran document options short.first).replies replies before (replies_before document options script course.replies.bytes short run.none_out_of_memory)
          )
    ]
