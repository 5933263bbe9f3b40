-- No reply of a run says that memory was refused.
use Rattle.std.proofs.Common.{◌≡◌, ◌≢◌, ℕ, ◌+◌, Bool, true, false, List, [], ◌∷◌, ◌++◌, Option, Some, None, Result, Ok, Err, codes, decimal, get_or, refl, sym, ap, subst, ◌∙◌, inl, inr, append_assoc, arith}
use Rattle.std.specs.Prelude.{if◌then◌else◌}
use Rattle.std.specs.List.{AllByRecursion, flat_map}
use Rattle.std.proofs.lemmas.Bool.{cases_Bool}
use Rattle.std.proofs.lemmas.List.Elements.{recursion_from_All}
use Rattle.mvt_document.proofs.EachItem.{all_apart}
use Rattle.tile_arguments.specs.Request.{Request}
use Rattle.tile_script.specs.Line.{answer_to}
use Rattle.tile_lines.specs.Lines.{is_line_feed, lines_of, HasNoLineFeed, with_feed, EndsWithALine}
use Rattle.tile_lines.proofs.LineCuts.{none_of_none}
use Rattle.tile_lines.proofs.LineLaws.{lines_only}
use Rattle.tile_listing.specs.Printed.{MayBePrinted, AreLinesToPrint}
use Rattle.tile_listing.proofs.Printing.{uncut-append, decimal_uncut}
use Rattle.tile_course.specs.Answering.{Answer, carried_out}
use Rattle.tile_course.proofs.AnswerLaws.{requests_print_lines, no_request_is_out_of_memory}
use Rattle.tile_course.specs.Replies.{accepted_reply, refused_front, refused_reply, refusal_number, refusal_name, place_text, after_name, IsOutOfMemory, NoneIsOutOfMemory}
use Rattle.tile_course.specs.Run.{Progress, at_first, ran, settled_by, answered_by, after_line, is_over, after_lines}
use Rattle.run_laws.specs.RunLaws.{NoRunIsOutOfMemory}
use Rattle.mvt_meaning.specs.declared.refusal.Refusal.TheVariants as edit
use Rattle.mvt_history_steps.specs.declared.error.HistoryError.TheVariants as history
use Rattle.tile_lines.specs.declared.parse_error.ParseError.{ParseError}
use Rattle.tile_lines.specs.declared.parse_error.ParseError.TheVariants as parse
use Rattle.tile_course.specs.declared.refused.Refused.{Refused}
use Rattle.tile_course.specs.declared.refused.Refused.TheVariants as refused
use Rattle.mvt_meaning.proofs.Others.{Other}
use Rattle.tile_script.proofs.ParseRefusals.{answer_other}
use Rattle.tile_course.proofs.Prefixes.{first_lines}
use Rattle.tile_course.proofs.ReplyEnds.{ends-append, before_name, refused_text, refused_ends, runs_out, runs_out_not, other_is_not_out_of_memory}

-- ---- lines that are not out of memory

unfoldable IsNotOutOfMemory : List ℕ → Type 0
IsNotOutOfMemory text = (line : ℕ) (reason : Refused) → IsOutOfMemory reason → text ≢ refused_text line reason

-- ---- the reply to a refused line is one line

-- some byte of the text is a line feed
abbrev has_feed : List ℕ → Bool
has_feed [] = false
has_feed (b ∷ text) = if is_line_feed b then true else has_feed text

uncut_by_test : (text : List ℕ) → has_feed text ≡ false → HasNoLineFeed text
uncut_by_test [] none = tt
uncut_by_test (b ∷ text) none =
    elim (cases_Bool (is_line_feed b)) [
      | inl feed ↦ absurd (let some = rw feed at none in cc)
      | inr other ↦ (other, uncut_by_test text (rw other at none))
    ]

name_uncut : (reason : Refused) → has_feed (refusal_name reason) ≡ false
name_uncut (refused.Parse parse.BadUtf8) = refl
name_uncut (refused.Parse parse.BadWord) = refl
name_uncut (refused.Parse parse.UnknownCommand) = refl
name_uncut (refused.Parse parse.BadArguments) = refl
name_uncut (refused.Parse parse.BadNumber) = refl
name_uncut (refused.Parse parse.BadValue) = refl
name_uncut (refused.Parse parse.BadGeometryText) = refl
name_uncut (refused.Parse parse.LineTooLong) = refl
name_uncut (refused.Parse parse.NoMemory) = refl
name_uncut (refused.Edit edit.NoLayer) = refl
name_uncut (refused.Edit edit.AmbiguousLayer) = refl
name_uncut (refused.Edit edit.NoFeature) = refl
name_uncut (refused.Edit edit.NoKey) = refl
name_uncut (refused.Edit edit.BadPlace) = refl
name_uncut (refused.Edit edit.AmbiguousFeature) = refl
name_uncut (refused.Edit (edit.BadTags layer feature)) = refl
name_uncut (refused.Edit (edit.RepeatedKey layer feature)) = refl
name_uncut (refused.Edit (edit.BadGeometry layer feature)) = refl
name_uncut (refused.Edit edit.NameTaken) = refl
name_uncut (refused.Edit edit.KeyTaken) = refl
name_uncut (refused.Edit edit.OutOfRange) = refl
name_uncut (refused.Edit edit.TooLarge) = refl
name_uncut (refused.Edit edit.NoMemory) = refl
name_uncut (refused.History history.NothingToUndo) = refl
name_uncut (refused.History history.NothingToRedo) = refl
name_uncut (refused.History history.NoMark) = refl
name_uncut (refused.History history.TooManyMarks) = refl
name_uncut (refused.History (history.Stopped taken)) = refl
name_uncut (refused.History history.GroupOpen) = refl
name_uncut (refused.History history.NoGroup) = refl
name_uncut (refused.History history.NoMemory) = refl

place_uncut : (layer feature : ℕ) → HasNoLineFeed (place_text layer feature)
place_uncut layer feature =
    let prefix = codes " layer " ++ decimal layer in
    let first = uncut-append (codes " layer ") (decimal layer) (uncut_by_test (codes " layer ") refl) (decimal_uncut layer) in
    let second = uncut-append prefix (codes " feature ") first (uncut_by_test (codes " feature ") refl) in
    uncut-append (prefix ++ codes " feature ") (decimal feature) second (decimal_uncut feature)

after_uncut : (reason : Refused) → HasNoLineFeed (after_name reason)
after_uncut (refused.Parse parse.BadUtf8) = tt
after_uncut (refused.Parse parse.BadWord) = tt
after_uncut (refused.Parse parse.UnknownCommand) = tt
after_uncut (refused.Parse parse.BadArguments) = tt
after_uncut (refused.Parse parse.BadNumber) = tt
after_uncut (refused.Parse parse.BadValue) = tt
after_uncut (refused.Parse parse.BadGeometryText) = tt
after_uncut (refused.Parse parse.LineTooLong) = tt
after_uncut (refused.Parse parse.NoMemory) = tt
after_uncut (refused.Edit edit.NoLayer) = tt
after_uncut (refused.Edit edit.AmbiguousLayer) = tt
after_uncut (refused.Edit edit.NoFeature) = tt
after_uncut (refused.Edit edit.NoKey) = tt
after_uncut (refused.Edit edit.BadPlace) = tt
after_uncut (refused.Edit edit.AmbiguousFeature) = tt
after_uncut (refused.Edit (edit.BadTags layer feature)) = place_uncut layer feature
after_uncut (refused.Edit (edit.RepeatedKey layer feature)) = place_uncut layer feature
after_uncut (refused.Edit (edit.BadGeometry layer feature)) = place_uncut layer feature
after_uncut (refused.Edit edit.NameTaken) = tt
after_uncut (refused.Edit edit.KeyTaken) = tt
after_uncut (refused.Edit edit.OutOfRange) = tt
after_uncut (refused.Edit edit.TooLarge) = tt
after_uncut (refused.Edit edit.NoMemory) = tt
after_uncut (refused.History history.NothingToUndo) = tt
after_uncut (refused.History history.NothingToRedo) = tt
after_uncut (refused.History history.NoMark) = tt
after_uncut (refused.History history.TooManyMarks) = tt
after_uncut (refused.History (history.Stopped taken)) = uncut-append (codes " taken ") (decimal taken) (uncut_by_test (codes " taken ") refl) (decimal_uncut taken)
after_uncut (refused.History history.GroupOpen) = tt
after_uncut (refused.History history.NoGroup) = tt
after_uncut (refused.History history.NoMemory) = tt

pub refused_uncut : (line : ℕ) (reason : Refused) → HasNoLineFeed (refused_text line reason)
refused_uncut line reason =
    let number = decimal (refusal_number reason) in
    let first = uncut-append (codes "line ") (decimal line) (uncut_by_test (codes "line ") refl) (decimal_uncut line) in
    let second = uncut-append (codes "line " ++ decimal line) (codes " refused ") first (uncut_by_test (codes " refused ") refl) in
    let third = uncut-append (codes "line " ++ decimal line ++ codes " refused ") number second (decimal_uncut (refusal_number reason)) in
    let fourth = uncut-append (codes "line " ++ decimal line ++ codes " refused " ++ number) (codes " ") third (uncut_by_test (codes " ") refl) in
    let fifth = uncut-append (before_name line reason) (refusal_name reason) fourth (uncut_by_test (refusal_name reason) (name_uncut reason)) in
    uncut-append (refused_front line reason) (after_name reason) fifth (after_uncut reason)

-- ---- texts of whole lines that are not out of memory

record IsClean (replies : List ℕ) : Type 0 where
  ends : EndsWithALine replies
  each : AllByRecursion IsNotOutOfMemory (lines_of replies)

clean_nothing : IsClean []
clean_nothing = record { ends = inl refl; each = subst (AllByRecursion IsNotOutOfMemory) (sym (none_of_none [] refl)) tt }

all_both : (prefix more : List (List ℕ)) → AllByRecursion IsNotOutOfMemory prefix → AllByRecursion IsNotOutOfMemory more → AllByRecursion IsNotOutOfMemory (prefix ++ more)
all_both [] more first second = second
all_both (text ∷ prefix) more (is, first) second = (is, all_both prefix more first second)

clean_both : (prefix more : List ℕ) → IsClean prefix → IsClean more → IsClean (prefix ++ more)
clean_both prefix more first second = record {
  ends = ends-append prefix more first.ends second.ends;
  each = subst (AllByRecursion IsNotOutOfMemory) (sym (first_lines prefix more first.ends)) (all_both (lines_of prefix) (lines_of more) first.each second.each);
}

one_line : (text : List ℕ) → HasNoLineFeed text → lines_of (with_feed text) ≡ text ∷ []
one_line text uncut = lines_only (with_feed text) (text ∷ []) (uncut, inl ([], refl, refl))

clean_line : (text : List ℕ) → HasNoLineFeed text → IsNotOutOfMemory text → IsClean (with_feed text)
clean_line text uncut is = record { ends = inr (text, refl); each = subst (AllByRecursion IsNotOutOfMemory) (sym (one_line text uncut)) (is, tt) }

-- ---- what is printed

printed_is_not_out_of_memory : (text : List ℕ) → MayBePrinted text → IsNotOutOfMemory text
unfolding IsNotOutOfMemory
printed_is_not_out_of_memory text may line reason out_of_memory e =
    may.other (decimal line ++ codes " refused " ++ decimal (refusal_number reason) ++ codes " " ++ refusal_name reason ++ after_name reason) e

clean_each : (lines : List (List ℕ)) → AllByRecursion MayBePrinted lines → IsClean (flat_map with_feed lines)
clean_each [] all = clean_nothing
clean_each (line ∷ lines) (may, all) =
    clean_both (with_feed line) (flat_map with_feed lines) (clean_line line may.uncut (printed_is_not_out_of_memory line may)) (clean_each lines all)

clean_printed : (bytes : List ℕ) → AreLinesToPrint bytes → IsClean bytes
clean_printed bytes printed = subst IsClean (sym printed.spelled) (clean_each printed.lines (recursion_from_All MayBePrinted printed.lines printed.each))

-- ---- replies

ok_is_not_out_of_memory : IsNotOutOfMemory (codes "ok")
unfolding IsNotOutOfMemory
ok_is_not_out_of_memory line reason out_of_memory e = let apart : ◌≡◌ {A = ℕ} 111 108 = ap (λ (text : List ℕ). get_or text 0 0) e in omega arith

accepted_clean : (lines : List ℕ) → AreLinesToPrint lines → IsClean (accepted_reply lines)
accepted_clean lines printed = clean_both lines (codes "ok\n") (clean_printed lines printed) (clean_line (codes "ok") (uncut_by_test (codes "ok") refl) ok_is_not_out_of_memory)

refused_clean : (line : ℕ) (reason : Refused) → ¬ (IsOutOfMemory reason) → IsClean (refused_reply line reason)
unfolding IsNotOutOfMemory
refused_clean line reason other =
    clean_line (refused_text line reason) (refused_uncut line reason) (λ other_line short_of_memory out_of_memory. other_is_not_out_of_memory line other_line reason short_of_memory other out_of_memory)

-- ---- lines

settled_clean : (p : Progress) (result : Result Answer Refused) → ((answer : Answer) → result ≡ Ok answer → AreLinesToPrint answer.lines) → ((reason : Refused) → result ≡ Err reason → ¬ (IsOutOfMemory reason))
    → IsClean p.replies → IsClean (settled_by p result).replies
settled_clean p (Ok answer) prints other clean = clean_both p.replies (accepted_reply answer.lines) clean (accepted_clean answer.lines (prints answer refl))
settled_clean p (Err reason) prints other clean = clean_both p.replies (refused_reply (p.lines + 1) reason) clean (refused_clean (p.lines + 1) reason (other reason refl))

parse_is_other : (error : ParseError) → error ≢ parse.NoMemory → runs_out (refusal_number (refused.Parse error)) ≡ false
parse_is_other parse.BadUtf8 other = refl
parse_is_other parse.BadWord other = refl
parse_is_other parse.UnknownCommand other = refl
parse_is_other parse.BadArguments other = refl
parse_is_other parse.BadNumber other = refl
parse_is_other parse.BadValue other = refl
parse_is_other parse.BadGeometryText other = refl
parse_is_other parse.LineTooLong other = refl
parse_is_other parse.NoMemory other = absurd (other refl)

answered_clean : (p : Progress) (answer : Result (Option Request) ParseError) → Other parse.NoMemory answer → IsClean p.replies → IsClean (answered_by p answer).replies
answered_clean p (Ok None) other clean = clean
answered_clean p (Ok (Some request)) other clean =
    settled_clean p (carried_out request p.history) (requests_print_lines request p.history) (no_request_is_out_of_memory request p.history) clean
answered_clean p (Err error) other clean =
    clean_both p.replies (refused_reply (p.lines + 1) (refused.Parse error)) clean (refused_clean (p.lines + 1) (refused.Parse error) (runs_out_not (refused.Parse error) (parse_is_other error other)))

lines_clean : (strict : Bool) (p : Progress) (lines : List (List ℕ)) → IsClean p.replies → IsClean (after_lines strict p lines).replies
lines_clean strict p [] clean = clean
lines_clean strict p (first ∷ lines) clean =
    elim (cases_Bool (is_over strict p)) [
      | inl over ↦ rw over clean
      | inr on ↦ rw on (lines_clean strict (after_line p first) lines (answered_clean p (answer_to first) (answer_other first) clean))
    ]

-- ---- the reply that says so would be one of the lines

head_is : (text : List ℕ) (more : List (List ℕ)) → AllByRecursion IsNotOutOfMemory (text ∷ more) → IsNotOutOfMemory text
head_is text more all = all.0

clean_none_out_of_memory : (replies : List ℕ) → IsClean replies → NoneIsOutOfMemory replies
unfolding IsNotOutOfMemory
clean_none_out_of_memory replies clean line reason prefix rest ends out_of_memory e =
    let reply = refused_reply line reason in
    let text = refused_text line reason in
    let following : lines_of (reply ++ rest) ≡ text ∷ lines_of rest =
    first_lines reply rest (refused_ends line reason) ∙ ap (λ (ls : List (List ℕ)). ls ++ lines_of rest) (one_line text (refused_uncut line reason)) in
    let whole : lines_of replies ≡ lines_of prefix ++ lines_of (reply ++ rest) = ap lines_of (e ∙ append_assoc prefix reply rest) ∙ first_lines prefix (reply ++ rest) ends in
    let all : AllByRecursion IsNotOutOfMemory (lines_of prefix ++ lines_of (reply ++ rest)) = subst (AllByRecursion IsNotOutOfMemory) whole clean.each in
    let there : AllByRecursion IsNotOutOfMemory (text ∷ lines_of rest) = subst (AllByRecursion IsNotOutOfMemory) following (all_apart IsNotOutOfMemory (lines_of prefix) (lines_of (reply ++ rest)) all).1 in
    head_is text (lines_of rest) there line reason out_of_memory refl

pub no_run_is_out_of_memory : NoRunIsOutOfMemory
no_run_is_out_of_memory document options script = clean_none_out_of_memory (ran document options script).replies (lines_clean options.strict (at_first document options.depth) (lines_of script) clean_nothing)
