-- How replies end, and which are different.
use Rattle.std.proofs.Common.{◌≡◌, ◌≢◌, ℕ, zero, suc, ◌/◌, ◌%◌, ◌==◌, Bool, true, false, ◌&&◌, ◌||◌, List, [], ◌∷◌, ◌++◌, codes, decimal, refl, sym, ap, ◌∙◌, inl, inr, append_assoc, append-nil, arith}
use Rattle.std.specs.Prelude.{nat_lt, if◌then◌else◌}
use Rattle.std.specs.Char.{is_ascii_digit}
use Rattle.std.specs.Fmt.{digits, digits_onto, digit_glyph}
use Rattle.std.proofs.lemmas.Bool.{cases_Bool}
use Rattle.std.proofs.lemmas.Bool.Decides.{nat_tests}
use Rattle.std.proofs.lemmas.List.{append_cancel_right}
use Rattle.tile_lines.specs.Lines.{with_feed, EndsWithALine}
use Rattle.tile_course.specs.Replies.{accepted_reply, refused_front, refused_reply, refusal_number, refusal_name, after_name, IsOutOfMemory}
use Rattle.mvt_meaning.specs.declared.refusal.Refusal.TheVariants as edit
use Rattle.mvt_history_steps.specs.declared.error.HistoryError.TheVariants as history
use Rattle.tile_lines.specs.declared.parse_error.ParseError.TheVariants as parse
use Rattle.tile_course.specs.declared.refused.Refused.{Refused}
use Rattle.tile_course.specs.declared.refused.Refused.TheVariants as refused

-- ---- texts of whole lines

pub ends-append : (prefix more : List ℕ) → EndsWithALine prefix → EndsWithALine more → EndsWithALine (prefix ++ more)
ends-append prefix more (inl none) ends = none_before prefix more none ends
  where
    none_before : (prefix more : List ℕ) → prefix ≡ [] → EndsWithALine more → EndsWithALine (prefix ++ more)
    none_before prefix more none (inl nothing) = inl (ap (λ (text : List ℕ). text ++ more) none ∙ nothing)
    none_before prefix more none (inr (text, whole)) = inr (text, ap (λ (t : List ℕ). t ++ more) none ∙ whole)
ends-append prefix more (inr before) (inl nothing) = inr (before.0, ap (λ (text : List ℕ). prefix ++ text) nothing ∙ append-nil prefix ∙ before.1)
ends-append prefix more (inr before) (inr (text, whole)) = inr (prefix ++ text, ap (λ (t : List ℕ). prefix ++ t) whole ∙ sym (append_assoc prefix text (10 ∷ [])))

-- ---- replies

-- the reply to a refused line up to the name of the refusal
abbrev pub before_name : ℕ → Refused → List ℕ
before_name line reason = codes "line " ++ decimal line ++ codes " refused " ++ decimal (refusal_number reason) ++ codes " "

-- the reply without its line feed
abbrev pub refused_text : ℕ → Refused → List ℕ
refused_text line reason = refused_front line reason ++ after_name reason

pub refused_ends : (line : ℕ) (reason : Refused) → EndsWithALine (refused_reply line reason)
refused_ends line reason = inr (refused_text line reason, refl)

-- what comes before the line feed at the end of the reply to an accepted line
pub accepted_text : (lines : List ℕ) → accepted_reply lines ≡ with_feed (lines ++ codes "ok")
accepted_text lines = sym (append_assoc lines (codes "ok") (10 ∷ []))

pub accepted_ends : (lines : List ℕ) → EndsWithALine (accepted_reply lines)
accepted_ends lines = inr (lines ++ codes "ok", accepted_text lines)

-- ---- the last bytes of replies

-- the last two bytes of a text that are not digits, where these are those before it
abbrev last_two : ℕ × ℕ → List ℕ → ℕ × ℕ
last_two ends [] = ends
last_two ends (b ∷ text) = last_two (if is_ascii_digit b then ends else (ends.1, b)) text

last_two-append : (ends : ℕ × ℕ) (text more : List ℕ) → last_two ends (text ++ more) ≡ last_two (last_two ends text) more
last_two-append ends [] more = refl
last_two-append ends (b ∷ text) more = last_two-append (if is_ascii_digit b then ends else (ends.1, b)) text more

-- a number does not change them
glyph_is_digit : (n : ℕ) → is_ascii_digit (digit_glyph false (n % 10)) ≡ true
glyph_is_digit n =
    let low : nat_lt (n % 10) 10 ≡ true = grind (arith, nat_tests) in
    rw low (grind (arith, nat_tests))

last_two-digit : (ends : ℕ × ℕ) (b : ℕ) (text : List ℕ) → is_ascii_digit b ≡ true → last_two ends (b ∷ text) ≡ last_two ends text
last_two-digit ends b text digit = rw digit refl

one_of : (q : Bool) (ends : ℕ × ℕ) (xs ys : List ℕ) → last_two ends xs ≡ ends → last_two ends ys ≡ ends → last_two ends (if q then xs else ys) ≡ ends
one_of true ends xs ys first second = first
one_of false ends xs ys first second = second

last_two-digits : (ends : ℕ × ℕ) (k n : ℕ) (following : List ℕ) → last_two ends following ≡ ends → last_two ends (digits_onto k 10 false n following) ≡ ends
last_two-digits ends zero n following same = same
last_two-digits ends (suc k) n following same =
    let more : last_two ends (digit_glyph false (n % 10) ∷ following) ≡ ends = last_two-digit ends (digit_glyph false (n % 10)) following (glyph_is_digit n) ∙ same in
    one_of (n / 10 == 0) ends _ _ more (last_two-digits ends k (n / 10) (digit_glyph false (n % 10) ∷ following) more)

last_two-decimal : (ends : ℕ × ℕ) (n : ℕ) → last_two ends (decimal n) ≡ ends
unfolding digits
last_two-decimal ends n = last_two-digits ends 64 n [] refl

-- those of the reply to a refused line
abbrev ends_of : ℕ × ℕ → Refused → ℕ × ℕ
ends_of ends reason = last_two (last_two ends (refusal_name reason)) (after_name reason)

refused_last : (line : ℕ) (reason : Refused) → last_two (0, 0) (refused_text line reason) ≡ ends_of (last_two (0, 0) (before_name line reason)) reason
refused_last line reason =
    last_two-append (0, 0) (refused_front line reason) (after_name reason)
    ∙ ap (λ (ends : ℕ × ℕ). last_two ends (after_name reason)) (last_two-append (0, 0) (before_name line reason) (refusal_name reason))

-- the number is one of out of memory
abbrev pub runs_out : ℕ → Bool
runs_out number = (number == 60) || (number == 54)

-- the text ends with the y of `NoMemory`, or with a number after `taken`
abbrev ends_out_of_memory : ℕ × ℕ → Bool
ends_out_of_memory ends = ((ends.0 == 114) && (ends.1 == 121)) || ((ends.0 == 110) && (ends.1 == 32))

-- the text ends with `ok`
abbrev ends_with_ok : ℕ × ℕ → Bool
ends_with_ok ends = (ends.0 == 111) && (ends.1 == 107)

-- those after the name of a refusal of tags, of a repeated key or of a geometry
place_last : (ends : ℕ × ℕ) (layer feature : ℕ) → last_two ends (codes " layer " ++ decimal layer ++ codes " feature " ++ decimal feature) ≡ (101, 32)
place_last ends layer feature =
    let prefix = codes " layer " ++ decimal layer in
    last_two-append ends (prefix ++ codes " feature ") (decimal feature)
    ∙ ap (λ (ends : ℕ × ℕ). last_two ends (decimal feature)) (last_two-append ends prefix (codes " feature "))
    ∙ last_two-decimal (101, 32) feature

-- the reply to a refusal with the number of out of memory is the same for each; and the text shows whether memory was
-- refused
record ShowsMemory (ends : ℕ × ℕ) (reason : Refused) : Type 0 where
  alike : refusal_number reason ≡ 60 → (line : ℕ) → refused_reply line reason ≡ refused_reply line (refused.Parse parse.NoMemory)
  out_of_memory : ends_out_of_memory (ends_of ends reason) ≡ runs_out (refusal_number reason)
  not_ok : ends_with_ok (ends_of ends reason) ≡ false

shows_memory : (ends : ℕ × ℕ) (reason : Refused) → ShowsMemory ends reason
shows_memory ends (refused.Parse parse.BadUtf8) = record { alike = λ e line. absurd (omega arith); out_of_memory = refl; not_ok = refl }
shows_memory ends (refused.Parse parse.BadWord) = record { alike = λ e line. absurd (omega arith); out_of_memory = refl; not_ok = refl }
shows_memory ends (refused.Parse parse.UnknownCommand) = record { alike = λ e line. absurd (omega arith); out_of_memory = refl; not_ok = refl }
shows_memory ends (refused.Parse parse.BadArguments) = record { alike = λ e line. absurd (omega arith); out_of_memory = refl; not_ok = refl }
shows_memory ends (refused.Parse parse.BadNumber) = record { alike = λ e line. absurd (omega arith); out_of_memory = refl; not_ok = refl }
shows_memory ends (refused.Parse parse.BadValue) = record { alike = λ e line. absurd (omega arith); out_of_memory = refl; not_ok = refl }
shows_memory ends (refused.Parse parse.BadGeometryText) = record { alike = λ e line. absurd (omega arith); out_of_memory = refl; not_ok = refl }
shows_memory ends (refused.Parse parse.LineTooLong) = record { alike = λ e line. absurd (omega arith); out_of_memory = refl; not_ok = refl }
shows_memory ends (refused.Parse parse.NoMemory) = record { alike = λ e line. refl; out_of_memory = refl; not_ok = refl }
shows_memory ends (refused.Edit edit.NoLayer) = record { alike = λ e line. absurd (omega arith); out_of_memory = refl; not_ok = refl }
shows_memory ends (refused.Edit edit.AmbiguousLayer) = record { alike = λ e line. absurd (omega arith); out_of_memory = refl; not_ok = refl }
shows_memory ends (refused.Edit edit.NoFeature) = record { alike = λ e line. absurd (omega arith); out_of_memory = refl; not_ok = refl }
shows_memory ends (refused.Edit edit.NoKey) = record { alike = λ e line. absurd (omega arith); out_of_memory = refl; not_ok = refl }
shows_memory ends (refused.Edit edit.BadPlace) = record { alike = λ e line. absurd (omega arith); out_of_memory = refl; not_ok = refl }
shows_memory ends (refused.Edit edit.AmbiguousFeature) = record { alike = λ e line. absurd (omega arith); out_of_memory = refl; not_ok = refl }
shows_memory ends (refused.Edit (edit.BadTags layer feature)) =
    let same = place_last (last_two ends (codes "BadTags")) layer feature in
    record { alike = λ e line. absurd (omega arith); out_of_memory = ap ends_out_of_memory same; not_ok = ap ends_with_ok same }
shows_memory ends (refused.Edit (edit.RepeatedKey layer feature)) =
    let same = place_last (last_two ends (codes "RepeatedKey")) layer feature in
    record { alike = λ e line. absurd (omega arith); out_of_memory = ap ends_out_of_memory same; not_ok = ap ends_with_ok same }
shows_memory ends (refused.Edit (edit.BadGeometry layer feature)) =
    let same = place_last (last_two ends (codes "BadGeometry")) layer feature in
    record { alike = λ e line. absurd (omega arith); out_of_memory = ap ends_out_of_memory same; not_ok = ap ends_with_ok same }
shows_memory ends (refused.Edit edit.NameTaken) = record { alike = λ e line. absurd (omega arith); out_of_memory = refl; not_ok = refl }
shows_memory ends (refused.Edit edit.KeyTaken) = record { alike = λ e line. absurd (omega arith); out_of_memory = refl; not_ok = refl }
shows_memory ends (refused.Edit edit.OutOfRange) = record { alike = λ e line. absurd (omega arith); out_of_memory = refl; not_ok = refl }
shows_memory ends (refused.Edit edit.TooLarge) = record { alike = λ e line. absurd (omega arith); out_of_memory = refl; not_ok = refl }
shows_memory ends (refused.Edit edit.NoMemory) = record { alike = λ e line. refl; out_of_memory = refl; not_ok = refl }
shows_memory ends (refused.History history.NothingToUndo) = record { alike = λ e line. absurd (omega arith); out_of_memory = refl; not_ok = refl }
shows_memory ends (refused.History history.NothingToRedo) = record { alike = λ e line. absurd (omega arith); out_of_memory = refl; not_ok = refl }
shows_memory ends (refused.History history.NoMark) = record { alike = λ e line. absurd (omega arith); out_of_memory = refl; not_ok = refl }
shows_memory ends (refused.History history.TooManyMarks) = record { alike = λ e line. absurd (omega arith); out_of_memory = refl; not_ok = refl }
shows_memory ends (refused.History (history.Stopped taken)) =
    let same = last_two-decimal (110, 32) taken in
    record { alike = λ e line. absurd (omega arith); out_of_memory = ap ends_out_of_memory same; not_ok = ap ends_with_ok same }
shows_memory ends (refused.History history.GroupOpen) = record { alike = λ e line. absurd (omega arith); out_of_memory = refl; not_ok = refl }
shows_memory ends (refused.History history.NoGroup) = record { alike = λ e line. absurd (omega arith); out_of_memory = refl; not_ok = refl }
shows_memory ends (refused.History history.NoMemory) = record { alike = λ e line. refl; out_of_memory = refl; not_ok = refl }

pub out_of_memory_reply : (line : ℕ) (reason : Refused) → refusal_number reason ≡ 60 → refused_reply line reason ≡ refused_reply line (refused.Parse parse.NoMemory)
out_of_memory_reply line reason e = (shows_memory (0, 0) reason).alike e line

-- the reply to an accepted line is not that to a refused one
pub accepted_is_not_refused : (lines : List ℕ) (line : ℕ) (reason : Refused) → accepted_reply lines ≢ refused_reply line reason
accepted_is_not_refused lines line reason e =
    let same : lines ++ codes "ok" ≡ refused_text line reason = append_cancel_right (lines ++ codes "ok") (refused_text line reason) (10 ∷ []) (sym (accepted_text lines) ∙ e) in
    let ends : last_two (last_two (0, 0) lines) (codes "ok") ≡ ends_of (last_two (0, 0) (before_name line reason)) reason =
    sym (last_two-append (0, 0) lines (codes "ok")) ∙ ap (last_two (0, 0)) same ∙ refused_last line reason in
    let no : true ≡ false = ap ends_with_ok ends ∙ (shows_memory (last_two (0, 0) (before_name line reason)) reason).not_ok in
    absurd cc

-- ---- out of memory

runs_out_is : (reason : Refused) → IsOutOfMemory reason → runs_out (refusal_number reason) ≡ true
runs_out_is reason (inl e) = ap runs_out e
runs_out_is reason (inr e) = ap runs_out e

pub runs_out_not : (reason : Refused) → runs_out (refusal_number reason) ≡ false → ¬ (IsOutOfMemory reason)
runs_out_not reason other out_of_memory = let no : true ≡ false = sym (runs_out_is reason out_of_memory) ∙ other in absurd cc

runs_out_other : (reason : Refused) → ¬ (IsOutOfMemory reason) → runs_out (refusal_number reason) ≡ false
runs_out_other reason other =
    elim (cases_Bool (runs_out (refusal_number reason))) [
      | inl short_of_memory ↦ absurd (other (is_out_of_memory reason short_of_memory))
      | inr not ↦ not
    ]
  where
    is_out_of_memory : (reason : Refused) → runs_out (refusal_number reason) ≡ true → IsOutOfMemory reason
    is_out_of_memory reason short_of_memory =
        elim (cases_Bool (refusal_number reason == 60)) [
          | inl whole ↦ inl (grind (arith, nat_tests))
          | inr other ↦ inr (grind (arith, nat_tests))
        ]

-- the text of a refusal that is not out of memory is not that of one that is
pub other_is_not_out_of_memory : (line other_line : ℕ) (reason short_of_memory : Refused) → ¬ (IsOutOfMemory reason) → IsOutOfMemory short_of_memory → refused_text line reason ≢ refused_text other_line short_of_memory
other_is_not_out_of_memory line other_line reason short_of_memory other out_of_memory e =
    let first = shows_memory (last_two (0, 0) (before_name line reason)) reason in
    let second = shows_memory (last_two (0, 0) (before_name other_line short_of_memory)) short_of_memory in
    let same : runs_out (refusal_number reason) ≡ runs_out (refusal_number short_of_memory) =
    sym first.out_of_memory ∙ ap ends_out_of_memory (sym (refused_last line reason) ∙ ap (last_two (0, 0)) e ∙ refused_last other_line short_of_memory) ∙ second.out_of_memory in
    let no : false ≡ true = sym (runs_out_other reason other) ∙ same ∙ runs_out_is short_of_memory out_of_memory in
    absurd cc
