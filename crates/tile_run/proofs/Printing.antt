-- The lines of marks.
use Rattle.std.proofs.Common.{◌≡◌, ℕ, ◌+◌, ◌<◌, ◌≤◌, ℤ, pos, neg_ℤ, ◌+ℤ◌, List, [], ◌∷◌, ◌++◌, map, length, take, Option, Some, None, refl, sym, ap, ◌∙◌, append-nil}
use Rattle.std.specs.Prelude.{◌-ℤ◌, slice_get}
use Rattle.std.specs.List.{flat_map}
use Rattle.std.proofs.Math.IntN.{neg_ℤ-+ℤ, +ℤ_assoc, +ℤ_idl, +ℤ_invr}
use Rattle.std.proofs.Math.Nat.{add_comm}
use Rattle.std.proofs.lemmas.List.{take_all, take_more}
use Rattle.std.proofs.lemmas.Grind.{flat_map-append}
use Rattle.std.proofs.lemmas.Option.{slice_get_within, get_or_from_slice_get, slice_get-get_or}
use Rattle.std.specs.Borrow.{Bor}
use Rattle.mvt_history_steps.specs.Marks.{Mark, counted_from}
use Rattle.mvt_history_steps.specs.History.{History}
use Rattle.mvt_history_steps.specs.Standing.{Standing}
use Rattle.mvt_history_steps.specs.Session.{StandsFor, SeesMark}
use Rattle.tile_course.specs.Answering.{offset_line, mark_line, mark_lines}

-- a point and the present one, both counted from the same floor
pub same_offset : (floor point present : ℕ) → pos (floor + point) -ℤ pos (floor + present) ≡ pos point -ℤ pos present
same_offset floor point present =
    ap (λ (n : ℕ). pos n -ℤ pos (floor + present)) (add_comm floor point)
    ∙ ap (λ (z : ℤ). pos point +ℤ pos floor +ℤ z) (neg_ℤ-+ℤ (pos floor) (pos present))
    ∙ +ℤ_assoc (pos point) (pos floor) (neg_ℤ (pos floor) +ℤ neg_ℤ (pos present))
    ∙ ap (λ (z : ℤ). pos point +ℤ z)
    (sym (+ℤ_assoc (pos floor) (neg_ℤ (pos floor)) (neg_ℤ (pos present)))
    ∙ ap (λ (z : ℤ). z +ℤ neg_ℤ (pos present)) (+ℤ_invr (pos floor))
    ∙ +ℤ_idl (neg_ℤ (pos present)))

same_lines : (floor present : ℕ) (marks : List Mark) → flat_map (mark_line (floor + present)) (map (counted_from floor) marks) ≡ flat_map (mark_line present) marks
same_lines floor present [] = refl
same_lines floor present (mark ∷ marks) = rw (same_offset floor mark.point present, same_lines floor present marks) refl

-- the lines are those of the marks counted from the floor
pub lines_of_marks : (session : Standing) (history : History) → StandsFor session history → mark_lines history ≡ flat_map (mark_line (length session.undo)) session.marks
lines_of_marks session history stands =
    ap (λ (present : ℕ). flat_map (mark_line present) history.marks) (sym stands.undo_reaches)
    ∙ ap (flat_map (mark_line (history.floor + length session.undo))) stands.marks
    ∙ same_lines history.floor (length session.undo) session.marks

-- ---- one mark after the other

-- the line of the mark there is added
line_added : (present : ℕ) (marks : List Mark) (index : ℕ) (lines new name : List ℕ) (offset : ℤ) (mark : Mark) → slice_get marks index ≡ Some mark → name ≡ mark.name → offset ≡ pos mark.point -ℤ pos present
    → lines ≡ flat_map (mark_line present) (take index marks) → new ≡ lines ++ offset_line name offset → new ≡ flat_map (mark_line present) (take (index + 1) marks)
line_added present marks index lines new name offset mark there named away so_far adds =
    let more : take (index + 1) marks ≡ take index marks ++ mark ∷ [] = take_more marks index mark (slice_get_within marks index mark there) ∙ ap (λ (m : Mark). take index marks ++ m ∷ []) (get_or_from_slice_get marks index mark mark there) in
    adds
    ∙ ap (λ (text : List ℕ). text ++ offset_line name offset) so_far
    ∙ ap (λ (text : List ℕ). flat_map (mark_line present) (take index marks) ++ text) (ap (λ (text : List ℕ). offset_line text offset) named ∙ ap (offset_line mark.name) away ∙ sym (append-nil (mark_line present mark)))
    ∙ sym (flat_map-append (mark_line present) (take index marks) (mark ∷ []))
    ∙ ap (flat_map (mark_line present)) (sym more)

-- the mark that is printed is there
pub mark_there : (present : ℕ) (marks : List Mark) (index : ℕ) (lines new : List ℕ) (printed : Bor (List ℕ) × ℤ) (found : Option Mark) → slice_get marks index ≡ found → SeesMark present (Some printed) found
    → lines ≡ flat_map (mark_line present) (take index marks) → new ≡ lines ++ offset_line printed.0.now printed.1 → new ≡ flat_map (mark_line present) (take (index + 1) marks)
mark_there present marks index lines new printed None there sees so_far adds = absurd sees
mark_there present marks index lines new printed (Some mark) there sees so_far adds = line_added present marks index lines new printed.0.now printed.1 mark there sees.0 sees.1 so_far adds

-- after the last mark none is printed
pub none_after : (present : ℕ) (marks : List Mark) (index : ℕ) (found : Option Mark) → slice_get marks index ≡ found → SeesMark present None found → index < length marks → ⊥
none_after present marks index None there sees within = let some = slice_get-get_or marks index (record { name = []; point = 0 }) within in absurd cc
none_after present marks index (Some mark) there sees within = sees

pub all_printed : (present : ℕ) (marks : List Mark) (index : ℕ) → length marks ≤ index → flat_map (mark_line present) (take index marks) ≡ flat_map (mark_line present) marks
all_printed present marks index all = ap (flat_map (mark_line present)) (take_all index marks all)
