-- Marks of no lower point than one, which are counted from it in place.
use Rattle.std.proofs.Common.{◌≡◌, ℕ, zero, suc, ◌+◌, ◌-◌, ◌<◌, ◌≤◌, Bool, true, ◌&&◌, nat_le, List, [], ◌∷◌, ◌++◌, length, filter, map, take, drop, get_or, All, refl, sym, ap, ap₂, ◌∙◌, arith, get_or-drop, length-take-le, append-nil}
use Rattle.std.proofs.lemmas.Bool.Decides.{nat_tests}
use Rattle.std.proofs.lemmas.List.{length-map, get_or-append-add, take_all, drop_all}
use Rattle.std.proofs.lemmas.List.Elements.{filter_passes}
use Rattle.mvt_history_steps.specs.Marks.{between, counted_from}
use Rattle.mvt_history_steps.specs.declared.marks.Mark as held
use Rattle.mvt_history_steps.specs.Held.{mark_of}
use Rattle.mvt_history_steps.proofs.Counting.{filter_mapped}

abbrev pub is_within : ℕ → ℕ → held.Mark → Bool
is_within low high mark = nat_le low mark.point && nat_le mark.point high

abbrev pub lowered : ℕ → held.Mark → held.Mark
lowered low mark = record { name = mark.name; point = mark.point - low }

-- those before the place are lowered
abbrev pub lowered_below : ℕ → ℕ → List held.Mark → List held.Mark
lowered_below low place marks = map (lowered low) (take place marks) ++ drop place marks

no_lower : (low high point : ℕ) → (nat_le low point && nat_le point high) ≡ true → low ≤ point
no_lower low high point e = grind (arith, nat_tests, e)

pub kept_no_lower : (low high : ℕ) (marks : List held.Mark) → All (λ mark. low ≤ mark.point) (filter (is_within low high) marks)
kept_no_lower low high marks k other within = no_lower low high (get_or (filter (is_within low high) marks) k other).point (filter_passes (is_within low high) marks k other within)

-- the mark at the place is still as it was
pub not_yet_lowered : (low place : ℕ) (marks : List held.Mark) (other : held.Mark) → place < length marks → get_or (lowered_below low place marks) place other ≡ get_or marks place other
not_yet_lowered low place marks other within =
    let front = map (lowered low) (take place marks) in
    let long : length front ≡ place = length-map (take place marks) (lowered low) ∙ length-take-le place marks (omega arith) in
    let here : place ≡ length front + 0 = omega arith in
    let there : place + 0 ≡ place = omega arith in
    ap (λ k. get_or (lowered_below low place marks) k other) here ∙ get_or-append-add front (drop place marks) 0 other ∙ get_or-drop place marks 0 other ∙ ap (λ k. get_or marks k other) there

pub all_lowered : (low place : ℕ) (marks : List held.Mark) → length marks ≤ place → lowered_below low place marks ≡ map (lowered low) marks
all_lowered low place marks past = ap₂ (λ front back. map (lowered low) front ++ back) (take_all place marks past) (drop_all place marks past) ∙ append-nil (map (lowered low) marks)

pub counted_lowered : (low : ℕ) (marks : List held.Mark) → All (λ mark. low ≤ mark.point) marks → map (counted_from low) (map mark_of (map (lowered low) marks)) ≡ map mark_of marks
counted_lowered low [] all = refl
counted_lowered low (mark ∷ marks) all =
    let above : low ≤ mark.point = all zero mark (omega arith) in
    let point : low + (mark.point - low) ≡ mark.point = omega arith in
    ap₂ (λ n others. record { name = mark.name.items; point = n } ∷ others) point (counted_lowered low marks (λ k other within. all (suc k) other (omega arith)))

pub counted_kept : (low high : ℕ) (marks : List held.Mark) → map (counted_from low) (map mark_of (map (lowered low) (filter (is_within low high) marks))) ≡ between low high (map mark_of marks)
counted_kept low high marks =
    counted_lowered low (filter (is_within low high) marks) (kept_no_lower low high marks) ∙ sym (filter_mapped mark_of (λ mark. nat_le low mark.point && nat_le mark.point high) marks)
