-- A script's first line and the others.
use Rattle.std.proofs.Common.{◌≡◌, ℕ, ◌<◌, Bool, true, false, cond, List, [], ◌∷◌, length, refl, arith}
use Rattle.std.specs.List.{slice_split, onto_first}
use Rattle.tile_lines.specs.Lines.{is_line_feed, without_empty_end, lines_of}

-- the first part stays where another follows
stays : (b : Bool) (line : List ℕ) (c : ℕ) (parts : List (List ℕ)) → without_empty_end (line ∷ cond b ([] ∷ parts) (onto_first c parts)) ≡ line ∷ without_empty_end (cond b ([] ∷ parts) (onto_first c parts))
stays true line c parts = refl
stays false line c [] = refl
stays false line c (part ∷ parts) = refl

pub first_stays : (line rest : List ℕ) → without_empty_end (line ∷ slice_split is_line_feed rest) ≡ line ∷ without_empty_end (slice_split is_line_feed rest)
first_stays line [] = refl
first_stays line (b ∷ rest) = stays (is_line_feed b) line b (slice_split is_line_feed rest)

pub one_line : (script : List ℕ) → 0 < length script → without_empty_end (script ∷ []) ≡ script ∷ []
one_line [] lt = absurd (omega arith)
one_line (b ∷ script) lt = refl

pub none_of_none : (script : List ℕ) → length script ≡ 0 → lines_of script ≡ []
unfolding lines_of
none_of_none [] e = refl
none_of_none (b ∷ script) e = absurd (omega arith)
