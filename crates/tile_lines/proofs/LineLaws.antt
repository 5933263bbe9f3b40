-- A script and its lines.
use Rattle.std.proofs.Common.{◌≡◌, inl, inr, ℕ, Bool, true, false, cond, List, [], ◌∷◌, refl, sym, ap, subst, ◌∙◌, arith}
use Rattle.std.specs.List.{slice_split, onto_first, All}
use Rattle.std.proofs.lemmas.Bool.{eqb-true}
use Rattle.std.proofs.lemmas.List.Elements.{All-from_recursion}
use Rattle.std.proofs.lemmas.List.Splits.{slice_split_at, slice_split_none}
use Rattle.tile_lines.specs.Lines.{is_line_feed, without_empty_end, lines_of, HasNoLineFeed, SpellsLines}
use Rattle.tile_lines.proofs.LineCuts.{first_stays, one_line}

-- a byte in front of the first line
longer : (b : ℕ) (script line : List ℕ) (lines : List (List ℕ)) → is_line_feed b ≡ false → SpellsLines script (line ∷ lines) → SpellsLines (b ∷ script) ((b ∷ line) ∷ lines)
longer b script line lines other (uncut, inl (rest, whole, others)) = ((other, uncut), inl (rest, ap (λ (xs : List ℕ). b ∷ xs) whole, others))
longer b script line lines other (uncut, inr (whole, some, last)) = ((other, uncut), inr (ap (λ (xs : List ℕ). b ∷ xs) whole, omega arith, last))

alone : (b : ℕ) (script : List ℕ) → is_line_feed b ≡ false → script ≡ [] → SpellsLines (b ∷ script) ((b ∷ []) ∷ [])
alone b script other empty = ((other, tt), inr (ap (λ (xs : List ℕ). b ∷ xs) empty, omega arith, refl))

grows : (b : ℕ) (script : List ℕ) (parts : List (List ℕ)) → is_line_feed b ≡ false → SpellsLines script (without_empty_end parts) → SpellsLines (b ∷ script) (without_empty_end (onto_first b parts))
grows b script [] other s = alone b script other s
grows b script ([] ∷ []) other s = alone b script other s
grows b script ((c ∷ part) ∷ []) other s = longer b script (c ∷ part) [] other s
grows b script (part ∷ next ∷ parts) other s = longer b script part (without_empty_end (next ∷ parts)) other s

ten : (b : ℕ) → is_line_feed b ≡ true → b ≡ 10
ten b e = eqb-true b 10 e

parts_found : (script : List ℕ) → SpellsLines script (without_empty_end (slice_split is_line_feed script))
parts_found [] = refl
parts_found (b ∷ script) = tested (is_line_feed b) refl (parts_found script)
  where
    tested : (q : Bool) → is_line_feed b ≡ q → SpellsLines script (without_empty_end (slice_split is_line_feed script)) → SpellsLines (b ∷ script) (without_empty_end (cond q ([] ∷ slice_split is_line_feed script) (onto_first b (slice_split is_line_feed script))))
    tested true is others =
        let whole : SpellsLines (b ∷ script) ([] ∷ without_empty_end (slice_split is_line_feed script)) = (tt, inl (script, ap (λ (x : ℕ). x ∷ script) (ten b is), others)) in
        subst (SpellsLines (b ∷ script)) (sym (first_stays [] script)) whole
    tested false is others = grows b script (slice_split is_line_feed script) is others

pub lines_found : (script : List ℕ) → SpellsLines script (lines_of script)
unfolding lines_of
lines_found script = parts_found script

each_other : (line : List ℕ) → HasNoLineFeed line → All (λ b. is_line_feed b ≡ false) line
each_other line uncut = All-from_recursion (λ b. is_line_feed b ≡ false) line uncut

pub lines_only : (script : List ℕ) (lines : List (List ℕ)) → SpellsLines script lines → lines_of script ≡ lines
unfolding lines_of
lines_only script [] s = ap (λ (xs : List ℕ). without_empty_end (slice_split is_line_feed xs)) s
lines_only script (line ∷ lines) (uncut, inl (rest, whole, others)) =
    ap (λ (xs : List ℕ). without_empty_end (slice_split is_line_feed xs)) whole ∙ ap without_empty_end (slice_split_at is_line_feed line 10 rest (each_other line uncut) refl)
    ∙ first_stays line rest ∙ ap (λ (ls : List (List ℕ)). line ∷ ls) (lines_only rest lines others)
lines_only script (line ∷ lines) (uncut, inr (whole, some, last)) =
    ap (λ (xs : List ℕ). without_empty_end (slice_split is_line_feed xs)) whole ∙ ap without_empty_end (slice_split_none is_line_feed line (each_other line uncut)) ∙ one_line line some ∙ ap (λ (ls : List (List ℕ)). line ∷ ls) (sym last)
