-- Where a strict run is over, and walks that go on from one another.
use Rattle.std.proofs.Common.{◌≡◌, ℕ, Bool, true, false, List, [], ◌∷◌, ◌++◌, refl, subst, ◌∙◌, inl, inr}
use Rattle.std.proofs.lemmas.Bool.{cases_Bool, MatchBool-at_true, MatchBool-at_false}
use Rattle.tile_course.specs.Run.{Progress, after_line, is_over, after_lines, MayFollow, Walk}

pub over_stays : (strict : Bool) (p : Progress) (lines : List (List ℕ)) → is_over strict p ≡ true → after_lines strict p lines ≡ p
over_stays strict p [] over = refl
over_stays strict p (line ∷ lines) over = rw over

pub goes_on : (strict : Bool) (p : Progress) (line : List ℕ) (lines : List (List ℕ)) → is_over strict p ≡ false → after_lines strict p (line ∷ lines) ≡ after_lines strict (after_line p line) lines
goes_on strict p line lines on = rw on

pub walk_over : (strict : Bool) (p q : Progress) (lines : List (List ℕ)) → is_over strict p ≡ true → Walk strict p lines q → q ≡ p
walk_over strict p q [] over walk = walk
walk_over strict p q (line ∷ lines) over walk = MatchBool-at_true _ _ over walk

pub walk_over_any : (strict : Bool) (p : Progress) (lines : List (List ℕ)) → is_over strict p ≡ true → Walk strict p lines p
walk_over_any strict p [] over = refl
walk_over_any strict p (line ∷ lines) over = rw over refl

-- a walk that is not over goes on with its first line
pub walk_on : (strict : Bool) (p q : Progress) (line : List ℕ) (lines : List (List ℕ)) → is_over strict p ≡ false → Walk strict p (line ∷ lines) q → (next : Progress) × MayFollow p line next × Walk strict next lines q
walk_on strict p q line lines on walk = MatchBool-at_false _ _ on walk

pub walk-append : (strict : Bool) (p q r : Progress) (lines more : List (List ℕ)) → Walk strict p lines q → Walk strict q more r → Walk strict p (lines ++ more) r
walk-append strict p q r [] more walk others = subst (λ (s : Progress). Walk strict s more r) walk others
walk-append strict p q r (line ∷ lines) more walk others =
    elim (cases_Bool (is_over strict p)) [
      | inl over ↦ (
          let same = walk_over strict p q (line ∷ lines) over walk in
          let over_there = rw (← same) at over in
          rw over (walk_over strict q r more over_there others ∙ same)
          )
      | inr on ↦ (
          let steps = walk_on strict p q line lines on walk in
          rw on (steps.0, steps.1, walk-append strict steps.0 q r lines more steps.2 others)
          )
    ]
