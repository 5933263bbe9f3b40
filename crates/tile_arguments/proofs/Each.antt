-- What is read of each item of a list, one after the other.
use Rattle.std.proofs.Common.{◌≡◌, ℕ, ◌+◌, ◌<◌, ◌≤◌, Bool, true, false, cond, List, [], ◌∷◌, ◌++◌, map, length, drop, get_or, Result, Ok, Err, refl, sym, ap, ◌∙◌, append_assoc}
use Rattle.std.specs.List.{slice_split, onto_first}
use Rattle.std.proofs.lemmas.List.{append-nil, at_drop_more, at_drop_all}
use Rattle.tile_lines.specs.Answers.{◌>>=◌}
use Rattle.tile_lines.specs.declared.parse_error.ParseError.{ParseError}
use Rattle.tile_arguments.specs.Arguments.{each}

-- those that were read, and what is read of the rest
abbrev pub onto : {B : Type 0} → List B → Result (List B) ParseError → Result (List B) ParseError
onto done rest = rest >>= λ ys. Ok (done ++ ys)

onto_more : {A B : Type 0} (f : A → Result B ParseError) (done : List B) (x : A) (rest : List A) (y : B) → f x ≡ Ok y → onto done (each f (x ∷ rest)) ≡ onto (done ++ y ∷ []) (each f rest)
unfolding each
onto_more {A} {B} f done x rest y e = rw e (joined (each f rest))
  where
    joined : (r : Result (List B) ParseError) → onto done (r >>= λ ys. Ok (y ∷ ys)) ≡ onto (done ++ y ∷ []) r
    joined (Ok ys) = ap (λ (zs : List B). Ok zs) (sym (append_assoc done (y ∷ []) ys))
    joined (Err fault) = refl

-- one more of the list that is read through
pub onto_next : {A B : Type 0} (f : A → Result B ParseError) (xs : List A) (i : ℕ) (d : A) (done : List B) (y : B) → i < length xs → f (get_or xs i d) ≡ Ok y
    → onto done (each f (drop i xs)) ≡ each f xs → onto (done ++ y ∷ []) (each f (drop (i + 1) xs)) ≡ each f xs
onto_next {A} f xs i d done y lt e so_far =
    sym (at_drop_more (λ (rest : List A). onto done (each f rest)) xs i d lt ∙ onto_more f done (get_or xs i d) (drop (i + 1) xs) y e) ∙ so_far

onto_fault : {A B : Type 0} (f : A → Result B ParseError) (done : List B) (x : A) (rest : List A) (fault : ParseError) → f x ≡ Err fault → onto done (each f (x ∷ rest)) ≡ Err fault
unfolding each
onto_fault f done x rest fault e = rw e refl

-- one that is refused
pub onto_stops : {A B : Type 0} (f : A → Result B ParseError) (xs : List A) (i : ℕ) (d : A) (done : List B) (fault : ParseError) → i < length xs → f (get_or xs i d) ≡ Err fault
    → onto done (each f (drop i xs)) ≡ each f xs → each f xs ≡ Err fault
onto_stops {A} f xs i d done fault lt e so_far =
    sym so_far ∙ at_drop_more (λ (rest : List A). onto done (each f rest)) xs i d lt ∙ onto_fault f done (get_or xs i d) (drop (i + 1) xs) fault e

onto_end : {A B : Type 0} (f : A → Result B ParseError) (done : List B) → onto done (each f []) ≡ Ok done
unfolding each
onto_end {A} {B} f done = ap (λ (ys : List B). Ok ys) (append-nil done)

-- all were read
pub onto_all : {A B : Type 0} (f : A → Result B ParseError) (xs : List A) (i : ℕ) (done : List B) → length xs ≤ i → onto done (each f (drop i xs)) ≡ each f xs → each f xs ≡ Ok done
onto_all {A} f xs i done le so_far =
    sym so_far ∙ at_drop_all (λ (rest : List A). onto done (each f rest)) xs i le ∙ onto_end f done

pub each-map : {A B C : Type 0} (f : B → Result C ParseError) (g : A → B) (xs : List A) → each f (map g xs) ≡ each (λ x. f (g x)) xs
unfolding each
each-map f g [] = refl
each-map {A} {B} {C} f g (x ∷ xs) = ap (λ (r : Result (List C) ParseError). f (g x) >>= λ y. r >>= λ ys. Ok (y ∷ ys)) (each-map f g xs)

onto_first-map : {A B : Type 0} (g : A → B) (x : A) (parts : List (List A)) → onto_first (g x) (map (map g) parts) ≡ map (map g) (onto_first x parts)
onto_first-map g x [] = refl
onto_first-map g x (part ∷ parts) = refl

-- a list is cut in the same places, whatever is seen of its items
pub split-map : {A B : Type 0} (p : B → Bool) (g : A → B) (xs : List A) → slice_split p (map g xs) ≡ map (map g) (slice_split (λ x. p (g x)) xs)
split-map p g [] = refl
split-map {A} {B} p g (x ∷ xs) = at (p (g x)) (split-map p g xs)
  where
    at : (b : Bool) → slice_split p (map g xs) ≡ map (map g) (slice_split (λ x. p (g x)) xs) → cond b ([] ∷ slice_split p (map g xs)) (onto_first (g x) (slice_split p (map g xs))) ≡ map (map g) (cond b ([] ∷ slice_split (λ x. p (g x)) xs) (onto_first x (slice_split (λ x. p (g x)) xs)))
    at true e = ap (λ (parts : List (List B)). [] ∷ parts) e
    at false e = ap (onto_first (g x)) e ∙ onto_first-map g x (slice_split (λ x. p (g x)) xs)
