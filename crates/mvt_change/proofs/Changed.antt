-- The plain values of a list of the program in which a part or an item was changed, and of one that was reversed.
use Rattle.std.proofs.Common.{◌≡◌, ℕ, List, [], ◌∷◌, map, reverse, refl, ◌∙◌}
use Rattle.std.proofs.lemmas.List.{map-append, reverse-append, take-map, drop-map}
use Rattle.mvt_document.specs.Splicing.{part, splice, moved}

pub map-part : {A B : Type 0} (g : A → B) (index count : ℕ) (items : List A) → map g (part index count items) ≡ part index count (map g items)
map-part g index count items = simp (take-map, drop-map)

pub map-splice : {A B : Type 0} (g : A → B) (index taken : ℕ) (put items : List A) → map g (splice index taken put items) ≡ splice index taken (map g put) (map g items)
map-splice g index taken put items = simp (map-append, take-map, drop-map)

pub map-moved : {A B : Type 0} (g : A → B) (from to : ℕ) (items : List A) → map g (moved from to items) ≡ moved from to (map g items)
map-moved g from to items = map-splice g to 0 (part from 1 items) (splice from 1 [] items) ∙ (λ i. splice to 0 (map-part g from 1 items i) (map-splice g from 1 [] items i))

pub map-reverse : {A B : Type 0} (g : A → B) (items : List A) → map g (reverse items) ≡ reverse (map g items)
map-reverse g [] = refl
map-reverse g (x ∷ items) =
    rw (reverse-append (x ∷ []) items, map-append, map-reverse g items, reverse-append (g x ∷ []) (map g items))
