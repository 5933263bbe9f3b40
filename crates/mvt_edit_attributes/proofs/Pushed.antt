-- One more item at the end of a list, and the step that puts entries.
use Rattle.std.proofs.Common.{◌≡◌, ℕ, ◌==◌, true, false, List, [], ◌∷◌, ◌++◌, append_assoc, length, map, refl, ap, ◌∙◌, arith}
use Rattle.std.proofs.lemmas.Bool.{eqb-false, eqb-true}
use Rattle.std.proofs.lemmas.List.{map-append}
use Rattle.mvt_document.specs.Plain.{LayerItem}
use Rattle.mvt_document.specs.Wire.{minimal_width, shortest, spell}
use Rattle.mvt_change.specs.Changes.{LayerStep}
use Rattle.mvt_edit_attributes.specs.Attribute.{appended}

pub one_more : {A B : Type 0} (f : A → B) (before after : List A) (x : A) (y : B) → after ≡ before ++ x ∷ [] → f x ≡ y → map f after ≡ map f before ++ y ∷ []
one_more f before after x y pushed is = ap (map f) pushed ∙ map-append f before (x ∷ []) ∙ ap (λ z. map f before ++ z ∷ []) is

pub one_alone : {A B : Type 0} (f : A → B) (before after : List A) (x : A) (y : B) → before ≡ [] → after ≡ before ++ x ∷ [] → f x ≡ y → map f after ≡ y ∷ []
one_alone f before after x y none pushed is = one_more f before after x y pushed is ∙ ap (λ xs. map f xs ++ y ∷ []) none

-- the step of entries that are there, and of none
pub some_appended : {A : Type 0} (view : A → LayerItem) (layer : ℕ) (items : List LayerItem) (entries : List A) (n : ℕ) → n ≡ length entries → (n == 0) ≡ false → appended layer items (map view entries) ≡ LayerStep layer (length items) 0 (map view entries) ∷ []
some_appended view layer items [] n is some = absurd (eqb-false n 0 some is)
some_appended view layer items (entry ∷ entries) n is some = refl

pub none_appended : {A : Type 0} (view : A → LayerItem) (layer : ℕ) (items : List LayerItem) (entries : List A) (n : ℕ) → n ≡ length entries → (n == 0) ≡ true → appended layer items (map view entries) ≡ []
none_appended view layer items [] n is none = refl
none_appended view layer items (entry ∷ entries) n is none = absurd (let zero = eqb-true n 0 none in omega arith)

-- two numbers after some bytes, each in its shortest spelling
pub shortly : (n value width : ℕ) → value ≡ n → width ≡ minimal_width n → spell value width ≡ shortest n
shortly n value width is least = rw (is, least) refl

pub both_put : (bytes first second none some more all : List ℕ) → none ≡ [] → some ≡ none ++ bytes → more ≡ some ++ first → all ≡ more ++ second → all ≡ bytes ++ (first ++ second)
both_put bytes first second none some more all empty put and_first and_second =
    and_second ∙ ap (λ xs. xs ++ second) (and_first ∙ ap (λ xs. xs ++ first) (put ∙ ap (λ xs. xs ++ bytes) empty)) ∙ append_assoc bytes first second
