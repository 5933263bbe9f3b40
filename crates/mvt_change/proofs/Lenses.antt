-- A part of a value, found in it and changed in it: its laws, in a list, through another, and for the lists of a document.
use Rattle.std.proofs.Common.{◌≡◌, ℕ, zero, suc, List, [], ◌∷◌, slice_get, Option, Some, None, option_map, refl, sym, ap, ◌∙◌, subst}
use Rattle.std.specs.List.{AllByRecursion}
use Rattle.std.specs.Option.{IfSome, IsSomeAnd, option_and_then}
use Rattle.mvt_document.specs.Plain.{Field, LayerItem, OfFeature, PlainInLayer, TileItem, OfLayer, PlainInTile, Document}
use Rattle.mvt_document.specs.Opens.{IsField, IsLayerItem, IsTileItem, IsDocument}
use Rattle.mvt_document.specs.Lists.{change_at}
use Rattle.mvt_document.specs.Places.{items_in, fields_in, in_layer, in_feature}
use Rattle.mvt_change.specs.Changes.{Place, OfTheTile, OfTheLayer, OfTheFeature, list_at, change_list, IsItemAt}

-- a part of this whole, found in it and changed in it
pub record IsPart {A X : Type 0} (find : A → Option X) (change : (X → X) → A → A) (a : A) : Type 0 where
  pub found : (f : X → X) → find (change f a) ≡ option_map f (find a)
  pub same : change (λ x. x) a ≡ a
  pub twice : (f g : X → X) → change g (change f a) ≡ change (λ x. g (f x)) a
  pub alike : (f g : X → X) → IfSome (find a) (λ x. f x ≡ g x) → change f a ≡ change g a

-- a valid whole has a valid part, and stays valid where the part does
pub record IsSound {A X : Type 0} (find : A → Option X) (change : (X → X) → A → A) (whole : A → Type 0) (good : X → Type 0) (a : A) : Type 0 where
  pub part_good : whole a → IfSome (find a) good
  pub kept : (f : X → X) → whole a → IfSome (find a) (λ x. good (f x)) → whole (change f a)

module _ {A X : Type 0} {find : A → Option X} {change : (X → X) → A → A} {a : A} (part : IsPart find change a) where
  pub goes_back : (f g : X → X) → IfSome (find a) (λ x. g (f x) ≡ x) → change g (change f a) ≡ a
  goes_back f g same = part.twice f g ∙ part.alike (λ x. g (f x)) (λ x. x) same ∙ part.same

  pub found_there : (f : X → X) (Q : X → Type 0) → IsSomeAnd (option_map f (find a)) Q → IsSomeAnd (find (change f a)) Q
  found_there f Q there = subst (λ o. IsSomeAnd o Q) (sym (part.found f)) there

-- ---- in the item at a position of a list

abbrev pub find_at : {A X : Type 0} → (A → Option X) → ℕ → List A → Option X
find_at find at items = option_and_then find (slice_get items at)

module _ {A X : Type 0} {find : A → Option X} {change : (X → X) → A → A} where
  pub part_at : ((a : A) → IsPart find change a) → (at : ℕ) (items : List A) → IsPart (λ (xs : List A). find_at find at xs) (λ (f : X → X) xs. change_at (change f) at xs) items
  part_at each at [] = record { found = λ f. refl; same = refl; twice = λ f g. refl; alike = λ f g same. refl }
  part_at each zero (a ∷ items) =
      let here = each a in
      let with : A → List A = λ b. b ∷ items in
      record { found = here.found; same = ap with here.same; twice = λ f g. ap with (here.twice f g); alike = λ f g same. ap with (here.alike f g same) }
  part_at each (suc at) (a ∷ items) =
      let rest = part_at each at items in
      let with : List A → List A = λ xs. a ∷ xs in
      record { found = rest.found; same = ap with rest.same; twice = λ f g. ap with (rest.twice f g); alike = λ f g same. ap with (rest.alike f g same) }

  sound_at : {whole : A → Type 0} {good : X → Type 0} → ((a : A) → IsSound find change whole good a) → (at : ℕ) (items : List A) → IsSound (λ (xs : List A). find_at find at xs) (λ (f : X → X) xs. change_at (change f) at xs) (AllByRecursion whole) good items
  sound_at each at [] = record { part_good = λ all. tt; kept = λ f all new. tt }
  sound_at each zero (a ∷ items) =
      record { part_good = λ all. (each a).part_good all.0; kept = λ f all new. ((each a).kept f all.0 new, all.1) }
  sound_at each (suc at) (a ∷ items) =
      let rest = sound_at each at items in
      record { part_good = λ all. rest.part_good all.1; kept = λ f all new. (all.0, rest.kept f all.1 new) }

-- ---- through another part

pub through_found : {X Y V W : Type 0} (deeper : X → Option V) (other : Y → Option W) (h : X → Y) (k : V → W) → ((x : X) → other (h x) ≡ option_map k (deeper x)) → (o : Option X) → option_and_then other (option_map h o) ≡ option_map k (option_and_then deeper o)
through_found deeper other h k each None = refl
through_found deeper other h k each (Some x) = each x

module _ {X Y : Type 0} {deeper : X → Option Y} {deep : (Y → Y) → X → X} (second : (x : X) → IsPart deeper deep x) where
  through_alike : (f g : Y → Y) (o : Option X) → IfSome (option_and_then deeper o) (λ y. f y ≡ g y) → IfSome o (λ x. deep f x ≡ deep g x)
  through_alike f g None same = tt
  through_alike f g (Some x) same = (second x).alike f g same

module _ {X Y : Type 0} {deeper : X → Option Y} {deep : (Y → Y) → X → X} {good : X → Type 0} {best : Y → Type 0} (second : (x : X) → IsSound deeper deep good best x) where
  through_good : (o : Option X) → IfSome o good → IfSome (option_and_then deeper o) best
  through_good None all = tt
  through_good (Some x) all = (second x).part_good all

  through_kept : (f : Y → Y) (o : Option X) → IfSome o good → IfSome (option_and_then deeper o) (λ y. best (f y)) → IfSome o (λ x. good (deep f x))
  through_kept f None all new = tt
  through_kept f (Some x) all new = (second x).kept f all new

module _ {A X Y : Type 0} {find : A → Option X} {change : (X → X) → A → A} {deeper : X → Option Y} {deep : (Y → Y) → X → X} {a : A} where
  pub part_through : IsPart find change a → ((x : X) → IsPart deeper deep x) → IsPart (λ (b : A). option_and_then deeper (find b)) (λ (f : Y → Y) b. change (deep f) b) a
  part_through first second = record {
    found = λ f. ap (option_and_then deeper) (first.found (deep f)) ∙ through_found deeper deeper (deep f) f (λ x. (second x).found f) (find a);
    same = (λ i. change (λ x. (second x).same i) a) ∙ first.same;
    twice = λ f g. first.twice (deep f) (deep g) ∙ (λ i. change (λ x. (second x).twice f g i) a);
    alike = λ f g same. first.alike (deep f) (deep g) (through_alike second f g (find a) same);
  }

  sound_through : {whole : A → Type 0} {good : X → Type 0} {best : Y → Type 0} → IsSound find change whole good a → ((x : X) → IsSound deeper deep good best x) → IsSound (λ (b : A). option_and_then deeper (find b)) (λ (f : Y → Y) b. change (deep f) b) whole best a
  sound_through first second = record {
    part_good = λ valid. through_good second (find a) (first.part_good valid);
    kept = λ f valid new. first.kept (deep f) valid (through_kept second f (find a) (first.part_good valid) new);
  }

-- ---- the items of a layer, and the fields of a feature

items_part : (item : TileItem) → IsPart items_in in_layer item
items_part (OfLayer layer) =
    let with : List LayerItem → TileItem = λ items. OfLayer (record { tag = layer.tag; width = layer.width; items = items }) in
    record { found = λ f. refl; same = refl; twice = λ f g. refl; alike = λ f g same. ap with same }
items_part (PlainInTile field) = record { found = λ f. refl; same = refl; twice = λ f g. refl; alike = λ f g same. refl }

items_sound : (item : TileItem) → IsSound items_in in_layer IsTileItem (AllByRecursion IsLayerItem) item
items_sound (OfLayer layer) = record {
  part_good = λ valid. valid.items;
  kept = λ f valid new. record { number = valid.number; tag = valid.tag; width = valid.width; items = new };
}
items_sound (PlainInTile field) = record { part_good = λ valid. tt; kept = λ f valid new. valid }

fields_part : (item : LayerItem) → IsPart fields_in in_feature item
fields_part (OfFeature feature) =
    let with : List Field → LayerItem = λ fields. OfFeature (record { tag = feature.tag; width = feature.width; fields = fields }) in
    record { found = λ f. refl; same = refl; twice = λ f g. refl; alike = λ f g same. ap with same }
fields_part (PlainInLayer field) = record { found = λ f. refl; same = refl; twice = λ f g. refl; alike = λ f g same. refl }

fields_sound : (item : LayerItem) → IsSound fields_in in_feature IsLayerItem (AllByRecursion IsField) item
fields_sound (OfFeature feature) = record {
  part_good = λ valid. valid.fields;
  kept = λ f valid new. record { number = valid.number; tag = valid.tag; width = valid.width; fields = new };
}
fields_sound (PlainInLayer field) = record { part_good = λ valid. tt; kept = λ f valid new. valid }

-- ---- the lists of a document

pub list_part : (place : Place) (document : Document) → IsPart (list_at place) (change_list place) document
list_part OfTheTile document = record { found = λ f. refl; same = refl; twice = λ f g. refl; alike = λ f g same. same }
list_part (OfTheLayer layer) document = part_at items_part layer document
list_part (OfTheFeature layer item) document = part_through (part_at items_part layer document) (part_at fields_part item)

pub list_sound : (place : Place) (document : Document) → IsSound (list_at place) (change_list place) IsDocument (AllByRecursion (IsItemAt place)) document
list_sound OfTheTile document = record { part_good = λ valid. valid; kept = λ f valid new. new }
list_sound (OfTheLayer layer) document = sound_at items_sound layer document
list_sound (OfTheFeature layer item) document = sound_through (sound_at items_sound layer document) (sound_at fields_sound item)
