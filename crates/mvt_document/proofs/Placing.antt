-- A list inside a document, changed in place: what the layers and the features around it are, and what is found.
use Rattle.std.proofs.Common.{◌≡◌, ℕ, zero, suc, List, [], ◌∷◌, get_or, slice_get, slice_set, Option, Some, None, refl, sym, ap, ◌∙◌, subst}
use Rattle.std.specs.Option.{IsSomeAnd, option_and_then}
use Rattle.std.proofs.lemmas.Option.{get_or_from_slice_get}
use Rattle.std.proofs.Props.{props}
use mathlib.Core.HLevel.{is_prop→PathP}
use Rattle.std.specs.Fn.{Once}
use Rattle.std.specs.Borrow.{MutBor}
use Rattle.mvt_document.specs.Held.{Held}
use Rattle.mvt_document.specs.Shape.{IsSpelling, IsWidth}
use Rattle.mvt_document.specs.declared.document.Layer.{Layer}
use Rattle.mvt_document.specs.declared.document.LayerItem.{LayerItem}
use Rattle.mvt_document.specs.declared.document.TileItem.{TileItem}
use Rattle.mvt_document.specs.declared.document.TileItem.TheVariants as in_tile
use Rattle.mvt_document.specs.declared.document.Document.{Document}
use Rattle.mvt_document.specs.declared.feature.FeatureParts.{FeatureParts as Feature}
use Rattle.mvt_document.specs.declared.field.FieldParts.{FieldParts as Field}
use Rattle.mvt_document.specs.declared.varint.Varint.{Varint}
use Rattle.mvt_document.specs.Lists.{change_at}
use Rattle.mvt_document.specs.HeldPlaces.{held_items_in, held_items_at, held_fields_in_at, held_fields_at, in_held_layer, in_held_feature, change_held_at, change_held_items, change_held_fields}
use Rattle.mvt_document.proofs.Options.{some_each, where_some}
use Rattle.mvt_document.specs.Made.{Makes, MakesThere}

-- ---- values that differ only in the facts that they keep are the same

pub same_layer : (a b : Layer) → a.tag ≡ b.tag → a.width ≡ b.width → a.items ≡ b.items → a ≡ b
same_layer a b tag width items = λ i. record {
  tag = tag i;
  width = width i;
  items = items i;
  is_layer = is_prop→PathP (λ j. (tag j).value ≡ 26) (λ j. hlevel props) a.is_layer b.is_layer i;
  is_width = is_prop→PathP (λ j. IsWidth (width j)) (λ j. hlevel props) a.is_width b.is_width i;
}

pub same_varint : (a b : Varint) → a.value ≡ b.value → a.width ≡ b.width → a ≡ b
same_varint a b value width = λ i. record {
  value = value i;
  width = width i;
  spelled = is_prop→PathP (λ j. IsSpelling (value j) (width j)) (λ j. hlevel props) a.spelled b.spelled i;
}

pub same_feature : (a b : Feature) → a.tag ≡ b.tag → a.width ≡ b.width → a.fields ≡ b.fields → a ≡ b
same_feature a b tag width fields = λ i. record {
  tag = tag i;
  width = width i;
  fields = fields i;
  is_feature = is_prop→PathP (λ j. (tag j).value ≡ 18) (λ j. hlevel props) a.is_feature b.is_feature i;
  is_width = is_prop→PathP (λ j. IsWidth (width j)) (λ j. hlevel props) a.is_width b.is_width i;
}

-- ---- the item at a position of a list

-- the list with the item changed is the one with what was made of it
pub set_changed : {A : Type 0} (change : A → A) (at : ℕ) (items : List A) (x y : A) → slice_get items at ≡ Some x → y ≡ change x → slice_set items at y ≡ change_at change at items
set_changed change at [] x y is made = refl
set_changed change zero (z ∷ items) x y is made =
    let same : z ≡ x = cc in
    ap (λ w. w ∷ items) (made ∙ ap change (sym same))
set_changed change (suc at) (z ∷ items) x y is made = ap (λ rest. z ∷ rest) (set_changed change at items x y is made)

-- the item that is read there is the one of which this holds
pub read_there : {A : Type 0} (items : List A) (at : ℕ) (x : A) (P : A → Type 0) → x ≡ get_or items at x → IsSomeAnd (slice_get items at) P → (slice_get items at ≡ Some x) × P x
read_there items at x P read there =
    where_some (slice_get items at) P (λ o. slice_get items at ≡ o → (slice_get items at ≡ Some x) × P x)
    (λ y holds is.
    let same : y ≡ x = sym (read ∙ get_or_from_slice_get items at y x is) in
    (is ∙ ap Some same, subst P same holds)) there refl

pub changed_alike : {A : Type 0} (f g : A → A) (at : ℕ) (items : List A) (x : A) → slice_get items at ≡ Some x → f x ≡ g x → change_at f at items ≡ change_at g at items
changed_alike f g at items x is same = sym (set_changed f at items x (f x) is refl) ∙ set_changed g at items x (f x) is same

-- ---- the list that is found is changed to what it was made

items_made : (f : Held LayerItem → Held LayerItem) (layer : ℕ) (items : List TileItem) (list : Held LayerItem) → option_and_then held_items_in (slice_get items layer) ≡ Some list → change_at (in_held_layer (λ x. f list)) layer items ≡ change_at (in_held_layer f) layer items
items_made f layer [] list is = refl
items_made f zero (in_tile.Layer layer ∷ items) list is =
    let same : list ≡ layer.items = cc in
    ap (λ made. in_tile.Layer (record layer { items = f made }) ∷ items) same
items_made f zero (in_tile.Plain field ∷ items) list is = refl
items_made f (suc layer) (item ∷ items) list is = ap (λ rest. item ∷ rest) (items_made f layer items list is)

-- ---- what a closure takes and made there

-- what holds of the list and the values holds of any `&mut` to them
pub takes_there : {L W : Type 0} (o : Option L) (beside : W) (P : L → W → Type 0) → IsSomeAnd o (λ list. P list beside) → IsSomeAnd o (λ list. (x : MutBor L) (y : MutBor W) → x.now ≡ list → y.now ≡ beside → P x.now y.now)
takes_there o beside P there = some_each o _ _ (λ list holds x y is given. subst (λ l. P l y.now) (sym is) (subst (P list) (sym given) holds)) there

module _ {F L W R : Type 0} (g : Once F (MutBor L × (MutBor W × Unit {0})) (R × (MutBor L × (MutBor W × Unit {0})))) (change : F) where
  -- what is known of each call is known of the one that made this
  made_as : (list : L) (beside : W) (r : R) (made : L) (left : W) → Makes g change list beside r made left → (P : L → W → R → L → W → Type 0)
      → ((x : MutBor L) (y : MutBor W) (r : R) (v : MutBor L) (w : MutBor W) → g.post change (x, (y, tt)) (r, (v, (w, tt))) → P x.now y.now r v.now w.now) → P list beside r made left
  made_as list beside r made left makes P each =
      let met = each makes.shown makes.given r makes.ended makes.passed makes.met in
      subst (λ l. P l beside r made left) makes.shows.0 (
      subst (λ b. P makes.shown.now b r made left) makes.shows.1 (
      subst (λ m. P makes.shown.now makes.given.now r m left) makes.leaves.0 (
      subst (λ n. P makes.shown.now makes.given.now r makes.ended.now n) makes.leaves.1 met)))

  pub made_there : (o : Option L) (beside : W) (r : R) (left : W) (holds : L → Type 0) → MakesThere g change o beside r left holds → (P : L → W → R → L → W → Type 0)
      → ((x : MutBor L) (y : MutBor W) (r : R) (v : MutBor L) (w : MutBor W) → g.post change (x, (y, tt)) (r, (v, (w, tt))) → P x.now y.now r v.now w.now) → IsSomeAnd o (λ list. (made : L) × P list beside r made left × holds made)
  made_there o beside r left holds there P each = some_each o _ _ (λ list met. (met.0, made_as list beside r met.0 left met.1 P each, met.2)) there

  pub makes_more : (o p : Option L) (beside : W) (r : R) (left : W) (P Q : L → Type 0) → o ≡ p → ((made : L) → P made → Q made) → MakesThere g change o beside r left P → MakesThere g change p beside r left Q
  makes_more None p beside r left P Q is each there = absurd there
  makes_more (Some list) p beside r left P Q is each there = subst (λ found. MakesThere g change found beside r left Q) is (there.0, there.1, each there.0 there.2)

-- what was made of the fields of a feature was made of the items of its layer
module _ {F W R : Type 0} (g : Once F (MutBor (Held Field) × (MutBor W × Unit {0})) (R × (MutBor (Held Field) × (MutBor W × Unit {0})))) (change : F) where
  pub fields_made : (layer item : ℕ) (document new : Document) (beside : W) (r : R) (left : W) (o : Option (Held LayerItem)) → held_items_at layer document ≡ o
      → IsSomeAnd o (λ list. (made : Held LayerItem) × MakesThere g change (held_fields_in_at item list) beside r left (λ inner. made ≡ change_held_at (in_held_feature (λ x. inner)) item list) × (new ≡ change_held_items (λ x. made) layer document))
      → MakesThere g change (held_fields_at layer item document) beside r left (λ inner. new ≡ change_held_fields (λ x. inner) layer item document)
  fields_made layer item document new beside r left None is there = absurd there
  fields_made layer item document new beside r left (Some list) is there =
      let with : List TileItem → Document = λ items. record document { items = record document.items { items = items } } in
      makes_more g change (held_fields_in_at item list) (held_fields_at layer item document) beside r left _ _ (ap (option_and_then (held_fields_in_at item)) (sym is))
      (λ inner made.
      let f = change_held_at (in_held_feature (λ x. inner)) item in
      there.2 ∙ ap (λ m. change_held_items (λ x. m) layer document) made ∙ ap with (items_made f layer document.items.items list is))
      there.1

-- ---- what was made of the list that an item holds

module _ {F L W R A : Type 0} (g : Once F (MutBor L × (MutBor W × Unit {0})) (R × (MutBor L × (MutBor W × Unit {0})))) (change : F) (find : A → Option L) (with : (L → L) → A → A) where
  -- the item may be made this one, by what the closure makes of its list
  abbrev pub MakesItem : A → W → R → A → W → Type 0
  MakesItem item beside r made left = MakesThere g change (find item) beside r left (λ inner. made ≡ with (λ x. inner) item)

  pub made_in : (at : ℕ) (list new : Held A) (beside : W) (r : R) (left : W) → IsSomeAnd (slice_get list.items at) (λ item. (y : A) × MakesItem item beside r y left × (new ≡ change_held_at (λ z. y) at list))
      → MakesThere g change (option_and_then find (slice_get list.items at)) beside r left (λ inner. new ≡ change_held_at (with (λ x. inner)) at list)
  made_in at list new beside r left there =
      where_some (slice_get list.items at) _ (λ o. slice_get list.items at ≡ o → MakesThere g change (option_and_then find o) beside r left (λ inner. new ≡ change_held_at (with (λ x. inner)) at list))
      (λ item p is. makes_more g change (find item) (find item) beside r left _ _ refl (λ inner made. p.2 ∙ ap (λ items. record list { items = items }) (changed_alike (λ z. p.0) (with (λ x. inner)) at list.items item is made)) p.1)
      there refl
