-- What the run of the entries of a number says of the item at an index, and what the marks make of it.
use Rattle.std.proofs.Common.{◌≡◌, ℕ, zero, suc, ◌+◌, ◌-◌, ◌<◌, ◌≤◌, Bool, true, false, Some, List, [], ◌∷◌, ◌++◌, length, drop, map, option_map, refl, sym, ap, ◌∙◌, append_assoc, inl, inr, arith}
use Rattle.std.specs.Prelude.{nat_lt, replicate, slice_get}
use Rattle.std.proofs.lemmas.Bool.Decides.{leb_tells}
use Rattle.std.proofs.lemmas.List.{drop_more}
use Rattle.std.proofs.lemmas.Option.{slice_get_cases}
use Rattle.mvt_document.specs.declared.document.LayerItem.{LayerItem}
use Rattle.mvt_document.specs.declared.document.LayerItem.TheVariants as in_layer
use Rattle.mvt_document.specs.declared.run.Run.{Run}
use Rattle.mvt_document.specs.Kinds.{is_entry as is_entry_of}
use Rattle.mvt_document.specs.Runs.{IsRun, IsRunOf}
use Rattle.mvt_document.specs.Stands.{layer_item_of}
use Rattle.mvt_document.proofs.Running.{parts_known}
use Rattle.mvt_layers.proofs.InRun.{is_found_entry}
use Rattle.mvt_meaning.specs.Compaction.{is_entry}
use Rattle.mvt_edit_pools.specs.Marks.{gone_by}

-- ---- a value at an index of a list with one run

same_at : (n k : ℕ) (x : Bool) (rest : List Bool) → k < n → slice_get (replicate n x ++ rest) k ≡ Some x
same_at zero k x rest inside = absurd (omega arith)
same_at (suc n) zero x rest inside = refl
same_at (suc n) (suc k) x rest inside = same_at n k x rest (omega arith)

past_same : (n k : ℕ) (x : Bool) (rest : List Bool) → n ≤ k → slice_get (replicate n x ++ rest) k ≡ slice_get rest (k - n)
past_same zero k x rest past =
    let all : k ≡ k - 0 = omega arith in
    ap (slice_get rest) all
past_same (suc n) zero x rest past = absurd (omega arith)
past_same (suc n) (suc k) x rest past =
    let less : k - n ≡ suc k - suc n = omega arith in
    past_same n k x rest (omega arith) ∙ ap (slice_get rest) less

true_before : (count following k : ℕ) (rest : List Bool) → k < count + following → slice_get (replicate count true ++ (replicate following false ++ rest)) k ≡ Some (nat_lt k count)
true_before count following k rest inside =
    elim (leb_tells (suc k) count) [
      | inl one ↦ same_at count k true (replicate following false ++ rest) (omega (arith, one.1)) ∙ ap Some (sym one.0)
      | inr none ↦ (
          past_same count k true (replicate following false ++ rest) (omega (arith, none.1))
          ∙ same_at following (k - count) false rest (omega (arith, none.1, inside))
          ∙ ap Some (sym none.0)
          )
    ]

-- ---- an item at an index of a layer

entry_same : (number : ℕ) (item : LayerItem) → is_entry number (layer_item_of item) ≡ is_entry_of number item
entry_same number (in_layer.Feature feature) = refl
entry_same number (in_layer.Plain field) = is_found_entry number (in_layer.Plain field)

-- whether the item at this index is an entry of this number
abbrev IsEntryAt : ℕ → List LayerItem → ℕ → Bool → Type 0
IsEntryAt number items index is = option_map (λ item. is_entry number (layer_item_of item)) (slice_get items index) ≡ Some is

entry_at : (number : ℕ) (items : List LayerItem) (index : ℕ) (is : Bool) → slice_get (map (is_entry_of number) items) index ≡ Some is → IsEntryAt number items index is
entry_at number [] index is h = h
entry_at number (item ∷ items) zero is h = ap Some (entry_same number item) ∙ h
entry_at number (item ∷ items) (suc index) is h = entry_at number items index is h

-- before the run there is none
pub none_before : (number : ℕ) (run : Run) (items : List LayerItem) (index : ℕ) → IsRunOf (is_entry_of number) run items → index < run.first → IsEntryAt number items index false
none_before number run items index h before =
    entry_at number items index false
    (ap (λ values. slice_get values index) (parts_known run (map (is_entry_of number) items) h)
    ∙ same_at run.first index false (replicate run.count true ++ (replicate h.following false ++ h.rest)) before)

-- from its first on each is one up to its last, and none after that
pub ones_from : (number : ℕ) (run : Run) (items : List LayerItem) (index : ℕ) → IsRunOf (is_entry_of number) run items → run.first ≤ index → index < run.until → IsEntryAt number items index (nat_lt (index - run.first) run.count)
ones_from number run items index h from known =
    entry_at number items index (nat_lt (index - run.first) run.count)
    (ap (λ values. slice_get values index) (parts_known run (map (is_entry_of number) items) h)
    ∙ past_same run.first index false (replicate run.count true ++ (replicate h.following false ++ h.rest)) from
    ∙ true_before run.count h.following (index - run.first) h.rest (omega (arith, h.until)))

-- the item at an index: whether it is an entry, and what the marks make of the items from it on
pub record ItemAt (items : List LayerItem) (index : ℕ) : Type 0 where
  pub item : LayerItem
  pub seen : (number : ℕ) (is : Bool) → IsEntryAt number items index is → is_entry number (layer_item_of item) ≡ is
  pub first : (keys values : List Bool) → gone_by keys values (map layer_item_of (drop index items)) ≡ gone_by keys values (layer_item_of item ∷ map layer_item_of (drop (index + 1) items))

is_entry_there : (number : ℕ) (items : List LayerItem) (index : ℕ) (item : LayerItem) (is : Bool) → slice_get items index ≡ Some item → IsEntryAt number items index is → is_entry number (layer_item_of item) ≡ is
is_entry_there number items index item is there seen =
    let whole : Some (is_entry number (layer_item_of item)) ≡ Some is = sym (ap (option_map (λ (x : LayerItem). is_entry number (layer_item_of x))) there) ∙ seen in
    cc

pub item_at : (items : List LayerItem) (index : ℕ) → index < length items → ItemAt items index
item_at items index there =
    elim (slice_get_cases items index).1 [
      | inl found ↦ record {
        item = found.0;
        seen = λ number is seen. is_entry_there number items index found.0 is found.2 seen;
        first = λ keys values. ap (λ list. gone_by keys values (map layer_item_of list)) (drop_more items index found.0 there ∙ ap (λ item. item ∷ drop (index + 1) items) found.3);
      }
      | inr past ↦ absurd (omega (arith, past.0))
    ]
