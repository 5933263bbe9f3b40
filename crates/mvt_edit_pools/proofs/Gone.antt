-- The keys and values of a layer that go: by marks, by ordinals, and what the splices make of the layer.
use Rattle.std.proofs.Common.{◌≡◌, ℕ, ◌+◌, ◌*◌, ◌≤◌, ◌/◌, ◌==◌, Bool, true, false, cond, not, is_some, Option, Some, None, List, [], ◌∷◌, ◌++◌, length, length-append, map, filter, drop, refl, sym, ap, ◌∙◌, ◌⊎◌, inl, inr, subst, arith}
use Rattle.std.proofs.lemmas.Bool.{cases_Bool, eqb-true}
use Rattle.std.specs.List.{AllByRecursion, enumerate_from, flat_map}
use Rattle.mvt_document.specs.Plain.{Field, LayerItem, OfFeature, PlainInLayer}
use Rattle.mvt_document.specs.Places.{in_feature}
use Rattle.mvt_document.specs.Wire.{field_bytes, layer_item_bytes}
use Rattle.mvt_renumber.specs.Fates.{changes, left_of_fate}
use Rattle.mvt_renumber.specs.declared.fate.Fate.{Fate}
use Rattle.mvt_messages.specs.Views.{content_in, contents, key_field, plain_fields, value_field}
use Rattle.mvt_meaning.specs.Compaction.{is_entry, leaving, staying}
use Rattle.mvt_edit_steps.specs.Fates.{goes_if, splices_of}
use Rattle.mvt_edit_steps.proofs.CarriedOut.{AreThere, carries_beside, new_in, put_all, spliced_all, taken_all}
use Rattle.mvt_edit_pools.specs.Marks.{entry_splices, first_goes, gone_by, stays_from}
use Rattle.mvt_edit_pools.specs.Pools.{gone_from}

-- ---- a key is not a value

key_apart : (field : Field) (bytes : List ℕ) → content_in key_field field ≡ Some bytes → content_in value_field field ≡ None
key_apart field bytes is =
    elim (cases_Bool (field.tag.value / 8 == 3)) [
      | inl own ↦ (
          let other : (field.tag.value / 8 == 4) ≡ false = ap (λ n. n == 4) (eqb-true (field.tag.value / 8) 3 own) in
          rw other refl
          )
      | inr skip ↦ absurd (let none = rw skip at is in cc)
    ]

-- what an item is: a key, a value, or neither
abbrev IsKey : LayerItem → Type 0
IsKey item = (is_entry key_field item ≡ true) × (is_entry value_field item ≡ false)

abbrev IsValue : LayerItem → Type 0
IsValue item = (is_entry key_field item ≡ false) × (is_entry value_field item ≡ true)

abbrev IsNeither : LayerItem → Type 0
IsNeither item = (is_entry key_field item ≡ false) × (is_entry value_field item ≡ false)

abbrev Kind : LayerItem → Type 0
Kind item = IsKey item ⊎ (IsValue item ⊎ IsNeither item)

kind_by : (field : Field) (key value : Option (List ℕ)) → content_in key_field field ≡ key → content_in value_field field ≡ value → Kind (PlainInLayer field)
kind_by field (Some bytes) value is_key is_value = inl (ap (λ found. is_some found) is_key, ap (λ found. is_some found) (key_apart field bytes is_key))
kind_by field None (Some bytes) is_key is_value = inr (inl (ap (λ found. is_some found) is_key, ap (λ found. is_some found) is_value))
kind_by field None None is_key is_value = inr (inr (ap (λ found. is_some found) is_key, ap (λ found. is_some found) is_value))

kind_of : (item : LayerItem) → Kind item
kind_of (OfFeature feature) = inr (inr (refl, refl))
kind_of (PlainInLayer field) = kind_by field (content_in key_field field) (content_in value_field field) refl refl

-- ---- one more item, by marks

pub goes_key : (keys values : List Bool) (item : LayerItem) (items : List LayerItem) (first : Bool) (following : List Bool) → is_entry key_field item ≡ true → first ≡ first_goes keys → following ≡ drop 1 keys → gone_by keys values (item ∷ items) ≡ first ∷ gone_by following values items
goes_key keys values item items first following is goes left =
    rw is (ap (λ one. one ∷ gone_by (drop 1 keys) values items) (sym goes) ∙ ap (λ marks. first ∷ gone_by marks values items) (sym left))

pub goes_value : (keys values : List Bool) (item : LayerItem) (items : List LayerItem) (first : Bool) (following : List Bool) → is_entry key_field item ≡ false → is_entry value_field item ≡ true → first ≡ first_goes values → following ≡ drop 1 values → gone_by keys values (item ∷ items) ≡ first ∷ gone_by keys following items
goes_value keys values item items first following other is goes left =
    rw (other, is) (ap (λ one. one ∷ gone_by keys (drop 1 values) items) (sym goes) ∙ ap (λ marks. first ∷ gone_by keys marks items) (sym left))

pub goes_neither : (keys values : List Bool) (item : LayerItem) (items : List LayerItem) → is_entry key_field item ≡ false → is_entry value_field item ≡ false → gone_by keys values (item ∷ items) ≡ false ∷ gone_by keys values items
goes_neither keys values item items other also = rw (other, also) refl

-- ---- the entries of a number that go

-- the entries of a number that go, where the first has this ordinal
abbrev pub leaving_from : ℕ → (ℕ → Bool) → ℕ → List LayerItem → List LayerItem
leaving_from number stays n items = map (λ (entry : ℕ × LayerItem). entry.1) (filter (λ (entry : ℕ × LayerItem). not (stays entry.0)) (enumerate_from n (filter (is_entry number) items)))

abbrev pub weigh_items : List LayerItem → ℕ
weigh_items items = length (flat_map layer_item_bytes items)

weighs_one : (item : LayerItem) (items : List LayerItem) → weigh_items (item ∷ items) ≡ length (layer_item_bytes item) + weigh_items items
weighs_one item items = length-append (layer_item_bytes item) (flat_map layer_item_bytes items)

-- the fields that these items are
abbrev pub field_list : List LayerItem → List Field
field_list items = plain_fields items

-- entries are fields of as many bytes
pub entries_weigh : (number : ℕ) (stays : ℕ → Bool) (n : ℕ) (items : List LayerItem) → length (flat_map field_bytes (field_list (leaving_from number stays n items))) ≡ weigh_items (leaving_from number stays n items)
entries_weigh number stays n [] = refl
entries_weigh number stays n (OfFeature feature ∷ items) = entries_weigh number stays n items
entries_weigh number stays n (PlainInLayer field ∷ items) =
    elim (cases_Bool (is_some (content_in number field))) [
      | inl is ↦ elim (cases_Bool (stays n)) [
        | inl here ↦ rw (is, here) (entries_weigh number stays (n + 1) items)
        | inr goes ↦ (
            let rest = leaving_from number stays (n + 1) items in
            rw (is, goes) (omega (arith, entries_weigh number stays (n + 1) items, length-append (field_bytes field) (flat_map field_bytes (field_list rest)), length-append (field_bytes field) (flat_map layer_item_bytes rest)))
            )
      ]
      | inr other ↦ rw other (entries_weigh number stays n items)
    ]

-- where the item is an entry it has two bytes
abbrev pub IsHeavy : LayerItem → Type 0
IsHeavy (OfFeature feature) = Unit {0}
IsHeavy (PlainInLayer field) = (number : ℕ) → is_some (content_in number field) ≡ true → 2 ≤ length (field_bytes field)

module _ (keys values : ℕ → Bool) where
  -- ---- the marks of all keys and values of a layer show which go

  abbrev key_marks : ℕ → List LayerItem → List Bool
  key_marks key items = stays_from keys key (length (contents key_field (plain_fields items)))

  abbrev value_marks : ℕ → List LayerItem → List Bool
  value_marks value items = stays_from values value (length (contents value_field (plain_fields items)))

  one_gone : (field : Field) (items : List LayerItem) (key value : ℕ) (key_content value_content : Option (List ℕ)) → content_in key_field field ≡ key_content → content_in value_field field ≡ value_content
      → ((key value : ℕ) → gone_by (key_marks key items) (value_marks value items) items ≡ gone_from keys values key value items)
      → gone_by (key_marks key (PlainInLayer field ∷ items)) (value_marks value (PlainInLayer field ∷ items)) (PlainInLayer field ∷ items) ≡ gone_from keys values key value (PlainInLayer field ∷ items)
  one_gone field items key value (Some bytes) value_content is_key is_value more =
      let no_value = key_apart field bytes is_key in
      rw (is_key, no_value) (ap (λ rest. not (keys key) ∷ rest) (more (key + 1) value))
  one_gone field items key value None (Some bytes) is_key is_value more = rw (is_key, is_value) (ap (λ rest. not (values value) ∷ rest) (more key (value + 1)))
  one_gone field items key value None None is_key is_value more = rw (is_key, is_value) (ap (λ rest. false ∷ rest) (more key value))

  pub gone_same : (items : List LayerItem) (key value : ℕ) → gone_by (key_marks key items) (value_marks value items) items ≡ gone_from keys values key value items
  gone_same [] key value = refl
  gone_same (OfFeature feature ∷ items) key value = ap (λ rest. false ∷ rest) (gone_same items key value)
  gone_same (PlainInLayer field ∷ items) key value = one_gone field items key value (content_in key_field field) (content_in value_field field) refl refl (gone_same items)

  -- ---- each item with whether it goes

  abbrev planned : ℕ → ℕ → List LayerItem → List (Bool × LayerItem)
  planned key value [] = []
  planned key value (item ∷ items) =
      cond (is_entry key_field item) ((not (keys key), item) ∷ planned (key + 1) value items)
      (cond (is_entry value_field item) ((not (values value), item) ∷ planned key (value + 1) items)
      ((false, item) ∷ planned key value items))

  abbrev item_of : Bool × LayerItem → LayerItem
  item_of p = p.1

  abbrev fate_of : Bool × LayerItem → Fate LayerItem
  fate_of p = goes_if p.0

  abbrev left_of : List (Bool × LayerItem) → List LayerItem
  left_of ps = flat_map (λ p. left_of_fate (λ y. y) (item_of p) (fate_of p)) ps

  abbrev taken_of : List (Bool × LayerItem) → List LayerItem
  taken_of ps = map item_of (filter (λ p. changes (fate_of p)) ps)

  items_planned : (items : List LayerItem) (key value : ℕ) → map item_of (planned key value items) ≡ items
  items_planned [] key value = refl
  items_planned (item ∷ items) key value =
      elim (kind_of item) [
        | inl key_so ↦ (let is = key_so.0 in let other = key_so.1 in rw is (ap (λ rest. item ∷ rest) (items_planned items (key + 1) value)))
        | inr others ↦ elim others [
          | inl value_so ↦ (let other = value_so.0 in let is = value_so.1 in rw (other, is) (ap (λ rest. item ∷ rest) (items_planned items key (value + 1))))
          | inr none_so ↦ (let none = none_so.0 in let other = none_so.1 in rw (none, other) (ap (λ rest. item ∷ rest) (items_planned items key value)))
        ]
      ]

  fates_planned : (items : List LayerItem) (key value : ℕ) → map fate_of (planned key value items) ≡ map (λ is. goes_if is) (gone_from keys values key value items)
  fates_planned [] key value = refl
  fates_planned (item ∷ items) key value =
      elim (kind_of item) [
        | inl key_so ↦ (let is = key_so.0 in let other = key_so.1 in rw is (ap (λ rest. goes_if (not (keys key)) ∷ rest) (fates_planned items (key + 1) value)))
        | inr others ↦ elim others [
          | inl value_so ↦ (let other = value_so.0 in let is = value_so.1 in rw (other, is) (ap (λ rest. goes_if (not (values value)) ∷ rest) (fates_planned items key (value + 1))))
          | inr none_so ↦ (let none = none_so.0 in let other = none_so.1 in rw (none, other) (ap (λ rest. goes_if false ∷ rest) (fates_planned items key value)))
        ]
      ]

  -- those that stay are left
  left_planned : (items : List LayerItem) (key value : ℕ) → left_of (planned key value items) ≡ staying (is_entry value_field) values value (staying (is_entry key_field) keys key items)
  left_planned [] key value = refl
  left_planned (item ∷ items) key value =
      elim (kind_of item) [
        | inl key_so ↦ (let is = key_so.0 in let other = key_so.1 in elim (cases_Bool (keys key)) [
          | inl stays ↦ rw (is, stays, other) (ap (λ rest. item ∷ rest) (left_planned items (key + 1) value))
          | inr goes ↦ rw (is, goes) (left_planned items (key + 1) value)
        ])
        | inr others ↦ elim others [
          | inl value_so ↦ (let other = value_so.0 in let is = value_so.1 in elim (cases_Bool (values value)) [
            | inl stays ↦ rw (other, is, stays) (ap (λ rest. item ∷ rest) (left_planned items key (value + 1)))
            | inr goes ↦ rw (other, is, goes) (left_planned items key (value + 1))
          ])
          | inr none_so ↦ (let none = none_so.0 in let other = none_so.1 in rw (none, other) (ap (λ rest. item ∷ rest) (left_planned items key value)))
        ]
      ]

  -- nothing comes in their place
  none_planned : (ps : List (Bool × LayerItem)) → flat_map (λ p. new_in (fate_of p)) ps ≡ []
  none_planned [] = refl
  none_planned (p ∷ ps) = elim (cases_Bool p.0) [ inl goes ↦ rw goes (none_planned ps) | inr stays ↦ rw stays (none_planned ps) ]

  -- ---- what goes

  taken_weigh : (items : List LayerItem) (key value : ℕ) → weigh_items (taken_of (planned key value items)) ≡ weigh_items (leaving_from key_field keys key items) + weigh_items (leaving_from value_field values value items)
  taken_weigh [] key value = refl
  taken_weigh (item ∷ items) key value =
      elim (kind_of item) [
        | inl key_so ↦ (let is = key_so.0 in let other = key_so.1 in elim (cases_Bool (keys key)) [
          | inl stays ↦ rw (is, other, stays) (taken_weigh items (key + 1) value)
          | inr goes ↦ rw (is, other, goes) (
              omega (arith, taken_weigh items (key + 1) value, weighs_one item (taken_of (planned (key + 1) value items)), weighs_one item (leaving_from key_field keys (key + 1) items))
              )
        ])
        | inr others ↦ elim others [
          | inl value_so ↦ (let other = value_so.0 in let is = value_so.1 in elim (cases_Bool (values value)) [
            | inl stays ↦ rw (other, is, stays) (taken_weigh items key (value + 1))
            | inr goes ↦ rw (other, is, goes) (
                omega (arith, taken_weigh items key (value + 1), weighs_one item (taken_of (planned key (value + 1) items)), weighs_one item (leaving_from value_field values (value + 1) items))
                )
          ])
          | inr none_so ↦ (let none = none_so.0 in let other = none_so.1 in rw (none, other) (taken_weigh items key value))
        ]
      ]

  -- ---- entries have at least two bytes

  entry_heavy : (number : ℕ) (item : LayerItem) → IsHeavy item → is_entry number item ≡ true → 2 ≤ length (layer_item_bytes item)
  entry_heavy number (OfFeature feature) heavy is = absurd cc
  entry_heavy number (PlainInLayer field) heavy is = heavy number is

  taken_heavy : (items : List LayerItem) (key value : ℕ) → AllByRecursion IsHeavy items → 2 * length (taken_of (planned key value items)) ≤ weigh_items (taken_of (planned key value items))
  taken_heavy [] key value heavy = omega arith
  taken_heavy (item ∷ items) key value heavy =
      elim (kind_of item) [
        | inl key_so ↦ (let is = key_so.0 in let other = key_so.1 in elim (cases_Bool (keys key)) [
          | inl stays ↦ rw (is, stays) (taken_heavy items (key + 1) value heavy.1)
          | inr goes ↦ (
              let long = entry_heavy key_field item heavy.0 is in
              let rest = taken_of (planned (key + 1) value items) in
              rw (is, goes) (omega (arith, long, taken_heavy items (key + 1) value heavy.1, weighs_one item rest))
              )
        ])
        | inr others ↦ elim others [
          | inl value_so ↦ (let other = value_so.0 in let is = value_so.1 in elim (cases_Bool (values value)) [
            | inl stays ↦ rw (other, is, stays) (taken_heavy items key (value + 1) heavy.1)
            | inr goes ↦ (
                let long = entry_heavy value_field item heavy.0 is in
                let rest = taken_of (planned key (value + 1) items) in
                rw (other, is, goes) (omega (arith, long, taken_heavy items key (value + 1) heavy.1, weighs_one item rest))
                )
          ])
          | inr none_so ↦ (let none = none_so.0 in let other = none_so.1 in rw (none, other) (taken_heavy items key value heavy.1))
        ]
      ]

  -- ---- the splices

  -- the splices can be carried out on the items and leave those that stay; they put nothing, and take out the entries
  -- that go
  pub record TakesEntries (items : List LayerItem) : Type 0 where
    pub there : AreThere (entry_splices (gone_from keys values 0 0 items)) items
    pub leaves : spliced_all (entry_splices (gone_from keys values 0 0 items)) items ≡ staying (is_entry value_field) values 0 (staying (is_entry key_field) keys 0 items)
    pub puts : put_all (entry_splices (gone_from keys values 0 0 items)) ≡ []
    pub takes : weigh_items (taken_all (entry_splices (gone_from keys values 0 0 items)) items) ≡ weigh_items (leaving key_field keys items) + weigh_items (leaving value_field values items)
    pub few : 2 * length (entry_splices (gone_from keys values 0 0 items)) ≤ weigh_items (taken_all (entry_splices (gone_from keys values 0 0 items)) items)

  pub takes_entries : (items : List LayerItem) → AllByRecursion IsHeavy items → TakesEntries items
  takes_entries items heavy =
      let ps = planned 0 0 items in
      let all = carries_beside item_of fate_of ps in
      let same = items_planned items 0 0 in
      let fates = fates_planned items 0 0 in
      let splices = entry_splices (gone_from keys values 0 0 items) in
      let are : splices_of (map fate_of ps) ≡ splices = ap splices_of fates in
      let there : AreThere splices items = subst (λ list. AreThere splices list) same (subst (λ s. AreThere s (map item_of ps)) are all.there) in
      let leaves : spliced_all splices items ≡ left_of ps = ap (λ s. spliced_all s items) (sym are) ∙ ap (spliced_all (splices_of (map fate_of ps))) (sym same) ∙ all.leaves in
      let takes : taken_all splices items ≡ taken_of ps = ap (λ s. taken_all s items) (sym are) ∙ ap (taken_all (splices_of (map fate_of ps))) (sym same) ∙ all.takes in
      record {
        there = there;
        leaves = leaves ∙ left_planned items 0 0;
        puts = ap put_all (sym are) ∙ all.puts ∙ none_planned ps;
        takes = ap weigh_items takes ∙ taken_weigh items 0 0;
        few = omega (arith, all.few, ap length are, taken_heavy items 0 0 heavy, ap weigh_items takes);
      }

-- ---- where the features of the layer have changed

module _ (keys values : ℕ → Bool) (change : List Field → List Field) where
  pub gone_changed : (items : List LayerItem) (key value : ℕ) → gone_from keys values key value (map (in_feature change) items) ≡ gone_from keys values key value items
  gone_changed [] key value = refl
  gone_changed (OfFeature feature ∷ items) key value = ap (λ rest. false ∷ rest) (gone_changed items key value)
  gone_changed (PlainInLayer field ∷ items) key value =
      elim (kind_of (PlainInLayer field)) [
        | inl key_so ↦ (let is = key_so.0 in let other = key_so.1 in rw is (ap (λ rest. not (keys key) ∷ rest) (gone_changed items (key + 1) value)))
        | inr others ↦ elim others [
          | inl value_so ↦ (let other = value_so.0 in let is = value_so.1 in rw (other, is) (ap (λ rest. not (values value) ∷ rest) (gone_changed items key (value + 1))))
          | inr none_so ↦ (let none = none_so.0 in let other = none_so.1 in rw (none, other) (ap (λ rest. false ∷ rest) (gone_changed items key value)))
        ]
      ]

entries_changed : (change : List Field → List Field) (number : ℕ) (items : List LayerItem) → filter (is_entry number) (map (in_feature change) items) ≡ filter (is_entry number) items
entries_changed change number [] = refl
entries_changed change number (OfFeature feature ∷ items) = entries_changed change number items
entries_changed change number (PlainInLayer field ∷ items) =
    elim (cases_Bool (is_some (content_in number field))) [
      | inl is ↦ rw is (ap (λ rest. PlainInLayer field ∷ rest) (entries_changed change number items))
      | inr other ↦ rw other (entries_changed change number items)
    ]

pub leaving_changed : (change : List Field → List Field) (number : ℕ) (stays : ℕ → Bool) (items : List LayerItem) → leaving number stays (map (in_feature change) items) ≡ leaving number stays items
leaving_changed change number stays items =
    ap (λ entries. map (λ (entry : ℕ × LayerItem). entry.1) (filter (λ (entry : ℕ × LayerItem). not (stays entry.0)) (enumerate_from 0 entries))) (entries_changed change number items)

pub heavy_changed : (change : List Field → List Field) (items : List LayerItem) → AllByRecursion IsHeavy items → AllByRecursion IsHeavy (map (in_feature change) items)
heavy_changed change [] heavy = tt
heavy_changed change (OfFeature feature ∷ items) heavy = (tt, heavy_changed change items heavy.1)
heavy_changed change (PlainInLayer field ∷ items) heavy = (heavy.0, heavy_changed change items heavy.1)
