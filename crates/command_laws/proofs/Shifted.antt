-- What an accepted shift makes of a tile.
use Rattle.std.proofs.Common.{◌≡◌, ℕ, ◌-◌, ◌*◌, ◌^◌, ◌≤◌, Bool, true, ◌&&◌, not, cond, ◌==◌, ℤ, pos, ◌+ℤ◌, is_some, Option, Some, None, Ok, List, [], ◌∷◌, length, refl, sym, ap, ◌∙◌, subst, arith}
use Rattle.std.proofs.lemmas.Bool.{cond_both, not-false}
use Rattle.std.proofs.lemmas.Int.{ints}
use Rattle.std.proofs.lemmas.List.{length-map}
use Rattle.std.specs.List.{flat_map, last_or}
use Rattle.std.specs.Option.{option_map_or, unwrap_or}
use Rattle.mvt_document.specs.declared.TheConstants.{MAX_FILE}
use Rattle.mvt_document.specs.Places.{in_feature, in_layer}
use Rattle.mvt_document.specs.Plain.{Number, Field, Feature, LayerItem, OfFeature, PlainInLayer, TileItem, OfLayer, PlainInTile, Document}
use Rattle.mvt_document.specs.Signed.{unzigzag, zigzag}
use Rattle.mvt_document.proofs.Signed.{zigzag-unzigzag}
use Rattle.mvt_geometry.specs.Integers.{HasGeometry}
use Rattle.mvt_geometry.specs.Shapes.{Geometry}
use Rattle.mvt_geometry.proofs.Only.{one_geometry}
use Rattle.mvt_renumber.specs.Laws.{AreShort, read_numbers}
use Rattle.mvt_messages.specs.Numbers.{numbers}
use Rattle.mvt_renumber.specs.Renumbering.{field_numbers, renumber, renumbered}
use Rattle.mvt_renumber.proofs.Decisions.{with_number-same}
use Rattle.mvt_renumber.proofs.Redone.{left_is_read}
use Rattle.mvt_renumber.proofs.Reread.{read_of_fields}
use Rattle.mvt_messages.specs.Attributes.{values_in}
use Rattle.mvt_view.specs.FeatureGeometry.{HasFeatureGeometry}
use Rattle.mvt_view.proofs.HasGeometry.{geometry_of}
use Rattle.mvt_messages.specs.Views.{kind_of}
use Rattle.mvt_meaning.specs.Geometries.{can_move, can_move_integers, further, geometry_among, integers_among, moved_integers, moves, shifted}
use Rattle.mvt_meaning.specs.Command.{FeatureChoice, LayerChoice, Shift}
use Rattle.mvt_meaning.specs.Meaning.{◌>>=◌, applied, can_shift, change_feature, is_drawn, refuse_if, within_limit}
use Rattle.mvt_meaning.specs.Ordinals.{change_nth}
use Rattle.mvt_meaning.specs.Selection.{is_feature, is_layer, selected, selected_in}
use Rattle.mvt_meaning.specs.declared.refusal.Refusal.TheVariants.{BadGeometry, OutOfRange}
use Rattle.mvt_meaning.proofs.Given.{number_given}
use Rattle.mvt_meaning.proofs.Moving.{moves_short}
use Rattle.command_laws.specs.Kept.{ChangesFeature}
use Rattle.command_laws.proofs.Accepted.{accepted, feature_selects, not_refused, within_is}
use Rattle.command_laws.proofs.OtherFields.{others_stay, values_stay}
use Rattle.command_laws.proofs.Parts.{changes_feature, changes_layer, fields_found, with_fields}
use Rattle.command_laws.proofs.ReadValues.{numbers_of_values, value_list, values_of_read}
use Rattle.command_laws.specs.GeometryLaws.{ShiftByNothing, ShiftShifts, Shifts, led_further, moved, without_geometry}
use Rattle.command_laws.proofs.Counted.{numbers_within}
use Rattle.command_laws.proofs.Renumbered.{AllSome, all_stay, counts_stay, fronts_stay}
use Rattle.command_laws.proofs.Translated.{first_deltas, has_moved, led}

-- ---- the numbers

-- a list of numbers whose values are three and more
pub record Three (list : List Number) : Type 0 where
  pub command : Number
  pub along : Number
  pub down : Number
  pub more : List Number
  pub is : list ≡ command ∷ along ∷ down ∷ more

pub three : (list : List Number) (c x y : ℕ) (more : List ℕ) → value_list list ≡ c ∷ x ∷ y ∷ more → Three list
three [] c x y more e = absurd (omega (arith, ap length e))
three (command ∷ []) c x y more e = absurd (omega (arith, ap length e))
three (command ∷ along ∷ []) c x y more e = absurd (omega (arith, ap length e))
three (command ∷ along ∷ down ∷ list) c x y more e = record { command = command; along = along; down = down; more = list; is = refl }

module _ (dx dy : ℤ) where
  pub decided_so : (command along down : Number) (more : List Number) → renumbered (moved_integers dx dy (value_list (command ∷ along ∷ down ∷ more))) (command ∷ along ∷ down ∷ more) ≡ command ∷ led_further dx along ∷ led_further dy down ∷ more
  decided_so command along down more = ap (λ (n : Number). n ∷ led_further dx along ∷ led_further dy down ∷ more) (with_number-same command.value command refl)

  pub values_led : (command along down : Number) (more : List Number) → value_list (command ∷ led_further dx along ∷ led_further dy down ∷ more) ≡ led dx dy (value_list (command ∷ along ∷ down ∷ more))
  values_led command along down more =
      ap (λ (x : ℕ). command.value ∷ x ∷ (led_further dy down).value ∷ value_list more) (number_given (zigzag (further dx along.value)) along)
      ∙ ap (λ (y : ℕ). command.value ∷ zigzag (further dx along.value) ∷ y ∷ value_list more) (number_given (zigzag (further dy down.value)) down)

  -- which decisions the numbers of a feature's geometry make
  pub moves_found : (fields : List Field) (list : List Number) → read_numbers 4 fields ≡ Some list → moves dx dy fields ≡ moved_integers dx dy (value_list list)
  moves_found fields list read = ap (λ (found : Option (List ℕ)). option_map_or (moved_integers dx dy) found []) (values_of_read 4 fields list read)

  pub shifted_read : (fields : List Field) (command along down : Number) (more : List Number) → AreShort (moves dx dy fields) → read_numbers 4 fields ≡ Some (command ∷ along ∷ down ∷ more) → read_numbers 4 (shifted dx dy fields) ≡ Some (command ∷ led_further dx along ∷ led_further dy down ∷ more)
  shifted_read fields command along down more short read =
      let list : List Number = command ∷ along ∷ down ∷ more in
      left_is_read 4 (moves dx dy fields) fields list short read
      ∙ ap (λ (decisions : List (Option ℕ)). Some (renumbered decisions list)) (moves_found fields list read)
      ∙ ap Some (decided_so command along down more)

  integers_some : (list : List ℕ) → AllSome (moved_integers dx dy list)
  integers_some [] = tt
  integers_some (command ∷ []) = tt
  integers_some (command ∷ x ∷ []) = tt
  integers_some (command ∷ x ∷ y ∷ more) = (refl, (refl, (refl, tt)))

  some_by : (found : Option (List ℕ)) → AllSome (option_map_or (moved_integers dx dy) found [])
  some_by None = tt
  some_by (Some list) = integers_some list

  pub moves_some : (fields : List Field) → AllSome (moves dx dy fields)
  moves_some fields = some_by (integers_among fields)

-- ---- a feature

-- the kind of a feature depends on its fields that are not geometry fields
pub kind_stays : (old new : Feature) → without_geometry new.fields ≡ without_geometry old.fields → kind_of new ≡ kind_of old
kind_stays old new same = ap (λ (values : List ℕ). unwrap_or (last_or None values) 0) (values_stay 4 3 (λ e. omega (arith, e)) old.fields new.fields same)

pub same_integers : (found : Option (List ℕ)) (a b : List ℕ) → found ≡ Some a → found ≡ Some b → b ≡ a
same_integers found a b first second = let both = sym first ∙ second in cc

-- a feature has at most one geometry
pub one_of_feature : (feature : Feature) (g : Geometry) → HasFeatureGeometry feature g → (other : Geometry) → HasFeatureGeometry feature other → other ≡ g
one_of_feature feature g has other h =
    let same = same_integers (integers_among feature.fields) has.integers h.integers has.read h.read in
    one_geometry (kind_of feature) has.integers other g (subst (λ (list : List ℕ). HasGeometry (kind_of feature) list other) same h.has) has.has

module _ (dx dy : ℤ) where
  pub shifts : (old : Feature) → is_some (geometry_among old.fields) ≡ true → can_move dx dy old.fields ≡ true → ((list : List Number) → read_numbers 4 old.fields ≡ Some list → length list ≤ MAX_FILE) → Shifts dx dy old (with_fields (shifted dx dy) old)
  shifts old drawn can few =
      let g = geometry_of old drawn in
      let h = g.1 in
      let n = numbers_of_values 4 old.fields h.integers h.read in
      let w = first_deltas dx dy (kind_of old) h.integers g.0 h.has in
      let t = three n.list w.number w.x w.y w.more (n.are ∙ w.spelled) in
      let were : read_numbers 4 old.fields ≡ Some (t.command ∷ t.along ∷ t.down ∷ t.more) = n.read ∙ ap Some t.is in
      let short = moves_short dx dy old.fields drawn can in
      let are = shifted_read dx dy old.fields t.command t.along t.down t.more short were in
      let new : Feature = with_fields (shifted dx dy) old in
      let others = others_stay 4 (moves dx dy old.fields) old.fields in
      let values : value_list (t.command ∷ t.along ∷ t.down ∷ t.more) ≡ h.integers = ap value_list (sym t.is) ∙ n.are in
      let counted : length n.list ≡ length h.integers = sym (length-map n.list (λ (n : Number). n.value)) ∙ ap length n.are in
      let low : length h.integers * 2 ^ 31 ≤ 2 ^ 62 = omega (arith, few n.list n.read, counted) in
      let able : can_move_integers dx dy h.integers ≡ true = sym (ap (λ (found : Option (List ℕ)). option_map_or (can_move_integers dx dy) found true) h.read) ∙ can in
      let again : HasGeometry (kind_of old) (led dx dy h.integers) (moved dx dy g.0) = has_moved dx dy (kind_of old) h.integers g.0 h.has able low in
      let has : HasFeatureGeometry new (moved dx dy g.0) = record {
        integers = led dx dy h.integers;
        read = values_of_read 4 new.fields (t.command ∷ led_further dx t.along ∷ led_further dy t.down ∷ t.more) are
            ∙ ap Some (values_led dx dy t.command t.along t.down t.more ∙ ap (led dx dy) values);
        has = subst (λ (kind : ℕ). HasGeometry kind (led dx dy h.integers) (moved dx dy g.0)) (sym (kind_stays old new others)) again;
      } in
      record {
        geometry = g.0;
        had = h;
        has = has;
        only = one_of_feature new (moved dx dy g.0) has;
        command = t.command;
        along = t.along;
        down = t.down;
        more = t.more;
        were = were;
        are = are;
        fronts = fronts_stay 4 (moves dx dy old.fields) old.fields (moves_some dx dy old.fields);
        counts = counts_stay 4 (moves dx dy old.fields) old.fields (moves_some dx dy old.fields) short;
        others = others;
      }

-- ---- the selected feature

-- what an accepted shift was asked of, and what it made
pub record IsShift (choice : LayerChoice) (feature : FeatureChoice) (dx dy : ℤ) (old new : Document) : Type 0 where
  pub ordinal : ℕ
  pub selects : selected choice old ≡ Ok ordinal
  pub index : ℕ
  pub found : selected_in feature ordinal old ≡ Ok index
  pub drawn : is_drawn ordinal index old ≡ true
  pub can : can_shift dx dy ordinal index old ≡ true
  pub made : change_feature (shifted dx dy) ordinal index old ≡ new

pub is_shift : (choice : LayerChoice) (feature : FeatureChoice) (dx dy : ℤ) (old new : Document) → applied (Shift choice feature dx dy) old ≡ Ok new → IsShift choice feature dx dy old new
is_shift choice feature dx dy old new e =
    let change : List Field → List Field = shifted dx dy in
    let selects = accepted (selected choice old) (λ ordinal. selected_in feature ordinal old >>= λ selects. refuse_if (not (is_drawn ordinal selects old)) (BadGeometry ordinal selects) >>= λ readable. refuse_if (not (can_shift dx dy ordinal selects old)) OutOfRange >>= λ short. within_limit (change_feature change ordinal selects old)) new e in
    let found = accepted (selected_in feature selects.0 old) (λ found. refuse_if (not (is_drawn selects.0 found old)) (BadGeometry selects.0 found) >>= λ readable. refuse_if (not (can_shift dx dy selects.0 found old)) OutOfRange >>= λ short. within_limit (change_feature change selects.0 found old)) new selects.2 in
    let bad = not (is_drawn selects.0 found.0 old) in
    let far = not (can_shift dx dy selects.0 found.0 old) in
    let readable = accepted (refuse_if bad (BadGeometry selects.0 found.0)) (λ readable. refuse_if far OutOfRange >>= λ short. within_limit (change_feature change selects.0 found.0 old)) new found.2 in
    let short = accepted (refuse_if far OutOfRange) (λ short. within_limit (change_feature change selects.0 found.0 old)) new readable.2 in
    record {
      ordinal = selects.0;
      selects = selects.1;
      index = found.0;
      found = found.1;
      drawn = not-false (is_drawn selects.0 found.0 old) (not_refused bad (BadGeometry selects.0 found.0) readable.0 readable.1);
      can = not-false (can_shift dx dy selects.0 found.0 old) (not_refused far OutOfRange short.0 short.1);
      made = within_is (change_feature change selects.0 found.0 old) new short.2;
    }

pub shift_shifts : ShiftShifts
shift_shifts choice feature dx dy old new valid within e =
    let s = is_shift choice feature dx dy old new e in
    let change : List Field → List Field = shifted dx dy in
    changes_layer choice (ChangesFeature feature (Shifts dx dy)) (change_nth is_feature (in_feature change) s.index) old new s.ordinal s.selects s.made (λ layer is.
    changes_feature feature (Shifts dx dy) change layer s.index (feature_selects feature old layer s.ordinal s.index is s.found) (λ former was.
    let fields = fields_found old s.ordinal s.index layer former is was in
    shifts dx dy former
    (subst (λ (fs : List Field). is_some (geometry_among fs) ≡ true) fields s.drawn)
    (subst (λ (fs : List Field). can_move dx dy fs ≡ true) fields s.can)
    (λ list read. numbers_within 4 old s.ordinal s.index layer former list valid within is was read)))

-- ---- a shift by nothing

no_delta : (z : ℤ) → z +ℤ pos 0 ≡ z
no_delta z = omega (arith, ints)

-- a parameter that leads no further
pub no_further : (number : Number) → led_further (pos 0) number ≡ number
no_further number =
    with_number-same (zigzag (further (pos 0) number.value)) number (sym (ap zigzag (no_delta (unzigzag number.value)) ∙ zigzag-unzigzag number.value))

nothing_decided : (list : List Number) → renumbered (moved_integers (pos 0) (pos 0) (value_list list)) list ≡ list
nothing_decided [] = refl
nothing_decided (command ∷ []) = refl
nothing_decided (command ∷ along ∷ []) = refl
nothing_decided (command ∷ along ∷ down ∷ more) =
    decided_so (pos 0) (pos 0) command along down more
    ∙ ap (λ (n : Number). command ∷ n ∷ led_further (pos 0) down ∷ more) (no_further along)
    ∙ ap (λ (n : Number). command ∷ along ∷ n ∷ more) (no_further down)

nothing_by : (fields : List Field) (found : Option (List ℕ)) → values_in (numbers 4 fields) ≡ found → renumber 4 (option_map_or (moved_integers (pos 0) (pos 0)) found []) fields ≡ fields
nothing_by fields None read = all_stay 4 [] fields tt refl
nothing_by fields (Some values) read =
    let n = numbers_of_values 4 fields values read in
    let whole : flat_map (field_numbers 4) fields ≡ n.list = read_of_fields 4 fields n.list n.read in
    let decisions : List (Option ℕ) = moved_integers (pos 0) (pos 0) values in
    let stay : renumbered decisions n.list ≡ n.list =
    ap (λ (list : List ℕ). renumbered (moved_integers (pos 0) (pos 0) list) n.list) (sym n.are) ∙ nothing_decided n.list in
    all_stay 4 decisions fields (integers_some (pos 0) (pos 0) values) (ap (renumbered decisions) whole ∙ stay ∙ sym whole)

nothing_shifts : (fields : List Field) → shifted (pos 0) (pos 0) fields ≡ fields
nothing_shifts fields = nothing_by fields (values_in (numbers 4 fields)) refl

-- the item of an ordinal changed by what changes no item
unchanged : {A : Type 0} (passes : A → Bool) (change : A → A) → ((x : A) → change x ≡ x) → (ordinal : ℕ) (xs : List A) → change_nth passes change ordinal xs ≡ xs
unchanged passes change same ordinal [] = refl
unchanged passes change same ordinal (x ∷ xs) =
    let next = cond (passes x) (ordinal - 1) ordinal in
    cond_both (passes x && (ordinal == 0)) (change x ∷ xs) (x ∷ change_nth passes change next xs) (λ ys. ys ≡ x ∷ xs)
    (λ _. ap (λ y. y ∷ xs) (same x))
    (λ _. ap (λ ys. x ∷ ys) (unchanged passes change same next xs))

feature_unchanged : (change : List Field → List Field) → ((fields : List Field) → change fields ≡ fields) → (item : LayerItem) → in_feature change item ≡ item
feature_unchanged change same (OfFeature feature) = ap (λ (fields : List Field). OfFeature (record { tag = feature.tag; width = feature.width; fields = fields })) (same feature.fields)
feature_unchanged change same (PlainInLayer field) = refl

layer_unchanged : (change : List LayerItem → List LayerItem) → ((items : List LayerItem) → change items ≡ items) → (item : TileItem) → in_layer change item ≡ item
layer_unchanged change same (OfLayer layer) = ap (λ (items : List LayerItem). OfLayer (record { tag = layer.tag; width = layer.width; items = items })) (same layer.items)
layer_unchanged change same (PlainInTile field) = refl

pub shift_by_nothing : ShiftByNothing
shift_by_nothing choice feature old new e =
    let s = is_shift choice feature (pos 0) (pos 0) old new e in
    let change : List Field → List Field = shifted (pos 0) (pos 0) in
    let inner : List LayerItem → List LayerItem = change_nth is_feature (in_feature change) s.index in
    let in_items : (items : List LayerItem) → inner items ≡ items = unchanged is_feature (in_feature change) (feature_unchanged change nothing_shifts) s.index in
    sym s.made ∙ unchanged is_layer (in_layer inner) (layer_unchanged inner in_items) s.ordinal old
