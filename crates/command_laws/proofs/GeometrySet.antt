-- What an accepted geometry makes of a tile.
use Rattle.std.proofs.Common.{◌≡◌, ℕ, Bool, true, false, not, Option, Some, None, List, [], ◌∷◌, map, filter, refl, ap, ◌∙◌, inl, inr, arith}
use Rattle.std.proofs.lemmas.Bool.{cases_Bool, not-false}
use Rattle.std.proofs.lemmas.List.{append-nil}
use Rattle.std.specs.List.{filter_map, last_or}
use Rattle.std.specs.Option.{unwrap_or}
use Rattle.mvt_document.specs.Places.{in_feature}
use Rattle.mvt_document.specs.Plain.{Number, Field, Feature}
use Rattle.mvt_document.specs.Wire.{minimal}
use Rattle.mvt_geometry.specs.Checks.{is_in_range}
use Rattle.mvt_geometry.specs.Integers.{IsInRange, encoded, integers}
use Rattle.mvt_geometry.specs.Shapes.{Geometry, IsGeometry, kind_number}
use Rattle.mvt_geometry.proofs.Checks.{in_range-Decides}
use Rattle.mvt_geometry.proofs.Small.{packs_integers}
use Rattle.mvt_renumber.specs.Deciding.{packed_numbers}
use Rattle.mvt_renumber.specs.Laws.{read_numbers}
use Rattle.mvt_messages.specs.Numbers.{numbers}
use Rattle.mvt_renumber.proofs.Decisions.{packed-spellings}
use Rattle.mvt_renumber.proofs.Reread.{both_found, field_read, fields_read, found_in, read_is}
use Rattle.mvt_messages.specs.Attributes.{values_in}
use Rattle.mvt_view.specs.FeatureGeometry.{HasFeatureGeometry}
use Rattle.mvt_messages.specs.Views.{kind_of, value_in}
use Rattle.mvt_meaning.specs.Fields.{new_content, new_number, with_field_value}
use Rattle.mvt_meaning.specs.Geometries.{is_geometry_field, is_kind, with_geometry, with_kind}
use Rattle.mvt_meaning.specs.Meaning.{◌>>=◌, change_feature, refuse_if, within_limit}
use Rattle.mvt_meaning.specs.Ordinals.{change_nth, put_once}
use Rattle.mvt_meaning.specs.Selection.{is_feature, selected, selected_in}
use Rattle.mvt_meaning.specs.declared.refusal.Refusal.TheVariants.{OutOfRange}
use Rattle.mvt_meaning.proofs.Given.{value_given}
use Rattle.mvt_meaning.proofs.PutOnce.{put_alone}
use Rattle.command_laws.specs.Kept.{ChangesFeature}
use Rattle.command_laws.proofs.Accepted.{accepted, feature_selects, not_refused, within_is}
use Rattle.command_laws.proofs.LastPut.{last_put, others_put, parts_put}
use Rattle.command_laws.proofs.OtherFields.{none_of, values_stay}
use Rattle.command_laws.proofs.Parts.{changes_feature, changes_layer, with_fields}
use Rattle.command_laws.proofs.ReadValues.{value_list, values_of_read}
use Rattle.command_laws.specs.GeometryLaws.{SetGeometrySets, SetsGeometry, without_geometry, without_kind}
use Rattle.command_laws.proofs.Shifted.{one_of_feature}

-- ---- lists with items left out

module _ {A : Type 0} (passes : A → Bool) where
  out_twice : (xs : List A) → filter (λ x. not (passes x)) (filter (λ x. not (passes x)) xs) ≡ filter (λ x. not (passes x)) xs
  out_twice [] = refl
  out_twice (x ∷ xs) = elim (cases_Bool (passes x)) [ inl pass ↦ rw pass (out_twice xs) | inr skip ↦ rw (skip, skip) (ap (λ rest. x ∷ rest) (out_twice xs)) ]

  put_others : (new : A) → passes new ≡ true → (xs : List A) → filter (λ x. not (passes x)) (put_once passes new xs) ≡ filter (λ x. not (passes x)) xs
  put_others new own [] = rw own refl
  put_others new own (x ∷ xs) =
      elim (cases_Bool (passes x)) [
        | inl pass ↦ rw (pass, own) (out_twice xs)
        | inr skip ↦ rw (skip, skip) (ap (λ rest. x ∷ rest) (put_others new own xs))
      ]

-- two tests in either order
swapped : {A : Type 0} (one other : A → Bool) (xs : List A) → filter one (filter other xs) ≡ filter other (filter one xs)
swapped one other [] = refl
swapped one other (x ∷ xs) =
    elim (cases_Bool (one x)) [
      | inl first ↦ elim (cases_Bool (other x)) [
        | inl second ↦ rw (first, second, first) (ap (λ rest. x ∷ rest) (swapped one other xs))
        | inr second ↦ rw (first, second) (swapped one other xs)
      ]
      | inr first ↦ elim (cases_Bool (other x)) [
        | inl second ↦ rw (first, second, first) (swapped one other xs)
        | inr second ↦ rw (first, second) (swapped one other xs)
      ]
    ]

-- ---- what is read

no_numbers : (field : Field) → is_geometry_field field ≡ false → field_read 4 field ≡ Some []
no_numbers field other = ap found_in (none_of 4 0 field.tag field.body other)

none_read : (xs : List Field) → fields_read 4 (without_geometry xs) ≡ Some []
none_read [] = refl
none_read (x ∷ xs) =
    elim (cases_Bool (is_geometry_field x)) [
      | inl own ↦ rw own (none_read xs)
      | inr other ↦ rw other (ap (λ (found : Option (List Number)). both_found found (fields_read 4 (without_geometry xs))) (no_numbers x other) ∙ ap (both_found (Some [])) (none_read xs))
    ]

module _ (drawing : Field) (list : List Number) (is : field_read 4 drawing ≡ Some list) where
  alone_read : (rest : Option (List Number)) → rest ≡ Some [] → both_found (field_read 4 drawing) rest ≡ Some list
  alone_read rest none =
      ap (both_found (field_read 4 drawing)) none ∙ ap (λ (found : Option (List Number)). both_found found (Some [])) is ∙ ap Some (append-nil list)

  put_read : (xs : List Field) → fields_read 4 (put_once is_geometry_field drawing xs) ≡ Some list
  put_read [] = alone_read (Some []) refl
  put_read (x ∷ xs) =
      elim (cases_Bool (is_geometry_field x)) [
        | inl own ↦ rw own (alone_read (fields_read 4 (without_geometry xs)) (none_read xs))
        | inr other ↦ (
            rw other
            (ap (λ (found : Option (List Number)). both_found found (fields_read 4 (put_once is_geometry_field drawing xs))) (no_numbers x other)
            ∙ ap (both_found (Some [])) (put_read xs))
            )
      ]

values_minimal : (list : List ℕ) → value_list (map minimal list) ≡ list
values_minimal [] = refl
values_minimal (value ∷ list) = ap (λ (rest : List ℕ). value ∷ rest) (values_minimal list)

drawing_read : (geometry : Geometry) → IsGeometry geometry → IsInRange geometry → field_read 4 (new_content 34 (encoded geometry)) ≡ Some (map minimal (integers geometry))
drawing_read geometry valid range =
    let packs = packs_integers geometry valid range in
    let own : field_read 4 (new_content 34 (encoded geometry)) ≡ packed_numbers (encoded geometry) = refl in
    own ∙ ap packed_numbers packs.spelled ∙ packed-spellings (map minimal (integers geometry)) packs.valid

-- ---- a feature

module _ (geometry : Geometry) (valid : IsGeometry geometry) (range : IsInRange geometry) where
  sets : (old : Feature) → SetsGeometry geometry old (with_fields (with_geometry geometry) old)
  sets old =
      let kind = kind_number geometry.kind in
      let drawing : Field = new_content 34 (encoded geometry) in
      let kinded : List Field = with_kind kind old.fields in
      let new : Feature = with_fields (with_geometry geometry) old in
      let others : without_geometry new.fields ≡ without_geometry kinded = put_others is_geometry_field drawing refl kinded in
      let values : filter_map (value_in 3) new.fields ≡ filter_map (value_in 3) kinded = values_stay 4 3 (λ e. omega (arith, e)) kinded new.fields others in
      let last = last_put (value_in 3) (with_field_value kind) kind (value_given 3 kind) (new_number 24 kind) old.fields refl in
      let kind_so : kind_of new ≡ kind = ap (λ (found : List ℕ). unwrap_or (last_or None found) 0) values ∙ ap (λ (found : Option ℕ). unwrap_or found 0) last in
      let read : read_numbers 4 new.fields ≡ Some (map minimal (integers geometry)) =
      read_is 4 new.fields ∙ put_read drawing (map minimal (integers geometry)) (drawing_read geometry valid range) kinded in
      let found : values_in (numbers 4 new.fields) ≡ Some (integers geometry) =
      values_of_read 4 new.fields (map minimal (integers geometry)) read ∙ ap Some (values_minimal (integers geometry)) in
      let has : HasFeatureGeometry new geometry = record { integers = integers geometry; read = found; has = record { of_kind = kind_so; valid = valid; in_range = range; spelled = refl } } in
      record {
        has = has;
        only = one_of_feature new geometry has;
        last = values ∙ parts_put (value_in 3) (with_field_value kind) kind (value_given 3 kind) (new_number 24 kind) old.fields refl;
        once = put_alone is_geometry_field drawing refl kinded;
        others = swapped (λ field. not (is_geometry_field field)) (λ field. not (is_kind field)) new.fields
            ∙ ap without_kind others
            ∙ swapped (λ field. not (is_kind field)) (λ field. not (is_geometry_field field)) kinded
            ∙ ap without_geometry (others_put (value_in 3) (with_field_value kind) kind (value_given 3 kind) (new_number 24 kind) old.fields refl);
      }

pub set_geometry_sets : SetGeometrySets
set_geometry_sets choice feature geometry old new valid e =
    let change : List Field → List Field = with_geometry geometry in
    let far = not (is_in_range geometry) in
    let selects = accepted (selected choice old) (λ ordinal. selected_in feature ordinal old >>= λ selects. refuse_if far OutOfRange >>= λ short. within_limit (change_feature change ordinal selects old)) new e in
    let found = accepted (selected_in feature selects.0 old) (λ found. refuse_if far OutOfRange >>= λ short. within_limit (change_feature change selects.0 found old)) new selects.2 in
    let short = accepted (refuse_if far OutOfRange) (λ short. within_limit (change_feature change selects.0 found.0 old)) new found.2 in
    let made = within_is (change_feature change selects.0 found.0 old) new short.2 in
    let range = (in_range-Decides geometry).0 (not-false (is_in_range geometry) (not_refused far OutOfRange short.0 short.1)) in
    changes_layer choice (ChangesFeature feature (SetsGeometry geometry)) (change_nth is_feature (in_feature change) found.0) old new selects.0 selects.1 made (λ layer is.
    changes_feature feature (SetsGeometry geometry) change layer found.0 (feature_selects feature old layer selects.0 found.0 is found.1) (λ former was. sets geometry valid range former))
