-- The steps by which the fields of a feature become what is left of them, where the numbers in the fields of one number are
-- decided on.
use Rattle.std.proofs.Common.{◌≡◌, ℕ, ◌*◌, ◌≤◌, Option, Some, List, length, map, slice_get, sym, ap, ◌∙◌, arith}
use Rattle.std.proofs.lemmas.List.{length-map}
use Rattle.std.specs.List.{flat_map}
use Rattle.mvt_document.specs.Plain.{Field, Feature, OfFeature, Layer, OfLayer, Document}
use Rattle.mvt_document.specs.Wire.{field_bytes}
use Rattle.mvt_renumber.specs.Renumbering.{renumber}
use Rattle.mvt_change.specs.Changes.{Change, Fits, go, turn, weight}
use Rattle.mvt_meaning.specs.Decided.{as_before, as_renumbered, renumbered_fields}
use Rattle.mvt_meaning.specs.Meaning.{change_feature}
use Rattle.mvt_meaning.specs.Selection.{feature_positions, layer_positions}
use Rattle.mvt_meaning.proofs.Found.{change_feature_found, fields_at_found}
use Rattle.mvt_edit_steps.specs.Decided.{field_fates}
use Rattle.mvt_edit_steps.specs.Fates.{splices_of}
use Rattle.mvt_edit_steps.proofs.Carrying.{carried, in_feature_at, in_the_feature, makes_alike}
use Rattle.mvt_edit_steps.proofs.FieldsLeft.{FieldsLeft}

-- the change makes this document; it takes out the fields that differ and puts what becomes of them, and has at most
-- half as many steps as these have bytes
pub record Renumbers (number : ℕ) (decisions : List (Option ℕ)) (fields : List Field) (document after : Document) (change : Change) : Type 0 where
  pub fits : Fits change document
  pub makes : go change document ≡ after
  pub puts_so : weight change ≡ length (flat_map field_bytes (as_renumbered number (renumbered_fields number decisions fields)))
  pub takes_so : weight (turn change document) ≡ length (flat_map field_bytes (as_before (renumbered_fields number decisions fields)))
  pub few : 2 * length change ≤ length (flat_map field_bytes (as_before (renumbered_fields number decisions fields)))

module _ (document : Document) (ordinal position : ℕ) (layer : Layer) (placed : slice_get (layer_positions document) ordinal ≡ Some position) (there : slice_get document position ≡ Some (OfLayer layer)) (selects item : ℕ) (feature : Feature) (feature_placed : slice_get (feature_positions layer.items) selects ≡ Some item) (feature_there : slice_get layer.items item ≡ Some (OfFeature feature)) where
  pub renumbers : (number : ℕ) (decisions : List (Option ℕ)) (change : List Field → List Field) → renumber number decisions feature.fields ≡ change feature.fields → FieldsLeft number decisions feature.fields
      → Renumbers number decisions feature.fields document (change_feature change ordinal selects document) (map (in_feature_at position item) (splices_of (field_fates number decisions feature.fields)))
  renumbers number decisions change same left =
      let sits = in_the_feature position item in
      let splices = splices_of (field_fates number decisions feature.fields) in
      let at = fields_at_found document ordinal position layer placed there selects item feature feature_placed feature_there in
      let done = carried sits document feature.fields at splices left.there left.valid in
      let few = left.few in
      record {
        fits = done.fits;
        makes = done.makes ∙ makes_alike sits document feature.fields at change splices (left.leaves ∙ same) ∙ sym (change_feature_found document ordinal position layer placed there selects item feature feature_placed feature_there change);
        puts_so = done.puts ∙ ap (λ new. length (flat_map field_bytes new)) left.puts;
        takes_so = done.takes ∙ ap (λ old. length (flat_map field_bytes old)) left.takes;
        few = omega (arith, few, length-map splices (in_feature_at position item));
      }
