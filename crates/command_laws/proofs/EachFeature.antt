-- The items of a layer, with the fields of each feature changed.
use Rattle.std.proofs.Common.{◌≡◌, ℕ, ◌+◌, List, [], ◌∷◌, map, refl, sym, ap, ◌∙◌}
use Rattle.mvt_document.specs.Plain.{Field, LayerItem, OfFeature, PlainInLayer}
use Rattle.mvt_document.specs.Places.{in_feature}
use Rattle.mvt_messages.specs.Views.{features_in, plain_fields}
use Rattle.mvt_meaning.specs.Selection.{is_feature}
use Rattle.mvt_meaning.proofs.Positions.{positions_from, positions_pass, positions_skip}
use Rattle.command_laws.proofs.Parts.{with_fields}

module _ (change : List Field → List Field) where
  pub features_changed : (items : List LayerItem) → features_in (map (in_feature change) items) ≡ map (with_fields change) (features_in items)
  features_changed [] = refl
  features_changed (OfFeature feature ∷ items) = ap (λ rest. with_fields change feature ∷ rest) (features_changed items)
  features_changed (PlainInLayer field ∷ items) = features_changed items

  pub fields_stay : (items : List LayerItem) → plain_fields (map (in_feature change) items) ≡ plain_fields items
  fields_stay [] = refl
  fields_stay (OfFeature feature ∷ items) = fields_stay items
  fields_stay (PlainInLayer field ∷ items) = ap (λ rest. field ∷ rest) (fields_stay items)

  pub positions_stay : (n : ℕ) (items : List LayerItem) → positions_from is_feature n (map (in_feature change) items) ≡ positions_from is_feature n items
  positions_stay n [] = refl
  positions_stay n (OfFeature feature ∷ items) =
      positions_pass is_feature n (in_feature change (OfFeature feature)) (map (in_feature change) items) refl
      ∙ ap (λ rest. n ∷ rest) (positions_stay (n + 1) items)
      ∙ sym (positions_pass is_feature n (OfFeature feature) items refl)
  positions_stay n (PlainInLayer field ∷ items) =
      positions_skip is_feature n (PlainInLayer field) (map (in_feature change) items) refl
      ∙ positions_stay (n + 1) items
      ∙ sym (positions_skip is_feature n (PlainInLayer field) items refl)
