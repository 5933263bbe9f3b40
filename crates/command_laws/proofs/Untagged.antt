-- Features without their tags fields have no attribute.
use Rattle.std.proofs.Common.{◌≡◌, ℕ, ◌+◌, Some, List, [], ◌∷◌, ◌++◌, map, refl, sym, ap, ◌∙◌, inl, inr, subst}
use Rattle.std.proofs.lemmas.Bool.{cases_Bool}
use Rattle.std.specs.List.{AllByRecursion, enumerate_from, flat_map}
use Rattle.mvt_document.specs.Plain.{Field, Feature, Layer}
use Rattle.mvt_messages.specs.Numbers.{numbers, numbers_in, through_bad}
use Rattle.mvt_messages.specs.Attributes.{attributes}
use Rattle.mvt_messages.specs.Views.{features}
use Rattle.mvt_meaning.specs.Tagging.{is_tags, untagged, without_tags}
use Rattle.command_laws.proofs.OtherFields.{none_of}
use Rattle.command_laws.proofs.Parts.{with_fields, with_items}
use Rattle.command_laws.specs.AttributeLaws.{ExcludeAllExcludes, LosesAttributes}
use Rattle.command_laws.proofs.EachFeature.{features_changed, fields_stay, positions_stay}
use Rattle.command_laws.proofs.ChangedLayers.{layers_change}

-- ---- no numbers of tags are left

none_left : (n : ℕ) (fields : List Field) → flat_map (numbers_in 2) (enumerate_from n (without_tags fields)) ≡ []
none_left n [] = refl
none_left n (field ∷ fields) =
    elim (cases_Bool (is_tags field)) [
      | inl gone ↦ rw gone (none_left n fields)
      | inr stays ↦ rw stays (ap (λ first. first ++ flat_map (numbers_in 2) (enumerate_from (n + 1) (without_tags fields))) (none_of 2 n field.tag field.body stays) ∙ none_left (n + 1) fields)
    ]

no_attributes : (layer : Layer) (feature : Feature) → attributes layer (with_fields without_tags feature) ≡ Some []
no_attributes layer feature =
    let none : numbers 2 (without_tags feature.fields) ≡ [] = ap through_bad (none_left 0 feature.fields) in
    rw none refl

-- ---- a layer

none_of_all : (layer : Layer) (list : List Feature) → AllByRecursion (λ feature. attributes layer feature ≡ Some []) (map (with_fields without_tags) list)
none_of_all layer [] = tt
none_of_all layer (feature ∷ list) = (no_attributes layer feature, none_of_all layer list)

loses : (layer : Layer) → LosesAttributes layer (with_items untagged layer)
loses layer = record {
  none = subst (AllByRecursion (λ feature. attributes (with_items untagged layer) feature ≡ Some [])) (sym (features_changed without_tags layer.items)) (none_of_all (with_items untagged layer) (features layer));
  features_so = features_changed without_tags layer.items;
  fields = fields_stay without_tags layer.items;
  positions = positions_stay without_tags 0 layer.items;
}

pub exclude_all_excludes : ExcludeAllExcludes
exclude_all_excludes choice old new is = layers_change LosesAttributes untagged choice old new is (λ ordinal layer selects there. loses layer)
