-- The feature that an insertion adds has the geometry.
use Rattle.std.proofs.Common.{◌≡◌, ℕ, ◌+◌, true, Option, Some, None, option_map, List, [], ◌∷◌, ◌++◌, length, map, refl, ap, ◌∙◌}
use Rattle.std.proofs.lemmas.List.{append-nil}
use Rattle.mvt_document.specs.Plain.{Feature}
use Rattle.mvt_document.specs.Wire.{spelling, minimal}
use Rattle.mvt_geometry.specs.Shapes.{Geometry, IsGeometry, kind_number}
use Rattle.mvt_geometry.specs.Integers.{IsInRange, encoded, integers}
use Rattle.mvt_geometry.proofs.Checks.{in_range-Decides}
use Rattle.mvt_geometry.proofs.Small.{packs_integers}
use Rattle.mvt_messages.specs.Numbers.{Placed, all_good, and_more, numbers, unpacked, pieces, through_bad}
use Rattle.mvt_messages.specs.Laws.{in_a_row}
use Rattle.mvt_messages.proofs.Pieces.{row-packed}
use Rattle.mvt_messages.specs.Attributes.{values_in}
use Rattle.mvt_geometry.specs.Checks.{is_in_range}
use Rattle.mvt_meaning.specs.Meaning.{new_content, new_number}
use Rattle.command_laws.specs.FeatureLaws.{IsNew}

-- the feature that new_feature has
abbrev pub drawn_feature : Geometry → Feature
drawn_feature geometry = record {
  tag = minimal 18;
  width = 1;
  fields = new_number 24 (kind_number geometry.kind) ∷ new_content 34 (encoded geometry) ∷ [];
}

-- ---- its numbers

more_values : (placed : Placed) (others : Option (List Placed)) → option_map (map (λ (p : Placed). p.number.value)) (and_more placed others) ≡ and_more placed.number.value (option_map (map (λ (p : Placed). p.number.value)) others)
more_values placed None = refl
more_values placed (Some others) = refl

values_in_row : (field place : ℕ) (list : List ℕ) → values_in (through_bad (in_a_row field place (map minimal list))) ≡ Some list
values_in_row field place [] = refl
values_in_row field place (value ∷ list) =
    let number = minimal value in
    let next = place + length (spelling number) in
    more_values (record { number = number; field = field; place = place }) (all_good (through_bad (in_a_row field next (map minimal list))))
    ∙ ap (and_more value) (values_in_row field next list)

numbers_drawn : (geometry : Geometry) → IsGeometry geometry → IsInRange geometry → values_in (numbers 4 (drawn_feature geometry).fields) ≡ Some (integers geometry)
numbers_drawn geometry valid range =
    let packs = packs_integers geometry valid range in
    let found : numbers 4 (drawn_feature geometry).fields ≡ through_bad (unpacked 1 0 (pieces (encoded geometry)) ++ []) = refl in
    let body : unpacked 1 0 (pieces (encoded geometry)) ++ [] ≡ in_a_row 1 0 (map minimal (integers geometry)) =
    append-nil (unpacked 1 0 (pieces (encoded geometry)))
    ∙ ap (λ (bytes : List ℕ). unpacked 1 0 (pieces bytes)) packs.spelled
    ∙ row-packed 1 0 (map minimal (integers geometry)) packs.valid in
    ap values_in (found ∙ ap through_bad body) ∙ values_in_row 1 0 (integers geometry)

pub is_new : (geometry : Geometry) → IsGeometry geometry → is_in_range geometry ≡ true → IsNew geometry (drawn_feature geometry)
is_new geometry valid short =
    let range = (in_range-Decides geometry).0 short in
    record {
      drawn = record {
        integers = integers geometry;
        read = numbers_drawn geometry valid range;
        has = record { of_kind = refl; valid = valid; in_range = range; spelled = refl };
      };
      no_id = refl;
      no_tags = refl;
      only = refl;
    }
