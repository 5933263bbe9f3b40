-- Fields that a command puts are valid, and so is a new feature.
use Rattle.std.proofs.Common.{ℕ, ◌^◌, ◌<◌, List, refl, arith, [], inl, inr}
use Rattle.std.specs.List.{list_any, AllByRecursion}
use Rattle.std.proofs.lemmas.Bool.{cases_Bool}
use Rattle.std.specs.Str.{bytes_eq}
use Rattle.mvt_document.specs.Opens.{IsField, IsLayerItem}
use Rattle.mvt_document.specs.Shape.{IsTag}
use Rattle.mvt_document.proofs.Spelling.{minimal_spelling}
use Rattle.mvt_document.specs.Plain.{PlainInLayer}
use Rattle.mvt_geometry.specs.Shapes.{Geometry, kind_number}
use Rattle.mvt_geometry.specs.declared.Kind.{Kind}
use Rattle.mvt_geometry.specs.declared.Kind.TheVariants.{Dots, Lines, Areas}
use Rattle.mvt_geometry.specs.Integers.{encoded}
use Rattle.mvt_meaning.specs.Meaning.{new_content, new_feature, new_number}
use Rattle.mvt_meaning.specs.Tagging.{missing_entry}

pub content_field : (tag : ℕ) (bytes : List ℕ) → tag < 2 ^ 64 → IsTag tag 2 → IsField (new_content tag bytes)
content_field tag bytes short is = record {
  number = minimal_spelling tag short;
  tag = is;
  body = record { some = omega arith; short = omega arith };
}

pub number_field : (tag value : ℕ) → tag < 2 ^ 64 → IsTag tag 0 → value < 2 ^ 64 → IsField (new_number tag value)
number_field tag value short is fits = record {
  number = minimal_spelling tag short;
  tag = is;
  body = minimal_spelling value fits;
}

kind_short : (kind : Kind) → kind_number kind < 2 ^ 64
kind_short Dots = omega arith
kind_short Lines = omega arith
kind_short Areas = omega arith

pub new_kind : (kind : Kind) → IsField (new_number 24 (kind_number kind))
new_kind kind =
    number_field 24 (kind_number kind) (omega arith) (record { numbered = omega arith; short = omega arith; typed = refl }) (kind_short kind)

pub new_geometry : (geometry : Geometry) → IsField (new_content 34 (encoded geometry))
new_geometry geometry = content_field 34 (encoded geometry) (omega arith) (record { numbered = omega arith; short = omega arith; typed = refl })

pub new_feature_valid : (geometry : Geometry) → IsLayerItem (new_feature geometry)
new_feature_valid geometry = record {
  number = minimal_spelling 18 (omega arith);
  tag = refl;
  width = record { some = omega arith; short = omega arith };
  fields = (new_kind geometry.kind, (new_geometry geometry, tt));
}

-- ---- the entries that a layer lacks

pub new_key : (key : List ℕ) → IsLayerItem (PlainInLayer (new_content 26 key))
new_key key = (content_field 26 key (omega arith) (record { numbered = omega arith; short = omega arith; typed = refl }), λ same. omega (arith, same))

pub new_value : (value : List ℕ) → IsLayerItem (PlainInLayer (new_content 34 value))
new_value value = (content_field 34 value (omega arith) (record { numbered = omega arith; short = omega arith; typed = refl }), λ same. omega (arith, same))

pub missing_valid : (tag : ℕ) (bytes : List ℕ) (entries : List (List ℕ)) → IsLayerItem (PlainInLayer (new_content tag bytes)) → AllByRecursion IsLayerItem (missing_entry tag bytes entries)
missing_valid tag bytes entries valid = elim (cases_Bool (list_any (bytes_eq bytes) entries)) [ inl there ↦ rw there tt | inr none ↦ rw none (valid, tt) ]
