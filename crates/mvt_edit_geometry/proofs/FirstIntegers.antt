-- A feature that has a geometry has at least three integers.
use Rattle.std.proofs.Common.{◌≡◌, ℕ, true, is_some, Some, List, [], ◌∷◌, refl, ap, ◌∙◌, arith}
use Rattle.mvt_document.specs.Plain.{Field, Feature}
use Rattle.mvt_geometry.specs.Integers.{integers}
use Rattle.mvt_geometry.specs.Shapes.{IsGeometry}
use Rattle.mvt_geometry.specs.declared.shapes.Kind.{Kind}
use Rattle.mvt_geometry.specs.declared.shapes.Kind.TheVariants.{Dots, Lines, Areas}
use Rattle.mvt_geometry.specs.declared.shapes.Point.{Point}
use Rattle.mvt_geometry.proofs.Parts.{with}
use Rattle.mvt_view.proofs.HasGeometry.{geometry_of}
use Rattle.mvt_meaning.specs.Geometries.{geometry_among, integers_among}

-- ---- the first integers

-- the list begins with a command and two parameters
record Begins (list : List ℕ) : Type 0 where
  command : ℕ
  x : ℕ
  y : ℕ
  more : List ℕ
  are : list ≡ command ∷ x ∷ y ∷ more

begins : (kind : Kind) (parts : List (List Point)) → IsGeometry (with kind parts) → Begins (integers (with kind parts))
begins Dots [] valid = absurd (omega (arith, valid.counted))
begins Dots ([] ∷ parts) valid = absurd (omega (arith, valid.parts.0.enough))
begins Dots ((first ∷ points) ∷ parts) valid = record { command = _; x = _; y = _; more = _; are = refl }
begins Lines [] valid = absurd (omega (arith, valid.counted))
begins Lines ([] ∷ parts) valid = absurd (omega (arith, valid.parts.0.enough))
begins Lines ((first ∷ points) ∷ parts) valid = record { command = _; x = _; y = _; more = _; are = refl }
begins Areas [] valid = absurd (omega (arith, valid.counted))
begins Areas ([] ∷ parts) valid = absurd (omega (arith, valid.parts.0.enough))
begins Areas ((first ∷ points) ∷ parts) valid = record { command = _; x = _; y = _; more = _; are = refl }

-- the integers of a feature of these fields begin with a command and two parameters
pub record FirstIntegers (fields : List Field) : Type 0 where
  pub command : ℕ
  pub x : ℕ
  pub y : ℕ
  pub more : List ℕ
  pub read : integers_among fields ≡ Some (command ∷ x ∷ y ∷ more)

pub first_integers : (feature : Feature) → is_some (geometry_among feature.fields) ≡ true → FirstIntegers feature.fields
first_integers feature drawn =
    let g = geometry_of feature drawn in
    let b = begins g.0.kind g.0.parts g.1.has.valid in
    record { command = b.command; x = b.x; y = b.y; more = b.more; read = g.1.read ∙ ap Some (g.1.has.spelled ∙ b.are) }
