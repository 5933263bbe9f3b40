use Rattle.std.proofs.Common.{◌≡◌, false, is_some, Err, refl, ap, subst, inl, inr}
use Rattle.std.proofs.lemmas.Bool.{false_from_ne_true}
use Rattle.mvt_document.specs.Stands.{feature_of}
use Rattle.mvt_view.specs.FeatureGeometry.{HasFeatureGeometry}
use Rattle.mvt_view.proofs.HasGeometry.{is_found, geometry_of}
use Rattle.mvt_meaning.specs.Geometries.{geometry_among}
use Rattle.mvt_edit_geometry.proofs.shift.check.Goals as goal
use Rattle.mvt_edit_geometry.proofs.shift.check.Goals.{in-Ok, in-Err-BadGeometry, in-Err-NoMemory}

pub returns-clause-drawn : goal.returns-clause-drawn
returns-clause-drawn c =
    let feature = feature_of c.args.found.feature.now in
    elim c.match-geometry.branch [
      | in-Ok w ↦ rw w.result-is (is_found feature w.in-Ok.field-0 (subst (λ f. HasFeatureGeometry f w.in-Ok.field-0) c.view.ensures w.in-Ok.ensures.found))
      | in-Err-BadGeometry w ↦ rw w.result-is tt
      | in-Err-NoMemory w ↦ rw w.result-is tt
    ]

pub returns-clause-refused : goal.returns-clause-refused
returns-clause-refused c =
    let feature = feature_of c.args.found.feature.now in
    elim c.match-geometry.branch [
      | in-Ok w ↦ rw w.result-is tt
      | in-Err-BadGeometry w ↦ (
          let none = w.in-Err-BadGeometry.ensures.bad (ap Err w.in-Err-BadGeometry.field-0-is) in
          let undrawn : is_some (geometry_among feature.fields) ≡ false = false_from_ne_true (is_some (geometry_among feature.fields)) (λ some. let g = geometry_of feature some in none g.0 (rw c.view.ensures g.1)) in
          rw w.result-is (inr (refl, undrawn))
          )
      | in-Err-NoMemory w ↦ rw w.result-is (inl refl)
    ]
