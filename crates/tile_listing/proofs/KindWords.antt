-- Numbers that are not those of a kind.
use Rattle.std.proofs.Common.{◌≡◌, ◌≢◌, ℕ, eqb, false, [], ◌∷◌, codes, decimal, refl, arith}
use Rattle.std.proofs.lemmas.Bool.Decides.{nat_tests}
use Rattle.mvt_geometry.specs.Shapes.{kind_number}
use Rattle.mvt_geometry.specs.declared.shapes.Kind.{Kind}
use Rattle.mvt_geometry.specs.declared.shapes.Kind.TheVariants.{Dots, Lines, Areas}
use Rattle.tile_listing.specs.Listing.{kind_form, spaced}

pub form_of_other : (number : ℕ) → number ≢ 0 → ((kind : Kind) → kind_number kind ≡ number → ⊥) → kind_form number ≡ spaced (codes "kind" ∷ decimal number ∷ [])
form_of_other number some none =
    let unknown : eqb number 0 ≡ false = grind (arith, nat_tests) in
    let dots : eqb 1 number ≡ false = let other = none Dots in grind (arith, nat_tests) in
    let lines : eqb 2 number ≡ false = let other = none Lines in grind (arith, nat_tests) in
    let areas : eqb 3 number ≡ false = let other = none Areas in grind (arith, nat_tests) in
    rw (unknown, dots, lines, areas) refl
