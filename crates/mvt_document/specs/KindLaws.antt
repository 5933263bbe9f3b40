-- Laws of kinds, with their proofs: an item of a list is of at most one kind.
use Rattle.std.specs.Prelude.{◌≡◌, ℕ, ◌/◌, ◌==◌, Bool, true, false, refl, IsTrue, if◌then◌else◌}
use Rattle.std.proofs.Common.{sym, ◌∙◌, arith}
use Rattle.std.specs.Cmp.{unsigned_Decides}
use Rattle.mvt_document.specs.declared.field.FieldParts.{FieldParts as Field}
use Rattle.mvt_document.specs.declared.document.LayerItem.{LayerItem}
use Rattle.mvt_document.specs.declared.document.LayerItem.TheVariants as in_layer
use Rattle.mvt_document.specs.declared.document.TileItem.{TileItem}
use Rattle.mvt_document.specs.declared.run.Kind.{Kind}
use Rattle.mvt_document.specs.declared.run.Kind.TheVariants as kind
use Rattle.mvt_document.specs.Kinds.{is_delimited_field, is_entry, in_layer_of_kind, in_tile_of_kind}

-- where both hold, the first does
both_hold : (first second : Bool) → IsTrue (if first then second else false) → IsTrue first
both_hold true second both = refl
both_hold false second both = absurd cc

-- equal numbers are the same
equal_are : (a b : ℕ) → IsTrue (a == b) → a ≡ b
equal_are a b equal = (unsigned_Decides a b).0 equal

-- a LEN field of a number has that number
number_is : (number : ℕ) (field : Field) → IsTrue (is_delimited_field number field) → field.tag.value / 8 ≡ number
number_is number field is = equal_are (field.tag.value / 8) number (both_hold (field.tag.value / 8 == number) _ is)

-- an item of a layer is an entry of at most one number
one_number : (number other : ℕ) (item : LayerItem) → IsTrue (is_entry number item) → IsTrue (is_entry other item) → number ≡ other
one_number number other (in_layer.Feature feature) is also = absurd cc
one_number number other (in_layer.Plain field) is also = sym (number_is number field is) ∙ number_is other field also

-- an item of a layer is of at most one kind
pub one_in_layer : (is other : Kind) (item : LayerItem) → IsTrue (in_layer_of_kind is item) → IsTrue (in_layer_of_kind other item) → is ≡ other
one_in_layer kind.Name kind.Name item first second = refl
one_in_layer kind.Message kind.Message item first second = refl
one_in_layer kind.Key kind.Key item first second = refl
one_in_layer kind.Value kind.Value item first second = refl
one_in_layer kind.Message other (in_layer.Plain field) first second = absurd cc
one_in_layer is kind.Message (in_layer.Plain field) first second = absurd cc
one_in_layer kind.Message kind.Name (in_layer.Feature feature) first second = absurd cc
one_in_layer kind.Message kind.Key (in_layer.Feature feature) first second = absurd cc
one_in_layer kind.Message kind.Value (in_layer.Feature feature) first second = absurd cc
one_in_layer kind.Name other (in_layer.Feature feature) first second = absurd cc
one_in_layer kind.Key other (in_layer.Feature feature) first second = absurd cc
one_in_layer kind.Value other (in_layer.Feature feature) first second = absurd cc
one_in_layer kind.Name kind.Key item first second = let same = one_number 1 3 item first second in absurd (omega (arith, same))
one_in_layer kind.Name kind.Value item first second = let same = one_number 1 4 item first second in absurd (omega (arith, same))
one_in_layer kind.Key kind.Name item first second = let same = one_number 3 1 item first second in absurd (omega (arith, same))
one_in_layer kind.Key kind.Value item first second = let same = one_number 3 4 item first second in absurd (omega (arith, same))
one_in_layer kind.Value kind.Name item first second = let same = one_number 4 1 item first second in absurd (omega (arith, same))
one_in_layer kind.Value kind.Key item first second = let same = one_number 4 3 item first second in absurd (omega (arith, same))

-- an item of a tile is of at most one kind
pub one_in_tile : (is other : Kind) (item : TileItem) → IsTrue (in_tile_of_kind is item) → IsTrue (in_tile_of_kind other item) → is ≡ other
one_in_tile kind.Message kind.Message item first second = refl
one_in_tile kind.Message kind.Name item first second = absurd cc
one_in_tile kind.Message kind.Key item first second = absurd cc
one_in_tile kind.Message kind.Value item first second = absurd cc
one_in_tile kind.Name other item first second = absurd cc
one_in_tile kind.Key other item first second = absurd cc
one_in_tile kind.Value other item first second = absurd cc
