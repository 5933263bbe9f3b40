-- Which plain value a value of the program stands for.
use Rattle.std.specs.Prelude.{ℕ, List, Option, Some, None}
use Rattle.mvt_value.specs.Values as plain
use Rattle.mvt_value.specs.declared.value.Value.{Value}
use Rattle.mvt_value.specs.declared.value.Value.TheVariants as shown
use Rattle.mvt_value.specs.declared.value.NewValue.{NewValue}
use Rattle.mvt_value.specs.declared.value.NewValue.TheVariants as new

-- the plain value that is shown; none where the bytes are shown as they are
abbrev pub shown_by : Value → Option plain.Value
shown_by (shown.Text text) = Some (plain.OfText text.now)
shown_by (shown.Float4 bytes) = Some (plain.OfFloat bytes)
shown_by (shown.Double8 bytes) = Some (plain.OfDouble bytes)
shown_by (shown.Int number) = Some (plain.OfInt number)
shown_by (shown.Uint number) = Some (plain.OfUint number)
shown_by (shown.Sint number) = Some (plain.OfSint number)
shown_by (shown.Bool truth) = Some (plain.OfBool truth)
shown_by (shown.Raw bytes) = None

-- the bytes that are shown as they are; none where a value is shown
abbrev pub raw_of : Value → Option (List ℕ)
raw_of (shown.Raw bytes) = Some bytes.now
raw_of value = None

-- the plain value that a new value of the program stands for
abbrev pub new_value_of : NewValue → plain.Value
new_value_of (new.Text text) = plain.OfText text.items
new_value_of (new.Float4 bytes) = plain.OfFloat bytes
new_value_of (new.Double8 bytes) = plain.OfDouble bytes
new_value_of (new.Int number) = plain.OfInt number
new_value_of (new.Uint number) = plain.OfUint number
new_value_of (new.Sint number) = plain.OfSint number
new_value_of (new.Bool truth) = plain.OfBool truth
