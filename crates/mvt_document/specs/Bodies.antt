-- Which plain body a body of the program stands for.
use Rattle.std.specs.Prelude.{◌≤◌, length}
use Rattle.mvt_document.specs.Plain as plain
use Rattle.mvt_document.specs.declared.varint.Varint.{Varint}
use Rattle.mvt_document.specs.declared.body.Body.{Body}
use Rattle.mvt_document.specs.declared.body.Body.TheVariants.{Number, Eight, Four, Bytes, Group}
use Rattle.mvt_document.specs.declared.body.BodyRef.{BodyRef}
use Rattle.mvt_document.specs.declared.body.BodyRef.TheVariants as lent

-- the plain number that a number of the program stands for
abbrev pub number_of : Varint → plain.Number
number_of n = record { value = n.value; width = n.width }

-- the plain body that a body of the program stands for
abbrev pub body_of : Body → plain.Body
body_of (Number number) = plain.Spelled (number_of number)
body_of (Eight bytes) = plain.Eight bytes
body_of (Four bytes) = plain.Four bytes
body_of (Bytes width bytes) = plain.Delimited width bytes.items
body_of (Group bytes) = plain.Group bytes.items

-- the plain body that a borrowed body stands for
abbrev pub body_seen : BodyRef → plain.Body
body_seen (lent.Number number) = plain.Spelled (number_of number)
body_seen (lent.Eight bytes) = plain.Eight bytes
body_seen (lent.Four bytes) = plain.Four bytes
body_seen (lent.Bytes width bytes) = plain.Delimited width bytes.now
body_seen (lent.Group bytes) = plain.Group bytes.now

-- the body is a number, or has at most 23 bytes
abbrev pub IsFew : plain.Body → Type 0
IsFew (plain.Delimited width bytes) = length bytes ≤ 23
IsFew (plain.Group bytes) = length bytes ≤ 23
IsFew body = Unit {0}
