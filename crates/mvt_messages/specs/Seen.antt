-- Which plain values the values of the program stand for.
use Rattle.std.specs.Prelude.{ℕ, ◌<◌, List, [], ◌∷◌, Result, Ok, Err, length}
use Rattle.mvt_document.specs.Bodies.{number_of}
use Rattle.mvt_messages.specs.Numbers.{Placed, pieces, unpacked}
use Rattle.mvt_messages.specs.Left.{packed_from}
use Rattle.mvt_messages.specs.declared.number.Number.{Number}
use Rattle.mvt_messages.specs.declared.number.BadChunk.{BadChunk}
use Rattle.mvt_messages.specs.declared.elements.Elements.{Elements}
use Rattle.mvt_messages.specs.declared.elements.Elements.TheVariants as elements
use Rattle.mvt_messages.specs.declared.packed.Packed.{Packed}

-- the plain number, with its field and its place, that a number of the program stands for
abbrev pub placed_of : Number → Placed
placed_of n = record { number = number_of n.varint; field = n.field; place = n.place }

-- the plain number, or the bad chunk, that an answer of the program stands for
abbrev pub number_seen : Result Number BadChunk → Result Placed ℕ
number_seen (Ok number) = Ok (placed_of number)
number_seen (Err bad) = Err bad.field

-- the numbers that what was found in a field at this position stands for: one number, or a packed body
abbrev pub elements_seen : ℕ → Elements → List (Result Placed ℕ)
elements_seen position (elements.One varint) = Ok (record { number = number_of varint; field = position; place = 0 }) ∷ []
elements_seen position (elements.Packed bytes) = unpacked position 0 (pieces bytes.now)

-- there is a number, or a packed body that is not empty
abbrev pub HasNumbers : Elements → Type 0
HasNumbers (elements.One varint) = Unit {0}
HasNumbers (elements.Packed bytes) = 0 < length bytes.now

-- the numbers that are left of a packed body
abbrev pub left_of : Packed → List (Result Placed ℕ)
left_of p = packed_from p.field p.place p.bytes.now
