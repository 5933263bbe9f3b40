-- The numbers of a field that may be repeated, in order: one from each VARINT field of that number, and those that each
-- of its LEN fields packs.
use Rattle.std.specs.Prelude.{ℕ, ◌+◌, ◌*◌, ◌/◌, ◌%◌, ◌^◌, ◌&&◌, ◌==◌, Bool, List, [], ◌∷◌, Option, Some, None, Result, Ok, Err, length, nat_lt, nat_le, if◌then◌else◌}
use Rattle.std.specs.List.{flat_map, enumerate_from}
use Rattle.std.specs.Str.{bytes_eq}
use Rattle.mvt_document.specs.Plain.{Number, Body, Spelled, Delimited, Field}
use Rattle.mvt_document.specs.Wire.{spell}

-- a number, the position of its field among those of the message, and the place in a packed body at which it begins, 0
-- where it is not packed
pub record Placed : Type 0 where
  pub number : Number
  pub field : ℕ
  pub place : ℕ

-- ---- a packed body: "Base 128 Varints", "Packed Repeated Fields"

-- the pieces with a byte put before the first of them
abbrev pub with_first : ℕ → List (List ℕ) → List (List ℕ)
with_first byte [] = (byte ∷ []) ∷ []
with_first byte (piece ∷ more) = (byte ∷ piece) ∷ more

-- a packed body cut after each byte without the top bit; the last piece may lack such a byte (guide, Base 128 Varints)
abbrev pub pieces : List ℕ → List (List ℕ)
pieces [] = []
pieces (byte ∷ more) = if nat_lt byte 128 then (byte ∷ []) ∷ pieces more else with_first byte (pieces more)

-- the number that bytes of 7 bits each stand for, the lowest first (guide, Base 128 Varints)
abbrev pub unspelled : List ℕ → ℕ
unspelled [] = 0
unspelled (byte ∷ more) = byte % 128 + 128 * unspelled more

-- the piece is the spelling of this value, which is below 2 ^ 64, in this width, which is 1 to 10
-- (guide, Base 128 Varints)
abbrev pub is_spelled : ℕ → ℕ → List ℕ → Bool
is_spelled value width piece = nat_lt value (2 ^ 64) && (nat_le 1 width && (nat_le width 10 && bytes_eq (spell value width) piece))

-- the number that a piece spells, where it spells one (guide, Base 128 Varints)
unfoldable pub number_in : List ℕ → Option Number
number_in piece = if is_spelled (unspelled piece) (length piece) piece then Some (record { value = unspelled piece; width = length piece }) else None

-- a number with its field and its place; where there is none, a bad chunk, which is the field alone
-- (guide, Packed Repeated Fields)
abbrev pub chunk_at : ℕ → ℕ → Option Number → Result Placed ℕ
chunk_at field place None = Err field
chunk_at field place (Some number) = Ok (record { number = number; field = field; place = place })

-- what the pieces of a packed body spell, each with its field and place, the first piece at this place
-- (guide, Packed Repeated Fields)
abbrev pub unpacked : ℕ → ℕ → List (List ℕ) → List (Result Placed ℕ)
unpacked field place [] = []
unpacked field place (piece ∷ more) = chunk_at field place (number_in piece) ∷ unpacked field (place + length piece) more

-- ---- a message: "Repeated Elements"

-- the numbers in the body of the field at this position: the one of a VARINT body, those that a LEN body packs, none
-- for another (guide, Repeated Elements)
abbrev pub numbers_of : ℕ → Body → List (Result Placed ℕ)
numbers_of position (Spelled number) = Ok (record { number = number; field = position; place = 0 }) ∷ []
numbers_of position (Delimited width bytes) = unpacked position 0 (pieces bytes)
numbers_of position body = []

-- the numbers in a field, given with its position, where it has this number; else none (guide, Repeated Elements)
abbrev pub numbers_in : ℕ → ℕ × Field → List (Result Placed ℕ)
numbers_in number at = if at.1.tag.value / 8 == number then numbers_of at.0 at.1.body else []

-- the items up to the first bad one, which is among them
abbrev pub through_bad : {A E : Type 0} → List (Result A E) → List (Result A E)
through_bad [] = []
through_bad (Ok item ∷ more) = Ok item ∷ through_bad more
through_bad (Err bad ∷ more) = Err bad ∷ []

-- the numbers in the fields of this number, in order, up to the first bad chunk (guide, Repeated Elements)
abbrev pub numbers : ℕ → List Field → List (Result Placed ℕ)
numbers number fields = through_bad (flat_map (numbers_in number) (enumerate_from 0 fields))

-- ---- good items and bad ones

-- an item before a list, where there is a list
abbrev pub and_more : {A : Type 0} → A → Option (List A) → Option (List A)
and_more item None = None
and_more item (Some more) = Some (item ∷ more)

-- the items, where none of them is bad
abbrev pub all_good : {A E : Type 0} → List (Result A E) → Option (List A)
all_good [] = Some []
all_good (Ok item ∷ more) = and_more item (all_good more)
all_good (Err bad ∷ more) = None

-- the items before the first bad one
abbrev pub before_bad : {A E : Type 0} → List (Result A E) → List A
before_bad [] = []
before_bad (Ok item ∷ more) = item ∷ before_bad more
before_bad (Err bad ∷ more) = []
