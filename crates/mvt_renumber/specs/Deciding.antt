-- A packed body whose numbers are each decided on, as far as it has been read.
use Rattle.std.specs.Prelude.{◌≡◌, ℕ, true, false, ◌+◌, ◌<◌, List, [], ◌∷◌, ◌++◌, Option, Some, None, length, take, drop, map, option_map, slice_range}
use Rattle.std.specs.List.{flat_map, AllByRecursion}
use Rattle.std.specs.Option.{unwrap_or}
use Rattle.mvt_document.specs.Plain.{Number, Delimited, Field}
use Rattle.mvt_document.specs.Wire.{spelling}
use Rattle.mvt_document.specs.Groups.{IsNumber}
use Rattle.mvt_messages.specs.Numbers.{Placed, pieces, unpacked, all_good}
use Rattle.mvt_renumber.specs.Renumbering.{renumbered, some_changed}
use Rattle.mvt_renumber.specs.declared.renumber.Scan.{Scan}
use Rattle.mvt_renumber.specs.declared.renumber.Scan.TheVariants as scan
use Rattle.mvt_renumber.specs.declared.renumber.Making.{Making}

-- the numbers that a packed body spells, where it spells nothing else (guide, Packed Repeated Fields)
abbrev pub packed_numbers : List ℕ → Option (List Number)
packed_numbers bytes = option_map (map (λ (p : Placed). p.number)) (all_good (unpacked 0 0 (pieces bytes)))

-- a LEN field with this tag, stored width and content (guide, Message Structure)
abbrev pub packed_field : Number → ℕ → List ℕ → Field
packed_field tag width bytes = record { tag = tag; body = Delimited width bytes }

-- that field, or none where its content is empty
abbrev pub with_bytes : Number → ℕ → List ℕ → List Field
with_bytes tag width [] = []
with_bytes tag width (byte ∷ more) = packed_field tag width (byte ∷ more) ∷ []

-- the numbers of the body before this place stay, and these decisions are left for those after it
pub record StaysBefore (bytes : List ℕ) (decisions : List (Option ℕ)) (place : ℕ) (left : List (Option ℕ)) : Type 0 where
  pub read : List Number
  pub good : (more : List Number) → packed_numbers (drop place bytes) ≡ Some more → packed_numbers bytes ≡ Some (read ++ more)
  pub bad : packed_numbers (drop place bytes) ≡ None → packed_numbers bytes ≡ None
  pub spelled : take place bytes ≡ flat_map spelling read
  pub valid : AllByRecursion IsNumber read
  pub stay : (more : List Number) → renumbered decisions (read ++ more) ≡ read ++ renumbered left more
  pub following : (more : ℕ) → drop (length read + more) decisions ≡ drop more left
  pub same : (more : List Number) → some_changed decisions (read ++ more) ≡ some_changed left more

-- the body begins with a number that does not keep its value by the first of these decisions
pub record FirstChanges (bytes : List ℕ) (decisions : List (Option ℕ)) : Type 0 where
  pub number : Number
  pub valid : IsNumber number
  pub spelled : take number.width bytes ≡ spelling number
  pub changed : some_changed decisions (number ∷ []) ≡ true

-- the body begins with numbers, and some of them do not keep their values by these decisions
pub record BeginsChanged (bytes : List ℕ) (decisions : List (Option ℕ)) : Type 0 where
  pub numbers : List Number
  pub rest : List ℕ
  pub valid : AllByRecursion IsNumber numbers
  pub spelled : bytes ≡ flat_map spelling numbers ++ rest
  pub changed : some_changed decisions numbers ≡ true

-- these decisions are left after a packed body whose numbers all stay, or one that packs something else
abbrev pub AllStayOf : List ℕ → List (Option ℕ) → List (Option ℕ) → Type 0
AllStayOf bytes decisions left = (left ≡ drop (length (unwrap_or (packed_numbers bytes) [])) decisions)
    × (some_changed decisions (unwrap_or (packed_numbers bytes) []) ≡ false)
    × ((numbers : List Number) → packed_numbers bytes ≡ Some numbers → (renumbered decisions numbers ≡ numbers) × (flat_map spelling numbers ≡ bytes))

-- what was found in a packed body
abbrev pub IsScanned : List ℕ → List (Option ℕ) → Scan → Type 0
IsScanned bytes decisions (scan.AllStay left) = AllStayOf bytes decisions left.now
IsScanned bytes decisions (scan.Changes place left) = (place < length bytes) × StaysBefore bytes decisions place left.now × FirstChanges (drop place bytes) left.now

-- what a body that is being made will be up to this place of the old one
abbrev pub made_up_to : List ℕ → ℕ → Making → List ℕ
made_up_to bytes place making = making.made.items ++ slice_range bytes making.copied place

-- `made` is what is left of the packed body with these bytes before it, and these decisions are left after it
pub record IsLeft (front bytes : List ℕ) (decisions : List (Option ℕ)) (made : List ℕ) (left : List (Option ℕ)) : Type 0 where
  pub numbers : List Number
  pub good : packed_numbers bytes ≡ Some numbers
  pub valid : AllByRecursion IsNumber (renumbered decisions numbers)
  pub spelled : made ≡ front ++ flat_map spelling (renumbered decisions numbers)
  pub following : left ≡ drop (length numbers) decisions
