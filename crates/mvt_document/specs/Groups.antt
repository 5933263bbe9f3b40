-- What the bytes of a field are, and those of a group: fields, groups among them, and then its end tag.
use Rattle.std.specs.Prelude.{◌≡◌, ℕ, zero, suc, ◌/◌, List, ◌++◌, length}
use Rattle.std.specs.List.{flat_map, AllByRecursion}
use Rattle.mvt_document.specs.declared.TheConstants.{MAX_GROUPS}
use Rattle.mvt_document.specs.Plain.{Number, Body, Spelled, Eight, Four, Delimited, Group, Field}
use Rattle.mvt_document.specs.Shape.{IsSpelling, IsTag, IsWidth}
use Rattle.mvt_document.specs.Wire.{spelling, field_bytes}

-- a number with a width in which it can be spelled (guide, Base 128 Varints)
abbrev pub IsNumber : Number → Type 0
IsNumber n = IsSpelling n.value n.width

-- the wire type of a plain body (guide, Message Structure)
abbrev pub wire_type : Body → ℕ
wire_type (Spelled number) = 0
wire_type (Eight bytes) = 1
wire_type (Delimited width bytes) = 2
wire_type (Group bytes) = 3
wire_type (Four bytes) = 5

-- ---- each length is spelled in its stored width

-- the length of a body, where it has one, can be spelled in the stored width
abbrev pub StoresBody : Body → Type 0
StoresBody (Delimited width bytes) = IsSpelling (length bytes) width
StoresBody body = Unit {0}

-- the length of a field, where it has one, can be spelled in the stored width
abbrev pub StoresField : Field → Type 0
StoresField f = StoresBody f.body

-- ---- fields, given which bytes are those of a group of a number

module _ (is_group : ℕ → List ℕ → Type 0) where
  -- a body of a field of this number: a valid number, 8 bytes, 4 bytes, a valid stored width, or a group of this number
  -- as `is_group` says (guide, Message Structure)
  abbrev pub IsBodyWith : ℕ → Body → Type 0
  IsBodyWith number (Spelled value) = IsNumber value
  IsBodyWith number (Eight bytes) = length bytes ≡ 8
  IsBodyWith number (Four bytes) = length bytes ≡ 4
  IsBodyWith number (Delimited width bytes) = IsWidth width
  IsBodyWith number (Group bytes) = is_group number bytes

  -- a field whose tag is valid and names the wire type of its body, and whose body is valid (`IsBodyWith`)
  -- (guide, Message Structure)
  pub record IsFieldWith (f : Field) : Type 0 where
    pub number : IsNumber f.tag
    pub tag : IsTag f.tag.value (wire_type f.body)
    pub body : IsBodyWith (f.tag.value / 8) f.body

  -- ---- the same with each length spelled in its stored width

  -- a valid body of this wire type, of a field of this number, whose length can be spelled in its stored width
  -- (guide, Message Structure)
  pub record IsWholeBodyWith (kind number : ℕ) (body : Body) : Type 0 where
    pub typed : wire_type body ≡ kind
    pub valid : IsBodyWith number body
    pub stored : StoresBody body

  -- a valid field whose length can be spelled in its stored width (guide, Message Structure)
  pub record IsWholeFieldWith (f : Field) : Type 0 where
    pub valid : IsFieldWith f
    pub stored : StoresField f

-- an end tag of a group of this number: wire type 4 (guide, Groups)
pub record IsEnd (number : ℕ) (last : Number) : Type 0 where
  pub spelled : IsNumber last
  pub tag : IsTag last.value 4
  pub same : last.value / 8 ≡ number

-- the bytes are fields, whose own groups are as `is_group` says, and then the end tag of this number (guide, Groups)
pub record IsGroupWith (is_group : ℕ → List ℕ → Type 0) (number : ℕ) (bytes : List ℕ) : Type 0 where
  pub fields : List Field
  pub whole : AllByRecursion (IsWholeFieldWith is_group) fields
  pub last : Number
  pub ends : IsEnd number last
  pub spelled : bytes ≡ flat_map field_bytes fields ++ spelling last

-- a group of this number in which, itself counted, no more groups are open at one place than the number of levels given
-- (guide, Groups)
unfoldable pub IsGroupWithin : ℕ → ℕ → List ℕ → Type 0
IsGroupWithin zero number bytes = ⊥
IsGroupWithin (suc levels) number bytes = IsGroupWith (IsGroupWithin levels) number bytes

-- the bytes after the start tag of a group of this number: fields and its end tag, with at most 100 groups open at one
-- place (guide, Groups)
abbrev pub IsGroup : ℕ → List ℕ → Type 0
IsGroup number bytes = IsGroupWithin MAX_GROUPS number bytes

-- ---- fields that are not groups

-- no bytes are a group
abbrev pub NoGroup : ℕ → List ℕ → Type 0
NoGroup number bytes = ⊥

-- a body of this wire type that is not a group, whose length can be spelled in its stored width
-- (guide, Message Structure)
abbrev pub IsFlatBody : ℕ → Body → Type 0
IsFlatBody kind body = IsWholeBodyWith NoGroup kind 0 body
