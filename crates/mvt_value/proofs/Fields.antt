-- Bytes have at most one value, and it is in range.
use Rattle.std.proofs.Common.{◌≡◌, ℕ, ◌<◌, ◌≤◌, ◌^◌, ℤ, pos, negsuc, List, [], ◌∷◌, ◌++◌, length, take, drop, sym, ap, ◌∙◌, subst, arith, SFits, w64}
use Rattle.std.specs.Prelude.{Option, Some, None, IfSome, IfNone, IsSomeAnd}
use Rattle.std.specs.Option.{unwrap_or}
use Rattle.std.specs.List.{flat_map, AllByRecursion}
use Rattle.std.proofs.lemmas.List.{append-nil, take-append-drop, length-drop}
use Rattle.mvt_document.specs.Plain.{Number, Body, Spelled, Eight, Four, Delimited, Group, Field}
use Rattle.mvt_document.specs.Wire.{field_bytes}
use Rattle.mvt_document.specs.Groups.{IsBodyWith, IsWholeFieldWith, IsGroup, StoresBody, StoresField}
use Rattle.mvt_document.specs.Opens.{IsField}
use Rattle.mvt_document.proofs.Prefixes as prefixes
use Rattle.mvt_document.specs.Signed.{zigzag}
use Rattle.mvt_document.proofs.Signed.{one_in_zigzag}
use Rattle.mvt_value.specs.Values.{Value, OfText, OfFloat, OfDouble, OfInt, OfUint, OfSint, OfBool}
use Rattle.mvt_value.specs.Signed.{twos_complement}
use Rattle.mvt_value.specs.Stands.{shown_by}
use Rattle.mvt_value.specs.declared.value.Value as program
use Rattle.mvt_value.specs.Messages.{BodyHas, FieldHas, HasValue, IsWritable}

-- ---- signed numbers

one_in_twos_complement : (a b : ℤ) → SFits w64 a → SFits w64 b → twos_complement a ≡ twos_complement b → a ≡ b
one_in_twos_complement (pos a) (pos b) p q e = ap pos e
one_in_twos_complement (pos a) (negsuc b) p q e = absurd (omega (arith, p.sfits, q.sfits))
one_in_twos_complement (negsuc a) (pos b) p q e = absurd (omega (arith, p.sfits, q.sfits))
one_in_twos_complement (negsuc a) (negsuc b) p q e =
    let same : a ≡ b = omega (arith, p.sfits, q.sfits) in ap negsuc same

zigzag_fits : (a : ℤ) → zigzag a < 2 ^ 64 → SFits w64 a
zigzag_fits (pos a) h = record { sfits = omega arith }
zigzag_fits (negsuc a) h = record { sfits = omega arith }

-- ---- a field has at most one value

text_of : (number width : ℕ) (bytes : List ℕ) (v : Value) → BodyHas number (Delimited width bytes) v → v ≡ OfText bytes
text_of number width bytes (OfText text) p = ap OfText (sym p.1)
text_of number width bytes v p = absurd p

float_of : (number : ℕ) (bytes : List ℕ) (v : Value) → BodyHas number (Four bytes) v → v ≡ OfFloat bytes
float_of number bytes (OfFloat float) p = ap OfFloat (sym p.1)
float_of number bytes v p = absurd p

double_of : (number : ℕ) (bytes : List ℕ) (v : Value) → BodyHas number (Eight bytes) v → v ≡ OfDouble bytes
double_of number bytes (OfDouble double) p = ap OfDouble (sym p.1)
double_of number bytes v p = absurd p

one_of_number : (number : ℕ) (n : Number) (v w : Value) → BodyHas number (Spelled n) v → BodyHas number (Spelled n) w → v ≡ w
one_of_number number n (OfText a) w p q = absurd p
one_of_number number n (OfFloat a) w p q = absurd p
one_of_number number n (OfDouble a) w p q = absurd p
one_of_number number n v (OfText b) p q = absurd q
one_of_number number n v (OfFloat b) p q = absurd q
one_of_number number n v (OfDouble b) p q = absurd q
one_of_number number n (OfInt a) (OfInt b) p q = ap OfInt (one_in_twos_complement a b p.1 q.1 (sym p.2 ∙ q.2))
one_of_number number n (OfUint a) (OfUint b) p q = ap OfUint (sym p.1 ∙ q.1)
one_of_number number n (OfSint a) (OfSint b) p q = ap OfSint (one_in_zigzag a b (sym p.1 ∙ q.1))
one_of_number number n (OfBool a) (OfBool b) p q = ap OfBool (p.1 ∙ sym q.1)
one_of_number number n v w p q = absurd (omega (arith, p.0, q.0))

pub one_of_body : (number : ℕ) (body : Body) (v w : Value) → BodyHas number body v → BodyHas number body w → v ≡ w
one_of_body number (Spelled n) v w p q = one_of_number number n v w p q
one_of_body number (Eight bytes) v w p q = double_of number bytes v p ∙ sym (double_of number bytes w q)
one_of_body number (Four bytes) v w p q = float_of number bytes v p ∙ sym (float_of number bytes w q)
one_of_body number (Delimited width bytes) v w p q = text_of number width bytes v p ∙ sym (text_of number width bytes w q)
one_of_body number (Group bytes) v w p q = absurd p

-- ---- bytes have at most one value

whole : (f : Field) → IsField f → StoresField f → IsWholeFieldWith IsGroup f
whole f p q = record { valid = p; stored = q }

-- a field at the front of the bytes of another is that one, and takes them all
pub one_message : (bytes : List ℕ) (f g : Field) (n : ℕ) → IsField f → StoresField f → IsField g → StoresField g → n ≤ length bytes → take n bytes ≡ field_bytes f → field_bytes g ≡ bytes → (f ≡ g) × (n ≡ length bytes)
one_message bytes f g n p q r s within front spelled =
    let same : field_bytes f ++ drop n bytes ≡ field_bytes g ++ [] =
    ap (λ (x : List ℕ). x ++ drop n bytes) (sym front) ∙ take-append-drop n bytes ∙ sym spelled ∙ sym (append-nil (field_bytes g)) in
    let one = prefixes.one_field f g (drop n bytes) [] (whole f p q) (whole g r s) same in
    (one.0, omega (arith, ap length one.1, length-drop n bytes))

pub value_of_field : (bytes : List ℕ) (f : Field) → IsField f → StoresField f → take (length bytes) bytes ≡ field_bytes f → (v : Value) → HasValue bytes v → FieldHas f v
value_of_field bytes f p q front v h =
    let one = one_message bytes f h.field (length bytes) p q h.valid h.stored (omega arith) front h.spelled in
    subst (λ (g : Field). FieldHas g v) (sym one.0) h.has

some_value : (f : Field) (v : Value) (shown : Option Value) → IsSomeAnd shown (FieldHas f) → FieldHas f v → shown ≡ Some v
some_value f v (Some w) p h = ap Some (one_of_body _ f.body w v p h)
some_value f v None p h = absurd p

-- the one value of a field is shown
pub shown_value : (f : Field) (v : Value) (found : Option program.Value) (kept : program.Value) → IfSome found (λ shown. IsSomeAnd (shown_by shown) (FieldHas f)) → IfNone found ((w : Value) → FieldHas f w → ⊥) → FieldHas f v → shown_by (unwrap_or found kept) ≡ Some v
shown_value f v (Some shown) kept some none h = some_value f v (shown_by shown) some h
shown_value f v None kept some none h = absurd (none v h)

pub one_of_bytes : (bytes : List ℕ) (v w : Value) → HasValue bytes v → HasValue bytes w → v ≡ w
one_of_bytes bytes v w p q =
    let same : field_bytes p.field ++ [] ≡ field_bytes q.field ++ [] = ap (λ (x : List ℕ). x ++ []) (p.spelled ∙ sym q.spelled) in
    let one = prefixes.one_field p.field q.field [] [] (whole p.field p.valid p.stored) (whole q.field q.valid q.stored) same in
    let has : FieldHas q.field v = subst (λ (f : Field). FieldHas f v) one.0 p.has in
    one_of_body _ q.field.body v w has q.has

pub one_field_alone : (fields : List Field) (value : Value) → AllByRecursion (IsWholeFieldWith IsGroup) fields → HasValue (flat_map field_bytes fields) value → (f : Field) × (fields ≡ f ∷ []) × FieldHas f value
one_field_alone fields value all h =
    let same : flat_map field_bytes fields ≡ flat_map field_bytes (h.field ∷ []) = sym h.spelled ∙ sym (append-nil (field_bytes h.field)) in
    (h.field, prefixes.one_list fields (h.field ∷ []) all (whole h.field h.valid h.stored, tt) same, h.has)

-- ---- what is read is in range

in_range : (number : ℕ) (body : Body) (v : Value) → IsBodyWith IsGroup number body → StoresBody body → (other : ℕ) → BodyHas other body v → IsWritable v
in_range number (Delimited width bytes) (OfText text) valid stored other p = subst (λ (b : List ℕ). length b < 2 ^ 64) p.1 stored.fits
in_range number (Four bytes) (OfFloat float) valid stored other p = ap length (sym p.1) ∙ valid
in_range number (Eight bytes) (OfDouble double) valid stored other p = ap length (sym p.1) ∙ valid
in_range number (Spelled n) (OfInt int) valid stored other p = p.1
in_range number (Spelled n) (OfUint uint) valid stored other p = omega (arith, p.1, valid.fits)
in_range number (Spelled n) (OfSint sint) valid stored other p = zigzag_fits sint (omega (arith, p.1, valid.fits))
in_range number (Spelled n) (OfBool truth) valid stored other p = tt
in_range number body v valid stored other p = absurd p

pub read_in_range : (bytes : List ℕ) (v : Value) → HasValue bytes v → IsWritable v
read_in_range bytes v h = in_range _ h.field.body v h.valid.body h.stored _ h.has
