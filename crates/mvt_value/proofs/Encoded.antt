-- The bytes of a value in range have that value.
use Rattle.std.proofs.Common.{◌≡◌, ℕ, ◌<◌, ◌^◌, ◌/◌, ◌%◌, max, ℤ, pos, negsuc, Bool, true, false, List, [], ◌∷◌, ◌++◌, length, refl, sym, subst, ap, ◌∙◌, arith, SFits, w64, of_z, append-nil}
use Rattle.mvt_document.specs.Plain.{Number, Body, Spelled, Eight, Four, Delimited, Field}
use Rattle.mvt_document.specs.Shape.{IsTag}
use Rattle.mvt_document.specs.Wire.{spell, minimal_width, body_bytes, shortest}
use Rattle.mvt_document.specs.Groups.{wire_type, IsBodyWith, IsGroup, StoresBody}
use Rattle.mvt_document.proofs.Spelling.{minimal_spelling, minimal_width_some, minimal_width_short, spell-one}
use Rattle.mvt_document.proofs.Steps.{first_spelling, width_within-low}
use Rattle.std.specs.Int.{from_bool}
use Rattle.mvt_document.specs.Signed.{zigzag}
use Rattle.mvt_value.specs.Values.{Value, OfText, OfFloat, OfDouble, OfInt, OfUint, OfSint, OfBool}
use Rattle.mvt_value.specs.Signed.{twos_complement}
use Rattle.mvt_value.specs.Messages.{BodyHas, HasValue, encoded_value, IsWritable}

-- a field whose tag is one byte
abbrev short_field : ℕ → Body → Field
short_field tag body = record { tag = record { value = tag; width = 1 }; body = body }

-- its bytes have the value that it has
message : (tag : ℕ) (body : Body) (bytes : List ℕ) (v : Value) → tag < 128 → IsTag tag (wire_type body) → IsBodyWith IsGroup (tag / 8) body → StoresBody body → body_bytes body ≡ bytes → BodyHas (tag / 8) body v → HasValue (tag ∷ bytes) v
message tag body bytes v low is_tag valid stored same has =
    let byte : tag % 128 ≡ tag = omega arith in
    record {
      field = short_field tag body;
      valid = record { number = first_spelling tag low; tag = is_tag; body = valid };
      stored = stored;
      spelled = ap (λ (x : List ℕ). x ++ body_bytes body) (spell-one tag) ∙ ap (λ (b : ℕ). b ∷ body_bytes body) byte ∙ ap (λ (x : List ℕ). tag ∷ x) same;
      has = has;
    }

abbrev short_number : ℕ → Number
short_number value = record { value = value; width = minimal_width value }

number_message : (tag value : ℕ) (v : Value) → tag < 128 → IsTag tag 0 → value < 2 ^ 64 → BodyHas (tag / 8) (Spelled (short_number value)) v → HasValue (tag ∷ shortest value) v
number_message tag value v low is_tag fits has =
    message tag (Spelled (short_number value)) (shortest value) v low is_tag (minimal_spelling value fits) tt refl has

text_message : (text : List ℕ) → length text < 2 ^ 64 → HasValue (encoded_value (OfText text)) (OfText text)
text_message text fits =
    let n : ℕ = length text in
    let width : max (minimal_width (length text)) (minimal_width (length text)) ≡ minimal_width (length text) = omega arith in
    message 10 (Delimited (minimal_width (length text)) text) (shortest (length text) ++ text) (OfText text) (omega arith)
    (record { numbered = omega arith; short = omega arith; typed = refl })
    (record { some = minimal_width_some (length text); short = minimal_width_short (length text) })
    (minimal_spelling (length text) fits)
    (ap (λ (w : ℕ). spell (length text) w ++ text) width)
    (refl, refl)

twos_complement_fits : (z : ℤ) → SFits w64 z → twos_complement z < 2 ^ 64
twos_complement_fits (pos n) p = omega (arith, p.sfits)
twos_complement_fits (negsuc n) p = omega arith

zigzag_short : (z : ℤ) → SFits w64 z → zigzag z < 2 ^ 64
zigzag_short (pos n) p = omega (arith, p.sfits)
zigzag_short (negsuc n) p = omega (arith, p.sfits)

shortest-low : (value : ℕ) → value < 128 → shortest value ≡ value ∷ []
shortest-low value low =
    let byte : value % 128 ≡ value = omega arith in
    ap (λ (w : ℕ). spell value w) (width_within-low 9 value low) ∙ spell-one value ∙ ap (λ (b : ℕ). b ∷ []) byte

pub truth-bytes : (truth : Bool) → 56 ∷ (shortest (from_bool truth) ++ []) ≡ encoded_value (OfBool truth)
truth-bytes false = ap (λ (x : List ℕ). 56 ∷ (x ++ [])) (shortest-low 0 (omega arith))
truth-bytes true = ap (λ (x : List ℕ). 56 ∷ (x ++ [])) (shortest-low 1 (omega arith))

truth_message : (n : ℕ) (truth : Bool) → n < 128 → shortest n ≡ n ∷ [] → BodyHas 7 (Spelled (short_number n)) (OfBool truth) → HasValue (56 ∷ n ∷ []) (OfBool truth)
truth_message n truth low bytes has =
    message 56 (Spelled (short_number n)) (n ∷ []) (OfBool truth) (omega arith) (record { numbered = omega arith; short = omega arith; typed = refl }) (minimal_spelling n (omega arith)) tt bytes has

pub encoded_has : (v : Value) → IsWritable v → HasValue (encoded_value v) v
encoded_has (OfText text) p = text_message text p
encoded_has (OfFloat float) p =
    message 21 (Four float) float (OfFloat float) (omega arith) (record { numbered = omega arith; short = omega arith; typed = refl }) p tt refl (refl, refl)
encoded_has (OfDouble double) p =
    message 25 (Eight double) double (OfDouble double) (omega arith) (record { numbered = omega arith; short = omega arith; typed = refl }) p tt refl (refl, refl)
encoded_has (OfInt int) p =
    number_message 32 (twos_complement int) (OfInt int) (omega arith) (record { numbered = omega arith; short = omega arith; typed = refl }) (twos_complement_fits int p) (refl, p, refl)
encoded_has (OfUint uint) p =
    number_message 40 uint (OfUint uint) (omega arith) (record { numbered = omega arith; short = omega arith; typed = refl }) p (refl, refl)
encoded_has (OfSint sint) p =
    number_message 48 (zigzag sint) (OfSint sint) (omega arith) (record { numbered = omega arith; short = omega arith; typed = refl }) (zigzag_short sint p) (refl, refl)
encoded_has (OfBool false) p = truth_message 0 false (omega arith) (shortest-low 0 (omega arith)) (refl, refl)
encoded_has (OfBool true) p = truth_message 1 true (omega arith) (shortest-low 1 (omega arith)) (refl, refl)

-- bytes that are those of a value in range have it
pub written : (bytes : List ℕ) (v : Value) → IsWritable v → bytes ≡ encoded_value v → HasValue bytes v
written bytes v p e = subst (λ (b : List ℕ). HasValue b v) (sym e) (encoded_has v p)

pub number_written : (bytes : List ℕ) (tag n : ℕ) (v : Value) → IsWritable v → encoded_value v ≡ tag ∷ shortest n → bytes ≡ tag ∷ (shortest n ++ []) → HasValue bytes v
number_written bytes tag n v p is e = written bytes v p (e ∙ ap (λ (x : List ℕ). tag ∷ x) (append-nil (shortest n)) ∙ sym is)

pub cast-twos_complement : (z : ℤ) → of_z w64 z ≡ twos_complement z
cast-twos_complement (pos n) = refl
cast-twos_complement (negsuc n) = refl
