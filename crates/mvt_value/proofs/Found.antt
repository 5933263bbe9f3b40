-- The value that is found in bytes is the one that they have.
use Rattle.std.proofs.Common.{◌≡◌, ℕ, ◌/◌, Bool, cond, not, eqb, List, [], ◌∷◌, ◌++◌, length, Option, Some, None, refl, sym, ap, ◌∙◌, subst, arith}
use Rattle.std.specs.Prelude.{option_map, option_and_then, IfSome}
use Rattle.std.specs.List.{flat_map}
use Rattle.std.proofs.lemmas.Bool.{cond-true, cond_both, eq-eqb, eqb-true}
use Rattle.std.proofs.lemmas.Option.{cond_some, option_and_then_some, same_Some, none-some}
use Rattle.mvt_document.specs.Plain.{Number, Body, Spelled, Eight, Four, Delimited, Field}
use Rattle.mvt_document.specs.Shape.{IsSpelling, IsTag}
use Rattle.mvt_document.specs.Wire.{spell, spelling, delimited, body_bytes, field_bytes}
use Rattle.mvt_document.specs.Groups.{IsNumber, wire_type, IsBodyWith, IsGroup, StoresBody, StoresField}
use Rattle.mvt_document.specs.Opens.{IsField}
use Rattle.mvt_document.proofs.Spelling.{max_spelling, spelling_some}
use Rattle.mvt_messages.specs.Numbers.{pieces, number_in}
use Rattle.mvt_messages.proofs.Pieces.{pieces-joined, pieces-spelling, number_in-spell, spelling_of_piece}
use Rattle.mvt_value.specs.Values.{Value, OfText, OfFloat, OfDouble, OfInt, OfUint, OfSint, OfBool}
use Rattle.mvt_value.specs.Messages.{BodyHas, FieldHas, HasValue}
use Rattle.mvt_document.specs.Signed.{unzigzag}
use Rattle.mvt_value.specs.Signed.{signed}
use Rattle.mvt_value.specs.Found.{Front, first_piece, front_in, if_length, delimited_in, value_of_number, value_after, value_in}
use Rattle.mvt_value.specs.Laws.{ValueIn}
use Rattle.mvt_document.proofs.Signed.{unzigzag-zigzag, zigzag-unzigzag}
use Rattle.mvt_value.proofs.Signed.{signed-twos_complement, signed_is}

-- ---- the number at the front

abbrev front : Number → List ℕ → Front
front number rest = record { number = number; rest = rest }

pub front-spelling : (number : Number) (rest : List ℕ) → IsNumber number → front_in (spelling number ++ rest) ≡ Some (front number rest)
front-spelling number rest s =
    ap first_piece (pieces-spelling number rest s)
    ∙ ap (λ (found : Option Number). option_map (λ (n : Number). front n (flat_map (λ (piece : List ℕ). piece) (pieces rest))) found) (number_in-spell number.value number.width s)
    ∙ ap (λ (following : List ℕ). Some (front number following)) (pieces-joined rest)

record IsFront (bytes : List ℕ) (found : Front) : Type 0 where
  valid : IsNumber found.number
  spelled : spelling found.number ++ found.rest ≡ bytes

first_number : (piece rest : List ℕ) (found : Front) (number : Option Number) → number_in piece ≡ number → option_map (λ (n : Number). front n rest) number ≡ Some found → IsFront (piece ++ rest) found
first_number piece rest found None is e = absurd (none-some found e)
first_number piece rest found (Some number) is e =
    let s = spelling_of_piece piece number is in
    subst (IsFront (piece ++ rest)) (same_Some (front number rest) found e) (record { valid = s.0; spelled = ap (λ (b : List ℕ). b ++ rest) s.1 })

in_pieces : (list : List (List ℕ)) (found : Front) → first_piece list ≡ Some found → IsFront (flat_map (λ (piece : List ℕ). piece) list) found
in_pieces [] found e = absurd (none-some found e)
in_pieces (piece ∷ more) found e = first_number piece (flat_map (λ (p : List ℕ). p) more) found (number_in piece) refl e

front_is : (bytes : List ℕ) (found : Front) → front_in bytes ≡ Some found → IsFront bytes found
front_is bytes found e = subst (λ (b : List ℕ). IsFront b found) (pieces-joined bytes) (in_pieces (pieces bytes) found e)

-- ---- what bytes have is found

if_length-same : (count : ℕ) (bytes : List ℕ) → length bytes ≡ count → if_length count bytes ≡ Some bytes
if_length-same count bytes e = cond-true (eqb (length bytes) count) _ _ (eq-eqb (length bytes) count e)

delimited_in-delimited : (width : ℕ) (bytes : List ℕ) → IsSpelling (length bytes) width → delimited_in (delimited width bytes) ≡ Some bytes
delimited_in-delimited width bytes s =
    ap (λ (w : ℕ). delimited_in (spell (length bytes) w ++ bytes)) (max_spelling (length bytes) width s)
    ∙ ap (λ (found : Option Front). option_and_then (λ (f : Front). if_length f.number.value f.rest) found) (front-spelling (record { value = length bytes; width = width }) bytes s)
    ∙ if_length-same (length bytes) bytes refl

number_after : (tag : ℕ) (number : Number) (value : Value) → IsNumber number → value_of_number tag number.value ≡ Some value → option_and_then (λ (n : Number). value_of_number tag n.value) (number_in (spelling number)) ≡ Some value
number_after tag number value s e = ap (λ (found : Option Number). option_and_then (λ (n : Number). value_of_number tag n.value) found) (number_in-spell number.value number.width s) ∙ e

at_tag : (tag other : ℕ) (bytes : List ℕ) (value : Value) → tag ≡ other → value_after other bytes ≡ Some value → value_after tag bytes ≡ Some value
at_tag tag other bytes value same e = ap (λ (t : ℕ). value_after t bytes) same ∙ e

following : (tag : ℕ) (body : Body) (value : Value) → IsTag tag (wire_type body) → IsBodyWith IsGroup (tag / 8) body → StoresBody body → BodyHas (tag / 8) body value → value_after tag (body_bytes body) ≡ Some value
following tag (Delimited width bytes) (OfText text) t b s h =
    at_tag tag 10 (delimited width bytes) (OfText text) (omega (arith, t.typed, h.0)) (ap (option_map OfText) (delimited_in-delimited width bytes s) ∙ ap (λ (x : List ℕ). Some (OfText x)) h.1)
following tag (Four bytes) (OfFloat float) t b s h =
    at_tag tag 21 bytes (OfFloat float) (omega (arith, t.typed, h.0)) (ap (option_map OfFloat) (if_length-same 4 bytes b) ∙ ap (λ (x : List ℕ). Some (OfFloat x)) h.1)
following tag (Eight bytes) (OfDouble double) t b s h =
    at_tag tag 25 bytes (OfDouble double) (omega (arith, t.typed, h.0)) (ap (option_map OfDouble) (if_length-same 8 bytes b) ∙ ap (λ (x : List ℕ). Some (OfDouble x)) h.1)
following tag (Spelled n) (OfInt int) t b s h =
    at_tag tag 32 (spelling n) (OfInt int) (omega (arith, t.typed, h.0)) (number_after 32 n (OfInt int) b (ap (λ (v : ℕ). Some (OfInt (signed v))) h.2 ∙ ap (λ (z : _). Some (OfInt z)) (signed-twos_complement int h.1)))
following tag (Spelled n) (OfUint uint) t b s h =
    at_tag tag 40 (spelling n) (OfUint uint) (omega (arith, t.typed, h.0)) (number_after 40 n (OfUint uint) b (ap (λ (v : ℕ). Some (OfUint v)) h.1))
following tag (Spelled n) (OfSint sint) t b s h =
    at_tag tag 48 (spelling n) (OfSint sint) (omega (arith, t.typed, h.0)) (number_after 48 n (OfSint sint) b (ap (λ (v : ℕ). Some (OfSint (unzigzag v))) h.1 ∙ ap (λ (z : _). Some (OfSint z)) (unzigzag-zigzag sint)))
following tag (Spelled n) (OfBool truth) t b s h =
    at_tag tag 56 (spelling n) (OfBool truth) (omega (arith, t.typed, h.0)) (number_after 56 n (OfBool truth) b (ap (λ (v : Bool). Some (OfBool v)) (sym h.1)))
following tag body value t b s h = absurd h

found_in_field : (f : Field) (value : Value) → IsField f → StoresField f → FieldHas f value → value_in (field_bytes f) ≡ Some value
unfolding value_in
found_in_field f value valid stored has =
    ap (λ (found : Option Front). option_and_then (λ (at : Front). value_after at.number.value at.rest) found) (front-spelling f.tag (body_bytes f.body) valid.number)
    ∙ following f.tag.value f.body value valid.tag valid.body stored has

pub found_value : (bytes : List ℕ) (value : Value) → HasValue bytes value → value_in bytes ≡ Some value
found_value bytes value h = ap value_in (sym h.spelled) ∙ found_in_field h.field value h.valid h.stored h.has

-- ---- what is found the bytes have

-- what the rest after a tag says
record Says (tag : ℕ) (bytes : List ℕ) (value : Value) : Type 0 where
  body : Body
  typed : IsTag tag (wire_type body)
  valid : IsBodyWith IsGroup (tag / 8) body
  stored : StoresBody body
  spelled : body_bytes body ≡ bytes
  has : BodyHas (tag / 8) body value

mapped : {A B : Type 0} (f : A → B) (o : Option A) (y : B) → option_map f o ≡ Some y → (x : A) × (o ≡ Some x) × (f x ≡ y)
mapped f None y e = absurd (none-some y e)
mapped f (Some x) y e = (x, refl, same_Some (f x) y e)

length_of : (count : ℕ) (bytes found : List ℕ) → if_length count bytes ≡ Some found → (length bytes ≡ count) × (bytes ≡ found)
length_of count bytes found e =
    let c = cond_some (eqb (length bytes) count) bytes found e in
    (eqb-true (length bytes) count c.0, c.1)

-- bytes begin with the length of the text after it
record IsDelimited (bytes text : List ℕ) : Type 0 where
  width : ℕ
  stored : IsSpelling (length text) width
  spelled : delimited width text ≡ bytes

delimited_front : (bytes : List ℕ) (found : Front) → IsFront bytes found → length found.rest ≡ found.number.value → IsDelimited bytes found.rest
delimited_front bytes found f e =
    let stored : IsSpelling (length found.rest) found.number.width = rw e f.valid in
    record {
      width = found.number.width;
      stored = stored;
      spelled =
          ap (λ (w : ℕ). spell (length found.rest) w ++ found.rest) (max_spelling (length found.rest) found.number.width stored)
          ∙ ap (λ (v : ℕ). spell v found.number.width ++ found.rest) e
          ∙ f.spelled;
    }

delimited_is : (bytes text : List ℕ) → delimited_in bytes ≡ Some text → IsDelimited bytes text
delimited_is bytes text e =
    option_and_then_some (λ (f : Front). if_length f.number.value f.rest) (front_in bytes) text e
    (λ found is same.
    let l = length_of found.number.value found.rest text same in
    subst (IsDelimited bytes) l.1 (delimited_front bytes found (front_is bytes found is) l.0))

text_says : (bytes : List ℕ) (value : Value) → option_map OfText (delimited_in bytes) ≡ Some value → Says 10 bytes value
text_says bytes value e =
    let m = mapped OfText (delimited_in bytes) value e in
    let d = delimited_is bytes m.0 m.1 in
    subst (Says 10 bytes) m.2
    (record {
      body = Delimited d.width m.0;
      typed = record { numbered = omega arith; short = omega arith; typed = refl };
      valid = record { some = spelling_some (length m.0) d.width d.stored; short = d.stored.short };
      stored = d.stored;
      spelled = d.spelled;
      has = (refl, refl);
    })

float_says : (bytes : List ℕ) (value : Value) → option_map OfFloat (if_length 4 bytes) ≡ Some value → Says 21 bytes value
float_says bytes value e =
    let m = mapped OfFloat (if_length 4 bytes) value e in
    let l = length_of 4 bytes m.0 m.1 in
    subst (Says 21 bytes) m.2
    (record {
      body = Four bytes;
      typed = record { numbered = omega arith; short = omega arith; typed = refl };
      valid = l.0;
      stored = tt;
      spelled = refl;
      has = (refl, l.1);
    })

double_says : (bytes : List ℕ) (value : Value) → option_map OfDouble (if_length 8 bytes) ≡ Some value → Says 25 bytes value
double_says bytes value e =
    let m = mapped OfDouble (if_length 8 bytes) value e in
    let l = length_of 8 bytes m.0 m.1 in
    subst (Says 25 bytes) m.2
    (record {
      body = Eight bytes;
      typed = record { numbered = omega arith; short = omega arith; typed = refl };
      valid = l.0;
      stored = tt;
      spelled = refl;
      has = (refl, l.1);
    })

-- what a number says after a tag
record NumberSays (tag : ℕ) (number : Number) (value : Value) : Type 0 where
  typed : IsTag tag 0
  has : BodyHas (tag / 8) (Spelled number) value

int_says : (number : Number) → IsNumber number → NumberSays 32 number (OfInt (signed number.value))
int_says number s =
    let is = signed_is number.value s.fits in
    record { typed = record { numbered = omega arith; short = omega arith; typed = refl }; has = (refl, is.fits, is.same) }

uint_says : (number : Number) → NumberSays 40 number (OfUint number.value)
uint_says number = record { typed = record { numbered = omega arith; short = omega arith; typed = refl }; has = (refl, refl) }

sint_says : (number : Number) → NumberSays 48 number (OfSint (unzigzag number.value))
sint_says number = record { typed = record { numbered = omega arith; short = omega arith; typed = refl }; has = (refl, sym (zigzag-unzigzag number.value)) }

bool_says : (number : Number) → NumberSays 56 number (OfBool (not (eqb number.value 0)))
bool_says number = record { typed = record { numbered = omega arith; short = omega arith; typed = refl }; has = (refl, refl) }

-- a value that is selected after a tag, or else another
chosen : (P : ℕ → Value → Type 0) (tag other : ℕ) (here there : Option Value) (value : Value) → (here ≡ Some value → P other value) → (there ≡ Some value → P tag value) → cond (eqb tag other) here there ≡ Some value → P tag value
chosen P tag other here there value first rest e =
    cond_both (eqb tag other) here there (λ (o : Option Value). o ≡ Some value → P tag value)
    (λ same f. subst (λ (t : ℕ). P t value) (sym (eqb-true tag other same)) (first f))
    (λ _ f. rest f)
    e

number_says : (tag : ℕ) (number : Number) (value : Value) → IsNumber number → value_of_number tag number.value ≡ Some value → NumberSays tag number value
number_says tag number value s e =
    let P : ℕ → Value → Type 0 = λ t v. NumberSays t number v in
    chosen P tag 32 _ _ value (λ f. subst (P 32) (same_Some _ value f) (int_says number s))
    (chosen P tag 40 _ _ value (λ f. subst (P 40) (same_Some _ value f) (uint_says number))
    (chosen P tag 48 _ _ value (λ f. subst (P 48) (same_Some _ value f) (sint_says number))
    (chosen P tag 56 _ _ value (λ f. subst (P 56) (same_Some _ value f) (bool_says number))
    (λ f. absurd (none-some value f)))))
    e

spelled_says : (tag : ℕ) (bytes : List ℕ) (value : Value) → option_and_then (λ (n : Number). value_of_number tag n.value) (number_in bytes) ≡ Some value → Says tag bytes value
spelled_says tag bytes value e =
    option_and_then_some (λ (n : Number). value_of_number tag n.value) (number_in bytes) value e
    (λ number is same.
    let s = spelling_of_piece bytes number is in
    let n = number_says tag number value s.0 same in
    record {
      body = Spelled number;
      typed = n.typed;
      valid = s.0;
      stored = tt;
      spelled = s.1;
      has = n.has;
    })

says : (tag : ℕ) (bytes : List ℕ) (value : Value) → value_after tag bytes ≡ Some value → Says tag bytes value
says tag bytes value e =
    let P : ℕ → Value → Type 0 = λ t v. Says t bytes v in
    chosen P tag 10 _ _ value (text_says bytes value)
    (chosen P tag 21 _ _ value (float_says bytes value)
    (chosen P tag 25 _ _ value (double_says bytes value)
    (spelled_says tag bytes value)))
    e

after_front : (bytes : List ℕ) (value : Value) (found : Front) → IsFront bytes found → Says found.number.value found.rest value → HasValue bytes value
after_front bytes value found f s =
    record {
      field = record { tag = found.number; body = s.body };
      valid = record { number = f.valid; tag = s.typed; body = s.valid };
      stored = s.stored;
      spelled = ap (λ (b : List ℕ). spelling found.number ++ b) s.spelled ∙ f.spelled;
      has = s.has;
    }

pub has_value : (bytes : List ℕ) (value : Value) → value_in bytes ≡ Some value → HasValue bytes value
unfolding value_in
has_value bytes value e =
    option_and_then_some (λ (front : Front). value_after front.number.value front.rest) (front_in bytes) value e
    (λ found is same. after_front bytes value found (front_is bytes found is) (says found.number.value found.rest value same))

pub value_in_bytes : ValueIn
value_in_bytes bytes value = (has_value bytes value, found_value bytes value)

-- ---- none is found

none_or : (bytes : List ℕ) (found : Option Value) → value_in bytes ≡ found → ((value : Value) → HasValue bytes value → ⊥) → found ≡ None
none_or bytes None e none = refl
none_or bytes (Some value) e none = absurd (none value (has_value bytes value e))

-- in bytes with no value none is found
pub no_value_in : (bytes : List ℕ) → ((value : Value) → HasValue bytes value → ⊥) → value_in bytes ≡ None
no_value_in bytes none = none_or bytes (value_in bytes) refl none

-- what is shown, where it is the one value of the bytes, is what is found in them
pub shown_value_in : (bytes : List ℕ) (shown : Option Value) → IfSome shown (HasValue bytes) → ((value : Value) → HasValue bytes value → shown ≡ Some value) → shown ≡ value_in bytes
shown_value_in bytes (Some value) has only = sym (found_value bytes value has)
shown_value_in bytes None has only = sym (no_value_in bytes (λ value h. none-some value (only value h)))
