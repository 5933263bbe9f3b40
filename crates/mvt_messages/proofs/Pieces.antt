-- A packed body in pieces: what is spelled is read, and what is read is spelled.
use Rattle.std.proofs.Common.{◌≡◌, ℕ, zero, suc, ◌+◌, ◌*◌, ◌/◌, ◌%◌, ◌^◌, ◌<◌, ◌≤◌, true, cond, List, [], ◌∷◌, ◌++◌, length, take, drop, Option, Some, None, Result, Ok, Err, ltb, refl, sym, ap, ◌∙◌, subst, append_assoc, arith}
use Rattle.std.specs.List.{flat_map}
use Rattle.std.proofs.lemmas.Bool.{cond-true, cond-false, cond_both, lt-ltb, le-ltb, ltb-true, le-leb, leb-true, and_parts, and_from}
use Rattle.std.proofs.lemmas.Option.{cond_some}
use Rattle.std.proofs.lemmas.List.{take-append-drop}
use Rattle.std.proofs.lemmas.Slice.Eq.{bytes_eq-Decides}
use Rattle.mvt_document.specs.Plain.{Number}
use Rattle.mvt_document.specs.Wire.{spell, spelling}
use Rattle.mvt_document.specs.Shape.{IsSpelling}
use Rattle.mvt_document.specs.Groups.{IsNumber}
use Rattle.mvt_document.proofs.Spelling.{pow_more, rest_below, spelling_from, spelling_some, spelling_below, length-spell}
use Rattle.mvt_messages.specs.Numbers.{Placed, with_first, pieces, unspelled, is_spelled, number_in, chunk_at, unpacked, all_good, and_more, before_bad}
use Rattle.mvt_messages.specs.Laws.{spellings, AreNumbers, SpelledIsRead, ReadIsSpelled, EndsBadly, BadIsNoNumber}

-- ---- the cut

pub pieces-low : (byte : ℕ) (more : List ℕ) → byte < 128 → pieces (byte ∷ more) ≡ (byte ∷ []) ∷ pieces more
pieces-low byte more low = cond-true (ltb byte 128) _ _ (lt-ltb byte 128 low)

pub pieces-high : (byte : ℕ) (more : List ℕ) → 128 ≤ byte → pieces (byte ∷ more) ≡ with_first byte (pieces more)
pieces-high byte more high = cond-false (ltb byte 128) _ _ (le-ltb byte 128 high)

with_first-joined : (byte : ℕ) (list : List (List ℕ)) → flat_map (λ (piece : List ℕ). piece) (with_first byte list) ≡ byte ∷ flat_map (λ (piece : List ℕ). piece) list
with_first-joined byte [] = refl
with_first-joined byte (piece ∷ more) = refl

-- the pieces are the body
pub pieces-joined : (body : List ℕ) → flat_map (λ (piece : List ℕ). piece) (pieces body) ≡ body
pieces-joined [] = refl
pieces-joined (byte ∷ more) =
    cond_both (ltb byte 128) ((byte ∷ []) ∷ pieces more) (with_first byte (pieces more)) (λ list. flat_map (λ (piece : List ℕ). piece) list ≡ byte ∷ more)
    (λ _. ap (λ rest. byte ∷ rest) (pieces-joined more))
    (λ _. with_first-joined byte (pieces more) ∙ ap (λ rest. byte ∷ rest) (pieces-joined more))

-- a spelling is one piece
pub pieces-spell : (value width : ℕ) (rest : List ℕ) → pieces (spell value (suc width) ++ rest) ≡ spell value (suc width) ∷ pieces rest
unfolding spell
pieces-spell value zero rest = pieces-low (value % 128) rest (omega arith)
pieces-spell value (suc width) rest =
    pieces-high (value % 128 + 128) (spell (value / 128) (suc width) ++ rest) (omega arith)
    ∙ ap (with_first (value % 128 + 128)) (pieces-spell (value / 128) width rest)

-- ---- the number of a piece

pub unspelled-spell : (value width : ℕ) → value < 2 ^ (7 * suc width) → unspelled (spell value (suc width)) ≡ value
unfolding spell
unspelled-spell value zero below = omega arith
unspelled-spell value (suc width) below =
    omega (arith, unspelled-spell (value / 128) width (rest_below value (suc width) below))

unspelled_below : (piece : List ℕ) → unspelled piece < 2 ^ (7 * length piece)
unspelled_below [] = omega arith
unspelled_below (byte ∷ more) = omega (arith, pow_more (length more), unspelled_below more)

abbrev number_if : ℕ → ℕ → List ℕ → Option Number
number_if value width piece = cond (is_spelled value width piece) (Some (record { value = value; width = width })) None

number_in-if : (piece : List ℕ) → number_in piece ≡ number_if (unspelled piece) (length piece) piece
unfolding number_in
number_in-if piece = refl

is_spelled-spelling : (value width : ℕ) → IsSpelling value width → is_spelled value width (spell value width) ≡ true
is_spelled-spelling value width s =
    and_from _ _ (lt-ltb value (2 ^ 64) s.fits)
    (and_from _ _ (le-leb 1 width (spelling_some value width s))
    (and_from _ _ (le-leb width 10 s.short) ((bytes_eq-Decides (spell value width) (spell value width)).1 refl)))

-- a spelling is that of its number
pub number_in-spell : (value width : ℕ) → IsSpelling value width → number_in (spell value width) ≡ Some (record { value = value; width = width })
number_in-spell value zero s = absurd (omega (arith, spelling_some value 0 s))
number_in-spell value (suc width) s =
    let piece = spell value (suc width) in
    number_in-if piece
    ∙ ap (λ (v : ℕ). number_if v (length piece) piece) (unspelled-spell value width (spelling_below value (suc width) s))
    ∙ ap (λ (w : ℕ). number_if value w piece) (length-spell value (suc width))
    ∙ cond-true _ _ _ (is_spelled-spelling value (suc width) s)

-- a piece that has a number is its spelling
pub spelling_of_piece : (piece : List ℕ) (number : Number) → number_in piece ≡ Some number → IsNumber number × (spelling number ≡ piece)
spelling_of_piece piece number e =
    let value = unspelled piece in
    let width = length piece in
    let found = cond_some (is_spelled value width piece) (record { value = value; width = width }) number (sym (number_in-if piece) ∙ e) in
    let fits = and_parts _ _ found.0 in
    let some = and_parts _ _ fits.1 in
    let short = and_parts _ _ some.1 in
    let valid : IsSpelling value width = spelling_from value width (leb-true 1 width some.0) (leb-true width 10 short.0) (ltb-true value (2 ^ 64) fits.0) (unspelled_below piece) in
    let same : spell value width ≡ piece = (bytes_eq-Decides (spell value width) piece).0 short.1 in
    subst (λ (n : Number). IsNumber n × (spelling n ≡ piece)) found.1 (valid, same)

-- ---- what a body begins with

some_more : (width : ℕ) → 1 ≤ width → (n : ℕ) × (width ≡ suc n)
some_more zero h = absurd (omega arith)
some_more (suc n) h = (n, refl)

-- a spelling and what follows it
pub pieces-spelling : (number : Number) (rest : List ℕ) → IsNumber number → pieces (spelling number ++ rest) ≡ spelling number ∷ pieces rest
pieces-spelling number rest s =
    let more = some_more number.width (spelling_some number.value number.width s) in
    let P : ℕ → Type 0 = λ w. pieces (spell number.value w ++ rest) ≡ spell number.value w ∷ pieces rest in
    subst P (sym more.1) (pieces-spell number.value more.0 rest)

pub packed-spelling : (field place : ℕ) (number : Number) (rest : List ℕ) → IsNumber number → unpacked field place (pieces (spelling number ++ rest)) ≡ Ok (record { number = number; field = field; place = place }) ∷ unpacked field (place + number.width) (pieces rest)
packed-spelling field place number rest s =
    ap (unpacked field place) (pieces-spelling number rest s)
    ∙ ap (λ (n : Option Number). chunk_at field place n ∷ unpacked field (place + length (spelling number)) (pieces rest)) (number_in-spell number.value number.width s)
    ∙ ap (λ (w : ℕ). Ok (record { number = number; field = field; place = place }) ∷ unpacked field (place + w) (pieces rest)) (length-spell number.value number.width)

cases_of : (field place : ℕ) (piece : List ℕ) (rest : List (Result Placed ℕ)) → ((n : Number) → number_in piece ≡ Some n → ⊥) → (found : Option Number) → number_in piece ≡ found → (more : List (Result Placed ℕ)) × (chunk_at field place found ∷ rest ≡ Err field ∷ more)
cases_of field place piece rest none None e = (rest, refl)
cases_of field place piece rest none (Some n) e = absurd (none n e)

bad_piece : (field place : ℕ) (body : List ℕ) (list : List (List ℕ)) → flat_map (λ (piece : List ℕ). piece) list ≡ body → 0 < length body → ((number : Number) (rest : List ℕ) → IsNumber number → body ≡ spelling number ++ rest → ⊥) → (more : List (Result Placed ℕ)) × (unpacked field place list ≡ Err field ∷ more)
bad_piece field place body [] e some none = absurd (omega (arith, ap length e))
bad_piece field place body (piece ∷ more) e some none =
    let rest = unpacked field (place + length piece) more in
    let tail : List ℕ = flat_map (λ (p : List ℕ). p) more in
    cases_of field place piece rest (λ n is.
    let s = spelling_of_piece piece n is in
    none n tail s.0 (sym e ∙ ap (λ (b : List ℕ). b ++ tail) (sym s.1))) (number_in piece) refl

-- a number at the front is the first that is packed
pub packed-front : (field place : ℕ) (body : List ℕ) (number : Number) → IsNumber number → take number.width body ≡ spelling number → unpacked field place (pieces body) ≡ Ok (record { number = number; field = field; place = place }) ∷ unpacked field (place + number.width) (pieces (drop number.width body))
packed-front field place body number s e =
    ap (λ (b : List ℕ). unpacked field place (pieces b)) (sym (take-append-drop number.width body) ∙ ap (λ (b : List ℕ). b ++ drop number.width body) e)
    ∙ packed-spelling field place number (drop number.width body) s

-- where no number is at the front the first chunk is bad
pub packed-bad : (field place : ℕ) (body : List ℕ) → 0 < length body → ((number : Number) (rest : List ℕ) → IsNumber number → body ≡ spelling number ++ rest → ⊥) → (more : List (Result Placed ℕ)) × (unpacked field place (pieces body) ≡ Err field ∷ more)
packed-bad field place body some none = bad_piece field place body (pieces body) (pieces-joined body) some none

-- ---- laws

pub row-packed : SpelledIsRead
row-packed field place [] p = refl
row-packed field place (number ∷ more) p =
    packed-spelling field place number (flat_map spelling more) p.0
    ∙ ap (λ (w : ℕ). Ok (record { number = number; field = field; place = place }) ∷ unpacked field (place + w) (pieces (flat_map spelling more))) (sym (length-spell number.value number.width))
    ∙ ap (λ (list : List (Result Placed ℕ)). Ok (record { number = number; field = field; place = place }) ∷ list) (row-packed field (place + length (spelling number)) more p.1)

good_more : {A : Type 0} (item : A) (others : Option (List A)) (found : List A) → and_more item others ≡ Some found → (rest : List A) × (others ≡ Some rest) × (item ∷ rest ≡ found)
good_more item None found e = absurd (cc)
good_more item (Some rest) found e = (rest, refl, cc)

bad_more : {A : Type 0} (item : A) (others : Option (List A)) → and_more item others ≡ None → others ≡ None
bad_more item None e = refl
bad_more item (Some rest) e = absurd (cc)

-- what is found in pieces
abbrev IsFound : List (List ℕ) → List Placed → Type 0
IsFound list found = (flat_map (λ (piece : List ℕ). piece) list ≡ spellings found) × AreNumbers found

found_more : (field place : ℕ) (piece : List ℕ) (more : List (List ℕ)) (found : List Placed) → ((rest : List Placed) → all_good (unpacked field (place + length piece) more) ≡ Some rest → IsFound more rest) → (n : Option Number) → number_in piece ≡ n → all_good (chunk_at field place n ∷ unpacked field (place + length piece) more) ≡ Some found → IsFound (piece ∷ more) found
found_more field place piece more found others None is e = absurd (cc)
found_more field place piece more found others (Some n) is e =
    let placed : Placed = record { number = n; field = field; place = place } in
    let r = good_more placed (all_good (unpacked field (place + length piece) more)) found e in
    let s = spelling_of_piece piece n is in
    let o = others r.0 r.1 in
    let front : piece ≡ spelling n = sym s.1 in
    let following : flat_map (λ (p : List ℕ). p) more ≡ spellings r.0 = o.0 in
    let both : IsFound (piece ∷ more) (placed ∷ r.0) = (cc, (s.0, o.1)) in
    subst (IsFound (piece ∷ more)) r.2 both

found_in_pieces : (field place : ℕ) (list : List (List ℕ)) (found : List Placed) → all_good (unpacked field place list) ≡ Some found → IsFound list found
found_in_pieces field place [] found e =
    let none : [] ≡ found = cc in subst (IsFound []) none (refl, tt)
found_in_pieces field place (piece ∷ more) found e =
    found_more field place piece more found (found_in_pieces field (place + length piece) more) (number_in piece) refl e

pub found_spelled : ReadIsSpelled
found_spelled field place body found e =
    let r = found_in_pieces field place (pieces body) found e in
    (sym (pieces-joined body) ∙ r.0, r.1)

-- the pieces after the first are those of what they join to
tail_of_high : (byte : ℕ) (list : List (List ℕ)) (piece : List ℕ) (more : List (List ℕ)) → ((first : List ℕ) (others : List (List ℕ)) → list ≡ first ∷ others → pieces (flat_map (λ (p : List ℕ). p) others) ≡ others) → with_first byte list ≡ piece ∷ more → pieces (flat_map (λ (p : List ℕ). p) more) ≡ more
tail_of_high byte [] piece more others e =
    let none : [] ≡ more = cc in subst (λ (list : List (List ℕ)). pieces (flat_map (λ (p : List ℕ). p) list) ≡ list) none refl
tail_of_high byte (first ∷ list) piece more others e =
    let same : list ≡ more = cc in
    subst (λ (list : List (List ℕ)). pieces (flat_map (λ (p : List ℕ). p) list) ≡ list) same (others first list refl)

pieces-tail : (body piece : List ℕ) (more : List (List ℕ)) → pieces body ≡ piece ∷ more → pieces (flat_map (λ (p : List ℕ). p) more) ≡ more
pieces-tail [] piece more e = absurd (cc)
pieces-tail (byte ∷ body) piece more e =
    cond_both (ltb byte 128) ((byte ∷ []) ∷ pieces body) (with_first byte (pieces body)) (λ list. list ≡ piece ∷ more → pieces (flat_map (λ (p : List ℕ). p) more) ≡ more)
    (λ _ f.
    let same : pieces body ≡ more = cc in
    subst (λ (list : List (List ℕ)). pieces (flat_map (λ (p : List ℕ). p) list) ≡ list) same (ap pieces (pieces-joined body)))
    (λ _ f. tail_of_high byte (pieces body) piece more (λ first others is. pieces-tail body first others is) f) e

bad_at : (field place : ℕ) (piece : List ℕ) (more : List (List ℕ)) → pieces (flat_map (λ (p : List ℕ). p) (piece ∷ more)) ≡ piece ∷ more
    → (all_good (unpacked field (place + length piece) more) ≡ None → EndsBadly (flat_map (λ (p : List ℕ). p) more) (before_bad (unpacked field (place + length piece) more)))
    → (n : Option Number) → number_in piece ≡ n → all_good (chunk_at field place n ∷ unpacked field (place + length piece) more) ≡ None
    → EndsBadly (flat_map (λ (p : List ℕ). p) (piece ∷ more)) (before_bad (chunk_at field place n ∷ unpacked field (place + length piece) more))
bad_at field place piece more cut others None is e =
    record {
      numbers = tt;
      rest = flat_map (λ (p : List ℕ). p) (piece ∷ more);
      spelled = refl;
      some = λ none.
          let nothing : [] ≡ piece ∷ more = ap pieces (sym none) ∙ cut in cc;
      none = λ number rest valid begins.
          let front : spelling number ∷ pieces rest ≡ piece ∷ more = sym (pieces-spelling number rest valid) ∙ ap pieces (sym begins) ∙ cut in
          let same : spelling number ≡ piece = cc in
          let found : number_in piece ≡ Some number = ap number_in (sym same) ∙ number_in-spell number.value number.width valid in
          let apart : None ≡ Some number = sym is ∙ found in
          cc;
    }
bad_at field place piece more cut others (Some n) is e =
    let placed : Placed = record { number = n; field = field; place = place } in
    let r = others (bad_more placed (all_good (unpacked field (place + length piece) more)) e) in
    let s = spelling_of_piece piece n is in
    record {
      numbers = (s.0, r.numbers);
      rest = r.rest;
      spelled =
          ap (λ (b : List ℕ). b ++ flat_map (λ (p : List ℕ). p) more) (sym s.1)
          ∙ ap (λ (b : List ℕ). spelling n ++ b) r.spelled
          ∙ sym (append_assoc (spelling n) (spellings (before_bad (unpacked field (place + length piece) more))) r.rest);
      some = r.some;
      none = r.none;
    }

bad_in_pieces : (field place : ℕ) (list : List (List ℕ)) → pieces (flat_map (λ (p : List ℕ). p) list) ≡ list → all_good (unpacked field place list) ≡ None → EndsBadly (flat_map (λ (p : List ℕ). p) list) (before_bad (unpacked field place list))
bad_in_pieces field place [] cut e = absurd (cc)
bad_in_pieces field place (piece ∷ more) cut e =
    bad_at field place piece more cut (λ f. bad_in_pieces field (place + length piece) more (pieces-tail (flat_map (λ (p : List ℕ). p) (piece ∷ more)) piece more cut) f) (number_in piece) refl e

pub bad_no_number : BadIsNoNumber
bad_no_number field place body e =
    subst (λ (b : List ℕ). EndsBadly b (before_bad (unpacked field place (pieces body)))) (pieces-joined body)
    (bad_in_pieces field place (pieces body) (ap pieces (pieces-joined body)) e)
