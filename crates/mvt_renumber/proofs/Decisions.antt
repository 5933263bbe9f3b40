-- Numbers by decisions, one after the other, and the numbers that a packed body spells.
use Rattle.std.proofs.Common.{false, ◌≡◌, ℕ, suc, ◌+◌, ◌<◌, ◌≤◌, List, [], ◌∷◌, ◌++◌, length, map, take, drop, Option, Some, None, Result, eqb, refl, sym, ap, ◌∙◌, arith}
use Rattle.std.specs.Prelude.{option_map}
use Rattle.std.specs.List.{flat_map, cons_option, AllByRecursion}
use Rattle.std.proofs.lemmas.Bool.{cond-true, eq-eqb}
use Rattle.std.proofs.lemmas.List.{take-append-drop}
use Rattle.mvt_document.specs.Plain.{Number}
use Rattle.mvt_document.specs.Wire.{spelling, minimal}
use Rattle.mvt_document.specs.Groups.{IsNumber}
use Rattle.mvt_document.proofs.Lists.{cons_no_more}
use Rattle.mvt_messages.specs.Numbers.{Placed, pieces, number_in, chunk_at, unpacked, all_good, and_more}
use Rattle.mvt_renumber.specs.Renumbering.{with_number, decided, renumbered, some_changed}
use Rattle.mvt_renumber.specs.Deciding.{packed_numbers}
use Rattle.mvt_messages.proofs.Pieces.{packed-spelling, packed-bad}

-- ---- decisions

-- a number with its decision, then the others
pub renumbered_more : (decision : Option ℕ) (decisions : List (Option ℕ)) (number : Number) (more : List Number)
    → renumbered (decision ∷ decisions) (number ∷ more) ≡ cons_option (decided (decision, number)) (renumbered decisions more)
renumbered_more None decisions number more = refl
renumbered_more (Some value) decisions number more = refl

pub renumbered-none : (decisions : List (Option ℕ)) → renumbered decisions [] ≡ []
renumbered-none [] = refl
renumbered-none (decision ∷ more) = refl

-- without decisions no number changes
pub none_changed : (numbers : List Number) → some_changed [] numbers ≡ false
none_changed [] = refl
none_changed (number ∷ more) = refl

pub with_number-same : (value : ℕ) (number : Number) → number.value ≡ value → with_number value number ≡ number
with_number-same value number e = cond-true (eqb number.value value) number (minimal value) (eq-eqb number.value value e)

-- no more numbers are left than there were
pub renumbered-no_more : (decisions : List (Option ℕ)) (numbers : List Number) → length (renumbered decisions numbers) ≤ length numbers
renumbered-no_more [] numbers = omega arith
renumbered-no_more (decision ∷ decisions) [] = omega arith
renumbered-no_more (decision ∷ decisions) (number ∷ more) =
    let e = renumbered_more decision decisions number more in
    let h = cons_no_more (decided (decision, number)) (renumbered decisions more) (length more) (renumbered-no_more decisions more) in
    omega (arith, ap length e, h)

-- ---- the numbers of pieces, wherever they are

abbrev pub plain_numbers : Option (List Placed) → Option (List Number)
plain_numbers found = option_map (map (λ (p : Placed). p.number)) found

pub and_more-plain : (item : Placed) (more : Option (List Placed)) → plain_numbers (and_more item more) ≡ option_map (λ (rest : List Number). item.number ∷ rest) (plain_numbers more)
and_more-plain item None = refl
and_more-plain item (Some more) = refl

chunk-unplaced : (field place field' place' : ℕ) (chunk : Option Number) (more more' : List (Result Placed ℕ)) → plain_numbers (all_good more) ≡ plain_numbers (all_good more')
    → plain_numbers (all_good (chunk_at field place chunk ∷ more)) ≡ plain_numbers (all_good (chunk_at field' place' chunk ∷ more'))
chunk-unplaced field place field' place' None more more' e = refl
chunk-unplaced field place field' place' (Some number) more more' e =
    and_more-plain (record { number = number; field = field; place = place }) (all_good more)
    ∙ ap (option_map (λ (rest : List Number). number ∷ rest)) e
    ∙ sym (and_more-plain (record { number = number; field = field'; place = place' }) (all_good more'))

-- the numbers do not depend on the field and the place that are counted from
pub unplaced : (field place field' place' : ℕ) (list : List (List ℕ)) → plain_numbers (all_good (unpacked field place list)) ≡ plain_numbers (all_good (unpacked field' place' list))
unplaced field place field' place' [] = refl
unplaced field place field' place' (piece ∷ more) =
    chunk-unplaced field place field' place' (number_in piece) (unpacked field (place + length piece) more) (unpacked field' (place' + length piece) more)
    (unplaced field (place + length piece) field' (place' + length piece) more)

-- ---- the numbers of a packed body

-- a number, then those after it
pub packed-more : (number : Number) (rest : List ℕ) → IsNumber number → packed_numbers (spelling number ++ rest) ≡ option_map (λ (more : List Number). number ∷ more) (packed_numbers rest)
packed-more number rest s =
    ap (λ (chunks : List (Result Placed ℕ)). plain_numbers (all_good chunks)) (packed-spelling 0 0 number rest s)
    ∙ and_more-plain (record { number = number; field = 0; place = 0 }) (all_good (unpacked 0 (0 + number.width) (pieces rest)))
    ∙ ap (option_map (λ (more : List Number). number ∷ more)) (unplaced 0 (0 + number.width) 0 0 (pieces rest))

-- the same for a body that begins with the number's bytes
pub packed-first : (number : Number) (bytes : List ℕ) → IsNumber number → take number.width bytes ≡ spelling number
    → packed_numbers bytes ≡ option_map (λ (more : List Number). number ∷ more) (packed_numbers (drop number.width bytes))
packed-first number bytes s e =
    ap packed_numbers (sym (take-append-drop number.width bytes) ∙ ap (λ (b : List ℕ). b ++ drop number.width bytes) e)
    ∙ packed-more number (drop number.width bytes) s

and_number : (number : Number) (following : Option (List Number)) (numbers : List Number) → option_map (λ (more : List Number). number ∷ more) following ≡ Some numbers → (more : List Number) × (numbers ≡ number ∷ more)
and_number number None numbers e = absurd (cc)
and_number number (Some more) numbers e = (more, cc)

-- the numbers of such a body begin with that number
pub begins_with : (number : Number) (bytes : List ℕ) → IsNumber number → take number.width bytes ≡ spelling number
    → (numbers : List Number) → packed_numbers bytes ≡ Some numbers → (more : List Number) × (numbers ≡ number ∷ more)
begins_with number bytes s at numbers e =
    and_number number (packed_numbers (drop number.width bytes)) numbers (sym (packed-first number bytes s at) ∙ e)

-- a body that is not empty and begins with no number packs something else
pub packed-none : (bytes : List ℕ) → 0 < length bytes → ((number : Number) (rest : List ℕ) → IsNumber number → bytes ≡ spelling number ++ rest → ⊥) → packed_numbers bytes ≡ None
packed-none bytes some none =
    let bad = packed-bad 0 0 bytes some none in
    ap (λ (chunks : List (Result Placed ℕ)). plain_numbers (all_good chunks)) bad.1

-- the numbers of spellings, joined
pub packed-spellings : (list : List Number) → AllByRecursion IsNumber list → packed_numbers (flat_map spelling list) ≡ Some list
packed-spellings [] p = refl
packed-spellings (number ∷ more) p =
    packed-more number (flat_map spelling more) p.0
    ∙ ap (option_map (λ (rest : List Number). number ∷ rest)) (packed-spellings more p.1)
