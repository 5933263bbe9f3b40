-- The numbers of the fields of a message, and what is read from them after they were decided on.
use Rattle.std.proofs.Common.{◌≡◌, ℕ, ◌+◌, ◌/◌, List, [], ◌∷◌, ◌++◌, Option, Some, None, Result, Ok, Err, eqb, refl, sym, ap, ◌∙◌, append_assoc}
use Rattle.std.specs.Prelude.{option_map}
use Rattle.std.specs.Option.{unwrap_or}
use Rattle.std.specs.List.{flat_map, enumerate_from}
use Rattle.std.proofs.lemmas.Bool.{cond-true, cond-false, cond_both}
use Rattle.mvt_document.specs.Plain.{Number, Body, Spelled, Eight, Four, Delimited, Group, Field}
use Rattle.mvt_messages.specs.Numbers.{Placed, pieces, numbers_of, numbers_in, through_bad, all_good, and_more}
use Rattle.mvt_renumber.specs.Renumbering.{field_numbers}
use Rattle.mvt_renumber.specs.Laws.{read_numbers, ReadOfFields, AppendedIsRead}
use Rattle.mvt_renumber.proofs.Decisions.{plain_numbers, and_more-plain, unplaced}

-- ---- what is read from chunks

abbrev pub found_in : List (Result Placed ℕ) → Option (List Number)
found_in chunks = plain_numbers (all_good chunks)

-- the numbers of two lists, where both are there
abbrev pub both_found : Option (List Number) → Option (List Number) → Option (List Number)
both_found None others = None
both_found (Some found) others = option_map (λ (more : List Number). found ++ more) others

and_nothing : (others : Option (List Number)) → others ≡ both_found (Some []) others
and_nothing None = refl
and_nothing (Some more) = refl

and_found : (number : Number) (found others : Option (List Number)) → option_map (λ (more : List Number). number ∷ more) (both_found found others) ≡ both_found (option_map (λ (more : List Number). number ∷ more) found) others
and_found number None others = refl
and_found number (Some found) None = refl
and_found number (Some found) (Some more) = refl

both-assoc : (a b c : Option (List Number)) → both_found a (both_found b c) ≡ both_found (both_found a b) c
both-assoc None b c = refl
both-assoc (Some a) None c = refl
both-assoc (Some a) (Some b) None = refl
both-assoc (Some a) (Some b) (Some c) = ap Some (sym (append_assoc a b c))

pub record BothSome (a b : Option (List Number)) (found : List Number) : Type 0 where
  pub first : List Number
  pub second : List Number
  pub first_is : a ≡ Some first
  pub second_is : b ≡ Some second
  pub joined : first ++ second ≡ found

pub both_some : (a b : Option (List Number)) (found : List Number) → both_found a b ≡ Some found → BothSome a b found
both_some None b found e = absurd (cc)
both_some (Some first) None found e = absurd (cc)
both_some (Some first) (Some second) found e = record { first = first; second = second; first_is = refl; second_is = refl; joined = cc }

found-append : (xs ys : List (Result Placed ℕ)) → found_in (xs ++ ys) ≡ both_found (found_in xs) (found_in ys)
found-append [] ys = and_nothing (found_in ys)
found-append (Ok item ∷ more) ys =
    and_more-plain item (all_good (more ++ ys))
    ∙ ap (option_map (λ (rest : List Number). item.number ∷ rest)) (found-append more ys)
    ∙ and_found item.number (found_in more) (found_in ys)
    ∙ ap (λ (found : Option (List Number)). both_found found (found_in ys)) (sym (and_more-plain item (all_good more)))
found-append (Err bad ∷ more) ys = refl

good_through : {A E : Type 0} (list : List (Result A E)) → all_good (through_bad list) ≡ all_good list
good_through [] = refl
good_through (Ok item ∷ more) = ap (and_more item) (good_through more)
good_through (Err bad ∷ more) = refl

-- ---- what is read from fields

-- what is read from a field
abbrev pub field_read : ℕ → Field → Option (List Number)
field_read number field = found_in (numbers_in number (0, field))

-- what is read from fields, one after the other
abbrev pub fields_read : ℕ → List Field → Option (List Number)
fields_read number [] = Some []
fields_read number (field ∷ more) = both_found (field_read number field) (fields_read number more)

numbers_of-moved : (position : ℕ) (body : Body) → found_in (numbers_of position body) ≡ found_in (numbers_of 0 body)
numbers_of-moved position (Spelled number) = refl
numbers_of-moved position (Delimited width bytes) = unplaced position 0 0 0 (pieces bytes)
numbers_of-moved position (Eight bytes) = refl
numbers_of-moved position (Four bytes) = refl
numbers_of-moved position (Group bytes) = refl

field-moved : (number position : ℕ) (field : Field) → found_in (numbers_in number (position, field)) ≡ field_read number field
field-moved number position field =
    cond_both (eqb (field.tag.value / 8) number) (numbers_of position field.body) [] (λ chunks. found_in chunks ≡ field_read number field)
    (λ t. numbers_of-moved position field.body ∙ sym (ap found_in (cond-true (eqb (field.tag.value / 8) number) (numbers_of 0 field.body) [] t)))
    (λ f. sym (ap found_in (cond-false (eqb (field.tag.value / 8) number) (numbers_of 0 field.body) [] f)))

from_position : (number position : ℕ) (fields : List Field) → found_in (flat_map (numbers_in number) (enumerate_from position fields)) ≡ fields_read number fields
from_position number position [] = refl
from_position number position (field ∷ more) =
    found-append (numbers_in number (position, field)) (flat_map (numbers_in number) (enumerate_from (position + 1) more))
    ∙ ap (λ (found : Option (List Number)). both_found found (found_in (flat_map (numbers_in number) (enumerate_from (position + 1) more)))) (field-moved number position field)
    ∙ ap (both_found (field_read number field)) (from_position number (position + 1) more)

pub read_is : (number : ℕ) (fields : List Field) → read_numbers number fields ≡ fields_read number fields
read_is number fields = ap plain_numbers (good_through (flat_map (numbers_in number) (enumerate_from 0 fields))) ∙ from_position number 0 fields

pub fields_read-append : (number : ℕ) (fields others : List Field) → fields_read number (fields ++ others) ≡ both_found (fields_read number fields) (fields_read number others)
fields_read-append number [] others = and_nothing (fields_read number others)
fields_read-append number (field ∷ more) others =
    ap (both_found (field_read number field)) (fields_read-append number more others)
    ∙ both-assoc (field_read number field) (fields_read number more) (fields_read number others)

pub appended_is_read : AppendedIsRead
appended_is_read number fields others found more e f =
    let first : fields_read number fields ≡ Some found = sym (read_is number fields) ∙ e in
    let second : fields_read number others ≡ Some more = sym (read_is number others) ∙ f in
    read_is number (fields ++ others)
    ∙ fields_read-append number fields others
    ∙ ap (λ (o : Option (List Number)). both_found o (fields_read number others)) first
    ∙ ap (both_found (Some found)) second

-- the numbers of a field are those that are read from it
field_numbers-read : (number : ℕ) (field : Field) (found : List Number) → field_read number field ≡ Some found → field_numbers number field ≡ found
field_numbers-read number field found e = ap (λ (o : Option (List Number)). unwrap_or o []) e

fields_numbers-read : (number : ℕ) (fields : List Field) (found : List Number) → fields_read number fields ≡ Some found → flat_map (field_numbers number) fields ≡ found
fields_numbers-read number [] found e = cc
fields_numbers-read number (field ∷ more) found e =
    let b = both_some (field_read number field) (fields_read number more) found e in
    ap (λ (list : List Number). list ++ flat_map (field_numbers number) more) (field_numbers-read number field b.first b.first_is)
    ∙ ap (λ (list : List Number). b.first ++ list) (fields_numbers-read number more b.second b.second_is)
    ∙ b.joined

pub read_of_fields : ReadOfFields
read_of_fields number fields found e = fields_numbers-read number fields found (sym (read_is number fields) ∙ e)
