-- Numbers that are decided on twice, where none goes, end up as if they were decided on once.
use Rattle.std.proofs.Common.{◌≡◌, ℕ, suc, ◌^◌, ◌==◌, ◌<◌, List, [], ◌∷◌, ◌++◌, length, map, drop, Option, Some, refl, sym, ap, ◌∙◌, subst}
use Rattle.std.proofs.lemmas.Bool.{cond_both, eqb-true}
use Rattle.std.proofs.lemmas.List.{append-nil}
use Rattle.std.specs.Prelude.{IfSome}
use Rattle.std.specs.Option.{unwrap_or}
use Rattle.mvt_document.specs.Plain.{Number, Body, Spelled, Eight, Four, Delimited, Group, Field}
use Rattle.mvt_document.specs.Wire.{minimal}
use Rattle.mvt_document.proofs.EachItem.{all_dropped}
use Rattle.mvt_renumber.specs.Laws.{AreShort, read_numbers}
use Rattle.mvt_renumber.specs.Renumbering.{field_numbers, renumber, renumbered, renumbered_field, with_left, with_number, with_numbers}
use Rattle.mvt_renumber.proofs.Decisions.{renumbered-none, with_number-same}
use Rattle.mvt_renumber.proofs.Redone.{left_is_read}
use Rattle.mvt_renumber.proofs.Reread.{both_found, both_some, field_read, fields_read, read_is, read_of_fields}

-- the first decision on each number and then the second make of it what the decision at once makes
pub data InTurn : List (Option ℕ) → List (Option ℕ) → List (Option ℕ) → List Number → Type 0 where
  nothing : (first second once : List (Option ℕ)) → InTurn first second once []
  and_more : (a b c : ℕ) (n : Number) (first second once : List (Option ℕ)) (more : List Number) → with_number b (with_number a n) ≡ with_number c n → InTurn first second once more
      → InTurn (Some a ∷ first) (Some b ∷ second) (Some c ∷ once) (n ∷ more)

-- ---- numbers

numbers_twice : (first second once : List (Option ℕ)) (numbers : List Number) → InTurn first second once numbers → renumbered second (renumbered first numbers) ≡ renumbered once numbers
numbers_twice first second once [] (nothing f s o) = ap (renumbered second) (renumbered-none first) ∙ renumbered-none second ∙ sym (renumbered-none once)
numbers_twice first second once numbers (and_more a b c n f s o more same rest) =
    ap (λ (m : Number). m ∷ renumbered s (renumbered f more)) same ∙ ap (λ list. with_number c n ∷ list) (numbers_twice f s o more rest)

all_left : (first second once : List (Option ℕ)) (numbers : List Number) → InTurn first second once numbers → length (renumbered first numbers) ≡ length numbers
all_left first second once [] (nothing f s o) = ap length (renumbered-none first)
all_left first second once numbers (and_more a b c n f s o more same rest) = ap suc (all_left f s o more rest)

-- of two lists of numbers
turn_apart : (first second once : List (Option ℕ)) (xs ys : List Number) → InTurn first second once (xs ++ ys) → InTurn first second once xs × InTurn (drop (length xs) first) (drop (length xs) second) (drop (length xs) once) ys
turn_apart first second once [] ys turn = (nothing first second once, turn)
turn_apart first second once (x ∷ xs) ys (and_more a b c n f s o more same rest) =
    let parts = turn_apart f s o xs ys rest in
    (and_more a b c x f s o xs same parts.0, parts.1)

-- ---- a field

body_twice : (x : Number) (xs list : List Number) (body : Body) → with_numbers (x ∷ xs) (with_numbers list body) ≡ with_numbers (x ∷ xs) body
body_twice x xs list (Spelled old) = refl
body_twice x xs list (Delimited width bytes) = refl
body_twice x xs list (Eight bytes) = refl
body_twice x xs list (Four bytes) = refl
body_twice x xs list (Group bytes) = refl

-- what is left of a field is one field, with its tag and the numbers that it was given
record Turned (number : ℕ) (first second once : List (Option ℕ)) (field : Field) : Type 0 where
  pub left : Field
  pub alone : renumbered_field number first field ≡ left ∷ []
  pub tag : left.tag ≡ field.tag
  pub numbers : length (field_numbers number left) ≡ length (field_numbers number field)
  pub again : renumbered_field number second left ≡ renumbered_field number once field

left_numbers : (number : ℕ) (first : List (Option ℕ)) (field left : Field) (old : List Number) → AreShort first → read_numbers number (field ∷ []) ≡ Some old → renumbered_field number first field ≡ left ∷ [] → field_numbers number left ≡ renumbered first old
left_numbers number first field left old short read alone =
    let reread : read_numbers number (left ∷ []) ≡ Some (renumbered first old) =
    ap (read_numbers number) (sym (append-nil (renumbered_field number first field) ∙ alone)) ∙ left_is_read number first (field ∷ []) old short read in
    sym (append-nil (field_numbers number left)) ∙ read_of_fields number (left ∷ []) (renumbered first old) reread

turned : (number : ℕ) (first second once : List (Option ℕ)) (field : Field) (old : List Number) → AreShort first → read_numbers number (field ∷ []) ≡ Some old → field_numbers number field ≡ old → InTurn first second once old → Turned number first second once field
turned number first second once field [] short read own (nothing f s o) = record {
  left = field;
  alone = ap (λ list. with_left field list (renumbered first list)) own;
  tag = refl;
  numbers = refl;
  again = ap (λ list. with_left field list (renumbered second list)) own ∙ sym (ap (λ list. with_left field list (renumbered once list)) own);
}
turned number first second once field old short read own (and_more a b c n f s o more same rest) =
    let made : Field = record field { body = with_numbers (with_number a n ∷ renumbered f more) field.body } in
    let alone : renumbered_field number (Some a ∷ f) field ≡ made ∷ [] = ap (λ list. with_left field list (renumbered (Some a ∷ f) list)) own in
    let has : field_numbers number made ≡ with_number a n ∷ renumbered f more = left_numbers number (Some a ∷ f) field made (n ∷ more) short read alone in
    let twice : renumbered (Some b ∷ s) (with_number a n ∷ renumbered f more) ≡ renumbered (Some c ∷ o) (n ∷ more) = numbers_twice (Some a ∷ f) (Some b ∷ s) (Some c ∷ o) (n ∷ more) (and_more a b c n f s o more same rest) in
    let first_again : with_number b (with_number a n) ≡ with_number c n = same in
    let rest_again : renumbered s (renumbered f more) ≡ renumbered o more = numbers_twice f s o more rest in
    record {
      left = made;
      alone = alone;
      tag = refl;
      numbers = ap length has ∙ all_left (Some a ∷ f) (Some b ∷ s) (Some c ∷ o) (n ∷ more) (and_more a b c n f s o more same rest) ∙ sym (ap length own);
      again =
          ap (λ list. with_left made list (renumbered (Some b ∷ s) list)) has
          ∙ ap (λ (body : Body). record field { body = body } ∷ []) (body_twice (with_number b (with_number a n)) (renumbered s (renumbered f more)) (with_number a n ∷ renumbered f more) field.body)
          ∙ ap (λ (m : Number). record field { body = with_numbers (m ∷ renumbered s (renumbered f more)) field.body } ∷ []) first_again
          ∙ ap (λ (list : List Number). record field { body = with_numbers (with_number c n ∷ list) field.body } ∷ []) rest_again
          ∙ sym (ap (λ list. with_left field list (renumbered (Some c ∷ o) list)) own);
    }

-- ---- a message

pub short_after : (n : ℕ) (decisions : List (Option ℕ)) → AreShort decisions → AreShort (drop n decisions)
short_after n decisions short = all_dropped (λ decision. IfSome decision (λ value. value < 2 ^ 64)) n decisions short

-- what is read from the first field of some
alone_read : (number : ℕ) (field : Field) (more : List Field) (found : List Number) (read : fields_read number (field ∷ more) ≡ Some found) → read_numbers number (field ∷ []) ≡ Some (both_some (field_read number field) (fields_read number more) found read).first
alone_read number field more found read =
    let b = both_some (field_read number field) (fields_read number more) found read in
    read_is number (field ∷ []) ∙ ap (λ (o : Option (List Number)). both_found o (Some [])) b.first_is ∙ ap Some (append-nil b.first)

fields_twice : (number : ℕ) (first second once : List (Option ℕ)) (fields : List Field) (found : List Number) → AreShort first → fields_read number fields ≡ Some found → InTurn first second once found → renumber number second (renumber number first fields) ≡ renumber number once fields
fields_twice number first second once [] found short read turn = refl
fields_twice number first second once (field ∷ more) found short read turn =
    let b = both_some (field_read number field) (fields_read number more) found read in
    let own : field_numbers number field ≡ b.first = ap (λ (o : Option (List Number)). unwrap_or o []) b.first_is in
    let size : length (field_numbers number field) ≡ length b.first = ap length own in
    let parts = turn_apart first second once b.first b.second (subst (InTurn first second once) (sym b.joined) turn) in
    let t = turned number first second once field b.first short (alone_read number field more found read) own parts.0 in
    let n = length (field_numbers number field) in
    let rest = renumber number (drop n first) more in
    let following : renumber number (drop n second) rest ≡ renumber number (drop n once) more =
    subst (λ m. renumber number (drop m second) (renumber number (drop m first) more) ≡ renumber number (drop m once) more) (sym size)
    (fields_twice number (drop (length b.first) first) (drop (length b.first) second) (drop (length b.first) once) more b.second (short_after (length b.first) first short) b.second_is parts.1) in
    ap (λ (list : List Field). renumber number second (list ++ rest)) t.alone
    ∙ ap (λ (list : List Field). list ++ renumber number (drop (length (field_numbers number t.left)) second) rest) t.again
    ∙ ap (λ m. renumbered_field number once field ++ renumber number (drop m second) rest) t.numbers
    ∙ ap (λ (list : List Field). renumbered_field number once field ++ list) following

pub renumbered_twice : (number : ℕ) (first second once : List (Option ℕ)) (fields : List Field) (found : List Number) → AreShort first → read_numbers number fields ≡ Some found → InTurn first second once found → renumber number second (renumber number first fields) ≡ renumber number once fields
renumbered_twice number first second once fields found short read turn = fields_twice number first second once fields found short (sym (read_is number fields) ∙ read) turn

-- ---- the fields that are left

-- a number that is decided on twice in the same way
pub and_again : (a : ℕ) (n : Number) → with_number a (with_number a n) ≡ with_number a n
and_again a n =
    cond_both (n.value == a) n (minimal a) (λ (m : Number). with_number a m ≡ m)
    (λ same. with_number-same a n (eqb-true n.value a same))
    (λ _. with_number-same a (minimal a) refl)

tags_stay : (number : ℕ) (first second once : List (Option ℕ)) (fields : List Field) (found : List Number) → AreShort first → fields_read number fields ≡ Some found → InTurn first second once found → map (λ (field : Field). field.tag) (renumber number first fields) ≡ map (λ (field : Field). field.tag) fields
tags_stay number first second once [] found short read turn = refl
tags_stay number first second once (field ∷ more) found short read turn =
    let b = both_some (field_read number field) (fields_read number more) found read in
    let own : field_numbers number field ≡ b.first = ap (λ (o : Option (List Number)). unwrap_or o []) b.first_is in
    let parts = turn_apart first second once b.first b.second (subst (InTurn first second once) (sym b.joined) turn) in
    let t = turned number first second once field b.first short (alone_read number field more found read) own parts.0 in
    let rest = renumber number (drop (length (field_numbers number field)) first) more in
    let following : map (λ (field : Field). field.tag) rest ≡ map (λ (field : Field). field.tag) more =
    subst (λ m. map (λ (field : Field). field.tag) (renumber number (drop m first) more) ≡ map (λ (field : Field). field.tag) more) (sym (ap length own))
    (tags_stay number (drop (length b.first) first) (drop (length b.first) second) (drop (length b.first) once) more b.second (short_after (length b.first) first short) b.second_is parts.1) in
    ap (λ (list : List Field). map (λ (field : Field). field.tag) (list ++ rest)) t.alone
    ∙ ap (λ (tag : Number). tag ∷ map (λ (field : Field). field.tag) rest) t.tag
    ∙ ap (λ (list : List Number). field.tag ∷ list) following

-- no field goes, and each has its tag
pub renumbered_tags : (number : ℕ) (first second once : List (Option ℕ)) (fields : List Field) (found : List Number) → AreShort first → read_numbers number fields ≡ Some found → InTurn first second once found → map (λ (field : Field). field.tag) (renumber number first fields) ≡ map (λ (field : Field). field.tag) fields
renumbered_tags number first second once fields found short read turn = tags_stay number first second once fields found short (sym (read_is number fields) ∙ read) turn
