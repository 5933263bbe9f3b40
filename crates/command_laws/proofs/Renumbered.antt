-- Fields that lose no numbers: what comes before their contents, how many numbers each has, and what is left where all
-- numbers stay, or get their own values again.
use Rattle.std.proofs.Common.{◌≡◌, ℕ, suc, ◌^◌, ◌<◌, ◌≤◌, true, is_some, Option, Some, None, List, [], ◌∷◌, ◌++◌, length, map, take, drop, refl, sym, ap, ◌∙◌, arith}
use Rattle.std.specs.Prelude.{IfSome}
use Rattle.std.proofs.Math.Seq.{drop-append_seam, take-append_seam}
use Rattle.std.proofs.lemmas.List.{append-nil, map-append}
use Rattle.std.specs.List.{AllByRecursion, flat_map}
use Rattle.std.specs.Option.{unwrap_or}
use Rattle.mvt_document.specs.Plain.{Number, Body, Spelled, Eight, Four, Delimited, Group, Field}
use Rattle.mvt_document.proofs.EachItem.{all_dropped}
use Rattle.mvt_renumber.specs.Laws.{AreShort, keeping, read_numbers}
use Rattle.mvt_renumber.specs.Renumbering.{field_numbers, renumber, renumbered, renumbered_field, with_left, with_numbers}
use Rattle.mvt_renumber.proofs.Decisions.{renumbered-none, renumbered_more, with_number-same}
use Rattle.mvt_renumber.proofs.Redone.{kept_stays, left_is_read, renumbered-append, own_left}
use Rattle.mvt_renumber.proofs.Reread.{both_found, field_read, read_is, read_of_fields}
use Rattle.mvt_renumber.proofs.DecidedTwice.{short_after}
use Rattle.command_laws.specs.GeometryLaws.{front, stored_width}

-- ---- no number goes

abbrev pub AllSome : List (Option ℕ) → Type 0
AllSome decisions = AllByRecursion (λ decision. is_some decision ≡ true) decisions

some_dropped : (n : ℕ) (decisions : List (Option ℕ)) → AllSome decisions → AllSome (drop n decisions)
some_dropped n decisions all = all_dropped (λ decision. is_some decision ≡ true) n decisions all

pub same_count : (decisions : List (Option ℕ)) (list : List Number) → AllSome decisions → length (renumbered decisions list) ≡ length list
same_count [] list all = refl
same_count (decision ∷ decisions) [] all = ap length (renumbered-none (decision ∷ decisions))
same_count (None ∷ decisions) (number ∷ list) all = absurd (let none = all.0 in cc)
same_count (Some value ∷ decisions) (number ∷ list) all =
    ap length (renumbered_more (Some value) decisions number list) ∙ ap suc (same_count decisions list all.1)

-- ---- what comes before the contents

width_stays : (list : List Number) (body : Body) → stored_width (with_numbers list body) ≡ stored_width body
width_stays list (Spelled number) = refl
width_stays list (Eight bytes) = refl
width_stays list (Four bytes) = refl
width_stays list (Delimited width bytes) = refl
width_stays list (Group bytes) = refl

front_left : (field : Field) (old new : List Number) → length new ≡ length old → map front (with_left field old new) ≡ front field ∷ []
front_left field [] new e = refl
front_left field (first ∷ more) [] e = absurd (omega (arith, e))
front_left field (first ∷ more) (next ∷ others) e =
    ap {B = List (Number × Option ℕ)} (λ (width : Option ℕ). (field.tag, width) ∷ []) (width_stays (next ∷ others) field.body)

pub fronts_stay : (number : ℕ) (decisions : List (Option ℕ)) (fields : List Field) → AllSome decisions → map front (renumber number decisions fields) ≡ map front fields
fronts_stay number decisions [] all = refl
fronts_stay number decisions (field ∷ fields) all =
    let old = field_numbers number field in
    let rest = renumber number (drop (length old) decisions) fields in
    map-append front (renumbered_field number decisions field) rest
    ∙ ap (λ (first : List (Number × Option ℕ)). first ++ map front rest) (front_left field old (renumbered decisions old) (same_count decisions old all))
    ∙ ap (λ (more : List (Number × Option ℕ)). front field ∷ more) (fronts_stay number (drop (length old) decisions) fields (some_dropped (length old) decisions all))

-- ---- all numbers stay

same_fronts : (xs xs' ys ys' : List Number) → xs ++ ys ≡ xs' ++ ys' → length xs ≡ length xs' → (xs ≡ xs') × (ys ≡ ys')
same_fronts xs xs' ys ys' e same = (
  sym (take-append_seam xs ys) ∙ ap (take (length xs)) e ∙ ap (λ (n : ℕ). take n (xs' ++ ys')) same ∙ take-append_seam xs' ys',
  sym (drop-append_seam xs ys) ∙ ap (drop (length xs)) e ∙ ap (λ (n : ℕ). drop n (xs' ++ ys')) same ∙ drop-append_seam xs' ys',
)

-- fields whose numbers all stay are as they were
pub all_stay : (number : ℕ) (decisions : List (Option ℕ)) (fields : List Field) → AllSome decisions → renumbered decisions (flat_map (field_numbers number) fields) ≡ flat_map (field_numbers number) fields → renumber number decisions fields ≡ fields
all_stay number decisions [] all e = refl
all_stay number decisions (field ∷ fields) all e =
    let own = field_numbers number field in
    let others = flat_map (field_numbers number) fields in
    let following = drop (length own) decisions in
    let apart = same_fronts (renumbered decisions own) own (renumbered following others) others (sym (renumbered-append decisions own others) ∙ e) (same_count decisions own all) in
    ap (λ (list : List Number). with_left field own list ++ renumber number following fields) apart.0
    ∙ ap (λ (first : List Field). first ++ renumber number following fields) (own_left number field (field_numbers number field) refl)
    ∙ ap (λ (rest : List Field). field ∷ rest) (all_stay number following fields (some_dropped (length own) decisions all) apart.1)

-- ---- numbers that get other values, and their own again

-- a field that is left with other numbers, and then with its own
record Back (number : ℕ) (field : Field) (own new : List Number) : Type 0 where
  made : Field
  left : with_left field own new ≡ made ∷ []
  numbers : field_numbers number made ≡ new
  back : with_left made new own ≡ field ∷ []

one_by : (number : ℕ) (field : Field) (found : Option (List Number)) (list : List Number) → field_read number field ≡ found → unwrap_or found [] ≡ list → 1 ≤ length list → read_numbers number (field ∷ []) ≡ Some list
one_by number field None list read is some = absurd (omega (arith, ap length is, some))
one_by number field (Some found) list read is some =
    read_is number (field ∷ []) ∙ ap (λ (first : Option (List Number)). both_found first (Some [])) read ∙ ap Some (append-nil found ∙ is)

-- a field with numbers is read on its own
one_read : (number : ℕ) (field : Field) (first : Number) (more : List Number) → field_numbers number field ≡ first ∷ more → read_numbers number (field ∷ []) ≡ Some (first ∷ more)
one_read number field first more is = one_by number field (field_read number field) (first ∷ more) refl is (omega arith)

twice : (first next : Number) (more others : List Number) (body : Body) → with_numbers (first ∷ more) (with_numbers (next ∷ others) body) ≡ with_numbers (first ∷ more) body
twice first next more others (Spelled number) = refl
twice first next more others (Eight bytes) = refl
twice first next more others (Four bytes) = refl
twice first next more others (Delimited width bytes) = refl
twice first next more others (Group bytes) = refl

back_by : (number : ℕ) (decisions : List (Option ℕ)) (field : Field) (own new : List Number) → AreShort decisions → field_numbers number field ≡ own → renumbered decisions own ≡ new → length new ≡ length own → Back number field own new
back_by number decisions field [] [] short is are same = record { made = field; left = refl; numbers = is; back = refl }
back_by number decisions field [] (next ∷ others) short is are same = absurd (omega (arith, same))
back_by number decisions field (first ∷ more) [] short is are same = absurd (omega (arith, same))
back_by number decisions field (first ∷ more) (next ∷ others) short is are same =
    let made : Field = record field { body = with_numbers (next ∷ others) field.body } in
    let left : renumber number decisions (field ∷ []) ≡ made ∷ [] =
    ap (λ (own : List Number). with_left field own (renumbered decisions own) ++ []) is
    ∙ ap (λ (new : List Number). with_left field (first ∷ more) new ++ []) are in
    let read : read_numbers number (made ∷ []) ≡ Some (next ∷ others) =
    ap (read_numbers number) (sym left)
    ∙ left_is_read number decisions (field ∷ []) (first ∷ more) short (one_read number field first more is)
    ∙ ap Some are in
    record {
      made = made;
      left = refl;
      numbers = sym (append-nil (field_numbers number made)) ∙ read_of_fields number (made ∷ []) (next ∷ others) read;
      back = ap (λ (body : Body). record field { body = body } ∷ []) (twice first next more others field.body)
          ∙ ap (λ (own : List Number). with_left field own own) (sym is)
          ∙ own_left number field (field_numbers number field) refl;
    }

-- each field has as many numbers as it had
pub counts_stay : (number : ℕ) (decisions : List (Option ℕ)) (fields : List Field) → AllSome decisions → AreShort decisions → map (λ field. length (field_numbers number field)) (renumber number decisions fields) ≡ map (λ field. length (field_numbers number field)) fields
counts_stay number decisions [] all short = refl
counts_stay number decisions (field ∷ fields) all short =
    let own = field_numbers number field in
    let counted = same_count decisions own all in
    let b = back_by number decisions field own (renumbered decisions own) short refl refl counted in
    let following = drop (length own) decisions in
    let rest : List Field = renumber number following fields in
    ap (λ (first : List Field). map (λ (f : Field). length (field_numbers number f)) (first ++ rest)) b.left
    ∙ ap (λ (n : ℕ). n ∷ map (λ (f : Field). length (field_numbers number f)) rest) (ap length b.numbers ∙ counted)
    ∙ ap (λ (more : List ℕ). length own ∷ more) (counts_stay number following fields (some_dropped (length own) decisions all) (short_after (length own) decisions short))

pub both_back : (number : ℕ) (there back : List (Option ℕ)) (fields : List Field) → AllSome there → AllSome back → AreShort there → renumbered back (renumbered there (flat_map (field_numbers number) fields)) ≡ flat_map (field_numbers number) fields → renumber number back (renumber number there fields) ≡ fields
both_back number there back [] all all_back short e = refl
both_back number there back (field ∷ fields) all all_back short e =
    let own = field_numbers number field in
    let others = flat_map (field_numbers number) fields in
    let new = renumbered there own in
    let there_more = drop (length own) there in
    let back_more = drop (length new) back in
    let counted : length new ≡ length own = same_count there own all in
    let b = back_by number there field own new short refl refl counted in
    let whole : renumbered back new ++ renumbered back_more (renumbered there_more others) ≡ own ++ others =
    sym (ap (renumbered back) (renumbered-append there own others) ∙ renumbered-append back new (renumbered there_more others)) ∙ e in
    let apart = same_fronts (renumbered back new) own (renumbered back_more (renumbered there_more others)) others whole (same_count back new all_back ∙ counted) in
    let rest : List Field = renumber number there_more fields in
    ap (λ (first : List Field). renumber number back (first ++ rest)) b.left
    ∙ ap (λ (list : List Number). with_left b.made list (renumbered back list) ++ renumber number (drop (length list) back) rest) b.numbers
    ∙ ap (λ (list : List Number). with_left b.made new list ++ renumber number back_more rest) apart.0
    ∙ ap (λ (first : List Field). first ++ renumber number back_more rest) b.back
    ∙ ap (λ (more : List Field). field ∷ more)
    (both_back number there_more back_more fields
    (some_dropped (length own) there all)
    (some_dropped (length new) back all_back)
    (short_after (length own) there short)
    apart.1)
