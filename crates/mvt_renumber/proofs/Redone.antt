-- Fields whose numbers were decided on: what is read from them, how long they are, and that they stay valid.
use Rattle.std.proofs.Common.{◌≡◌, ℕ, ◌+◌, ◌/◌, ◌^◌, ◌<◌, ◌≤◌, true, max, List, [], ◌∷◌, ◌++◌, length, map, drop, Option, Some, None, Result, eqb, refl, sym, ap, ◌∙◌, subst, arith}
use Rattle.std.specs.Prelude.{IfSome}
use Rattle.std.specs.Option.{unwrap_or}
use Rattle.std.specs.List.{flat_map, cons_option, zip, AllByRecursion}
use Rattle.std.proofs.lemmas.Bool.{cond-true, cond_both, eq-eqb}
use Rattle.std.proofs.lemmas.List.{append-nil, map-append, length-append, length-map, drop_at}
use Rattle.std.proofs.lemmas.List.Concat.{flat_map-append}
use Rattle.mvt_document.specs.Plain.{Number, Body, Spelled, Eight, Four, Delimited, Group, Field}
use Rattle.mvt_document.specs.Shape.{IsTag}
use Rattle.mvt_document.specs.Wire.{spell, spelling, minimal, minimal_width, body_bytes, field_bytes, delimited}
use Rattle.mvt_document.specs.Groups.{IsNumber, IsGroup, IsBodyWith, wire_type}
use Rattle.mvt_document.specs.Opens.{IsField}
use Rattle.mvt_document.proofs.EachItem.{all_dropped, all_joined}
use Rattle.mvt_document.proofs.Spelling.{minimal_spelling, length-spell, width_within_grows}
use Rattle.mvt_document.proofs.Sizes.{length-delimited}
use Rattle.mvt_messages.specs.Numbers.{Placed, pieces, unpacked, numbers_of, all_good}
use Rattle.mvt_renumber.specs.Renumbering.{with_number, decided, renumbered, with_numbers, field_numbers, with_left, renumbered_field, renumber}
use Rattle.mvt_renumber.specs.Deciding.{packed_numbers, packed_field}
use Rattle.mvt_messages.specs.Laws.{spellings, AreNumbers}
use Rattle.mvt_renumber.specs.Laws.{AreShort, keeping, NoneIsGreater, NoneIsNew, LeftIsRead, KeptStays, FieldNoLonger, LowerNoLonger, NoLonger, OthersStay, StaysValid}
use Rattle.mvt_messages.proofs.Pieces.{found_spelled}
use Rattle.mvt_renumber.proofs.Decisions.{plain_numbers, packed-spellings, renumbered-none, renumbered_more, renumbered-no_more, with_number-same}
use Rattle.mvt_renumber.proofs.Reread.{found_in, both_found, both_some, field_read, fields_read, fields_read-append, read_is}

-- ---- decisions on two lists

cons_option-append : {A : Type 0} (item : Option A) (xs ys : List A) → cons_option item (xs ++ ys) ≡ cons_option item xs ++ ys
cons_option-append None xs ys = refl
cons_option-append (Some item) xs ys = refl

pub renumbered-append : (decisions : List (Option ℕ)) (xs ys : List Number) → renumbered decisions (xs ++ ys) ≡ renumbered decisions xs ++ renumbered (drop (length xs) decisions) ys
renumbered-append decisions [] ys = ap (λ (list : List Number). list ++ renumbered decisions ys) (sym (renumbered-none decisions))
renumbered-append [] (x ∷ xs) ys = refl
renumbered-append (decision ∷ decisions) (x ∷ xs) ys =
    renumbered_more decision decisions x (xs ++ ys)
    ∙ ap (cons_option (decided (decision, x))) (renumbered-append decisions xs ys)
    ∙ cons_option-append (decided (decision, x)) (renumbered decisions xs) (renumbered (drop (length xs) decisions) ys)
    ∙ ap (λ (list : List Number). list ++ renumbered (drop (length xs) decisions) ys) (sym (renumbered_more decision decisions x xs))

-- ---- decided numbers are numbers

pub with_number-valid : (value : ℕ) (old : Number) → value < 2 ^ 64 → IsNumber old → IsNumber (with_number value old)
with_number-valid value old short valid =
    cond_both (eqb old.value value) old (minimal value) IsNumber (λ _. valid) (λ _. minimal_spelling value short)

cons_valid : (decision : Option ℕ) (number : Number) (list : List Number) → IfSome decision (λ value. value < 2 ^ 64) → IsNumber number → AllByRecursion IsNumber list → AllByRecursion IsNumber (cons_option (decided (decision, number)) list)
cons_valid None number list short valid p = p
cons_valid (Some value) number list short valid p = (with_number-valid value number short valid, p)

pub renumbered-valid : (decisions : List (Option ℕ)) (numbers : List Number) → AreShort decisions → AllByRecursion IsNumber numbers → AllByRecursion IsNumber (renumbered decisions numbers)
renumbered-valid [] numbers short valid = valid
renumbered-valid (decision ∷ decisions) [] short valid = tt
renumbered-valid (decision ∷ decisions) (number ∷ more) short valid =
    subst (AllByRecursion IsNumber) (sym (renumbered_more decision decisions number more))
    (cons_valid decision number (renumbered decisions more) short.0 valid.0 (renumbered-valid decisions more short.1 valid.1))

-- ---- the numbers of a body

plain_spelled : (placed : List Placed) → flat_map spelling (map (λ (p : Placed). p.number) placed) ≡ spellings placed
plain_spelled [] = refl
plain_spelled (p ∷ more) = ap (λ (b : List ℕ). spelling p.number ++ b) (plain_spelled more)

plain_valid : (placed : List Placed) → AreNumbers placed → AllByRecursion IsNumber (map (λ (p : Placed). p.number) placed)
plain_valid [] v = tt
plain_valid (p ∷ more) v = (v.0, plain_valid more v.1)

plain_some : (list : Option (List Placed)) (found : List Number) → plain_numbers list ≡ Some found → (placed : List Placed) × (list ≡ Some placed) × (map (λ (p : Placed). p.number) placed ≡ found)
plain_some None found e = absurd (cc)
plain_some (Some placed) found e = (placed, refl, cc)

-- a packed body is the spellings of its numbers, and they are numbers
pub packed-read : (bytes : List ℕ) (found : List Number) → packed_numbers bytes ≡ Some found → (flat_map spelling found ≡ bytes) × AllByRecursion IsNumber found
packed-read bytes found e =
    let p = plain_some (all_good (unpacked 0 0 (pieces bytes))) found e in
    let s = found_spelled 0 0 bytes p.0 p.1 in
    subst (λ (list : List Number). (flat_map spelling list ≡ bytes) × AllByRecursion IsNumber list) p.2
    (plain_spelled p.0 ∙ sym s.0, plain_valid p.0 s.1)

-- some number was read from a body
pub data HasRead : Body → List Number → Type 0 where
  one : {number : Number} → HasRead (Spelled number) (number ∷ [])
  packed : {width : ℕ} {bytes : List ℕ} {found : List Number} → packed_numbers bytes ≡ Some found → HasRead (Delimited width bytes) found

body_read : (body : Body) (number : Number) (more : List Number) → found_in (numbers_of 0 body) ≡ Some (number ∷ more) → HasRead body (number ∷ more)
body_read (Spelled old) number more e =
    let same : old ∷ [] ≡ number ∷ more = cc in subst (HasRead (Spelled old)) same one
body_read (Delimited width bytes) number more e = packed e
body_read (Eight bytes) number more e = absurd (cc)
body_read (Four bytes) number more e = absurd (cc)
body_read (Group bytes) number more e = absurd (cc)

-- a field with numbers has the number of the fields that are read
pub record Reads (number : ℕ) (field : Field) (found : List Number) : Type 0 where
  pub own : eqb (field.tag.value / 8) number ≡ true
  pub body : HasRead field.body found

field_reads : (number : ℕ) (field : Field) (first : Number) (more : List Number) → field_read number field ≡ Some (first ∷ more) → Reads number field (first ∷ more)
field_reads number field first more =
    cond_both (eqb (field.tag.value / 8) number) (numbers_of 0 field.body) [] (λ chunks. found_in chunks ≡ Some (first ∷ more) → Reads number field (first ∷ more))
    (λ t e. record { own = t; body = body_read field.body first more e })
    (λ _ e. absurd (cc))

from_default : (found : Option (List Number)) (first : Number) (more : List Number) → unwrap_or found [] ≡ first ∷ more → found ≡ Some (first ∷ more)
from_default None first more e = absurd (cc)
from_default (Some found) first more e = ap Some e

numbers_reads : (number : ℕ) (field : Field) (first : Number) (more : List Number) → field_numbers number field ≡ first ∷ more → Reads number field (first ∷ more)
numbers_reads number field first more e = field_reads number field first more (from_default (field_read number field) first more e)

-- ---- what is read from a field that was decided on

spelled_reread : (old : Number) (new : List Number) → length new ≤ 1 → (new ≡ [] → ⊥) → found_in (numbers_of 0 (with_numbers new (Spelled old))) ≡ Some new
spelled_reread old [] short some = absurd (some refl)
spelled_reread old (first ∷ []) short some = refl
spelled_reread old (first ∷ next ∷ more) short some = absurd (omega arith)

-- the numbers read from the new body are those that it was given
body_reread : (decisions : List (Option ℕ)) {body : Body} {old : List Number} → AreShort decisions → HasRead body old → (renumbered decisions old ≡ [] → ⊥) → found_in (numbers_of 0 (with_numbers (renumbered decisions old) body)) ≡ Some (renumbered decisions old)
body_reread decisions short (one {number}) some = spelled_reread number (renumbered decisions (number ∷ [])) (renumbered-no_more decisions (number ∷ [])) some
body_reread decisions short (packed {bytes = bytes} {found = found} e) some = packed-spellings (renumbered decisions found) (renumbered-valid decisions found short (packed-read bytes found e).1)

one_field : (found : Option (List Number)) (list : List Number) → found ≡ Some list → both_found found (Some []) ≡ Some list
one_field found list e = ap (λ (o : Option (List Number)). both_found o (Some [])) e ∙ ap Some (append-nil list)

reread : (number : ℕ) (field : Field) (decisions : List (Option ℕ)) (old new : List Number) → AreShort decisions → field_read number field ≡ Some old → renumbered decisions old ≡ new → fields_read number (with_left field old new) ≡ Some new
reread number field decisions [] new short e is = one_field (field_read number field) [] e ∙ ap Some (sym (renumbered-none decisions) ∙ is)
reread number field decisions (first ∷ more) [] short e is = refl
reread number field decisions (first ∷ more) (next ∷ others) short e is =
    let r = field_reads number field first more e in
    let some : renumbered decisions (first ∷ more) ≡ [] → ⊥ = λ none. let apart : next ∷ others ≡ [] = sym is ∙ none in absurd (cc) in
    one_field (field_read number (record field { body = with_numbers (next ∷ others) field.body })) (next ∷ others)
    (ap found_in (cond-true (eqb (field.tag.value / 8) number) (numbers_of 0 (with_numbers (next ∷ others) field.body)) [] r.own)
    ∙ subst (λ (list : List Number). found_in (numbers_of 0 (with_numbers list field.body)) ≡ Some list) is (body_reread decisions short r.body some))

all_reread : (number : ℕ) (decisions : List (Option ℕ)) (fields : List Field) (found : List Number) → AreShort decisions → fields_read number fields ≡ Some found → fields_read number (renumber number decisions fields) ≡ Some (renumbered decisions found)
all_reread number decisions [] found short e =
    let none : [] ≡ found = cc in ap Some (sym (renumbered-none decisions) ∙ ap (renumbered decisions) none)
all_reread number decisions (field ∷ more) found short e =
    let b = both_some (field_read number field) (fields_read number more) found e in
    let own : field_numbers number field ≡ b.first = ap (λ (o : Option (List Number)). unwrap_or o []) b.first_is in
    let following = drop (length (field_numbers number field)) decisions in
    let left = with_left field (field_numbers number field) (renumbered decisions (field_numbers number field)) in
    let first : fields_read number left ≡ Some (renumbered decisions b.first) =
    ap (λ (old : List Number). fields_read number (with_left field old (renumbered decisions old))) own
    ∙ reread number field decisions b.first (renumbered decisions b.first) short b.first_is refl in
    let second : fields_read number (renumber number following more) ≡ Some (renumbered following b.second) =
    all_reread number following more b.second (all_dropped (λ decision. IfSome decision (λ value. value < 2 ^ 64)) (length (field_numbers number field)) decisions short) b.second_is in
    fields_read-append number left (renumber number following more)
    ∙ ap (λ (o : Option (List Number)). both_found o (fields_read number (renumber number following more))) first
    ∙ ap (both_found (Some (renumbered decisions b.first))) second
    ∙ ap (λ (n : ℕ). Some (renumbered decisions b.first ++ renumbered (drop n decisions) b.second)) (ap length own)
    ∙ ap Some (sym (renumbered-append decisions b.first b.second) ∙ ap (renumbered decisions) b.joined)

pub left_is_read : LeftIsRead
left_is_read number decisions fields found short e =
    read_is number (renumber number decisions fields) ∙ all_reread number decisions fields found short (sym (read_is number fields) ∙ e)

-- ---- decisions that keep all values

-- a body has the numbers that were read from it
body_own : {body : Body} {old : List Number} → HasRead body old → with_numbers old body ≡ body
body_own one = refl
body_own (packed {width = width} {bytes = bytes} {found = found} e) = ap (Delimited width) (packed-read bytes found e).0

kept_numbers : (numbers : List Number) (decisions : List (Option ℕ)) → renumbered (keeping numbers ++ decisions) numbers ≡ numbers
kept_numbers [] decisions = renumbered-none decisions
kept_numbers (number ∷ more) decisions =
    renumbered_more (Some number.value) (keeping more ++ decisions) number more
    ∙ ap (λ (n : Number). n ∷ renumbered (keeping more ++ decisions) more) (with_number-same number.value number refl)
    ∙ ap (λ (list : List Number). number ∷ list) (kept_numbers more decisions)

pub own_left : (number : ℕ) (field : Field) (old : List Number) → field_numbers number field ≡ old → with_left field old old ≡ field ∷ []
own_left number field [] e = refl
own_left number field (first ∷ more) e =
    let r = numbers_reads number field first more e in
    ap (λ (body : Body). record field { body = body } ∷ []) (body_own r.body)

pub kept_stays : KeptStays
kept_stays number [] = refl
kept_stays number (field ∷ more) =
    let old = field_numbers number field in
    let others = flat_map (field_numbers number) more in
    let split : keeping (old ++ others) ≡ keeping old ++ keeping others = map-append (λ (n : Number). Some n.value) old others in
    ap (λ (decisions : List (Option ℕ)). with_left field old (renumbered decisions old) ++ renumber number (drop (length old) decisions) more) split
    ∙ ap (λ (list : List Number). with_left field old list ++ renumber number (drop (length old) (keeping old ++ keeping others)) more) (kept_numbers old (keeping others))
    ∙ ap (λ (fields : List Field). fields ++ renumber number (drop (length old) (keeping old ++ keeping others)) more) (own_left number field old refl)
    ∙ ap (λ (decisions : List (Option ℕ)). field ∷ renumber number decisions more) (drop_at (keeping old) (keeping others) (length old) (length-map old (λ (n : Number). Some n.value)))
    ∙ ap (λ (fields : List Field). field ∷ fields) (kept_stays number more)

-- ---- a field does not get longer

-- each of the numbers that is decided on is then spelled in no more bytes, or goes
abbrev NoneIsWider : List (Option ℕ) → List Number → Type 0
NoneIsWider decisions numbers = AllByRecursion (λ (p : Option ℕ × Number). IfSome p.0 (λ value. (with_number value p.1).width ≤ p.1.width)) (zip decisions numbers)

kept_width : (decision : Option ℕ) (number : Number) → IfSome decision (λ value. value ≡ number.value) → IfSome decision (λ value. (with_number value number).width ≤ number.width)
kept_width None number kept = tt
kept_width (Some value) number kept =
    let same : with_number value number ≡ number = with_number-same value number (sym kept) in
    omega (arith, ap (λ (n : Number). n.width) same)

kept_widths : (decisions : List (Option ℕ)) (numbers : List Number) → NoneIsNew decisions numbers → NoneIsWider decisions numbers
kept_widths [] numbers kept = tt
kept_widths (decision ∷ decisions) [] kept = tt
kept_widths (decision ∷ decisions) (number ∷ more) kept = (kept_width decision number kept.0, kept_widths decisions more kept.1)

lower_width : (decision : Option ℕ) (number : Number) → IsNumber number → IfSome decision (λ value. value ≤ number.value) → IfSome decision (λ value. (with_number value number).width ≤ number.width)
lower_width None number valid lower = tt
lower_width (Some value) number valid lower =
    cond_both (eqb number.value value) number (minimal value) (λ (n : Number). n.width ≤ number.width)
    (λ _. omega arith)
    (λ _. omega (arith, width_within_grows 9 value number.value lower, valid.wide))

lower_widths : (decisions : List (Option ℕ)) (numbers : List Number) → AllByRecursion IsNumber numbers → NoneIsGreater decisions numbers → NoneIsWider decisions numbers
lower_widths [] numbers valid lower = tt
lower_widths (decision ∷ decisions) [] valid lower = tt
lower_widths (decision ∷ decisions) (number ∷ more) valid lower =
    (lower_width decision number valid.0 lower.0, lower_widths decisions more valid.1 lower.1)

cons_shorter : (decision : Option ℕ) (number : Number) (list : List Number) → IfSome decision (λ value. (with_number value number).width ≤ number.width) → length (flat_map spelling (cons_option (decided (decision, number)) list)) ≤ length (spelling number) + length (flat_map spelling list)
cons_shorter None number list narrow = omega arith
cons_shorter (Some value) number list narrow =
    let new = with_number value number in
    omega (arith, narrow, length-append (spelling new) (flat_map spelling list), length-spell new.value new.width, length-spell number.value number.width)

-- the spellings of numbers that do not get wider or that go are no longer
shorter : (decisions : List (Option ℕ)) (numbers : List Number) → NoneIsWider decisions numbers → length (flat_map spelling (renumbered decisions numbers)) ≤ length (flat_map spelling numbers)
shorter [] numbers narrow = omega arith
shorter (decision ∷ decisions) [] narrow = omega arith
shorter (decision ∷ decisions) (number ∷ more) narrow =
    let e = ap (λ (list : List Number). length (flat_map spelling list)) (renumbered_more decision decisions number more) in
    omega (arith, e, cons_shorter decision number (renumbered decisions more) narrow.0, shorter decisions more narrow.1, length-append (spelling number) (flat_map spelling more))

delimited_shorter : (width : ℕ) (bytes others : List ℕ) → length bytes ≤ length others → length (delimited width bytes) ≤ length (delimited width others)
delimited_shorter width bytes others short =
    omega (arith, length-delimited width bytes, length-delimited width others, width_within_grows 9 (length bytes) (length others) short)

spelled_shorter : (old : Number) (new : List Number) → (new ≡ [] → ⊥) → length (flat_map spelling new) ≤ length (spelling old) → length (body_bytes (with_numbers new (Spelled old))) ≤ length (spelling old)
spelled_shorter old [] some short = absurd (some refl)
spelled_shorter old (first ∷ others) some short = omega (arith, length-append (spelling first) (flat_map spelling others))

body_shorter : {body : Body} {old : List Number} (new : List Number) → HasRead body old → (new ≡ [] → ⊥) → length (flat_map spelling new) ≤ length (flat_map spelling old) → length (body_bytes (with_numbers new body)) ≤ length (body_bytes body)
body_shorter new (one {number}) some short = spelled_shorter number new some (omega (arith, length-append (spelling number) []))
body_shorter new (packed {width = width} {bytes = bytes} {found = found} e) some short =
    delimited_shorter width (flat_map spelling new) bytes (omega (arith, ap length (packed-read bytes found e).0))

left_shorter : (number : ℕ) (field : Field) (old new : List Number) → field_numbers number field ≡ old → length (flat_map spelling new) ≤ length (flat_map spelling old) → length (flat_map field_bytes (with_left field old new)) ≤ length (field_bytes field)
left_shorter number field [] new e short = omega (arith, length-append (field_bytes field) [])
left_shorter number field (first ∷ more) [] e short = omega arith
left_shorter number field (first ∷ more) (next ∷ others) e short =
    let r = numbers_reads number field first more e in
    let body = with_numbers (next ∷ others) field.body in
    omega (arith, body_shorter (next ∷ others) r.body (λ same. absurd (cc)) short, length-append (field_bytes (record field { body = body })) [], length-append (spelling field.tag) (body_bytes body), length-append (spelling field.tag) (body_bytes field.body))

narrow_field : (number : ℕ) (decisions : List (Option ℕ)) (field : Field) → NoneIsWider decisions (field_numbers number field) → length (flat_map field_bytes (renumbered_field number decisions field)) ≤ length (field_bytes field)
narrow_field number decisions field narrow =
    left_shorter number field (field_numbers number field) (renumbered decisions (field_numbers number field)) refl (shorter decisions (field_numbers number field) narrow)

pub field_no_longer : FieldNoLonger
field_no_longer number decisions field kept = narrow_field number decisions field (kept_widths decisions (field_numbers number field) kept)

nothing_wider : (decisions : List (Option ℕ)) → NoneIsWider decisions []
nothing_wider [] = tt
nothing_wider (decision ∷ decisions) = tt

narrow_apart : (decisions : List (Option ℕ)) (xs ys : List Number) → NoneIsWider decisions (xs ++ ys) → NoneIsWider decisions xs × NoneIsWider (drop (length xs) decisions) ys
narrow_apart decisions [] ys narrow = (nothing_wider decisions, narrow)
narrow_apart [] (x ∷ xs) ys narrow = (tt, tt)
narrow_apart (decision ∷ decisions) (x ∷ xs) ys narrow =
    let others = narrow_apart decisions xs ys narrow.1 in
    ((narrow.0, others.0), others.1)

narrow_fields : (number : ℕ) (decisions : List (Option ℕ)) (fields : List Field) → NoneIsWider decisions (flat_map (field_numbers number) fields) → length (flat_map field_bytes (renumber number decisions fields)) ≤ length (flat_map field_bytes fields)
narrow_fields number decisions [] narrow = omega arith
narrow_fields number decisions (field ∷ more) narrow =
    let old = field_numbers number field in
    let apart = narrow_apart decisions old (flat_map (field_numbers number) more) narrow in
    let left = renumbered_field number decisions field in
    let following = renumber number (drop (length old) decisions) more in
    omega (arith, narrow_field number decisions field apart.0, narrow_fields number (drop (length old) decisions) more apart.1, ap length (flat_map-append field_bytes left following), length-append (flat_map field_bytes left) (flat_map field_bytes following), length-append (field_bytes field) (flat_map field_bytes more))

pub no_longer : NoLonger
no_longer number decisions fields kept = narrow_fields number decisions fields (kept_widths decisions (flat_map (field_numbers number) fields) kept)

-- ---- one number of a packed body

others_kept : (before following : List Number) (old : Number) (value : ℕ) → renumbered (keeping before ++ Some value ∷ []) (before ++ old ∷ following) ≡ before ++ with_number value old ∷ following
others_kept [] following old value = refl
others_kept (first ∷ before) following old value =
    renumbered_more (Some first.value) (keeping before ++ Some value ∷ []) first (before ++ old ∷ following)
    ∙ ap (λ (n : Number). n ∷ renumbered (keeping before ++ Some value ∷ []) (before ++ old ∷ following)) (with_number-same first.value first refl)
    ∙ ap (λ (list : List Number). first ∷ list) (others_kept before following old value)

left_with : (tag : Number) (width : ℕ) (bytes : List ℕ) (xs ys zs us : List Number) (x y : Number) → with_left (packed_field tag width bytes) (xs ++ x ∷ ys) (zs ++ y ∷ us) ≡ packed_field tag width (flat_map spelling (zs ++ y ∷ us)) ∷ []
left_with tag width bytes [] ys [] us x y = refl
left_with tag width bytes [] ys (z ∷ zs) us x y = refl
left_with tag width bytes (first ∷ xs) ys [] us x y = refl
left_with tag width bytes (first ∷ xs) ys (z ∷ zs) us x y = refl

pub others_stay : OthersStay
others_stay tag width value before following old valid =
    let number = tag.value / 8 in
    let decisions = keeping before ++ Some value ∷ [] in
    let list = before ++ old ∷ following in
    let bytes : List ℕ = flat_map spelling before ++ (spelling old ++ flat_map spelling following) in
    let spelled : flat_map spelling list ≡ bytes = flat_map-append spelling before (old ∷ following) in
    let found : packed_numbers bytes ≡ Some list = ap packed_numbers (sym spelled) ∙ packed-spellings list valid in
    let own : field_numbers number (packed_field tag width bytes) ≡ list =
    ap (λ (chunks : List (Result Placed ℕ)). unwrap_or (found_in chunks) []) (cond-true (eqb number number) (numbers_of 0 (Delimited width bytes)) [] (eq-eqb number number refl))
    ∙ ap (λ (o : Option (List Number)). unwrap_or o []) found in
    append-nil (renumbered_field number decisions (packed_field tag width bytes))
    ∙ ap (λ (numbers : List Number). with_left (packed_field tag width bytes) numbers (renumbered decisions numbers)) own
    ∙ ap (with_left (packed_field tag width bytes) list) (others_kept before following old value)
    ∙ left_with tag width bytes before following before following old (with_number value old)
    ∙ ap (λ (b : List ℕ). packed_field tag width b ∷ []) (flat_map-append spelling before (with_number value old ∷ following))

-- ---- valid fields

-- numbers of a valid field can be spelled
body_valid : (number : ℕ) {body : Body} {old : List Number} → HasRead body old → IsBodyWith IsGroup number body → AllByRecursion IsNumber old
body_valid number one valid = (valid, tt)
body_valid number (packed {bytes = bytes} {found = found} e) valid = (packed-read bytes found e).1

own_valid : (number : ℕ) (field : Field) (found : List Number) → field_numbers number field ≡ found → IsField field → AllByRecursion IsNumber found
own_valid number field [] e valid = tt
own_valid number field (first ∷ more) e valid = body_valid (field.tag.value / 8) (numbers_reads number field first more e).body valid.body

-- the numbers of valid fields can be spelled
pub numbers_valid : (number : ℕ) (fields : List Field) → AllByRecursion IsField fields → AllByRecursion IsNumber (flat_map (field_numbers number) fields)
numbers_valid number [] valid = tt
numbers_valid number (field ∷ more) valid =
    all_joined IsNumber (field_numbers number field) (flat_map (field_numbers number) more) (own_valid number field (field_numbers number field) refl valid.0) (numbers_valid number more valid.1)

pub lower_no_longer : LowerNoLonger
lower_no_longer number decisions fields valid lower =
    let numbers = flat_map (field_numbers number) fields in
    narrow_fields number decisions fields (lower_widths decisions numbers (numbers_valid number fields valid) lower)

-- the new body is valid, and of the same wire type
body_kept : (number : ℕ) {body : Body} {old : List Number} (new : List Number) → HasRead body old → AllByRecursion IsNumber new → IsBodyWith IsGroup number body → IsBodyWith IsGroup number (with_numbers new body) × (wire_type (with_numbers new body) ≡ wire_type body)
body_kept number [] one valid v = (v, refl)
body_kept number (first ∷ others) one valid v = (valid.0, refl)
body_kept number new (packed e) valid v = (v, refl)

left_valid : (number : ℕ) (decisions : List (Option ℕ)) (field : Field) (old new : List Number) → AreShort decisions → IsField field → field_numbers number field ≡ old → renumbered decisions old ≡ new → AllByRecursion IsField (with_left field old new)
left_valid number decisions field [] new short valid e is = (valid, tt)
left_valid number decisions field (first ∷ more) [] short valid e is = tt
left_valid number decisions field (first ∷ more) (next ∷ others) short valid e is =
    let r = numbers_reads number field first more e in
    let list = body_valid (field.tag.value / 8) r.body valid.body in
    let new_valid : AllByRecursion IsNumber (next ∷ others) = subst (AllByRecursion IsNumber) is (renumbered-valid decisions (first ∷ more) short list) in
    let kept = body_kept (field.tag.value / 8) (next ∷ others) r.body new_valid valid.body in
    (record { number = valid.number; tag = subst (IsTag field.tag.value) (sym kept.1) valid.tag; body = kept.0 }, tt)

pub stays_valid : StaysValid
stays_valid number decisions [] short valid = tt
stays_valid number decisions (field ∷ more) short valid =
    let old = field_numbers number field in
    all_joined IsField (renumbered_field number decisions field) (renumber number (drop (length old) decisions) more)
    (left_valid number decisions field old (renumbered decisions old) short valid.0 refl refl)
    (stays_valid number (drop (length old) decisions) more (all_dropped (λ decision. IfSome decision (λ value. value < 2 ^ 64)) (length old) decisions short) valid.1)
