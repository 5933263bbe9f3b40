-- What is left of a packed field: how its scan and the body made of it answer for the whole field.
use Rattle.std.proofs.Common.{◌≡◌, Bool, true, false, eqb, ◌||◌, ◌≢◌, ℕ, ◌≤◌, List, [], ◌∷◌, ◌++◌, length, take, drop, Option, Some, None, refl, sym, ap, ◌∙◌, subst, append_assoc, arith}
use Rattle.std.specs.Option.{unwrap_or}
use Rattle.std.specs.List.{flat_map, AllByRecursion}
use Rattle.std.proofs.lemmas.Bool.{cond_both, eqb-true, eq-eqb, not_from_true, or_left}
use Rattle.std.proofs.lemmas.List.{append-nil, append_cancel_left, drop_all, take_all, take-append-drop, length-append}
use Rattle.std.proofs.lemmas.List.Concat.{flat_map-append}
use Rattle.mvt_document.specs.Plain.{Number, Spelled, Eight, Four, Delimited, Group, Field}
use Rattle.mvt_document.specs.Wire.{minimal, spelling}
use Rattle.mvt_document.specs.Stands.{field_of}
use Rattle.mvt_document.specs.Groups.{IsNumber}
use Rattle.mvt_document.specs.declared.varint.Varint.{Varint}
use Rattle.mvt_document.specs.declared.field.FieldParts as program
use Rattle.mvt_document.proofs.EachItem.{all_joined}
use Rattle.mvt_document.proofs.Spelling.{spelling_some, length-spell}
use Rattle.mvt_renumber.specs.Renumbering.{is_changed, renumbered, some_changed, with_left, with_number}
use Rattle.mvt_renumber.specs.Fates.{IsChange, changes, left_of_fate}
use Rattle.mvt_renumber.specs.Deciding.{packed_numbers, packed_field, with_bytes, BeginsChanged, StaysBefore, FirstChanges, AllStayOf, IsLeft}
use Rattle.mvt_renumber.specs.declared.fate.Fate.{Fate}
use Rattle.mvt_renumber.specs.declared.fate.Fate.TheVariants.{Stays, Goes, Becomes}
use Rattle.mvt_renumber.proofs.Decisions.{begins_with, renumbered_more, renumbered-none, renumbered-no_more, packed-spellings}

-- ---- numbers that stay

-- something else is packed
pub all_stay-bad : (bytes : List ℕ) (decisions : List (Option ℕ)) → packed_numbers bytes ≡ None → AllStayOf bytes decisions decisions
all_stay-bad bytes decisions e = (
  ap (λ (found : Option (List Number)). drop (length (unwrap_or found [])) decisions) (sym e),
  ap (λ (found : Option (List Number)). some_changed decisions (unwrap_or found [])) e,
  λ numbers f. let apart : None ≡ Some numbers = sym e ∙ f in absurd (cc),
)

-- all numbers were gone through
pub all_stay-end : (bytes : List ℕ) (decisions : List (Option ℕ)) (place : ℕ) (left : List (Option ℕ)) → length bytes ≤ place → StaysBefore bytes decisions place left → AllStayOf bytes decisions left
all_stay-end bytes decisions place left whole s =
    let found : packed_numbers bytes ≡ Some (s.read ++ []) = s.good [] (ap packed_numbers (drop_all place bytes whole)) in
    let stay : renumbered decisions (s.read ++ []) ≡ s.read ++ [] = s.stay [] ∙ ap (λ (list : List Number). s.read ++ list) (renumbered-none left) in
    let spelled : flat_map spelling (s.read ++ []) ≡ bytes = ap (flat_map spelling) (append-nil s.read) ∙ sym s.spelled ∙ take_all place bytes whole in
    let following : drop (length (s.read ++ [])) decisions ≡ left = ap (λ (n : ℕ). drop n decisions) (length-append s.read []) ∙ s.following 0 in (
      sym (ap (λ (o : Option (List Number)). drop (length (unwrap_or o [])) decisions) found ∙ following),
      ap (λ (o : Option (List Number)). some_changed decisions (unwrap_or o [])) found ∙ s.same [],
      λ numbers e.
          let same : s.read ++ [] ≡ numbers = cc in
          subst (λ (list : List Number). (renumbered decisions list ≡ list) × (flat_map spelling list ≡ bytes)) same (stay, spelled),
    )

-- ---- the first that does not stay

pub changed_by : (fate : Fate Varint) (others : Bool) → (fate ≡ Stays → ⊥) → changes fate || others ≡ true
changed_by Stays others not_stays = absurd (not_stays refl)
changed_by Goes others not_stays = refl
changed_by (Becomes other) others not_stays = refl

from_none : (is : Bool) → is || false ≡ true → is ≡ true
from_none true e = refl
from_none false e = e

with_number-value : (value : ℕ) (number : Number) → (with_number value number).value ≡ value
with_number-value value number =
    cond_both (eqb number.value value) number (minimal value) (λ new. new.value ≡ value) (λ t. eqb-true number.value value t) (λ _. refl)

other_number : (value : ℕ) (number : Number) → is_changed (number, Some value) ≡ true → with_number value number ≢ number
other_number value number changed same =
    let kept : value ≡ number.value = sym (with_number-value value number) ∙ ap (λ (n : Number). n.value) same in
    let unchanged : is_changed (number, Some value) ≡ false = not_from_true (eqb value number.value) (eq-eqb value number.value kept) in
    absurd (cc)

-- where the first number changes, others are left
first_left : (decisions : List (Option ℕ)) (number : Number) (more : List Number) → some_changed decisions (number ∷ []) ≡ true → renumbered decisions (number ∷ more) ≢ number ∷ more
first_left [] number more changed same = absurd (cc)
first_left (None ∷ decisions) number more changed same =
    absurd (omega (arith, renumbered-no_more decisions more, ap length (sym (renumbered_more None decisions number more) ∙ same)))
first_left (Some value ∷ decisions) number more changed same =
    let both : with_number value number ∷ renumbered decisions more ≡ number ∷ more = sym (renumbered_more (Some value) decisions number more) ∙ same in
    let head : with_number value number ≡ number = cc in
    other_number value number (from_none (is_changed (number, Some value)) changed) head

-- and some number changes
some_first : (decisions : List (Option ℕ)) (number : Number) (more : List Number) → some_changed decisions (number ∷ []) ≡ true → some_changed decisions (number ∷ more) ≡ true
some_first [] number more changed = changed
some_first (decision ∷ decisions) number more changed = or_left (is_changed (number, decision)) (some_changed decisions more) (from_none (is_changed (number, decision)) changed)

-- a packed body of which that holds changes
first_differs : (bytes : List ℕ) (decisions : List (Option ℕ)) → FirstChanges bytes decisions → (numbers : List Number) → packed_numbers bytes ≡ Some numbers → (renumbered decisions numbers ≢ numbers) × (some_changed decisions numbers ≡ true)
first_differs bytes decisions first numbers e =
    let begins = begins_with first.number bytes first.valid first.spelled numbers e in
    subst (λ (list : List Number). (renumbered decisions list ≢ list) × (some_changed decisions list ≡ true)) (sym begins.1)
    (first_left decisions first.number begins.0 first.changed, some_first decisions first.number begins.0 first.changed)

-- the numbers up to the first that changes
pub begins_changed : (bytes : List ℕ) (decisions : List (Option ℕ)) (place : ℕ) (from : List (Option ℕ)) → StaysBefore bytes decisions place from → FirstChanges (drop place bytes) from → BeginsChanged bytes decisions
begins_changed bytes decisions place from s first =
    let rest = drop first.number.width (drop place bytes) in
    let after : drop place bytes ≡ spelling first.number ++ rest =
    sym (take-append-drop first.number.width (drop place bytes)) ∙ ap (λ (b : List ℕ). b ++ rest) first.spelled in
    let joined : flat_map spelling (s.read ++ first.number ∷ []) ≡ flat_map spelling s.read ++ spelling first.number =
    flat_map-append spelling s.read (first.number ∷ []) ∙ ap (λ (b : List ℕ). flat_map spelling s.read ++ b) (append-nil (spelling first.number)) in
    record {
      numbers = s.read ++ first.number ∷ [];
      rest = rest;
      valid = all_joined IsNumber s.read (first.number ∷ []) s.valid (first.valid, tt);
      spelled =
          sym (take-append-drop place bytes)
          ∙ ap (λ (b : List ℕ). b ++ drop place bytes) s.spelled
          ∙ ap (λ (b : List ℕ). flat_map spelling s.read ++ b) after
          ∙ sym (append_assoc (flat_map spelling s.read) (spelling first.number) rest)
          ∙ ap (λ (b : List ℕ). b ++ rest) (sym joined);
      changed = s.same (first.number ∷ []) ∙ first.changed;
    }

-- ---- the whole body

-- these bytes are what is left of a packed body that changes, and these decisions are left after it
pub record IsChanged (bytes : List ℕ) (decisions : List (Option ℕ)) (made : List ℕ) (left : List (Option ℕ)) : Type 0 where
  pub numbers : List Number
  pub good : packed_numbers bytes ≡ Some numbers
  pub valid : AllByRecursion IsNumber (renumbered decisions numbers)
  pub spelled : made ≡ flat_map spelling (renumbered decisions numbers)
  pub differs : renumbered decisions numbers ≢ numbers
  pub following : left ≡ drop (length numbers) decisions
  pub some : some_changed decisions numbers ≡ true

pub whole_changed : (bytes : List ℕ) (decisions : List (Option ℕ)) (place : ℕ) (from : List (Option ℕ)) (made : List ℕ) (left : List (Option ℕ))
    → StaysBefore bytes decisions place from → FirstChanges (drop place bytes) from → IsLeft (take place bytes) (drop place bytes) from made left → IsChanged bytes decisions made left
whole_changed bytes decisions place from made left s first m =
    let differs = first_differs (drop place bytes) from first m.numbers m.good in
    let new : renumbered decisions (s.read ++ m.numbers) ≡ s.read ++ renumbered from m.numbers = s.stay m.numbers in
    record {
      numbers = s.read ++ m.numbers;
      good = s.good m.numbers m.good;
      valid = subst (AllByRecursion IsNumber) (sym new) (all_joined IsNumber s.read (renumbered from m.numbers) s.valid m.valid);
      spelled =
          m.spelled
          ∙ ap (λ (b : List ℕ). b ++ flat_map spelling (renumbered from m.numbers)) s.spelled
          ∙ sym (flat_map-append spelling s.read (renumbered from m.numbers))
          ∙ ap (flat_map spelling) (sym new);
      differs = λ same. differs.0 (append_cancel_left s.read (renumbered from m.numbers) m.numbers (sym new ∙ same));
      following = m.following ∙ sym (ap (λ (n : ℕ). drop n decisions) (length-append s.read m.numbers) ∙ s.following (length m.numbers));
      some = s.same m.numbers ∙ differs.1;
    }

-- ---- the field

left_packed : (tag : Number) (width : ℕ) (bytes : List ℕ) (decisions : List (Option ℕ)) (numbers new : List Number) (made : List ℕ)
    → (numbers ≡ [] → ⊥) → AllByRecursion IsNumber new → made ≡ flat_map spelling new → with_bytes tag width made ≡ with_left (packed_field tag width bytes) numbers new
left_packed tag width bytes decisions [] new made some valid e = absurd (some refl)
left_packed tag width bytes decisions (number ∷ more) [] made some valid e = ap (with_bytes tag width) e
left_packed tag width bytes decisions (number ∷ more) (first ∷ others) [] some valid e =
    absurd (omega (arith, ap length e, length-append (spelling first) (flat_map spelling others), length-spell first.value first.width, spelling_some first.value first.width valid.0))
left_packed tag width bytes decisions (number ∷ more) (first ∷ others) (byte ∷ rest) some valid e =
    ap (λ (b : List ℕ). packed_field tag width b ∷ []) e

some_numbers : (decisions : List (Option ℕ)) (numbers : List Number) → renumbered decisions numbers ≢ numbers → numbers ≡ [] → ⊥
some_numbers decisions [] differs e = differs (renumbered-none decisions)
some_numbers decisions (number ∷ more) differs e = absurd (cc)

pub changed_left : (tag : Number) (width : ℕ) (bytes : List ℕ) (decisions : List (Option ℕ)) (made : List ℕ) (left : List (Option ℕ)) → IsChanged bytes decisions made left
    → with_bytes tag width made ≡ with_left (packed_field tag width bytes) (unwrap_or (packed_numbers bytes) []) (renumbered decisions (unwrap_or (packed_numbers bytes) []))
changed_left tag width bytes decisions made left m =
    left_packed tag width bytes decisions m.numbers (renumbered decisions m.numbers) made (some_numbers decisions m.numbers m.differs) m.valid m.spelled
    ∙ ap (λ (o : Option (List Number)). with_left (packed_field tag width bytes) (unwrap_or o []) (renumbered decisions (unwrap_or o []))) (sym m.good)

pub changed_after : (bytes : List ℕ) (decisions : List (Option ℕ)) (made : List ℕ) (left : List (Option ℕ)) → IsChanged bytes decisions made left → left ≡ drop (length (unwrap_or (packed_numbers bytes) [])) decisions
changed_after bytes decisions made left m = m.following ∙ ap (λ (o : Option (List Number)). drop (length (unwrap_or o [])) decisions) (sym m.good)

pub changed_some : (bytes : List ℕ) (decisions : List (Option ℕ)) (made : List ℕ) (left : List (Option ℕ)) → IsChanged bytes decisions made left → some_changed decisions (unwrap_or (packed_numbers bytes) []) ≡ true
changed_some bytes decisions made left m = ap (λ (o : Option (List Number)). some_changed decisions (unwrap_or o [])) m.good ∙ m.some

changed_bytes : (bytes : List ℕ) (decisions : List (Option ℕ)) (made : List ℕ) (left : List (Option ℕ)) → IsChanged bytes decisions made left → made ≢ bytes
changed_bytes bytes decisions made left m same =
    let read : packed_numbers made ≡ Some (renumbered decisions m.numbers) = ap packed_numbers m.spelled ∙ packed-spellings (renumbered decisions m.numbers) m.valid in
    let both : Some (renumbered decisions m.numbers) ≡ Some m.numbers = sym read ∙ ap packed_numbers same ∙ m.good in
    let equal : renumbered decisions m.numbers ≡ m.numbers = cc in
    m.differs equal

abbrev content_of : Field → List ℕ
content_of field = elim field.body [ Spelled number ↦ [] | Eight bytes ↦ [] | Four bytes ↦ [] | Delimited width bytes ↦ bytes | Group bytes ↦ [] ]

pub changed_field : (tag : Number) (width : ℕ) (bytes : List ℕ) (decisions : List (Option ℕ)) (made : List ℕ) (left : List (Option ℕ)) (fate : Fate program.FieldParts)
    → IsChanged bytes decisions made left → left_of_fate field_of (packed_field tag width bytes) fate ≡ with_bytes tag width made → IsChange field_of (packed_field tag width bytes) fate
changed_field tag width bytes decisions made left Stays m e = tt
changed_field tag width bytes decisions made left Goes m e = tt
changed_field tag width bytes decisions [] left (Becomes other) m e = absurd (cc)
changed_field tag width bytes decisions (byte ∷ rest) left (Becomes other) m e =
    λ same.
    let made : field_of other ≡ packed_field tag width (byte ∷ rest) = cc in
    let equal : byte ∷ rest ≡ bytes = ap content_of (sym made ∙ same) in
    changed_bytes bytes decisions (byte ∷ rest) left m equal
