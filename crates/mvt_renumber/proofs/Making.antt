-- A packed body gone through number by number: those that stay, and then what is left.
use Rattle.std.proofs.Common.{◌≡◌, ℕ, suc, ◌+◌, ◌-◌, ◌≤◌, List, [], ◌∷◌, ◌++◌, length, take, drop, Option, Some, None, refl, sym, ap, ◌∙◌, subst, append_assoc, arith}
use Rattle.std.specs.Prelude.{option_map, slice_range}
use Rattle.std.specs.List.{flat_map, AllByRecursion}
use Rattle.std.proofs.lemmas.List.{append-nil, take-append-drop, take-take, drop-take, drop-drop, length-append}
use Rattle.std.proofs.lemmas.List.Concat.{flat_map-append}
use Rattle.mvt_document.specs.Plain.{Number}
use Rattle.mvt_document.specs.Wire.{spelling}
use Rattle.mvt_document.specs.Groups.{IsNumber}
use Rattle.mvt_renumber.specs.Renumbering.{renumbered, some_changed}
use Rattle.mvt_renumber.specs.Deciding.{packed_numbers, StaysBefore, IsLeft}
use Rattle.mvt_document.specs.Bodies.{number_of}
use Rattle.mvt_document.specs.declared.varint.Varint.{Varint}
use Rattle.mvt_document.proofs.EachItem.{all_joined}
use Rattle.mvt_document.proofs.Lists.{take_sum}
use Rattle.mvt_renumber.specs.Fates.{left_of_fate}
use Rattle.mvt_renumber.specs.declared.fate.Fate.{Fate}
use Rattle.mvt_renumber.specs.declared.fate.Fate.TheVariants.{Stays, Goes, Becomes}
use Rattle.mvt_renumber.proofs.Decisions.{packed-first}

-- ---- a part of bytes and the part after it

pub range_more : {A : Type 0} (from to more : ℕ) (xs : List A) → from ≤ to → slice_range xs from (to + more) ≡ slice_range xs from to ++ take more (drop to xs)
range_more from to more xs within =
    let ahead : to + more - from ≡ (to - from) + more = omega arith in
    let there : from + (to - from) ≡ to = omega arith in
    ap (λ n. take n (drop from xs)) ahead
    ∙ take_sum (to - from) more (drop from xs)
    ∙ ap (λ rest. take (to - from) (drop from xs) ++ take more rest) (drop-drop (to - from) from xs ∙ ap (λ n. drop n xs) there)

-- ---- numbers that stay

pub stays_none : (bytes : List ℕ) (decisions : List (Option ℕ)) → StaysBefore bytes decisions 0 decisions
stays_none bytes decisions = record {
  read = [];
  good = λ more e. e;
  bad = λ e. e;
  spelled = refl;
  valid = tt;
  stay = λ more. refl;
  following = λ more. ap (λ n. drop n decisions) (omega arith);
  same = λ more. refl;
}

-- one more number that stays
pub stays_more : (bytes : List ℕ) (decisions : List (Option ℕ)) (place : ℕ) (left following : List (Option ℕ)) (number : Number)
    → StaysBefore bytes decisions place left → IsNumber number → take number.width (drop place bytes) ≡ spelling number
    → ((more : List Number) → renumbered left (number ∷ more) ≡ number ∷ renumbered following more) → ((more : ℕ) → drop (more + 1) left ≡ drop more following)
    → ((more : List Number) → some_changed left (number ∷ more) ≡ some_changed following more) → StaysBefore bytes decisions (place + number.width) following
stays_more bytes decisions place left following number s valid at same dropped unchanged =
    let rest = drop place bytes in
    let first : packed_numbers rest ≡ option_map (λ (more : List Number). number ∷ more) (packed_numbers (drop (place + number.width) bytes)) =
    packed-first number rest valid at ∙ ap (λ (b : List ℕ). option_map (λ (more : List Number). number ∷ more) (packed_numbers b)) (drop-drop number.width place bytes) in
    record {
      read = s.read ++ number ∷ [];
      good = λ more e.
          s.good (number ∷ more) (first ∙ ap (option_map (λ (more : List Number). number ∷ more)) e)
          ∙ ap Some (sym (append_assoc s.read (number ∷ []) more));
      bad = λ e. s.bad (first ∙ ap (option_map (λ (more : List Number). number ∷ more)) e);
      spelled =
          take_sum place number.width bytes
          ∙ ap (λ b. b ++ take number.width rest) s.spelled
          ∙ ap (λ b. flat_map spelling s.read ++ b) (at ∙ sym (append-nil (spelling number)))
          ∙ sym (flat_map-append spelling s.read (number ∷ []));
      valid = all_joined IsNumber s.read (number ∷ []) s.valid (valid, tt);
      stay = λ more.
          ap (renumbered decisions) (append_assoc s.read (number ∷ []) more)
          ∙ s.stay (number ∷ more)
          ∙ ap (λ (list : List Number). s.read ++ list) (same more)
          ∙ sym (append_assoc s.read (number ∷ []) (renumbered following more));
      following = λ more.
          ap (λ n. drop n decisions) (omega (arith, length-append s.read (number ∷ [])))
          ∙ s.following (more + 1)
          ∙ dropped more;
      same = λ more. ap (some_changed decisions) (append_assoc s.read (number ∷ []) more) ∙ s.same (number ∷ more) ∙ unchanged more;
    }

-- ---- what is left

-- with `made` before what is left of the rest, the whole is left
pub record Makes (front bytes : List ℕ) (decisions : List (Option ℕ)) (rest : List ℕ) (left : List (Option ℕ)) (made : List ℕ) : Type 0 where
  pub good : (more : List Number) → packed_numbers rest ≡ Some more → AllByRecursion IsNumber (renumbered left more)
      → IsLeft front bytes decisions (made ++ flat_map spelling (renumbered left more)) (drop (length more) left)
  pub bad : packed_numbers rest ≡ None → packed_numbers bytes ≡ None

pub makes_none : (front bytes : List ℕ) (decisions : List (Option ℕ)) → Makes front bytes decisions bytes decisions front
makes_none front bytes decisions = record {
  good = λ more e valid. record { numbers = more; good = e; valid = valid; spelled = refl; following = refl };
  bad = λ e. e;
}

-- one more number, of which these are left
pub makes_more : (front bytes : List ℕ) (decisions : List (Option ℕ)) (rest : List ℕ) (left following : List (Option ℕ)) (made made' : List ℕ) (number : Number) (kept : List Number)
    → Makes front bytes decisions rest left made → IsNumber number → take number.width rest ≡ spelling number → AllByRecursion IsNumber kept
    → ((more : List Number) → renumbered left (number ∷ more) ≡ kept ++ renumbered following more) → ((more : ℕ) → drop (more + 1) left ≡ drop more following)
    → made' ≡ made ++ flat_map spelling kept → Makes front bytes decisions (drop number.width rest) following made'
makes_more front bytes decisions rest left following made made' number kept m valid at valid_kept decided dropped is =
    let first = packed-first number rest valid at in
    record {
      good = λ more e valid_more.
          let whole = m.good (number ∷ more) (first ∙ ap (option_map (λ (list : List Number). number ∷ list)) e)
          (subst (AllByRecursion IsNumber) (sym (decided more)) (all_joined IsNumber kept (renumbered following more) valid_kept valid_more)) in
          let spelled : made ++ flat_map spelling (renumbered left (number ∷ more)) ≡ made' ++ flat_map spelling (renumbered following more) =
          ap (λ (list : List Number). made ++ flat_map spelling list) (decided more)
          ∙ ap (λ (b : List ℕ). made ++ b) (flat_map-append spelling kept (renumbered following more))
          ∙ sym (append_assoc made (flat_map spelling kept) (flat_map spelling (renumbered following more)))
          ∙ ap (λ (b : List ℕ). b ++ flat_map spelling (renumbered following more)) (sym is) in
          let gone : drop (length (number ∷ more)) left ≡ drop (length more) following =
          ap (λ (n : ℕ). drop n left) {x = suc (length more)} (omega arith) ∙ dropped (length more) in
          subst (λ (b : List ℕ). IsLeft front bytes decisions b (drop (length more) following)) spelled
          (subst (IsLeft front bytes decisions (made ++ flat_map spelling (renumbered left (number ∷ more)))) gone whole);
      bad = λ e. m.bad (first ∙ ap (option_map (λ (list : List Number). number ∷ list)) e);
    }

-- ---- what becomes of a number

-- what is left of a number can be spelled
pub fate_valid : (number : Varint) (fate : Fate Varint) → AllByRecursion IsNumber (left_of_fate number_of (number_of number) fate)
fate_valid number Stays = (number.spelled, tt)
fate_valid number Goes = tt
fate_valid number (Becomes other) = (other.spelled, tt)
