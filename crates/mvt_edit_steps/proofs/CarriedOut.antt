-- The splices of fates: what they make of the list, what they take out and put, and that each finds its items.
use Rattle.std.proofs.Common.{◌≡◌, ℕ, suc, ◌+◌, ◌≤◌, ◌==◌, List, [], ◌∷◌, ◌++◌, length, length-append, map, take, drop, filter, append_assoc, map-id, refl, sym, ap, ◌∙◌, subst, inl, inr, arith}
use Rattle.std.proofs.lemmas.Bool.{cases_Bool, eqb-true}
use Rattle.std.proofs.lemmas.List.{append-nil, take_at, drop_at, drop-drop}
use Rattle.std.specs.List.{flat_map}
use Rattle.mvt_document.specs.Splicing.{part, splice}
use Rattle.mvt_document.specs.Lists.{HasPart}
use Rattle.mvt_renumber.specs.Fates.{changes, left_of_fate}
use Rattle.mvt_edit_steps.specs.Fates.{Splice, and_splices, splices_from, splices_of}
use Rattle.mvt_renumber.specs.declared.fate.Fate.{Fate}
use Rattle.mvt_renumber.specs.declared.fate.Fate.TheVariants.{Stays, Goes, Becomes}

-- ---- splices, one after the other

-- the list after all splices
abbrev pub spliced_all : {A : Type 0} → List (Splice A) → List A → List A
spliced_all [] items = items
spliced_all (s ∷ splices) items = spliced_all splices (splice s.index s.taken s.put items)

-- what they take out, in order
abbrev pub taken_all : {A : Type 0} → List (Splice A) → List A → List A
taken_all [] items = []
taken_all (s ∷ splices) items = part s.index s.taken items ++ taken_all splices (splice s.index s.taken s.put items)

-- what they put, in order
abbrev pub put_all : {A : Type 0} → List (Splice A) → List A
put_all [] = []
put_all (s ∷ splices) = s.put ++ put_all splices

-- each finds its items
abbrev pub AreThere : {A : Type 0} → List (Splice A) → List A → Type 0
AreThere [] items = Unit {0}
AreThere (s ∷ splices) items = HasPart s.index s.taken items × AreThere splices (splice s.index s.taken s.put items)

-- ---- a splice after a prefix of a list

drop_after : {A : Type 0} (front ys : List A) (n t : ℕ) → length front ≡ n → drop (n + t) (front ++ ys) ≡ drop t ys
drop_after front ys n t e = sym (drop-drop t n (front ++ ys)) ∙ ap (drop t) (drop_at front ys n e)

spliced_after : {A : Type 0} (front ys put : List A) (n t : ℕ) → length front ≡ n → splice n t put (front ++ ys) ≡ front ++ put ++ drop t ys
spliced_after front ys put n t e =
    ap (λ y. y ++ put ++ drop (n + t) (front ++ ys)) (take_at front ys n e) ∙ ap (λ y. front ++ put ++ y) (drop_after front ys n t e)

part_after : {A : Type 0} (front ys : List A) (n t : ℕ) → length front ≡ n → part n t (front ++ ys) ≡ take t ys
part_after front ys n t e = ap (take t) (drop_at front ys n e)

module _ {A : Type 0} (n : ℕ) (front : List A) (x : A) (xs left : List A) (e : length front ≡ n) where
  -- the splice of one item
  abbrev alone : Splice A
  alone = record { index = n; taken = 1; put = left }

  long : length (front ++ left) ≡ n + length left
  long = length-append front left ∙ ap (λ m. m + length left) e

  alone_makes : splice n 1 left (front ++ x ∷ xs) ≡ (front ++ left) ++ xs
  alone_makes = spliced_after front (x ∷ xs) left n 1 e

  joined_makes : (t : ℕ) (put : List A) → splice n (1 + t) (left ++ put) (front ++ x ∷ xs) ≡ splice (n + length left) t put ((front ++ left) ++ xs)
  joined_makes t put =
      let more : 1 + t ≡ suc t = omega arith in
      spliced_after front (x ∷ xs) (left ++ put) n (1 + t) e
      ∙ ap (λ m. front ++ (left ++ put) ++ drop m (x ∷ xs)) more
      ∙ ap (λ y. y ++ drop t xs) (sym (append_assoc front left put))
      ∙ sym (spliced_after (front ++ left) xs put (n + length left) t long)

  joined_takes : (t : ℕ) → part n (1 + t) (front ++ x ∷ xs) ≡ x ∷ part (n + length left) t ((front ++ left) ++ xs)
  joined_takes t =
      let more : 1 + t ≡ suc t = omega arith in
      part_after front (x ∷ xs) n (1 + t) e ∙ ap (λ m. take m (x ∷ xs)) more ∙ ap (λ y. x ∷ y) (sym (part_after (front ++ left) xs (n + length left) t long))

  whole_long : length (front ++ x ∷ xs) ≡ n + suc (length xs)
  whole_long = length-append front (x ∷ xs) ∙ ap (λ m. m + suc (length xs)) e

  rest_long : length ((front ++ left) ++ xs) ≡ n + length left + length xs
  rest_long = length-append (front ++ left) xs ∙ ap (λ m. m + length xs) long

  and_makes : (splices : List (Splice A)) → spliced_all (and_splices alone splices) (front ++ x ∷ xs) ≡ spliced_all splices ((front ++ left) ++ xs)
  and_makes [] = alone_makes
  and_makes (next ∷ splices) =
      elim (cases_Bool (next.index == n + length left)) [
        | inl joins ↦ rw joins (ap (spliced_all splices) (joined_makes next.taken next.put ∙ ap (λ m. splice m next.taken next.put ((front ++ left) ++ xs)) (sym (eqb-true next.index (n + length left) joins))))
        | inr apart ↦ rw apart (ap (λ y. spliced_all splices (splice next.index next.taken next.put y)) alone_makes)
      ]

  and_takes : (splices : List (Splice A)) → taken_all (and_splices alone splices) (front ++ x ∷ xs) ≡ x ∷ taken_all splices ((front ++ left) ++ xs)
  and_takes [] = ap (λ y. y ++ []) (part_after front (x ∷ xs) n 1 e)
  and_takes (next ∷ splices) =
      let at = eqb-true next.index (n + length left) in
      elim (cases_Bool (next.index == n + length left)) [
        | inl joins ↦ rw joins (
            ap (λ y. y ++ taken_all splices (splice n (1 + next.taken) (left ++ next.put) (front ++ x ∷ xs))) (joined_takes next.taken ∙ ap (λ m. x ∷ part m next.taken ((front ++ left) ++ xs)) (sym (at joins)))
            ∙ ap (λ y. x ∷ part next.index next.taken ((front ++ left) ++ xs) ++ taken_all splices y) (joined_makes next.taken next.put ∙ ap (λ m. splice m next.taken next.put ((front ++ left) ++ xs)) (sym (at joins)))
            )
        | inr apart ↦ rw apart (
            ap (λ y. y ++ taken_all (next ∷ splices) (splice n 1 left (front ++ x ∷ xs))) (part_after front (x ∷ xs) n 1 e)
            ∙ ap (λ y. x ∷ taken_all (next ∷ splices) y) alone_makes
            )
      ]

  and_there : (splices : List (Splice A)) → AreThere splices ((front ++ left) ++ xs) → AreThere (and_splices alone splices) (front ++ x ∷ xs)
  and_there [] there = (omega (arith, whole_long), tt)
  and_there (next ∷ splices) there =
      let at = eqb-true next.index (n + length left) in
      elim (cases_Bool (next.index == n + length left)) [
        | inl joins ↦ rw joins (
          (let has = there.0 in omega (arith, whole_long, rest_long, has, at joins)),
          subst (AreThere splices) (sym (joined_makes next.taken next.put ∙ ap (λ m. splice m next.taken next.put ((front ++ left) ++ xs)) (sym (at joins)))) there.1,
        )
        | inr apart ↦ rw apart (omega (arith, whole_long), subst (AreThere (next ∷ splices)) (sym alone_makes) there)
      ]

and_puts : {A : Type 0} (s : Splice A) (splices : List (Splice A)) → put_all (and_splices s splices) ≡ s.put ++ put_all splices
and_puts s [] = refl
and_puts s (next ∷ splices) =
    elim (cases_Bool (next.index == s.index + length s.put)) [
      | inl joins ↦ rw joins (append_assoc s.put next.put (put_all splices))
      | inr apart ↦ rw apart refl
    ]

and_few : {A : Type 0} (s : Splice A) (splices : List (Splice A)) → length (and_splices s splices) ≤ suc (length splices)
and_few s [] = omega arith
and_few s (next ∷ splices) =
    elim (cases_Bool (next.index == s.index + length s.put)) [ inl joins ↦ rw joins (omega arith) | inr apart ↦ rw apart (omega arith) ]

-- ---- the items of a list, with what becomes of each

-- what comes in place of an item
abbrev pub new_in : {A : Type 0} → Fate A → List A
new_in Stays = []
new_in Goes = []
new_in (Becomes item) = item ∷ []

-- what the splices of these fates do to the items of a list
pub record CarriesOut {A : Type 0} (fates : List (Fate A)) (items left taken put : List A) : Type 0 where
  pub leaves : spliced_all (splices_of fates) items ≡ left
  pub takes : taken_all (splices_of fates) items ≡ taken
  pub puts : put_all (splices_of fates) ≡ put
  pub there : AreThere (splices_of fates) items
  pub few : length (splices_of fates) ≤ length taken

-- each item is that of a value, by which its fate is planned
module _ {P A : Type 0} (item : P → A) (plan : P → Fate A) where
  -- what is left of the items, what is taken out, and what comes in their place
  abbrev pub left_in : List P → List A
  left_in ps = flat_map (λ p. left_of_fate (λ y. y) (item p) (plan p)) ps

  abbrev pub taken_in : List P → List A
  taken_in ps = map item (filter (λ p. changes (plan p)) ps)

  abbrev pub put_in : List P → List A
  put_in ps = flat_map (λ p. new_in (plan p)) ps

  -- the splices of the items from an index on
  record CarriesFrom (n : ℕ) (front : List A) (ps : List P) : Type 0 where
    pub leaves : spliced_all (splices_from n (map plan ps)) (front ++ map item ps) ≡ front ++ left_in ps
    pub takes : taken_all (splices_from n (map plan ps)) (front ++ map item ps) ≡ taken_in ps
    pub puts : put_all (splices_from n (map plan ps)) ≡ put_in ps
    pub there : AreThere (splices_from n (map plan ps)) (front ++ map item ps)
    pub few : length (splices_from n (map plan ps)) ≤ length (taken_in ps)

  carries_first : (n : ℕ) (front : List A) (p : P) (ps : List P) → length front ≡ n → ((m : ℕ) (before : List A) → length before ≡ m → CarriesFrom m before ps) → (fate : Fate A) → plan p ≡ fate → CarriesFrom n front (p ∷ ps)
  carries_first n front p ps e others Stays is =
      let x = item p in
      let xs = map item ps in
      let longer : length (front ++ x ∷ []) ≡ n + 1 = length-append front (x ∷ []) ∙ ap (λ m. m + 1) e in
      let more = others (n + 1) (front ++ x ∷ []) longer in
      let same : (front ++ x ∷ []) ++ xs ≡ front ++ x ∷ xs = append_assoc front (x ∷ []) xs in
      let few = more.few in
      record {
        leaves = rw is (ap (spliced_all (splices_from (n + 1) (map plan ps))) (sym same) ∙ more.leaves ∙ append_assoc front (x ∷ []) (left_in ps));
        takes = rw is (ap (taken_all (splices_from (n + 1) (map plan ps))) (sym same) ∙ more.takes);
        puts = rw is more.puts;
        there = rw is (subst (AreThere (splices_from (n + 1) (map plan ps))) same more.there);
        few = rw is (omega arith);
      }
  carries_first n front p ps e others Goes is =
      let x = item p in
      let xs = map item ps in
      let rest = splices_from n (map plan ps) in
      let same : (front ++ []) ++ xs ≡ front ++ xs = ap (λ y. y ++ xs) (append-nil front) in
      let more = others n front e in
      let few = more.few in
      record {
        leaves = rw is (and_makes n front x xs [] e rest ∙ ap (spliced_all rest) same ∙ more.leaves);
        takes = rw is (and_takes n front x xs [] e rest ∙ ap (λ y. x ∷ taken_all rest y) same ∙ ap (λ y. x ∷ y) more.takes);
        puts = rw is (and_puts (record { index = n; taken = 1; put = [] }) rest ∙ more.puts);
        there = rw is (and_there n front x xs [] e rest (subst (AreThere rest) (sym same) more.there));
        few = rw is (omega (arith, and_few (record { index = n; taken = 1; put = [] }) rest));
      }
  carries_first n front p ps e others (Becomes other) is =
      let x = item p in
      let xs = map item ps in
      let rest = splices_from (n + 1) (map plan ps) in
      let longer : length (front ++ other ∷ []) ≡ n + 1 = length-append front (other ∷ []) ∙ ap (λ m. m + 1) e in
      let more = others (n + 1) (front ++ other ∷ []) longer in
      let few = more.few in
      record {
        leaves = rw is (and_makes n front x xs (other ∷ []) e rest ∙ more.leaves ∙ append_assoc front (other ∷ []) (left_in ps));
        takes = rw is (and_takes n front x xs (other ∷ []) e rest ∙ ap (λ y. x ∷ y) more.takes);
        puts = rw is (and_puts (record { index = n; taken = 1; put = other ∷ [] }) rest ∙ ap (λ y. other ∷ y) more.puts);
        there = rw is (and_there n front x xs (other ∷ []) e rest more.there);
        few = rw is (omega (arith, and_few (record { index = n; taken = 1; put = other ∷ [] }) rest));
      }

  carries_from : (n : ℕ) (front : List A) (ps : List P) → length front ≡ n → CarriesFrom n front ps
  carries_from n front [] e = record { leaves = refl; takes = refl; puts = refl; there = tt; few = omega arith }
  carries_from n front (p ∷ ps) e = carries_first n front p ps e (λ m before long. carries_from m before ps long) (plan p) refl

  -- for the whole list, whose items are those of these values
  pub carries_beside : (ps : List P) → CarriesOut (map plan ps) (map item ps) (left_in ps) (taken_in ps) (put_in ps)
  carries_beside ps =
      let all = carries_from 0 [] ps refl in
      record { leaves = all.leaves; takes = all.takes; puts = all.puts; there = all.there; few = all.few }

-- where the fate of each item is planned by the item itself
pub carries_out : {A : Type 0} (plan : A → Fate A) (items : List A) → CarriesOut (map plan items) items (flat_map (λ x. left_of_fate (λ y. y) x (plan x)) items) (filter (λ x. changes (plan x)) items) (flat_map (λ x. new_in (plan x)) items)
carries_out plan items =
    let same = map-id items in
    let gone = map-id (filter (λ x. changes (plan x)) items) in
    let all = carries_beside (λ x. x) plan items in
    let few = all.few in
    record {
      leaves = ap (spliced_all (splices_of (map plan items))) (sym same) ∙ all.leaves;
      takes = ap (taken_all (splices_of (map plan items))) (sym same) ∙ all.takes ∙ gone;
      puts = all.puts;
      there = subst (AreThere (splices_of (map plan items))) same all.there;
      few = omega (arith, ap length gone);
    }
