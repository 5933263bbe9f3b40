-- Items that a test picks go, in a list of the program and in that of its plain values.
use Rattle.std.proofs.Common.{◌≡◌, ◌≤◌, Bool, true, false, not, List, [], ◌∷◌, length, map, filter, suc, refl, ap, ◌∙◌, subst, inl, inr}
use Rattle.std.proofs.lemmas.Bool.{cases_Bool}
use Rattle.std.specs.List.{AllZip, flat_map}
use Rattle.mvt_renumber.specs.Fates.{changes, fate_seen, left_of_fate}
use Rattle.mvt_edit_steps.specs.Fates.{Splice, goes_if, splices_of}
use Rattle.mvt_renumber.specs.declared.fate.Fate.{Fate}
use Rattle.mvt_edit_steps.proofs.CarriedOut.{spliced_all, taken_all, put_all, AreThere, carries_out, new_in}
use Rattle.mvt_edit_steps.proofs.Planned.{count_planned, splices_planned}
pub use Rattle.mvt_edit_steps.specs.Fates.{seen}

-- the splices of the items that go
abbrev pub out : {A : Type 0} → (A → Bool) → List A → List (Splice A)
out goes items = splices_of (map (λ x. goes_if (goes x)) items)

-- ---- what they make of the list

module _ {A : Type 0} (goes : A → Bool) where
  left_filtered : (xs : List A) → flat_map (λ x. left_of_fate (λ y. y) x (goes_if (goes x))) xs ≡ filter (λ x. not (goes x)) xs
  left_filtered [] = refl
  left_filtered (x ∷ xs) = elim (cases_Bool (goes x)) [ inl gone ↦ rw gone (left_filtered xs) | inr stays ↦ rw stays (ap (λ ys. x ∷ ys) (left_filtered xs)) ]

  none_new : (xs : List A) → flat_map (λ x. new_in (goes_if {A = A} (goes x))) xs ≡ []
  none_new [] = refl
  none_new (x ∷ xs) = elim (cases_Bool (goes x)) [ inl gone ↦ rw gone (none_new xs) | inr stays ↦ rw stays (none_new xs) ]

  gone_filtered : (xs : List A) → filter (λ x. changes (goes_if {A = A} (goes x))) xs ≡ filter goes xs
  gone_filtered [] = refl
  gone_filtered (x ∷ xs) = elim (cases_Bool (goes x)) [ inl gone ↦ rw gone (ap (λ ys. x ∷ ys) (gone_filtered xs)) | inr stays ↦ rw stays (gone_filtered xs) ]

-- what is left of the list, and what goes
pub record TakesOut {A : Type 0} (goes : A → Bool) (items : List A) : Type 0 where
  pub leaves : spliced_all (out goes items) items ≡ filter (λ x. not (goes x)) items
  pub takes : taken_all (out goes items) items ≡ filter goes items
  pub puts : put_all (out goes items) ≡ []
  pub there : AreThere (out goes items) items
  pub few : length (out goes items) ≤ length (filter goes items)

pub takes_out : {A : Type 0} (goes : A → Bool) (items : List A) → TakesOut goes items
takes_out goes items =
    let all = carries_out (λ x. goes_if (goes x)) items in
    record {
      leaves = all.leaves ∙ left_filtered goes items;
      takes = all.takes ∙ gone_filtered goes items;
      puts = all.puts ∙ none_new goes items;
      there = all.there;
      few = subst (λ gone. length (out goes items) ≤ length gone) (gone_filtered goes items) all.few;
    }

-- ---- as the program sees them

pub goes_seen : {T A : Type 0} (view : T → A) (picked : Bool) → fate_seen view (goes_if picked) ≡ goes_if picked
goes_seen view true = refl
goes_seen view false = refl

module _ {T A : Type 0} (view : T → A) (goes : A → Bool) (answers : T → Fate T → Type 0) (each : (x : T) (fate : Fate T) → answers x fate → fate ≡ goes_if (goes (view x))) where
  each_seen : (x : T) (fate : Fate T) → answers x fate → fate_seen view fate ≡ goes_if (goes (view x))
  each_seen x fate says = ap (fate_seen view) (each x fate says) ∙ goes_seen view (goes (view x))

  -- the splices that the program makes are those of the plain values
  pub out_seen : (xs : List T) (fates : List (Fate T)) → AllZip answers xs fates → map (seen view) (splices_of fates) ≡ out goes (map view xs)
  out_seen xs fates all = splices_planned view (λ y. goes_if (goes y)) answers each_seen xs fates all

  changes_picked : (ys : List A) → length (filter changes (map (λ y. goes_if {A = A} (goes y)) ys)) ≡ length (filter goes ys)
  changes_picked [] = refl
  changes_picked (y ∷ ys) = elim (cases_Bool (goes y)) [ inl gone ↦ rw gone (ap (λ n. suc n) (changes_picked ys)) | inr stays ↦ rw stays (changes_picked ys) ]

  -- and as many items change as go
  pub count_seen : (xs : List T) (fates : List (Fate T)) → AllZip answers xs fates → length (filter changes fates) ≡ length (filter goes (map view xs))
  count_seen xs fates all = count_planned view (λ y. goes_if (goes y)) answers each_seen xs fates all ∙ changes_picked (map view xs)
