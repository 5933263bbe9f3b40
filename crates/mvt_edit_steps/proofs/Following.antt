-- The splices of the fates so far, and of those that follow.
use Rattle.std.proofs.Common.{◌≡◌, ℕ, ◌+◌, ◌^◌, ◌<◌, ◌≤◌, ◌==◌, false, cond, Option, Some, None, List, [], ◌∷◌, ◌++◌, length, length-append, map, filter, take, get_or, option_map, slice_get, refl, ap, ◌∙◌, sym, subst, inl, inr, arith, append_assoc}
use Rattle.std.proofs.lemmas.Bool.{cases_Bool, ne_eqb}
use Rattle.std.proofs.lemmas.List.{append-nil, map-append, take_all, take_more}
use Rattle.std.proofs.lemmas.List.Elements.{filter-append}
use Rattle.std.specs.List.{AllZip, cons_option}
use Rattle.std.specs.Option.{IfSome}
use Rattle.std.proofs.lemmas.Slice.Zip.{all_zipped_more}
use Rattle.mvt_change.specs.Changes as plain
use Rattle.mvt_change.specs.ChangeStands.{step_of}
use Rattle.mvt_change.specs.declared.change.Step.{Step}
use Rattle.mvt_renumber.specs.Fates.{changes}
use Rattle.mvt_edit_steps.specs.Fates.{Splice, and_last, and_splices, splice_of, splices_from, steps_then}
use Rattle.mvt_edit_steps.specs.declared.fates.Run.{Run}
use Rattle.mvt_edit_steps.specs.declared.fates.Walk.{Walk}
use Rattle.mvt_renumber.specs.declared.fate.Fate.{Fate}
use Rattle.mvt_renumber.specs.declared.fate.Fate.TheVariants.{Stays, Goes, Becomes}

-- ---- a run that is complete

first_is : {A : Type 0} (s : Splice A) (splices : List (Splice A)) → IfSome (slice_get (and_splices s splices) 0) (λ first. s.index ≤ first.index)
first_is s [] = omega arith
first_is s (next ∷ splices) =
    elim (cases_Bool (next.index == s.index + length s.put)) [ inl joins ↦ rw joins (omega arith) | inr apart ↦ rw apart (omega arith) ]

some_lower : {A : Type 0} (n : ℕ) (found : Option (Splice A)) → IfSome found (λ s. n + 1 ≤ s.index) → IfSome found (λ s. n ≤ s.index)
some_lower n None above = tt
some_lower n (Some s) above = omega arith

begins : {A : Type 0} (n : ℕ) (fates : List (Fate A)) → IfSome (slice_get (splices_from n fates) 0) (λ s. n ≤ s.index)
begins n [] = tt
begins n (Stays ∷ fates) = some_lower n (slice_get (splices_from (n + 1) fates) 0) (begins (n + 1) fates)
begins n (Goes ∷ fates) = first_is (record { index = n; taken = 1; put = [] }) (splices_from n fates)
begins n (Becomes item ∷ fates) = first_is (record { index = n; taken = 1; put = item ∷ [] }) (splices_from (n + 1) fates)

apart_from : {A : Type 0} (s : Splice A) (splices : List (Splice A)) → IfSome (slice_get splices 0) (λ next. s.index + length s.put < next.index) → and_splices s splices ≡ s ∷ splices
apart_from s [] above = refl
apart_from s (next ∷ splices) above = let no : (next.index == s.index + length s.put) ≡ false = ne_eqb next.index (s.index + length s.put) (λ e. omega (arith, e)) in rw no refl

some_past : {A : Type 0} (n : ℕ) (found : Option (Splice A)) → IfSome found (λ s. n + 1 ≤ s.index) → IfSome found (λ s. n < s.index)
some_past n None above = tt
some_past n (Some s) above = omega arith

-- the open run is complete where an item stays
pub run_whole : {T : Type 0} (last : Option (Run T)) (at : ℕ) (rest : List (Fate T)) → IfSome last (λ run. (run.index + length run.put.items ≡ at) × (run.take + 1 < 2 ^ 64)) → and_last (option_map splice_of last) (splices_from (at + 1) rest) ≡ map splice_of (cons_option last []) ++ splices_from (at + 1) rest
run_whole None at rest ends = refl
run_whole (Some run) at rest ends =
    let past = some_past at (slice_get (splices_from (at + 1) rest) 0) (begins (at + 1) rest) in
    apart_from (splice_of run) (splices_from (at + 1) rest) (subst (λ n. IfSome (slice_get (splices_from (at + 1) rest) 0) (λ next. n < next.index)) (sym ends.0) past)

-- ---- one more fate

-- what was answered for each of the items so far
pub one_more_answered : {T B : Type 0} (answers : T → B → Type 0) (items : List T) (index : ℕ) (x : T) (fates : List B) (fate : B) → index < length items → x ≡ get_or items index x → AllZip answers (take index items) fates → answers x fate → AllZip answers (take (index + 1) items) (fates ++ fate ∷ [])
one_more_answered answers items index x fates fate within is answered says =
    subst (λ all. AllZip answers all (fates ++ fate ∷ [])) (sym (take_more items index x within ∙ ap (λ y. take index items ++ y ∷ []) (sym is))) (all_zipped_more answers (take index items) fates x fate answered says)

-- the fates of the items before the index, for which this was said, and the steps after those that were given, whichever
-- fates follow
pub record SoFar {X T : Type 0} (answered : List X → List (Fate T) → Type 0) (items : List X) (means : (Splice T → plain.Step) → Type 0) (given steps : List Step) (walk : Walk T) (index : ℕ) : Type 0 where
  pub fates : List (Fate T)
  pub said : answered (take index items) fates
  pub so_far : (step_with : Splice T → plain.Step) → means step_with → (rest : List (Fate T)) → map step_of given ++ map step_with (splices_from 0 (fates ++ rest)) ≡ steps_then step_with (map step_of steps) walk rest
  pub ends : IfSome walk.last (λ run. run.index + length run.put.items ≡ walk.at)
  pub taken : IfSome walk.last (λ run. run.take ≤ index)
  pub short : walk.at ≤ index
  pub counted : walk.changed ≡ length (filter changes fates)
  pub few : walk.changed ≤ index

-- before the first item
pub nothing_yet : {X T : Type 0} {answered : List X → List (Fate T) → Type 0} {items : List X} {means : (Splice T → plain.Step) → Type 0} {given : List Step} → answered [] [] → SoFar answered items means given given (record { last = None; at = 0; changed = 0 }) 0
nothing_yet said = record {
  fates = [];
  said = said;
  so_far = λ step_with means_so rest. refl;
  ends = tt;
  taken = tt;
  short = omega arith;
  counted = refl;
  few = omega arith;
}

counted_more : {A : Type 0} (fates : List (Fate A)) (fate : Fate A) → length (filter changes (fates ++ fate ∷ [])) ≡ length (filter changes fates) + cond (changes fate) 1 0
counted_more fates fate =
    ap length (filter-append changes fates (fate ∷ [])) ∙ length-append (filter changes fates) (filter changes (fate ∷ []))
    ∙ elim (cases_Bool (changes fate)) [ inl so ↦ rw so refl | inr not_so ↦ rw not_so refl ]

pub goes_on : {X T : Type 0} {answered answered_then : List X → List (Fate T) → Type 0} {items : List X} {means : (Splice T → plain.Step) → Type 0} {given steps : List Step} {walk : Walk T} {index : ℕ} (kept : SoFar answered items means given steps walk index) (fate : Fate T) (steps_next : List Step) (next : Walk T)
    → answered_then (take (index + 1) items) (kept.fates ++ fate ∷ [])
    → ((step_with : Splice T → plain.Step) → means step_with → (rest : List (Fate T)) → steps_then step_with (map step_of steps) walk (fate ∷ rest) ≡ steps_then step_with (map step_of steps_next) next rest)
    → IfSome next.last (λ run. run.index + length run.put.items ≡ next.at) → IfSome next.last (λ run. run.take ≤ index + 1) → next.at ≤ walk.at + 1 → next.changed ≡ walk.changed + cond (changes fate) 1 0
    → SoFar answered_then items means given steps_next next (index + 1)
goes_on {given = given} kept fate steps_next next said passes ends taken further counted =
    let short = kept.short in
    let few = kept.few in
    record {
      fates = kept.fates ++ fate ∷ [];
      said = said;
      so_far = λ step_with means_so rest.
          ap (λ all. map step_of given ++ map step_with (splices_from 0 all)) (append_assoc kept.fates (fate ∷ []) rest)
          ∙ kept.so_far step_with means_so (fate ∷ rest)
          ∙ passes step_with means_so rest;
      ends = ends;
      taken = taken;
      short = omega arith;
      counted = omega (arith, counted, kept.counted, counted_more kept.fates fate);
      few = elim (cases_Bool (changes fate)) [ inl so ↦ (let more = rw so at counted in omega arith) | inr not_so ↦ (let more = rw not_so at counted in omega arith) ];
    }

-- a run that is complete is a step after the others
pub passed : {T : Type 0} (step_with : Splice T → plain.Step) (steps steps_next : plain.Change) (whole : Option (Run T)) (walk next : Walk T) (fate : Fate T) (rest : List (Fate T))
    → and_last (option_map splice_of walk.last) (splices_from walk.at (fate ∷ rest)) ≡ map splice_of (cons_option whole []) ++ and_last (option_map splice_of next.last) (splices_from next.at rest)
    → steps_next ≡ steps ++ map step_with (map splice_of (cons_option whole []))
    → steps_then step_with steps walk (fate ∷ rest) ≡ steps_then step_with steps_next next rest
passed step_with steps steps_next whole walk next fate rest runs put =
    let then = and_last (option_map splice_of next.last) (splices_from next.at rest) in
    ap (λ splices. steps ++ map step_with splices) runs
    ∙ ap (λ more. steps ++ more) (map-append step_with (map splice_of (cons_option whole [])) then)
    ∙ sym (append_assoc steps (map step_with (map splice_of (cons_option whole []))) (map step_with then))
    ∙ ap (λ all. all ++ map step_with then) (sym put)

pub alone_last : {T : Type 0} (last : Option (Run T)) → map splice_of (cons_option last []) ≡ and_last (option_map splice_of last) []
alone_last None = refl
alone_last (Some run) = refl

-- what was said, once it is of all items
pub all_said : {X T : Type 0} {answered : List X → List (Fate T) → Type 0} {items : List X} {means : (Splice T → plain.Step) → Type 0} {given steps : List Step} {walk : Walk T} {index : ℕ} (kept : SoFar answered items means given steps walk index) → length items ≤ index → answered items kept.fates
all_said {answered = answered} {items = items} {index = index} kept all = subst (λ first. answered first kept.fates) (take_all index items all) kept.said

-- all steps, once the last run is one
pub all_steps : {X T : Type 0} {answered : List X → List (Fate T) → Type 0} {items : List X} {means : (Splice T → plain.Step) → Type 0} {given steps : List Step} {walk : Walk T} {index : ℕ} (kept : SoFar answered items means given steps walk index) (steps_next : List Step) (step_with : Splice T → plain.Step) → means step_with → map step_of steps_next ≡ steps_then step_with (map step_of steps) walk [] → map step_of steps_next ≡ map step_of given ++ map step_with (splices_from 0 kept.fates)
all_steps {given = given} kept steps_next step_with means_so ended =
    ended
    ∙ sym (kept.so_far step_with means_so [])
    ∙ ap (λ all. map step_of given ++ map step_with (splices_from 0 all)) (append-nil kept.fates)

-- where no steps were given
pub alone : {A B : Type 0} (f : A → B) (given : List A) (rest steps : List B) → given ≡ [] → steps ≡ map f given ++ rest → steps ≡ rest
alone f given rest steps none following = following ∙ ap (λ xs. map f xs ++ rest) none
