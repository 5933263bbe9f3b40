-- An item that changes joins the run that is open, or begins one.
use Rattle.std.proofs.Common.{◌≡◌, ℕ, ◌+◌, ◌^◌, ◌<◌, ◌≤◌, ◌==◌, Option, Some, None, List, [], ◌∷◌, ◌++◌, length, length-append, option_map, refl, ap, ◌∙◌, sym, inl, inr, arith, append_assoc}
use Rattle.std.proofs.lemmas.Bool.{cases_Bool, eq-eqb}
use Rattle.std.proofs.lemmas.List.{append-nil}
use Rattle.std.specs.Option.{IfSome, option_map_or}
use Rattle.mvt_edit_steps.specs.Fates.{Splice, and_last, and_splices, splice_of}
use Rattle.mvt_edit_steps.specs.declared.fates.Run.{Run}

abbrev at_index : {A : Type 0} → ℕ → ℕ → List A → Splice A
at_index index taken put = record { index = index; taken = taken; put = put }

-- of three splices that follow each other it does not matter which two are taken as one first
and_both : {A : Type 0} (s : Splice A) (at : ℕ) (put : List A) (splices : List (Splice A)) → s.index + length s.put ≡ at → and_splices s (and_splices (at_index at 1 put) splices) ≡ and_splices (at_index s.index (s.taken + 1) (s.put ++ put)) splices
and_both s at put [] ends = let here = eq-eqb at (s.index + length s.put) (sym ends) in rw here refl
and_both s at put (next ∷ splices) ends =
    let here = eq-eqb at (s.index + length s.put) (sym ends) in
    let long : s.index + length (s.put ++ put) ≡ at + length put = omega (arith, length-append s.put put, ends) in
    let taken : s.taken + (1 + next.taken) ≡ (s.taken + 1) + next.taken = omega arith in
    elim (cases_Bool (next.index == at + length put)) [
      | inl joins ↦ rw (long, joins, here) (ap (λ n. at_index s.index n (s.put ++ (put ++ next.put)) ∷ splices) taken ∙ ap (λ all. at_index s.index ((s.taken + 1) + next.taken) all ∷ splices) (sym (append_assoc s.put put next.put)))
      | inr apart ↦ rw (long, apart, here) refl
    ]

-- the run that is open once this item changes
pub record IsOneMore {T : Type 0} (last : Option (Run T)) (at : ℕ) (put : List T) (run : Run T) : Type 0 where
  pub index : run.index ≡ option_map_or (λ run. run.index) last at
  pub take : run.take ≡ option_map_or (λ run. run.take + 1) last 1
  pub items : run.put.items ≡ option_map_or (λ run. run.put.items) last [] ++ put

abbrev Ends : {T : Type 0} → Option (Run T) → ℕ → Type 0
Ends last at = IfSome last (λ run. (run.index + length run.put.items ≡ at) × (run.take + 1 < 2 ^ 64))

pub one_more_runs : {T : Type 0} (last : Option (Run T)) (at : ℕ) (put : List T) (run : Run T) (splices : List (Splice T)) → Ends last at → IsOneMore last at put run → and_last (option_map splice_of last) (and_splices (at_index at 1 put) splices) ≡ and_splices (splice_of run) splices
one_more_runs None at put run splices ends is =
    ap (λ index. and_splices (at_index index 1 put) splices) (sym is.index)
    ∙ ap (λ taken. and_splices (at_index run.index taken put) splices) (sym is.take)
    ∙ ap (λ items. and_splices (at_index run.index run.take items) splices) (sym is.items)
one_more_runs (Some first) at put run splices ends is =
    and_both (splice_of first) at put splices ends.0
    ∙ ap (λ index. and_splices (at_index index (first.take + 1) (first.put.items ++ put)) splices) (sym is.index)
    ∙ ap (λ taken. and_splices (at_index run.index taken (first.put.items ++ put)) splices) (sym is.take)
    ∙ ap (λ items. and_splices (at_index run.index run.take items) splices) (sym is.items)

pub one_more_ends : {T : Type 0} (last : Option (Run T)) (at next : ℕ) (put : List T) (run : Run T) → Ends last at → IsOneMore last at put run → next ≡ at + length put → run.index + length run.put.items ≡ next
one_more_ends None at next put run ends is goes = omega (arith, is.index, ap length is.items, goes)
one_more_ends (Some first) at next put run ends is goes = omega (arith, is.index, ap length is.items, length-append first.put.items put, ends.0, goes)

pub one_more_take : {T : Type 0} (last : Option (Run T)) (at : ℕ) (put : List T) (run : Run T) → IsOneMore last at put run → (most : ℕ) → IfSome last (λ run. run.take ≤ most) → run.take ≤ most + 1
one_more_take None at put run is most few = omega (arith, is.take)
one_more_take (Some first) at put run is most few = omega (arith, is.take, few)

-- where the item goes, and where it becomes another
pub goes_more : {T : Type 0} (last : Option (Run T)) (at : ℕ) (run : Run T) → run.index ≡ option_map_or (λ run. run.index) last at → run.take ≡ option_map_or (λ run. run.take + 1) last 1 → run.put.items ≡ option_map_or (λ run. run.put.items) last [] → IsOneMore last at [] run
goes_more last at run index take items = record { index = index; take = take; items = items ∙ sym (append-nil (option_map_or (λ run. run.put.items) last [])) }

pub becomes_more : {T : Type 0} (last : Option (Run T)) (at : ℕ) (run next : Run T) (item : T) → run.index ≡ option_map_or (λ run. run.index) last at → run.take ≡ option_map_or (λ run. run.take + 1) last 1 → run.put.items ≡ option_map_or (λ run. run.put.items) last [] → next.index ≡ run.index → next.take ≡ run.take → next.put.items ≡ run.put.items ++ item ∷ [] → IsOneMore last at (item ∷ []) next
becomes_more last at run next item index take items same_index same_take put = record { index = same_index ∙ index; take = same_take ∙ take; items = put ∙ ap (λ list. list ++ item ∷ []) items }
