use Rattle.std.proofs.Common.{◌≡◌, ℕ, List, ◌++◌, length, take, Result, Err, ap, ◌∙◌, arith, refl, inl, inr}
use Rattle.std.specs.Prelude.{vec_capacity}
use Rattle.std.specs.Result.{IsErrAnd}
use Rattle.std.proofs.lemmas.Bool.{cases_lt}
use Rattle.std.proofs.lemmas.Result.{err_from_is_err_and}
use Rattle.std.proofs.lemmas.List.{with_items_is}
use Rattle.std.proofs.lemmas.List.Folds.{flat_map-map}
use Rattle.mvt_document.specs.Fills.{Fills}
use Rattle.mvt_wire.specs.declared.faults.WriteError.{WriteError}
use Rattle.mvt_wire.specs.declared.faults.WriteError.TheVariants.{TooLarge, NoMemory}
use Rattle.mvt_wire.proofs.write.write_document_into.Goals as goal

no_memory-too_large : {T : Type 0} (r : Result T WriteError) → IsErrAnd r (λ e. e ≡ NoMemory) → r ≡ Err TooLarge → ⊥
no_memory-too_large r none same = let found = err_from_is_err_and r none in cc (found.1, found.2)

pub returns-in_default-clause-too_large : goal.returns-in_default-clause-too_large
returns-in_default-clause-too_large c = (λ e. rw flat_map-map (omega (arith, c.in_default.ensures)), λ h. refl)

pub returns-in_err-resize-clause-too_large : goal.returns-in_err-resize-clause-too_large
returns-in_err-resize-clause-too_large c = (
  λ e. absurd (no_memory-too_large c.from_residual.result c.from_residual.ensures.1 e),
  λ h. absurd (let over = rw flat_map-map at h in omega (arith, c.in-Some.ensures.0)),
)

-- a room as long as the bytes holds nothing else
whole : (old new bytes : List ℕ) (left : ℕ) → Fills old new bytes left → length old ≡ length bytes → new ≡ bytes
whole old new bytes left f same =
    let none : left ≡ 0 = omega (arith, f.counted) in
    f.written ∙ ap (λ n. take n old ++ bytes) none

pub returns-clause-bytes : goal.returns-clause-bytes
returns-clause-bytes c =
    let bytes = whole c.deref_mut.result.now c.put_all.new.room _ c.put_all.result c.put_all.ensures (rw c.as_slice.ensures (omega (arith, c.deref_mut.ensures.len, c.in_ok-resize.ensures.len, c.in-Some.ensures.1))) in
    with_items_is c.resize.new.self c.put_all.new.room (omega (arith, c.put_all.auto.room, c.deref_mut.ensures.len))
    ∙ rw (flat_map-map, ← c.as_slice.ensures) bytes

pub returns-clause-too_large : goal.returns-clause-too_large
returns-clause-too_large c = (
  λ e. absurd (cc),
  λ h. absurd (let over = rw flat_map-map at h in omega (arith, c.in-Some.ensures.0)),
)

pub returns-in_err-resize-clause-no_memory : goal.returns-in_err-resize-clause-no_memory
returns-in_err-resize-clause-no_memory c = λ e. rw flat_map-map (elim (cases_lt (vec_capacity c.args.room) c.in-Some.size) [
  | inl less ↦ omega (arith, less, c.in-Some.ensures.1)
  | inr enough ↦ absurd (let same = ap vec_capacity (c.kept_for-file.ensures.kept enough) in let full = c.in_err-resize.ensures.full in omega (arith, same, full))
])
