-- A walk that has come this far can pass one more item.
use Rattle.std.proofs.Common.{◌≡◌, ℕ, ◌+◌, ◌^◌, ◌<◌, ◌≤◌, Option, Some, None, List, length, arith}
use Rattle.std.specs.Option.{IfSome}
use Rattle.mvt_change.specs.Changes as plain
use Rattle.mvt_change.specs.declared.change.Step.{Step}
use Rattle.mvt_edit_steps.specs.Fates.{Splice}
use Rattle.mvt_edit_steps.specs.declared.fates.Run.{Run}
use Rattle.mvt_edit_steps.specs.declared.fates.Walk.{Walk}
use Rattle.mvt_renumber.specs.declared.fate.Fate.{Fate}
use Rattle.mvt_edit_steps.proofs.Following.{SoFar}

one_further : {T : Type 0} (last : Option (Run T)) (at index : ℕ) → IfSome last (λ run. run.index + length run.put.items ≡ at) → IfSome last (λ run. run.take ≤ index) → index + 1 < 2 ^ 64 → IfSome last (λ run. (run.index + length run.put.items ≡ at) × (run.take + 1 < 2 ^ 64))
one_further None at index ends taken within = tt
one_further (Some run) at index ends taken within = (ends, omega arith)

pub can_pass : {X T : Type 0} {answered : List X → List (Fate T) → Type 0} {items : List X} {means : (Splice T → plain.Step) → Type 0} {given steps : List Step} {walk : Walk T} {index : ℕ} (kept : SoFar answered items means given steps walk index) → index + 1 < 2 ^ 64 → IfSome walk.last (λ run. (run.index + length run.put.items ≡ walk.at) × (run.take + 1 < 2 ^ 64))
can_pass {walk = walk} {index = index} kept within = one_further walk.last walk.at index kept.ends kept.taken within
