use Rattle.std.proofs.Common.{ℕ, ◌+◌, ◌≤◌, Bool}
use Rattle.mvt_document.specs.Plain.{Document}
use Rattle.tile_device.specs.Seen.{source_at}
use Rattle.tile_course.specs.Run.{at_first}
use Rattle.tile_run.specs.Steps.{IsAt, moment_at}
use Rattle.tile_course.specs.declared.limits.TheConstants.{MAX_SCRIPT}
use Rattle.tile_run.proofs.Reading.{SoFar}
use Rattle.tile_run.proofs.editor.Editor.carry_out_pieces.Given as goal

abbrev pub invariant-loop-count : goal.invariant-loop-count
invariant-loop-count g l = record {
  lines : l.self.lines + l.room ≤ MAX_SCRIPT;
  so_far : (strict : Bool) (document : Document) (depth : ℕ) → IsAt l.fn.self strict (at_first document depth)
      → SoFar strict (at_first document depth)
      (moment_at g.W.Sink (source_at g.R.Source l.fn.script) l.fn.replies l.fn.retries)
      (moment_at g.W.Sink (source_at g.R.Source l.script) l.replies l.retries) l.room l.self l.cutter;
}

abbrev pub decreases-loop-count : goal.decreases-loop-count
decreases-loop-count g l = l.room
