use Rattle.std.proofs.Common.{◌+◌, ◌≤◌, ◌++◌, ℕ, Bool, List, take}
use Rattle.tile_device.specs.Seen.{Seen}
use Rattle.tile_lines.specs.Lines.{whole_lines}
use Rattle.tile_course.specs.Run.{Progress}
use Rattle.tile_run.specs.Steps.{ComesTo, Moment, WasGiven, moment_at}
use Rattle.tile_run.proofs.editor.Editor.carry_out_lines.Given as goal

abbrev pub invariant-loop-byte : goal.invariant-loop-byte
invariant-loop-byte g l = record {
  lines : l.self.lines ≤ l.fn.self.lines + l.byte-index;
  cutter : (before : List ℕ) → WasGiven l.fn.cutter before → WasGiven l.cutter (before ++ take l.byte-index l.bytes);
  comes : (strict : Bool) (start : Progress) (before : List ℕ) (first : Moment) (script : Seen)
      → WasGiven l.fn.cutter before
      → ComesTo strict start (whole_lines before) first (moment_at g.W.Sink script l.fn.replies l.fn.retries) l.fn.self
      → ComesTo strict start (whole_lines (before ++ take l.byte-index l.bytes)) first (moment_at g.W.Sink script l.replies l.retries) l.self;
}
