use Rattle.tile_lines.proofs.Cutting.{cut_lines}
use Rattle.tile_lines.proofs.laws.cuts_are_lines.Goals as goal

pub returns : goal.returns
returns c = cut_lines
