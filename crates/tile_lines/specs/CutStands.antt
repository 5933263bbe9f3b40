-- Which plain cut a cut of the program stands for.
use Rattle.tile_lines.specs.Cutting as plain
use Rattle.tile_lines.specs.declared.cutter.Cut.{Cut}
use Rattle.tile_lines.specs.declared.cutter.Cut.TheVariants.{Line, TooLong}

-- the plain cut that a cut of the program stands for
abbrev pub cut_seen : Cut → plain.Cut
cut_seen (Line line) = plain.Whole line.now
cut_seen TooLong = plain.TooLong
