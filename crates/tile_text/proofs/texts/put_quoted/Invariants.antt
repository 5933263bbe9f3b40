use Rattle.std.proofs.Common.{◌≡◌, ◌++◌, ◌∷◌, length}
use Rattle.std.specs.List.{flat_map}
use Rattle.tile_text.specs.Extends.{Extends}
use Rattle.tile_text.specs.Texts.{quoted_byte}
use Rattle.tile_text.proofs.texts.put_quoted.Given as goal

abbrev pub invariant-loop-rest : goal.invariant-loop-rest
invariant-loop-rest l = record {
  kept : Extends l.fn.line.items l.line.items;
  whole : l.line.items ++ flat_map quoted_byte l.rest ≡ l.fn.line.items ++ 34 ∷ flat_map quoted_byte l.text;
}

abbrev pub decreases-loop-rest : goal.decreases-loop-rest
decreases-loop-rest l = length l.rest
