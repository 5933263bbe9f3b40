use Rattle.std.proofs.Common.{Some, sym, ap, ◌∙◌}
use Rattle.std.specs.Result.{result_ok}
use Rattle.tile_arguments.specs.Arguments.{bytes_in}
use Rattle.tile_arguments.proofs.texts.bytes_in.Goals as goal

pub returns-in-Ok-clause-said : goal.returns-in-Ok-clause-said
unfolding bytes_in
returns-in-Ok-clause-said c = ap Some c.from_vec.ensures.items ∙ ap result_ok (sym c.in-Ok.ensures.ok)
