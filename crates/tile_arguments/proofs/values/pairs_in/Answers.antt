use Rattle.std.proofs.Common.{ap, ◌∙◌}
use Rattle.std.specs.Result.{result_ok}
use Rattle.tile_arguments.specs.Arguments.{pairs_in}
use Rattle.tile_arguments.proofs.values.pairs_in.Goals as goal

pub returns : goal.returns
unfolding pairs_in
returns g c = c.ok.ensures.value ∙ ap result_ok c.from_hex.ensures
