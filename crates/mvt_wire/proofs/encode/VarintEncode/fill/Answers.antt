use Rattle.std.proofs.Common.{arith}
use Rattle.mvt_document.proofs.Spelling.{minimal_width_some, length-spell}
use Rattle.mvt_wire.proofs.encode.VarintEncode.fill.Goals as goal

pub put_number-requires-clause-some : goal.put_number-requires-clause-some
put_number-requires-clause-some c = let wide = c.args.self.now.spelled.wide in omega (arith, minimal_width_some)

pub put_number-requires-clause-fits : goal.put_number-requires-clause-fits
put_number-requires-clause-fits c = rw length-spell at c.requires
