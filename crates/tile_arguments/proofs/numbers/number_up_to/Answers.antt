use Rattle.std.proofs.Common.{sym, arith}
use Rattle.tile_arguments.proofs.Digits.{within_limit, past_limit, no_number_up_to}
use Rattle.tile_arguments.proofs.numbers.number_up_to.Goals as goal

pub returns-in-Ok-clause-value : goal.returns-in-Ok-clause-value
returns-in-Ok-clause-value c = sym (within_limit c.args.most c.args.digits.now c.in-Ok.value (sym c.in-Ok.ensures) (omega arith))

pub returns-in_default-clause-value : goal.returns-in_default-clause-value
returns-in_default-clause-value c = sym (past_limit c.args.most c.args.digits.now c.in-Ok.value (sym c.in-Ok.ensures) (omega arith))

pub returns-in_default-2-clause-value : goal.returns-in_default-2-clause-value
returns-in_default-2-clause-value c = sym (no_number_up_to c.args.most c.args.digits.now _ (omega (arith, c.ranges.most.fits)) (sym c.in_default.ensures))
