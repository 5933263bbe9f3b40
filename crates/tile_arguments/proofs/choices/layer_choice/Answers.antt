use Rattle.std.proofs.Common.{rules}
use Rattle.tile_arguments.specs.Arguments.{number_of}
use Rattle.tile_arguments.proofs.Refusals.{never_memory, number_other}
use Rattle.tile_arguments.proofs.choices.layer_choice.Goals as goal

pub returns-in_err-number-in-Some-clause-no_memory : goal.returns-in_err-number-in-Some-clause-no_memory
returns-in_err-number-in-Some-clause-no_memory c = λ memory.
    absurd (never_memory (number_of c.in-Some.digits.now) (number_other c.in-Some.digits.now) (search rules))
