use Rattle.std.proofs.Common.{rules}
use Rattle.tile_arguments.specs.Arguments.{kind_of}
use Rattle.tile_arguments.proofs.Refusals.{never_memory, kind_other}
use Rattle.tile_arguments.proofs.Shaped.{parts_placed}
use Rattle.tile_arguments.proofs.geometries.new_geometry.Goals as goal

pub shaped-requires : goal.shaped-requires
shaped-requires c = parts_placed _ _ c.in_ok-parts.ensures.answer

pub returns-in_err-kind-clause-no_memory : goal.returns-in_err-kind-clause-no_memory
returns-in_err-kind-clause-no_memory c = λ memory. absurd (never_memory (kind_of c.in-Bare.name.now) (kind_other c.in-Bare.name.now) (search rules))
