use Rattle.std.proofs.Common.{rules, codes}
use Rattle.tile_command_line.proofs.NumberOption.{awaits_begun}
use Rattle.tile_command_line.proofs.command_line.named.Goals as goal

pub returns : goal.returns
returns c = awaits_begun (codes "depth") c.after_long_help.result (search rules) (search rules) (search rules)
