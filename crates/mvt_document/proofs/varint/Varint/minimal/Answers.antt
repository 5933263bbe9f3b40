use Rattle.std.proofs.Common.{◌*◌, ◌^◌, ◌<◌, sym, subst, arith}
use Rattle.mvt_document.proofs.Spelling.{minimal_width_holds, minimal_width_least}
use Rattle.mvt_document.proofs.varint.Varint.minimal.Goals as goal

pub returns-clause-enough : goal.returns-clause-enough
returns-clause-enough c =
    subst (λ n. c.args.value < 2 ^ (7 * n)) (sym c.least_width.ensures.width) (minimal_width_holds c.args.value (omega arith))

pub returns-clause-least : goal.returns-clause-least
returns-clause-least c = λ width some h. omega (arith, c.least_width.ensures.width, minimal_width_least c.args.value width some h)
