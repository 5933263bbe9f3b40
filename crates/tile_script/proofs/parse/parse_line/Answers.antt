use Rattle.std.proofs.Common.{◌≡◌, ◌≤◌, Err, true, false, ap, length, arith}
use Rattle.std.specs.Str.{is_utf8}
use Rattle.std.proofs.lemmas.Str.{IsUtf8-from_is_utf8}
use Rattle.std.proofs.lemmas.Result.{err_from_is_err_and}
use Rattle.tile_lines.specs.declared.parse_error.ParseError.TheVariants.{NoMemory}
use Rattle.tile_script.specs.Line.{is_remark}
use Rattle.tile_lines.specs.declared.TheConstants.{LINE_LIMIT}
use Rattle.tile_script.proofs.parse.parse_line.Goals as goal

pub returns-in_err-request_in-clause-no_memory : goal.returns-in_err-request_in-clause-no_memory
returns-in_err-request_in-clause-no_memory c refused =
    let short : length c.args.line.now ≤ LINE_LIMIT = omega arith in
    let text : is_utf8 c.args.line.now ≡ true = grind arith in
    let other : is_remark c.args.line.now ≡ false = grind arith in
    let p = err_from_is_err_and c.from_residual.result c.from_residual.ensures.1 in
    let is : c.in_err-request_in.field-0.0 ≡ NoMemory = cc (p.1, p.2) in
    (((short, IsUtf8-from_is_utf8 c.args.line.now text), other), c.in_err-request_in.ensures.no_memory (ap Err is))
