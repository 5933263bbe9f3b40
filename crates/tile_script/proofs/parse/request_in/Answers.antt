use Rattle.std.proofs.Common.{◌≡◌, ◌≤◌, Err, ap, length, map, arith}
use Rattle.std.proofs.lemmas.List.{length-map}
use Rattle.std.proofs.lemmas.Result.{err_from_is_err_and}
use Rattle.tile_lines.specs.WordStands.{word_of}
use Rattle.tile_lines.specs.declared.parse_error.ParseError.TheVariants.{NoMemory}
use Rattle.tile_script.proofs.Silent.{not_alone, several_read}
use Rattle.tile_script.proofs.parse.request_in.Goals as goal

pub returns-in_err-words-clause-no_memory : goal.returns-in_err-words-clause-no_memory
returns-in_err-words-clause-no_memory c = λ memory.
    let p = err_from_is_err_and c.from_residual.result c.from_residual.ensures.1 in
    let is : c.in_err-words.field-0.0 ≡ NoMemory = cc (p.1, p.2, memory) in
    not_alone c.args.line.now (c.in_err-words.ensures.no_memory (ap Err is)) c.in_default.ensures.none

pub returns-clause-no_memory : goal.returns-clause-no_memory
returns-clause-no_memory c = λ memory.
    let items = c.in_ok-words.words.items in
    let several : 2 ≤ length (map word_of items) = omega (arith, c.request-2.ensures.no_memory memory, ap length c.deref.ensures.value, length-map items word_of) in
    several_read c.args.line.now (map word_of items) c.in_ok-words.ensures.answer several
