use Rattle.std.proofs.Common.{◌≡◌, inr, List, Result, Ok, Err, sym, ap, ◌∙◌, rules}
use Rattle.mvt_geometry.specs.declared.shapes.Point.{Point}
use Rattle.tile_lines.specs.declared.words.Word.{Word}
use Rattle.tile_lines.specs.declared.parse_error.ParseError.{ParseError}
use Rattle.tile_lines.specs.WordStands.{word_of}
use Rattle.tile_arguments.specs.Arguments.{point_of, part_of}
use Rattle.tile_arguments.proofs.Each.{onto_next, onto_stops, onto_all, each-map}
use Rattle.tile_arguments.proofs.geometries.part.Goals as goal

abbrev read : Word → Result Point ParseError
read w = point_of (word_of w)

pub loop-word-preserved : goal.loop-word-preserved
loop-word-preserved c =
    rw c.in_ok-push.ensures.items (onto_next read c.args.words.now c.loop-word.word-index _ c.loop-word.points.items c.in_ok-point.field-0 c.loop-word-test.true (sym c.in_ok-point.ensures) c.loop-word.invariant)

pub returns-in_err-point-clause-answer : goal.returns-in_err-point-clause-answer
unfolding part_of
returns-in_err-point-clause-answer c =
    let refused : c.from_residual-in_err-point.result ≡ Err c.in_err-point.field-0.0 = search rules in
    rw refused (inr (each-map point_of word_of c.args.words.now ∙ onto_stops read c.args.words.now c.loop-word.word-index _ c.loop-word.points.items c.in_err-point.field-0.0 c.loop-word-test.true (sym c.in_err-point.ensures) c.loop-word.invariant))

pub returns-clause-answer : goal.returns-clause-answer
unfolding part_of
returns-clause-answer c =
    each-map point_of word_of c.args.words.now
    ∙ onto_all read c.args.words.now c.loop-word.word-index c.loop-word.points.items c.loop-word-test.false c.loop-word.invariant
    ∙ ap (λ (points : List Point). Ok points) (sym c.from_vec.ensures.items)
