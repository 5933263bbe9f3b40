use Rattle.std.proofs.Common.{◌+◌, ◌++◌, map, ap, ◌∙◌}
use Rattle.mvt_document.specs.Stands.{field_of}
use Rattle.mvt_messages.specs.Left.{numbers_from}
use Rattle.mvt_messages.proofs.Fields.{numbers_from-more}
use Rattle.mvt_messages.proofs.elements.first_elements.Goals as goal

pub returns-in-Some-clause-numbers : goal.returns-in-Some-clause-numbers
returns-in-Some-clause-numbers c =
    c.loop-position.invariant
    ∙ numbers_from-more c.args.number c.loop-position.position c.args.fields.now c.index-fields-position.result c.loop-position-test.true c.index-fields-position.is
    ∙ ap (λ list. list ++ numbers_from c.args.number (c.loop-position.position + 1) (map field_of c.args.fields.now)) (c.in-Some.ensures.numbers c.loop-position.position)

pub loop-position-preserved : goal.loop-position-preserved
loop-position-preserved c =
    c.loop-position.invariant
    ∙ numbers_from-more c.args.number c.loop-position.position c.args.fields.now c.index-fields-position.result c.loop-position-test.true c.index-fields-position.is
    ∙ ap (λ list. list ++ numbers_from c.args.number (c.loop-position.position + 1) (map field_of c.args.fields.now)) (c.in_default.ensures.numbers c.loop-position.position)
