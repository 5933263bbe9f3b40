use Rattle.std.proofs.Common.{sym, ◌∙◌}
use Rattle.mvt_document.specs.Stands.{field_of}
use Rattle.mvt_messages.proofs.Fields.{numbers_in_body}
use Rattle.mvt_messages.proofs.elements.elements_in.Goals as goal

pub returns-in-Number-clause-numbers : goal.returns-in-Number-clause-numbers
returns-in-Number-clause-numbers c = λ position. numbers_in_body c.args.number position (field_of c.args.field.now) _ (sym c.number.ensures ∙ c.if-number.false) c.in-Number.ensures

pub returns-in-Bytes-clause-numbers : goal.returns-in-Bytes-clause-numbers
returns-in-Bytes-clause-numbers c = λ position. numbers_in_body c.args.number position (field_of c.args.field.now) _ (sym c.number.ensures ∙ c.if-number.false) c.in-Bytes.ensures
