use Rattle.std.proofs.Common.{ap, ◌∙◌}
use Rattle.mvt_document.proofs.Placing.{same_varint}
use Rattle.mvt_document.proofs.field.Field.tag.Goals as goal

pub returns : goal.returns
returns c =
    same_varint _ _
    (ap (λ n. n.value) c.new.ensures ∙ c.from.ensures ∙ ap (λ t. t.0) c.tag-value.ensures ∙ ap (λ f. f.tag.value) c.self.view_is)
    (ap (λ n. n.width) c.new.ensures ∙ ap (λ t. t.1) c.tag-value.ensures ∙ ap (λ f. f.tag.width) c.self.view_is)
