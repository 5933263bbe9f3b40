use Rattle.std.proofs.Common.{◌≡◌, map, ap, ◌∙◌}
use Rattle.std.specs.Str.{bytes_eq}
use Rattle.mvt_document.specs.Stands.{layer_of}
use Rattle.mvt_messages.specs.Views.{keys}
use Rattle.mvt_edit_attributes.proofs.set_attribute.decide_by_key.Goals as goal

pub returns-clause-decided : goal.returns-clause-decided
returns-clause-decided c =
    let key = c.args.key.now in
    let named : c.as_slice.result.now ≡ map (bytes_eq key) (keys (layer_of c.args.holder.layer.now)) = c.as_slice.ensures.value ∙ c.in_ok-named.ensures ∙ ap (λ l. map (bytes_eq key) (keys l)) c.view.ensures in
    rw named at c.decide_or_refuse.ensures.decided

pub returns-clause-counted : goal.returns-clause-counted
returns-clause-counted c =
    let key = c.args.key.now in
    let named : c.as_slice.result.now ≡ map (bytes_eq key) (keys (layer_of c.args.holder.layer.now)) = c.as_slice.ensures.value ∙ c.in_ok-named.ensures ∙ ap (λ l. map (bytes_eq key) (keys l)) c.view.ensures in
    rw named at c.decide_or_refuse.ensures.counted
