use Rattle.std.proofs.Common.{◌≡◌, length, map, refl, inl, inr, sym, ap, ◌∙◌}
use Rattle.std.proofs.lemmas.Result.{err_from_is_err_and}
use Rattle.std.specs.List.{list_any}
use Rattle.std.specs.Str.{bytes_eq}
use Rattle.mvt_document.specs.Stands.{feature_of, layer_of}
use Rattle.mvt_messages.specs.Views.{keys, values}
use Rattle.mvt_edit_steps.proofs.Deciding.{no_pairs}
use Rattle.mvt_edit_attributes.proofs.Deciding.{has_named, on_pairs}
use Rattle.mvt_edit_attributes.proofs.NoneLost.{named_each}
use Rattle.mvt_edit_attributes.proofs.unset.decide.Goals as goal

pub returns-then-not-is_any-clause-refused : goal.returns-then-not-is_any-clause-refused
returns-then-not-is_any-clause-refused c =
    let key = c.args.key.now in
    let layer = layer_of c.args.holder.layer.now in
    let named : c.in_ok-named.named.items ≡ map (bytes_eq key) (keys layer) = c.in_ok-named.ensures ∙ ap (λ l. map (bytes_eq key) (keys l)) c.view-layer.ensures in
    inr (inl (refl, sym (has_named key layer.items) ∙ ap (list_any (λ same. same)) (sym (c.as_slice.ensures.value ∙ named)) ∙ sym c.is_any.ensures ∙ c.if-not-is_any.true))

pub returns-in_err-decide_or_refuse-clause-refused : goal.returns-in_err-decide_or_refuse-clause-refused
returns-in_err-decide_or_refuse-clause-refused c =
    let key = c.args.key.now in
    let layer = layer_of c.args.holder.layer.now in
    let named : c.in_ok-named.named.items ≡ map (bytes_eq key) (keys layer) = c.in_ok-named.ensures ∙ ap (λ l. map (bytes_eq key) (keys l)) c.view-layer.ensures in
    let has = sym (has_named key layer.items) ∙ ap (list_any (λ same. same)) (sym (c.as_slice.ensures.value ∙ named)) ∙ sym c.is_any.ensures ∙ c.if-not-is_any.false in
    let is_keys = c.len.ensures ∙ named_each key _ _ c.in_ok-named.named c.in_ok-named.ensures c.view-layer.ensures in
    let is_values = c.value_count.ensures ∙ ap (λ seen. length (values seen)) c.view-layer.ensures in
    let passed = err_from_is_err_and c.from_residual-in_err-decide_or_refuse.result c.from_residual-in_err-decide_or_refuse.ensures.1 in
    rw (passed.1, passed.2) (
    elim c.in_err-decide_or_refuse.ensures.refused [
      | inl memory ↦ inl memory
      | inr bad ↦ inr (inr (bad.0, has, no_pairs layer (feature_of c.args.found.feature.now) c.len.result c.value_count.result is_keys is_values bad.1))
    ])

pub returns : goal.returns
returns c =
    let key = c.args.key.now in
    let layer = layer_of c.args.holder.layer.now in
    let named : c.in_ok-named.named.items ≡ map (bytes_eq key) (keys layer) = c.in_ok-named.ensures ∙ ap (λ l. map (bytes_eq key) (keys l)) c.view-layer.ensures in
    let is_keys = c.len.ensures ∙ named_each key _ _ c.in_ok-named.named c.in_ok-named.ensures c.view-layer.ensures in
    let is_values = c.value_count.ensures ∙ ap (λ seen. length (values seen)) c.view-layer.ensures in
    let on = on_pairs key layer (feature_of c.args.found.feature.now) c.len.result c.value_count.result c.as_slice-2.result.now c.decide_or_refuse.new.decisions.items (c.as_slice-2.ensures.value ∙ named) is_keys is_values c.in_ok-decide_or_refuse.ensures.decided in
    record {
      has = sym (has_named key layer.items) ∙ ap (list_any (λ same. same)) (sym (c.as_slice.ensures.value ∙ named)) ∙ sym c.is_any.ensures ∙ c.if-not-is_any.false;
      readable = on.readable;
      decided = on.decided;
      refused = tt;
    }
