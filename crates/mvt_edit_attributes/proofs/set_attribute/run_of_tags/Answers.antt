use Rattle.std.proofs.Common.{◌++◌, [], is_some, Err, length, map, refl, inl, inr, sym, ap, ◌∙◌, arith}
use Rattle.std.proofs.lemmas.Result.{err_from_is_err_and}
use Rattle.std.specs.Option.{option_map_or}
use Rattle.std.specs.Str.{bytes_eq}
use Rattle.mvt_document.specs.Stands.{feature_of, layer_of}
use Rattle.mvt_document.specs.Wire.{shortest}
use Rattle.mvt_messages.specs.Views.{keys, values}
use Rattle.mvt_meaning.specs.Tagging.{is_key_at, key_ordinal, replacements, revalued, value_ordinal}
use Rattle.mvt_meaning.proofs.Replacements.{replacements_short}
use Rattle.mvt_edit_steps.proofs.FieldsLeft.{fields_left}
use Rattle.mvt_edit_attributes.proofs.AttributeGiven.{gives_pair, gives_value, nothing_refused, on_values, repeated_refused, unreadable_refused}
use Rattle.mvt_edit_steps.proofs.Deciding.{no_pairs}
use Rattle.mvt_edit_attributes.proofs.OneDiffers.{one_differs}
use Rattle.mvt_edit_attributes.proofs.set_attribute.run_of_tags.Goals as goal

pub returns-in-0-clause-gives : goal.returns-in-0-clause-gives
returns-in-0-clause-gives c = λ value found.
    let key = c.args.key.now in
    let layer = layer_of c.args.holder.layer.now in
    let feature = feature_of c.args.found.feature.now in
    let on = on_values key layer feature c.args.ordinals.key.count c.args.ordinals.value.count (map (bytes_eq key) (keys layer)) c.args.ordinals.value.ordinal c.decide_by_key.new.decisions.items c.in_ok-count.count refl c.requires.key.count c.requires.values c.in_ok-count.ensures.decided c.in_ok-count.ensures.counted in
    let more = ap (λ ordinal. shortest ordinal ++ shortest c.args.ordinals.value.ordinal) found.key_so.at ∙ ap (λ ordinal. shortest (key_ordinal key layer.items) ++ shortest ordinal) found.value_so.at in
    gives_pair key value layer.items feature.fields _ (shortest c.args.ordinals.key.ordinal ++ shortest c.args.ordinals.value.ordinal) (omega (arith, on.all)) more (rw c.fields-fields.ensures at c.in_ok-and_pair-in-0.ensures)

pub returns-in-0-clause-checked : goal.returns-in-0-clause-checked
returns-in-0-clause-checked c =
    let key = c.args.key.now in
    let layer = layer_of c.args.holder.layer.now in
    let feature = feature_of c.args.found.feature.now in
    let on = on_values key layer feature c.args.ordinals.key.count c.args.ordinals.value.count (map (bytes_eq key) (keys layer)) c.args.ordinals.value.ordinal c.decide_by_key.new.decisions.items c.in_ok-count.count refl c.requires.key.count c.requires.values c.in_ok-count.ensures.decided c.in_ok-count.ensures.counted in
    nothing_refused key c.args.holder.ordinal c.args.found.ordinal layer.items feature.fields (ap (λ found. is_some found) on.read) (omega (arith, on.all))

pub first_renumbered-requires : goal.first_renumbered-requires
first_renumbered-requires c =
    let key = c.args.key.now in
    let layer = layer_of c.args.holder.layer.now in
    let feature = feature_of c.args.found.feature.now in
    let on = on_values key layer feature c.args.ordinals.key.count c.args.ordinals.value.count (map (bytes_eq key) (keys layer)) c.args.ordinals.value.ordinal c.decide_by_key.new.decisions.items c.in_ok-count.count refl c.requires.key.count c.requires.values c.in_ok-count.ensures.decided c.in_ok-count.ensures.counted in
    rw (c.as_slice.ensures.value, on.decided, c.fields-fields.ensures) (one_differs _ c.args.ordinals.value.ordinal (length (keys layer)) (length (values layer)) feature.fields on.pairs on.read (omega (arith, on.counted)))

pub returns-in-1-clause-gives : goal.returns-in-1-clause-gives
returns-in-1-clause-gives c = λ value found.
    let key = c.args.key.now in
    let layer = layer_of c.args.holder.layer.now in
    let feature = feature_of c.args.found.feature.now in
    let on = on_values key layer feature c.args.ordinals.key.count c.args.ordinals.value.count (map (bytes_eq key) (keys layer)) c.args.ordinals.value.ordinal c.decide_by_key.new.decisions.items c.in_ok-count.count refl c.requires.key.count c.requires.values c.in_ok-count.ensures.decided c.in_ok-count.ensures.counted in
    let decided = c.as_slice.ensures.value ∙ on.decided ∙ ap (λ ordinal. revalued (is_key_at layer.items key) ordinal on.pairs) found.value_so.at ∙ ap (λ pairs. option_map_or (revalued (is_key_at layer.items key) (value_ordinal value layer.items)) pairs []) (sym on.read) in
    let left = fields_left 2 (replacements key value layer.items feature.fields) c.args.found.feature.now.fields.items (replacements_short key value layer.items feature.fields (omega (arith, found.value_so.at))) in
    gives_value key value layer.items feature.fields _ (omega (arith, on.all)) (rw (decided, c.fields-fields.ensures) at c.in_ok-first_renumbered-in-1.ensures) left

pub returns-in-1-clause-checked : goal.returns-in-1-clause-checked
returns-in-1-clause-checked c =
    let key = c.args.key.now in
    let layer = layer_of c.args.holder.layer.now in
    let feature = feature_of c.args.found.feature.now in
    let on = on_values key layer feature c.args.ordinals.key.count c.args.ordinals.value.count (map (bytes_eq key) (keys layer)) c.args.ordinals.value.ordinal c.decide_by_key.new.decisions.items c.in_ok-count.count refl c.requires.key.count c.requires.values c.in_ok-count.ensures.decided c.in_ok-count.ensures.counted in
    nothing_refused key c.args.holder.ordinal c.args.found.ordinal layer.items feature.fields (ap (λ found. is_some found) on.read) (omega (arith, on.all))

pub returns-clause-refused : goal.returns-clause-refused
returns-clause-refused c =
    let key = c.args.key.now in
    let layer = layer_of c.args.holder.layer.now in
    let feature = feature_of c.args.found.feature.now in
    let on = on_values key layer feature c.args.ordinals.key.count c.args.ordinals.value.count (map (bytes_eq key) (keys layer)) c.args.ordinals.value.ordinal c.decide_by_key.new.decisions.items c.in_ok-count.count refl c.requires.key.count c.requires.values c.in_ok-count.ensures.decided c.in_ok-count.ensures.counted in
    inr (repeated_refused key c.args.holder.ordinal c.args.found.ordinal layer.items feature.fields (ap (λ found. is_some found) on.read) (omega (arith, on.all)))

pub returns-in_err-count-clause-refused : goal.returns-in_err-count-clause-refused
returns-in_err-count-clause-refused c =
    let layer = layer_of c.args.holder.layer.now in
    let feature = feature_of c.args.found.feature.now in
    let passed = err_from_is_err_and c.from_residual.result c.from_residual.ensures.1 in
    rw (passed.1, passed.2) (
    elim c.in_err-count.ensures.refused [
      | inl memory ↦ inl memory
      | inr bad ↦ inr (unreadable_refused c.args.key.now c.args.holder.ordinal c.args.found.ordinal layer.items feature.fields (no_pairs layer feature c.args.ordinals.key.count c.args.ordinals.value.count c.requires.key.count c.requires.values bad.1) ∙ ap Err (sym bad.0))
    ])
