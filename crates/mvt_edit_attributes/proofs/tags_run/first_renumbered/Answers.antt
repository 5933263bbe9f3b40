use Rattle.std.proofs.Common.{◌≡◌, ◌+◌, ◌≤◌, [], ◌∷◌, true, is_some, length, map, filter, drop, sym, ap, ◌∙◌, arith}
use Rattle.std.proofs.lemmas.List.{drop_more}
use Rattle.std.specs.List.{cons_option}
use Rattle.mvt_document.specs.Stands.{field_of}
use Rattle.mvt_renumber.specs.Fates.{changes, fate_seen}
use Rattle.mvt_renumber.specs.Renumbering.{field_numbers}
use Rattle.mvt_renumber.proofs.FieldFate.{field_fate-seen}
use Rattle.mvt_edit_steps.specs.Decided.{field_fates}
use Rattle.mvt_edit_steps.specs.Fates.{splices_from}
use Rattle.mvt_edit_attributes.specs.Attribute.{run_for}
use Rattle.mvt_edit_attributes.proofs.OneDiffers.{only_run, some_mapped}
use Rattle.mvt_edit_attributes.proofs.tags_run.first_renumbered.Goals as goal

pub returns-then-is_some : goal.returns-then-is_some
returns-then-is_some c =
    let index = c.loop-index.index in
    let left = c.loop-index.left.now in
    let field = c.index-fields-index.result in
    let is = c.in_ok-fate.ensures in
    let fate = fate_seen field_of c.in_ok-fate.fate in
    let rest = field_fates 2 (drop (length (field_numbers 2 (field_of field))) left) (map field_of (drop (index + 1) c.args.fields.now)) in
    let here : drop index c.args.fields.now ≡ field ∷ drop (index + 1) c.args.fields.now = drop_more c.args.fields.now index field (omega arith) ∙ ap (λ x. x ∷ drop (index + 1) c.args.fields.now) (sym c.index-fields-index.is) in
    let all : field_fates 2 left (map field_of (drop index c.args.fields.now)) ≡ fate ∷ rest = ap (λ list. field_fates 2 left (map field_of list)) here ∙ ap (λ first. first ∷ rest) (sym (field_fate-seen field_of 2 left (field_of field) c.in_ok-fate.fate is.fate is.changes)) in
    let few : length (filter changes (fate ∷ rest)) ≤ 1 = rw all at c.loop-index.invariant.1 in
    let some : is_some (run_for index fate) ≡ true = ap (λ run. is_some run) (sym c.in_ok-run.ensures) ∙ some_mapped _ c.in_ok-run.run' ∙ sym c.is_some.ensures ∙ c.if-is_some.true in
    c.loop-index.invariant.0 ∙ ap (splices_from index) all ∙ only_run index fate rest few some ∙ ap (λ run. cons_option run []) (sym c.in_ok-run.ensures)
