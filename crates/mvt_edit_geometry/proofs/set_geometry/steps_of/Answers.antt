use Rattle.std.proofs.Common.{rules, ◌+◌, ◌-◌, [], ◌∷◌, ◌++◌, length, map, sym, ap, ◌∙◌}
use Rattle.std.proofs.lemmas.List.{length-map}
use Rattle.std.proofs.lemmas.Simd.{map-map}
use Rattle.mvt_document.specs.Stands.{field_of}
use Rattle.mvt_change.specs.Changes.{FeatureStep}
use Rattle.mvt_change.specs.ChangeStands.{step_of}
use Rattle.mvt_meaning.specs.Geometries.{is_geometry_field}
use Rattle.mvt_edit_steps.specs.Fates.{seen}
use Rattle.mvt_edit_steps.specs.Once.{once_splices}
use Rattle.mvt_edit_steps.proofs.Carrying.{in_feature_at}
use Rattle.mvt_edit_steps.proofs.Once.{once_splices_seen, picked_seen}
use Rattle.mvt_edit_geometry.proofs.set_geometry.steps_of.Goals as goal

pub returns : goal.returns
returns c =
    let layer = c.args.layer in
    let item = c.args.found.position in
    let fields = c.args.found.feature.now.fields.items in
    let drawing = field_of c.args.drawing.field in
    let kind = FeatureStep layer item c.args.drawing.kind.index c.args.drawing.kind.take (map field_of c.args.drawing.kind.put.items) in
    let at = in_feature_at layer item in
    let seen_fields = c.fields-fields.result.now in
    let done = c.in_ok-put_once.ensures (λ s. at (seen field_of s)) (λ run made says. search rules) in
    let first = ap (map step_of) (c.in_ok-push.ensures.items ∙ ap (λ list. list ++ c.in_feature.result ∷ []) c.new-steps.ensures.items) ∙ ap (λ step. step ∷ []) c.in_feature.ensures in
    let answered = picked_seen field_of is_geometry_field _ (λ field is says. search rules) seen_fields done.0 done.1 in
    let end_seen = length seen_fields - c.args.drawing.kind.take + 1 in
    let splices = once_splices done.0 c.args.drawing.field end_seen in
    c.new.ensures.change
    ∙ done.2
    ∙ ap (λ before. before ++ map (λ s. at (seen field_of s)) splices) first
    ∙ ap (λ rest. kind ∷ rest) (
    sym (map-map at (seen field_of) splices)
    ∙ ap (map at) (once_splices_seen field_of done.0 c.args.drawing.field end_seen)
    ∙ ap (λ picked. map at (once_splices picked drawing end_seen)) answered
    ∙ ap (λ list. map at (once_splices (map is_geometry_field (map field_of list)) drawing (length list - c.args.drawing.kind.take + 1))) c.fields-fields.ensures
    ∙ ap (λ n. map at (once_splices (map is_geometry_field (map field_of fields)) drawing (n - c.args.drawing.kind.take + 1))) (sym (length-map fields field_of))
    )
