use Rattle.std.proofs.Common.{map, ◌++◌, rules, sym, ap, ◌∙◌}
use Rattle.std.proofs.lemmas.Simd.{map-map}
use Rattle.mvt_document.specs.Stands.{field_of}
use Rattle.mvt_change.specs.Changes.{FeatureStep}
use Rattle.mvt_change.specs.ChangeStands.{step_of}
use Rattle.mvt_meaning.specs.Tagging.{is_tags}
use Rattle.mvt_edit_steps.specs.Fates.{splices_of}
use Rattle.mvt_edit_steps.proofs.Carrying.{in_feature_at}
use Rattle.mvt_edit_steps.proofs.Going.{out, out_seen, seen}
use Rattle.mvt_edit_attributes.proofs.exclude_all.untag.Goals as goal

pub returns : goal.returns
returns c =
    let layer = c.args.layer in
    let item = c.args.found.position in
    let done = c.in_ok-carry_out.ensures (λ s. FeatureStep layer item s.index s.taken (map field_of s.put)) (λ run made says. search rules) in
    done.2.following
    ∙ ap (λ more. map step_of c.args.steps.now.items ++ more) (
    sym (map-map (in_feature_at layer item) (seen field_of) (splices_of done.0))
    ∙ ap (map (in_feature_at layer item)) (out_seen field_of is_tags _ (λ field fate says. search rules) c.fields.result.now done.0 done.1)
    ∙ ap (λ list. map (in_feature_at layer item) (out is_tags (map field_of list))) c.fields.ensures)
