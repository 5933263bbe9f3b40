use Rattle.std.proofs.Common.{map, refl, sym, ap, ◌∙◌}
use Rattle.std.proofs.lemmas.List.{drop_all}
use Rattle.std.specs.List.{last_or}
use Rattle.mvt_document.specs.Stands.{field_of}
use Rattle.mvt_meaning.specs.Tagging.{is_tags}
use Rattle.mvt_meaning.proofs.Positions.{positions_from}
use Rattle.mvt_edit_attributes.proofs.LastTags.{last_passes, last_skipped}
use Rattle.mvt_edit_attributes.proofs.tags_run.last_tags.Goals.{then-is_tags, else-is_tags}
use Rattle.mvt_edit_attributes.proofs.tags_run.last_tags.Goals as goal

pub loop-position-init : goal.loop-position-init
loop-position-init c = refl

pub loop-position-preserved : goal.loop-position-preserved
loop-position-preserved c =
    let field = c.index-fields-position in
    elim c.if-is_tags.branch [
      | then-is_tags w ↦ rw w.last-is (last_passes field_of is_tags c.args.fields.now c.loop-position.position field.result c.loop-position.last _ c.loop-position-test.true field.is c.loop-position.invariant (sym c.is_tags.ensures ∙ w.if-is_tags.true))
      | else-is_tags w ↦ rw w.last-is (last_skipped field_of is_tags c.args.fields.now c.loop-position.position field.result c.loop-position.last _ c.loop-position-test.true field.is c.loop-position.invariant (sym c.is_tags.ensures ∙ w.if-is_tags.false))
    ]

pub returns : goal.returns
returns c =
    let n = c.loop-position.position in
    ap (λ xs. last_or c.loop-position.last (positions_from is_tags n (map field_of xs))) (sym (drop_all n c.args.fields.now c.loop-position-test.false)) ∙ c.loop-position.invariant
