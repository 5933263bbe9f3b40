use Rattle.std.proofs.Common.{◌≤◌, ◌++◌, length, map, refl, sym, subst, ap, arith, ◌∙◌}
use Rattle.std.proofs.lemmas.List.{take_all}
use Rattle.std.proofs.lemmas.Simd.{map-map}
use Rattle.mvt_document.specs.Stands.{field_of}
use Rattle.mvt_document.specs.declared.field.FieldParts.{FieldParts as Field}
use Rattle.mvt_change.specs.ChangeStands.{step_of}
use Rattle.mvt_renumber.proofs.FieldFate.{field_fate-seen}
use Rattle.mvt_edit_steps.specs.Fates.{Splice, seen, splices_of}
use Rattle.mvt_edit_steps.proofs.Decided.{Sized, all_decided, all_sized, decided_more, sized_more, sized_none}
use Rattle.mvt_edit_steps.proofs.Following.{all_said, all_steps, goes_on, nothing_yet}
use Rattle.mvt_edit_steps.proofs.Planned.{splices_seen}
use Rattle.mvt_edit_steps.proofs.Walking.{can_pass}
use Rattle.mvt_edit_steps.proofs.fates.renumber_fields.Goals as goal

pub loop-index-init : goal.loop-index-init
loop-index-init g c = rw c.first-walk.ensures (record { steps = nothing_yet (λ more. refl); size = sized_none c.args.number c.args.decisions.now c.args.beside })

pub loop-index-preserved : goal.loop-index-preserved
loop-index-preserved g c =
    let kept = c.loop-index.invariant.steps in
    let made = c.in_ok-walk.ensures in
    let is = c.in_ok-fate.ensures in
    let field = c.index-fields-index.result in
    let fate = c.in_ok-fate.fate in
    let becomes = field_fate-seen field_of c.args.number c.loop-index.left.now (field_of field) fate is.fate is.changes in
    let decided = decided_more c.args.number c.args.decisions.now c.loop-index.left.now c.in_ok-fate.following.now c.args.fields.now c.loop-index.index field kept.fates fate (omega arith) c.index-fields-index.is kept.said becomes is.left in
    record {
      steps = goes_on kept fate c.pass.new.steps.items c.in_ok-walk.walk decided made.steps made.ends (made.take c.loop-index.index kept.taken) made.next made.changed;
      size = sized_more c.args.number c.args.decisions.now c.loop-index.left.now c.in_ok-fate.following.now c.args.fields.now c.loop-index.index field _ _ _ _ (omega arith) c.index-fields-index.is c.loop-index.invariant.size is.fate c.and_left-size.ensures is.left;
    }

pub returns-clause-steps : goal.returns-clause-steps
returns-clause-steps g c = λ step_with means.
    let kept = c.loop-index.invariant.steps in
    let all : length c.args.fields.now ≤ c.loop-index.index = let done = c.loop-index-test.false in omega arith in
    let fates = all_decided c.args.number c.args.decisions.now c.loop-index.left.now c.args.fields.now kept.fates (all_said kept all) in
    let steps_with = λ (s : Splice Field). step_with (seen field_of s) in
    all_steps kept c.end.new.steps.items steps_with means (c.in_ok-end.ensures steps_with means).0
    ∙ ap (λ more. map step_of c.args.steps.now.items ++ more) (sym (map-map step_with (seen field_of) (splices_of kept.fates)) ∙ ap (map step_with) (splices_seen field_of 0 kept.fates ∙ ap splices_of fates))

pub returns-clause-size : goal.returns-clause-size
returns-clause-size g c =
    let all : length c.args.fields.now ≤ c.loop-index.index = let done = c.loop-index-test.false in omega arith in
    all_sized c.args.number c.args.decisions.now c.loop-index.left.now c.args.fields.now c.args.beside c.loop-index.size
    (subst (λ fields. Sized c.args.number c.args.decisions.now c.loop-index.left.now fields c.args.beside c.loop-index.size) (take_all c.loop-index.index c.args.fields.now all) c.loop-index.invariant.size)

pub pass-requires-clause-ends : goal.pass-requires-clause-ends
pass-requires-clause-ends g c = can_pass c.loop-index.invariant.steps (omega arith)
