use Rattle.std.proofs.Common.{◌≡◌, false, is_some, not, Some, [], sym, ap, subst, ◌∙◌, arith}
use Rattle.std.specs.Prelude.{is_ok, if◌then◌else◌}
use Rattle.mvt_document.specs.HeldPlaces.{change_held_items}
use Rattle.mvt_change.specs.ChangeStands.{action_of}
use Rattle.mvt_change.specs.Room.{KeepsDocument}
use Rattle.mvt_change.specs.HeldChanges.{go_held_step}
use Rattle.mvt_document.proofs.Placing.{read_there}
use Rattle.mvt_change.specs.Underway.{IsUnderway, IsInFeatureOf}
use Rattle.mvt_change.proofs.Actions.{fits_finds}
use Rattle.mvt_change.proofs.TurnedRuns.{err_then}
use Rattle.mvt_change.proofs.Underway.{begins, next_fits, no_more}
use Rattle.mvt_change.proofs.Visits.{finds_fields, found_apart, found_within, is_feature_at, next_is, not_visited, one_more_visited, then_visited, visit_begins, visit_goes_on, visit_leaves, visit_stays, visited}
use Rattle.mvt_change.proofs.features.flip_each.Goals as goal
use Rattle.mvt_change.proofs.features.flip_each.Goals.{then-is_none-via-then-is_none, then-is_none-via-else-is_none+then-eq}

pub loop-item-init : goal.loop-item-init
loop-item-init c = record {
  there = found_within (IsInFeatureOf c.args.layer) c.args.steps.now 0 c.requires.first;
  on = c.requires.first;
  item = c.item_of_step-item.ensures;
  visit = visit_begins c.args.layer c.args.steps.now;
  made = λ document is change start made under. subst (IsUnderway change start made c.args.steps.now) (sym (not_visited c.args.layer document c.args.items.now is)) under;
}

pub flip_fields-requires : goal.flip_fields-requires
flip_fields-requires c =
    let r = c.requires in
    let l = c.loop-item in
    let step = c.index-steps-at.result in
    let now = change_held_items (λ x. l.items) c.args.layer r.document in
    let under = l.invariant.made r.document r.there _ _ [] (begins c.args.steps.now r.document r.fits) in
    let fits = next_fits _ _ [] l.steps l.at step step now now l.invariant.there c.index-steps-at.is under in
    let on = (read_there l.steps l.at step (IsInFeatureOf c.args.layer) c.index-steps-at.is l.invariant.on).1 in
    rw (← c.index-steps-at.is) (finds_fields step c.args.layer (Some l.items) now on (visited c.args.layer r.document c.args.items.now r.there l.items) (fits_finds (action_of step) now fits))

pub returns-then-is_err : goal.returns-then-is_err
returns-then-is_err c = record {
  some = tt;
  visit = tt;
  within = omega (arith, c.loop-item.invariant.there, c.loop-item.auto.steps);
  made_there = λ document is change start made under.
      let l = c.loop-item in
      let step = c.index-steps-at.result in
      let refused : is_ok c.flip_fields.result ≡ false = c.is_err.ensures.negation ∙ ap not c.if-is_err.true in
      let so_far = l.invariant.made document is change start made under in
      let on = (read_there l.steps l.at step (IsInFeatureOf c.args.layer) c.index-steps-at.is l.invariant.on).1 in
      let each = rw (← c.index-steps-at.is) at c.flip_fields.ensures.kept in
      let kept = then_visited c.args.layer document c.args.items.now is l.items c.flip_fields.new.items step (λ before after. KeepsDocument (if is_ok c.flip_fields.result then go_held_step step before else before) after) on each in
      let same = rw (← c.index-steps-at.is) at c.flip_fields.ensures.same in
      no_more change start made l.steps l.at step c.flip_fields.new.step _ _ l.invariant.there c.index-steps-at.is so_far (rw refused at kept) (err_then c.flip_fields.result _ same refused);
}

pub returns-then-is_none : goal.returns-then-is_none
returns-then-is_none c = record {
  some = omega arith;
  visit =
      let l = c.loop-item in
      let next = c.item_of_step-next.result in
      let found = c.item_of_step-next.ensures in
      let turned = c.flip_fields.new.step in
      elim c.then-is_none.branch [
        | then-is_none-via-then-is_none w ↦
            visit_leaves c.args.layer l.at c.args.steps.now l.steps turned l.invariant.visit l.invariant.on l.item next l.invariant.item found (c.is_none.ensures ∙ ap not w.if-is_none.true)
        | then-is_none-via-else-is_none+then-eq w ↦
            visit_stays c.args.layer l.at c.args.steps.now l.steps turned l.invariant.visit l.invariant.on l.item next l.invariant.item found (sym w.eq.ensures ∙ w.if-eq.true)
      ];
  within = omega (arith, c.loop-item.invariant.there, c.loop-item.auto.steps);
  made_there = λ document is change start made under.
      let l = c.loop-item in
      let step = c.index-steps-at.result in
      let on = (read_there l.steps l.at step (IsInFeatureOf c.args.layer) c.index-steps-at.is l.invariant.on).1 in
      one_more_visited c.args.layer document c.args.items.now l.items c.flip_fields.new.items is change start l.steps l.at step c.flip_fields.new.step c.flip_fields.result l.invariant.there c.index-steps-at.is on
      (c.is_err.ensures.negation ∙ ap not c.if-is_err.false) (rw (← c.index-steps-at.is) at c.flip_fields.ensures.kept) (rw (← c.index-steps-at.is) at c.flip_fields.ensures.turned) made (l.invariant.made document is change start made under);
}

pub loop-item-preserved : goal.loop-item-preserved
loop-item-preserved c =
    let l = c.loop-item in
    let step = c.index-steps-at.result in
    let next = is_feature_at c.args.layer _ (ap is_some (sym c.item_of_step-next.ensures) ∙ c.is_none.ensures ∙ ap not c.if-is_none.false) in
    record {
      there = found_within (IsInFeatureOf c.args.layer) _ _ next;
      on = next;
      item = next_is c.args.layer l.at c.args.steps.now l.steps c.flip_fields.new.step l.invariant.visit l.invariant.on l.item c.item_of_step-next.result l.invariant.item c.item_of_step-next.ensures;
      visit = visit_goes_on c.args.layer l.at c.args.steps.now l.steps c.flip_fields.new.step l.invariant.visit l.invariant.on l.item c.item_of_step-next.result l.invariant.item c.item_of_step-next.ensures (found_apart c.item_of_step-next.result l.item (sym c.eq.ensures ∙ c.if-eq.false));
      made = λ document is change start made under.
          let on = (read_there l.steps l.at step (IsInFeatureOf c.args.layer) c.index-steps-at.is l.invariant.on).1 in
          rw c.forget_size_after.ensures
          (one_more_visited c.args.layer document c.args.items.now l.items c.flip_fields.new.items is change start l.steps l.at step c.flip_fields.new.step c.flip_fields.result l.invariant.there c.index-steps-at.is on
          (c.is_err.ensures.negation ∙ ap not c.if-is_err.false) (rw (← c.index-steps-at.is) at c.flip_fields.ensures.kept) (rw (← c.index-steps-at.is) at c.flip_fields.ensures.turned) made (l.invariant.made document is change start made under));
    }
