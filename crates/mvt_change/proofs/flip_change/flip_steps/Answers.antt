use Rattle.std.proofs.Common.{◌≤◌, map, reverse, length, sym, ap, ◌∙◌, arith}
use Rattle.std.proofs.lemmas.List.{length-append, length-take, length-drop, map-append, take_all, drop_all, reverse-reverse}
use Rattle.mvt_change.specs.ChangeStands.{step_of}
use Rattle.mvt_change.proofs.Changed.{map-reverse}
use Rattle.mvt_change.proofs.Underway.{after_fits, ends, goes_after, leads_back, turns_back}
use Rattle.mvt_change.proofs.flip_change.flip_steps.Goals as goal

pub flip_first-requires-clause-fits : goal.flip_first-requires-clause-fits
flip_first-requires-clause-fits c =
    after_fits _ _ c.loop-made.made 0 c.loop-made.steps c.loop-made.steps c.loop-made.document c.loop-made.document c.loop-made.invariant.within c.loop-made.invariant.under

pub loop-made-preserved : goal.loop-made-preserved
loop-made-preserved c =
    record {
      within = simp (length-append, length-take, length-drop) (omega (arith, c.flip_first.auto.steps, c.in-Ok.ensures.within, c.loop-made.invariant.within));
      under = goes_after _ _ c.loop-made.made c.in-Ok.more c.loop-made.steps c.flip_first.new.steps c.loop-made.document c.flip_first.new.document c.loop-made.invariant.within c.loop-made.invariant.under c.in-Ok.ensures.made;
    }

pub take_back-requires : goal.take_back-requires
take_back-requires c =
    let under = goes_after _ _ c.loop-made.made c.in-Err.more c.loop-made.steps c.flip_first.new.steps c.loop-made.document c.flip_first.new.document c.loop-made.invariant.within c.loop-made.invariant.under c.in-Err.ensures.made in
    under.room

pub returns-in-Err-clause-document : goal.returns-in-Err-clause-document
returns-in-Err-clause-document c =
    c.take_back.ensures.document
    ∙ leads_back _ _ _ _ c.flip_first.new.document (goes_after _ _ c.loop-made.made c.in-Err.more c.loop-made.steps c.flip_first.new.steps c.loop-made.document c.flip_first.new.document c.loop-made.invariant.within c.loop-made.invariant.under c.in-Err.ensures.made)

pub returns-in-Err-clause-steps : goal.returns-in-Err-clause-steps
returns-in-Err-clause-steps c =
    rw (map-append, c.take_back.ensures.steps)
    (turns_back _ _ _ _ c.flip_first.new.document (goes_after _ _ c.loop-made.made c.in-Err.more c.loop-made.steps c.flip_first.new.steps c.loop-made.document c.flip_first.new.document c.loop-made.invariant.within c.loop-made.invariant.under c.in-Err.ensures.made))

pub returns-clause-document : goal.returns-clause-document
returns-clause-document c =
    let all : length c.loop-made.steps ≤ c.loop-made.made = omega arith in
    (ends _ _ _ _ c.loop-made.document (drop_all c.loop-made.made c.loop-made.steps all) c.loop-made.invariant.under).0

pub returns-clause-steps : goal.returns-clause-steps
returns-clause-steps c =
    let made = c.loop-made.made in
    let steps = c.loop-made.steps in
    let all : length steps ≤ made = omega arith in
    ap (map step_of) (sym (reverse-reverse steps))
    ∙ map-reverse step_of (reverse steps)
    ∙ ap (λ front. reverse (map step_of (reverse front))) (sym (take_all made steps all))
    ∙ ap reverse (ends _ _ _ _ c.loop-made.document (drop_all made steps all) c.loop-made.invariant.under).1
