use Rattle.std.proofs.Common.{◌≡◌, is_some, refl, inl, inr, ap, ◌∙◌, subst, w64}
use Rattle.std.proofs.lemmas.Int.{to_z-of_z}
use Rattle.std.proofs.lemmas.Result.{err_from_is_err_and}
use Rattle.std.specs.Option.{IfSome}
use Rattle.mvt_document.specs.Plain.{Feature}
use Rattle.mvt_document.specs.Stands.{feature_of}
use Rattle.mvt_meaning.specs.Geometries.{can_move, moves}
use Rattle.mvt_meaning.specs.declared.refusal.Refusal.TheVariants.{OutOfRange}
use Rattle.mvt_edit_geometry.proofs.OrRefused.{of_none, of_some, of_value}
use Rattle.mvt_edit_geometry.proofs.shift.decided.Goals as goal

pub returns-in_err-check-clause-refused : goal.returns-in_err-check-clause-refused
returns-in_err-check-clause-refused c =
    let passed = err_from_is_err_and c.from_residual.result c.from_residual.ensures.1 in
    rw (passed.1, passed.2) (elim c.in_err-check.ensures.refused [ inl memory ↦ inl memory | inr bad ↦ inr (inl bad) ])

pub returns-clause-drawn : goal.returns-clause-drawn
returns-clause-drawn c = of_some OutOfRange c.decide.result c.ok_or.result (is_some c.decide.result) _ c.ok_or.ensures.value refl (λ some. c.in_ok-check.ensures.drawn)

pub returns-clause-able : goal.returns-clause-able
returns-clause-able c =
    let able = (rw (to_z-of_z w64 c.args.dx c.ranges.dx, to_z-of_z w64 c.args.dy c.ranges.dy) at c.decide.ensures.able) ∙ ap (λ (f : Feature). can_move c.args.dx c.args.dy f.fields) c.view.ensures in
    of_some OutOfRange c.decide.result c.ok_or.result (can_move c.args.dx c.args.dy (feature_of c.args.found.feature.now).fields) _ c.ok_or.ensures.value able (λ can. can)

pub returns-clause-decided : goal.returns-clause-decided
returns-clause-decided c =
    let decided = rw (to_z-of_z w64 c.args.dx c.ranges.dx, to_z-of_z w64 c.args.dy c.ranges.dy) at c.decide.ensures.decided in
    of_value OutOfRange c.decide.result c.ok_or.result _ c.ok_or.ensures.value (subst (λ (f : Feature). IfSome c.decide.result (λ decisions. decisions ≡ moves c.args.dx c.args.dy f.fields)) c.view.ensures decided)

pub returns-clause-refused : goal.returns-clause-refused
returns-clause-refused c =
    let able = (rw (to_z-of_z w64 c.args.dx c.ranges.dx, to_z-of_z w64 c.args.dy c.ranges.dy) at c.decide.ensures.able) ∙ ap (λ (f : Feature). can_move c.args.dx c.args.dy f.fields) c.view.ensures in
    of_none OutOfRange c.decide.result c.ok_or.result (can_move c.args.dx c.args.dy (feature_of c.args.found.feature.now).fields) _ c.ok_or.ensures.value able (λ far. inr (inr (refl, c.in_ok-check.ensures.drawn, far)))
