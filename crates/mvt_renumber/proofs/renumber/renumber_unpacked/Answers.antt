use Rattle.std.proofs.Common.{false, ◌||◌, ◌≡◌, List, [], ◌∷◌, ◌++◌, ap, sym, ◌∙◌}
use Rattle.std.proofs.lemmas.List.{append-nil}
use Rattle.mvt_document.specs.Plain as plain
use Rattle.mvt_document.specs.Bodies.{number_of}
use Rattle.mvt_renumber.specs.Fates.{changes, left_of_fate}
use Rattle.mvt_renumber.specs.Renumbering.{renumbered}
use Rattle.mvt_renumber.proofs.Decisions.{renumbered-none}
use Rattle.mvt_renumber.proofs.renumber.renumber_unpacked.Goals as goal
use Rattle.mvt_renumber.proofs.renumber.renumber_unpacked.Goals.{in-Stays, in-Goes, in-Becomes}

pub returns-clause-fate : goal.returns-clause-fate
returns-clause-fate c =
    let old = number_of c.args.old in
    let found : renumbered c.args.decisions.now (old ∷ []) ≡ left_of_fate number_of old c.first_fate-fate.result.0 =
    c.first_fate-fate.ensures.fate []
    ∙ ap (λ (more : List plain.Number). left_of_fate number_of old c.first_fate-fate.result.0 ++ more) (renumbered-none c.first_fate-fate.result.1.now)
    ∙ append-nil (left_of_fate number_of old c.first_fate-fate.result.0) in
    elim c.match-fate.branch [
      | in-Stays w ↦ rw (w.fate-is, found, w.in-Stays.is)
      | in-Goes w ↦ rw (w.fate-is, found, w.in-Goes.is)
      | in-Becomes w ↦ rw (w.fate-is, w.new.ensures, found, w.in-Becomes.is)
    ]

pub returns-clause-left : goal.returns-clause-left
returns-clause-left c = sym (c.first_fate-fate.ensures.left 0)

pub returns-clause-changes : goal.returns-clause-changes
returns-clause-changes c =
    let said = c.first_fate-fate.ensures.changes [] in
    elim c.match-fate.branch [
      | in-Stays w ↦ rw w.fate-is (sym (said ∙ ap (λ fate. changes fate || false) w.in-Stays.is))
      | in-Goes w ↦ rw w.fate-is (sym (said ∙ ap (λ fate. changes fate || false) w.in-Goes.is))
      | in-Becomes w ↦ rw w.fate-is (sym (said ∙ ap (λ fate. changes fate || false) w.in-Becomes.is))
    ]
