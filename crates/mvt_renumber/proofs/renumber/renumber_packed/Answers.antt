use Rattle.std.proofs.Common.{◌∙◌, sym}
use Rattle.mvt_document.specs.Bodies.{number_of}
use Rattle.mvt_renumber.specs.Deciding.{packed_field}
use Rattle.mvt_renumber.proofs.PackedLeft.{IsChanged, begins_changed, whole_changed, changed_left, changed_after, changed_field, changed_some}
use Rattle.mvt_renumber.proofs.renumber.renumber_packed.Goals as goal
use Rattle.mvt_renumber.proofs.renumber.renumber_packed.Goals.{In-Some}

whole : (c : In-Some) → IsChanged c.args.bytes.now c.args.decisions.now c.in-Some.made.items c.in-Some.left.now
whole c =
    whole_changed c.args.bytes.now c.args.decisions.now c.in-Changes.place c.in-Changes.from.now c.in-Some.made.items c.in-Some.left.now c.in-Changes.ensures.1 c.in-Changes.ensures.2 (rw c.in-Some.is at c.in_ok-changed_from.ensures)

pub returns-in-Some-clause-fate : goal.returns-in-Some-clause-fate
returns-in-Some-clause-fate c =
    c.packed_fate.ensures.fate (packed_field (number_of c.args.tag) c.args.width c.args.bytes.now)
    ∙ changed_left (number_of c.args.tag) c.args.width c.args.bytes.now c.args.decisions.now c.in-Some.made.items c.in-Some.left.now (whole (goal.at.returns-in-Some-clause-fate c).In-Some)

pub returns-in-Some-clause-change : goal.returns-in-Some-clause-change
returns-in-Some-clause-change c =
    changed_field (number_of c.args.tag) c.args.width c.args.bytes.now c.args.decisions.now c.in-Some.made.items c.in-Some.left.now c.packed_fate.result (whole (goal.at.returns-in-Some-clause-change c).In-Some)
    (c.packed_fate.ensures.fate (packed_field (number_of c.args.tag) c.args.width c.args.bytes.now))

pub returns-in-Some-clause-left : goal.returns-in-Some-clause-left
returns-in-Some-clause-left c =
    changed_after c.args.bytes.now c.args.decisions.now c.in-Some.made.items c.in-Some.left.now (whole (goal.at.returns-in-Some-clause-left c).In-Some)

pub returns-in-Some-clause-changes : goal.returns-in-Some-clause-changes
returns-in-Some-clause-changes c =
    c.packed_fate.ensures.changes ∙ sym (changed_some c.args.bytes.now c.args.decisions.now c.in-Some.made.items c.in-Some.left.now (whole (goal.at.returns-in-Some-clause-changes c).In-Some))

pub returns-in_err-changed_from-clause-no_memory : goal.returns-in_err-changed_from-clause-no_memory
returns-in_err-changed_from-clause-no_memory c = λ _. begins_changed c.args.bytes.now c.args.decisions.now c.in-Changes.place c.in-Changes.from.now c.in-Changes.ensures.1 c.in-Changes.ensures.2
