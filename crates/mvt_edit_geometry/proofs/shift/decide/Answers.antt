use Rattle.std.proofs.Common.{◌≡◌, ◌∷◌, ap, ◌∙◌, subst, w64}
use Rattle.std.proofs.lemmas.Int.{to_z-of_z}
use Rattle.std.specs.Option.{IfSome}
use Rattle.mvt_messages.specs.Attributes.{values_in}
use Rattle.mvt_layers.specs.Seen.{feature_seen}
use Rattle.mvt_edit_geometry.proofs.FirstIntegers.{first_integers}
use Rattle.mvt_edit_geometry.proofs.FirstMoved.{first_can, first_moved, next_read}
use Rattle.mvt_edit_geometry.proofs.shift.decide.Goals as goal

pub returns-in_err-command-clause-able : goal.returns-in_err-command-clause-able
returns-in_err-command-clause-able c =
    let f = first_integers (feature_seen c.args.feature) c.requires in
    let first = next_read c.geometry_numbers-numbers.result f.command (f.x ∷ f.y ∷ f.more) (ap values_in c.geometry_numbers-numbers.ensures ∙ f.read) in
    absurd (let none = c.in_err-command.ensures.value ∙ first.0 in cc)

pub returns-in_err-x-clause-able : goal.returns-in_err-x-clause-able
returns-in_err-x-clause-able c =
    let f = first_integers (feature_seen c.args.feature) c.requires in
    let first = next_read c.geometry_numbers-numbers.result f.command (f.x ∷ f.y ∷ f.more) (ap values_in c.geometry_numbers-numbers.ensures ∙ f.read) in
    let second = next_read c.next_value.new.numbers f.x (f.y ∷ f.more) (ap values_in c.in_ok-command.ensures.following ∙ first.1) in
    absurd (let none = c.in_err-x.ensures.value ∙ second.0 in cc)

pub returns-in_err-y-clause-able : goal.returns-in_err-y-clause-able
returns-in_err-y-clause-able c =
    let f = first_integers (feature_seen c.args.feature) c.requires in
    let first = next_read c.geometry_numbers-numbers.result f.command (f.x ∷ f.y ∷ f.more) (ap values_in c.geometry_numbers-numbers.ensures ∙ f.read) in
    let second = next_read c.next_value.new.numbers f.x (f.y ∷ f.more) (ap values_in c.in_ok-command.ensures.following ∙ first.1) in
    let third = next_read c.next_value-2.new.numbers f.y f.more (ap values_in c.in_ok-x.ensures.following ∙ second.1) in
    absurd (let none = c.in_err-y.ensures.value ∙ third.0 in cc)

pub returns-clause-decided : goal.returns-clause-decided
returns-clause-decided c =
    let f = first_integers (feature_seen c.args.feature) c.requires in
    let first = next_read c.geometry_numbers-numbers.result f.command (f.x ∷ f.y ∷ f.more) (ap values_in c.geometry_numbers-numbers.ensures ∙ f.read) in
    let second = next_read c.next_value.new.numbers f.x (f.y ∷ f.more) (ap values_in c.in_ok-command.ensures.following ∙ first.1) in
    let third = next_read c.next_value-2.new.numbers f.y f.more (ap values_in c.in_ok-x.ensures.following ∙ second.1) in
    let command : c.in_ok-command.command ≡ f.command = (let is = c.in_ok-command.ensures.value ∙ first.0 in cc) in
    let x : c.in_ok-x.x ≡ f.x = (let is = c.in_ok-x.ensures.value ∙ second.0 in cc) in
    let y : c.in_ok-y.y ≡ f.y = (let is = c.in_ok-y.ensures.value ∙ third.0 in cc) in
    let same = first_moved c.args.dx c.args.dy (feature_seen c.args.feature).fields f _ _ _ command x y in
    subst (λ integers. IfSome c.moved.result (λ decisions. decisions ≡ integers)) same (rw (to_z-of_z w64 c.args.dx c.ranges.dx, to_z-of_z w64 c.args.dy c.ranges.dy) at c.moved.ensures.decided)

pub returns-clause-able : goal.returns-clause-able
returns-clause-able c =
    let f = first_integers (feature_seen c.args.feature) c.requires in
    let first = next_read c.geometry_numbers-numbers.result f.command (f.x ∷ f.y ∷ f.more) (ap values_in c.geometry_numbers-numbers.ensures ∙ f.read) in
    let second = next_read c.next_value.new.numbers f.x (f.y ∷ f.more) (ap values_in c.in_ok-command.ensures.following ∙ first.1) in
    let third = next_read c.next_value-2.new.numbers f.y f.more (ap values_in c.in_ok-x.ensures.following ∙ second.1) in
    let command : c.in_ok-command.command ≡ f.command = (let is = c.in_ok-command.ensures.value ∙ first.0 in cc) in
    let x : c.in_ok-x.x ≡ f.x = (let is = c.in_ok-x.ensures.value ∙ second.0 in cc) in
    let y : c.in_ok-y.y ≡ f.y = (let is = c.in_ok-y.ensures.value ∙ third.0 in cc) in
    (rw (to_z-of_z w64 c.args.dx c.ranges.dx, to_z-of_z w64 c.args.dy c.ranges.dy) at c.moved.ensures.able) ∙ first_can c.args.dx c.args.dy (feature_seen c.args.feature).fields f _ _ _ command x y
