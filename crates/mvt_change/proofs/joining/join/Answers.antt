use Rattle.std.proofs.Common.{◌≡◌, ◌≤◌, ◌++◌, length, map, reverse, sym, ap, ◌∙◌, subst}
use Rattle.mvt_change.specs.ChangeStands.{change_of}
use Rattle.mvt_change.specs.Joining.{joined}
use Rattle.mvt_change.proofs.JoinedChanges.{joined_from_last, put_back}
use Rattle.mvt_change.proofs.joining.join.Goals as goal

pub returns-in-Err-clause-err : goal.returns-in-Err-clause-err
returns-in-Err-clause-err c =
    let same : change_of c.reserve_for.new.change ≡ change_of c.in-Some.last = cc in
    put_back c.args.changes.now.items c.pop.new.self.items c.push_reserved.new.self.items c.in-Some.last c.reserve_for.new.change c.in-Some.ensures.items c.push_reserved.ensures.items same

pub append_all-requires-clause-room : goal.append_all-requires-clause-room
append_all-requires-clause-room c =
    subst (λ changes. length (joined (map change_of changes)) ≤ c.reserve_for.new.change.steps.room) c.as_slice.ensures.value c.in_default-reserve_for.ensures.ok

pub returns-clause-ok : goal.returns-clause-ok
returns-clause-ok c =
    let rest = c.pop.new.self.items in
    let same : change_of c.reserve_for.new.change ≡ change_of c.in-Some.last = cc in
    c.append_all.ensures.change
    ∙ ap (λ first. first ++ joined (reverse (map change_of rest))) same
    ∙ sym (ap (λ all. joined (reverse (map change_of all))) c.in-Some.ensures.items ∙ joined_from_last rest c.in-Some.last)
