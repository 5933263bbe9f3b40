use Rattle.std.proofs.Common.{ap, ◌∙◌, set, sym, subst, arith}
use Rattle.mvt_document.specs.PutForms.{HoldsOne, held_form}
use Rattle.mvt_document.specs.Splicing.{splice}
use Rattle.mvt_document.proofs.Exchanged.{none_for_one, one_alone, part_one, set_alone, set_one}
use Rattle.mvt_document.proofs.put.Put.exchange_in.Goals as goal

pub returns-in-Empty-clause-list : goal.returns-in-Empty-clause-list
returns-in-Empty-clause-list g c =
    let none = ap (λ form. (held_form form).items) (sym c.in-Empty.is) ∙ ap (λ held. held.items) c.self.view_is ∙ c.in_ok-reserve_exact.ensures.items in
    none_for_one c.args.index c.args.taken c.args.list.now.items _ _ c.if-taken-eq1.true none c.remove.ensures.by_index.2

pub returns-in-Empty-clause-put : goal.returns-in-Empty-clause-put
returns-in-Empty-clause-put g c =
    part_one c.args.index c.args.taken c.args.list.now.items c.remove.result c.if-taken-eq1.true (omega (arith, c.requires, c.if-taken-eq1.true)) c.remove.ensures.value

pub returns-in-One-clause-list : goal.returns-in-One-clause-list
returns-in-One-clause-list g c =
    let index = c.args.index in
    let list = c.args.list.now.items in
    let item = c.index-item-0.result in
    let put = one_alone item c.in-One.item (subst HoldsOne c.in-One.is c.self.invariant) c.index-item-0.is ∙ ap (λ form. (held_form form).items) (sym c.in-One.is) ∙ ap (λ held. held.items) c.self.view_is ∙ c.in_ok-reserve_exact.ensures.items in
    ap (set list index) (c.swap.ensures.y_after ∙ sym c.index-item-0.is)
    ∙ set_one index list item (omega (arith, c.requires, c.if-taken-eq1-2.true))
    ∙ ap (λ put. splice index 1 put list) put
    ∙ ap (λ taken. splice index taken c.args.self.now.items list) (sym c.if-taken-eq1-2.true)

pub returns-in-One-clause-put : goal.returns-in-One-clause-put
returns-in-One-clause-put g c =
    let item = c.index_mut.result.now in
    set_alone item _ c.in-One.item (subst HoldsOne c.in-One.is c.self.invariant) c.swap.ensures.x_after
    ∙ part_one c.args.index c.args.taken c.args.list.now.items item c.if-taken-eq1-2.true (omega (arith, c.requires, c.if-taken-eq1-2.true)) c.index_mut.ensures.value
