use Rattle.std.proofs.Common.{◌≡◌, List, ◌++◌, length, map, reverse, take, drop, sym, ap, ◌∙◌}
use Rattle.std.proofs.lemmas.List.{take_at, reverse-reverse}
use Rattle.mvt_document.specs.Held.{Held}
use Rattle.mvt_document.specs.Stands.{document_of}
use Rattle.mvt_change.specs.declared.change.Step.{Step}
use Rattle.mvt_change.specs.ChangeStands.{step_of}
use Rattle.mvt_change.specs.Changes.{turn}
use Rattle.mvt_change.proofs.Ordered.{in_order_of}
use Rattle.mvt_change.proofs.flip_change.flip.Goals as goal

pub returns-clause-change : goal.returns-clause-change
returns-clause-change c =
    let vector = c.as_vec_mut.result.now in
    let turned = c.flip_steps.new.steps in
    let d = document_of c.args.document.now in
    let written : take vector.len (turned ++ drop (length turned) vector.items) ≡ turned =
    take_at turned (drop (length turned) vector.items) vector.len (c.flip_steps.auto.steps ∙ c.as_mut_slice.ensures.len) in
    let items : Held Step → List Step = λ list. list.items in
    let started = c.in_order.new.self in
    ap (λ steps. reverse (map step_of steps)) written
    ∙ ap reverse c.in_ok-flip_steps.ensures.steps
    ∙ reverse-reverse (turn (map step_of c.as_mut_slice.result.now) d)
    ∙ ap (λ steps. turn (map step_of steps) d) (c.as_mut_slice.ensures.value ∙ ap items c.as_vec_mut.ensures.value)
    ∙ ap (λ change. turn change d) (sym (in_order_of started c.in_order.ensures.order) ∙ c.in_order.ensures.change)
