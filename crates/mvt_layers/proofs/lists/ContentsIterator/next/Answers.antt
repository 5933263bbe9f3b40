use Rattle.std.proofs.Common.{ℕ, List, ◌++◌, map, sym, ap, ◌∙◌}
use Rattle.mvt_document.specs.Stands.{layer_item_of}
use Rattle.mvt_messages.specs.Views.{contents, plain_fields}
use Rattle.mvt_layers.proofs.lists.ContentsIterator.next.Goals as goal

pub returns-in_err-content-clause-steps : goal.returns-in_err-content-clause-steps
returns-in_err-content-clause-steps c =
    let back = contents c.self.inside.number (plain_fields (map layer_item_of c.self.inside.back.now)) in
    let none = sym c.self.view_is ∙ ap (λ (front : List (List ℕ)). front ++ back) c.in_default.ensures ∙ c.in_err-content.ensures in
    rw c.from_residual.ensures (none, none)
