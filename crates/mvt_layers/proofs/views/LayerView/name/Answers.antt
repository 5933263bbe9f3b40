use Rattle.std.proofs.Common.{map, option_map, ap, ◌∙◌}
use Rattle.mvt_document.specs.Stands.{layer_item_of}
use Rattle.mvt_layers.proofs.InRun.{last_content}
use Rattle.mvt_layers.proofs.views.LayerView.name.Goals as goal

pub returns-in_err-found : goal.returns-in_err-found
returns-in_err-found c =
    let whole = ap (option_map (λ f. f.1.1)) c.last_name.ensures ∙ last_content 1 (map layer_item_of c.args.self.layer.now.items.items) in
    rw c.from_residual.ensures (rw c.in_err-found.was at whole)

pub returns : goal.returns
returns c =
    let whole = ap (option_map (λ f. f.1.1)) c.last_name.ensures ∙ last_content 1 (map layer_item_of c.args.self.layer.now.items.items) in
    rw c.in_ok-found.was at whole
