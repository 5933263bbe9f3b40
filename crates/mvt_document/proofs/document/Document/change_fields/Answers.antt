use Rattle.std.proofs.Common.{◌≡◌, refl}
use Rattle.mvt_document.specs.HeldPlaces.{held_items_at, held_fields_in_at, in_held_feature, change_held_at}
use Rattle.mvt_document.specs.Made.{MakesThere}
use Rattle.mvt_document.proofs.Placing.{made_there, fields_made}
use Rattle.mvt_document.proofs.document.Document.change_fields.Goals as goal

pub returns : goal.returns
returns g c =
    let found = held_items_at c.args.layer c.args.self.now in
    fields_made g.F.FnOnce c.args.change c.args.layer c.args.item c.args.self.now c.change_items.new.self c.args.beside.now c.change_items.result c.change_items.new.beside found refl
    (made_there _ _ _ _ _ _ _ c.change_items.ensures (λ x y r v w. MakesThere g.F.FnOnce c.args.change (held_fields_in_at c.args.item x) y r w (λ inner. v ≡ change_held_at (in_held_feature (λ z. inner)) c.args.item x)) (λ x y r v w met. met))
