use Rattle.std.proofs.Common.{◌∷◌, [], map, refl, sym, subst, ◌∙◌, arith}
use Rattle.std.proofs.lemmas.List.{length-map, map-append}
use Rattle.mvt_document.specs.Runs.{IsRun}
use Rattle.mvt_document.proofs.Running.{spliced_at_end}
use Rattle.mvt_document.proofs.message.Message.run_pushed.Goals as goal

pub returns : goal.returns
returns g c =
    let f = g.T.Item.of_kind c.args.kind in
    let items = c.args.self.now.items in
    let x = c.args.item.now in
    let one = rw c.is_of.ensures at c.of_one.ensures in
    let long = length-map items f in
    let made = c.spliced.ensures (map f items) (f x ∷ []) c.run.ensures (omega (arith, long, c.len.ensures)) one refl in
    subst (IsRun c.spliced.result) (spliced_at_end (map f items) (f x ∷ []) c.len.result (omega (arith, long, c.len.ensures)) ∙ sym (map-append f items (x ∷ []))) made
