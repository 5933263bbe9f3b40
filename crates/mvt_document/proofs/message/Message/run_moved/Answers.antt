use Rattle.std.proofs.Common.{◌∷◌, [], map, refl, subst, arith}
use Rattle.std.proofs.lemmas.List.{length-map}
use Rattle.mvt_document.specs.Runs.{IsRun}
use Rattle.mvt_document.specs.Splicing.{splice}
use Rattle.mvt_document.proofs.Running.{left_length, moved_values}
use Rattle.mvt_document.proofs.message.Message.run_moved.Goals as goal

pub returns : goal.returns
returns g c =
    let f = g.T.Item.of_kind c.args.kind in
    let items = c.args.self.now.items in
    let from = c.args.from in
    let x = c.index-items-from.result in
    let is = rw c.as_slice-items.ensures at c.index-items-from.is in
    let long = length-map items f in
    let left = c.spliced-left.ensures (map f items) [] c.run.ensures (omega (arith, long, c.requires.there)) (c.unknown.ensures []) refl in
    let one = rw c.is_of.ensures at c.of_one.ensures in
    let made = c.spliced.ensures (splice from 1 [] (map f items)) (f x ∷ []) left (omega (arith, long, c.requires.within, left_length from (map f items) (omega (arith, long, c.requires.there)))) one refl in
    subst (IsRun c.spliced.result) (moved_values f from c.args.to items x c.requires.there is) made
