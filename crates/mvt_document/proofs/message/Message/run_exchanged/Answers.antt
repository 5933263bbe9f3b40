use Rattle.std.proofs.Common.{map, subst, arith}
use Rattle.std.proofs.lemmas.List.{length-map}
use Rattle.mvt_document.specs.Runs.{IsRun}
use Rattle.mvt_document.proofs.Running.{spliced_values}
use Rattle.mvt_document.proofs.message.Message.run_exchanged.Goals as goal

pub returns : goal.returns
returns g c =
    let f = g.T.Item.of_kind c.args.kind in
    let items = c.args.self.now.items in
    let put = c.args.put.now.items in
    let made = c.spliced.ensures (map f items) (map f put) c.run.ensures (omega (arith, length-map items f, c.requires.there)) c.requires.put (omega (arith, length-map put f, c.len.ensures)) in
    subst (IsRun c.spliced.result) (spliced_values f c.args.index c.args.taken put items) made
