use Rattle.mvt_document.specs.declared.run.Kind.TheVariants as kind
use Rattle.mvt_document.proofs.Running.{run_with_part}
use Rattle.mvt_document.proofs.run.runs_with_part.Goals as goal

pub returns : goal.returns
returns g c = λ items known all.
    let of_kind = g.T.Item.of_kind in
    let part = c.args.part.now in
    let following = c.runs_of_part-following.ensures in
    record {
      names = run_with_part (of_kind kind.Name) items part c.args.seen all known.names following.names c.spliced.ensures;
      messages = run_with_part (of_kind kind.Message) items part c.args.seen all known.messages following.messages c.spliced-2.ensures;
      keys = run_with_part (of_kind kind.Key) items part c.args.seen all known.keys following.keys c.spliced-3.ensures;
      values = run_with_part (of_kind kind.Value) items part c.args.seen all known.values following.values c.spliced-4.ensures;
    }
