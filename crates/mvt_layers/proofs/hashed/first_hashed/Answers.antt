use Rattle.std.proofs.Common.{◌≡◌, ℕ, ◌+◌, ◌-◌, map, ap, ◌∙◌, arith}
use Rattle.mvt_document.specs.declared.run.Kind.TheVariants.{Message}
use Rattle.mvt_document.specs.Kinds.{in_layer_of_kind}
use Rattle.mvt_document.specs.Stands.{layer_item_of}
use Rattle.mvt_layers.specs.WithId.{with_id_from}
use Rattle.mvt_layers.proofs.ByHash.{with_id-there}
use Rattle.mvt_layers.proofs.InRun.{inside_run}
use Rattle.mvt_layers.proofs.hashed.first_hashed.Goals as goal

pub returns-in-Some-clause-found : goal.returns-in-Some-clause-found
returns-in-Some-clause-found c =
    let l = c.loop-position in
    let ordinal = c.args.first + (l.position - c.args.start) in
    l.invariant.rest
    ∙ with_id-there c.args.id ordinal l.position c.args.features c.args.items.now c.index-items-position.result c.requires.run (omega (arith, c.requires.within, l.invariant.start)) (omega (arith, c.loop-position-test.true, c.requires.known)) c.index-items-position.is c.in-Some.ensures

pub loop-position-preserved : goal.loop-position-preserved
loop-position-preserved c =
    let l = c.loop-position in
    let ordinal = c.args.first + (l.position - c.args.start) in
    let next : ordinal + 1 ≡ c.args.first + (l.position + 1 - c.args.start) = omega (arith, l.invariant.start) in
    record {
      start = omega (arith, l.invariant.start);
      rest = l.invariant.rest
          ∙ with_id-there c.args.id ordinal l.position c.args.features c.args.items.now c.index-items-position.result c.requires.run (omega (arith, c.requires.within, l.invariant.start)) (omega (arith, c.loop-position-test.true, c.requires.known)) c.index-items-position.is c.in_default.ensures
          ∙ ap (λ (o : ℕ). with_id_from c.args.id o (l.position + 1) (map layer_item_of c.args.items.now)) next;
    }

pub bounds-items-position : goal.bounds-items-position
bounds-items-position c = inside_run (in_layer_of_kind Message) c.args.features c.args.items.now c.loop-position.position c.args.end c.requires.run c.requires.known c.loop-position-test.true

pub returns-in-Some-clause-within : goal.returns-in-Some-clause-within
returns-in-Some-clause-within c = (
  omega (arith, c.requires.before, c.loop-position.invariant.start),
  inside_run (in_layer_of_kind Message) c.args.features c.args.items.now c.loop-position.position c.args.end c.requires.run c.requires.known c.loop-position-test.true,
)
