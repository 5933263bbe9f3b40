use Rattle.std.proofs.Common.{◌∙◌, ap, length, arith}
use Rattle.std.specs.List.{flat_map}
use Rattle.mvt_splices.proofs.Runs.{known_is, weighed}
use Rattle.mvt_splices.proofs.run.exchange_one.Goals as goal

pub overflow_sub-result : goal.overflow_sub-result
overflow_sub-result g c =
    let bytes = g.T.Measured.bytes in
    let items = c.args.gap.now.items in
    let of = g.S.Splices.splice_of in
    let gone = c.put-2.ensures ∙ ap (λ s. (of s).put.items) c.exchange-2.ensures.turned ∙ ap (λ s. s.put.items) (g.met.S.Splices.turned_splice c.args.step.now items) in
    omega (
      arith,
      weighed bytes (of c.args.step.now) items c.put-2.result.now gone,
      ap (λ put. length (flat_map bytes put)) c.put.ensures,
      known_is c.args.size (length (flat_map bytes items)) c.in-Some.known c.requires.size c.in-Some.is,
      c.in_ok-come.ensures,
      c.in_ok-checked_add.ensures,
      c.in_ok-gone.ensures,
    )

pub returns-clause-size : goal.returns-clause-size
returns-clause-size g c =
    let bytes = g.T.Measured.bytes in
    let items = c.args.gap.now.items in
    let of = g.S.Splices.splice_of in
    let gone = c.put-2.ensures ∙ ap (λ s. (of s).put.items) c.exchange-2.ensures.turned ∙ ap (λ s. s.put.items) (g.met.S.Splices.turned_splice c.args.step.now items) in
    omega (
      arith,
      weighed bytes (of c.args.step.now) items c.put-2.result.now gone,
      ap (λ put. length (flat_map bytes put)) c.put.ensures,
      ap (λ list. length (flat_map bytes list)) c.exchange-2.ensures.items,
      known_is c.args.size (length (flat_map bytes items)) c.in-Some.known c.requires.size c.in-Some.is,
      c.in_ok-come.ensures,
      c.in_ok-checked_add.ensures,
      c.in_ok-gone.ensures,
    )
