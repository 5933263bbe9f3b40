use Rattle.std.proofs.Common.{◌-◌, ◌/◌, drop, [], ◌∷◌, ◌++◌, append_assoc, ap, ◌∙◌, arith}
use Rattle.std.proofs.lemmas.List.{length-take}
use Rattle.mvt_document.proofs.Spelling.{length-spell, minimal_width_some}
use Rattle.mvt_document.proofs.Steps.{one_below, one_is, two_below, two_is}
use Rattle.mvt_document.proofs.varint.Varint.put.Goals as goal

pub overflow_cast-self : goal.overflow_cast-self
overflow_cast-self c = omega (arith, one_below c.args.self.value c.args.self.width c.args.self.spelled c.if-self-eq1.true)

pub returns-then-self-eq1-clause-bytes : goal.returns-then-self-eq1-clause-bytes
returns-then-self-eq1-clause-bytes c =
    c.in_ok-push.ensures.items ∙ ap (λ xs. c.args.bytes.now.items ++ xs) (one_is c.args.self.value c.args.self.width c.args.self.spelled c.if-self-eq1.true)

pub overflow_cast-self-then-self-eq2-2 : goal.overflow_cast-self-then-self-eq2-2
overflow_cast-self-then-self-eq2-2 c = omega (arith, two_below c.args.self.value c.args.self.width c.args.self.spelled c.if-self-eq2.true)

pub returns-then-self-eq2-clause-bytes : goal.returns-then-self-eq2-clause-bytes
returns-then-self-eq2-clause-bytes c =
    c.in_ok-push-3.ensures.items
    ∙ ap (λ xs. xs ++ (c.args.self.value / 128) ∷ []) c.in_ok-push-2.ensures.items
    ∙ append_assoc c.args.bytes.now.items _ _
    ∙ ap (λ xs. c.args.bytes.now.items ++ xs) (two_is c.args.self.value c.args.self.width c.args.self.spelled c.if-self-eq2.true)

pub put_number-start-requires-clause-some : goal.put_number-start-requires-clause-some
put_number-start-requires-clause-some c = omega (arith, minimal_width_some c.args.self.value, c.args.self.spelled.wide)

pub returns-clause-succeeds : goal.returns-clause-succeeds
returns-clause-succeeds c fits =
    let start = c.put_number-start.result in
    c.extend_from_slice.ensures.succeeds
    (omega (
      arith,
      fits,
      c.put_number-start.ensures.counted,
      length-spell c.args.self.value c.args.self.width,
      length-take (10 - start) (drop start c.put_number-start.new.room),
    ))
