use Rattle.std.proofs.Common.{arith}
use Rattle.mvt_document.proofs.Steps.{first_spelling, first_is, two_are, two_spelling}
use Rattle.mvt_document.proofs.varint.read_varint.Goals as goal
use Rattle.mvt_document.proofs.varint.read_varint.Goals.{in-len1-up, in-len2-up, in_default+in_ok-value-in_default}

pub invariant_of-result : goal.invariant_of-result
invariant_of-result c = record {
  spelled = elim c.if-bytes-lt1.branch [
    | in-len1-up w ↦ rw w.value-is (first_spelling w.from.result (omega (arith, w.from.ensures, w.if-only-lt128.true)))
    | in-len2-up w ↦
        rw w.value-is (two_spelling w.from-in-len2-up-2.result w.from-in-len2-up.result (omega (arith, w.from-in-len2-up-2.ensures, c.type_inv.bytes 0)) (omega (arith, w.from-in-len2-up.ensures, w.if-last-lt128.true)))
    | in_default+in_ok-value-in_default w ↦ rw w.value-is w.in_ok-value-in_default.ensures.valid
  ];
}

pub returns-clause-found : goal.returns-clause-found
returns-clause-found c =
    elim c.if-bytes-lt1.branch [
      | in-len1-up w ↦
          rw w.value-is (first_is c.args.bytes.now w.from.result (omega (arith, w.in-len1-up.len_at_least)) (omega (arith, w.from.ensures)) (omega (arith, w.from.ensures, w.if-only-lt128.true)))
      | in-len2-up w ↦
          rw w.value-is (two_are c.args.bytes.now w.from-in-len2-up-2.result w.from-in-len2-up.result (omega (arith, w.in-len2-up.len_at_least)) (omega (arith, w.from-in-len2-up-2.ensures, w.if-first-ge128.true)) (omega (arith, w.from-in-len2-up.ensures)) (omega (arith, w.from-in-len2-up-2.ensures, c.type_inv.bytes 0)) (omega (arith, w.from-in-len2-up.ensures, w.if-last-lt128.true)))
      | in_default+in_ok-value-in_default w ↦ rw w.value-is w.in_ok-value-in_default.ensures.found
    ]
