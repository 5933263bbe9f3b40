use Rattle.std.proofs.Common.{◌≡◌, ◌+◌, ◌-◌, ◌*◌, ◌^◌, ◌<◌, ◌≤◌, get_or, subst, sym, arith}
use Rattle.mvt_document.proofs.Steps.{EndsAt, IsReadFrom, ends_at, ends_nowhere, none_ends, none_fits, read-start, read-down, read_down_fits, read_whole}
use Rattle.mvt_document.proofs.varint.number_of_any_width.Goals as goal
use Rattle.mvt_document.proofs.varint.number_of_any_width.Goals.{else-last-eq9-via-then-last-eq9+else-bytes-gt-TENTH_BYTE_MAX, else-last-eq9-via-else-last-eq9}

pub returns-in_err-last-clause-none : goal.returns-in_err-last-clause-none
returns-in_err-last-clause-none c =
    rw c.from_residual.ensures (λ number. none_ends c.args.bytes.now (ends_nowhere c.args.bytes.now c.in_err-last.ensures) number.thing.value number.thing.width number.rest number.holds number.spelled)

pub returns-then-bytes-gt-TENTH_BYTE_MAX-clause-none : goal.returns-then-bytes-gt-TENTH_BYTE_MAX-clause-none
returns-then-bytes-gt-TENTH_BYTE_MAX-clause-none c =
    let ends : EndsAt c.args.bytes.now c.in_ok-last.last = ends_at c.args.bytes.now c.in_ok-last.last c.in_ok-last.ensures in
    λ number. none_fits c.args.bytes.now (λ k h. ends.high k (omega arith)) c.if-bytes-gt-TENTH_BYTE_MAX.true number.thing.value number.thing.width number.rest number.holds number.spelled

pub loop-index-init : goal.loop-index-init
loop-index-init c =
    let ends : EndsAt c.args.bytes.now c.in_ok-last.last = ends_at c.args.bytes.now c.in_ok-last.last c.in_ok-last.ensures in
    let nine : c.in_ok-last.last ≡ 9 → get_or c.args.bytes.now c.in_ok-last.last 0 ≤ 1 =
    elim c.else-last-eq9.branch [
      | else-last-eq9-via-then-last-eq9+else-bytes-gt-TENTH_BYTE_MAX w ↦
          λ e. subst (λ n. get_or c.args.bytes.now n 0 ≤ 1) (sym e) w.if-bytes-gt-TENTH_BYTE_MAX.false
      | else-last-eq9-via-else-last-eq9 w ↦ λ e. absurd (w.if-last-eq9.false e)
    ] in
    record {
      ends = ends;
      down = omega arith;
      read = subst (λ v. IsReadFrom c.args.bytes.now c.in_ok-last.last v c.in_ok-last.last) (sym c.from-value.ensures) (read-start c.args.bytes.now c.in_ok-last.last ends nine);
    }

pub overflow_mul-value : goal.overflow_mul-value
overflow_mul-value c =
    let fits : c.loop-index.value * 128 + 0 < 2 ^ 64 =
    read_down_fits c.args.bytes.now c.in_ok-last.last c.loop-index.value c.loop-index.index 0 c.loop-index.invariant.ends (omega arith) c.loop-index.invariant.down (omega arith) c.loop-index.invariant.read in
    omega arith

pub overflow_sub-bytes : goal.overflow_sub-bytes
overflow_sub-bytes c = c.loop-index.invariant.ends.high (c.loop-index.index - 1) (omega arith)

pub overflow_add-value : goal.overflow_add-value
overflow_add-value c =
    let low : c.from.result < 128 = omega (arith, c.type_inv.bytes (c.loop-index.index - 1), c.from.ensures) in
    let fits : c.loop-index.value * 128 + c.from.result < 2 ^ 64 =
    read_down_fits c.args.bytes.now c.in_ok-last.last c.loop-index.value c.loop-index.index c.from.result c.loop-index.invariant.ends (omega arith) c.loop-index.invariant.down low c.loop-index.invariant.read in
    omega arith

pub loop-index-preserved : goal.loop-index-preserved
loop-index-preserved c = record {
  ends = c.loop-index.invariant.ends;
  down = omega arith;
  read = read-down c.args.bytes.now c.in_ok-last.last c.loop-index.value c.loop-index.index c.from.result c.loop-index.invariant.ends (omega arith) c.loop-index.invariant.down c.from.ensures (omega (arith, c.type_inv.bytes (c.loop-index.index - 1))) c.loop-index.invariant.read;
}

pub returns-clause-valid : goal.returns-clause-valid
returns-clause-valid c = (read_whole c.args.bytes.now c.in_ok-last.last c.loop-index.value c.loop-index.index c.loop-index.invariant.ends (omega arith) c.loop-index.invariant.read).0

pub returns-clause-found : goal.returns-clause-found
returns-clause-found c = (read_whole c.args.bytes.now c.in_ok-last.last c.loop-index.value c.loop-index.index c.loop-index.invariant.ends (omega arith) c.loop-index.invariant.read).1
