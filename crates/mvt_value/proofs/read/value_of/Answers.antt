use Rattle.std.proofs.Common.{◌≡◌, [], length, arith, append-nil, sym, ◌∙◌}
use Rattle.mvt_wire.specs.Fronts.{front_of}
use Rattle.mvt_value.proofs.Fields.{one_message, value_of_field, shown_value}
use Rattle.mvt_value.proofs.read.value_of.Goals as goal
use Rattle.mvt_value.proofs.read.value_of.Goals.{in_default-via-in-Some+else-length-bytes, in_default-via-in_default}

pub returns-in-Some-clause-only : goal.returns-in-Some-clause-only
returns-in-Some-clause-only c = λ v h.
    let f = front_of c.in-Some.field in
    let all : c.in-Some.length ≡ length c.args.bytes.now = omega (arith, c.if-length-bytes.true) in
    let has = value_of_field c.args.bytes.now f c.in-Some.ensures.valid c.in-Some.ensures.stored (rw all at c.in-Some.ensures.spelled) v h in
    rw c.unwrap_or.ensures (shown_value f v c.field_value.result _ c.field_value.ensures.found c.field_value.ensures.none has)

pub returns-in_default-clause-only : goal.returns-in_default-clause-only
returns-in_default-clause-only c = λ v h. absurd (
    elim c.in_default.branch [
      | in_default-via-in-Some+else-length-bytes w ↦
          let f = front_of w.in-Some.field in
          let one = one_message c.args.bytes.now f h.field w.in-Some.length w.in-Some.ensures.valid w.in-Some.ensures.stored h.valid h.stored w.in-Some.ensures.within w.in-Some.ensures.spelled h.spelled in
          w.if-length-bytes.false one.1
      | in_default-via-in_default w ↦ w.in_default.ensures.none (record { thing = h.field; holds = record { valid = h.valid; stored = h.stored }; rest = []; spelled = sym h.spelled ∙ sym (append-nil _) })
    ])
