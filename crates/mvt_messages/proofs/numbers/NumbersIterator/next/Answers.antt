use Rattle.std.proofs.Common.{◌≡◌, List, Result, ℕ, map, sym, ap, ◌∙◌}
use Rattle.mvt_document.specs.Stands.{field_of}
use Rattle.mvt_messages.specs.Left.{left}
use Rattle.mvt_messages.specs.Numbers.{Placed}
use Rattle.mvt_messages.specs.Seen.{left_of}
use Rattle.mvt_messages.proofs.Taken.{bad_left, none_left, one_left, packed_left}
use Rattle.mvt_messages.proofs.numbers.NumbersIterator.next.Goals.{then-is_empty+in_ok-field+in-Packed, else-is_empty}
use Rattle.mvt_messages.proofs.numbers.NumbersIterator.next.Goals as goal

pub returns-in_err-field-clause-steps : goal.returns-in_err-field-clause-steps
returns-in_err-field-clause-steps c =
    let i = c.self.inside in
    let none = sym c.self.view_is ∙ none_left i.packed i.number i.position i.fields.now (c.is_empty.ensures.0 c.if-is_empty.true) c.in_err-field.ensures.numbers in
    rw c.from_residual.ensures (none, none)

pub returns-in-One-clause-steps : goal.returns-in-One-clause-steps
returns-in-One-clause-steps c =
    let i = c.self.inside in
    sym c.self.view_is ∙ one_left i.packed i.number i.position c.in_ok-field.field i.fields.now c.in_ok-field.elements c.in-One.varint (c.is_empty.ensures.0 c.if-is_empty.true) c.in-One.is c.in_ok-field.ensures.numbers

pub returns-in-Ok-clause-steps : goal.returns-in-Ok-clause-steps
returns-in-Ok-clause-steps c =
    let i = c.self.inside in
    let s = c.if-is_empty.self-inside in
    let same : c.args.self.now ≡ left (left_of s.packed) s.number s.position (map field_of s.fields.now) =
    elim c.if-is_empty.branch [
      | then-is_empty+in_ok-field+in-Packed w ↦ rw w.self-inside-is (sym c.self.view_is ∙ packed_left i.packed i.number i.position w.in_ok-field.field i.fields.now w.in_ok-field.elements w.in-Packed.bytes (c.is_empty.ensures.0 w.if-is_empty.true) w.in-Packed.is w.in_ok-field.ensures.numbers)
      | else-is_empty w ↦ rw w.self-inside-is (sym c.self.view_is)
    ] in
    same ∙ ap (λ (at_hand : List (Result Placed ℕ)). left at_hand s.number s.position (map field_of s.fields.now)) c.in-Ok.ensures

pub returns-in-Err-clause-steps : goal.returns-in-Err-clause-steps
returns-in-Err-clause-steps c =
    let i = c.self.inside in
    let s = c.if-is_empty.self-inside in
    let same : c.args.self.now ≡ left (left_of s.packed) s.number s.position (map field_of s.fields.now) =
    elim c.if-is_empty.branch [
      | then-is_empty+in_ok-field+in-Packed w ↦ rw w.self-inside-is (sym c.self.view_is ∙ packed_left i.packed i.number i.position w.in_ok-field.field i.fields.now w.in_ok-field.elements w.in-Packed.bytes (c.is_empty.ensures.0 w.if-is_empty.true) w.in-Packed.is w.in_ok-field.ensures.numbers)
      | else-is_empty w ↦ rw w.self-inside-is (sym c.self.view_is)
    ] in
    same ∙ bad_left s.packed c.none-self-inside.result s.number s.position c.in-Err.bad.field s.fields.now c.in-Err.ensures.0 c.in-Err.ensures.1 c.none-self-inside.ensures
