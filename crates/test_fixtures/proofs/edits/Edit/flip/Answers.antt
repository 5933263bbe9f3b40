use Rattle.std.proofs.Common.{is_ok}
use Rattle.test_fixtures.proofs.Ready.{flipped}
use Rattle.test_fixtures.proofs.edits.Edit.flip.Goals as goal

pub invariant_of-self : goal.invariant_of-self
invariant_of-self c = rw (c.in_order.ensures.change, c.flip-flipped.ensures.document, c.flip-flipped.ensures.change) (flipped (is_ok c.flip-flipped.result) _ c.self.invariant)
