use Rattle.std.proofs.Common.{rules}
use Rattle.std.proofs.lemmas.Fn.{always_returns_same}
use Rattle.mvt_history_steps.specs.Marks.{compared}
use Rattle.mvt_history_steps.proofs.MarkPlaces.{placed}
use Rattle.mvt_history_steps.proofs.marks.place_of.Goals as goal

-- the closure compares a mark's name with the name
pub returns : goal.returns
returns c =
    let name = c.args.name.now in
    let facts = c.binary_search_by.ensures in
    placed name c.args.marks.now c.binary_search_by.result c.requires facts.bound (facts.position (λ mark. compared mark.name.items name) (always_returns_same _ _ _ (λ a r f called. search rules)))
