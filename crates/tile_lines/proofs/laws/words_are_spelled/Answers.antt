use Rattle.tile_lines.proofs.Again.{words_only}
use Rattle.tile_lines.proofs.Found.{words_found}
use Rattle.tile_lines.proofs.laws.words_are_spelled.Goals as goal

pub returns-clause-found : goal.returns-clause-found
returns-clause-found c = words_found

pub returns-clause-only : goal.returns-clause-only
returns-clause-only c = words_only
