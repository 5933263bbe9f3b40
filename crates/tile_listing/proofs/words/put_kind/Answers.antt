use Rattle.std.proofs.Common.{◌≡◌, ◌++◌, codes, decimal, append_assoc, rules}
use Rattle.tile_listing.specs.Listing.{kind_form}
use Rattle.tile_listing.proofs.KindWords.{form_of_other}
use Rattle.tile_listing.proofs.words.put_kind.Goals as goal

pub returns-in-None-2 : goal.returns-in-None-2
returns-in-None-2 c =
    let form : kind_form c.args.number ≡ codes "kind " ++ decimal c.args.number = form_of_other c.args.number c.if-number-eq-UNKNOWN.false c.in-None.ensures.none in
    rw form (search (rules, append_assoc))
