use Rattle.std.proofs.Common.{◌≡◌, ℕ, List, ◌++◌, subst}
use Rattle.std.specs.Prelude.{OnOk}
use Rattle.tile_listing.proofs.Shown.{shown_is}
use Rattle.tile_listing.proofs.words.put_shown_value.Goals as goal

pub returns : goal.returns
returns c =
    let same = shown_is c.args.bytes.now c.value_of.result c.value_of.ensures.value c.value_of.ensures.only c.value_of.ensures.raw in
    subst (λ (form : List ℕ). OnOk c.put_value.result (c.put_value.new.line.items ≡ c.args.line.now.items ++ form)) same c.put_value.ensures.ok
