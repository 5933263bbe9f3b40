use Rattle.std.proofs.lemmas.Result.{on_ok_weaker}
use Rattle.tile_listing.proofs.Puts.{numbers_put}
use Rattle.tile_listing.proofs.layer.put_layer_numbers.Goals as goal

pub returns : goal.returns
returns c =
    on_ok_weaker c.put_number-5.result
    (λ put. numbers_put c.args.text.now.items c.put_number.new.line.items c.put_number-2.new.line.items c.put_number-3.new.line.items c.put_number-4.new.line.items c.put_number-5.new.line.items _ _ _ _ _
    (rw c.version.ensures at c.in_ok-put_number.ensures)
    (rw c.extent.ensures at c.in_ok-put_number-2.ensures)
    (rw c.feature_count.ensures at c.in_ok-put_number-3.ensures)
    (rw c.key_count.ensures at c.in_ok-put_number-4.ensures)
    (rw c.value_count.ensures at put))
    c.put_number-5.ensures
