use Rattle.std.proofs.Common.{◌++◌, ◌∷◌, [], ap, ◌∙◌}
use Rattle.mvt_document.specs.Wire.{shortest}
use Rattle.mvt_edit_attributes.proofs.PairPut.{old_packed, puts_pair}
use Rattle.mvt_edit_attributes.proofs.tags_run.and_pair.Goals as goal

pub longer_tags-requires : goal.longer_tags-requires
longer_tags-requires c = old_packed c.args.fields.now c.last_packed.result c.last_packed.ensures c.of-spot.result.index c.of-spot.ensures.index c.get.result c.get.ensures.lookup

pub returns : goal.returns
returns c =
    let field = c.in_ok-longer_tags.field-0 in
    puts_pair c.args.fields.now c.last_packed.result c.last_packed.ensures c.of-spot.result.index c.of-spot.ensures.index c.get.result c.get.ensures.lookup (shortest c.args.key ++ shortest c.args.value) c.of-spot.result.take field c.push.new.self.items c.of-spot.ensures.take c.in_ok-longer_tags.ensures.field c.in_ok-longer_tags.ensures.valid (c.in_ok-push.ensures.items ∙ ap (λ list. list ++ field ∷ []) c.new-put.ensures.items)
