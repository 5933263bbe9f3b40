use Rattle.std.proofs.Common.{◌++◌, ap, ◌∙◌}
use Rattle.mvt_document.specs.Wire.{shortest}
use Rattle.mvt_edit_attributes.proofs.Pushed.{both_put, shortly}
use Rattle.mvt_edit_attributes.proofs.tags_run.and_numbers.Goals as goal

pub returns : goal.returns
returns c =
    let first = c.minimal-first in
    let second = c.minimal-second in
    c.from_vec.ensures.items
    ∙ both_put c.args.bytes.now (shortest c.args.first) (shortest c.args.second) c.in_ok-made.made.items c.extend_from_slice.new.self.items c.put.new.bytes.items c.put-2.new.bytes.items c.in_ok-made.ensures.items c.in_ok-extend_from_slice.ensures.items
    (c.in_ok-put.ensures.bytes ∙ ap (λ xs. c.extend_from_slice.new.self.items ++ xs) (shortly c.args.first first.result.value first.result.width first.ensures.value first.ensures.width))
    (c.in_ok-put-2.ensures.bytes ∙ ap (λ xs. c.put.new.bytes.items ++ xs) (shortly c.args.second second.result.value second.result.width second.ensures.value second.ensures.width))
