use Rattle.std.proofs.Common.{ap, ◌∙◌}
use Rattle.mvt_document.specs.Plain.{PlainInLayer}
use Rattle.mvt_document.specs.Stands.{layer_item_of}
use Rattle.mvt_meaning.specs.Fields.{new_content}
use Rattle.mvt_edit_attributes.proofs.Pushed.{one_more}
use Rattle.mvt_edit_attributes.proofs.pools.push_key.Goals as goal

pub returns : goal.returns
returns c =
    one_more layer_item_of c.args.entries.now.items c.push.new.self.items c.entry.result _ c.in_ok-push.ensures.items
    (c.entry.ensures ∙ ap (λ bytes. PlainInLayer (new_content 26 bytes)) (c.from_vec-key.ensures.items ∙ c.in_ok-from_slice.ensures.items))
