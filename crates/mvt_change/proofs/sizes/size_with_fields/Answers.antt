use Rattle.std.proofs.Common.{◌≡◌, ◌+◌, List, ◌++◌, length, length-append, ap, ◌∙◌, arith}
use Rattle.std.proofs.lemmas.List.Concat.{flat_map-append}
use Rattle.std.specs.List.{flat_map}
use Rattle.mvt_document.specs.declared.TheConstants.{MAX_FILE}
use Rattle.mvt_document.specs.Plain.{LayerItem}
use Rattle.mvt_document.specs.Stands.{layer_of}
use Rattle.mvt_document.specs.Wire.{layer_item_bytes}
use Rattle.mvt_document.specs.Lists.{change_at}
use Rattle.mvt_document.specs.Places.{in_feature}
use Rattle.mvt_document.proofs.Sizes.{same_size}
use Rattle.mvt_change.proofs.sizes.size_with_fields.Goals as goal

joined_size : (items more : List LayerItem) → length (flat_map layer_item_bytes (items ++ more)) ≡ length (flat_map layer_item_bytes items) + length (flat_map layer_item_bytes more)
joined_size items more = ap length (flat_map-append layer_item_bytes items more) ∙ length-append (flat_map layer_item_bytes items) (flat_map layer_item_bytes more)

pub returns : goal.returns
returns c = λ change more takes comes.
    let both = joined_size (change_at (in_feature change) c.args.item (layer_of c.args.layer.now).items) more in
    let old = c.items_size.ensures change takes in
    let first = (rw c.in_ok-items_size.was at old).1 in
    let second = (rw c.in_ok-following.was at comes).1 in
    same_size MAX_FILE c.sum_within.result _ _ (omega (arith, both, first, second)) c.sum_within.ensures

pub returns-in_err-items_size : goal.returns-in_err-items_size
returns-in_err-items_size c = λ change more takes comes.
    let both = joined_size (change_at (in_feature change) c.args.item (layer_of c.args.layer.now).items) more in
    let none = rw c.in_err-items_size.was at c.items_size.ensures change takes in
    rw c.from_residual.ensures (λ within. none (omega (arith, both, within)))

pub returns-in_err-following : goal.returns-in_err-following
returns-in_err-following c = λ change more takes comes.
    let both = joined_size (change_at (in_feature change) c.args.item (layer_of c.args.layer.now).items) more in
    let none = rw c.in_err-following.was at comes in
    rw c.from_residual-in_err-following.ensures (λ within. none (omega (arith, both, within)))
