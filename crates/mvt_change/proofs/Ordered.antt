-- A change whose steps stand in either order: how many there are, and what they weigh.
use Rattle.std.proofs.Common.{◌≡◌, Bool, true, false, List, length, map, reverse, refl, sym, ap, ◌∙◌}
use Rattle.std.specs.Prelude.{if◌then◌else◌}
use Rattle.std.specs.List.{sum_by}
use Rattle.std.proofs.lemmas.List.{length-map, length-reverse}
use Rattle.std.proofs.lemmas.List.Sorted.{IsPermutation-reverse, sum_by-IsPermutation}
use Rattle.mvt_change.specs.declared.change.Change.{Change as HeldChange}
use Rattle.mvt_change.specs.declared.change.Step.{Step as HeldStep}
use Rattle.mvt_change.specs.ChangeStands.{change_of, step_of}
use Rattle.mvt_change.specs.Changes.{Change, step_weight, weight}
use Rattle.mvt_change.proofs.Changed.{map-reverse}

-- the steps as they stand, or the last first
abbrev pub either : Bool → List HeldStep → Change
either backwards steps = if backwards then reverse (map step_of steps) else map step_of steps

length_either : (backwards : Bool) (steps : List HeldStep) → length (either backwards steps) ≡ length steps
length_either true steps = length-reverse (map step_of steps) ∙ length-map steps step_of
length_either false steps = length-map steps step_of

weight_either : (backwards : Bool) (steps : List HeldStep) → weight (either backwards steps) ≡ sum_by step_weight (map step_of steps)
weight_either true steps = sum_by-IsPermutation step_weight (map step_of steps) (reverse (map step_of steps)) (IsPermutation-reverse (map step_of steps))
weight_either false steps = refl

pub length_of_change : (change : HeldChange) → length (change_of change) ≡ length change.steps.items
length_of_change change = length_either change.backwards change.steps.items

pub weight_of_change : (change : HeldChange) → weight (change_of change) ≡ sum_by step_weight (map step_of change.steps.items)
weight_of_change change = weight_either change.backwards change.steps.items

-- steps that are in order
pub in_order_of : (change : HeldChange) → change.backwards ≡ false → change_of change ≡ map step_of change.steps.items
in_order_of change order = ap (λ backwards. either backwards change.steps.items) order

-- steps that were turned in place are the change in order
pub reversed_in_order : (change : HeldChange) (items : List HeldStep) → change.backwards ≡ true → items ≡ reverse change.steps.items → map step_of items ≡ change_of change
reversed_in_order change items order is =
    ap (map step_of) is ∙ map-reverse step_of change.steps.items ∙ sym (ap (λ backwards. either backwards change.steps.items) order)

pub same_length : (change other : HeldChange) → change_of change ≡ change_of other → length change.steps.items ≡ length other.steps.items
same_length change other same = sym (length_of_change change) ∙ ap length same ∙ length_of_change other
