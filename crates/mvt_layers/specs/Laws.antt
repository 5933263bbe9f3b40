-- Laws of the attributes of a feature.
use Rattle.std.specs.Prelude.{◌≡◌, ℕ, List, Some, length, slice_get}
use Rattle.std.specs.List.{AllByRecursion}
use Rattle.mvt_document.specs.Plain.{Layer, Feature}
use Rattle.mvt_messages.specs.Numbers.{numbers}
use Rattle.mvt_messages.specs.Views.{keys, values}
use Rattle.mvt_messages.specs.Attributes.{pairs_of, attribute_at}
use Rattle.mvt_messages.specs.Tags.{plain_pairs, tag_pairs}

-- both ordinals of the pair are those of a key and of a value of the layer, which are its attribute (tiles 4.4)
pub record Names (layer : Layer) (pair : ℕ × ℕ) : Type 0 where
  pub key : slice_get (keys layer) pair.0 ≡ Some (attribute_at layer pair).0
  pub value : slice_get (values layer) pair.1 ≡ Some (attribute_at layer pair).1

-- each pair that the tags of a feature make names a key and a value of the layer (tiles 4.4)
abbrev pub PairsName : Type 0
PairsName = (layer : Layer) (feature : Feature) (pairs : List (ℕ × ℕ)) → pairs_of layer feature ≡ Some pairs → AllByRecursion (Names layer) pairs

-- the tags of a feature taken pair by pair, without their numbers, are the pairs that they make; where they make none,
-- an error is among them (tiles 4.4)
abbrev pub TagsArePairs : Type 0
TagsArePairs = (layer : Layer) (feature : Feature) → plain_pairs (tag_pairs (length (keys layer)) (length (values layer)) (numbers 2 feature.fields)) ≡ pairs_of layer feature
