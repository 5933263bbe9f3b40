-- Which plain values the values of the program stand for.
use Rattle.std.specs.Prelude.{ℕ, List, [], Result, map, slice_index_or}
use Rattle.std.specs.Borrow.{Bor}
use Rattle.std.specs.Result.{result_map_both}
use Rattle.mvt_document.specs.Plain.{Feature, Layer}
use Rattle.mvt_document.specs.Stands.{feature_of, layer_of}
use Rattle.mvt_layers.specs.declared.found.FoundFeature.{FoundFeature}
use Rattle.mvt_layers.specs.declared.found.FoundLayer.{FoundLayer}
use Rattle.mvt_meaning.specs.declared.refusal.Refusal.{Refusal}

-- a layer with its ordinal, or a refusal, as plain values
abbrev pub layer_found : Result FoundLayer Refusal → Result (ℕ × Layer) Refusal
layer_found answer = result_map_both (λ (found : FoundLayer). (found.ordinal, layer_of found.layer.now)) (λ refusal. refusal) answer

-- a feature with its ordinal, or a refusal, as plain values
abbrev pub feature_found : Result FoundFeature Refusal → Result (ℕ × Feature) Refusal
feature_found answer = result_map_both (λ (found : FoundFeature). (found.ordinal, feature_of found.feature.now)) (λ refusal. refusal) answer

-- what the slices hold
abbrev pub contents_of : List (Bor (List ℕ)) → List (List ℕ)
contents_of slices = map (λ (slice : Bor (List ℕ)). slice.now) slices

-- the key and the value that a pair names
abbrev pub named_by : List (List ℕ) → List (List ℕ) → ℕ × ℕ → List ℕ × List ℕ
named_by keys values pair = (slice_index_or keys pair.0 [], slice_index_or values pair.1 [])
