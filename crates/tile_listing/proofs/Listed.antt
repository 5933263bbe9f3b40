-- What is listed, case by case.
use Rattle.std.proofs.Common.{◌≡◌, ℕ, List, [], ◌++◌, Result, Ok, Err, refl, sym, ap, ◌∙◌, inl}
use Rattle.std.specs.Prelude.{IsErrAnd, IsOk}
use Rattle.mvt_document.specs.Held.{Held}
use Rattle.mvt_document.specs.Plain.{Document, Feature, Layer}
use Rattle.mvt_meaning.specs.Command.{FeatureChoice, LayerChoice}
use Rattle.mvt_meaning.specs.declared.refusal.Refusal.{Refusal}
use Rattle.mvt_meaning.specs.declared.refusal.Refusal.TheVariants.{NoMemory}
use Rattle.tile_arguments.specs.Request.{What, OneLayer, OneFeature}
use Rattle.tile_listing.specs.Listing.{Shows, chosen_feature, chosen_layer, joined_lines, lines_of_feature, lines_of_layer, listed, shown}

-- ---- what is shown

pub layer_shown : (choice : LayerChoice) (document : Document) (layer : ℕ × Layer) → chosen_layer choice document ≡ Ok layer → shown (OneLayer choice) document ≡ Ok (lines_of_layer layer.0 layer.1)
layer_shown choice document layer e = rw e refl

pub feature_shown : (layer_choice : LayerChoice) (choice : FeatureChoice) (document : Document) (layer : ℕ × Layer) (feature : ℕ × Feature) → chosen_layer layer_choice document ≡ Ok layer → chosen_feature choice layer.1 ≡ Ok feature → shown (OneFeature layer_choice choice) document ≡ Ok (lines_of_feature layer.1 feature.0 feature.1)
feature_shown layer_choice choice document layer feature e f = rw (e, f) refl

pub put_listed : (what : What) (document : Document) (lines : List (List ℕ)) (start put made : List ℕ) → shown what document ≡ Ok lines → start ≡ [] → put ≡ start ++ joined_lines lines → made ≡ put → listed what document ≡ Ok made
unfolding listed
put_listed what document lines start put made e none is same = rw e (ap Ok (sym (same ∙ is ∙ ap (λ (s : List ℕ). s ++ joined_lines lines) none)))

-- ---- where memory runs out

-- what has lines is not refused
has_lines : (what : What) (document : Document) (lines : List (List ℕ)) → shown what document ≡ Ok lines → IsOk (listed what document)
unfolding listed
has_lines what document lines e = rw e refl

-- memory runs out where there are lines to put
pub out_of_memory : (what : What) (document : Document) (lines : List (List ℕ)) (answer : Result (Held ℕ) Refusal) → shown what document ≡ Ok lines → IsErrAnd answer (λ refusal. refusal ≡ NoMemory) → Shows what document answer
out_of_memory what document lines (Ok made) e none = absurd none
out_of_memory what document lines (Err refusal) e none = inl (none, has_lines what document lines e)

-- ---- what is refused

pub layer_refused : (choice : LayerChoice) (document : Document) (refusal : Refusal) → chosen_layer choice document ≡ Err refusal → listed (OneLayer choice) document ≡ Err refusal
unfolding listed
layer_refused choice document refusal e = rw e refl

pub feature_layer_refused : (layer_choice : LayerChoice) (choice : FeatureChoice) (document : Document) (refusal : Refusal) → chosen_layer layer_choice document ≡ Err refusal → listed (OneFeature layer_choice choice) document ≡ Err refusal
unfolding listed
feature_layer_refused layer_choice choice document refusal e = rw e refl

pub feature_refused : (layer_choice : LayerChoice) (choice : FeatureChoice) (document : Document) (layer : ℕ × Layer) (refusal : Refusal) → chosen_layer layer_choice document ≡ Ok layer → chosen_feature choice layer.1 ≡ Err refusal → listed (OneFeature layer_choice choice) document ≡ Err refusal
unfolding listed
feature_refused layer_choice choice document layer refusal e f = rw (e, f) refl
