-- What the laws of listings rest on.
use Rattle.std.proofs.Common.{◌≡◌, ◌≢◌, ℕ, Bool, true, false, List, [], ◌∷◌, length, Option, Some, None, Result, Ok, Err, refl, ap, subst}
use Rattle.std.specs.Prelude.{if◌then◌else◌, nat_lt, slice_get}
use Rattle.std.specs.Option.{ok_or}
use Rattle.std.proofs.lemmas.List.Elements.{All-from_recursion}
use Rattle.mvt_document.specs.Plain.{Document, Layer}
use Rattle.mvt_meaning.specs.Command.{LayerChoice, FeatureChoice, AtOrdinal, Named, FeatureAtOrdinal, WithId}
use Rattle.mvt_messages.specs.Views.{features, has_id, is_named, layers, ordinals_of, the_one}
use Rattle.mvt_meaning.specs.Meaning.{◌>>=◌}
use Rattle.mvt_meaning.specs.Selection.{selected, selected_feature}
use Rattle.mvt_meaning.specs.declared.refusal.Refusal.{Refusal}
use Rattle.mvt_meaning.specs.declared.refusal.Refusal.TheVariants.{NoLayer, AmbiguousLayer, NoFeature, AmbiguousFeature, NoMemory}
use Rattle.tile_arguments.specs.Request.{What, Whole, OneLayer, OneFeature}
use Rattle.tile_listing.specs.Listing.{chosen_feature, chosen_layer, joined_lines, lines_of_feature, lines_of_layer, lines_of_tile, listed, shown, with_ordinal}
use Rattle.tile_listing.specs.Laws.{ListingsAreLines, NoListingIsOutOfMemory}
use Rattle.tile_listing.specs.Printed.{MayBePrinted, AreLinesToPrint}
use Rattle.tile_listing.proofs.LineLaws.{MayAllBePrinted, feature_may, layer_may, tile_may}

-- ---- lines

found_may : {A : Type 0} (found : Result A Refusal) (show : A → List (List ℕ)) (lines : List (List ℕ)) → ((x : A) → MayAllBePrinted (show x)) → (found >>= λ x. Ok (show x)) ≡ Ok lines → MayAllBePrinted lines
found_may (Ok x) show lines may e = let same : show x ≡ lines = cc in subst MayAllBePrinted same (may x)
found_may (Err refusal) show lines may e = absurd cc

found_twice_may : {A B : Type 0} (found : Result A Refusal) (next : A → Result B Refusal) (show : A → B → List (List ℕ)) (lines : List (List ℕ)) → ((x : A) (y : B) → MayAllBePrinted (show x y)) → (found >>= λ x. (next x >>= λ y. Ok (show x y))) ≡ Ok lines → MayAllBePrinted lines
found_twice_may (Ok x) next show lines may e = found_may (next x) (show x) lines (may x) e
found_twice_may (Err refusal) next show lines may e = absurd cc

shown_may : (what : What) (document : Document) (lines : List (List ℕ)) → shown what document ≡ Ok lines → MayAllBePrinted lines
shown_may Whole document lines e = let same : lines_of_tile document ≡ lines = cc in subst MayAllBePrinted same (tile_may document)
shown_may (OneLayer choice) document lines e = found_may (chosen_layer choice document) (λ layer. lines_of_layer layer.0 layer.1) lines (λ layer. layer_may layer.0 layer.1) e
shown_may (OneFeature choice feature_choice) document lines e =
    found_twice_may (chosen_layer choice document) (λ layer. chosen_feature feature_choice layer.1) (λ layer feature. lines_of_feature layer.1 feature.0 feature.1) lines (λ layer feature. feature_may layer.1 feature.0 feature.1) e

printed : (found : Result (List (List ℕ)) Refusal) (bytes : List ℕ) → ((lines : List (List ℕ)) → found ≡ Ok lines → MayAllBePrinted lines) → (found >>= λ lines. Ok (joined_lines lines)) ≡ Ok bytes → AreLinesToPrint bytes
printed (Ok lines) bytes may e = record { lines = lines; spelled = cc; each = All-from_recursion MayBePrinted lines (may lines refl) }
printed (Err refusal) bytes may e = absurd cc

pub listings_are_lines : ListingsAreLines
unfolding listed
listings_are_lines what document bytes e = printed (shown what document) bytes (shown_may what document) e

-- ---- refusals

none_out_of_memory_then : {A B : Type 0} (found : Result A Refusal) (next : A → Result B Refusal) → found ≢ Err NoMemory → ((x : A) → next x ≢ Err NoMemory) → (found >>= next) ≢ Err NoMemory
none_out_of_memory_then (Ok x) next none others e = others x e
none_out_of_memory_then (Err refusal) next none others e = let same : refusal ≡ NoMemory = cc in none (ap Err same)

ok_is_not_out_of_memory : {A : Type 0} (x : A) → Ok x ≢ Err NoMemory
ok_is_not_out_of_memory x e = cc

one_is_not_out_of_memory : (none several : Refusal) → none ≢ NoMemory → several ≢ NoMemory → (ordinals : List ℕ) → the_one none several ordinals ≢ Err NoMemory
one_is_not_out_of_memory none several h k [] e = h cc
one_is_not_out_of_memory none several h k (ordinal ∷ []) e = cc
one_is_not_out_of_memory none several h k (ordinal ∷ next ∷ more) e = k cc

if_is_not_out_of_memory : (b : Bool) (ordinal : ℕ) (none : Refusal) → none ≢ NoMemory → (if b then Ok ordinal else Err none) ≢ Err NoMemory
if_is_not_out_of_memory true ordinal none h e = cc
if_is_not_out_of_memory false ordinal none h e = h cc

found_is_not_out_of_memory : {A : Type 0} (found : Option A) (none : Refusal) → none ≢ NoMemory → ok_or found none ≢ Err NoMemory
found_is_not_out_of_memory None none h e = h cc
found_is_not_out_of_memory (Some x) none h e = cc

selected_is_not_out_of_memory : (choice : LayerChoice) (document : Document) → selected choice document ≢ Err NoMemory
selected_is_not_out_of_memory (AtOrdinal ordinal) document = if_is_not_out_of_memory (nat_lt ordinal (length (layers document))) ordinal NoLayer (λ e. cc)
selected_is_not_out_of_memory (Named name) document = one_is_not_out_of_memory NoLayer AmbiguousLayer (λ e. cc) (λ e. cc) (ordinals_of (is_named name) (layers document))

feature_is_not_out_of_memory : (choice : FeatureChoice) (layer : Layer) → selected_feature choice layer ≢ Err NoMemory
feature_is_not_out_of_memory (FeatureAtOrdinal ordinal) layer = if_is_not_out_of_memory (nat_lt ordinal (length (features layer))) ordinal NoFeature (λ e. cc)
feature_is_not_out_of_memory (WithId id) layer = one_is_not_out_of_memory NoFeature AmbiguousFeature (λ e. cc) (λ e. cc) (ordinals_of (has_id id) (features layer))

ordinal_is_not_out_of_memory : {A : Type 0} (none : Refusal) (items : List A) (ordinal : ℕ) → none ≢ NoMemory → with_ordinal none items ordinal ≢ Err NoMemory
ordinal_is_not_out_of_memory none items ordinal h = none_out_of_memory_then (ok_or (slice_get items ordinal) none) (λ item. Ok (ordinal, item)) (found_is_not_out_of_memory (slice_get items ordinal) none h) (λ item. ok_is_not_out_of_memory (ordinal, item))

layer_is_not_out_of_memory : (choice : LayerChoice) (document : Document) → chosen_layer choice document ≢ Err NoMemory
layer_is_not_out_of_memory choice document = none_out_of_memory_then (selected choice document) (with_ordinal NoLayer (layers document)) (selected_is_not_out_of_memory choice document) (λ ordinal. ordinal_is_not_out_of_memory NoLayer (layers document) ordinal (λ e. cc))

chosen_is_not_out_of_memory : (choice : FeatureChoice) (layer : Layer) → chosen_feature choice layer ≢ Err NoMemory
chosen_is_not_out_of_memory choice layer = none_out_of_memory_then (selected_feature choice layer) (with_ordinal NoFeature (features layer)) (feature_is_not_out_of_memory choice layer) (λ ordinal. ordinal_is_not_out_of_memory NoFeature (features layer) ordinal (λ e. cc))

shown_is_not_out_of_memory : (what : What) (document : Document) → shown what document ≢ Err NoMemory
shown_is_not_out_of_memory Whole document = ok_is_not_out_of_memory (lines_of_tile document)
shown_is_not_out_of_memory (OneLayer choice) document = none_out_of_memory_then (chosen_layer choice document) (λ layer. Ok (lines_of_layer layer.0 layer.1)) (layer_is_not_out_of_memory choice document) (λ layer. ok_is_not_out_of_memory (lines_of_layer layer.0 layer.1))
shown_is_not_out_of_memory (OneFeature choice feature_choice) document =
    none_out_of_memory_then (chosen_layer choice document) (λ layer. (chosen_feature feature_choice layer.1 >>= λ feature. Ok (lines_of_feature layer.1 feature.0 feature.1))) (layer_is_not_out_of_memory choice document)
    (λ layer. none_out_of_memory_then (chosen_feature feature_choice layer.1) (λ feature. Ok (lines_of_feature layer.1 feature.0 feature.1)) (chosen_is_not_out_of_memory feature_choice layer.1) (λ feature. ok_is_not_out_of_memory (lines_of_feature layer.1 feature.0 feature.1)))

pub no_listing_is_out_of_memory : NoListingIsOutOfMemory
unfolding listed
no_listing_is_out_of_memory what document = none_out_of_memory_then (shown what document) (λ lines. Ok (joined_lines lines)) (shown_is_not_out_of_memory what document) (λ lines. ok_is_not_out_of_memory (joined_lines lines))
