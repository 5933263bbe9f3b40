-- The features with an id, where the items are those of a run.
use Rattle.std.proofs.Common.{◌≡◌, ℕ, zero, suc, ◌+◌, ◌<◌, ◌≤◌, Bool, true, false, Option, Some, None, List, [], ◌∷◌, ◌++◌, length, drop, get_or, map, option_map, refl, sym, ap, ◌∙◌, append_assoc, arith}
use Rattle.std.specs.Prelude.{if◌then◌else◌, replicate}
use Rattle.std.specs.List.{cons_option, enumerate_from}
use Rattle.mvt_document.specs.declared.document.LayerItem.{LayerItem}
use Rattle.mvt_document.specs.declared.document.LayerItem.TheVariants as in_layer
use Rattle.mvt_document.specs.declared.run.Kind.TheVariants.{Message}
use Rattle.mvt_document.specs.declared.run.Run.{Run}
use Rattle.mvt_document.specs.Kinds.{in_layer_of_kind, is_feature}
use Rattle.mvt_document.specs.Plain.{Feature}
use Rattle.mvt_document.specs.Runs.{IsRunOf}
use Rattle.mvt_document.specs.Stands.{feature_of, layer_item_of}
use Rattle.mvt_messages.specs.Found.{with_id}
use Rattle.mvt_messages.specs.Views.{feature_in, has_id}
use Rattle.mvt_layers.specs.WithId.{feature_with_id, with_id_from}
use Rattle.mvt_layers.proofs.InRun.{run_within}
use Rattle.mvt_layers.proofs.Placing.{placed_from-more}

in_run : {X : Type 0} (f : X → Bool) (first count at : ℕ) (tail : List Bool) (items : List X) (x : X) → map f items ≡ replicate first false ++ (replicate count true ++ tail) → first ≤ at → at < first + count → x ≡ get_or items at x → f x ≡ true
in_run f zero zero at tail items x e from before is = absurd (omega arith)
in_run f zero (suc count) at tail [] x e from before is = absurd (cc)
in_run f (suc first) count at tail [] x e from before is = absurd (cc)
in_run f (suc first) count zero tail (y ∷ items) x e from before is = absurd (omega arith)
in_run f (suc first) count (suc at) tail (y ∷ items) x e from before is = in_run f first count at tail items x (ap (drop 1) e) (omega (arith, from)) (omega (arith, before)) is
in_run f zero (suc count) zero tail (y ∷ items) x e from before is =
    let one : f y ≡ true = cc in
    ap f is ∙ one
in_run f zero (suc count) (suc at) tail (y ∷ items) x e from before is = in_run f zero count at tail items x (ap (drop 1) e) (omega arith) (omega (arith, before)) is

-- an item of the run is a feature
pub feature_there : (run : Run) (items : List LayerItem) (at : ℕ) (x : LayerItem) → IsRunOf (in_layer_of_kind Message) run items → run.first ≤ at → at < run.first + run.count → x ≡ get_or items at x → is_feature x ≡ true
feature_there run items at x h from before is =
    let F = replicate run.first false in
    let C = replicate run.count true in
    let B = replicate h.following false in
    in_run is_feature run.first run.count at (B ++ h.rest) items x (h.is ∙ append_assoc F (C ++ B) h.rest ∙ ap (λ t. F ++ t) (append_assoc C B h.rest)) from before is

one_kept : {A : Type 0} (is : Bool) (ordinal position : ℕ) (x : A) (rest : List (ℕ × (ℕ × A))) → (if is then (ordinal, (position, x)) ∷ rest else rest) ≡ cons_option (option_map (λ f. (ordinal, (position, f))) (if is then Some x else None)) rest
one_kept true ordinal position x rest = refl
one_kept false ordinal position x rest = refl

-- what is left from a feature on is that one, where it has the id, and what is left after it
pub with_id-more : (id ordinal position : ℕ) (items : List LayerItem) (x : LayerItem) → position < length items → x ≡ get_or items position x → is_feature x ≡ true
    → with_id_from id ordinal position (map layer_item_of items) ≡ cons_option (option_map (λ f. (ordinal, (position, f))) (feature_with_id id (layer_item_of x))) (with_id_from id (ordinal + 1) (position + 1) (map layer_item_of items))
with_id-more id ordinal position items (in_layer.Feature feature) inside is one =
    ap (λ (placed : List (ℕ × Feature)). with_id id (enumerate_from ordinal placed)) (placed_from-more layer_item_of feature_in position items (in_layer.Feature feature) inside is)
    ∙ one_kept (has_id id (feature_of feature)) ordinal position (feature_of feature) (with_id_from id (ordinal + 1) (position + 1) (map layer_item_of items))
with_id-more id ordinal position items (in_layer.Plain field) inside is one = absurd (cc)

-- the same for an item of the run, whose feature with the id has been looked up
pub with_id-there : {found : Option Feature} (id ordinal position : ℕ) (run : Run) (items : List LayerItem) (x : LayerItem) → IsRunOf (in_layer_of_kind Message) run items → run.first ≤ position → position < run.first + run.count
    → x ≡ get_or items position x → found ≡ feature_with_id id (layer_item_of x)
    → with_id_from id ordinal position (map layer_item_of items) ≡ cons_option (option_map (λ f. (ordinal, (position, f))) found) (with_id_from id (ordinal + 1) (position + 1) (map layer_item_of items))
with_id-there id ordinal position run items x h from before is one =
    with_id-more id ordinal position items x (omega (arith, before, run_within (in_layer_of_kind Message) run items h)) is (feature_there run items position x h from before is)
    ∙ ap (λ (f : Option Feature). cons_option (option_map (λ g. (ordinal, (position, g))) f) (with_id_from id (ordinal + 1) (position + 1) (map layer_item_of items))) (sym one)
