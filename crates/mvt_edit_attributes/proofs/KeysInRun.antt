-- Keys that a walk over the run of keys, and over what follows, finds in a layer.
use Rattle.std.proofs.Common.{◌≡◌, ℕ, zero, suc, ◌+◌, ◌-◌, Bool, false, List, [], ◌∷◌, ◌++◌, length, length-drop, map, filter, take, drop, refl, sym, ap, ◌∙◌, subst, inl, inr, arith}
use Rattle.std.proofs.lemmas.Bool.{cases_Bool}
use Rattle.std.proofs.lemmas.List.{drop-drop, take_all}
use Rattle.std.specs.List.{list_any}
use Rattle.std.specs.Option.{option_map_or}
use Rattle.std.specs.Str.{bytes_eq}
use Rattle.mvt_document.specs.Kinds.{in_layer_of_kind}
use Rattle.mvt_document.specs.Plain as plain
use Rattle.mvt_document.specs.Runs.{IsRunOf, one_run}
use Rattle.mvt_document.specs.Stands.{field_of, layer_item_of}
use Rattle.mvt_document.specs.declared.LayerItem.{LayerItem}
use Rattle.mvt_document.specs.declared.LayerItem.TheVariants as in_layer
use Rattle.mvt_document.specs.declared.run.Kind.TheVariants.{Key}
use Rattle.mvt_document.specs.declared.run.Run.{Run}
use Rattle.mvt_document.proofs.Options.{none_is}
use Rattle.mvt_messages.specs.Views.{content_in, key_field}
use Rattle.mvt_layers.proofs.InRun.{is_found_entry}
use Rattle.mvt_meaning.specs.Tagging.{is_key}
use Rattle.mvt_edit_attributes.specs.KeyFates.{FindsKeys}
use Rattle.mvt_edit_attributes.specs.declared.rename_key.Keys.{Keys}

-- what passes is in the run, or follows what it is known of
module _ {X V : Type 0} (f : X → Bool) (view : X → V) (passes : V → Bool) (others : (x : X) → f x ≡ false → passes (view x) ≡ false) where
  in_run : (first count following : ℕ) (rest : List Bool) (items : List X) → map f items ≡ one_run first count following ++ rest
      → filter passes (map view items) ≡ filter passes (map view (take count (drop first items)) ++ map view (drop following (drop count (drop first items))))
  in_run zero zero zero rest items e = refl
  in_run zero zero (suc following) rest [] e = absurd cc
  in_run zero zero (suc following) rest (x ∷ items) e = rw (others x cc) (in_run zero zero following rest items (ap (drop 1) e))
  in_run zero (suc count) following rest [] e = absurd cc
  in_run zero (suc count) following rest (x ∷ items) e =
      let more = in_run zero count following rest items (ap (drop 1) e) in
      elim (cases_Bool (passes (view x))) [ inl pass ↦ rw pass (ap (λ xs. view x ∷ xs) more) | inr other ↦ rw other more ]
  in_run (suc first) count following rest [] e = absurd cc
  in_run (suc first) count following rest (x ∷ items) e = rw (others x cc) (in_run first count following rest items (ap (drop 1) e))

any_filtered : {V : Type 0} (passes : V → Bool) (items : List V) → list_any passes (filter passes items) ≡ list_any passes items
any_filtered passes [] = refl
any_filtered passes (x ∷ items) = elim (cases_Bool (passes x)) [ inl pass ↦ rw pass (rw pass refl) | inr other ↦ rw other (any_filtered passes items) ]

-- lists with the same keys
same_keys_found : (old new : List ℕ) (items others : List plain.LayerItem) (keys : Keys) → ((key : List ℕ) → filter (is_key key) items ≡ filter (is_key key) others) → FindsKeys old new others keys → FindsKeys old new items keys
same_keys_found old new items others keys same finds =
    let any : (key : List ℕ) → list_any (is_key key) others ≡ list_any (is_key key) items = λ key. sym (any_filtered (is_key key) others) ∙ ap (list_any (is_key key)) (sym (same key)) ∙ any_filtered (is_key key) items in
    record {
      old_there = finds.old_there ∙ any old;
      new_there = finds.new_there ∙ any new;
      old_size = rw (same old) finds.old_size;
      new_size = rw (same old) finds.new_size;
    }

no_key : (key : List ℕ) (item : LayerItem) → in_layer_of_kind Key item ≡ false → is_key key (layer_item_of item) ≡ false
no_key key (in_layer.Feature feature) other = refl
no_key key (in_layer.Plain field) other = ap (λ found. option_map_or (bytes_eq key) found false) (none_is (content_in key_field (field_of field)) (is_found_entry key_field (in_layer.Plain field) ∙ other))

-- the slices of the run and of what follows
pub found_in_run : (old new : List ℕ) (items seen : List LayerItem) (run : Run) (keys : Keys) → seen ≡ items → IsRunOf (in_layer_of_kind Key) run items
    → FindsKeys old new (map layer_item_of (take (run.first + run.count - run.first) (drop run.first seen)) ++ map layer_item_of (take (length seen - run.until) (drop run.until seen))) keys → FindsKeys old new (map layer_item_of items) keys
found_in_run old new items seen run keys same is finds =
    let count : run.first + run.count - run.first ≡ run.count = omega arith in
    let until : run.first + run.count + is.following ≡ run.until = omega (arith, is.until) in
    let part = map layer_item_of (take run.count (drop run.first items)) in
    let back = take_all (length items - run.until) (drop run.until items) (omega (arith, length-drop run.until items)) in
    let past = ap (drop is.following) (drop-drop run.count run.first items) ∙ drop-drop is.following (run.first + run.count) items ∙ ap (λ n. drop n items) until in
    let slices = ap (λ n. map layer_item_of (take n (drop run.first items)) ++ map layer_item_of (take (length items - run.until) (drop run.until items))) count ∙ ap (λ xs. part ++ map layer_item_of xs) (back ∙ sym past) in
    let known = rw same at finds in
    same_keys_found old new (map layer_item_of items) _ keys (λ key. in_run (in_layer_of_kind Key) layer_item_of (is_key key) (no_key key) run.first run.count is.following is.rest items is.is) (subst (λ xs. FindsKeys old new xs keys) slices known)
