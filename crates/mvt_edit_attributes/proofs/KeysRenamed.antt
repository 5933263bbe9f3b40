-- What the steps that rename the keys of a layer result in.
use Rattle.std.proofs.Common.{◌≡◌, ℕ, ◌+◌, ◌*◌, ◌/◌, ◌≤◌, ◌==◌, Bool, true, false, not, Ok, Err, Option, Some, List, [], ◌∷◌, ◌++◌, length, length-append, max, map, filter, nat_lt, slice_get, refl, sym, ap, ◌∙◌, subst, inl, inr, arith}
use Rattle.std.specs.Prelude.{◌&&◌, ◌||◌, IfSome, if◌then◌else◌}
use Rattle.std.proofs.lemmas.Bool.{cases_Bool, or_left, or_parts, or_right}
use Rattle.std.proofs.lemmas.List.{length-map, map-append}
use Rattle.std.proofs.lemmas.List.Elements.{filter-append}
use Rattle.std.proofs.lemmas.List.Folds.{flat_map-map, list_any-append}
use Rattle.std.proofs.Math.Bool.{or-false}
use Rattle.std.proofs.lemmas.Slice.Eq.{bytes_eq-Decides}
use Rattle.std.specs.List.{AllByRecursion, flat_map, list_any}
use Rattle.std.specs.Result.{result_unwrap_or}
use Rattle.std.specs.Str.{bytes_eq}
use Rattle.mvt_document.specs.declared.TheConstants.{MAX_FILE}
use Rattle.mvt_document.specs.Plain.{Number, Body, Spelled, Eight, Four, Delimited, Group, LayerItem, OfFeature, PlainInLayer, Layer, OfLayer, Document}
use Rattle.mvt_document.specs.Opens.{IsLayerItem}
use Rattle.mvt_document.specs.Wire.{bytes_of, layer_item_bytes, minimal_width}
use Rattle.mvt_document.specs.Places.{change_items, items_at}
use Rattle.mvt_document.proofs.Sizes.{length-message, same_size}
use Rattle.mvt_document.proofs.Beside.{pushed_size}
use Rattle.mvt_change.specs.Changes.{Change}
use Rattle.mvt_change.specs.FileSizes.{IsFileSize}
use Rattle.mvt_change.proofs.Resized.{items_there}
use Rattle.mvt_meaning.specs.Command.{LayerChoice, RenameKey}
use Rattle.mvt_meaning.specs.Fields.{with_content, with_text}
use Rattle.mvt_meaning.specs.Meaning.{◌>>=◌, after, applied, change_layer, has_key, items_of, refuse_if}
use Rattle.mvt_meaning.specs.Memory.{AsksForMemory}
use Rattle.mvt_meaning.specs.Selection.{layer_positions, selected}
use Rattle.mvt_meaning.specs.Tagging.{is_key, renamed_keys}
use Rattle.mvt_meaning.specs.Weights.{of_selected, put_by, taken_by, weigh}
use Rattle.mvt_meaning.specs.declared.refusal.Refusal.{Refusal}
use Rattle.mvt_meaning.specs.declared.refusal.Refusal.TheVariants.{KeyTaken, NoKey, TooLarge}
use Rattle.mvt_meaning.proofs.Asking.{asks_by}
use Rattle.mvt_meaning.proofs.Found.{change_layer_found, items_at_found, items_changed, items_of_found}
use Rattle.mvt_renumber.specs.Fates.{changes, left_of_fate}
use Rattle.mvt_edit_steps.specs.Fates.{splices_of}
use Rattle.mvt_edit_steps.specs.Prepared.{IsPrepared}
use Rattle.mvt_edit_steps.proofs.CarriedOut.{carries_out, new_in}
use Rattle.mvt_edit_steps.proofs.Carrying.{carried, in_layer_at, in_the_layer, makes_alike}
use Rattle.mvt_edit_attributes.specs.KeyFates.{FindsKeys, key_fate, may_rename}
use Rattle.mvt_edit_attributes.specs.declared.rename_key.Keys.{Keys}

-- ---- a key that gets other bytes

module _ (old new : List ℕ) where
  key_given : (tag : Number) (body : Body) → is_key old (PlainInLayer (record { tag = tag; body = body })) ≡ true → is_key new (PlainInLayer (record { tag = tag; body = with_content new body })) ≡ true
  key_given tag (Spelled number) key = absurd (elim (cases_Bool (tag.value / 8 == 3)) [ inl three ↦ let is = rw three at key in cc | inr other ↦ let is = rw other at key in cc ])
  key_given tag (Eight bytes) key = absurd (elim (cases_Bool (tag.value / 8 == 3)) [ inl three ↦ let is = rw three at key in cc | inr other ↦ let is = rw other at key in cc ])
  key_given tag (Four bytes) key = absurd (elim (cases_Bool (tag.value / 8 == 3)) [ inl three ↦ let is = rw three at key in cc | inr other ↦ let is = rw other at key in cc ])
  key_given tag (Group bytes) key = absurd (elim (cases_Bool (tag.value / 8 == 3)) [ inl three ↦ let is = rw three at key in cc | inr other ↦ let is = rw other at key in cc ])
  key_given tag (Delimited width bytes) key = elim (cases_Bool (tag.value / 8 == 3)) [ inl three ↦ rw three ((bytes_eq-Decides new new).1 refl) | inr other ↦ absurd (let is = rw other at key in cc) ]

  renamed_is_key : (item : LayerItem) → is_key old item ≡ true → is_key new (with_text new item) ≡ true
  renamed_is_key (OfFeature feature) key = absurd cc
  renamed_is_key (PlainInLayer field) key = key_given field.tag field.body key

  -- ---- what is left of the items, what is taken out and what is put

  keys_left : (items : List LayerItem) → flat_map (λ x. left_of_fate (λ y. y) x (key_fate old new x)) items ≡ renamed_keys old new items
  keys_left [] = refl
  keys_left (x ∷ items) = elim (cases_Bool (is_key old x)) [ inl key ↦ rw key (ap (λ xs. with_text new x ∷ xs) (keys_left items)) | inr other ↦ rw other (ap (λ xs. x ∷ xs) (keys_left items)) ]

  keys_taken : (items : List LayerItem) → filter (λ x. changes (key_fate old new x)) items ≡ filter (is_key old) items
  keys_taken [] = refl
  keys_taken (x ∷ items) = elim (cases_Bool (is_key old x)) [ inl key ↦ rw key (ap (λ xs. x ∷ xs) (keys_taken items)) | inr other ↦ rw other (keys_taken items) ]

  keys_put : (items : List LayerItem) → list_any (is_key new) items ≡ false → flat_map (λ x. new_in (key_fate old new x)) items ≡ filter (is_key new) (renamed_keys old new items)
  keys_put [] free = refl
  keys_put (x ∷ items) free =
      let parts = or_parts (is_key new x) (list_any (is_key new) items) free in
      elim (cases_Bool (is_key old x)) [
        | inl key ↦ (let given = renamed_is_key x key in rw (key, given) (ap (λ xs. with_text new x ∷ xs) (keys_put items parts.1)))
        | inr other ↦ (let apart = parts.0 in rw (other, apart) (keys_put items parts.1))
      ]

-- a key that gets the bytes that it has stays as it is
module _ (key : List ℕ) where
  same_content : (tag : Number) (body : Body) → is_key key (PlainInLayer (record { tag = tag; body = body })) ≡ true → with_content key body ≡ body
  same_content tag (Spelled number) is = refl
  same_content tag (Eight bytes) is = refl
  same_content tag (Four bytes) is = refl
  same_content tag (Group bytes) is = refl
  same_content tag (Delimited width bytes) is =
      elim (cases_Bool (tag.value / 8 == 3)) [ inl three ↦ ap (Delimited width) ((bytes_eq-Decides key bytes).0 (rw three at is)) | inr other ↦ absurd (let no = rw other at is in cc) ]

  same_text : (item : LayerItem) → is_key key item ≡ true → with_text key item ≡ item
  same_text (OfFeature feature) is = refl
  same_text (PlainInLayer field) is =
      let with_body : Body → LayerItem = λ body. PlainInLayer (record { tag = field.tag; body = body }) in
      ap with_body (same_content field.tag field.body is)

  same_keys : (items : List LayerItem) → items ≡ renamed_keys key key items
  same_keys [] = refl
  same_keys (x ∷ items) =
      elim (cases_Bool (is_key key x)) [
        | inl is ↦ rw is (ap (λ y. y ∷ items) (sym (same_text x is)) ∙ ap (λ xs. with_text key x ∷ xs) (same_keys items))
        | inr other ↦ rw other (ap (λ xs. x ∷ xs) (same_keys items))
      ]

first_false : (b same : Bool) → same ≡ false → (b && not same) ≡ false → b ≡ false
first_false true same apart free = absurd (let no = rw apart at free in cc)
first_false false same apart free = refl

-- ---- the check

-- what is made within the limit is what a check of the limit lets through
decided : (there taken large : Bool) (made : Document) → (refuse_if (not there) NoKey >>= λ old. refuse_if taken KeyTaken >>= λ free. if large then Err TooLarge else Ok made) ≡ ((refuse_if (not there) NoKey >>= λ old. refuse_if taken KeyTaken >>= λ free. refuse_if large TooLarge) >>= λ ok. Ok made)
decided false taken large made = refl
decided true true large made = refl
decided true false true made = refl
decided true false false made = refl

by_size : (large : Bool) → refuse_if large TooLarge ≡ (if not large then Ok tt else Err TooLarge)
by_size true = refl
by_size false = refl

-- a LEN field of a layer takes its tag, the length and as many bytes as the new ones are
pub length-renamed : (value wide width : ℕ) (item : LayerItem) (old new : List ℕ) → item ≡ PlainInLayer (record { tag = record { value = value; width = wide }; body = Delimited width old }) → wide + (max width (minimal_width (length new)) + length new) ≡ length (layer_item_bytes (with_text new item))
length-renamed value wide width item old new is = rw is (sym (length-message value wide width new))

-- one more item, which is the old key
module _ (old new : List ℕ) (items : List LayerItem) (x : LayerItem) (key : is_key old x ≡ true) where
  keys_more : filter (is_key old) (items ++ x ∷ []) ≡ filter (is_key old) items ++ x ∷ []
  keys_more = filter-append (is_key old) items (x ∷ []) ∙ rw key refl

  gone_more : length (flat_map layer_item_bytes (filter (is_key old) items)) + length (layer_item_bytes x) ≡ length (flat_map layer_item_bytes (filter (is_key old) (items ++ x ∷ [])))
  gone_more = sym (ap (λ xs. length (flat_map layer_item_bytes xs)) keys_more ∙ pushed_size layer_item_bytes (filter (is_key old) items) x)

  come_more : length (flat_map layer_item_bytes (map (with_text new) (filter (is_key old) items))) + length (layer_item_bytes (with_text new x)) ≡ length (flat_map layer_item_bytes (map (with_text new) (filter (is_key old) (items ++ x ∷ []))))
  come_more =
      let renamed = ap (map (with_text new)) keys_more ∙ map-append (with_text new) (filter (is_key old) items) (x ∷ []) in
      sym (ap (λ xs. length (flat_map layer_item_bytes xs)) renamed ∙ pushed_size layer_item_bytes (map (with_text new) (filter (is_key old) items)) (with_text new x))

  there_more : true ≡ list_any (is_key old) (items ++ x ∷ [])
  there_more = sym (list_any-append (is_key old) items (x ∷ []) ∙ or_right (list_any (is_key old) items) _ (or_left (is_key old x) false key))

  pub key_found : (keys : Keys) (taken : Bool) (gone come : Option ℕ) → FindsKeys old new items keys → taken ≡ (keys.taken || is_key new x)
      → IsFileSize gone (length (flat_map layer_item_bytes (filter (is_key old) items)) + length (layer_item_bytes x))
      → IsFileSize come (length (flat_map layer_item_bytes (map (with_text new) (filter (is_key old) items))) + length (layer_item_bytes (with_text new x)))
      → FindsKeys old new (items ++ x ∷ []) (record { there = true; taken = taken; gone = gone; come = come })
  key_found keys taken gone come finds is_new goes comes = record {
    old_there = there_more;
    new_there = is_new ∙ ap (λ taken. taken || is_key new x) finds.new_there ∙ ap (λ more. list_any (is_key new) items || more) (sym (or-false (is_key new x))) ∙ sym (list_any-append (is_key new) items (x ∷ []));
    old_size = same_size MAX_FILE gone _ _ gone_more goes;
    new_size = same_size MAX_FILE come _ _ come_more comes;
  }

-- the items that pass a test and the others
module _ {T : Type 0} (bytes : T → List ℕ) (test : T → Bool) where
  -- make up the whole
  parted_size : (items : List T) → length (flat_map bytes items) ≡ length (flat_map bytes (filter (λ x. not (test x)) items)) + length (flat_map bytes (filter test items))
  parted_size [] = refl
  parted_size (x ∷ items) =
      let more = parted_size items in
      let whole = length-append (bytes x) (flat_map bytes items) in
      elim (cases_Bool (test x)) [
        | inl pass ↦ rw pass (omega (arith, more, whole, length-append (bytes x) (flat_map bytes (filter test items))))
        | inr other ↦ rw other (omega (arith, more, whole, length-append (bytes x) (flat_map bytes (filter (λ y. not (test y)) items))))
      ]

  -- what is left of the whole
  pub others_size : {A : Type 0} (g : A → T) (items : List A) (sum gone : ℕ) → sum ≡ length (flat_map (λ a. bytes (g a)) items) → gone ≡ length (flat_map bytes (filter test (map g items))) → sum ≡ length (flat_map bytes (filter (λ x. not (test x)) (map g items))) + gone
  others_size g items sum gone whole goes = whole ∙ ap length (sym (flat_map-map bytes g items)) ∙ parted_size (map g items) ∙ ap (λ n. length (flat_map bytes (filter (λ x. not (test x)) (map g items))) + n) (sym goes)

  -- also where those that pass are changed
  changed_size : (change : T → T) (items : List T) → length (flat_map bytes (filter (λ x. not (test x)) items)) + length (flat_map bytes (map change (filter test items))) ≡ length (flat_map bytes (map (λ x. if test x then change x else x) items))
  changed_size change [] = refl
  changed_size change (x ∷ items) =
      let more = changed_size change items in
      let whole : List T → List T = map (λ y. if test y then change y else y) in
      elim (cases_Bool (test x)) [
        | inl pass ↦ rw pass (omega (arith, more, length-append (bytes (change x)) (flat_map bytes (whole items)), length-append (bytes (change x)) (flat_map bytes (map change (filter test items)))))
        | inr other ↦ rw other (omega (arith, more, length-append (bytes x) (flat_map bytes (whole items)), length-append (bytes x) (flat_map bytes (filter (λ y. not (test y)) items))))
      ]

-- what the walk over the items and the size of the tile decide
pub may_rename_by : (old new : List ℕ) (position : ℕ) (layer : Layer) (document : Document) (keys : Keys) (size : Option ℕ) (fits : Bool) → slice_get document position ≡ Some (OfLayer layer) → FindsKeys old new layer.items keys → IsFileSize size (length (flat_map layer_item_bytes (filter (λ x. not (is_key old x)) layer.items)) + length (flat_map layer_item_bytes (map (with_text new) (filter (is_key old) layer.items)))) → not keys.there ≡ false → (keys.taken && not (bytes_eq old new)) ≡ false → ((change : List LayerItem → List LayerItem) → IfSome (items_at position document) (λ items. IsFileSize size (length (flat_map layer_item_bytes (change items)))) → fits ≡ not (nat_lt MAX_FILE (length (bytes_of (change_items change position document))))) → may_rename old new position layer.items document ≡ (if fits then Ok tt else Err TooLarge)
may_rename_by old new position layer document keys size fits at finds sized there free fit =
    let has : not (list_any (is_key old) layer.items) ≡ false = ap not (sym finds.old_there) ∙ there in
    let apart : (list_any (is_key new) layer.items && not (bytes_eq old new)) ≡ false = ap (λ taken. taken && not (bytes_eq old new)) (sym finds.new_there) ∙ free in
    let renamed = same_size MAX_FILE size _ _ (changed_size layer_item_bytes (is_key old) (with_text new) layer.items) sized in
    let answered = fit (renamed_keys old new) (items_there position document layer (λ items. IsFileSize size (length (flat_map layer_item_bytes (renamed_keys old new items)))) at renamed) in
    rw (has, apart, answered) (by_size (nat_lt MAX_FILE (length (bytes_of (change_items (renamed_keys old new) position document)))))

-- a check that passes has found no other key of the new bytes
untaken : (there taken large : Bool) → (refuse_if (not there) NoKey >>= λ old. refuse_if taken KeyTaken >>= λ free. refuse_if large TooLarge) ≡ Ok tt → taken ≡ false
untaken false taken large can = absurd cc
untaken true true large can = absurd cc
untaken true false large can = refl

-- ---- the change

module _ (choice : LayerChoice) (old new : List ℕ) (document : Document) (ordinal position : ℕ) (layer : Layer) (chosen : selected choice document ≡ Ok ordinal) (placed : slice_get (layer_positions document) ordinal ≡ Some position) (there : slice_get document position ≡ Some (OfLayer layer)) where
  has_here : (key : List ℕ) → has_key key ordinal document ≡ list_any (is_key key) layer.items
  has_here key = ap (list_any (is_key key)) (items_of_found document ordinal position layer placed there)

  made_there : change_layer (renamed_keys old new) ordinal document ≡ change_items (renamed_keys old new) position document
  made_there = change_layer_found document ordinal position layer placed there (renamed_keys old new)

  -- the renaming is made where it is not refused
  checked : applied (RenameKey choice old new) document ≡ (may_rename old new position layer.items document >>= λ ok. Ok (change_layer (renamed_keys old new) ordinal document))
  checked =
      rw (chosen, has_here old, has_here new, made_there)
      (decided (list_any (is_key old) layer.items) (list_any (is_key new) layer.items && not (bytes_eq old new)) (nat_lt MAX_FILE (length (bytes_of (change_items (renamed_keys old new) position document)))) (change_items (renamed_keys old new) position document))

  pub not_renamed : (refusal : Refusal) → may_rename old new position layer.items document ≡ Err refusal → applied (RenameKey choice old new) document ≡ Err refusal
  not_renamed refusal refused = checked ∙ ap (λ found. found >>= λ ok. Ok (change_layer (renamed_keys old new) ordinal document)) refused

  module _ (can : may_rename old new position layer.items document ≡ Ok tt) where
    made : applied (RenameKey choice old new) document ≡ Ok (change_layer (renamed_keys old new) ordinal document)
    made = checked ∙ ap (λ found. found >>= λ ok. Ok (change_layer (renamed_keys old new) ordinal document)) can

    -- it is accepted
    pub renaming_asks : AsksForMemory (RenameKey choice old new) document
    renaming_asks = asks_by (RenameKey choice old new) document (change_layer (renamed_keys old new) ordinal document) made

    taken_keys : taken_by (RenameKey choice old new) document ≡ length (flat_map layer_item_bytes (filter (is_key old) layer.items))
    taken_keys =
        ap (λ selects. of_selected selects (λ n. weigh layer_item_bytes (filter (is_key old) (items_of n document)))) chosen
        ∙ ap (λ items. weigh layer_item_bytes (filter (is_key old) items)) (items_of_found document ordinal position layer placed there)

    put_keys : put_by (RenameKey choice old new) document ≡ length (flat_map layer_item_bytes (filter (is_key new) (renamed_keys old new layer.items)))
    put_keys =
        ap (λ selects. of_selected selects (λ n. weigh layer_item_bytes (filter (is_key new) (items_of n (after (RenameKey choice old new) document))))) chosen
        ∙ ap (λ result. weigh layer_item_bytes (filter (is_key new) (items_of ordinal (result_unwrap_or result document)))) made
        ∙ ap (λ items. weigh layer_item_bytes (filter (is_key new) items)) (items_changed document ordinal position layer placed there (renamed_keys old new))

    -- no step, if both are the same
    pub keys_stay : old ≡ new → IsPrepared (RenameKey choice old new) document []
    keys_stay same =
        let sits = in_the_layer position in
        let at = items_at_found document ordinal position layer placed there in
        let none = carried sits document layer.items at [] tt tt in
        let kept : layer.items ≡ renamed_keys old new layer.items = subst (λ key. layer.items ≡ renamed_keys old key layer.items) same (same_keys old layer.items) in
        record {
          fits = none.fits;
          means = made ∙ ap Ok (sym (none.makes ∙ makes_alike sits document layer.items at (renamed_keys old new) [] kept ∙ sym made_there));
          puts = omega arith;
          takes = omega arith;
          steps = omega arith;
          one = λ is. absurd cc;
        }

    -- otherwise the steps that rename them
    pub keys_renamed : bytes_eq old new ≡ false → AllByRecursion IsLayerItem (flat_map (λ x. new_in (key_fate old new x)) layer.items) → 2 * length (filter (is_key old) layer.items) ≤ length (flat_map layer_item_bytes (filter (is_key old) layer.items)) → (change : Change) → change ≡ map (in_layer_at position) (splices_of (map (key_fate old new) layer.items)) → IsPrepared (RenameKey choice old new) document change
    keys_renamed apart valid heavy change steps =
        let sits = in_the_layer position in
        let at = items_at_found document ordinal position layer placed there in
        let splices = splices_of (map (key_fate old new) layer.items) in
        let all = carries_out (key_fate old new) layer.items in
        let done = carried sits document layer.items at splices all.there (subst (AllByRecursion IsLayerItem) (sym all.puts) valid) in
        let makes = done.makes ∙ makes_alike sits document layer.items at (renamed_keys old new) splices (all.leaves ∙ keys_left old new layer.items) ∙ sym made_there in
        let free = untaken (list_any (is_key old) layer.items) (list_any (is_key new) layer.items && not (bytes_eq old new)) (nat_lt MAX_FILE (length (bytes_of (change_items (renamed_keys old new) position document)))) can in
        let none : list_any (is_key new) layer.items ≡ false = first_false (list_any (is_key new) layer.items) (bytes_eq old new) apart free in
        let puts = done.puts ∙ ap (λ put. length (flat_map layer_item_bytes put)) (all.puts ∙ keys_put old new layer.items none) ∙ sym put_keys in
        let takes = done.takes ∙ ap (λ gone. length (flat_map layer_item_bytes gone)) (all.takes ∙ keys_taken old new layer.items) ∙ sym taken_keys in
        let few = all.few in
        let count = ap length (keys_taken old new layer.items) in
        rw steps (record {
          fits = done.fits;
          means = made ∙ ap Ok (sym makes);
          puts = omega (arith, puts);
          takes = omega (arith, takes);
          steps = omega (arith, few, count, heavy, taken_keys, length-map splices (in_layer_at position));
          one = λ is. absurd cc;
        })
