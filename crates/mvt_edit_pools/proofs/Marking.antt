-- The marks of entries: one more, those of several lists of pairs, and those of all features.
use Rattle.std.proofs.Common.{◌≡◌, ℕ, zero, suc, ◌+◌, ◌==◌, ◌<◌, ◌≤◌, Bool, true, false, ◌||◌, Option, Some, None, List, [], ◌∷◌, ◌++◌, append_assoc, is_some, length, length-append, option_map, replicate, set, refl, sym, ap, ◌∙◌, arith}
use Rattle.std.proofs.lemmas.Bool.{eq-eqb, ne_eqb}
use Rattle.std.proofs.lemmas.List.Folds.{flat_map-map, list_any-append}
use Rattle.std.specs.List.{flat_map}
use Rattle.std.specs.Option.{unwrap_or}
use Rattle.mvt_document.specs.Plain.{Feature, Layer, LayerItem}
use Rattle.mvt_messages.specs.Numbers.{and_more, numbers}
use Rattle.mvt_messages.specs.Found.{found_features}
use Rattle.mvt_messages.specs.Tags.{plain_pairs, tag_pairs}
use Rattle.mvt_messages.specs.Views.{feature_in, keys, values}
use Rattle.mvt_layers.proofs.Pairing.{tags_are_pairs}
use Rattle.mvt_layers.proofs.Placing.{found_items}
use Rattle.mvt_meaning.specs.Compaction.{all_pairs, is_key_used, is_value_used}
use Rattle.mvt_meaning.specs.Tagging.{pairs_among}
use Rattle.mvt_edit_steps.proofs.Deciding.{then_pairs}
use Rattle.mvt_edit_pools.specs.Marks.{is_one, marked, names_key, names_value, pairs_at, stays_from}
use Rattle.mvt_edit_pools.specs.Pools.{all_keys, all_values, keys_stay, values_stay}
use Rattle.mvt_edit_pools.specs.declared.compact.Pools.{Pools}
use Rattle.mvt_edit_pools.specs.declared.compact.Pools.TheVariants.{Keys, Values, Both}

-- ---- the mark of one entry

unmarked : (one m : ℕ) (marks : List Bool) → one < m → marked (is_one one) m marks ≡ marks
unmarked one m [] before = refl
unmarked one m (mark ∷ marks) before =
    let other : (one == m) ≡ false = ne_eqb one m (λ e. omega (arith, e)) in
    rw other (ap (λ rest. mark ∷ rest) (unmarked one (m + 1) marks (omega arith)))

set_marked : (one m k : ℕ) (marks : List Bool) → one ≡ m + k → set marks k true ≡ marked (is_one one) m marks
set_marked one m k [] e = refl
set_marked one m zero (mark ∷ marks) e =
    let here : (one == m) ≡ true = eq-eqb one m (omega (arith, e)) in
    rw here (ap (λ rest. true ∷ rest) (sym (unmarked one (m + 1) marks (omega (arith, e)))))
set_marked one m (suc k) (mark ∷ marks) e =
    let other : (one == m) ≡ false = ne_eqb one m (λ same. omega (arith, e, same)) in
    rw other (ap (λ rest. mark ∷ rest) (set_marked one (m + 1) k marks (omega (arith, e))))

past_marked : (one m : ℕ) (marks : List Bool) → m + length marks ≤ one → marked (is_one one) m marks ≡ marks
past_marked one m [] past = refl
past_marked one m (mark ∷ marks) past =
    let other : (one == m) ≡ false = ne_eqb one m (λ e. omega (arith, past, e)) in
    rw other (ap (λ rest. mark ∷ rest) (past_marked one (m + 1) marks (omega (arith, past))))

pub one_marked : (one : ℕ) (marks : List Bool) → set marks one true ≡ marked (is_one one) 0 marks
one_marked one marks = set_marked one 0 one marks (omega arith)

pub none_marked : (one : ℕ) (marks : List Bool) → length marks ≤ one → marks ≡ marked (is_one one) 0 marks
none_marked one marks past = sym (past_marked one 0 marks (omega (arith, past)))

-- ---- one after the other

either : (first second mark : Bool) → (second || (first || mark)) ≡ ((first || second) || mark)
either true true mark = refl
either true false mark = refl
either false second mark = refl

pub marked_twice : (first second : ℕ → Bool) (m : ℕ) (marks : List Bool) → marked second m (marked first m marks) ≡ marked (λ n. first n || second n) m marks
marked_twice first second m [] = refl
marked_twice first second m (mark ∷ marks) =
    ap (λ is. is ∷ marked second (m + 1) (marked first (m + 1) marks)) (either (first m) (second m) mark)
    ∙ ap (λ rest. ((first m || second m) || mark) ∷ rest) (marked_twice first second (m + 1) marks)

pub marked_alike : (one other : ℕ → Bool) → ((n : ℕ) → one n ≡ other n) → (m : ℕ) (marks : List Bool) → marked one m marks ≡ marked other m marks
marked_alike one other same m [] = refl
marked_alike one other same m (mark ∷ marks) =
    ap (λ is. (is || mark) ∷ marked one (m + 1) marks) (same m) ∙ ap (λ rest. (other m || mark) ∷ rest) (marked_alike one other same (m + 1) marks)

pub marked_none : (m : ℕ) (marks : List Bool) → marked (λ n. false) m marks ≡ marks
marked_none m [] = refl
marked_none m (mark ∷ marks) = ap (λ rest. mark ∷ rest) (marked_none (m + 1) marks)

-- for two lists of pairs
pub keys_joined : (first second : List (ℕ × ℕ)) (marks : List Bool) → marked (names_key second) 0 (marked (names_key first) 0 marks) ≡ marked (names_key (first ++ second)) 0 marks
keys_joined first second marks =
    marked_twice (names_key first) (names_key second) 0 marks
    ∙ marked_alike (λ n. names_key first n || names_key second n) (names_key (first ++ second)) (λ n. sym (list_any-append (λ (pair : ℕ × ℕ). pair.0 == n) first second)) 0 marks

pub values_joined : (first second : List (ℕ × ℕ)) (marks : List Bool) → marked (names_value second) 0 (marked (names_value first) 0 marks) ≡ marked (names_value (first ++ second)) 0 marks
values_joined first second marks =
    marked_twice (names_value first) (names_value second) 0 marks
    ∙ marked_alike (λ n. names_value first n || names_value second n) (names_value (first ++ second)) (λ n. sym (list_any-append (λ (pair : ℕ × ℕ). pair.1 == n) first second)) 0 marks

-- ---- one more pair

pub keys_pair : (pair : ℕ × ℕ) (marks after : List Bool) (rest : Option (List (ℕ × ℕ))) → after ≡ marked (is_one pair.0) 0 marks → option_map (λ pairs. marked (names_key pairs) 0 after) rest ≡ option_map (λ pairs. marked (names_key pairs) 0 marks) (and_more pair rest)
keys_pair pair marks after None is = refl
keys_pair pair marks after (Some pairs) is = ap Some (ap (marked (names_key pairs) 0) is ∙ marked_twice (is_one pair.0) (names_key pairs) 0 marks)

pub values_pair : (pair : ℕ × ℕ) (marks after : List Bool) (rest : Option (List (ℕ × ℕ))) → after ≡ marked (is_one pair.1) 0 marks → option_map (λ pairs. marked (names_value pairs) 0 after) rest ≡ option_map (λ pairs. marked (names_value pairs) 0 marks) (and_more pair rest)
values_pair pair marks after None is = refl
values_pair pair marks after (Some pairs) is = ap Some (ap (marked (names_value pairs) 0) is ∙ marked_twice (is_one pair.1) (names_value pairs) 0 marks)

pub pairs_pair : (pair : ℕ × ℕ) (front after : List (ℕ × ℕ)) (rest : Option (List (ℕ × ℕ))) → after ≡ front ++ pair ∷ [] → option_map (λ pairs. after ++ pairs) rest ≡ option_map (λ pairs. front ++ pairs) (and_more pair rest)
pairs_pair pair front after None is = refl
pairs_pair pair front after (Some pairs) is = ap Some (ap (λ list. list ++ pairs) is ∙ append_assoc front (pair ∷ []) pairs)

-- ---- the features of a layer

-- the pairs of the features that are left
abbrev pub pairs_left : List LayerItem → List (ℕ × (ℕ × Feature)) → List (ℕ × ℕ)
pairs_left items found = flat_map (pairs_at items) found

pub pairs_found : (items : List LayerItem) → pairs_left items (found_features items) ≡ all_pairs items
pairs_found items =
    sym (flat_map-map (λ (feature : Feature). unwrap_or (pairs_among items feature.fields) []) (λ (at : ℕ × (ℕ × Feature)). at.1.1) (found_features items))
    ∙ ap (flat_map (λ (feature : Feature). unwrap_or (pairs_among items feature.fields) [])) (found_items feature_in items)

keys_of_found : (before after : List Bool) (found : Option (List (ℕ × ℕ))) → option_map (λ pairs. marked (names_key pairs) 0 before) found ≡ Some after → after ≡ marked (names_key (unwrap_or found [])) 0 before
keys_of_found before after None is = absurd cc
keys_of_found before after (Some pairs) is = let same : marked (names_key pairs) 0 before ≡ after = cc in sym same

values_of_found : (before after : List Bool) (found : Option (List (ℕ × ℕ))) → option_map (λ pairs. marked (names_value pairs) 0 before) found ≡ Some after → after ≡ marked (names_value (unwrap_or found [])) 0 before
values_of_found before after None is = absurd cc
values_of_found before after (Some pairs) is = let same : marked (names_value pairs) 0 before ≡ after = cc in sym same

pairs_of_found : (before after : List (ℕ × ℕ)) (found : Option (List (ℕ × ℕ))) → option_map (λ pairs. before ++ pairs) found ≡ Some after → after ≡ before ++ unwrap_or found []
pairs_of_found before after None is = absurd cc
pairs_of_found before after (Some pairs) is = let same : before ++ pairs ≡ after = cc in sym same

counts_of_found : (before after : List ℕ) (found : Option (List (ℕ × ℕ))) → option_map (λ pairs. before ++ length pairs ∷ []) found ≡ Some after → after ≡ before ++ length (unwrap_or found []) ∷ []
counts_of_found before after None is = absurd cc
counts_of_found before after (Some pairs) is = let same : before ++ length pairs ∷ [] ≡ after = cc in sym same

-- how many pairs come, and their count
pub count_of_found : (before after : List (ℕ × ℕ)) (found : Option (List (ℕ × ℕ))) → option_map (λ pairs. before ++ pairs) found ≡ Some after → length after ≡ length before + length (unwrap_or found [])
count_of_found before after found is = ap length (pairs_of_found before after found is) ∙ length-append before (unwrap_or found [])

pub counts_with : (counts : List ℕ) (before after : List (ℕ × ℕ)) (found : Option (List (ℕ × ℕ))) (count : ℕ) → option_map (λ pairs. before ++ pairs) found ≡ Some after → count ≡ length (unwrap_or found []) → option_map (λ pairs. counts ++ length pairs ∷ []) found ≡ Some (counts ++ count ∷ [])
counts_with counts before after None count is many = absurd cc
counts_with counts before after (Some pairs) count is many = ap (λ n. Some (counts ++ n ∷ [])) (sym many)

-- what its tags make by the sizes of the layer is what they make in the layer
by_layer : {A : Type 0} (f : Option (List (ℕ × ℕ)) → A) (layer : Layer) (feature : Feature) (key_count value_count : ℕ) → key_count ≡ length (keys layer) → value_count ≡ length (values layer) → f (plain_pairs (tag_pairs key_count value_count (numbers 2 feature.fields))) ≡ f (pairs_among layer.items feature.fields)
by_layer f layer feature key_count value_count is_keys is_values =
    ap (λ n. f (plain_pairs (tag_pairs n value_count (numbers 2 feature.fields)))) is_keys
    ∙ ap (λ n. f (plain_pairs (tag_pairs (length (keys layer)) n (numbers 2 feature.fields)))) is_values
    ∙ ap f (tags_are_pairs layer feature)

-- one more feature
pub keys_more : (layer : Layer) (at : ℕ × (ℕ × Feature)) (rest : List (ℕ × (ℕ × Feature))) (key_count value_count : ℕ) (before after : List Bool) → key_count ≡ length (keys layer) → value_count ≡ length (values layer)
    → option_map (λ pairs. marked (names_key pairs) 0 before) (plain_pairs (tag_pairs key_count value_count (numbers 2 at.1.1.fields))) ≡ Some after
    → marked (names_key (pairs_left layer.items rest)) 0 after ≡ marked (names_key (pairs_left layer.items (at ∷ rest))) 0 before
keys_more layer at rest key_count value_count before after is_keys is_values is =
    let made = sym (by_layer (option_map (λ pairs. marked (names_key pairs) 0 before)) layer at.1.1 key_count value_count is_keys is_values) ∙ is in
    ap (marked (names_key (pairs_left layer.items rest)) 0) (keys_of_found before after (pairs_among layer.items at.1.1.fields) made)
    ∙ keys_joined (pairs_at layer.items at) (pairs_left layer.items rest) before

pub values_more : (layer : Layer) (at : ℕ × (ℕ × Feature)) (rest : List (ℕ × (ℕ × Feature))) (key_count value_count : ℕ) (before after : List Bool) → key_count ≡ length (keys layer) → value_count ≡ length (values layer)
    → option_map (λ pairs. marked (names_value pairs) 0 before) (plain_pairs (tag_pairs key_count value_count (numbers 2 at.1.1.fields))) ≡ Some after
    → marked (names_value (pairs_left layer.items rest)) 0 after ≡ marked (names_value (pairs_left layer.items (at ∷ rest))) 0 before
values_more layer at rest key_count value_count before after is_keys is_values is =
    let made = sym (by_layer (option_map (λ pairs. marked (names_value pairs) 0 before)) layer at.1.1 key_count value_count is_keys is_values) ∙ is in
    ap (marked (names_value (pairs_left layer.items rest)) 0) (values_of_found before after (pairs_among layer.items at.1.1.fields) made)
    ∙ values_joined (pairs_at layer.items at) (pairs_left layer.items rest) before

pub pairs_own : (layer : Layer) (at : ℕ × (ℕ × Feature)) (key_count value_count : ℕ) (before after : List (ℕ × ℕ)) → key_count ≡ length (keys layer) → value_count ≡ length (values layer)
    → option_map (λ pairs. before ++ pairs) (plain_pairs (tag_pairs key_count value_count (numbers 2 at.1.1.fields))) ≡ Some after → after ≡ before ++ pairs_at layer.items at
pairs_own layer at key_count value_count before after is_keys is_values is =
    pairs_of_found before after (pairs_among layer.items at.1.1.fields) (sym (by_layer (option_map (λ pairs. before ++ pairs)) layer at.1.1 key_count value_count is_keys is_values) ∙ is)

pub counts_own : (layer : Layer) (at : ℕ × (ℕ × Feature)) (key_count value_count : ℕ) (before after : List ℕ) → key_count ≡ length (keys layer) → value_count ≡ length (values layer)
    → option_map (λ pairs. before ++ length pairs ∷ []) (plain_pairs (tag_pairs key_count value_count (numbers 2 at.1.1.fields))) ≡ Some after → after ≡ before ++ length (pairs_at layer.items at) ∷ []
counts_own layer at key_count value_count before after is_keys is_values is =
    counts_of_found before after (pairs_among layer.items at.1.1.fields) (sym (by_layer (option_map (λ pairs. before ++ length pairs ∷ [])) layer at.1.1 key_count value_count is_keys is_values) ∙ is)

pub is_readable : (layer : Layer) (feature : Feature) (key_count value_count : ℕ) (before after : List Bool) → key_count ≡ length (keys layer) → value_count ≡ length (values layer)
    → option_map (λ pairs. marked (names_key pairs) 0 before) (plain_pairs (tag_pairs key_count value_count (numbers 2 feature.fields))) ≡ Some after → is_some (pairs_among layer.items feature.fields) ≡ true
is_readable layer feature key_count value_count before after is_keys is_values is =
    then_pairs (λ pairs. marked (names_key pairs) 0 before) (pairs_among layer.items feature.fields) after
    (sym (by_layer (option_map (λ pairs. marked (names_key pairs) 0 before)) layer feature key_count value_count is_keys is_values) ∙ is)

-- ---- which entries stay

pub marked_all : (selects : ℕ → Bool) (all : Bool) (m count : ℕ) → marked selects m (replicate count all) ≡ stays_from (λ n. selects n || all) m count
marked_all selects all m zero = refl
marked_all selects all m (suc count) = ap (λ rest. (selects m || all) ∷ rest) (marked_all selects all (m + 1) count)

stays_alike : (one other : ℕ → Bool) → ((n : ℕ) → one n ≡ other n) → (m count : ℕ) → stays_from one m count ≡ stays_from other m count
stays_alike one other same m zero = refl
stays_alike one other same m (suc count) = ap (λ is. is ∷ stays_from one (m + 1) count) (same m) ∙ ap (λ rest. other m ∷ rest) (stays_alike one other same (m + 1) count)

or_none : (is : Bool) → (is || false) ≡ is
or_none true = refl
or_none false = refl

or_any : (is : Bool) → (is || true) ≡ true
or_any true = refl
or_any false = refl

key_stays : (pools : Pools) (items : List LayerItem) (n : ℕ) → (is_key_used items n || all_keys pools) ≡ keys_stay pools items n
key_stays Keys items n = or_none (is_key_used items n)
key_stays Values items n = or_any (is_key_used items n)
key_stays Both items n = or_none (is_key_used items n)

value_stays : (pools : Pools) (items : List LayerItem) (n : ℕ) → (is_value_used items n || all_values pools) ≡ values_stay pools items n
value_stays Keys items n = or_any (is_value_used items n)
value_stays Values items n = or_none (is_value_used items n)
value_stays Both items n = or_none (is_value_used items n)

pub keys_marked : (pools : Pools) (items : List LayerItem) (count : ℕ) (before after : List Bool) → before ≡ replicate count (all_keys pools) → after ≡ marked (is_key_used items) 0 before → after ≡ stays_from (keys_stay pools items) 0 count
keys_marked pools items count before after none is =
    is ∙ ap (marked (is_key_used items) 0) none ∙ marked_all (is_key_used items) (all_keys pools) 0 count
    ∙ stays_alike (λ n. is_key_used items n || all_keys pools) (keys_stay pools items) (key_stays pools items) 0 count

pub values_marked : (pools : Pools) (items : List LayerItem) (count : ℕ) (before after : List Bool) → before ≡ replicate count (all_values pools) → after ≡ marked (is_value_used items) 0 before → after ≡ stays_from (values_stay pools items) 0 count
values_marked pools items count before after none is =
    is ∙ ap (marked (is_value_used items) 0) none ∙ marked_all (is_value_used items) (all_values pools) 0 count
    ∙ stays_alike (λ n. is_value_used items n || all_values pools) (values_stay pools items) (value_stays pools items) 0 count
