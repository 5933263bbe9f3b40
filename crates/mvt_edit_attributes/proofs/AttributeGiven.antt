-- What is read of the pairs of a feature that gets an attribute, and that a run of its fields gives it the attribute.
use Rattle.std.proofs.Common.{◌≡◌, ℕ, ◌+◌, ◌<◌, ◌≤◌, Bool, true, false, Option, Some, None, Ok, Err, is_some, List, [], length, map, nat_lt, option_map, slice_get, append-nil, refl, sym, ap, ◌∙◌, subst, arith}
use Rattle.std.proofs.lemmas.Bool.{le-ltb, lt-ltb}
use Rattle.std.specs.List.{AllByRecursion, cons_option, flat_map}
use Rattle.std.specs.Option.{option_map_or, unwrap_or}
use Rattle.std.specs.Str.{bytes_eq}
use Rattle.mvt_document.specs.Opens.{IsField}
use Rattle.mvt_document.specs.Plain.{Feature, Field, Layer, LayerItem}
use Rattle.mvt_document.specs.Splicing.{part}
use Rattle.mvt_document.specs.Wire.{field_bytes, layer_item_bytes}
use Rattle.mvt_messages.specs.Numbers.{numbers}
use Rattle.mvt_messages.specs.Tags.{plain_pairs, tag_pairs}
use Rattle.mvt_messages.specs.Views.{keys, values}
use Rattle.mvt_layers.proofs.Pairing.{tags_are_pairs}
use Rattle.mvt_meaning.specs.Ordinals.{count}
use Rattle.mvt_meaning.specs.Tagging.{is_key_at, missing_entries, new_pair, pairs_among, pairs_with, replacements, revalued, with_attribute}
use Rattle.mvt_meaning.specs.Weights.{set_puts, set_takes, weigh}
use Rattle.mvt_meaning.specs.declared.refusal.Refusal.TheVariants.{BadTags, RepeatedKey}
use Rattle.mvt_edit_steps.specs.Decided.{field_fates}
use Rattle.mvt_edit_steps.specs.Fates.{Splice, splices_of}
use Rattle.mvt_edit_steps.proofs.CarriedOut.{AreThere, put_all, spliced_all, taken_all}
use Rattle.mvt_edit_steps.proofs.FieldsLeft.{FieldsLeft}
use Rattle.mvt_edit_attributes.specs.Attribute.{GivesAttribute, PutsPair, attribute_checked}
use Rattle.mvt_edit_steps.proofs.NamedKeys.{named_at}
use mathlib.Core.Path.{fun_ext}

-- ---- the pairs

-- the keys that are named are those that have the bytes
named_is : (key : List ℕ) (layer : Layer) → ◌≡◌ {A = ℕ → Bool} (λ ordinal. unwrap_or (slice_get (map (bytes_eq key) (keys layer)) ordinal) false) (is_key_at layer.items key)
named_is key layer = fun_ext (λ ordinal. named_at key (keys layer) ordinal)

-- the pairs that are read, what is decided on them, and how many have the key
pub record OnValues (key : List ℕ) (value : ℕ) (items : List LayerItem) (fields : List Field) (decisions : List (Option ℕ)) (n : ℕ) : Type 0 where
  pub pairs : List (ℕ × ℕ)
  pub read : pairs_among items fields ≡ Some pairs
  pub decided : decisions ≡ revalued (is_key_at items key) value pairs
  pub counted : n ≡ count (λ pair. is_key_at items key pair.0) pairs
  pub all : pairs_with key items fields ≡ n

by_found : (key : List ℕ) (value : ℕ) (items : List LayerItem) (fields : List Field) (decisions : List (Option ℕ)) (n : ℕ) (found : Option (List (ℕ × ℕ))) → pairs_among items fields ≡ found → option_map (revalued (is_key_at items key) value) found ≡ Some decisions → option_map (count (λ pair. is_key_at items key pair.0)) found ≡ Some n → OnValues key value items fields decisions n
by_found key value items fields decisions n None read is so_many = absurd cc
by_found key value items fields decisions n (Some pairs) read is so_many =
    let decided : revalued (is_key_at items key) value pairs ≡ decisions = cc in
    let counted : count (λ pair. is_key_at items key pair.0) pairs ≡ n = cc in
    record {
      pairs = pairs;
      read = read;
      decided = sym decided;
      counted = sym counted;
      all = ap (λ found. option_map_or (count (λ pair. is_key_at items key pair.0)) found 0) read ∙ counted;
    }

pub on_values : (key : List ℕ) (layer : Layer) (feature : Feature) (key_count value_count : ℕ) (named : List Bool) (value : ℕ) (decisions : List (Option ℕ)) (n : ℕ) → named ≡ map (bytes_eq key) (keys layer) → key_count ≡ length (keys layer) → value_count ≡ length (values layer)
    → option_map (revalued (λ ordinal. unwrap_or (slice_get named ordinal) false) value) (plain_pairs (tag_pairs key_count value_count (numbers 2 feature.fields))) ≡ Some decisions → option_map (count (λ pair. unwrap_or (slice_get named pair.0) false)) (plain_pairs (tag_pairs key_count value_count (numbers 2 feature.fields))) ≡ Some n
    → OnValues key value layer.items feature.fields decisions n
on_values key layer feature key_count value_count named value decisions n is_named is_keys is_values is so_many =
    let selects : ℕ → Bool = λ ordinal. unwrap_or (slice_get (map (bytes_eq key) (keys layer)) ordinal) false in
    let found = pairs_among layer.items feature.fields in
    let same = sym (named_is key layer) in
    let decided : option_map (revalued selects value) (plain_pairs (tag_pairs (length (keys layer)) (length (values layer)) (numbers 2 feature.fields))) ≡ Some decisions = rw (is_named, is_keys, is_values) at is in
    let counted : option_map (count (λ pair. selects pair.0)) (plain_pairs (tag_pairs (length (keys layer)) (length (values layer)) (numbers 2 feature.fields))) ≡ Some n = rw (is_named, is_keys, is_values) at so_many in
    by_found key value layer.items feature.fields decisions n found refl
    (ap (λ keys_selected. option_map (revalued keys_selected value) found) same ∙ ap (option_map (revalued selects value)) (sym (tags_are_pairs layer feature)) ∙ decided)
    (ap (λ (keys_selected : ℕ → Bool). option_map (count (λ pair. keys_selected pair.0)) found) same ∙ ap (option_map (count (λ pair. selects pair.0))) (sym (tags_are_pairs layer feature)) ∙ counted)

-- ---- what is refused

module _ (key : List ℕ) (ordinal feature : ℕ) (items : List LayerItem) (fields : List Field) where
  pub unreadable_refused : is_some (pairs_among items fields) ≡ false → attribute_checked key ordinal feature items fields ≡ Err (BadTags ordinal feature)
  unreadable_refused none = rw none refl

  module _ (readable : is_some (pairs_among items fields) ≡ true) where
    pub nothing_refused : pairs_with key items fields ≤ 1 → attribute_checked key ordinal feature items fields ≡ Ok tt
    nothing_refused few = let once : nat_lt 1 (pairs_with key items fields) ≡ false = le-ltb 1 (pairs_with key items fields) few in rw (readable, once) refl

    pub repeated_refused : 1 < pairs_with key items fields → attribute_checked key ordinal feature items fields ≡ Err (RepeatedKey ordinal feature)
    repeated_refused several = let twice : nat_lt 1 (pairs_with key items fields) ≡ true = lt-ltb 1 (pairs_with key items fields) several in rw (readable, twice) refl

-- ---- the run

module _ (key value : List ℕ) (items : List LayerItem) (fields : List Field) where
  -- a further pair, where none has the key
  pub gives_pair : (run : Splice Field) (more : List ℕ) → pairs_with key items fields ≡ 0 → more ≡ new_pair key value items → PutsPair more fields run → GivesAttribute key value items fields (Some run)
  gives_pair run more none is puts =
      let all = subst (λ bytes. PutsPair bytes fields run) is puts in
      record {
        can = all.can;
        makes = rw none all.makes;
        takes = rw none all.takes;
        puts = let put = all.puts in rw none (omega (arith, put));
      }

  given_by : (run : Option (Splice Field)) → AreThere (cons_option run []) fields → AllByRecursion IsField (put_all (cons_option run [])) → spliced_all (cons_option run []) fields ≡ with_attribute key value items fields → length (flat_map field_bytes (taken_all (cons_option run []) fields)) ≡ set_takes key value items fields → weigh layer_item_bytes (missing_entries key value items) + length (flat_map field_bytes (put_all (cons_option run []))) ≡ set_puts key value items fields → GivesAttribute key value items fields run
  given_by None there valid makes takes puts = record { can = tt; makes = makes; takes = takes; puts = puts }
  given_by (Some s) there valid makes takes puts = record {
    can = record { within = there.0; valid_put = subst (AllByRecursion IsField) (append-nil s.put) valid };
    makes = makes;
    takes = ap (λ list. length (flat_map field_bytes list)) (sym (append-nil (part s.index s.taken fields))) ∙ takes;
    puts = ap (λ list. weigh layer_item_bytes (missing_entries key value items) + length (flat_map field_bytes list)) (sym (append-nil s.put)) ∙ puts;
  }

  -- another value, where one pair has the key
  pub gives_value : (run : Option (Splice Field)) → pairs_with key items fields ≡ 1 → splices_of (field_fates 2 (replacements key value items fields) fields) ≡ cons_option run [] → FieldsLeft 2 (replacements key value items fields) fields → GivesAttribute key value items fields run
  gives_value run one is left =
      let takes = ap (λ list. length (flat_map field_bytes list)) (rw is at left.takes) in
      let puts = ap (λ list. length (flat_map field_bytes list)) (rw is at left.puts) in
      given_by run (rw is at left.there) (rw is at left.valid) (rw one (rw is at left.leaves)) (rw one takes) (rw one (omega (arith, puts)))
