-- A key that gets a value and is then unset: both are accepted, and the attributes of other keys are left.
use Rattle.std.proofs.Common.{◌≡◌, ℕ, ◌/◌, Bool, true, false, ◌||◌, not, ◌==◌, is_some, Option, Some, None, option_map, Result, Ok, Err, List, [], ◌∷◌, ◌++◌, append-nil, map, slice_get, refl, sym, ap, ◌∙◌, inl, inr, arith}
use Rattle.std.proofs.lemmas.Bool.{cases_Bool, eqb-true, ne_eqb}
use Rattle.std.proofs.lemmas.List.Elements.{filter-append, filter_map-append}
use Rattle.std.proofs.lemmas.List.Folds.{list_any-append}
use Rattle.std.proofs.lemmas.Bool.{and_parts}
use Rattle.std.proofs.lemmas.Slice.Eq.{bytes_eq-Decides}
use Rattle.std.specs.List.{cons_option, last_or, list_all, list_any}
use Rattle.std.specs.Option.{option_map_or}
use Rattle.std.specs.Str.{bytes_eq}
use Rattle.mvt_document.specs.Plain.{Field, Feature, LayerItem, OfFeature, PlainInLayer, Layer}
use Rattle.mvt_value.specs.Messages.{encoded_value}
use Rattle.mvt_meaning.specs.Command.{UnsetAttribute}
use Rattle.mvt_messages.specs.Attributes.{attribute_at, attributes, pairs_of}
use Rattle.mvt_messages.specs.Views.{content_in, contents, features, key_field, keys, layers, name_of, plain_fields}
use Rattle.mvt_meaning.specs.Selection.{selected, selected_feature, selected_in}
use Rattle.mvt_meaning.specs.Tagging.{is_key, without_attribute, without_tags}
use Rattle.mvt_meaning.specs.Meaning.{applied, change_feature, has_key, has_pairs, items_of}
use Rattle.mvt_meaning.specs.declared.refusal.Refusal.{Refusal}
use Rattle.mvt_meaning.specs.declared.refusal.Refusal.TheVariants.{NoLayer}
use Rattle.command_laws.proofs.Parts.{items_there}
use Rattle.command_laws.proofs.SelectedAgain.{feature_again, layer_again}
use Rattle.command_laws.specs.AttributeLaws.{FeatureBecomes, GetsAttribute, LosesAttribute, SetThenUnset, is_entry, is_of, of_other_keys, valued, with_entry, with_value}
use Rattle.command_laws.proofs.Excluded.{pairs_found, unset_unsets}
use Rattle.command_laws.proofs.Ids.{id_same}
use Rattle.command_laws.proofs.Setting.{set_sets}

-- ---- the name of the layer

-- keys and values are not names
no_name : (field : Field) → is_entry field ≡ true → content_in 1 field ≡ None
no_name field entry =
    elim (cases_Bool (field.tag.value / 8 == 1)) [
      | inl one ↦ absurd (
          let three : (field.tag.value / 8 == 3) ≡ false = ne_eqb (field.tag.value / 8) 3 (λ e. omega (arith, e, eqb-true (field.tag.value / 8) 1 one)) in
          let four : (field.tag.value / 8 == 4) ≡ false = ne_eqb (field.tag.value / 8) 4 (λ e. omega (arith, e, eqb-true (field.tag.value / 8) 1 one)) in
          let none = rw (three, four) at entry in
          cc
          )
      | inr other ↦ rw other refl
    ]

no_names : (more : List Field) → list_all is_entry more ≡ true → contents 1 more ≡ []
no_names [] e = refl
no_names (field ∷ more) e =
    let parts = and_parts (is_entry field) (list_all is_entry more) e in
    ap (λ (found : Option (List ℕ)). cons_option found (contents 1 more)) (no_name field parts.0) ∙ no_names more parts.1

name_same : (old new : Layer) (more : List Field) → plain_fields new.items ≡ plain_fields old.items ++ more → list_all is_entry more ≡ true → name_of new ≡ name_of old
name_same old new more fields entries =
    ap (last_or None)
    (ap (contents 1) fields
    ∙ filter_map-append (content_in 1) (plain_fields old.items) more
    ∙ ap (λ (list : List (List ℕ)). contents 1 (plain_fields old.items) ++ list) (no_names more entries)
    ∙ append-nil (contents 1 (plain_fields old.items)))

-- ---- the key is there

key_first : (key : List ℕ) (found : Option (List ℕ)) (rest : List (List ℕ)) → (option_map_or (bytes_eq key) found false || list_any (bytes_eq key) rest) ≡ list_any (bytes_eq key) (cons_option found rest)
key_first key None rest = refl
key_first key (Some bytes) rest = refl

key_among : (key : List ℕ) (items : List LayerItem) → list_any (is_key key) items ≡ list_any (bytes_eq key) (contents key_field (plain_fields items))
key_among key [] = refl
key_among key (OfFeature feature ∷ items) = key_among key items
key_among key (PlainInLayer field ∷ items) =
    ap (λ (rest : Bool). option_map_or (bytes_eq key) (content_in key_field field) false || rest) (key_among key items) ∙ key_first key (content_in key_field field) (contents key_field (plain_fields items))

entry_among : (bytes : List ℕ) (entries : List (List ℕ)) → list_any (bytes_eq bytes) (with_entry bytes entries) ≡ true
entry_among bytes entries =
    elim (cases_Bool (list_any (bytes_eq bytes) entries)) [
      | inl some ↦ rw some some
      | inr none ↦ rw none (list_any-append (bytes_eq bytes) entries (bytes ∷ []) ∙ rw (none, (bytes_eq-Decides bytes bytes).1 refl) refl)
    ]

-- ---- the attributes of other keys

others_valued : (key value : List ℕ) (found : List (List ℕ × List ℕ)) → of_other_keys key (map (valued key value) found) ≡ of_other_keys key found
others_valued key value [] = refl
others_valued key value (attribute ∷ found) =
    elim (cases_Bool (is_of key attribute)) [
      | inl same ↦ rw (same, same) (others_valued key value found)
      | inr other ↦ rw (other, other) (ap (λ rest. attribute ∷ rest) (others_valued key value found))
    ]

none_of_key : (key value : List ℕ) → of_other_keys key ((key, value) ∷ []) ≡ []
none_of_key key value = let same : bytes_eq key key ≡ true = (bytes_eq-Decides key key).1 refl in rw same refl

others_left : (key value : List ℕ) (found : List (List ℕ × List ℕ)) → of_other_keys key (with_value key value found) ≡ of_other_keys key found
others_left key value found =
    elim (cases_Bool (list_any (is_of key) found)) [
      | inl some ↦ rw some (others_valued key value found)
      | inr none ↦ (
          rw none
          (filter-append (λ (attribute : List ℕ × List ℕ). not (bytes_eq key attribute.0)) found ((key, value) ∷ [])
          ∙ ap (λ (more : List (List ℕ × List ℕ)). of_other_keys key found ++ more) (none_of_key key value)
          ∙ append-nil (of_other_keys key found))
          )
    ]

-- ---- both commands

some_pairs : (layer : Layer) (pairs : Option (List (ℕ × ℕ))) (found : List (List ℕ × List ℕ)) → option_map (map (attribute_at layer)) pairs ≡ Some found → is_some pairs ≡ true
some_pairs layer None found e = absurd cc
some_pairs layer (Some pairs) found e = refl

one_ordinal : (found : Result ℕ Refusal) (one other : ℕ) → found ≡ Ok one → found ≡ Ok other → other ≡ one
one_ordinal found one other is is_too = let both = sym is ∙ is_too in cc

one_item : {A : Type 0} (list : List A) (at place : ℕ) (one other : A) → place ≡ at → slice_get list at ≡ Some one → slice_get list place ≡ Some other → other ≡ one
one_item list at place one other here is is_too = let there = ap (slice_get list) (sym here) ∙ is_too in let both = sym is ∙ there in cc

-- a feature that got the value and then lost the key
loses_after : (key value : List ℕ) (old between was new : Layer) (former gained lost present : Feature) → was ≡ between → lost ≡ gained → FeatureBecomes (GetsAttribute key value old between) former gained → FeatureBecomes (LosesAttribute key was new) lost present → FeatureBecomes (LosesAttribute key old new) former present
loses_after key value old between was new former gained lost present layer_is feature_is g l =
    let had : attributes between gained ≡ Some l.changed.found = ap (λ (layer : Layer). attributes layer gained) (sym layer_is) ∙ ap (attributes was) (sym feature_is) ∙ l.changed.had in
    let same : l.changed.found ≡ with_value key value g.changed.found = let both = sym had ∙ g.changed.has in cc in
    record {
      tag = l.tag ∙ ap (λ (feature : Feature). feature.tag) feature_is ∙ g.tag;
      width = l.width ∙ ap (λ (feature : Feature). feature.width) feature_is ∙ g.width;
      changed = record {
        found = g.changed.found;
        had = g.changed.had;
        has = l.changed.has ∙ ap (λ (list : List (List ℕ × List ℕ)). Some (of_other_keys key list)) same ∙ ap Some (others_left key value g.changed.found);
        others = l.changed.others ∙ ap (λ (feature : Feature). without_tags feature.fields) feature_is ∙ g.changed.others;
      };
    }

pub set_then_unset : SetThenUnset
set_then_unset choice feature key given old between e =
    let value = encoded_value given in
    let c = set_sets choice feature key given old between e in
    let s = c.changed in
    let selects : selected choice between ≡ Ok c.ordinal =
    layer_again choice old between c.ordinal c.former c.present c.was c.is c.alone.others (name_same c.former c.present s.more s.fields s.entries) ∙ c.selects in
    let chosen : selected_feature feature c.present ≡ Ok s.ordinal =
    feature_again feature c.former c.present s.ordinal s.former s.present s.was s.is s.others (id_same s.former s.present s.becomes.changed.others) ∙ s.selects in
    let found : selected_in feature c.ordinal between ≡ Ok s.ordinal = ap (λ (there : Option Layer). option_map_or (selected_feature feature) there (Err NoLayer)) c.is ∙ chosen in
    let there : has_key key c.ordinal between ≡ true =
    ap (list_any (is_key key)) (items_there between c.ordinal c.present c.is) ∙ key_among key c.present.items ∙ ap (list_any (bytes_eq key)) s.keys_so ∙ entry_among key (keys c.former) in
    let readable : has_pairs c.ordinal s.ordinal between ≡ true =
    ap (λ (pairs : Option (List (ℕ × ℕ))). is_some pairs) (pairs_found between c.ordinal s.ordinal c.present s.present c.is s.is)
    ∙ some_pairs c.present (pairs_of c.present s.present) (with_value key value s.becomes.changed.found) s.becomes.changed.has in
    let new = change_feature (without_attribute key (items_of c.ordinal between)) c.ordinal s.ordinal between in
    let accepted : applied (UnsetAttribute choice feature key) between ≡ Ok new = rw (selects, found, there, readable) refl in
    let u = unset_unsets choice feature key between new accepted in
    let ordinal : u.ordinal ≡ c.ordinal = one_ordinal (selected choice between) c.ordinal u.ordinal selects u.selects in
    let layer : u.former ≡ c.present = one_item (layers between) c.ordinal u.ordinal c.present u.former ordinal c.is u.was in
    let f = u.changed in
    let index : f.ordinal ≡ s.ordinal = one_ordinal (selected_feature feature c.present) s.ordinal f.ordinal chosen (ap (selected_feature feature) (sym layer) ∙ f.selects) in
    let gained : f.former ≡ s.present = one_item (features c.present) s.ordinal f.ordinal s.present f.former index s.is (ap (λ (l : Layer). slice_get (features l) f.ordinal) (sym layer) ∙ f.was) in (
      new,
      accepted,
      record {
        ordinal = c.ordinal;
        selects = c.selects;
        former = c.former;
        was = c.was;
        present = u.present;
        is = ap (slice_get (layers new)) (sym ordinal) ∙ u.is;
        tag = u.tag ∙ ap (λ (l : Layer). l.tag) layer ∙ c.tag;
        width = u.width ∙ ap (λ (l : Layer). l.width) layer ∙ c.width;
        changed = record {
          ordinal = s.ordinal;
          selects = s.selects;
          former = s.former;
          was = s.was;
          present = f.present;
          is = ap (slice_get (features u.present)) (sym index) ∙ f.is;
          becomes = loses_after key value c.former c.present u.former u.present s.former s.present f.former f.present layer gained s.becomes (record { tag = f.tag; width = f.width; changed = f.changed });
        };
        alone = record {
          others = λ other apart. u.alone.others other (λ same. apart (same ∙ ordinal)) ∙ c.alone.others other apart;
          fields = u.alone.fields ∙ c.alone.fields;
          positions = u.alone.positions ∙ c.alone.positions;
        };
      },
    )
