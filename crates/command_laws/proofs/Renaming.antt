-- What an accepted rename makes of a tile.
use Rattle.std.proofs.Common.{◌≡◌, ℕ, ◌+◌, ◌/◌, ◌<◌, Bool, true, false, not, ◌==◌, Some, None, option_map, List, [], ◌∷◌, ◌++◌, length, refl, sym, ap, ◌∙◌, inl, inr, subst, arith}
use Rattle.std.proofs.lemmas.Bool.{cases_Bool, or_parts}
use Rattle.std.proofs.lemmas.Bool.Decides.{nat_tests}
use Rattle.std.proofs.lemmas.Slice.Eq.{bytes_eq-Decides}
use Rattle.std.specs.List.{filter_map, cons_option, list_any, last_or}
use Rattle.mvt_document.specs.Plain.{Number, Body, Spelled, Eight, Four, Delimited, Group, LayerItem, OfFeature, PlainInLayer, Layer, Document}
use Rattle.mvt_messages.specs.Views.{content_in, contents, is_named, layer_in, layers, name_of, plain_fields}
use Rattle.mvt_meaning.specs.Selection.{selected}
use Rattle.mvt_meaning.specs.Meaning.{◌>>=◌, change_layer, is_name, is_taken, name_in, named_items, new_content, refuse_if, with_text, within_limit}
use Rattle.mvt_meaning.specs.declared.refusal.Refusal.TheVariants.{NameTaken}
use Rattle.mvt_meaning.proofs.Positions.{positions_from, positions_pass, positions_skip}
use Rattle.mvt_meaning.proofs.Selecting.{selected_within}
use Rattle.mvt_meaning.proofs.SelectionLemmas.{one_layer}
use Rattle.command_laws.specs.LayerLaws.{IsRenamed, RenameNames, without_names}
use Rattle.command_laws.proofs.Accepted.{accepted, not_refused, within_is}
use Rattle.command_laws.proofs.Around.{around, parts_between}
use Rattle.command_laws.proofs.LastPut.{last_put, others_put}
use Rattle.command_laws.proofs.Parts.{layer_differs, layers_between, with_items}

-- ---- the name of the layer

name_in_field : (name : List ℕ) (tag : Number) (body : Body) → is_name (PlainInLayer (record { tag = tag; body = body })) ≡ true → name_in (with_text name (PlainInLayer (record { tag = tag; body = body }))) ≡ Some name
name_in_field name tag (Spelled number) e = absurd (elim (cases_Bool (tag.value / 8 == 1)) [ inl one ↦ let at = rw one at e in cc | inr other ↦ let at = rw other at e in cc ])
name_in_field name tag (Eight bytes) e = absurd (elim (cases_Bool (tag.value / 8 == 1)) [ inl one ↦ let at = rw one at e in cc | inr other ↦ let at = rw other at e in cc ])
name_in_field name tag (Four bytes) e = absurd (elim (cases_Bool (tag.value / 8 == 1)) [ inl one ↦ let at = rw one at e in cc | inr other ↦ let at = rw other at e in cc ])
name_in_field name tag (Group bytes) e = absurd (elim (cases_Bool (tag.value / 8 == 1)) [ inl one ↦ let at = rw one at e in cc | inr other ↦ let at = rw other at e in cc ])
name_in_field name tag (Delimited width bytes) e = elim (cases_Bool (tag.value / 8 == 1)) [ inl one ↦ rw one refl | inr other ↦ absurd (let at = rw other at e in cc) ]

text_given : (name : List ℕ) (item : LayerItem) → is_name item ≡ true → name_in (with_text name item) ≡ Some name
text_given name (OfFeature feature) e = absurd cc
text_given name (PlainInLayer field) e = name_in_field name field.tag field.body e

-- the contents whose last is a layer's name are those of its name fields, in order
names_given : (items : List LayerItem) → contents 1 (plain_fields items) ≡ filter_map name_in items
names_given [] = refl
names_given (OfFeature feature ∷ items) = names_given items
names_given (PlainInLayer field ∷ items) = ap (cons_option (content_in 1 field)) (names_given items)

-- a layer that is renamed has the name
name_of_renamed : (name : List ℕ) (layer : Layer) → name_of (with_items (named_items name) layer) ≡ Some name
name_of_renamed name layer =
    ap (last_or None) (names_given (named_items name layer.items))
    ∙ last_put name_in (with_text name) name (text_given name) (PlainInLayer (new_content 10 name)) layer.items refl

-- a layer that is renamed keeps everything but its names
rest_of_renamed : (name : List ℕ) (layer : Layer) → without_names (with_items (named_items name) layer) ≡ without_names layer
rest_of_renamed name layer =
    ap (λ (items : List LayerItem). record { tag = layer.tag; width = layer.width; items = items })
    (others_put name_in (with_text name) name (text_given name) (PlainInLayer (new_content 10 name)) layer.items refl)

-- ---- only the layer has it

none_before : {A : Type 0} (passes : A → Bool) (n at : ℕ) (xs : List A) → at < n → list_any (λ other. not (other == at)) (positions_from passes n xs) ≡ false → positions_from passes n xs ≡ []
none_before passes n at [] low e = refl
none_before passes n at (x ∷ xs) low e =
    elim (cases_Bool (passes x)) [
      | inl pass ↦ absurd (
          let found = or_parts (not (n == at)) (list_any (λ other. not (other == at)) (positions_from passes (n + 1) xs)) (rw (positions_pass passes n x xs pass) at e) in
          let apart : not (n == at) ≡ true = grind (arith, nat_tests) in
          cc
          )
      | inr skip ↦ positions_skip passes n x xs skip ∙ none_before passes (n + 1) at xs (omega arith) (rw (positions_skip passes n x xs skip) at e)
    ]

alone_at : {A : Type 0} (passes : A → Bool) (n k : ℕ) (front : List A) (x y : A) (back : List A) → passes y ≡ true → k ≡ n + length front → list_any (λ other. not (other == k)) (positions_from passes n (front ++ x ∷ back)) ≡ false → positions_from passes n (front ++ y ∷ back) ≡ k ∷ []
alone_at passes n k [] x y back named place e =
    let rest : positions_from passes (n + 1) back ≡ [] = elim (cases_Bool (passes x)) [
      | inl pass ↦ none_before passes (n + 1) k back (omega arith) (or_parts (not (n == k)) (list_any (λ other. not (other == k)) (positions_from passes (n + 1) back)) (rw (positions_pass passes n x back pass) at e)).1
      | inr skip ↦ none_before passes (n + 1) k back (omega arith) (rw (positions_skip passes n x back skip) at e)
    ] in
    let here : n ≡ k = omega arith in
    positions_pass passes n y back named ∙ rw (rest, here) refl
alone_at passes n k (z ∷ front) x y back named place e =
    elim (cases_Bool (passes z)) [
      | inl pass ↦ absurd (
          let found = or_parts (not (n == k)) (list_any (λ other. not (other == k)) (positions_from passes (n + 1) (front ++ x ∷ back))) (rw (positions_pass passes n z (front ++ x ∷ back) pass) at e) in
          let apart : not (n == k) ≡ true = grind (arith, nat_tests) in
          cc
          )
      | inr skip ↦ positions_skip passes n z (front ++ y ∷ back) skip ∙ alone_at passes (n + 1) k front x y back named (omega arith) (rw (positions_skip passes n z (front ++ x ∷ back) skip) at e)
    ]

named_so : (name : List ℕ) (layer : Layer) → is_named name (with_items (named_items name) layer) ≡ true
named_so name layer = rw (name_of_renamed name layer) ((bytes_eq-Decides name name).1 refl)

-- ---- an accepted rename

is_renamed : (name : List ℕ) (ordinal : ℕ) (old : Document) → ordinal < length (layers old) → is_taken name ordinal old ≡ false → IsRenamed name ordinal old (change_layer (named_items name) ordinal old)
is_renamed name ordinal old within free =
    let new = change_layer (named_items name) ordinal old in
    let a = around layer_in old ordinal within in
    let d = layer_differs (named_items name) ordinal old a in
    let renamed = with_items (named_items name) a.value in
    let before = filter_map layer_in a.front in
    let following = filter_map layer_in a.back in
    let were : layers old ≡ before ++ a.value ∷ following = ap layers a.whole ∙ parts_between layer_in a.front a.item a.value a.back a.has in
    let are : layers new ≡ before ++ renamed ∷ following = layers_between (named_items name) ordinal old a in
    let counted = a.counted in
    let others : list_any (λ other. not (other == ordinal)) (positions_from (is_named name) 0 (before ++ a.value ∷ following)) ≡ false = subst (λ (ls : List Layer). list_any (λ other. not (other == ordinal)) (positions_from (is_named name) 0 ls) ≡ false) were free in
    record {
      named = ap (option_map name_of) d.is ∙ ap (λ text. Some text) (name_of_renamed name a.value);
      alone = ap (λ ls. one_layer (positions_from (is_named name) 0 ls)) are ∙ ap one_layer (alone_at (is_named name) 0 ordinal before a.value renamed following (named_so name a.value) (omega arith) others);
      rest = ap (option_map without_names) d.is ∙ ap (λ layer. Some layer) (rest_of_renamed name a.value) ∙ sym (ap (option_map without_names) d.was);
      others = d.others;
      fields = d.fields;
      positions = d.positions;
    }

pub rename_names : RenameNames
rename_names choice name old new e =
    let selects = accepted (selected choice old) (λ ordinal. refuse_if (is_taken name ordinal old) NameTaken >>= λ free. within_limit (change_layer (named_items name) ordinal old)) new e in
    let free = accepted (refuse_if (is_taken name selects.0 old) NameTaken) (λ free. within_limit (change_layer (named_items name) selects.0 old)) new selects.2 in
    let made = within_is (change_layer (named_items name) selects.0 old) new free.2 in
    let within = selected_within choice old selects.0 selects.1 in
    (selects.0, selects.1, subst (IsRenamed name selects.0 old) made (is_renamed name selects.0 old within (not_refused (is_taken name selects.0 old) NameTaken free.0 free.1)))
