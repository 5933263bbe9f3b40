-- A shift, and shifting back.
use Rattle.std.proofs.Common.{◌≡◌, ◌≢◌, ℕ, zero, suc, ◌^◌, ◌≤◌, Bool, true, false, ◌==◌, ℤ, pos, negsuc, ◌+ℤ◌, is_some, Option, Some, None, Result, Ok, Err, List, [], ◌∷◌, length, filter, slice_get, nat_lt, refl, sym, ap, ◌∙◌, inl, inr, subst, arith}
use Rattle.std.specs.Prelude.{neg_ℤ, unsigned_abs}
use Rattle.std.proofs.lemmas.Bool.{and_from, cases_Bool, cond_both, eqb-true, le-ltb, lt-ltb}
use Rattle.std.proofs.lemmas.Int.{ints}
use Rattle.std.specs.List.{flat_map, last_or}
use Rattle.std.specs.Option.{option_map_or}
use Rattle.mvt_document.specs.declared.TheConstants.{MAX_FILE}
use Rattle.mvt_document.specs.Places.{in_feature, in_layer}
use Rattle.mvt_document.specs.Plain.{Number, Field, Feature, LayerItem, OfFeature, PlainInLayer, Layer, TileItem, OfLayer, PlainInTile, Document}
use Rattle.mvt_document.specs.Signed.{unzigzag, zigzag}
use Rattle.mvt_document.specs.Wire.{bytes_of, minimal}
use Rattle.mvt_document.proofs.Signed.{unzigzag-zigzag, zigzag-unzigzag}
use Rattle.mvt_geometry.specs.Checks.{is_delta}
use Rattle.mvt_renumber.specs.Laws.{read_numbers}
use Rattle.mvt_messages.specs.Numbers.{numbers}
use Rattle.mvt_renumber.specs.Renumbering.{field_numbers, renumbered, with_number}
use Rattle.mvt_renumber.proofs.Decisions.{with_number-same}
use Rattle.mvt_renumber.proofs.Reread.{read_of_fields}
use Rattle.mvt_messages.specs.Attributes.{values_in}
use Rattle.mvt_view.proofs.HasGeometry.{is_found}
use Rattle.mvt_messages.specs.Views.{contents, id_of, kind_of, name_of}
use Rattle.mvt_meaning.specs.Geometries.{can_move, can_move_integers, further, geometry_among, moves, shifted}
use Rattle.mvt_meaning.specs.Meaning.{can_shift, change_feature, fields_of, is_drawn, items_of, within_limit}
use Rattle.mvt_meaning.specs.Ordinals.{change_first, change_nth}
use Rattle.mvt_meaning.specs.Selection.{is_feature, is_layer, selected, selected_feature, selected_in}
use Rattle.mvt_meaning.specs.declared.refusal.Refusal.{Refusal}
use Rattle.mvt_meaning.specs.declared.refusal.Refusal.TheVariants.{NoLayer}
use Rattle.mvt_meaning.proofs.Given.{number_given}
use Rattle.mvt_meaning.proofs.Found.{fields_of_nth, from_after, from_here, from_later, items_of_nth, still_feature, still_layer}
use Rattle.mvt_meaning.proofs.Moving.{moves_short}
use Rattle.command_laws.proofs.OtherFields.{values_stay}
use Rattle.command_laws.proofs.Parts.{fields_found}
use Rattle.command_laws.proofs.ReadValues.{value_list, values_of_read}
use Rattle.command_laws.proofs.SelectedAgain.{feature_again, layer_again}
use Rattle.command_laws.specs.GeometryLaws.{ShiftBack, Shifts, led_further, moved}
use Rattle.command_laws.proofs.Renumbered.{both_back}
use Rattle.command_laws.proofs.Shifted.{decided_so, is_shift, moves_found, moves_some, no_further, same_integers, shift_shifts, shifted_read}
use Rattle.command_laws.proofs.Translated.{first_deltas}

-- ---- deltas back

there_and_back : (z delta : ℤ) → (z +ℤ delta) +ℤ neg_ℤ delta ≡ z
there_and_back z delta = omega (arith, ints)

delta_back : (delta : ℤ) (parameter : ℕ) → further (neg_ℤ delta) (zigzag (further delta parameter)) ≡ unzigzag parameter
delta_back delta parameter =
    ap (λ (z : ℤ). z +ℤ neg_ℤ delta) (unzigzag-zigzag (unzigzag parameter +ℤ delta)) ∙ there_and_back (unzigzag parameter) delta

short_back : (delta : ℤ) (number : Number) → number ≡ minimal number.value → led_further (neg_ℤ delta) (led_further delta number) ≡ number
short_back delta number shortest =
    let value : ℕ = zigzag (further delta number.value) in
    let led : Number = led_further delta number in
    let back : zigzag (further (neg_ℤ delta) led.value) ≡ number.value =
    ap (λ (n : ℕ). zigzag (further (neg_ℤ delta) n)) (number_given value number) ∙ ap zigzag (delta_back delta number.value) ∙ zigzag-unzigzag number.value in
    ap (λ (n : ℕ). with_number n led) back
    ∙ cond_both (led.value == number.value) led (minimal number.value) (λ (n : Number). n ≡ number)
    (λ same. with_number-same value number (sym (eqb-true led.value number.value same) ∙ number_given value number))
    (λ other. sym shortest)

-- a parameter in its shortest spelling is again the same, and so is one that stays
led_back : (delta : ℤ) (number : Number) → (delta ≢ pos 0 → number ≡ minimal number.value) → led_further (neg_ℤ delta) (led_further delta number) ≡ number
led_back (pos zero) number shortest = ap (led_further (pos 0)) (no_further number) ∙ no_further number
led_back (pos (suc n)) number shortest = short_back (pos (suc n)) number (shortest (λ e. absurd cc))
led_back (negsuc n) number shortest = short_back (negsuc n) number (shortest (λ e. absurd cc))

module _ (dx dy : ℤ) where
  fields_back : (fields : List Field) (command along down : Number) (more : List Number) → is_some (geometry_among fields) ≡ true → can_move dx dy fields ≡ true → read_numbers 4 fields ≡ Some (command ∷ along ∷ down ∷ more) → (dx ≢ pos 0 → along ≡ minimal along.value) → (dy ≢ pos 0 → down ≡ minimal down.value)
      → shifted (neg_ℤ dx) (neg_ℤ dy) (shifted dx dy fields) ≡ fields
  fields_back fields command along down more drawn can read short_along short_down =
      let list : List Number = command ∷ along ∷ down ∷ more in
      let led : List Number = command ∷ led_further dx along ∷ led_further dy down ∷ more in
      let short = moves_short dx dy fields drawn can in
      let there : List (Option ℕ) = moves dx dy fields in
      let back : List (Option ℕ) = moves (neg_ℤ dx) (neg_ℤ dy) (shifted dx dy fields) in
      let whole : flat_map (field_numbers 4) fields ≡ list = read_of_fields 4 fields list read in
      let first : renumbered there list ≡ led =
      ap (λ (decisions : List (Option ℕ)). renumbered decisions list) (moves_found dx dy fields list read) ∙ decided_so dx dy command along down more in
      let second : renumbered back led ≡ list =
      ap (λ (decisions : List (Option ℕ)). renumbered decisions led) (moves_found (neg_ℤ dx) (neg_ℤ dy) (shifted dx dy fields) led (shifted_read dx dy fields command along down more short read))
      ∙ decided_so (neg_ℤ dx) (neg_ℤ dy) command (led_further dx along) (led_further dy down) more
      ∙ ap (λ (n : Number). command ∷ n ∷ led_further (neg_ℤ dy) (led_further dy down) ∷ more) (led_back dx along short_along)
      ∙ ap (λ (n : Number). command ∷ along ∷ n ∷ more) (led_back dy down short_down) in
      both_back 4 there back fields (moves_some dx dy fields) (moves_some (neg_ℤ dx) (neg_ℤ dy) (shifted dx dy fields)) short
      (ap (λ (numbers : List Number). renumbered back (renumbered there numbers)) whole ∙ ap (renumbered back) first ∙ second ∙ sym whole)

-- ---- an item that changes, and back

module _ {A : Type 0} (passes : A → Bool) (there back : A → A) (keeps : (x : A) → passes (there x) ≡ passes x) where
  item_back : (ordinal : ℕ) (xs : List A) → ((x : A) → slice_get (filter passes xs) ordinal ≡ Some x → back (there x) ≡ x) → change_nth passes back ordinal (change_nth passes there ordinal xs) ≡ xs
  item_back ordinal [] same = refl
  item_back zero (x ∷ xs) same =
      elim (cases_Bool (passes x)) [
        | inl pass ↦ ap (change_nth passes back 0) (from_here passes (change_first there) x xs pass) ∙ from_here passes (change_first back) (there x) xs (keeps x ∙ pass) ∙ ap (λ y. y ∷ xs) (same x (rw pass refl))
        | inr skip ↦ ap (change_nth passes back 0) (from_after passes (change_first there) 0 x xs skip) ∙ from_after passes (change_first back) 0 x (change_nth passes there 0 xs) skip ∙ ap (λ ys. x ∷ ys) (item_back zero xs (λ y is. same y (rw skip is)))
      ]
  item_back (suc ordinal) (x ∷ xs) same =
      elim (cases_Bool (passes x)) [
        | inl pass ↦ ap (change_nth passes back (suc ordinal)) (from_later passes (change_first there) ordinal x xs pass) ∙ from_later passes (change_first back) ordinal x (change_nth passes there ordinal xs) pass ∙ ap (λ ys. x ∷ ys) (item_back ordinal xs (λ y is. same y (rw pass is)))
        | inr skip ↦ ap (change_nth passes back (suc ordinal)) (from_after passes (change_first there) (suc ordinal) x xs skip) ∙ from_after passes (change_first back) (suc ordinal) x (change_nth passes there (suc ordinal) xs) skip ∙ ap (λ ys. x ∷ ys) (item_back (suc ordinal) xs (λ y is. same y (rw skip is)))
      ]

module _ (there back : List Field → List Field) (ordinal index : ℕ) (document : Document) (same : (fields : List Field) → fields_of ordinal index document ≡ fields → back (there fields) ≡ fields) where
  feature_back : (items : List LayerItem) → items_of ordinal document ≡ items → (item : LayerItem) → slice_get (filter is_feature items) index ≡ Some item → in_feature back (in_feature there item) ≡ item
  feature_back items are (PlainInLayer field) is = refl
  feature_back items are (OfFeature feature) is =
      ap (λ (fields : List Field). OfFeature (record { tag = feature.tag; width = feature.width; fields = fields })) (same feature.fields (fields_of_nth document ordinal index items feature are is))

  layer_back : (item : TileItem) → slice_get (filter is_layer document) ordinal ≡ Some item → in_layer (change_nth is_feature (in_feature back) index) (in_layer (change_nth is_feature (in_feature there) index) item) ≡ item
  layer_back (PlainInTile field) is = refl
  layer_back (OfLayer layer) is =
      ap (λ (items : List LayerItem). OfLayer (record { tag = layer.tag; width = layer.width; items = items }))
      (item_back is_feature (in_feature there) (in_feature back) (still_feature there) index layer.items (feature_back layer.items (items_of_nth document ordinal layer is)))

  document_back : change_feature back ordinal index (change_feature there ordinal index document) ≡ document
  document_back =
      item_back is_layer (in_layer (change_nth is_feature (in_feature there) index)) (in_layer (change_nth is_feature (in_feature back) index)) (still_layer (change_nth is_feature (in_feature there) index)) ordinal document layer_back

-- ---- shifting back

ok_same : (found : Result ℕ Refusal) (one other : ℕ) → found ≡ Ok one → found ≡ Ok other → one ≡ other
ok_same found one other is is_too = let both = sym is ∙ is_too in cc

within_so : (document made : Document) → document ≡ made → length (bytes_of made) ≤ MAX_FILE → within_limit document ≡ Ok made
within_so document made same within =
    let fits : nat_lt MAX_FILE (length (bytes_of made)) ≡ false = le-ltb MAX_FILE (length (bytes_of made)) within in
    ap within_limit same ∙ rw fits refl

-- the first parameters of a feature that was shifted can lead back
can_back : (dx dy : ℤ) (old new : Feature) → Shifts dx dy old new → can_move (neg_ℤ dx) (neg_ℤ dy) new.fields ≡ true
can_back dx dy old new s =
    let w = first_deltas dx dy (kind_of old) s.had.integers s.geometry s.had.has in
    let values : s.command.value ∷ s.along.value ∷ s.down.value ∷ value_list s.more ≡ w.number ∷ w.x ∷ w.y ∷ w.more =
    same_integers (values_in (numbers 4 old.fields)) _ _ s.had.read (values_of_read 4 old.fields (s.command ∷ s.along ∷ s.down ∷ s.more) s.were) ∙ w.spelled in
    let x : s.along.value ≡ w.x = cc in
    let y : s.down.value ≡ w.y = cc in
    let along : further (neg_ℤ dx) (led_further dx s.along).value ≡ unzigzag w.x =
    ap (further (neg_ℤ dx)) (number_given (zigzag (further dx s.along.value)) s.along) ∙ delta_back dx s.along.value ∙ ap unzigzag x in
    let down : further (neg_ℤ dy) (led_further dy s.down).value ≡ unzigzag w.y =
    ap (further (neg_ℤ dy)) (number_given (zigzag (further dy s.down.value)) s.down) ∙ delta_back dy s.down.value ∙ ap unzigzag y in
    ap (λ (found : Option (List ℕ)). option_map_or (can_move_integers (neg_ℤ dx) (neg_ℤ dy)) found true) (values_of_read 4 new.fields (s.command ∷ led_further dx s.along ∷ led_further dy s.down ∷ s.more) s.are)
    ∙ and_from (is_delta (further (neg_ℤ dx) (led_further dx s.along).value)) (is_delta (further (neg_ℤ dy) (led_further dy s.down).value))
    (ap is_delta along ∙ lt-ltb (unsigned_abs (unzigzag w.x)) (2 ^ 31) w.along)
    (ap is_delta down ∙ lt-ltb (unsigned_abs (unzigzag w.y)) (2 ^ 31) w.down)

pub shift_back : ShiftBack
shift_back choice feature dx dy old between valid within shortest e =
    let c = shift_shifts choice feature dx dy old between valid within e in
    let f = c.changed in
    let s = f.changed in
    let i = is_shift choice feature dx dy old between e in
    let there : List Field → List Field = shifted dx dy in
    let back : List Field → List Field = shifted (neg_ℤ dx) (neg_ℤ dy) in
    let chosen_then : selected_in feature c.ordinal old ≡ Ok f.ordinal = ap (λ (layer : Option Layer). option_map_or (selected_feature feature) layer (Err NoLayer)) c.was ∙ f.selects in
    let ordinal : i.ordinal ≡ c.ordinal = ok_same (selected choice old) i.ordinal c.ordinal i.selects c.selects in
    let index : i.index ≡ f.ordinal = ok_same (selected_in feature c.ordinal old) i.index f.ordinal (ap (λ (n : ℕ). selected_in feature n old) (sym ordinal) ∙ i.found) chosen_then in
    let made : change_feature there c.ordinal f.ordinal old ≡ between =
    ap (λ (n : ℕ). change_feature there n f.ordinal old) (sym ordinal) ∙ ap (λ (n : ℕ). change_feature there i.ordinal n old) (sym index) ∙ i.made in
    let drawn_then : is_drawn c.ordinal f.ordinal old ≡ true =
    ap (λ (n : ℕ). is_drawn n f.ordinal old) (sym ordinal) ∙ ap (λ (n : ℕ). is_drawn i.ordinal n old) (sym index) ∙ i.drawn in
    let can_then : can_shift dx dy c.ordinal f.ordinal old ≡ true =
    ap (λ (n : ℕ). can_shift dx dy n f.ordinal old) (sym ordinal) ∙ ap (λ (n : ℕ). can_shift dx dy i.ordinal n old) (sym index) ∙ i.can in
    let fields_then : fields_of c.ordinal f.ordinal old ≡ f.former.fields = fields_found old c.ordinal f.ordinal c.former f.former c.was f.was in
    let read : read_numbers 4 (fields_of c.ordinal f.ordinal old) ≡ Some (s.command ∷ s.along ∷ s.down ∷ s.more) = ap (read_numbers 4) fields_then ∙ s.were in
    let short = shortest c.ordinal f.ordinal s.command s.along s.down s.more c.selects chosen_then read in
    let same : (fields : List Field) → fields_of c.ordinal f.ordinal old ≡ fields → back (there fields) ≡ fields = λ fields are.
    fields_back dx dy fields s.command s.along s.down s.more
    (subst (λ (fs : List Field). is_some (geometry_among fs) ≡ true) are drawn_then)
    (subst (λ (fs : List Field). can_move dx dy fs ≡ true) are can_then)
    (ap (read_numbers 4) (sym are) ∙ read) short.0 short.1 in
    let returned : change_feature (shifted (neg_ℤ dx) (neg_ℤ dy)) c.ordinal f.ordinal between ≡ old =
    ap (change_feature back c.ordinal f.ordinal) (sym made) ∙ document_back there back c.ordinal f.ordinal old same in
    let name : name_of c.present ≡ name_of c.former = ap (λ (fields : List Field). last_or None (contents 1 fields)) f.alone.fields in
    let selects : selected choice between ≡ Ok c.ordinal = layer_again choice old between c.ordinal c.former c.present c.was c.is c.alone.others name ∙ c.selects in
    let id : id_of f.present ≡ id_of f.former = ap (last_or None) (values_stay 4 1 (λ e. omega (arith, e)) f.former.fields f.present.fields s.others) in
    let chosen : selected_feature feature c.present ≡ Ok f.ordinal = feature_again feature c.former c.present f.ordinal f.former f.present f.was f.is f.alone.others id ∙ f.selects in
    let found : selected_in feature c.ordinal between ≡ Ok f.ordinal = ap (λ (layer : Option Layer). option_map_or (selected_feature feature) layer (Err NoLayer)) c.is ∙ chosen in
    let fields : fields_of c.ordinal f.ordinal between ≡ f.present.fields = fields_found between c.ordinal f.ordinal c.present f.present c.is f.is in
    let drawn : is_drawn c.ordinal f.ordinal between ≡ true = ap (λ (fs : List Field). is_some (geometry_among fs)) fields ∙ is_found f.present (moved dx dy s.geometry) s.has in
    let can : can_shift (neg_ℤ dx) (neg_ℤ dy) c.ordinal f.ordinal between ≡ true = ap (can_move (neg_ℤ dx) (neg_ℤ dy)) fields ∙ can_back dx dy f.former f.present s in
    rw (selects, found, drawn, can) (within_so (change_feature (shifted (neg_ℤ dx) (neg_ℤ dy)) c.ordinal f.ordinal between) old returned within)
