-- The layers of a name, as they come one after the other.
use Rattle.std.proofs.Common.{◌≡◌, ℕ, ◌<◌, Bool, true, false, not, ◌==◌, if◌then◌else◌, Option, Some, None, Result, Ok, Err, List, [], ◌∷◌, ◌++◌, map, filter, refl, sym, ap, subst, ◌∙◌, Bor, inl, inr, arith}
use Rattle.std.proofs.lemmas.Bool.{cases_Bool}
use Rattle.std.proofs.lemmas.Bool.Decides.{nat_tests}
use Rattle.std.proofs.lemmas.List.{map-append}
use Rattle.std.proofs.lemmas.List.Elements.{filter-append}
use Rattle.std.proofs.lemmas.Slice.Eq.{bytes_eq-Decides}
use Rattle.std.specs.List.{list_any}
use Rattle.std.specs.Option.{option_copied, option_eq, option_map_or}
use Rattle.std.specs.Result.{IfErr, IfOk, result_map_both}
use Rattle.std.specs.Str.{bytes_eq}
use Rattle.mvt_document.specs.Plain as plain
use Rattle.mvt_document.specs.Stands.{layer_of}
use Rattle.mvt_messages.specs.Views.{is_named, layers, name_of, ordinals_of, the_one}
use Rattle.mvt_layers.specs.Seen.{found_layer_seen}
use Rattle.mvt_layers.specs.declared.found.FoundLayer.{FoundLayer}
use Rattle.mvt_meaning.specs.Meaning.{is_taken}
use Rattle.mvt_meaning.specs.declared.refusal.Refusal.{Refusal}
use Rattle.mvt_meaning.specs.declared.refusal.Refusal.TheVariants.{AmbiguousLayer, NoLayer}
use Rattle.mvt_meaning.proofs.Positions.{positions_from}
use Rattle.mvt_meaning.proofs.SelectionLemmas.{one_layer, two_apart}

-- ---- whether a text is this name

pub bytes_eq-flip : (xs ys : List ℕ) → bytes_eq xs ys ≡ bytes_eq ys xs
bytes_eq-flip xs ys =
    elim (cases_Bool (bytes_eq ys xs)) [
      | inl same ↦ (bytes_eq-Decides xs ys).1 (sym ((bytes_eq-Decides ys xs).0 same)) ∙ sym same
      | inr other ↦ elim (cases_Bool (bytes_eq xs ys)) [
        | inl same ↦ (let also = (bytes_eq-Decides ys xs).1 (sym ((bytes_eq-Decides xs ys).0 same)) in absurd cc)
        | inr apart ↦ apart ∙ sym other
      ]
    ]

text_is : (text : Option (Bor (List ℕ))) (name : Bor (List ℕ)) → option_eq (λ x y. bytes_eq x.now y.now) text (Some name) ≡ option_map_or (bytes_eq name.now) (option_copied text) false
text_is None name = refl
text_is (Some text) name = bytes_eq-flip text.now name.now

pub layer_is : (text : Option (Bor (List ℕ))) (name : Bor (List ℕ)) (layer : plain.Layer) (counts : Bool) → option_copied text ≡ name_of layer → counts ≡ option_eq (λ x y. bytes_eq x.now y.now) text (Some name) → counts ≡ is_named name.now layer
layer_is text name layer counts seen e = e ∙ text_is text name ∙ ap (λ name_there. option_map_or (bytes_eq name.now) name_there false) seen

-- ---- the layers so far

-- those among them that have the name
abbrev pub named_among : List ℕ → List FoundLayer → List (ℕ × (ℕ × plain.Layer))
named_among name seen = filter (λ (f : ℕ × (ℕ × plain.Layer)). is_named name f.1.1) (map found_layer_seen seen)

one_among : (name : List ℕ) (found : ℕ × (ℕ × plain.Layer)) → filter (λ (f : ℕ × (ℕ × plain.Layer)). is_named name f.1.1) (found ∷ []) ≡ (if is_named name found.1.1 then found ∷ [] else [])
one_among name found = elim (cases_Bool (is_named name found.1.1)) [ inl named ↦ rw named refl | inr other ↦ rw other refl ]

named_more : (name : List ℕ) (seen : List FoundLayer) (found : FoundLayer) → named_among name (seen ++ found ∷ []) ≡ named_among name seen ++ (if is_named name (layer_of found.layer.now) then found_layer_seen found ∷ [] else [])
named_more name seen found =
    ap (filter (λ (f : ℕ × (ℕ × plain.Layer)). is_named name f.1.1)) (map-append found_layer_seen seen (found ∷ []))
    ∙ filter-append (λ (f : ℕ × (ℕ × plain.Layer)). is_named name f.1.1) (map found_layer_seen seen) (found_layer_seen found ∷ [])
    ∙ ap (λ (more : List (ℕ × (ℕ × plain.Layer))). named_among name seen ++ more) (one_among name (found_layer_seen found))

-- one more layer that came, for which it is known whether it has the name
pub one_more : (name : List ℕ) (seen : List FoundLayer) (found : FoundLayer) (counts : Bool) (answer : Result FoundLayer Refusal) → counts ≡ is_named name (layer_of found.layer.now) → result_map_both found_layer_seen (λ refusal. refusal) answer ≡ the_one NoLayer AmbiguousLayer (named_among name seen ++ (if counts then found_layer_seen found ∷ [] else [])) → result_map_both found_layer_seen (λ refusal. refusal) answer ≡ the_one NoLayer AmbiguousLayer (named_among name (seen ++ found ∷ []))
one_more name seen found counts answer is e = (rw is at e) ∙ ap (the_one NoLayer AmbiguousLayer) (sym (named_more name seen found))

-- ---- whether a layer of another ordinal has the name

two_others : (x y ordinal : ℕ) (more : List ℕ) → x < y → true ≡ list_any (λ other. not (other == ordinal)) (x ∷ y ∷ more)
two_others x y ordinal more apart =
    elim (cases_Bool (x == ordinal)) [
      | inl here ↦ (let other : (y == ordinal) ≡ false = grind (arith, nat_tests) in rw (here, other) refl)
      | inr there ↦ rw there refl
    ]

other_of_two : (name : List ℕ) (n : ℕ) (layers : List plain.Layer) (ordinals : List ℕ) (ordinal : ℕ) → positions_from (is_named name) n layers ≡ ordinals → Err AmbiguousLayer ≡ one_layer ordinals → true ≡ list_any (λ other. not (other == ordinal)) ordinals
other_of_two name n layers [] ordinal are e = absurd cc
other_of_two name n layers (x ∷ []) ordinal are e = absurd cc
other_of_two name n layers (x ∷ y ∷ more) ordinal are e = two_others x y ordinal more (two_apart (is_named name) n x y layers more are)

pub two_other : (name : List ℕ) (document : plain.Document) (ordinal : ℕ) → Err AmbiguousLayer ≡ one_layer (ordinals_of (is_named name) (layers document)) → true ≡ is_taken name ordinal document
two_other name document ordinal e = other_of_two name 0 (layers document) (ordinals_of (is_named name) (layers document)) ordinal refl e

-- ---- an answer with one more part

pub ok_with : {F M E : Type 0} (P : F → Type 0) (answer : Result (F × M) E) (found : Result F E) → result_map_both (λ (a : F × M). a.0) (λ e. e) answer ≡ found → IfOk found P → IfOk answer (λ a. P a.0)
ok_with P (Ok a) found e is = subst (λ r. IfOk r P) (sym e) is
ok_with P (Err refusal) found e is = tt

pub err_with : {F M E : Type 0} (P : E → Type 0) (answer : Result (F × M) E) (found : Result F E) → result_map_both (λ (a : F × M). a.0) (λ e. e) answer ≡ found → IfErr found P → IfErr answer P
err_with P (Ok a) found e is = tt
err_with P (Err refusal) found e is = subst (λ r. IfErr r P) (sym e) is
