-- What the steps of an accepted command returned.
use Rattle.std.proofs.Common.{◌≡◌, ℕ, ◌<◌, Bool, true, false, Result, Ok, Err, IfOk, Some, List, [], ◌∷◌, length, slice_get, nat_lt, refl, ap, subst, inl, inr, arith}
use Rattle.std.proofs.lemmas.Bool.{cases_Bool}
use Rattle.std.proofs.lemmas.Bool.Decides.{nat_tests}
use Rattle.mvt_document.specs.declared.TheConstants.{MAX_FILE}
use Rattle.mvt_document.specs.Plain.{Layer, Document}
use Rattle.mvt_document.specs.Wire.{bytes_of}
use Rattle.mvt_messages.specs.Views.{features, has_id, layers, ordinals_of, the_one}
use Rattle.mvt_meaning.specs.Command.{FeatureChoice, FeatureAtOrdinal, WithId}
use Rattle.mvt_meaning.specs.Selection.{selected_feature, selected_in}
use Rattle.mvt_meaning.specs.Meaning.{◌>>=◌, refuse_if, within_limit}
use Rattle.mvt_meaning.specs.declared.refusal.Refusal.{Refusal}
use Rattle.mvt_meaning.proofs.Positions.{positions_within}

-- the step that was accepted first, and what came after it
pub accepted : {A B : Type 0} (first : Result A Refusal) (next : A → Result B Refusal) (made : B) → (first >>= next) ≡ Ok made → (x : A) × (first ≡ Ok x) × (next x ≡ Ok made)
accepted (Err refusal) next made e = absurd cc
accepted (Ok x) next made e = (x, refl, e)

-- what holds of each result of the second step holds of the result of both
pub then_so : {A B : Type 0} (P : B → Type 0) (r : Result A Refusal) (f : A → Result B Refusal) → ((x : A) → IfOk (f x) P) → IfOk (r >>= f) P
then_so P (Ok x) f all = all x
then_so P (Err e) f all = tt

-- the same, where it is known what the first step returned
pub then_given : {A B : Type 0} (P : B → Type 0) (r : Result A Refusal) (f : A → Result B Refusal) → ((x : A) → r ≡ Ok x → IfOk (f x) P) → IfOk (r >>= f) P
then_given P (Ok x) f all = all x refl
then_given P (Err e) f all = tt

pub ok_so : {A : Type 0} (P : A → Type 0) (r : Result A Refusal) (x : A) → IfOk r P → r ≡ Ok x → P x
ok_so P r x all is = subst (λ s. IfOk s P) is all

pub not_refused : (applies : Bool) (refusal : Refusal) (nothing : Unit {0}) → refuse_if applies refusal ≡ Ok nothing → applies ≡ false
not_refused true refusal nothing e = absurd cc
not_refused false refusal nothing e = refl

pub within_is : (document made : Document) → within_limit document ≡ Ok made → document ≡ made
within_is document made e =
    elim (cases_Bool (nat_lt MAX_FILE (length (bytes_of document)))) [
      | inl over ↦ absurd (let refused = rw over at e in cc)
      | inr within ↦ (let same = rw within at e in cc)
    ]

-- which layer a feature is selected in
pub feature_selects : (choice : FeatureChoice) (document : Document) (layer : Layer) (ordinal feature : ℕ) → slice_get (layers document) ordinal ≡ Some layer → selected_in choice ordinal document ≡ Ok feature → selected_feature choice layer ≡ Ok feature
feature_selects choice document layer ordinal feature there e = rw there at e
