-- A name field with another text is a name field.
use Rattle.std.proofs.Common.{◌≡◌, ℕ, ◌/◌, ◌==◌, true, List, refl, inl, inr}
use Rattle.std.proofs.lemmas.Bool.{cases_Bool}
use Rattle.mvt_document.specs.Plain.{Number, Body, Spelled, Eight, Four, Delimited, Group, LayerItem, OfFeature, PlainInLayer}
use Rattle.mvt_meaning.specs.Meaning.{is_name, with_content, with_text}

kept_name : (name : List ℕ) (tag : Number) (body : Body) → is_name (PlainInLayer (record { tag = tag; body = body })) ≡ true → is_name (PlainInLayer (record { tag = tag; body = with_content name body })) ≡ true
kept_name name tag (Spelled number) e = e
kept_name name tag (Eight bytes) e = e
kept_name name tag (Four bytes) e = e
kept_name name tag (Group bytes) e = e
kept_name name tag (Delimited width bytes) e = elim (cases_Bool (tag.value / 8 == 1)) [ inl one ↦ rw one refl | inr other ↦ absurd (let at = rw other at e in cc) ]

pub name_kept : (name : List ℕ) (item : LayerItem) → is_name item ≡ true → is_name (with_text name item) ≡ true
name_kept name (OfFeature feature) e = e
name_kept name (PlainInLayer field) e = kept_name name field.tag field.body e
