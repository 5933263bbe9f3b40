-- Reading fields from the front of a content: how far it has come, and where it stops.
use Rattle.std.proofs.Common.{◌≡◌, ℕ, ◌+◌, ◌-◌, ◌<◌, ◌≤◌, min, List, [], ◌∷◌, ◌++◌, length, map, take, drop, sym, ap, ◌∙◌, subst, append_assoc, arith}
use Rattle.std.specs.List.{flat_map, AllByRecursion}
use Rattle.std.proofs.lemmas.List.{length-take, length-drop, take-append-drop, take_rest, append-nil}
use Rattle.std.proofs.lemmas.List.Folds.{flat_map-map}
use Rattle.std.proofs.lemmas.Grind.{flat_map-append}
use Rattle.std.proofs.Math.Seq.{take-add}
use Rattle.mvt_document.specs.Plain.{Field}
use Rattle.mvt_document.specs.Wire.{field_bytes}
use Rattle.mvt_document.specs.Parts.{IsWholeField}
use Rattle.mvt_document.proofs.EachItem.{all_joined, all_of_map}
use Rattle.mvt_wire.specs.Stops.{EndsAt}
use Rattle.mvt_document.proofs.Prefixes.{one_field, length-field, fields_begin}
use Rattle.mvt_wire.proofs.Begins.{from}

abbrev pub bytes_by : {T : Type 0} → (T → Field) → List T → List ℕ
bytes_by as_field items = flat_map (λ i. field_bytes (as_field i)) items

-- up to this place the content is these items
pub record Reaches {T : Type 0} (as_field : T → Field) (is_whole : T → Type 0) (content : List ℕ) (place : ℕ) (items : List T) : Type 0 where
  pub within : place ≤ length content
  pub spelled : take place content ≡ bytes_by as_field items
  pub fields : AllByRecursion (λ i. IsWholeField (as_field i)) items
  pub whole : AllByRecursion is_whole items

-- this field is at the front
pub record IsFieldAt (field : Field) (size : ℕ) (bytes : List ℕ) : Type 0 where
  pub within : size ≤ length bytes
  pub spelled : take size bytes ≡ field_bytes field
  pub whole : IsWholeField field

pub bytes_push : {T : Type 0} (f : T → Field) (items : List T) (x : T) → bytes_by f (items ++ x ∷ []) ≡ bytes_by f items ++ field_bytes (f x)
bytes_push f items x =
    flat_map-append (λ i. field_bytes (f i)) items (x ∷ []) ∙ ap (λ (b : List ℕ). bytes_by f items ++ b) (append-nil (field_bytes (f x)))

pub reaches_more : {T : Type 0} (f : T → Field) (w : T → Type 0) (content : List ℕ) (place : ℕ) (items : List T) (x : T) (field : Field) (size : ℕ)
    → Reaches f w content place items → IsFieldAt field size (from place content) → f x ≡ field → w x → Reaches f w content (place + size) (items ++ x ∷ [])
reaches_more f w content place items x field size r h e p =
    record {
      within = omega (arith, r.within, h.within, length-take (length content - place) (drop place content), length-drop place content);
      spelled =
          take-add place size content
          ∙ ap (λ (b : List ℕ). b ++ take size (drop place content)) r.spelled
          ∙ ap (λ (b : List ℕ). bytes_by f items ++ b) (ap (take size) (sym (take_rest content place)) ∙ h.spelled ∙ ap field_bytes (sym e))
          ∙ sym (bytes_push f items x);
      fields = all_joined (λ i. IsWholeField (f i)) items (x ∷ []) r.fields (subst IsWholeField (sym e) h.whole, tt);
      whole = all_joined w items (x ∷ []) r.whole (p, tt);
    }

-- a place further on is closer to the end
pub further : (content : List ℕ) (place size : ℕ) (field : Field) → place < length content → IsFieldAt field size (from place content) → length content - (place + size) < length content - place
further content place size field h at =
    let some : 1 ≤ length (field_bytes field) = length-field field at.whole in
    let short : min size (length (from place content)) ≡ length (field_bytes field) = sym (length-take size (from place content)) ∙ ap length at.spelled in
    omega arith

-- the next field is not one that makes an item
abbrev pub NoneAt : (Field → Type 0) → List ℕ → Type 0
NoneAt makes bytes = (field : Field) (rest : List ℕ) → IsWholeField field → makes field → bytes ≡ field_bytes field ++ rest → ⊥

-- the one field at the front makes no item
pub none_beside : (makes : Field → Type 0) (front : Field) (size : ℕ) (bytes : List ℕ) → IsFieldAt front size bytes → (makes front → ⊥) → NoneAt makes bytes
none_beside makes front size bytes at broken = λ field rest p m e.
    let other : bytes ≡ field_bytes front ++ drop size bytes = sym (take-append-drop size bytes) ∙ ap (λ (b : List ℕ). b ++ drop size bytes) at.spelled in
    let one = one_field field front rest (drop size bytes) p at.whole (sym e ∙ other) in
    broken (subst makes one.0 m)

-- no prefix of the rest is made of items
nothing_more : (makes : Field → Type 0) (rest : List ℕ) (k : ℕ) (fields : List Field) → NoneAt makes rest → 0 < k → k ≤ length rest → AllByRecursion IsWholeField fields → AllByRecursion makes fields → take k rest ≡ flat_map field_bytes fields → ⊥
nothing_more makes rest k [] none some enough p m e = omega (arith, ap length e, length-take k rest)
nothing_more makes rest k (field ∷ fields) none some enough p m e =
    none field (flat_map field_bytes fields ++ drop k rest) p.0 m.0
    (sym (take-append-drop k rest) ∙ ap (λ (b : List ℕ). b ++ drop k rest) e ∙ append_assoc (field_bytes field) (flat_map field_bytes fields) (drop k rest))

pub stops_at : {T : Type 0} (f : T → Field) (w : T → Type 0) (makes : Field → Type 0) (content : List ℕ) (place : ℕ) (items : List T)
    → Reaches f w content place items → place < length content → NoneAt makes (from place content) → EndsAt f w makes content place
stops_at f w makes content place items r before none =
    record {
      before = before;
      items = items;
      whole = r.whole;
      spelled = r.spelled;
      longest = λ n fields after within p m e.
          let k : place + (n - place) ≡ n = omega arith in
          let parts : bytes_by f items ++ take (n - place) (drop place content) ≡ flat_map field_bytes fields =
          ap (λ (b : List ℕ). b ++ take (n - place) (drop place content)) (sym r.spelled)
          ∙ sym (take-add place (n - place) content) ∙ ap (λ (j : ℕ). take j content) k ∙ e in
          let regrouped : flat_map field_bytes (map f items) ++ take (n - place) (drop place content) ≡ flat_map field_bytes fields =
          ap (λ (b : List ℕ). b ++ take (n - place) (drop place content)) (flat_map-map field_bytes f items) ∙ parts in
          let more = fields_begin makes (map f items) fields (take (n - place) (drop place content)) (all_of_map f IsWholeField items r.fields) p m regrouped in
          let some : 0 < n - place = omega arith in
          let enough : n - place ≤ length (from place content) = omega (arith, length-take (length content - place) (drop place content), length-drop place content) in
          nothing_more makes (from place content) (n - place) more.0 none some enough more.3 more.4
          (ap (take (n - place)) (take_rest content place) ∙ more.2);
    }
