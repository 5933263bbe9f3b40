-- What a field, a start tag and an end tag do to the groups that are open.
use Rattle.std.proofs.Common.{◌≡◌, ℕ, zero, suc, ◌-◌, ◌/◌, ◌%◌, ◌^◌, ◌<◌, ◌≤◌, ◌⊎◌, inl, inr, List, [], ◌∷◌, ◌++◌, length, refl, sym, ap, ◌∙◌, subst, append_assoc, arith}
use Rattle.std.specs.List.{flat_map, AllByRecursion}
use Rattle.std.proofs.lemmas.List.{append-nil}
use Rattle.mvt_document.specs.declared.TheConstants.{MAX_GROUPS}
use Rattle.mvt_document.specs.Plain.{Number, Body, Spelled, Eight, Four, Delimited, Group, Field}
use Rattle.mvt_document.specs.Shape.{IsTag}
use Rattle.mvt_document.specs.Wire.{spelling, body_bytes, field_bytes}
use Rattle.mvt_document.specs.Begins.{Begins}
use Rattle.mvt_document.specs.Groups.{IsNumber, IsWholeBodyWith, IsWholeFieldWith, IsEnd, IsGroupWithin, IsGroup, IsFlatBody}
use Rattle.mvt_wire.specs.Open.{Closes, LeadsTo}
use Rattle.mvt_document.proofs.Prefixes.{field_with, one_number, one_field_with, field-bytes, field_no_end, separates_within, whole_body}

-- ---- bodies that are not groups

pub flat_is_whole : (is_group : ℕ → List ℕ → Type 0) (kind number : ℕ) (b : Body) → IsFlatBody kind b → IsWholeBodyWith is_group kind number b
flat_is_whole is_group kind number (Spelled value) p = record { typed = p.typed; valid = p.valid; stored = tt }
flat_is_whole is_group kind number (Eight bytes) p = record { typed = p.typed; valid = p.valid; stored = tt }
flat_is_whole is_group kind number (Four bytes) p = record { typed = p.typed; valid = p.valid; stored = tt }
flat_is_whole is_group kind number (Delimited width bytes) p = record { typed = p.typed; valid = p.valid; stored = p.stored }
flat_is_whole is_group kind number (Group bytes) p = absurd p.valid

pub whole_is_flat : (is_group : ℕ → List ℕ → Type 0) (kind number : ℕ) (b : Body) → (kind ≡ 3 → ⊥) → IsWholeBodyWith is_group kind number b → IsFlatBody kind b
whole_is_flat is_group kind number (Spelled value) flat p = record { typed = p.typed; valid = p.valid; stored = tt }
whole_is_flat is_group kind number (Eight bytes) flat p = record { typed = p.typed; valid = p.valid; stored = tt }
whole_is_flat is_group kind number (Four bytes) flat p = record { typed = p.typed; valid = p.valid; stored = tt }
whole_is_flat is_group kind number (Delimited width bytes) flat p = record { typed = p.typed; valid = p.valid; stored = p.stored }
whole_is_flat is_group kind number (Group bytes) flat p = absurd (flat (sym p.typed))

-- a body of the wire type of groups is a group
group_body : (is_group : ℕ → List ℕ → Type 0) (number : ℕ) (b : Body) → IsWholeBodyWith is_group 3 number b → (bytes : List ℕ) × (b ≡ Group bytes) × is_group number bytes
group_body is_group number (Group bytes) p = (bytes, refl, p.valid)
group_body is_group number (Spelled value) p = absurd (omega (arith, p.typed))
group_body is_group number (Eight bytes) p = absurd (omega (arith, p.typed))
group_body is_group number (Four bytes) p = absurd (omega (arith, p.typed))
group_body is_group number (Delimited width bytes) p = absurd (omega (arith, p.typed))

-- a tag and a body of its wire type are a field
pub field_of_parts : (is_group : ℕ → List ℕ → Type 0) (tag : Number) (b : Body) → IsNumber tag → 8 ≤ tag.value → tag.value < 2 ^ 32 → IsWholeBodyWith is_group (tag.value % 8) (tag.value / 8) b → IsWholeFieldWith is_group (field_with tag b)
field_of_parts is_group tag b p low high q =
    record {
      valid = record { number = p; tag = record { numbered = low; short = high; typed = sym q.typed }; body = q.valid };
      stored = q.stored;
    }

-- ---- what is left of an open group begins with its end tag or with a field

-- the groups inside the innermost one, where groups of these numbers are open around it
abbrev pub inside : List ℕ → ℕ → List ℕ → Type 0
inside numbers = IsGroupWithin (MAX_GROUPS - suc (length numbers))

record EndsHere (number : ℕ) (numbers bytes : List ℕ) : Type 0 where
  pub last : Number
  pub ends : IsEnd number last
  pub more : List ℕ
  pub closes : Closes numbers more
  pub spelled : bytes ≡ spelling last ++ more

record FieldHere (number : ℕ) (numbers bytes : List ℕ) : Type 0 where
  pub field : Field
  pub whole : IsWholeFieldWith (inside numbers) field
  pub more : List ℕ
  pub closes : Closes (number ∷ numbers) more
  pub spelled : bytes ≡ field_bytes field ++ more

pub group_of : (levels number : ℕ) (fields : List Field) (last : Number) → AllByRecursion (IsWholeFieldWith (IsGroupWithin levels)) fields → IsEnd number last → IsGroupWithin (suc levels) number (flat_map field_bytes fields ++ spelling last)
unfolding IsGroupWithin
group_of levels number fields last p ends = record { fields = fields; whole = p; last = last; ends = ends; spelled = refl }

begins_with : (levels number : ℕ) (numbers left rest : List ℕ) → suc levels ≡ MAX_GROUPS - length numbers → (fields : List Field) (last : Number)
    → AllByRecursion (IsWholeFieldWith (IsGroupWithin levels)) fields → IsEnd number last → left ≡ flat_map field_bytes fields ++ spelling last → Closes numbers rest → EndsHere number numbers (left ++ rest) ⊎ FieldHere number numbers (left ++ rest)
begins_with levels number numbers left rest e [] last p ends is q =
    inl (record { last = last; ends = ends; more = rest; closes = q; spelled = ap (λ (b : List ℕ). b ++ rest) is })
begins_with levels number numbers left rest e (f ∷ fs) last p ends is q =
    let l : levels ≡ MAX_GROUPS - suc (length numbers) = omega (arith, e) in
    let others : List ℕ = flat_map field_bytes fs ++ spelling last in
    inr (record {
      field = f;
      whole = subst (λ (k : ℕ). IsWholeFieldWith (IsGroupWithin k) f) l p.0;
      more = others ++ rest;
      closes = (others, rest, subst (λ (k : ℕ). IsGroupWithin k number others) e (group_of levels number fs last p.1 ends), q, refl);
      spelled =
          ap (λ (b : List ℕ). b ++ rest) (is ∙ append_assoc (field_bytes f) (flat_map field_bytes fs) (spelling last))
          ∙ append_assoc (field_bytes f) others rest;
    })

begins_in : (levels number : ℕ) (numbers left rest : List ℕ) → levels ≡ MAX_GROUPS - length numbers → IsGroupWithin levels number left → Closes numbers rest → EndsHere number numbers (left ++ rest) ⊎ FieldHere number numbers (left ++ rest)
unfolding IsGroupWithin
begins_in zero number numbers left rest e p q = absurd p
begins_in (suc levels) number numbers left rest e p q = begins_with levels number numbers left rest e p.fields p.last p.whole p.ends p.spelled q

begins : (number : ℕ) (numbers bytes : List ℕ) → Closes (number ∷ numbers) bytes → EndsHere number numbers bytes ⊎ FieldHere number numbers bytes
begins number numbers bytes c =
    subst (λ (b : List ℕ). EndsHere number numbers b ⊎ FieldHere number numbers b) (sym c.4) (begins_in (MAX_GROUPS - length numbers) number numbers c.0 c.1 refl c.2 c.3)

-- ---- a field

add_field : (levels number : ℕ) (numbers left : List ℕ) (f : Field) → levels ≡ MAX_GROUPS - length numbers → IsWholeFieldWith (inside numbers) f → IsGroupWithin levels number left → IsGroupWithin levels number (field_bytes f ++ left)
unfolding IsGroupWithin
add_field zero number numbers left f e p q = absurd q
add_field (suc levels) number numbers left f e p q =
    let l : MAX_GROUPS - suc (length numbers) ≡ levels = omega (arith, e) in
    record {
      fields = f ∷ q.fields;
      whole = (subst (λ (k : ℕ). IsWholeFieldWith (IsGroupWithin k) f) l p, q.whole);
      last = q.last;
      ends = q.ends;
      spelled = ap (λ (b : List ℕ). field_bytes f ++ b) q.spelled ∙ sym (append_assoc (field_bytes f) (flat_map field_bytes q.fields) (spelling q.last));
    }

field_before : (number : ℕ) (numbers bytes : List ℕ) (f : Field) → IsWholeFieldWith (inside numbers) f → Closes (number ∷ numbers) bytes → Closes (number ∷ numbers) (field_bytes f ++ bytes)
field_before number numbers bytes f p c =
    (field_bytes f ++ c.0, c.1, add_field (MAX_GROUPS - length numbers) number numbers c.0 f refl p c.2, c.3, ap (λ (b : List ℕ). field_bytes f ++ b) c.4 ∙ sym (append_assoc (field_bytes f) c.0 c.1))

-- what follows the piece, where bytes that begin with it are cut in another way
following : (piece after bytes first more rest : List ℕ) → piece ++ after ≡ bytes ++ rest → bytes ≡ first ++ more → piece ++ after ≡ first ++ (more ++ rest)
following piece after bytes first more rest e is = e ∙ ap (λ (b : List ℕ). b ++ rest) is ∙ append_assoc first more rest

pub field_leads : (number : ℕ) (numbers : List ℕ) (f : Field) → ((is_group : ℕ → List ℕ → Type 0) → IsWholeFieldWith is_group f) → LeadsTo (field_bytes f) (number ∷ numbers) (number ∷ numbers)
field_leads number numbers f p =
    record {
      closes = λ left c. field_before number numbers left f (p (inside numbers)) c;
      goes_on = λ bytes after rest c e.
          elim (begins number numbers bytes c) [
            | inl h ↦ absurd (field_no_end (inside numbers) number h.last f (h.more ++ rest) after h.ends (p (inside numbers)) (sym (following (field_bytes f) after bytes (spelling h.last) h.more rest e h.spelled)))
            | inr h ↦
                let one = one_field_with (inside numbers) (separates_within (MAX_GROUPS - suc (length numbers))) f h.field after (h.more ++ rest) (p (inside numbers)) h.whole (following (field_bytes f) after bytes (field_bytes h.field) h.more rest e h.spelled) in
                (h.more, h.closes, one.1)
          ];
    }

-- ---- a start tag

start_field : (tag : Number) (numbers left : List ℕ) → IsNumber tag → IsTag tag.value 3 → inside numbers (tag.value / 8) left → IsWholeFieldWith (inside numbers) (field_with tag (Group left))
start_field tag numbers left p t q = record { valid = record { number = p; tag = t; body = q }; stored = tt }

-- the group that a field with this start tag has
group_there : (tag : Number) (numbers : List ℕ) (f : Field) → IsTag tag.value 3 → IsWholeFieldWith (inside numbers) f → tag ≡ f.tag → (bytes : List ℕ) × (f.body ≡ Group bytes) × inside numbers (tag.value / 8) bytes
group_there tag numbers f t p e =
    let whole = whole_body (inside numbers) f p in
    let back : f.tag.value ≡ tag.value = ap (λ (n : Number). n.value) (sym e) in
    let kind : f.tag.value % 8 ≡ 3 = ap (λ (v : ℕ). v % 8) back ∙ t.typed in
    let number : f.tag.value / 8 ≡ tag.value / 8 = ap (λ (v : ℕ). v / 8) back in
    group_body (inside numbers) (tag.value / 8) f.body
    (subst (λ (n : ℕ). IsWholeBodyWith (inside numbers) 3 n f.body) number (subst (λ (k : ℕ). IsWholeBodyWith (inside numbers) k (f.tag.value / 8) f.body) kind whole))

-- what follows a start tag, where the innermost group continues with it
record GroupHere (tag : Number) (number : ℕ) (numbers after rest : List ℕ) : Type 0 where
  pub left : List ℕ
  pub group : inside numbers (tag.value / 8) left
  pub more : List ℕ
  pub closes : Closes (number ∷ numbers) more
  pub spelled : after ≡ left ++ (more ++ rest)

starts : (tag : Number) (number : ℕ) (numbers bytes after rest : List ℕ) → IsNumber tag → IsTag tag.value 3 → Closes (number ∷ numbers) bytes → spelling tag ++ after ≡ bytes ++ rest → GroupHere tag number numbers after rest
starts tag number numbers bytes after rest p t c e =
    elim (begins number numbers bytes c) [
      | inl h ↦
          let one = one_number tag h.last after (h.more ++ rest) p h.ends.spelled (following (spelling tag) after bytes (spelling h.last) h.more rest e h.spelled) in
          let kinds : tag.value % 8 ≡ h.last.value % 8 = ap (λ (n : Number). n.value % 8) one.0 in
          absurd (omega (arith, kinds, t.typed, h.ends.tag.typed))
      | inr h ↦
          let cut = following (spelling tag) after bytes (field_bytes h.field) h.more rest e h.spelled ∙ field-bytes h.field (h.more ++ rest) in
          let one = one_number tag h.field.tag after (body_bytes h.field.body ++ (h.more ++ rest)) p h.whole.valid.number cut in
          let group = group_there tag numbers h.field t h.whole one.0 in
          let is : body_bytes h.field.body ≡ group.0 = ap body_bytes group.1 in
          record { left = group.0; group = group.2; more = h.more; closes = h.closes; spelled = one.1 ∙ ap (λ (b : List ℕ). b ++ (h.more ++ rest)) is }
    ]

pub start_leads : (tag : Number) (number : ℕ) (numbers : List ℕ) → IsNumber tag → IsTag tag.value 3 → LeadsTo (spelling tag) (number ∷ numbers) (tag.value / 8 ∷ number ∷ numbers)
start_leads tag number numbers p t =
    record {
      closes = λ left c.
          let before = field_before number numbers c.1 (field_with tag (Group c.0)) (start_field tag numbers c.0 p t c.2) c.3 in
          let same : (spelling tag ++ c.0) ++ c.1 ≡ spelling tag ++ left = append_assoc (spelling tag) c.0 c.1 ∙ ap (λ (b : List ℕ). spelling tag ++ b) (sym c.4) in
          subst (Closes (number ∷ numbers)) same before;
      goes_on = λ bytes after rest c e.
          let s = starts tag number numbers bytes after rest p t c e in
          (s.left ++ s.more, (s.left, s.more, s.group, s.closes, refl), s.spelled ∙ sym (append_assoc s.left s.more rest));
    }

-- ---- an end tag

one_end : (levels number : ℕ) (numbers : List ℕ) (last : Number) → levels ≡ MAX_GROUPS - length numbers → length numbers < MAX_GROUPS → IsEnd number last → IsGroupWithin levels number (spelling last)
one_end zero number numbers last e some ends = absurd (omega (arith, e, some))
one_end (suc levels) number numbers last e some ends = group_of levels number [] last tt ends

pub end_leads : (last : Number) (number : ℕ) (numbers : List ℕ) → IsEnd number last → length numbers < MAX_GROUPS → LeadsTo (spelling last) (number ∷ numbers) numbers
end_leads last number numbers ends some =
    record {
      closes = λ left c. (spelling last, left, one_end (MAX_GROUPS - length numbers) number numbers last refl some ends, c, refl);
      goes_on = λ bytes after rest c e.
          elim (begins number numbers bytes c) [
            | inl h ↦
                let one = one_number last h.last after (h.more ++ rest) ends.spelled h.ends.spelled (following (spelling last) after bytes (spelling h.last) h.more rest e h.spelled) in
                (h.more, h.closes, one.1)
            | inr h ↦ absurd (field_no_end (inside numbers) number last h.field after (h.more ++ rest) ends h.whole (following (spelling last) after bytes (field_bytes h.field) h.more rest e h.spelled))
          ];
    }

-- ---- where nothing leads on

-- no prefix of the bytes is what is left of the open groups
abbrev pub NothingLeft : List ℕ → List ℕ → Type 0
NothingLeft numbers bytes = ¬ Begins (Closes numbers) (λ left. left) bytes

-- no tag is at the front
abbrev pub NoTag : List ℕ → Type 0
NoTag bytes = ¬ Begins (λ tag. IsNumber tag × (8 ≤ tag.value) × (tag.value < 2 ^ 32)) spelling bytes

-- a tag that is read at the front
pub record IsTagAt (tag : Number) (bytes after : List ℕ) : Type 0 where
  pub number : IsNumber tag
  pub low : 8 ≤ tag.value
  pub high : tag.value < 2 ^ 32
  pub spelled : bytes ≡ spelling tag ++ after

-- the tag that what is left of an open group begins with
begins_tag : (number : ℕ) (numbers left : List ℕ) → Closes (number ∷ numbers) left → (tag : Number) × (after : List ℕ) × IsTagAt tag left after
begins_tag number numbers left c =
    elim (begins number numbers left c) [
      | inl h ↦ (h.last, h.more, record { number = h.ends.spelled; low = h.ends.tag.numbered; high = h.ends.tag.short; spelled = h.spelled })
      | inr h ↦ (
        h.field.tag,
        body_bytes h.field.body ++ h.more,
        record {
          number = h.whole.valid.number;
          low = h.whole.valid.tag.numbered;
          high = h.whole.valid.tag.short;
          spelled = h.spelled ∙ field-bytes h.field h.more;
        },
      )
    ]

pub no_tag : (number : ℕ) (numbers bytes : List ℕ) → NoTag bytes → NothingLeft (number ∷ numbers) bytes
no_tag number numbers bytes none = λ b.
    let t = begins_tag number numbers b.thing b.holds in
    none (record {
      thing = t.0;
      holds = (t.2.number, t.2.low, t.2.high);
      rest = t.1 ++ b.rest;
      spelled = b.spelled ∙ ap (λ (front : List ℕ). front ++ b.rest) t.2.spelled ∙ append_assoc (spelling t.0) t.1 b.rest;
    })

pub no_body : (tag : Number) (number : ℕ) (numbers bytes after : List ℕ) → IsTagAt tag bytes after → (tag.value % 8 ≡ 3 → ⊥) → (tag.value % 8 ≡ 4 → ⊥)
    → ¬ Begins (IsFlatBody (tag.value % 8)) body_bytes after → NothingLeft (number ∷ numbers) bytes
no_body tag number numbers bytes after t not_start not_end none = λ b.
    elim (begins number numbers b.thing b.holds) [
      | inl h ↦
          let one = one_number tag h.last after (h.more ++ b.rest) t.number h.ends.spelled (following (spelling tag) after b.thing (spelling h.last) h.more b.rest (sym t.spelled ∙ b.spelled) h.spelled) in
          let kinds : tag.value % 8 ≡ h.last.value % 8 = ap (λ (n : Number). n.value % 8) one.0 in
          not_end (kinds ∙ h.ends.tag.typed)
      | inr h ↦
          let cut = following (spelling tag) after b.thing (field_bytes h.field) h.more b.rest (sym t.spelled ∙ b.spelled) h.spelled ∙ field-bytes h.field (h.more ++ b.rest) in
          let one = one_number tag h.field.tag after (body_bytes h.field.body ++ (h.more ++ b.rest)) t.number h.whole.valid.number cut in
          let kinds : h.field.tag.value % 8 ≡ tag.value % 8 = ap (λ (n : Number). n.value % 8) (sym one.0) in
          let whole = whole_body (inside numbers) h.field h.whole in
          let kept = subst (λ (k : ℕ). IsWholeBodyWith (inside numbers) k (h.field.tag.value / 8) h.field.body) kinds whole in
          none (record { thing = h.field.body; holds = whole_is_flat (inside numbers) (tag.value % 8) (h.field.tag.value / 8) h.field.body not_start kept; rest = h.more ++ b.rest; spelled = one.1 })
    ]

no_level : (levels number : ℕ) (left : List ℕ) → levels ≡ 0 → IsGroupWithin levels number left → ⊥
unfolding IsGroupWithin
no_level zero number left e p = p
no_level (suc levels) number left e p = omega (arith, e)

pub too_deep : (tag : Number) (number : ℕ) (numbers bytes after : List ℕ) → IsTagAt tag bytes after → tag.value % 8 ≡ 3 → MAX_GROUPS ≤ length (number ∷ numbers) → NothingLeft (number ∷ numbers) bytes
too_deep tag number numbers bytes after t kind full = λ b.
    let s = starts tag number numbers b.thing after b.rest t.number (record { numbered = t.low; short = t.high; typed = kind }) b.holds (sym t.spelled ∙ b.spelled) in
    no_level (MAX_GROUPS - suc (length numbers)) (tag.value / 8) s.left (omega (arith, full)) s.group

pub other_end : (tag : Number) (number : ℕ) (numbers bytes after : List ℕ) → IsTagAt tag bytes after → tag.value % 8 ≡ 4 → (tag.value / 8 ≡ number → ⊥) → NothingLeft (number ∷ numbers) bytes
other_end tag number numbers bytes after t kind other = λ b.
    elim (begins number numbers b.thing b.holds) [
      | inl h ↦
          let one = one_number tag h.last after (h.more ++ b.rest) t.number h.ends.spelled (following (spelling tag) after b.thing (spelling h.last) h.more b.rest (sym t.spelled ∙ b.spelled) h.spelled) in
          let same : tag.value / 8 ≡ h.last.value / 8 = ap (λ (n : Number). n.value / 8) one.0 in
          other (same ∙ h.ends.same)
      | inr h ↦
          let ends : IsEnd (tag.value / 8) tag = record { spelled = t.number; tag = record { numbered = t.low; short = t.high; typed = kind }; same = refl } in
          field_no_end (inside numbers) (tag.value / 8) tag h.field after (h.more ++ b.rest) ends h.whole (following (spelling tag) after b.thing (field_bytes h.field) h.more b.rest (sym t.spelled ∙ b.spelled) h.spelled)
    ]

-- ---- piece by piece

pub leads_on : (first second old middle new : List ℕ) → LeadsTo first old middle → LeadsTo second middle new → LeadsTo (first ++ second) old new
leads_on first second old middle new p q =
    record {
      closes = λ left c. subst (Closes old) (sym (append_assoc first second left)) (p.closes (second ++ left) (q.closes left c));
      goes_on = λ bytes after rest c e.
          let one = p.goes_on bytes (second ++ after) rest c (sym (append_assoc first second after) ∙ e) in
          q.goes_on one.0 after rest one.1 one.2;
    }

-- ---- a whole group

pub group_ends : (number : ℕ) (bytes : List ℕ) → LeadsTo bytes (number ∷ []) [] → IsGroup number bytes
group_ends number bytes p =
    let c : Closes (number ∷ []) (bytes ++ []) = p.closes [] refl in
    let same : bytes ≡ c.0 = sym (append-nil bytes) ∙ c.4 ∙ ap (λ (b : List ℕ). c.0 ++ b) c.3 ∙ append-nil c.0 in
    subst (IsGroup number) (sym same) c.2

pub no_group : (number : ℕ) (numbers piece after : List ℕ) → LeadsTo piece (number ∷ []) numbers → NothingLeft numbers after → ¬ Begins (IsGroup number) (λ group. group) (piece ++ after)
no_group number numbers piece after p none = λ b.
    let one = p.goes_on b.thing after b.rest (b.thing, [], b.holds, refl, sym (append-nil b.thing)) b.spelled in
    none (record { thing = one.0; holds = one.1; rest = b.rest; spelled = one.2 })
