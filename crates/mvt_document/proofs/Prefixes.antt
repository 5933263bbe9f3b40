-- No field is a prefix of another, nor is any group, so a list of fields is determined by its bytes.
use Rattle.std.proofs.Common.{◌≡◌, ℕ, zero, suc, ◌/◌, ◌%◌, ◌≤◌, List, [], ◌∷◌, ◌++◌, length, refl, sym, ap, ◌∙◌, subst, append_assoc, arith}
use Rattle.std.specs.List.{flat_map, AllByRecursion}
use Rattle.std.proofs.lemmas.List.{length-append, append-nil}
use Rattle.mvt_document.specs.Plain.{Number, Body, Spelled, Eight, Four, Delimited, Group, Field}
use Rattle.mvt_document.specs.Shape.{IsSpelling}
use Rattle.mvt_document.specs.Wire.{spell, spelling, body_bytes, field_bytes}
use Rattle.mvt_document.specs.declared.TheConstants.{MAX_GROUPS}
use Rattle.mvt_document.specs.Groups.{IsNumber, wire_type, IsWholeBodyWith, IsWholeFieldWith, IsEnd, IsGroupWithin, IsGroup}
use Rattle.mvt_document.specs.Parts.{IsWholeField}
use Rattle.mvt_document.proofs.Spelling.{length-spell, one_spelling, spelling_some, max_spelling}

-- two prefixes of one length are equal, and so is what follows them
pub same_fronts : (a b x y : List ℕ) → length a ≡ length b → a ++ x ≡ b ++ y → (a ≡ b) × (x ≡ y)
same_fronts [] [] x y l e = (refl, e)
same_fronts [] (h ∷ b) x y l e = absurd (omega (arith, l))
same_fronts (g ∷ a) [] x y l e = absurd (omega (arith, l))
same_fronts (g ∷ a) (h ∷ b) x y l e =
    let heads : g ≡ h = (cc) in
    let tails : a ++ x ≡ b ++ y = (cc) in
    let lengths : length a ≡ length b = omega (arith, l) in
    let r : (a ≡ b) × (x ≡ y) = same_fronts a b x y lengths tails in
    let front : a ≡ b = r.0 in
    ((cc), r.1)

abbrev pub number_with : ℕ → ℕ → Number
number_with value width = record { value = value; width = width }

abbrev pub field_with : Number → Body → Field
field_with tag body = record { tag = tag; body = body }

pub same_number : (a b : Number) → a.value ≡ b.value → a.width ≡ b.width → a ≡ b
same_number a b e f =
    ap (λ (v : ℕ). number_with v a.width) e ∙ ap (λ (w : ℕ). number_with b.value w) f

pub same_field : (f g : Field) → f.tag ≡ g.tag → f.body ≡ g.body → f ≡ g
same_field f g e d =
    ap (λ (t : Number). field_with t f.body) e ∙ ap (λ (b : Body). field_with g.tag b) d

pub one_number : (a b : Number) (x y : List ℕ) → IsNumber a → IsNumber b → spelling a ++ x ≡ spelling b ++ y → (a ≡ b) × (x ≡ y)
one_number a b x y p q e =
    let r = one_spelling a.value a.width b.value b.width x y p q e in
    (same_number a b r.0 r.1, r.2)

pub delimited-bytes : (width : ℕ) (bytes rest : List ℕ) → IsSpelling (length bytes) width → body_bytes (Delimited width bytes) ++ rest ≡ spell (length bytes) width ++ (bytes ++ rest)
delimited-bytes width bytes rest s = rw (max_spelling (length bytes) width s) (append_assoc (spell (length bytes) width) bytes rest)

-- ---- fields, where no group begins another

-- no group begins another of its number
pub record Separates (is_group : ℕ → List ℕ → Type 0) : Type 0 where
  pub one : (number : ℕ) (a b x y : List ℕ) → is_group number a → is_group number b → a ++ x ≡ b ++ y → (a ≡ b) × (x ≡ y)

one_body : (is_group : ℕ → List ℕ → Type 0) → Separates is_group → (kind number : ℕ) (a b : Body) (x y : List ℕ) → IsWholeBodyWith is_group kind number a → IsWholeBodyWith is_group kind number b → body_bytes a ++ x ≡ body_bytes b ++ y → (a ≡ b) × (x ≡ y)
one_body is_group apart kind number (Spelled m) (Spelled n) x y p q e =
    let r = one_number m n x y p.valid q.valid e in (ap Spelled r.0, r.1)
one_body is_group apart kind number (Eight m) (Eight n) x y p q e =
    let l : length m ≡ length n = omega (arith, p.valid, q.valid) in
    let r = same_fronts m n x y l e in (ap Eight r.0, r.1)
one_body is_group apart kind number (Four m) (Four n) x y p q e =
    let l : length m ≡ length n = omega (arith, p.valid, q.valid) in
    let r = same_fronts m n x y l e in (ap Four r.0, r.1)
one_body is_group apart kind number (Delimited v m) (Delimited w n) x y p q e =
    let regrouped : spell (length m) v ++ (m ++ x) ≡ spell (length n) w ++ (n ++ y) =
    sym (delimited-bytes v m x p.stored) ∙ e ∙ delimited-bytes w n y q.stored in
    let r = one_spelling (length m) v (length n) w (m ++ x) (n ++ y) p.stored q.stored regrouped in
    let s = same_fronts m n x y r.0 r.2 in
    let widths : v ≡ w = r.1 in
    let contents : m ≡ n = s.0 in
    ((cc), s.1)
one_body is_group apart kind number (Group m) (Group n) x y p q e =
    let r = apart.one number m n x y p.valid q.valid e in (ap Group r.0, r.1)
one_body is_group apart kind number (Spelled m) b x y p q e = absurd (omega (arith, p.typed, q.typed))
one_body is_group apart kind number (Eight m) b x y p q e = absurd (omega (arith, p.typed, q.typed))
one_body is_group apart kind number (Four m) b x y p q e = absurd (omega (arith, p.typed, q.typed))
one_body is_group apart kind number (Delimited v m) b x y p q e = absurd (omega (arith, p.typed, q.typed))
one_body is_group apart kind number (Group m) b x y p q e = absurd (omega (arith, p.typed, q.typed))

pub whole_body : (is_group : ℕ → List ℕ → Type 0) (f : Field) → IsWholeFieldWith is_group f → IsWholeBodyWith is_group (f.tag.value % 8) (f.tag.value / 8) f.body
whole_body is_group f p = record { typed = sym p.valid.tag.typed; valid = p.valid.body; stored = p.stored }

pub field-bytes : (f : Field) (rest : List ℕ) → field_bytes f ++ rest ≡ spelling f.tag ++ (body_bytes f.body ++ rest)
field-bytes f rest = append_assoc (spelling f.tag) (body_bytes f.body) rest

pub one_field_with : (is_group : ℕ → List ℕ → Type 0) → Separates is_group → (f g : Field) (x y : List ℕ) → IsWholeFieldWith is_group f → IsWholeFieldWith is_group g → field_bytes f ++ x ≡ field_bytes g ++ y → (f ≡ g) × (x ≡ y)
one_field_with is_group apart f g x y p q e =
    let t = one_number f.tag g.tag (body_bytes f.body ++ x) (body_bytes g.body ++ y) p.valid.number q.valid.number (sym (field-bytes f x) ∙ e ∙ field-bytes g y) in
    let tags : f.tag ≡ g.tag = t.0 in
    let kinds : f.tag.value ≡ g.tag.value = ap (λ (n : Number). n.value) tags in
    let b = one_body is_group apart (g.tag.value % 8) (g.tag.value / 8) f.body g.body x y (subst (λ (k : ℕ). IsWholeBodyWith is_group (k % 8) (k / 8) f.body) kinds (whole_body is_group f p)) (whole_body is_group g q) t.1 in
    (same_field f g tags b.0, b.1)

-- ---- no group begins another

-- the type of an end tag is that of no body
pub no_end : (b : Body) → wire_type b ≡ 4 → ⊥
no_end (Spelled number) e = omega (arith, e)
no_end (Eight bytes) e = omega (arith, e)
no_end (Four bytes) e = omega (arith, e)
no_end (Delimited width bytes) e = omega (arith, e)
no_end (Group bytes) e = omega (arith, e)

-- no field begins with an end tag
pub field_no_end : (is_group : ℕ → List ℕ → Type 0) (number : ℕ) (last : Number) (f : Field) (x y : List ℕ) → IsEnd number last → IsWholeFieldWith is_group f → spelling last ++ x ≡ field_bytes f ++ y → ⊥
field_no_end is_group number last f x y ends p e =
    let t = one_number last f.tag x (body_bytes f.body ++ y) ends.spelled p.valid.number (e ∙ field-bytes f y) in
    let kinds : last.value % 8 ≡ f.tag.value % 8 = ap (λ (n : Number). n.value % 8) t.0 in
    no_end f.body (sym p.valid.tag.typed ∙ sym kinds ∙ ends.tag.typed)

-- what follows fields and an end tag is determined, and so are they
one_inside : (is_group : ℕ → List ℕ → Type 0) → Separates is_group → (number : ℕ) (fs gs : List Field) (m n : Number) (x y : List ℕ)
    → AllByRecursion (IsWholeFieldWith is_group) fs → AllByRecursion (IsWholeFieldWith is_group) gs → IsEnd number m → IsEnd number n
    → flat_map field_bytes fs ++ (spelling m ++ x) ≡ flat_map field_bytes gs ++ (spelling n ++ y) → (fs ≡ gs) × (m ≡ n) × (x ≡ y)
one_inside is_group apart number [] [] m n x y p q em en e =
    let t = one_number m n x y em.spelled en.spelled e in (refl, t.0, t.1)
one_inside is_group apart number [] (g ∷ gs) m n x y p q em en e =
    absurd (field_no_end is_group number m g x (flat_map field_bytes gs ++ (spelling n ++ y)) em q.0 (e ∙ append_assoc (field_bytes g) (flat_map field_bytes gs) (spelling n ++ y)))
one_inside is_group apart number (f ∷ fs) [] m n x y p q em en e =
    absurd (field_no_end is_group number n f y (flat_map field_bytes fs ++ (spelling m ++ x)) en p.0 (sym e ∙ append_assoc (field_bytes f) (flat_map field_bytes fs) (spelling m ++ x)))
one_inside is_group apart number (f ∷ fs) (g ∷ gs) m n x y p q em en e =
    let one = one_field_with is_group apart f g (flat_map field_bytes fs ++ (spelling m ++ x)) (flat_map field_bytes gs ++ (spelling n ++ y)) p.0 q.0
    (sym (append_assoc (field_bytes f) (flat_map field_bytes fs) (spelling m ++ x)) ∙ e ∙ append_assoc (field_bytes g) (flat_map field_bytes gs) (spelling n ++ y)) in
    let others = one_inside is_group apart number fs gs m n x y p.1 q.1 em en one.1 in
    let first : f ≡ g = one.0 in
    let rest : fs ≡ gs = others.0 in
    ((cc), others.1, others.2)

pub separates_within : (levels : ℕ) → Separates (IsGroupWithin levels)
unfolding IsGroupWithin
separates_within zero = record { one = λ number a b x y p q e. absurd p }
separates_within (suc levels) =
    record {
      one = λ number a b x y p q e.
          let regrouped : flat_map field_bytes p.fields ++ (spelling p.last ++ x) ≡ flat_map field_bytes q.fields ++ (spelling q.last ++ y) =
          sym (append_assoc (flat_map field_bytes p.fields) (spelling p.last) x) ∙ ap (λ (b : List ℕ). b ++ x) (sym p.spelled) ∙ e ∙ ap (λ (b : List ℕ). b ++ y) q.spelled
          ∙ append_assoc (flat_map field_bytes q.fields) (spelling q.last) y in
          let r = one_inside (IsGroupWithin levels) (separates_within levels) number p.fields q.fields p.last q.last x y p.whole q.whole p.ends q.ends regrouped in
          let contents : flat_map field_bytes p.fields ≡ flat_map field_bytes q.fields = ap (flat_map field_bytes) r.0 in
          let ends : spelling p.last ≡ spelling q.last = ap spelling r.1 in
          (p.spelled ∙ ap (λ (b : List ℕ). b ++ spelling p.last) contents ∙ ap (λ (b : List ℕ). flat_map field_bytes q.fields ++ b) ends ∙ sym q.spelled, r.2);
    }

pub one_field : (f g : Field) (x y : List ℕ) → IsWholeField f → IsWholeField g → field_bytes f ++ x ≡ field_bytes g ++ y → (f ≡ g) × (x ≡ y)
one_field f g x y p q e = one_field_with IsGroup (separates_within MAX_GROUPS) f g x y p q e

-- ---- lists of fields

-- a field has at least one byte
pub length-field : (f : Field) → IsWholeField f → 1 ≤ length (field_bytes f)
length-field f p =
    omega (arith, length-append (spelling f.tag) (body_bytes f.body), length-spell f.tag.value f.tag.width, spelling_some f.tag.value f.tag.width p.valid.number)

-- fields whose bytes are a prefix of those of others are the first of these
pub fields_begin : (P : Field → Type 0) (fs gs : List Field) (x : List ℕ) → AllByRecursion IsWholeField fs → AllByRecursion IsWholeField gs → AllByRecursion P gs → flat_map field_bytes fs ++ x ≡ flat_map field_bytes gs
    → (more : List Field) × (gs ≡ fs ++ more) × (x ≡ flat_map field_bytes more) × AllByRecursion IsWholeField more × AllByRecursion P more
fields_begin P [] gs x p q r e = (gs, refl, e, q, r)
fields_begin P (f ∷ fs) [] x p q r e =
    absurd (omega (arith, length-field f p.0, ap length e, length-append (field_bytes f ++ flat_map field_bytes fs) x, length-append (field_bytes f) (flat_map field_bytes fs)))
fields_begin P (f ∷ fs) (g ∷ gs) x p q r e =
    let one = one_field f g (flat_map field_bytes fs ++ x) (flat_map field_bytes gs) p.0 q.0 (sym (append_assoc (field_bytes f) (flat_map field_bytes fs) x) ∙ e) in
    let others = fields_begin P fs gs x p.1 q.1 r.1 one.1 in
    let first : f ≡ g = one.0 in
    let last : gs ≡ fs ++ others.0 = others.1 in
    (others.0, (cc), others.2, others.3, others.4)

-- no bytes are those of no fields
pub no_fields : (fs : List Field) → AllByRecursion IsWholeField fs → flat_map field_bytes fs ≡ [] → fs ≡ []
no_fields [] p e = refl
no_fields (f ∷ fs) p e =
    absurd (omega (arith, length-field f p.0, ap length e, length-append (field_bytes f) (flat_map field_bytes fs)))

-- equal bytes are those of equal fields
pub one_list : (fs gs : List Field) → AllByRecursion IsWholeField fs → AllByRecursion IsWholeField gs → flat_map field_bytes fs ≡ flat_map field_bytes gs → fs ≡ gs
one_list fs gs p q e =
    let r = fields_begin IsWholeField fs gs [] p q q (append-nil (flat_map field_bytes fs) ∙ e) in
    let none : r.0 ≡ [] = no_fields r.0 r.3 (sym r.2) in
    let same : gs ≡ fs = r.1 ∙ ap (λ (more : List Field). fs ++ more) none ∙ append-nil fs in
    sym same
