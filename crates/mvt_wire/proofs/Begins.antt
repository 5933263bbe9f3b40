-- What bytes begin with: a number, a body, a field.
use Rattle.std.proofs.Common.{◌≡◌, ℕ, ◌+◌, ◌-◌, ◌<◌, ◌≤◌, List, ◌++◌, length, take, drop, refl, sym, ap, ◌∙◌, subst, arith}
use Rattle.std.proofs.lemmas.List.{length-append, length-take-le, take-append-drop, take_rest}
use Rattle.std.proofs.Math.Seq.{take-add}
use Rattle.mvt_document.specs.Plain.{Body, Spelled, Eight, Four, Delimited, Group, Field}
use Rattle.mvt_document.specs.Shape.{IsSpelling}
use Rattle.mvt_document.specs.Wire.{spell, spelling, body_bytes, field_bytes}
use Rattle.mvt_document.specs.Begins.{Begins}
use Rattle.mvt_document.specs.Groups.{IsNumber, StoresField, IsFlatBody, IsGroup}
use Rattle.mvt_document.specs.Opens.{IsField}
use Rattle.mvt_document.specs.Parts.{IsWholeBody}
use Rattle.mvt_document.proofs.Spelling.{one_spelling, spelling_some, max_spelling}
use Rattle.mvt_document.proofs.Prefixes.{number_with, delimited-bytes, field-bytes, whole_body}

-- the bytes from a place on, as the program cuts them
abbrev pub from : ℕ → List ℕ → List ℕ
from place bytes = take (length bytes - place) (drop place bytes)

-- a number is spelled at the front
pub record IsNumberAt (value width : ℕ) (bytes : List ℕ) : Type 0 where
  pub within : width ≤ length bytes
  pub spelled : take width bytes ≡ spell value width
  pub valid : IsSpelling value width

pub number_then : (v w : ℕ) (bytes : List ℕ) → IsNumberAt v w bytes → bytes ≡ spell v w ++ from w bytes
number_then v w bytes s =
    sym (take-append-drop w bytes) ∙ ap (λ (x : List ℕ). x ++ drop w bytes) s.spelled ∙ ap (λ (x : List ℕ). spell v w ++ x) (sym (take_rest bytes w))

-- the one number at the front, and what follows it
pub one_front : (v w v' w' : ℕ) (bytes rest : List ℕ) → IsNumberAt v w bytes → IsSpelling v' w' → bytes ≡ spell v' w' ++ rest → (v' ≡ v) × (rest ≡ from w bytes)
one_front v w v' w' bytes rest s t e =
    let r = one_spelling v' w' v w rest (from w bytes) t s.valid (sym e ∙ number_then v w bytes s) in
    (r.0, r.2)

-- ---- a body of bytes

pub content_taken : (n w : ℕ) (bytes : List ℕ) → IsNumberAt n w bytes → n ≤ length (from w bytes) → take (w + length (take n (from w bytes))) bytes ≡ body_bytes (Delimited w (take n (from w bytes)))
content_taken n w bytes s enough =
    let l : length (take n (from w bytes)) ≡ n = length-take-le n (from w bytes) enough in
    let t : IsSpelling (length (take n (from w bytes))) w = subst (λ (k : ℕ). IsSpelling k w) (sym l) s.valid in
    let fronts : take w bytes ≡ spell (length (take n (from w bytes))) w = s.spelled ∙ ap (λ (k : ℕ). spell k w) (sym l) in
    let contents : take (length (take n (from w bytes))) (drop w bytes) ≡ take n (from w bytes) =
    ap (λ (k : ℕ). take k (drop w bytes)) l ∙ ap (take n) (sym (take_rest bytes w)) in
    take-add w (length (take n (from w bytes))) bytes
    ∙ ap (λ (x : List ℕ). x ++ take (length (take n (from w bytes))) (drop w bytes)) fronts
    ∙ ap (λ (x : List ℕ). spell (length (take n (from w bytes))) w ++ x) contents
    ∙ ap (λ (k : ℕ). spell (length (take n (from w bytes))) k ++ take n (from w bytes)) (sym (max_spelling (length (take n (from w bytes))) w t))

pub content_whole : (n w : ℕ) (bytes : List ℕ) → IsNumberAt n w bytes → n ≤ length (from w bytes) → IsFlatBody 2 (Delimited w (take n (from w bytes)))
content_whole n w bytes s enough =
    let l : length (take n (from w bytes)) ≡ n = length-take-le n (from w bytes) enough in
    let some : 1 ≤ w = spelling_some n w s.valid in
    record {
      typed = refl;
      valid = record { some = some; short = s.valid.short };
      stored = subst (λ (k : ℕ). IsSpelling k w) (sym l) s.valid;
    }

-- a length and that many bytes, at the front
record IsContentAt (width : ℕ) (content rest bytes : List ℕ) : Type 0 where
  pub stored : IsSpelling (length content) width
  pub spelled : bytes ≡ spell (length content) width ++ (content ++ rest)

content_at : (body : Body) (rest bytes : List ℕ) → IsFlatBody 2 body → bytes ≡ body_bytes body ++ rest → (width : ℕ) × (content : List ℕ) × IsContentAt width content rest bytes
content_at (Delimited width content) rest bytes p e = (width, content, record { stored = p.stored; spelled = e ∙ delimited-bytes width content rest p.stored })
content_at (Spelled number) rest bytes p e = absurd (omega (arith, p.typed))
content_at (Eight eight) rest bytes p e = absurd (omega (arith, p.typed))
content_at (Four four) rest bytes p e = absurd (omega (arith, p.typed))
content_at (Group group) rest bytes p e = absurd (omega (arith, p.typed))

-- no body of bytes is at the front where no number is
pub length_missing : (bytes : List ℕ) → ¬ Begins IsNumber spelling bytes → ¬ Begins (IsFlatBody 2) body_bytes bytes
length_missing bytes none = λ b.
    let at = content_at b.thing b.rest bytes b.holds b.spelled in
    none (record { thing = number_with (length at.1) at.0; holds = at.2.stored; rest = at.1 ++ b.rest; spelled = at.2.spelled })

-- nor where its length is more than what is left
pub content_cut : (n w : ℕ) (bytes : List ℕ) → IsNumberAt n w bytes → length (from w bytes) < n → ¬ Begins (IsFlatBody 2) body_bytes bytes
content_cut n w bytes s short = λ b.
    let at = content_at b.thing b.rest bytes b.holds b.spelled in
    let r = one_front n w (length at.1) at.0 bytes (at.1 ++ b.rest) s at.2.stored at.2.spelled in
    omega (arith, r.0, ap length r.1, length-append at.1 b.rest)

-- ---- a field

pub field_taken : (v w size : ℕ) (body : Body) (bytes : List ℕ) → IsNumberAt v w bytes → take size (from w bytes) ≡ body_bytes body → take (w + size) bytes ≡ spell v w ++ body_bytes body
field_taken v w size body bytes s e =
    take-add w size bytes
    ∙ ap (λ (x : List ℕ). x ++ take size (drop w bytes)) s.spelled
    ∙ ap (λ (x : List ℕ). spell v w ++ x) (ap (take size) (sym (take_rest bytes w)) ∙ e)

-- the tag of a field at the front is the number there
pub tag_front : (v w : ℕ) (bytes : List ℕ) (f : Field) (rest : List ℕ) → IsNumberAt v w bytes → IsField f → bytes ≡ field_bytes f ++ rest → (f.tag.value ≡ v) × (body_bytes f.body ++ rest ≡ from w bytes)
tag_front v w bytes f rest s p e =
    one_front v w f.tag.value f.tag.width bytes (body_bytes f.body ++ rest) s p.number (e ∙ field-bytes f rest)

pub body_front : (v w : ℕ) (bytes : List ℕ) (f : Field) (rest : List ℕ) → IsNumberAt v w bytes → IsField f → StoresField f → bytes ≡ field_bytes f ++ rest → IsWholeBody v f.body × (from w bytes ≡ body_bytes f.body ++ rest)
body_front v w bytes f rest s p q e =
    let r = tag_front v w bytes f rest s p e in
    let whole : IsWholeBody f.tag.value f.body = whole_body IsGroup f (record { valid = p; stored = q }) in
    (subst (λ (k : ℕ). IsWholeBody k f.body) r.0 whole, sym r.1)
