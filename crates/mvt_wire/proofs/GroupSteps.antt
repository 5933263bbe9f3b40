-- What the reader of a group sees at its next place.
use Rattle.std.proofs.Common.{◌≡◌, ◌≢◌, ℕ, ◌+◌, ◌-◌, ◌/◌, ◌%◌, ◌^◌, ◌<◌, ◌≤◌, List, [], ◌∷◌, ◌++◌, length, take, drop, refl, sym, ap, ◌∙◌, subst, arith}
use Rattle.std.proofs.lemmas.List.{length-take, length-drop, take-append-drop, take_rest}
use Rattle.std.proofs.Math.Seq.{take-add}
use Rattle.mvt_document.specs.declared.TheConstants.{MAX_GROUPS}
use Rattle.mvt_document.specs.Plain.{Body}
use Rattle.mvt_document.specs.Wire.{spell, body_bytes}
use Rattle.mvt_document.specs.Begins.{Begins}
use Rattle.mvt_document.specs.Groups.{IsEnd, IsFlatBody, IsGroup}
use Rattle.mvt_wire.specs.Open.{LeadsTo}
use Rattle.mvt_wire.proofs.Begins.{from, IsNumberAt, number_then, field_taken}
use Rattle.mvt_document.proofs.Prefixes.{number_with, field_with}
use Rattle.mvt_wire.proofs.OpenBytes.{NothingLeft, NoTag, IsTagAt, field_of_parts, flat_is_whole, field_leads, start_leads, end_leads, no_tag, no_body, too_deep, other_end, leads_on, group_ends, no_group}

-- a tag at the front, as the program reads it
pub record IsTagFound (value width : ℕ) (bytes : List ℕ) : Type 0 where
  pub at : IsNumberAt value width bytes
  pub low : 8 ≤ value
  pub high : value < 2 ^ 32

tag_at : (v w : ℕ) (bytes : List ℕ) → IsTagFound v w bytes → IsTagAt (number_with v w) bytes (from w bytes)
tag_at v w bytes t = record { number = t.at.valid; low = t.low; high = t.high; spelled = number_then v w bytes t.at }

-- ---- what leads on

pub start_taken : (v w : ℕ) (bytes groups new : List ℕ) → IsTagFound v w bytes → v % 8 ≡ 3 → groups ≢ [] → new ≡ v / 8 ∷ groups → LeadsTo (take w bytes) groups new
start_taken v w bytes [] new t kind some e = absurd (some refl)
start_taken v w bytes (number ∷ numbers) new t kind some e =
    let leads = start_leads (number_with v w) number numbers t.at.valid (record { numbered = t.low; short = t.high; typed = kind }) in
    subst (λ (piece : List ℕ). LeadsTo piece (number ∷ numbers) new) (sym t.at.spelled) (subst (LeadsTo (spell v w) (number ∷ numbers)) (sym e) leads)

pub end_taken : (v w : ℕ) (bytes groups new : List ℕ) → IsTagFound v w bytes → v % 8 ≡ 4 → length groups ≤ MAX_GROUPS → groups ≡ v / 8 ∷ new → LeadsTo (take w bytes) groups new
end_taken v w bytes groups new t kind within e =
    let ends : IsEnd (v / 8) (number_with v w) = record { spelled = t.at.valid; tag = record { numbered = t.low; short = t.high; typed = kind }; same = refl } in
    let some : length new < MAX_GROUPS = omega (arith, within, ap length e) in
    let leads = end_leads (number_with v w) (v / 8) new ends some in
    subst (λ (piece : List ℕ). LeadsTo piece groups new) (sym t.at.spelled) (subst (λ (old : List ℕ). LeadsTo (spell v w) old new) (sym e) leads)

pub flat_taken : (v w size : ℕ) (body : Body) (bytes groups : List ℕ) → IsTagFound v w bytes → groups ≢ [] → IsFlatBody (v % 8) body → take size (from w bytes) ≡ body_bytes body → LeadsTo (take (w + size) bytes) groups groups
flat_taken v w size body bytes [] t some p e = absurd (some refl)
flat_taken v w size body bytes (number ∷ numbers) t some p e =
    let leads = field_leads number numbers (field_with (number_with v w) body) (λ is_group. field_of_parts is_group (number_with v w) body t.at.valid t.low t.high (flat_is_whole is_group (v % 8) (v / 8) body p)) in
    subst (λ (piece : List ℕ). LeadsTo piece (number ∷ numbers) (number ∷ numbers)) (sym (field_taken v w size body bytes t.at e)) leads

-- ---- what does not

pub tag_missing : (bytes groups : List ℕ) → groups ≢ [] → NoTag bytes → NothingLeft groups bytes
tag_missing bytes [] some none = absurd (some refl)
tag_missing bytes (number ∷ numbers) some none = no_tag number numbers bytes none

pub body_missing : (v w : ℕ) (bytes groups : List ℕ) → IsTagFound v w bytes → groups ≢ [] → (v % 8 ≡ 3 → ⊥) → (v % 8 ≡ 4 → ⊥)
    → ¬ Begins (IsFlatBody (v % 8)) body_bytes (from w bytes) → NothingLeft groups bytes
body_missing v w bytes [] t some not_start not_end none = absurd (some refl)
body_missing v w bytes (number ∷ numbers) t some not_start not_end none =
    no_body (number_with v w) number numbers bytes (from w bytes) (tag_at v w bytes t) not_start not_end none

pub level_missing : (v w : ℕ) (bytes groups : List ℕ) → IsTagFound v w bytes → groups ≢ [] → v % 8 ≡ 3 → MAX_GROUPS ≤ length groups → NothingLeft groups bytes
level_missing v w bytes [] t some kind full = absurd (some refl)
level_missing v w bytes (number ∷ numbers) t some kind full =
    too_deep (number_with v w) number numbers bytes (from w bytes) (tag_at v w bytes t) kind full

pub end_missing : (v w : ℕ) (bytes groups : List ℕ) → IsTagFound v w bytes → groups ≢ [] → v % 8 ≡ 4 → ((others : List ℕ) → groups ≡ v / 8 ∷ others → ⊥) → NothingLeft groups bytes
end_missing v w bytes [] t some kind other = absurd (some refl)
end_missing v w bytes (number ∷ numbers) t some kind other =
    other_end (number_with v w) number numbers bytes (from w bytes) (tag_at v w bytes t) kind (λ same. other numbers (ap (λ (n : ℕ). n ∷ numbers) (sym same)))

-- ---- the way through a group

-- up to this place the bytes lead from the group of this number to the groups that are open there
pub record IsInGroup (number : ℕ) (bytes groups : List ℕ) (place : ℕ) : Type 0 where
  pub within : place ≤ length bytes
  pub leads : LeadsTo (take place bytes) (number ∷ []) groups

pub in_group-more : (number : ℕ) (bytes groups new : List ℕ) (place size : ℕ) → IsInGroup number bytes groups place → size ≤ length (from place bytes) → LeadsTo (take size (from place bytes)) groups new → IsInGroup number bytes new (place + size)
in_group-more number bytes groups new place size p enough q =
    let same : take size (from place bytes) ≡ take size (drop place bytes) = ap (take size) (take_rest bytes place) in
    record {
      within = omega (arith, p.within, enough, length-take (length bytes - place) (drop place bytes), length-drop place bytes);
      leads =
          subst (λ (piece : List ℕ). LeadsTo piece (number ∷ []) new) (sym (take-add place size bytes))
          (leads_on (take place bytes) (take size (drop place bytes)) (number ∷ []) groups new p.leads (subst (λ (piece : List ℕ). LeadsTo piece groups new) same q));
    }

pub in_group-end : (number : ℕ) (bytes groups : List ℕ) (place : ℕ) → IsInGroup number bytes groups place → groups ≡ [] → IsGroup number (take place bytes)
in_group-end number bytes groups place p e = group_ends number (take place bytes) (subst (LeadsTo (take place bytes) (number ∷ [])) e p.leads)

pub in_group-broken : (number : ℕ) (bytes groups : List ℕ) (place : ℕ) → IsInGroup number bytes groups place → NothingLeft groups (from place bytes) → ¬ Begins (IsGroup number) (λ group. group) bytes
in_group-broken number bytes groups place p none =
    let parts : take place bytes ++ from place bytes ≡ bytes = ap (λ (b : List ℕ). take place bytes ++ b) (take_rest bytes place) ∙ take-append-drop place bytes in
    subst (λ (b : List ℕ). ¬ Begins (IsGroup number) (λ group. group) b) parts (no_group number groups (take place bytes) (from place bytes) p.leads none)
