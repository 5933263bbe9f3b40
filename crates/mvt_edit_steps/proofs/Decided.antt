-- The fates of fields whose numbers are decided on, and what is left of them, as far as a walk has come.
use Rattle.std.proofs.Common.{◌≡◌, ℕ, ◌+◌, ◌<◌, List, [], ◌∷◌, ◌++◌, Option, length, length-append, drop, map, take, get_or, append_assoc, sym, ap, ◌∙◌, subst, arith}
use Rattle.std.proofs.lemmas.List.{append-nil, map-append, take_more}
use Rattle.std.proofs.lemmas.List.Concat.{flat_map-append}
use Rattle.std.specs.List.{flat_map}
use Rattle.mvt_document.specs.Plain as plain
use Rattle.mvt_document.specs.Stands.{field_of}
use Rattle.mvt_document.specs.Wire.{field_bytes}
use Rattle.mvt_document.specs.declared.field.FieldParts.{FieldParts as Field}
use Rattle.mvt_renumber.specs.Fates.{fate_seen, field_fate}
use Rattle.mvt_renumber.specs.Renumbering.{field_numbers, renumber, renumbered_field}
use Rattle.mvt_renumber.specs.declared.fate.Fate.{Fate}
use Rattle.mvt_change.specs.FileSizes.{IsFileSize}
use Rattle.mvt_edit_steps.specs.Decided.{IsSizeBeside, field_fates}

-- these are the fates of the first fields, and by the decisions that are left those of any others follow
abbrev pub Decided : ℕ → List (Option ℕ) → List (Option ℕ) → List Field → List (Fate Field) → Type 0
Decided number decisions left fields fates = (more : List plain.Field) → map (fate_seen field_of) fates ++ field_fates number left more ≡ field_fates number decisions (map field_of fields ++ more)

pub decided_more : (number : ℕ) (decisions left following : List (Option ℕ)) (fields : List Field) (index : ℕ) (field : Field) (fates : List (Fate Field)) (fate : Fate Field) → index < length fields → field ≡ get_or fields index field
    → Decided number decisions left (take index fields) fates → fate_seen field_of fate ≡ field_fate number left (field_of field) → following ≡ drop (length (field_numbers number (field_of field))) left
    → Decided number decisions following (take (index + 1) fields) (fates ++ fate ∷ [])
decided_more number decisions left following fields index field fates fate within is so_far becomes rest = λ more.
    let plain_field = field_of field in
    let first = take index fields in
    let fields_then = take_more fields index field within ∙ ap (λ x. first ++ x ∷ []) (sym is) in
    ap (λ all. all ++ field_fates number following more) (map-append (fate_seen field_of) fates (fate ∷ []))
    ∙ append_assoc (map (fate_seen field_of) fates) (fate_seen field_of fate ∷ []) (field_fates number following more)
    ∙ ap (λ next. map (fate_seen field_of) fates ++ next ∷ field_fates number following more) becomes
    ∙ ap (λ d. map (fate_seen field_of) fates ++ field_fate number left plain_field ∷ field_fates number d more) rest
    ∙ so_far (plain_field ∷ more)
    ∙ ap (field_fates number decisions) (sym (append_assoc (map field_of first) (plain_field ∷ []) more) ∙ ap (λ all. all ++ more) (sym (map-append field_of first (field ∷ []))))
    ∙ ap (λ all. field_fates number decisions (map field_of all ++ more)) (sym fields_then)

-- the fates of all fields
pub all_decided : (number : ℕ) (decisions left : List (Option ℕ)) (fields : List Field) (fates : List (Fate Field)) → Decided number decisions left fields fates → map (fate_seen field_of) fates ≡ field_fates number decisions (map field_of fields)
all_decided number decisions left fields fates decided =
    sym (append-nil (map (fate_seen field_of) fates)) ∙ decided [] ∙ ap (field_fates number decisions) (append-nil (map field_of fields))

-- what is left of the first fields takes `bytes` bytes, which `size` has on top of those before; with what is left of
-- any others by the decisions that are left, they are what is left of all
pub record Sized (number : ℕ) (decisions left : List (Option ℕ)) (fields : List Field) (beside size : Option ℕ) : Type 0 where
  pub bytes : ℕ
  pub answered : IsSizeBeside beside bytes size
  pub following : (more : List plain.Field) → bytes + length (flat_map field_bytes (renumber number left more)) ≡ length (flat_map field_bytes (renumber number decisions (map field_of fields ++ more)))

pub sized_none : (number : ℕ) (decisions : List (Option ℕ)) (beside : Option ℕ) → Sized number decisions decisions [] beside beside
sized_none number decisions beside = record {
  bytes = 0;
  answered = λ before fits. (let same : before ≡ before + 0 = omega arith in subst (IsFileSize beside) same fits);
  following = λ more. omega arith;
}

pub sized_more : (number : ℕ) (decisions left following : List (Option ℕ)) (fields : List Field) (index : ℕ) (field : Field) (beside size next : Option ℕ) (made : List plain.Field) → index < length fields → field ≡ get_or fields index field
    → Sized number decisions left (take index fields) beside size → made ≡ renumbered_field number left (field_of field) → IsSizeBeside size (length (flat_map field_bytes made)) next → following ≡ drop (length (field_numbers number (field_of field))) left
    → Sized number decisions following (take (index + 1) fields) beside next
sized_more number decisions left following fields index field beside size next made within is so_far leaves answered rest =
    let first = take index fields in
    let here = field_of field in
    let fields_then = take_more fields index field within ∙ ap (λ x. first ++ x ∷ []) (sym is) in
    let weigh = λ (all : List plain.Field). length (flat_map field_bytes all) in
    record {
      bytes = so_far.bytes + weigh made;
      answered = λ before fits. (let same : before + so_far.bytes + weigh made ≡ before + (so_far.bytes + weigh made) = omega arith in subst (IsFileSize next) same (answered (before + so_far.bytes) (so_far.answered before fits)));
      following = λ more. (
          let joined : weigh (renumber number left (here ∷ more)) ≡ weigh made + weigh (renumber number following more) =
          ap (λ d. weigh (renumbered_field number left here ++ renumber number d more)) (sym rest)
          ∙ ap (λ list. weigh (list ++ renumber number following more)) (sym leaves)
          ∙ ap length (flat_map-append field_bytes made (renumber number following more))
          ∙ length-append (flat_map field_bytes made) (flat_map field_bytes (renumber number following more)) in
          let all = so_far.following (here ∷ more) in
          let whole : map field_of first ++ here ∷ more ≡ map field_of (take (index + 1) fields) ++ more =
          sym (append_assoc (map field_of first) (here ∷ []) more) ∙ ap (λ list. list ++ more) (sym (map-append field_of first (field ∷ []))) ∙ ap (λ list. map field_of list ++ more) (sym fields_then) in
          omega (arith, joined, all, ap (λ list. weigh (renumber number decisions list)) whole)
          );
    }

-- what is left of all fields
pub all_sized : (number : ℕ) (decisions left : List (Option ℕ)) (fields : List Field) (beside size : Option ℕ) → Sized number decisions left fields beside size → IsSizeBeside beside (length (flat_map field_bytes (renumber number decisions (map field_of fields)))) size
all_sized number decisions left fields beside size sized =
    let all : sized.bytes ≡ length (flat_map field_bytes (renumber number decisions (map field_of fields))) =
    (let none = sized.following [] in omega (arith, none, ap (λ list. length (flat_map field_bytes (renumber number decisions list))) (append-nil (map field_of fields)))) in
    subst (λ n. IsSizeBeside beside n size) all sized.answered
