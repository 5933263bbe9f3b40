-- Fields with one geometry: how many bytes they take.
use Rattle.std.proofs.Common.{◌≡◌, ℕ, ◌+◌, ◌-◌, Bool, not, Option, List, [], ◌∷◌, ◌++◌, length, length-append, length-drop, map, take, drop, filter, ap, ◌∙◌, inl, inr, arith}
use Rattle.std.proofs.lemmas.Bool.{cases_Bool}
use Rattle.std.proofs.lemmas.List.{map-append, take_all}
use Rattle.std.proofs.lemmas.List.Concat.{flat_map-append}
use Rattle.std.proofs.lemmas.List.Elements.{filter-append}
use Rattle.std.specs.List.{flat_map}
use Rattle.mvt_document.proofs.Sizes.{same_size}
use Rattle.mvt_document.specs.declared.TheConstants.{MAX_FILE}
use Rattle.mvt_document.specs.Plain as plain
use Rattle.mvt_document.specs.Splicing.{splice}
use Rattle.mvt_document.specs.Stands.{field_of}
use Rattle.mvt_document.specs.Wire.{field_bytes}
use Rattle.mvt_document.specs.declared.field.FieldParts.{FieldParts as Field}
use Rattle.mvt_geometry.specs.Integers.{encoded}
use Rattle.mvt_geometry.specs.Shapes.{Geometry, kind_number}
use Rattle.mvt_change.specs.FileSizes.{IsFileSize}
use Rattle.mvt_meaning.specs.Fields.{new_content}
use Rattle.mvt_meaning.specs.Geometries.{is_geometry_field, with_geometry, with_kind}
use Rattle.mvt_meaning.specs.Ordinals.{put_once}
use Rattle.mvt_change.proofs.Changed.{map-splice}

-- the new item and those that do not pass make up the whole
once_weighs : {A : Type 0} (bytes : A → List ℕ) (passes : A → Bool) (new : A) (xs : List A) → length (flat_map bytes (put_once passes new xs)) ≡ length (bytes new) + length (flat_map bytes (filter (λ x. not (passes x)) xs))
once_weighs bytes passes new [] = omega (arith, length-append (bytes new) [])
once_weighs bytes passes new (x ∷ xs) =
    elim (cases_Bool (passes x)) [
      | inl pass ↦ rw pass (length-append (bytes new) (flat_map bytes (filter (λ y. not (passes y)) xs)))
      | inr skip ↦ rw skip (omega (arith, length-append (bytes x) (flat_map bytes (put_once passes new xs)), length-append (bytes x) (flat_map bytes (filter (λ y. not (passes y)) xs)), once_weighs bytes passes new xs))
    ]

-- how many bytes the fields take that are not geometry fields
abbrev pub others_weigh : List Field → ℕ
others_weigh fields = length (flat_map field_bytes (filter (λ field. not (is_geometry_field field)) (map field_of fields)))

both_weigh : (first second : List Field) → others_weigh (first ++ second) ≡ others_weigh first + others_weigh second
both_weigh first second =
    let others = filter (λ field. not (is_geometry_field field)) in
    let xs = others (map field_of first) in
    let ys = others (map field_of second) in
    ap (λ list. length (flat_map field_bytes (others list))) (map-append field_of first second)
    ∙ ap (λ list. length (flat_map field_bytes list)) (filter-append (λ field. not (is_geometry_field field)) (map field_of first) (map field_of second))
    ∙ ap length (flat_map-append field_bytes xs ys)
    ∙ length-append (flat_map field_bytes xs) (flat_map field_bytes ys)

-- the fields once a run of the kind is carried out and they have the geometry alone
pub drawn_weighs : (index taken : ℕ) (put fields : List Field) (drawing : Field) → length (flat_map field_bytes (put_once is_geometry_field (field_of drawing) (splice index taken (map field_of put) (map field_of fields)))) ≡ length (field_bytes (field_of drawing)) + others_weigh (take index fields) + others_weigh put + others_weigh (drop (index + taken) fields)
drawn_weighs index taken put fields drawing =
    let front = take index fields in
    let back = drop (index + taken) fields in
    let whole = once_weighs field_bytes is_geometry_field (field_of drawing) (splice index taken (map field_of put) (map field_of fields)) in
    let same = ap (λ list. length (flat_map field_bytes (filter (λ field. not (is_geometry_field field)) list))) (map-splice field_of index taken put fields) in
    omega (arith, whole, same, both_weigh (front ++ put) back, both_weigh front put)

-- the size of the fields with another kind and geometry, from that of what the program puts
pub drawn_size : (geometry : Geometry) (fields seen_fields : List plain.Field) (index taken : ℕ) (put : List plain.Field) (drawing : plain.Field) (answered : Option ℕ) → seen_fields ≡ fields → splice index taken put seen_fields ≡ with_kind (kind_number geometry.kind) seen_fields → drawing ≡ new_content 34 (encoded geometry)
    → IsFileSize answered (length (flat_map field_bytes (put_once is_geometry_field drawing (splice index taken put seen_fields)))) → IsFileSize answered (length (flat_map field_bytes (with_geometry geometry fields)))
drawn_size geometry fields seen_fields index taken put drawing answered seen makes draws =
    same_size MAX_FILE answered _ _
    (ap (λ list. length (flat_map field_bytes list))
    (ap (put_once is_geometry_field drawing) (makes ∙ ap (with_kind (kind_number geometry.kind)) seen)
    ∙ ap (λ field. put_once is_geometry_field field (with_kind (kind_number geometry.kind) fields)) draws))
