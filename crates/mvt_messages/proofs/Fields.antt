-- The numbers of fields, from a position on.
use Rattle.std.proofs.Common.{◌≡◌, ℕ, ◌+◌, ◌/◌, ◌<◌, Bool, List, [], ◌++◌, length, get_or, map, sym, ap, ◌∙◌, arith}
use Rattle.std.specs.List.{flat_map, enumerate_from}
use Rattle.std.specs.Prelude.{if◌then◌else◌}
use Rattle.std.proofs.lemmas.Bool.Decides.{Decides-eqb}
use Rattle.std.proofs.lemmas.List.{drop_more, length-map, get_or-map}
use Rattle.mvt_document.specs.Plain as plain
use Rattle.mvt_document.specs.Stands.{field_of}
use Rattle.mvt_document.specs.declared.Field.{Field}
use Rattle.mvt_messages.specs.Numbers.{numbers_in, numbers_of}
use Rattle.mvt_messages.specs.Left.{numbers_from}

-- the numbers from a position on are those in its field, and those from the next position on
pub numbers_from-more : (number position : ℕ) (fields : List Field) (field : Field) → position < length fields → field ≡ get_or fields position field
    → numbers_from number position (map field_of fields) ≡ numbers_in number (position, field_of field) ++ numbers_from number (position + 1) (map field_of fields)
numbers_from-more number position fields field within read =
    let all : List plain.Field = map field_of fields in
    let inside : position < length all = omega (arith, length-map fields field_of) in
    let first : get_or all position (field_of field) ≡ field_of field = get_or-map field_of fields position field (field_of field) within ∙ ap field_of (sym read) in
    ap (λ (rest : List plain.Field). flat_map (numbers_in number) (enumerate_from position rest)) (drop_more all position (field_of field) inside)
    ∙ ap (λ (f : plain.Field). numbers_in number (position, f) ++ numbers_from number (position + 1) all) first

-- the numbers in a field of this number are those of its body
pub numbers_in_body : (number position : ℕ) (field : plain.Field) (body : plain.Body) → field.tag.value / 8 ≡ number → body ≡ field.body → numbers_in number (position, field) ≡ numbers_of position body
numbers_in_body number position field body same is =
    ap (λ (b : Bool). if b then numbers_of position field.body else []) ((Decides-eqb (field.tag.value / 8) number).1 same)
    ∙ ap (numbers_of position) (sym is)
