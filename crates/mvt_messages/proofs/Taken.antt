-- What is left of the numbers of fields, where nothing is left of the packed body before them.
use Rattle.std.proofs.Common.{◌≡◌, ℕ, ◌+◌, Result, Ok, Err, List, [], ◌∷◌, ◌++◌, length, drop, map, sym, ap, ◌∙◌, arith}
use Rattle.std.specs.Borrow.{Bor}
use Rattle.std.specs.List.{enumerate_from, flat_map}
use Rattle.std.proofs.lemmas.List.{drop_all, length-map}
use Rattle.mvt_document.specs.Bodies.{number_of}
use Rattle.mvt_document.specs.Plain as plain
use Rattle.mvt_document.specs.Stands.{field_of}
use Rattle.mvt_document.specs.declared.Field.{Field}
use Rattle.mvt_document.specs.declared.varint.Varint.{Varint}
use Rattle.mvt_messages.specs.Left.{left, numbers_from}
use Rattle.mvt_messages.specs.Numbers.{Placed, numbers_in, pieces, through_bad, unpacked}
use Rattle.mvt_messages.specs.Seen.{elements_seen, left_of}
use Rattle.mvt_messages.specs.declared.elements.Elements.{Elements}
use Rattle.mvt_messages.specs.declared.elements.Elements.TheVariants as elements
use Rattle.mvt_messages.specs.declared.packed.Packed.{Packed}

left_in_fields : (p : Packed) (number position : ℕ) (fields : List Field) → p.place ≡ length p.bytes.now → left (left_of p) number position (map field_of fields) ≡ through_bad (numbers_from number position (map field_of fields))
left_in_fields p number position fields end = ap (λ (body : List ℕ). left (unpacked p.field p.place (pieces body)) number position (map field_of fields)) (drop_all p.place p.bytes.now (omega (arith, end)))

pub none_left : (p : Packed) (number position : ℕ) (fields : List Field) → p.place ≡ length p.bytes.now → numbers_from number position (map field_of fields) ≡ [] → left (left_of p) number position (map field_of fields) ≡ []
none_left p number position fields end none = left_in_fields p number position fields end ∙ ap through_bad none

-- a field that is one number is the next that is taken
pub one_left : (p : Packed) (number position field : ℕ) (fields : List Field) (found : Elements) (varint : Varint) → p.place ≡ length p.bytes.now → found ≡ elements.One varint
    → numbers_from number position (map field_of fields) ≡ elements_seen field found ++ numbers_from number (field + 1) (map field_of fields)
    → left (left_of p) number position (map field_of fields) ≡ Ok (record { number = number_of varint; field = field; place = 0 }) ∷ left (left_of p) number (field + 1) (map field_of fields)
one_left p number position field fields found varint end is same =
    left_in_fields p number position fields end
    ∙ ap through_bad (same ∙ ap (λ e. elements_seen field e ++ numbers_from number (field + 1) (map field_of fields)) is)
    ∙ ap (λ rest. Ok (record { number = number_of varint; field = field; place = 0 }) ∷ rest) (sym (left_in_fields p number (field + 1) fields end))

-- a field that is a packed body comes next
pub packed_left : (p : Packed) (number position field : ℕ) (fields : List Field) (found : Elements) (bytes : Bor (List ℕ)) → p.place ≡ length p.bytes.now → found ≡ elements.Packed bytes
    → numbers_from number position (map field_of fields) ≡ elements_seen field found ++ numbers_from number (field + 1) (map field_of fields)
    → left (left_of p) number position (map field_of fields) ≡ left (unpacked field 0 (pieces bytes.now)) number (field + 1) (map field_of fields)
packed_left p number position field fields found bytes end is same =
    left_in_fields p number position fields end
    ∙ ap through_bad (same ∙ ap (λ e. elements_seen field e ++ numbers_from number (field + 1) (map field_of fields)) is)

-- after a bad chunk nothing is left
pub bad_left : (p ended : Packed) (number position bad : ℕ) (fields : List Field) (more : List (Result Placed ℕ)) → left_of p ≡ Err bad ∷ more → left_of ended ≡ []
    → left (left_of p) number position (map field_of fields) ≡ Err bad ∷ left (left_of ended) number (length fields) (map field_of fields)
bad_left p ended number position bad fields more is none =
    let all = map field_of fields in
    let past : drop (length fields) all ≡ [] = drop_all (length fields) all (omega (arith, length-map fields field_of)) in
    let last : left (left_of ended) number (length fields) all ≡ [] =
    ap (λ (at_hand : List (Result Placed ℕ)). left at_hand number (length fields) all) none
    ∙ ap (λ (rest : List plain.Field). through_bad (flat_map (numbers_in number) (enumerate_from (length fields) rest))) past in
    ap (λ (at_hand : List (Result Placed ℕ)). left at_hand number position all) is ∙ ap (λ (rest : List (Result Placed ℕ)). Err bad ∷ rest) (sym last)
