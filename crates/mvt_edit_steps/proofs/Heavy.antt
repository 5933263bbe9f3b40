-- Items of two bytes or more: how many go is bounded by their bytes.
use Rattle.std.proofs.Common.{◌≡◌, ℕ, ◌*◌, ◌≤◌, Bool, true, max, List, [], ◌∷◌, ◌++◌, length, length-append, map, filter, inl, inr, arith}
use Rattle.std.proofs.lemmas.Bool.{cases_Bool}
use Rattle.std.specs.List.{flat_map}
use Rattle.mvt_document.specs.Wire.{spell, minimal_width, delimited}
use Rattle.mvt_document.specs.Shape.{IsSpelling}
use Rattle.mvt_document.proofs.Spelling.{length-spell, spelling_some, minimal_width_some}
use Rattle.mvt_document.specs.declared.Varint.{Varint}

-- where each item that goes has two bytes
pub heavy : {A B : Type 0} (bytes : B → List ℕ) (v : A → B) (test : B → Bool) → ((x : A) → test (v x) ≡ true → 2 ≤ length (bytes (v x))) → (xs : List A) → 2 * length (filter test (map v xs)) ≤ length (flat_map bytes (filter test (map v xs)))
heavy bytes v test has [] = omega arith
heavy bytes v test has (x ∷ xs) =
    let more = heavy bytes v test has xs in
    elim (cases_Bool (test (v x))) [
      | inl out ↦ rw out (omega (arith, has x out, length-append (bytes (v x)) (flat_map bytes (filter test (map v xs)))))
      | inr stays ↦ rw stays more
    ]

pub tag_and_content : (value width least : ℕ) (content : List ℕ) → IsSpelling value width → 2 ≤ length (spell value width ++ delimited least content)
tag_and_content value width least content spelled =
    let room = max least (minimal_width (length content)) in
    omega (arith, length-append (spell value width) (delimited least content), length-append (spell (length content) room) content, length-spell value width, spelling_some value width spelled, length-spell (length content) room, minimal_width_some (length content))

pub number_has_bytes : (number : Varint) → 1 ≤ length (spell number.value number.width)
number_has_bytes number = omega (arith, length-spell number.value number.width, spelling_some number.value number.width number.spelled)
