use Rattle.std.proofs.Common.{◌≡◌, ℕ, ◌<◌, ◌^◌, ◌∷◌, [], ◌++◌, sym, ap, ◌∙◌, refl, rules, arith, to_z-of_z, SFits, w64, of_z}
use Rattle.std.proofs.lemmas.Result.{IfOk-weaker}
use Rattle.mvt_value.specs.Values.{OfInt, OfUint, OfSint, OfBool}
use Rattle.mvt_document.specs.Signed.{zigzag}
use Rattle.mvt_document.specs.Wire.{shortest}
use Rattle.mvt_value.proofs.Encoded.{truth-bytes, written, number_written, cast-twos_complement}
use Rattle.mvt_value.proofs.encode.encode_value.Goals as goal

pub returns-in-Int-clause-value : goal.returns-in-Int-clause-value
returns-in-Int-clause-value c =
    let z = c.in-Int.number in
    let n = c.cast_unsigned.result in
    let fits : SFits w64 z = search rules in
    let bits : n ≡ of_z w64 z = grind (arith, to_z-of_z) in
    let is = ap (λ (k : ℕ). 32 ∷ shortest k) (sym (bits ∙ cast-twos_complement z)) in
    rw c.in-Int.is (IfOk-weaker c.numbered-in-Int.result _ _ (λ m e. number_written m.items 32 n (OfInt z) fits is e) c.numbered-in-Int.ensures)

pub returns-in-Uint-clause-value : goal.returns-in-Uint-clause-value
returns-in-Uint-clause-value c =
    let n = c.in-Uint.number in
    let fits : n < 2 ^ 64 = search rules in
    rw c.in-Uint.is (IfOk-weaker c.numbered-in-Uint.result _ _ (λ m e. number_written m.items 40 n (OfUint n) fits refl e) c.numbered-in-Uint.ensures)

pub returns-in-Sint-clause-value : goal.returns-in-Sint-clause-value
returns-in-Sint-clause-value c =
    let z = c.in-Sint.number in
    let n = c.to_zigzag.result in
    let fits : SFits w64 z = search rules in
    let bits : n ≡ zigzag z = grind (arith, to_z-of_z) in
    let is = ap (λ (k : ℕ). 48 ∷ shortest k) (sym bits) in
    rw c.in-Sint.is (IfOk-weaker c.numbered-in-Sint.result _ _ (λ m e. number_written m.items 48 n (OfSint z) fits is e) c.numbered-in-Sint.ensures)

pub returns-in-Bool-clause-bytes : goal.returns-in-Bool-clause-bytes
returns-in-Bool-clause-bytes c = rw (c.in-Bool.is, ← truth-bytes c.in-Bool.truth, ← c.from.ensures) c.numbered-in-Bool.ensures

pub returns-in-Bool-clause-value : goal.returns-in-Bool-clause-value
returns-in-Bool-clause-value c =
    let t = c.in-Bool.truth in
    let is = ap (λ (k : ℕ). 56 ∷ (shortest k ++ [])) c.from.ensures ∙ truth-bytes t in
    rw c.in-Bool.is (IfOk-weaker c.numbered-in-Bool.result _ _ (λ m e. written m.items (OfBool t) tt (e ∙ is)) c.numbered-in-Bool.ensures)
