-- The loops over a spelled number: for its least width, out to a list, and back from its last byte.
use Rattle.std.proofs.Common.{◌≡◌, ℕ, zero, suc, ◌+◌, ◌-◌, ◌*◌, ◌/◌, ◌%◌, ◌^◌, ◌<◌, ◌≤◌, List, [], ◌∷◌, ◌++◌, length, length-set, set, take, drop, get_or, inl, inr, min, Bool, ltb, true, false, Some, None, position, refl, sym, ap, ◌∙◌, subst, append_assoc, arith}
use Rattle.std.proofs.lemmas.Bool.{cond-true, cond-false, ltb-true, ltb-false, lt-ltb, le-ltb, cases_lt}
use Rattle.std.proofs.lemmas.Nat.{pow-add, div_below}
use Rattle.std.proofs.lemmas.List.{take_more, take_more_set, set_split, drop_all, drop_more, drop_at, length-take, length-take-le, get_or-take}
use Rattle.std.proofs.lemmas.List.Quantifiers.{position-Some}
use Rattle.std.proofs.lemmas.List.Sums.{fails_before_first}
use Rattle.std.specs.List.{position_or_len}
use Rattle.std.proofs.lemmas.List.Prefix.{front_fits, front_reads}
use Rattle.std.proofs.Math.Nat.{mul_assoc}
use Rattle.mvt_document.specs.Wire.{spell, width_within, minimal_width}
use Rattle.mvt_document.specs.Shape.{IsSpelling}
use Rattle.mvt_document.proofs.Spelling.{pow_more, pow_le, rest_below, spell-one, spell-more, length-spell, spelling_from, spelling_some, spelling_below}

-- ---- the search for the least width
pub width_within-low : (m v : ℕ) → v < 128 → width_within m v ≡ 1
unfolding width_within
width_within-low zero v h = refl
width_within-low (suc m) v h =
    cond-true (ltb v 128) 1 (suc (width_within m (v / 128))) (lt-ltb v 128 h)

pub width_within-high : (m v : ℕ) → 128 ≤ v → width_within (suc m) v ≡ suc (width_within m (v / 128))
unfolding width_within
width_within-high m v h =
    cond-false (ltb v 128) 1 (suc (width_within m (v / 128))) (le-ltb v 128 h)

pub record IsLeastFrom (value width rest more : ℕ) : Type 0 where
  pub of_ten : width + more ≡ 10
  pub below : rest < 2 ^ (7 * suc more)
  pub same : width + width_within more rest ≡ minimal_width value + 1

pub least_from-more : (v width rest more : ℕ) → 128 ≤ rest → IsLeastFrom v width rest more → IsLeastFrom v (width + 1) (rest / 128) (more - 1)
least_from-more v width rest zero h s = absurd (omega (arith, s.below))
least_from-more v width rest (suc more) h s =
    let e : suc more - 1 ≡ more = omega arith in
    let k : IsLeastFrom v (width + 1) (rest / 128) more = record {
      of_ten = omega (arith, s.of_ten);
      below = rest_below rest (suc more) s.below;
      same = omega (arith, s.same, width_within-high more rest h);
    } in
    subst (λ n. IsLeastFrom v (width + 1) (rest / 128) n) (sym e) k

pub least_from-end : (v width rest more : ℕ) → rest < 128 → IsLeastFrom v width rest more → width ≡ minimal_width v
least_from-end v width rest more h s = omega (arith, s.same, width_within-low more rest h)

-- ---- a number at the end of a room, byte by byte

pub put-more : (room whole : List ℕ) (rest index : ℕ) → index + 1 < length room → take index room ++ spell rest (length room - index) ≡ whole → take (index + 1) (set room index (rest % 128 + 128)) ++ spell (rest / 128) (length (set room index (rest % 128 + 128)) - (index + 1)) ≡ whole
put-more room whole rest index h e =
    let n : length room - index ≡ suc (suc (length room - (index + 2))) = omega arith in
    let m : length (set room index (rest % 128 + 128)) - (index + 1) ≡ suc (length room - (index + 2)) = omega (arith, length-set room index (rest % 128 + 128)) in
    ap (λ t. t ++ spell (rest / 128) (length (set room index (rest % 128 + 128)) - (index + 1))) (take_more_set room index (rest % 128 + 128) (omega arith))
    ∙ append_assoc (take index room) ((rest % 128 + 128) ∷ []) (spell (rest / 128) (length (set room index (rest % 128 + 128)) - (index + 1)))
    ∙ ap (λ k. take index room ++ (rest % 128 + 128) ∷ spell (rest / 128) k) m
    ∙ ap (λ t. take index room ++ t) (sym (spell-more rest (length room - (index + 2))))
    ∙ ap (λ k. take index room ++ spell rest k) (sym n)
    ∙ e

pub put-end : (room whole : List ℕ) (rest index last : ℕ) → last + 1 ≡ length room → index ≡ last → take index room ++ spell rest (length room - index) ≡ whole → set room last (rest % 128) ≡ whole
put-end room whole rest index last h same e =
    let n : length room - last ≡ 1 = omega arith in
    let none : drop (suc last) room ≡ [] = drop_all (suc last) room (omega arith) in
    set_split room last (rest % 128) (omega arith)
    ∙ ap (λ t. take last room ++ (rest % 128) ∷ t) none
    ∙ ap (λ t. take last room ++ t) (sym (spell-one rest))
    ∙ ap (λ k. take last room ++ spell rest k) (sym n)
    ∙ ap (λ i. take i room ++ spell rest (length room - i)) (sym same)
    ∙ e

-- ---- a number read from its last byte down to its first

-- the place of the first byte without the top bit, among the first ten
pub record EndsAt (bytes : List ℕ) (last : ℕ) : Type 0 where
  pub ten : last < 10
  pub within : last < length bytes
  pub low : get_or bytes last 0 < 128
  pub high : (k : ℕ) → k < last → 128 ≤ get_or bytes k 0

pub ends_at : (bytes : List ℕ) (last : ℕ) → Some last ≡ position (λ byte. ltb byte 128) (take 10 bytes) → EndsAt bytes last
ends_at bytes last e =
    let found : (last < length (take 10 bytes)) × (ltb (get_or (take 10 bytes) last 0) 128 ≡ true) × ((k : ℕ) → k < last → ltb (get_or (take 10 bytes) k 0) 128 ≡ false) =
    position-Some (λ byte. ltb byte 128) (take 10 bytes) last 0 (sym e) in
    let size : length (take 10 bytes) ≡ min 10 (length bytes) = length-take 10 bytes in
    let inside : last < length (take 10 bytes) = found.0 in
    let ten : last < 10 = omega arith in
    record {
      ten = ten;
      within = omega arith;
      low = subst (λ b. b < 128) (get_or-take 10 bytes last 0 ten) (ltb-true (get_or (take 10 bytes) last 0) 128 found.1);
      high = λ k h. subst (λ b. 128 ≤ b) (get_or-take 10 bytes k 0 (omega arith)) (ltb-false (get_or (take 10 bytes) k 0) 128 (found.2 k h));
    }

pub ends_nowhere : (bytes : List ℕ) → None ≡ position (λ byte. ltb byte 128) (take 10 bytes) → (k : ℕ) → k < 10 → k < length bytes → 128 ≤ get_or bytes k 0
ends_nowhere bytes e k ten within =
    let test : ℕ → Bool = λ byte. ltb byte 128 in
    let end : ℕ = position_or_len test (take 10 bytes) in
    let size : length (take 10 bytes) ≡ min 10 (length bytes) = length-take 10 bytes in
    elim (cases_lt (position_or_len test (take 10 bytes)) (length (take 10 bytes))) [
      | inl h ↦
          let some : position test (take 10 bytes) ≡ Some (position_or_len test (take 10 bytes)) = cond-true _ _ _ (lt-ltb _ _ h) in
          cc
      | inr h ↦
          subst (λ b. 128 ≤ b) (get_or-take 10 bytes k 0 ten) (ltb-false (get_or (take 10 bytes) k 0) 128 (fails_before_first test (take 10 bytes) k 0 (omega arith)))
    ]

pub record IsReadFrom (bytes : List ℕ) (last value index : ℕ) : Type 0 where
  pub spelled : spell value (suc last - index) ≡ drop index (take (suc last) bytes)
  pub below : value < 2 ^ (64 - 7 * index)
  pub narrow : value < 2 ^ (7 * (suc last - index))

pub read-start : (bytes : List ℕ) (last : ℕ) → EndsAt bytes last → (last ≡ 9 → get_or bytes last 0 ≤ 1) → IsReadFrom bytes last (get_or bytes last 0) last
read-start bytes last ends nine =
    let low : get_or bytes last 0 < 128 = ends.low in
    let within : last < length bytes = ends.within in
    let ten : last < 10 = ends.ten in
    let one : suc last - last ≡ 1 = omega arith in
    let next : suc last ≡ last + 1 = omega arith in
    let byte : get_or bytes last 0 % 128 ≡ get_or bytes last 0 = omega arith in
    let short : length (take last bytes) ≡ last = length-take-le last bytes (omega arith) in
    record {
      spelled =
          ap (λ w. spell (get_or bytes last 0) w) one
          ∙ spell-one (get_or bytes last 0)
          ∙ ap (λ b. b ∷ []) byte
          ∙ sym (drop_at (take last bytes) (get_or bytes last 0 ∷ []) last short)
          ∙ ap (λ xs. drop last xs) (sym (take_more bytes last 0 within))
          ∙ ap (λ n. drop last (take n bytes)) (sym next);
      below = elim (cases_lt last 9) [
        | inl h ↦ omega (arith, pow_le 7 (64 - 7 * last) (omega arith))
        | inr h ↦
            let e : 64 - 7 * last ≡ 1 = omega arith in
            subst (λ n. get_or bytes last 0 < 2 ^ n) (sym e) (omega (arith, nine (omega arith)))
      ];
      narrow = subst (λ n. get_or bytes last 0 < 2 ^ (7 * n)) (sym one) low;
    }

more_bits : (i : ℕ) → i < 9 → 2 ^ (64 - 7 * i) ≡ 2 ^ (64 - 7 * (i + 1)) * 128
more_bits i h =
    let e : 64 - 7 * i ≡ 64 - 7 * (i + 1) + 7 = omega arith in
    ap (λ n. 2 ^ n) e ∙ pow-add 2 (64 - 7 * (i + 1)) 7

pub read-more : (bytes : List ℕ) (last value i byte : ℕ) → EndsAt bytes last → i < last → byte ≡ get_or bytes i 0 → byte < 256 → IsReadFrom bytes last value (i + 1) → IsReadFrom bytes last (value * 128 + (byte - 128)) i
read-more bytes last value i byte ends h is fits r =
    let within : last < length bytes = ends.within in
    let ten : last < 10 = ends.ten in
    let high : 128 ≤ byte = subst (λ b. 128 ≤ b) (sym is) (ends.high i h) in
    let k : suc last - i ≡ suc (suc (last - (i + 1))) = omega arith in
    let k' : suc last - (i + 1) ≡ suc (last - (i + 1)) = omega arith in
    let low : (value * 128 + (byte - 128)) % 128 + 128 ≡ byte = omega arith in
    let rest : (value * 128 + (byte - 128)) / 128 ≡ value = omega arith in
    let long : i < length (take (suc last) bytes) = omega (arith, length-take-le (suc last) bytes (omega arith)) in
    let here : get_or (take (suc last) bytes) i 0 ≡ byte = get_or-take (suc last) bytes i 0 (omega arith) ∙ sym is in
    record {
      spelled =
          ap (λ w. spell (value * 128 + (byte - 128)) w) k
          ∙ spell-more (value * 128 + (byte - 128)) (last - (i + 1))
          ∙ ap (λ b. b ∷ spell ((value * 128 + (byte - 128)) / 128) (suc (last - (i + 1)))) low
          ∙ ap (λ v. byte ∷ spell v (suc (last - (i + 1)))) rest
          ∙ ap (λ w. byte ∷ spell value w) (sym k')
          ∙ ap (λ xs. byte ∷ xs) r.spelled
          ∙ ap (λ b. b ∷ drop (i + 1) (take (suc last) bytes)) (sym here)
          ∙ sym (drop_more (take (suc last) bytes) i 0 long);
      below = omega (arith, r.below, more_bits i (omega arith));
      narrow =
          let n : suc last - i ≡ suc (suc last - (i + 1)) = omega arith in
          subst (λ w. value * 128 + (byte - 128) < 2 ^ (7 * w)) (sym n) (omega (arith, r.narrow, pow_more (suc last - (i + 1))));
    }

pub read_fits : (bytes : List ℕ) (last value i byte : ℕ) → i < 9 → byte < 256 → IsReadFrom bytes last value (i + 1) → value * 128 + (byte - 128) < 2 ^ 64
read_fits bytes last value i byte h fits r =
    omega (arith, r.below, more_bits i h, pow_le (64 - 7 * i) 64 (omega arith))

at_next : (bytes : List ℕ) (last value index : ℕ) → 0 < index → IsReadFrom bytes last value index → IsReadFrom bytes last value (index - 1 + 1)
at_next bytes last value index some r =
    let e : index ≡ index - 1 + 1 = omega arith in
    subst (λ i. IsReadFrom bytes last value i) e r

pub read-down : (bytes : List ℕ) (last value index digit : ℕ) → EndsAt bytes last → 0 < index → index ≤ last → digit ≡ get_or bytes (index - 1) 0 - 128 → get_or bytes (index - 1) 0 < 256 → IsReadFrom bytes last value index → IsReadFrom bytes last (value * 128 + digit) (index - 1)
read-down bytes last value index digit ends some down is fits r =
    subst (λ d. IsReadFrom bytes last (value * 128 + d) (index - 1)) (sym is) (read-more bytes last value (index - 1) (get_or bytes (index - 1) 0) ends (omega arith) refl fits (at_next bytes last value index some r))

pub read_down_fits : (bytes : List ℕ) (last value index digit : ℕ) → EndsAt bytes last → 0 < index → index ≤ last → digit < 128 → IsReadFrom bytes last value index → value * 128 + digit < 2 ^ 64
read_down_fits bytes last value index digit ends some down low r =
    let fits : value * 128 + (digit + 128 - 128) < 2 ^ 64 =
    read_fits bytes last value (index - 1) (digit + 128) (omega (arith, ends.ten)) (omega arith) (at_next bytes last value index some r) in
    omega arith

-- once the first byte is read too
pub read_whole : (bytes : List ℕ) (last value index : ℕ) → EndsAt bytes last → index ≡ 0 → IsReadFrom bytes last value index → IsSpelling value (last + 1) × (take (last + 1) bytes ≡ spell value (last + 1))
read_whole bytes last value index ends none r =
    let ten : last < 10 = ends.ten in
    let all : suc last - index ≡ last + 1 = omega (arith, none) in
    let next : suc last ≡ last + 1 = omega arith in (
      spelling_from value (last + 1) (omega arith) (omega arith) (subst (λ i. value < 2 ^ (64 - 7 * i)) none r.below) (subst (λ w. value < 2 ^ (7 * w)) all r.narrow),
      ap (λ n. take n bytes) (sym next) ∙ ap (λ i. drop i (take (suc last) bytes)) (sym none) ∙ sym r.spelled ∙ ap (λ w. spell value w) all,
    )

-- ---- a number of one byte

pub first_spelling : (byte : ℕ) → byte < 128 → IsSpelling byte 1
first_spelling byte low = spelling_from byte 1 (omega arith) (omega arith) (omega arith) low

pub first_is : (bytes : List ℕ) (byte : ℕ) → 1 ≤ length bytes → get_or bytes 0 0 ≡ byte → byte < 128 → take 1 bytes ≡ spell byte 1
first_is [] byte some is low = absurd (omega (arith, some))
first_is (first ∷ bytes) byte some is low =
    let whole : first ≡ byte % 128 = omega (arith, is) in
    ap (λ n. n ∷ []) whole ∙ sym (spell-one byte)

pub one_below : (v w : ℕ) → IsSpelling v w → w ≡ 1 → v < 128
one_below v w s one = subst (λ w. v < 2 ^ (7 * w)) one (spelling_below v w s)

pub one_is : (v w : ℕ) → IsSpelling v w → w ≡ 1 → v ∷ [] ≡ spell v w
one_is v w s one =
    let low : v < 128 = one_below v w s one in
    let whole : v ≡ v % 128 = omega arith in
    ap (λ n. n ∷ []) whole ∙ sym (spell-one v) ∙ ap (λ w. spell v w) (sym one)

-- ---- a number of two bytes

pub two_spelling : (low high : ℕ) → low < 128 → high < 128 → IsSpelling (high * 128 + low) 2
two_spelling low high l h = spelling_from (high * 128 + low) 2 (omega arith) (omega arith) (omega arith) (omega arith)

pub two_below : (v w : ℕ) → IsSpelling v w → w ≡ 2 → v / 128 < 128
two_below v w s two =
    let below : v < 2 ^ (7 * 2) = subst (λ w. v < 2 ^ (7 * w)) two (spelling_below v w s) in
    omega arith

pub two_is : (v w : ℕ) → IsSpelling v w → w ≡ 2 → (v % 128 + 128) ∷ (v / 128) ∷ [] ≡ spell v w
two_is v w s two =
    let low : v / 128 < 128 = two_below v w s two in
    let whole : v / 128 ≡ v / 128 % 128 = omega arith in
    ap (λ n. (v % 128 + 128) ∷ n ∷ []) whole
    ∙ ap (λ xs. (v % 128 + 128) ∷ xs) (sym (spell-one (v / 128)))
    ∙ sym (spell-more v 0)
    ∙ ap (λ w. spell v w) (sym two)

pub two_are : (bytes : List ℕ) (low high : ℕ) → 2 ≤ length bytes → get_or bytes 0 0 ≡ low + 128 → get_or bytes 1 0 ≡ high → low < 128 → high < 128 → take 2 bytes ≡ spell (high * 128 + low) 2
two_are [] low high long first last l h = absurd (omega (arith, long))
two_are (one ∷ []) low high long first last l h = absurd (omega (arith, long))
two_are (one ∷ two ∷ bytes) low high long first last l h =
    let same : one ≡ (high * 128 + low) % 128 + 128 = omega (arith, first) in
    let whole : two ≡ (high * 128 + low) / 128 % 128 = omega (arith, last) in
    ap (λ n. n ∷ two ∷ []) same
    ∙ ap (λ n. ((high * 128 + low) % 128 + 128) ∷ n ∷ []) whole
    ∙ ap (λ xs. ((high * 128 + low) % 128 + 128) ∷ xs) (sym (spell-one ((high * 128 + low) / 128)))
    ∙ sym (spell-more (high * 128 + low) 0)

-- ---- no spelling is at the front

last_low : (w v : ℕ) → get_or (spell v (suc w)) w 0 < 128
unfolding spell
last_low zero v = omega arith
last_low (suc w) v = last_low w (v / 128)

last_below : (w v m : ℕ) → v < m * 2 ^ (7 * w) → get_or (spell v (suc w)) w 0 < m
unfolding spell
last_below zero v m h = omega arith
last_below (suc w) v m h =
    let b : v < m * 2 ^ (7 * w) * 128 = omega (arith, pow_more w, ap (λ n. m * n) (pow_more w), mul_assoc m (2 ^ (7 * w)) 128) in
    last_below w (v / 128) m (div_below v 128 (m * 2 ^ (7 * w)) (omega arith) b)

pub none_ends : (bytes : List ℕ) → ((k : ℕ) → k < 10 → k < length bytes → 128 ≤ get_or bytes k 0) → (v w : ℕ) (rest : List ℕ) → IsSpelling v w → bytes ≡ spell v w ++ rest → ⊥
none_ends bytes high v zero rest s e = omega (arith, spelling_some v 0 s)
none_ends bytes high v (suc w) rest s e =
    let fits : length (spell v (suc w)) ≤ length bytes = front_fits bytes (spell v (suc w)) rest e in
    let size : length (spell v (suc w)) ≡ suc w = length-spell v (suc w) in
    let same : get_or bytes w 0 ≡ get_or (spell v (suc w)) w 0 = front_reads 0 bytes (spell v (suc w)) rest e w (omega arith) in
    omega (arith, last_low w v, high w (omega (arith, s.short)) (omega arith))

pub none_fits : (bytes : List ℕ) → ((k : ℕ) → k < 9 → 128 ≤ get_or bytes k 0) → 1 < get_or bytes 9 0 → (v w : ℕ) (rest : List ℕ) → IsSpelling v w → bytes ≡ spell v w ++ rest → ⊥
none_fits bytes high top v zero rest s e = omega (arith, spelling_some v 0 s)
none_fits bytes high top v (suc w) rest s e =
    let size : length (spell v (suc w)) ≡ suc w = length-spell v (suc w) in
    let same : get_or bytes w 0 ≡ get_or (spell v (suc w)) w 0 = front_reads 0 bytes (spell v (suc w)) rest e w (omega arith) in
    elim (cases_lt w 9) [
      | inl h ↦ omega (arith, last_low w v, high w h)
      | inr h ↦
          let nine : w ≡ 9 = omega (arith, s.short) in
          let low : get_or (spell v (suc w)) w 0 < 2 =
          last_below w v 2 (subst (λ n. v < 2 * 2 ^ (7 * n)) (sym nine) s.fits) in
          let at : get_or bytes w 0 ≡ get_or bytes 9 0 = ap (λ n. get_or bytes n 0) nine in
          omega arith
    ]
