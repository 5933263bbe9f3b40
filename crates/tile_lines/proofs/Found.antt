-- What is read as words is spelled as them.
use Rattle.std.proofs.Common.{◌≡◌, ◌≢◌, ◌⊎◌, inl, inr, ℕ, zero, suc, ◌+◌, ◌*◌, ◌<◌, Bool, true, false, cond, ltb, eqb, not, ◌||◌, List, [], ◌∷◌, ◌++◌, length, take, drop, Option, Some, None, refl, sym, ap, subst, ◌∙◌, append_assoc, arith}
use Rattle.std.specs.Prelude.{◌&&◌, option_map}
use Rattle.std.specs.Char.{digit_value}
use Rattle.std.specs.List.{AllByRecursion, position_or_len}
use Rattle.std.specs.Option.{option_map_or}
use Rattle.std.proofs.lemmas.Bool.{ltb-true, eqb-true, not-false, and_parts, or_from}
use Rattle.std.proofs.lemmas.Bool.Decides.{nat_tests}
use Rattle.std.proofs.lemmas.List.{append-nil, nil_from_length, take-append-drop}
use Rattle.std.proofs.lemmas.List.Folds.{length-prefix_len}
use Rattle.std.proofs.lemmas.Option.{some_pair_parts, cond_some}
use Rattle.tile_lines.specs.Words.{Word, Bare, Quoted, is_blank, ends_bare, after_blanks, ends_word, onto, repeated, taken, hex_at, escape_at, byte_at, text_at, closed_word, quoted_at, bare_at, first_word, word_at, words_of}
use Rattle.tile_lines.specs.Spelling.{SpellsByte, SpellsText, SpellsWord, AreBlanks, SpellsWords}
use Rattle.tile_lines.proofs.Short.{head_after, bare_long}

-- a prefix of the bytes spells a byte
abbrev Front : List ℕ → ℕ → List ℕ → Type 0
Front bytes c more = (first : List ℕ) × (bytes ≡ first ++ more) × SpellsByte first c

apart : (b c k : ℕ) → b ≡ c → eqb b k ≡ false → c ≢ k
apart b c k e ne = λ is. absurd (grind (arith, nat_tests))

one_of : (b c : ℕ) → b ≡ c → (eqb b 34 || eqb b 92) ≡ true → (c ≡ 34) ⊎ (c ≡ 92)
one_of b c e test = by_first (eqb b 34) refl
  where
    by_first : (q : Bool) → eqb b 34 ≡ q → (c ≡ 34) ⊎ (c ≡ 92)
    by_first true is = inl (sym e ∙ eqb-true b 34 is)
    by_first false is = inr (sym e ∙ eqb-true b 92 (later (eqb b 34) (eqb b 92) is test))
      where
        later : (x y : Bool) → x ≡ false → (x || y) ≡ true → y ≡ true
        later true y f t = absurd cc
        later false y f t = t

hex_spelled : (b x : ℕ) (bytes : List ℕ) (c : ℕ) (more : List ℕ) → b ≡ 92 → x ≡ 120 → hex_at bytes ≡ Some (c, more) → Front (b ∷ x ∷ bytes) c more
hex_spelled b x [] c more e e' read = absurd cc
hex_spelled b x (high ∷ []) c more e e' read = absurd cc
hex_spelled b x (high ∷ low ∷ bytes) c more e e' read = tested (ltb (digit_value high) 8 && ltb (digit_value low) 16) refl read
  where
    tested : (q : Bool) → (ltb (digit_value high) 8 && ltb (digit_value low) 16) ≡ q → option_map {U = ℕ × List ℕ} (λ v. (v, bytes)) (cond q (Some (16 * digit_value high + digit_value low)) None) ≡ Some (c, more) → Front (b ∷ x ∷ high ∷ low ∷ bytes) c more
    tested true is got =
        let p = some_pair_parts (16 * digit_value high + digit_value low) c bytes more got in
        let t = and_parts (ltb (digit_value high) 8) (ltb (digit_value low) 16) is in
        (b ∷ x ∷ high ∷ low ∷ [], ap (λ (rest : List ℕ). b ∷ x ∷ high ∷ low ∷ rest) p.1, (e, e', ltb-true (digit_value high) 8 t.0, ltb-true (digit_value low) 16 t.1, sym p.0))
    tested false is got = absurd cc

escape_spelled : (b : ℕ) (bytes : List ℕ) (c : ℕ) (more : List ℕ) → b ≡ 92 → escape_at bytes ≡ Some (c, more) → Front (b ∷ bytes) c more
escape_spelled b [] c more e read = absurd cc
escape_spelled b (x ∷ bytes) c more e read = tested (eqb x 120) refl (eqb x 34 || eqb x 92) refl read
  where
    tested : (q : Bool) → eqb x 120 ≡ q → (r : Bool) → (eqb x 34 || eqb x 92) ≡ r → cond q (hex_at bytes) (cond {A = Option (ℕ × List ℕ)} r (Some (x, bytes)) None) ≡ Some (c, more) → Front (b ∷ x ∷ bytes) c more
    tested true is r is' got = hex_spelled b x bytes c more e (eqb-true x 120 is) got
    tested false is true is' got =
        let p = some_pair_parts x c bytes more got in
        (b ∷ x ∷ [], ap (λ (rest : List ℕ). b ∷ x ∷ rest) p.1, (e, p.0, one_of x c p.0 is'))
    tested false is false is' got = absurd cc

byte_spelled : (bytes : List ℕ) (c : ℕ) (more : List ℕ) → byte_at bytes ≡ Some (c, more) → Front bytes c more
unfolding byte_at
byte_spelled [] c more read = absurd cc
byte_spelled (b ∷ bytes) c more read = tested (eqb b 92) refl (eqb b 34) refl read
  where
    tested : (q : Bool) → eqb b 92 ≡ q → (r : Bool) → eqb b 34 ≡ r → cond q (escape_at bytes) (cond {A = Option (ℕ × List ℕ)} r None (Some (b, bytes))) ≡ Some (c, more) → Front (b ∷ bytes) c more
    tested true is r is' got = escape_spelled b bytes c more (eqb-true b 92 is) got
    tested false is true is' got = absurd cc
    tested false is false is' got =
        let p = some_pair_parts b c bytes more got in
        (b ∷ [], ap (λ (rest : List ℕ). b ∷ rest) p.1, (p.0, apart b c 34 p.0 is', apart b c 92 p.0 is))

-- what was taken spells a text
abbrev IsText : List ℕ → List ℕ × List ℕ → Type 0
IsText bytes found = (inner : List ℕ) × (bytes ≡ inner ++ found.1) × SpellsText inner found.0

one_more : (bytes : List ℕ) (c : ℕ) (more : List ℕ) (found : List ℕ × List ℕ) → Front bytes c more → IsText more found → IsText bytes (onto c found)
one_more bytes c more found f t =
    (f.0 ++ t.0, f.1 ∙ ap (λ (rest : List ℕ). f.0 ++ rest) t.1 ∙ sym (append_assoc f.0 t.0 found.1), (f.0, t.0, refl, f.2, t.2))

text_spelled : (n : ℕ) (bytes : List ℕ) → IsText bytes (repeated byte_at n bytes)
unfolding repeated
text_spelled zero bytes = ([], refl, refl)
text_spelled (suc n) bytes = stepped (byte_at bytes) refl (text_spelled n)
  where
    stepped : (o : Option (ℕ × List ℕ)) → byte_at bytes ≡ o → ((more : List ℕ) → IsText more (repeated byte_at n more)) → IsText bytes (option_map_or (λ found. onto found.0 (repeated byte_at n found.1)) o ([], bytes))
    stepped None read others = ([], refl, refl)
    stepped (Some x) read others = one_more bytes x.0 x.1 (repeated byte_at n x.1) (byte_spelled bytes x.0 x.1 read) (others x.1)

closed_parts : (text rest : List ℕ) (word : Word) (more : List ℕ) → closed_word text rest ≡ Some (word, more) → (rest ≡ 34 ∷ more) × (Quoted text ≡ word) × (ends_word more ≡ true)
closed_parts text [] word more read = absurd cc
closed_parts text (b ∷ rest) word more read = tested (eqb b 34 && ends_word rest) refl read
  where
    tested : (q : Bool) → (eqb b 34 && ends_word rest) ≡ q → cond {A = Option (Word × List ℕ)} q (Some (Quoted text, rest)) None ≡ Some (word, more) → (b ∷ rest ≡ 34 ∷ more) × (Quoted text ≡ word) × (ends_word more ≡ true)
    tested true is got =
        let p = some_pair_parts (Quoted text) word rest more got in
        let t = and_parts (eqb b 34) (ends_word rest) is in
        (ap (λ (x : ℕ). x ∷ rest) (eqb-true b 34 t.0) ∙ ap (λ (xs : List ℕ). 34 ∷ xs) p.1, p.0, ap ends_word (sym p.1) ∙ t.1)
    tested false is got = absurd cc

-- the bytes begin with a word, and may go on after it
abbrev Begins : List ℕ → Word → List ℕ → Type 0
Begins bytes word rest = (spelled : List ℕ) × (bytes ≡ spelled ++ rest) × SpellsWord spelled word × (ends_word rest ≡ true)

quoted_spelled : (b : ℕ) (bytes : List ℕ) (word : Word) (rest : List ℕ) → b ≡ 34 → quoted_at bytes ≡ Some (word, rest) → Begins (b ∷ bytes) word rest
quoted_spelled b bytes word rest e read =
    let t = text_spelled (length bytes) bytes in
    let p = closed_parts (text_at bytes).0 (text_at bytes).1 word rest read in
    let inside : bytes ≡ t.0 ++ (34 ∷ rest) = t.1 ∙ ap (λ (xs : List ℕ). t.0 ++ xs) p.0 in
    let whole : b ∷ bytes ≡ (34 ∷ (t.0 ++ 34 ∷ [])) ++ rest = ap (λ (x : ℕ). x ∷ bytes) e ∙ ap (λ (xs : List ℕ). 34 ∷ xs) (inside ∙ sym (append_assoc t.0 (34 ∷ []) rest)) in
    (34 ∷ (t.0 ++ 34 ∷ []), whole, subst (λ (w : Word). SpellsWord (34 ∷ (t.0 ++ 34 ∷ [])) w) p.1 (t.0, refl, t.2), p.2)

-- what comes before the first place that passes does not pass
fronts : (p : ℕ → Bool) (bytes : List ℕ) → AllByRecursion (λ b. p b ≡ false) (take (position_or_len p bytes) bytes)
fronts p [] = tt
fronts p (b ∷ bytes) = tested (p b) refl (fronts p bytes)
  where
    tested : (q : Bool) → p b ≡ q → AllByRecursion (λ x. p x ≡ false) (take (position_or_len p bytes) bytes) → AllByRecursion (λ x. p x ≡ false) (take (cond (not q) (1 + position_or_len p bytes) 0) (b ∷ bytes))
    tested true is others = tt
    tested false is others =
        let more : 1 + position_or_len p bytes ≡ suc (position_or_len p bytes) = omega arith in
        subst (λ (n : ℕ). AllByRecursion (λ x. p x ≡ false) (take n (b ∷ bytes))) (sym more) (is, others)

bare_spelled : (b : ℕ) (bytes : List ℕ) (word : Word) (rest : List ℕ) → ends_bare b ≡ false → bare_at (b ∷ bytes) ≡ Some (word, rest) → Begins (b ∷ bytes) word rest
bare_spelled b bytes word rest plain read =
    let all : List ℕ = b ∷ bytes in
    let k : ℕ = position_or_len ends_bare all in
    let c = cond_some (ends_word (drop k all)) (Bare (take k all), drop k all) (word, rest) read in
    let p = some_pair_parts (Bare (take k all)) word (drop k all) rest (ap (λ (x : Word × List ℕ). Some x) c.1) in
    let long : 0 < length (take k all) = omega (arith, length-prefix_len (λ x. not (ends_bare x)) all, bare_long b bytes plain) in
    (take k all, sym (take-append-drop k all) ∙ ap (λ (xs : List ℕ). take k all ++ xs) p.1, subst (λ (w : Word). SpellsWord (take k all) w) p.0 (refl, long, fronts ends_bare all), ap ends_word (sym p.1) ∙ c.0)

first_spelled : (bytes : List ℕ) (word : Word) (rest : List ℕ) → ((b : ℕ) (more : List ℕ) → bytes ≡ b ∷ more → is_blank b ≡ false) → first_word bytes ≡ Some (word, rest) → Begins bytes word rest
first_spelled [] word rest no_blank read = absurd cc
first_spelled (b ∷ bytes) word rest no_blank read = tested (eqb b 34) refl read
  where
    tested : (q : Bool) → eqb b 34 ≡ q → cond q (quoted_at bytes) (bare_at (b ∷ bytes)) ≡ Some (word, rest) → Begins (b ∷ bytes) word rest
    tested true is got = quoted_spelled b bytes word rest (eqb-true b 34 is) got
    tested false is got = bare_spelled b bytes word rest (or_from (is_blank b) (eqb b 34) (no_blank b bytes refl) is) got

blanks_from : (bytes : List ℕ) → AllByRecursion (λ b. not (is_blank b) ≡ false) bytes → AreBlanks bytes
blanks_from [] each = tt
blanks_from (b ∷ bytes) each = (not-false (is_blank b) each.0, blanks_from bytes each.1)

-- the blanks at the front of a line
abbrev gap_of : List ℕ → List ℕ
gap_of line = take (position_or_len (λ b. not (is_blank b)) line) line

gap_blank : (line : List ℕ) → AreBlanks (gap_of line)
gap_blank line = blanks_from (gap_of line) (fronts (λ b. not (is_blank b)) line)

gap_first : (line : List ℕ) → line ≡ gap_of line ++ after_blanks line
gap_first line = sym (take-append-drop (position_or_len (λ b. not (is_blank b)) line) line)

pub word_spelled : (line : List ℕ) (word : Word) (rest : List ℕ) (words : List Word) → word_at line ≡ Some (word, rest) → SpellsWords rest words → SpellsWords line (word ∷ words)
unfolding word_at
word_spelled line word rest words read others =
    let f = first_spelled (after_blanks line) word rest (head_after line) read in
    (gap_of line, f.0, rest, gap_first line ∙ ap (λ (xs : List ℕ). gap_of line ++ xs) f.1, gap_blank line, f.2, f.3, others)

words_spelled : (n : ℕ) (line : List ℕ) → AreBlanks (repeated word_at n line).1 → SpellsWords line (repeated word_at n line).0
unfolding repeated
words_spelled zero line blanks = blanks
words_spelled (suc n) line blanks = stepped (word_at line) refl (words_spelled n) blanks
  where
    stepped : (o : Option (Word × List ℕ)) → word_at line ≡ o → ((rest : List ℕ) → AreBlanks (repeated word_at n rest).1 → SpellsWords rest (repeated word_at n rest).0)
        → AreBlanks (option_map_or (λ found. onto found.0 (repeated word_at n found.1)) o ([], line)).1 → SpellsWords line (option_map_or (λ found. onto found.0 (repeated word_at n found.1)) o ([], line)).0
    stepped None read others left = left
    stepped (Some x) read others left = word_spelled line x.0 x.1 (repeated word_at n x.1).0 read (others x.1 left)

pub left_blank : (rest : List ℕ) → eqb (length (after_blanks rest)) 0 ≡ true → AreBlanks rest
left_blank rest test =
    let nothing : after_blanks rest ≡ [] = nil_from_length (after_blanks rest) (eqb-true (length (after_blanks rest)) 0 test) in
    subst AreBlanks (sym (gap_first rest ∙ ap (λ (xs : List ℕ). gap_of rest ++ xs) nothing ∙ append-nil (gap_of rest))) (gap_blank rest)

pub words_found : (line : List ℕ) (words : List Word) → words_of line ≡ Some words → SpellsWords line words
unfolding words_of
words_found line words read =
    let found = taken word_at line in
    let c = cond_some (eqb (length (after_blanks found.1)) 0) found.0 words read in
    subst (λ (ws : List Word). SpellsWords line ws) c.1 (words_spelled (length line) line (left_blank found.1 c.0))
