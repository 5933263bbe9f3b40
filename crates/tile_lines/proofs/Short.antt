-- A byte of a text and a word of a line leave less than they were read from.
use Rattle.std.proofs.Common.{◌≡◌, ℕ, suc, ◌+◌, ◌<◌, ◌≤◌, Bool, true, false, cond, eqb, List, [], ◌∷◌, length, drop, get_or, not, ◌||◌, Option, Some, None, refl, sym, ap, ◌∙◌, subst, arith}
use Rattle.std.specs.Prelude.{IfSome, ◌&&◌, option_map}
use Rattle.std.specs.List.{position_or_len, before_first}
use Rattle.std.proofs.lemmas.List.{length-drop, get_or-drop}
use Rattle.std.proofs.lemmas.List.Sums.{prefix_len_stops}
use Rattle.std.proofs.lemmas.Bool.{or_from}
use Rattle.tile_lines.specs.Words.{Bare, Quoted, is_blank, ends_bare, after_blanks, ends_word, hex_byte, hex_at, escape_at, byte_at, text_at, closed_word, quoted_at, bare_at, first_word, word_at}
use Rattle.tile_lines.proofs.Repeats.{Shortens, rest_le}

-- a fact of both branches
if_cond : {T : Type 0} (b : Bool) (x y : Option T) (P : T → Type 0) → IfSome x P → IfSome y P → IfSome (cond b x y) P
if_cond true x y P h k = h
if_cond false x y P h k = k

if_mapped : (o : Option ℕ) (more : List ℕ) (n : ℕ) → length more < n → IfSome {T = ℕ × List ℕ} (option_map (λ b. (b, more)) o) (λ found. length found.1 < n)
if_mapped None more n lt = tt
if_mapped (Some b) more n lt = lt

hex_short : (bytes : List ℕ) (n : ℕ) → length bytes ≤ n → IfSome (hex_at bytes) (λ found. length found.1 < n)
hex_short [] n le = tt
hex_short (high ∷ []) n le = tt
hex_short (high ∷ low ∷ more) n le = if_mapped (hex_byte high low) more n (omega arith)

escape_short : (bytes : List ℕ) (n : ℕ) → length bytes ≤ n → IfSome (escape_at bytes) (λ found. length found.1 < n)
escape_short [] n le = tt
escape_short (b ∷ more) n le =
    if_cond (eqb b 120) (hex_at more) (cond (eqb b 34 || eqb b 92) (Some (b, more)) None) (λ found. length found.1 < n) (hex_short more n (omega arith))
    (if_cond (eqb b 34 || eqb b 92) (Some (b, more)) None (λ found. length found.1 < n) (omega arith) tt)

pub byte_short : Shortens byte_at
unfolding byte_at
byte_short [] = tt
byte_short (b ∷ more) =
    if_cond (eqb b 92) (escape_at more) (cond (eqb b 34) None (Some (b, more))) (λ found. length found.1 < length (b ∷ more)) (escape_short more (length (b ∷ more)) (omega arith))
    (if_cond (eqb b 34) None (Some (b, more)) (λ found. length found.1 < length (b ∷ more)) tt (omega arith))

closed_short : (text rest : List ℕ) (n : ℕ) → length rest ≤ n → IfSome (closed_word text rest) (λ found. length found.1 < n)
closed_short text [] n le = tt
closed_short text (b ∷ more) n le = if_cond (eqb b 34 && ends_word more) (Some (Quoted text, more)) None (λ found. length found.1 < n) (omega arith) tt

pub quoted_short : (more : List ℕ) (n : ℕ) → length more ≤ n → IfSome (quoted_at more) (λ found. length found.1 < n)
quoted_short more n le = closed_short (text_at more).0 (text_at more).1 n (omega (arith, rest_le byte_at byte_short (length more) more))

-- a fact on what is seen of a value
pub if_seen : {X Y : Type 0} (view : X → Y) (o : Option X) (seen : Option Y) (P : Y → Type 0) → option_map view o ≡ seen → IfSome seen P → IfSome o (λ x. P (view x))
if_seen view None seen P e h = tt
if_seen {Y = Y} view (Some x) seen P e h = subst (λ (o : Option Y). IfSome o P) (sym e) h

-- the first byte after the blanks is not a blank
twice : (b : Bool) → not (not b) ≡ false → b ≡ false
twice true e = absurd cc
twice false e = refl

pub head_after : (bytes : List ℕ) (b : ℕ) (more : List ℕ) → after_blanks bytes ≡ b ∷ more → is_blank b ≡ false
head_after bytes b more e =
    let n : ℕ = position_or_len (λ b. not (is_blank b)) bytes in
    let long : length (drop n bytes) ≡ suc (length more) = ap length e in
    let lt : n < length bytes = omega (arith, long, length-drop n bytes) in
    let front : n ≡ n + 0 = omega arith in
    let at : get_or bytes n 0 ≡ b = ap (λ (k : ℕ). get_or bytes k 0) front ∙ sym (get_or-drop n bytes 0 0) ∙ ap (λ (xs : List ℕ). get_or xs 0 0) e in
    twice (is_blank b) (subst (λ (x : ℕ). not (not (is_blank x)) ≡ false) at (prefix_len_stops (λ x. not (not (is_blank x))) bytes 0 lt))

pub bare_long : (b : ℕ) (more : List ℕ) → ends_bare b ≡ false → 1 ≤ position_or_len ends_bare (b ∷ more)
bare_long b more e = rw e (omega arith)

bare_short : (b : ℕ) (more : List ℕ) (n : ℕ) → suc (length more) ≤ n → ends_bare b ≡ false → IfSome (bare_at (b ∷ more)) (λ found. length found.1 < n)
bare_short b more n le e =
    let k : ℕ = position_or_len ends_bare (b ∷ more) in
    let rest : List ℕ = drop k (b ∷ more) in
    if_cond (ends_word rest) (Some (Bare (before_first ends_bare (b ∷ more)), rest)) None (λ found. length found.1 < n) (omega (arith, bare_long b more e, length-drop k (b ∷ more))) tt

first_short : (bytes : List ℕ) (n : ℕ) → length bytes ≤ n → ((b : ℕ) (more : List ℕ) → bytes ≡ b ∷ more → is_blank b ≡ false) → IfSome (first_word bytes) (λ found. length found.1 < n)
first_short [] n le no_blank = tt
first_short (b ∷ more) n le no_blank = quote_or_not (eqb b 34) refl
  where
    quote_or_not : (q : Bool) → eqb b 34 ≡ q → IfSome (cond q (quoted_at more) (bare_at (b ∷ more))) (λ found. length found.1 < n)
    quote_or_not true e = quoted_short more n (omega arith)
    quote_or_not false e = bare_short b more n le (or_from (is_blank b) (eqb b 34) (no_blank b more refl) e)

pub word_short : Shortens word_at
unfolding word_at
word_short bytes = first_short (after_blanks bytes) (length bytes) (omega (arith, length-drop (position_or_len (λ b. not (is_blank b)) bytes) bytes)) (head_after bytes)
