-- What is spelled as words is read as them.
use Rattle.std.proofs.Common.{◌≡◌, ◌≢◌, ◌⊎◌, inl, inr, ℕ, ◌+◌, ◌*◌, ◌<◌, Bool, true, false, cond, ltb, eqb, not, ◌||◌, List, [], ◌∷◌, ◌++◌, length, take, drop, Option, Some, None, refl, sym, ap, ◌∙◌, append_assoc, arith}
use Rattle.std.specs.Prelude.{◌&&◌, option_map}
use Rattle.std.specs.Char.{digit_value}
use Rattle.std.specs.List.{AllByRecursion, position_or_len}
use Rattle.std.proofs.Math.Seq.{take-append_seam, drop-append_seam}
use Rattle.std.proofs.lemmas.Bool.{lt-ltb}
use Rattle.std.proofs.lemmas.Bool.Decides.{nat_tests}
use Rattle.std.proofs.lemmas.List.{append-nil}
use Rattle.tile_lines.specs.Words.{Word, Bare, Quoted, is_blank, ends_bare, after_blanks, ends_word, onto, taken, hex_byte, hex_at, escape_at, byte_at, text_at, closed_word, quoted_at, bare_at, first_word, word_at, all_found, words_of}
use Rattle.tile_lines.specs.Spelling.{SpellsByte, SpellsText, SpellsWord, AreBlanks, SpellsWords}
use Rattle.tile_lines.proofs.Repeats.{taken_some, taken_none}
use Rattle.tile_lines.proofs.Short.{byte_short, word_short}

differ : (a b : ℕ) → a ≢ b → eqb a b ≡ false
differ a b ne = grind (arith, nat_tests)

plain_again : (b c : ℕ) (rest : List ℕ) → b ≡ c → c ≢ 34 → c ≢ 92 → byte_at (b ∷ rest) ≡ Some (c, rest)
unfolding byte_at
plain_again b c rest e no_quote no_slash = rw (e, differ c 92 no_slash, differ c 34 no_quote) refl

escape_again : (c : ℕ) (rest : List ℕ) → (c ≡ 34) ⊎ (c ≡ 92) → escape_at (c ∷ rest) ≡ Some (c, rest)
escape_again c rest (inl e) = rw e refl
escape_again c rest (inr e) = rw e refl

hex_again : (high low c : ℕ) (rest : List ℕ) → digit_value high < 8 → digit_value low < 16 → c ≡ 16 * digit_value high + digit_value low → hex_at (high ∷ low ∷ rest) ≡ Some (c, rest)
hex_again high low c rest h l e =
    let byte : hex_byte high low ≡ Some c = hex_is (digit_value high) (digit_value low) c h l e in
    ap (λ (o : Option ℕ). option_map (λ b. (b, rest)) o) byte
  where
    hex_is : (a b c : ℕ) → a < 8 → b < 16 → c ≡ 16 * a + b → cond (ltb a 8 && ltb b 16) (Some (16 * a + b)) None ≡ Some c
    hex_is a b c h l e = rw (lt-ltb a 8 h, lt-ltb b 16 l, e) refl

slash : (b : ℕ) (rest : List ℕ) → b ≡ 92 → byte_at (b ∷ rest) ≡ escape_at rest
unfolding byte_at
slash b rest e = rw e refl

byte_again : (first : List ℕ) (c : ℕ) (rest : List ℕ) → SpellsByte first c → byte_at (first ++ rest) ≡ Some (c, rest)
byte_again [] c rest s = absurd s
byte_again (b ∷ []) c rest s = plain_again b c rest s.0 s.1 s.2
byte_again (b ∷ e ∷ []) c rest s = slash b (e ∷ rest) s.0 ∙ ap (λ (x : ℕ). escape_at (x ∷ rest)) s.1 ∙ escape_again c rest s.2
byte_again (b ∷ x ∷ high ∷ []) c rest s = absurd s
byte_again (b ∷ x ∷ high ∷ low ∷ []) c rest s =
    slash b (x ∷ high ∷ low ∷ rest) s.0 ∙ ap (λ (y : ℕ). escape_at (y ∷ high ∷ low ∷ rest)) s.1 ∙ hex_again high low c rest s.2 s.3 s.4
byte_again (b ∷ x ∷ high ∷ low ∷ more ∷ others) c rest s = absurd s

text_again : (inner text rest : List ℕ) → SpellsText inner text → byte_at rest ≡ None → text_at (inner ++ rest) ≡ (text, rest)
text_again inner [] rest s no_byte = ap (λ (bytes : List ℕ). text_at (bytes ++ rest)) s ∙ taken_none byte_at byte_short rest no_byte
text_again inner (c ∷ text) rest s no_byte =
    let first = s.0 in let more = s.1 in
    let regrouped : inner ++ rest ≡ first ++ (more ++ rest) = ap (λ (bytes : List ℕ). bytes ++ rest) s.2 ∙ append_assoc first more rest in
    ap text_at regrouped ∙ taken_some byte_at byte_short (first ++ (more ++ rest)) c (more ++ rest) (byte_again first c (more ++ rest) s.3) ∙ ap (onto c) (text_again more text rest s.4 no_byte)

no_byte_at_quote : (rest : List ℕ) → byte_at (34 ∷ rest) ≡ None
unfolding byte_at
no_byte_at_quote rest = refl

closed_again : (text rest : List ℕ) → ends_word rest ≡ true → closed_word text (34 ∷ rest) ≡ Some (Quoted text, rest)
closed_again text rest e = rw e refl

quoted_again : (inner text rest : List ℕ) → SpellsText inner text → ends_word rest ≡ true → quoted_at (inner ++ (34 ∷ rest)) ≡ Some (Quoted text, rest)
quoted_again inner text rest s e =
    ap (λ (found : List ℕ × List ℕ). closed_word found.0 found.1) (text_again inner text (34 ∷ rest) s (no_byte_at_quote rest)) ∙ closed_again text rest e

-- the place where a test passes first, after bytes that do not pass it
stops_at : (p : ℕ → Bool) (front rest : List ℕ) → AllByRecursion (λ b. p b ≡ false) front → position_or_len p rest ≡ 0 → position_or_len p (front ++ rest) ≡ length front
stops_at p [] rest each e = e
stops_at p (b ∷ front) rest each e = rw each.0 (omega (arith, stops_at p front rest each.1 e))

or_left : (a b : Bool) → (a || b) ≡ false → a ≡ false
or_left true b e = absurd cc
or_left false b e = refl

or_right : (a b : Bool) → (a || b) ≡ false → b ≡ false
or_right true b e = absurd cc
or_right false b e = e

end_of_word : (rest : List ℕ) → ends_word rest ≡ true → position_or_len ends_bare rest ≡ 0
end_of_word [] e = refl
end_of_word (b ∷ rest) e =
    let ends : ends_bare b ≡ true = rw e refl in
    rw ends refl

bare_again : (name rest : List ℕ) → AllByRecursion (λ b. ends_bare b ≡ false) name → ends_word rest ≡ true → bare_at (name ++ rest) ≡ Some (Bare name, rest)
bare_again name rest each e =
    let place : position_or_len ends_bare (name ++ rest) ≡ length name = stops_at ends_bare name rest each (end_of_word rest e) in
    cut (position_or_len ends_bare (name ++ rest)) place
  where
    cut : (k : ℕ) → k ≡ length name → cond {A = Option (Word × List ℕ)} (ends_word (drop k (name ++ rest))) (Some (Bare (take k (name ++ rest)), drop k (name ++ rest))) None ≡ Some (Bare name, rest)
    cut k is = rw (is, take-append_seam name rest, drop-append_seam name rest, e) refl

no_words : (bytes : List ℕ) → AreBlanks bytes → AllByRecursion (λ b. not (is_blank b) ≡ false) bytes
no_words [] blanks = tt
no_words (b ∷ bytes) blanks = (ap not blanks.0, no_words bytes blanks.1)

pub past_blanks : (gap bytes : List ℕ) → AreBlanks gap → position_or_len (λ b. not (is_blank b)) bytes ≡ 0 → after_blanks (gap ++ bytes) ≡ bytes
past_blanks gap bytes blanks e = cut (position_or_len (λ b. not (is_blank b)) (gap ++ bytes)) (stops_at (λ b. not (is_blank b)) gap bytes (no_words gap blanks) e)
  where
    cut : (k : ℕ) → k ≡ length gap → drop k (gap ++ bytes) ≡ bytes
    cut k is = rw is (drop-append_seam gap bytes)

pub blanks_end : (bytes : List ℕ) → AreBlanks bytes → after_blanks bytes ≡ []
blanks_end bytes blanks = ap after_blanks (sym (append-nil bytes)) ∙ past_blanks bytes [] blanks refl

unquoted : (q : Bool) (x y z : Option (Word × List ℕ)) → q ≡ false → y ≡ z → cond q x y ≡ z
unquoted true x y z e f = absurd cc
unquoted false x y z e f = f

word_again : (bytes : List ℕ) (word : Word) (rest : List ℕ) → SpellsWord bytes word → ends_word rest ≡ true → first_word (bytes ++ rest) ≡ Some (word, rest)
word_again bytes (Bare []) rest s e = absurd (omega (arith, s.1))
word_again bytes (Bare (b ∷ name)) rest s e =
    let no_quote : eqb b 34 ≡ false = or_right (is_blank b) (eqb b 34) s.2.0 in
    ap (λ (bs : List ℕ). first_word (bs ++ rest)) s.0 ∙ unquoted (eqb b 34) (quoted_at (name ++ rest)) (bare_at (b ∷ (name ++ rest))) (Some (Bare (b ∷ name), rest)) no_quote (bare_again (b ∷ name) rest s.2 e)
word_again bytes (Quoted text) rest s e =
    ap (λ (bs : List ℕ). first_word (bs ++ rest)) s.1 ∙ ap quoted_at (append_assoc s.0 (34 ∷ []) rest) ∙ quoted_again s.0 text rest s.2 e

pub no_gap : (bytes : List ℕ) (word : Word) (rest : List ℕ) → SpellsWord bytes word → position_or_len (λ b. not (is_blank b)) (bytes ++ rest) ≡ 0
no_gap bytes (Bare []) rest s = absurd (omega (arith, s.1))
no_gap bytes (Bare (b ∷ name)) rest s =
    let no_blank : is_blank b ≡ false = or_left (is_blank b) (eqb b 34) s.2.0 in
    ap (λ (bs : List ℕ). position_or_len (λ b. not (is_blank b)) (bs ++ rest)) s.0 ∙ rw no_blank refl
no_gap bytes (Quoted text) rest s = ap (λ (bs : List ℕ). position_or_len (λ b. not (is_blank b)) (bs ++ rest)) s.1

pub next_again : (line gap spelled rest : List ℕ) (word : Word) → line ≡ gap ++ (spelled ++ rest) → AreBlanks gap → SpellsWord spelled word → ends_word rest ≡ true → word_at line ≡ Some (word, rest)
unfolding word_at
next_again line gap spelled rest word whole blanks s e =
    ap (λ (bytes : List ℕ). first_word (after_blanks bytes)) whole ∙ ap first_word (past_blanks gap (spelled ++ rest) blanks (no_gap spelled word rest s)) ∙ word_again spelled word rest s e

no_more : (line : List ℕ) → after_blanks line ≡ [] → word_at line ≡ None
unfolding word_at
no_more line e = ap first_word e

words_again : (line : List ℕ) (words : List Word) → SpellsWords line words → (rest : List ℕ) × (taken word_at line ≡ (words, rest)) × (after_blanks rest ≡ [])
words_again line [] s = (line, taken_none word_at word_short line (no_more line (blanks_end line s)), blanks_end line s)
words_again line (word ∷ words) s =
    let after = words_again s.2 words s.7 in
    (after.0, taken_some word_at word_short line word s.2 (next_again line s.0 s.1 s.2 word s.3 s.4 s.5 s.6) ∙ ap (onto word) after.1, after.2)

all_again : (words : List Word) (rest : List ℕ) → after_blanks rest ≡ [] → all_found (words, rest) ≡ Some words
all_again words rest e = ap (λ (bytes : List ℕ). cond (eqb (length bytes) 0) (Some words) None) e

pub words_only : (line : List ℕ) (words : List Word) → SpellsWords line words → words_of line ≡ Some words
unfolding words_of
words_only line words s =
    let read = words_again line words s in
    ap all_found read.1 ∙ all_again words read.0 read.2
