-- Lists that are read as a whole where a test of each item says so, and otherwise refused for one reason.
use Rattle.std.proofs.Common.{◌≡◌, ◌≢◌, Bool, true, false, cond, List, [], ◌∷◌, map, Option, Some, None, Result, Ok, Err, refl, sym, ap, ◌∙◌}
use Rattle.std.specs.Prelude.{◌&&◌, ◌||◌, is_ok, ok_or, option_and_then}
use Rattle.std.specs.List.{list_all, slice_split, onto_first}
use Rattle.mvt_meaning.proofs.Others.{Other}
use Rattle.tile_lines.specs.Answers.{◌>>=◌}
use Rattle.tile_lines.specs.Words.{Word}
use Rattle.tile_lines.specs.WordStands.{word_of}
use Rattle.tile_lines.specs.declared.words.Word as program
use Rattle.tile_lines.specs.declared.parse_error.ParseError.{ParseError}
use Rattle.tile_lines.specs.declared.parse_error.ParseError.TheVariants as parse
use Rattle.tile_arguments.specs.Arguments.{bare_in, text_in, text_of, each, texts_of, point_in, point_of, part_of, is_bar, parts_of}

-- where it is refused, it is for this reason
abbrev pub Only : {B : Type 0} → ParseError → Result B ParseError → Type 0
Only reason (Ok y) = Unit {0}
Only reason (Err e) = e ≡ reason

pub only_refused : {B : Type 0} (reason : ParseError) (r : Result B ParseError) → Only reason r → is_ok r ≡ false → r ≡ Err reason
only_refused reason (Ok y) only e = absurd cc
only_refused {B} reason (Err fault) only e = rw only refl

pub only_other : {B : Type 0} (reason : ParseError) (r : Result B ParseError) → reason ≢ parse.NoMemory → Only reason r → Other parse.NoMemory r
only_other reason (Ok y) other only = tt
only_other reason (Err fault) other only = λ memory. other (sym only ∙ memory)

ok_or_only : {B : Type 0} (o : Option B) (reason : ParseError) → Only reason (ok_or o reason)
ok_or_only None reason = refl
ok_or_only (Some y) reason = tt

only_each : {A B : Type 0} (reason : ParseError) (f : A → Result B ParseError) → ((x : A) → Only reason (f x)) → (xs : List A) → Only reason (each f xs)
unfolding each
only_each reason f only [] = tt
only_each {A} {B} reason f only (x ∷ xs) = next (f x) (only x) (each f xs) (only_each reason f only xs)
  where
    next : (r : Result B ParseError) → Only reason r → (rest : Result (List B) ParseError) → Only reason rest → Only reason (r >>= λ y. rest >>= λ ys. Ok (y ∷ ys))
    next (Ok y) first (Ok ys) others = tt
    next (Ok y) first (Err fault) others = others
    next (Err fault) first rest others = first

-- all are read where each is
all_ok : {A B : Type 0} (f : A → Result B ParseError) (xs : List A) → is_ok (each f xs) ≡ list_all (λ x. is_ok (f x)) xs
unfolding each
all_ok f [] = refl
all_ok {A} {B} f (x ∷ xs) = next (f x) (each f xs) (all_ok f xs)
  where
    next : (r : Result B ParseError) (rest : Result (List B) ParseError) → is_ok rest ≡ list_all (λ y. is_ok (f y)) xs → is_ok (r >>= λ y. rest >>= λ ys. Ok (y ∷ ys)) ≡ (is_ok r && list_all (λ y. is_ok (f y)) xs)
    next (Err fault) rest e = refl
    next (Ok y) (Ok ys) e = e
    next (Ok y) (Err fault) e = e

all-map : {A B : Type 0} (p : B → Bool) (g : A → B) (xs : List A) → list_all p (map g xs) ≡ list_all (λ x. p (g x)) xs
all-map p g [] = refl
all-map p g (x ∷ xs) = ap (λ (rest : Bool). p (g x) && rest) (all-map p g xs)

all_same : {A : Type 0} (p q : A → Bool) → ((x : A) → p x ≡ q x) → (xs : List A) → list_all p xs ≡ list_all q xs
all_same p q same [] = refl
all_same p q same (x ∷ xs) = rw (same x, all_same p q same xs) refl

-- ---- texts

pub texts_only : (words : List Word) → Only parse.BadArguments (texts_of words)
unfolding texts_of text_of
texts_only words = only_each parse.BadArguments text_of (λ word. ok_or_only (text_in word) parse.BadArguments) words

pub texts_said : (words : List program.Word) → is_ok (texts_of (map word_of words)) ≡ list_all (λ word. is_ok (text_of (word_of word))) words
unfolding texts_of
texts_said words = all_ok text_of (map word_of words) ∙ all-map (λ word. is_ok (text_of word)) word_of words

-- ---- points, in parts

point_only : (word : Word) → Only parse.BadGeometryText (point_of word)
unfolding point_of
point_only word = ok_or_only (option_and_then point_in (bare_in word)) parse.BadGeometryText

part_only : (words : List Word) → Only parse.BadGeometryText (part_of words)
unfolding part_of
part_only words = only_each parse.BadGeometryText point_of point_only words

pub parts_only : (words : List Word) → Only parse.BadGeometryText (parts_of words)
unfolding parts_of
parts_only words = only_each parse.BadGeometryText part_of part_only (slice_split is_bar words)

part_tested : (words : List Word) → is_ok (part_of words) ≡ list_all (λ word. is_ok (point_of word)) words
unfolding part_of
part_tested words = all_ok point_of words

one_more : (a b c rest : Bool) → (b && c) ≡ rest → ((a && b) && c) ≡ (a && rest)
one_more true b c rest e = e
one_more false b c rest e = refl

-- what holds of each part holds of each item that does not end one
all_split : {A : Type 0} (ends p : A → Bool) (xs : List A) → list_all (list_all p) (slice_split ends xs) ≡ list_all (λ x. ends x || p x) xs
all_split ends p [] = refl
all_split {A} ends p (x ∷ xs) = next (ends x) (slice_split ends xs) (all_split ends p xs)
  where
    next : (q : Bool) (parts : List (List A)) → list_all (list_all p) parts ≡ list_all (λ y. ends y || p y) xs → list_all (list_all p) (cond q ([] ∷ parts) (onto_first x parts)) ≡ ((q || p x) && list_all (λ y. ends y || p y) xs)
    next true parts e = e
    next false [] e = one_more (p x) true true _ e
    next false (part ∷ parts) e = one_more (p x) (list_all p part) (list_all (list_all p) parts) _ e

pub parts_said : (words : List program.Word) → is_ok (parts_of (map word_of words)) ≡ list_all (λ word. is_bar (word_of word) || is_ok (point_of (word_of word))) words
unfolding parts_of
parts_said words =
    all_ok part_of (slice_split is_bar (map word_of words))
    ∙ all_same (λ group. is_ok (part_of group)) (list_all (λ word. is_ok (point_of word))) part_tested (slice_split is_bar (map word_of words))
    ∙ all_split is_bar (λ word. is_ok (point_of word)) (map word_of words)
    ∙ all-map (λ word. is_bar word || is_ok (point_of word)) word_of words
