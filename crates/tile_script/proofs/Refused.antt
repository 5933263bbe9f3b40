-- Answers that pass the refusal of an argument on.
use Rattle.std.proofs.Common.{◌≡◌, ◌==◌, Bool, false, ◌<◌, ◌≤◌, List, [], ◌∷◌, ◌-◌, length, get_or, take, drop, Result, Ok, Err, refl, inl, inr, arith}
use Rattle.std.proofs.lemmas.List.{take_all}
use Rattle.std.specs.Result.{IsErrAnd}
use Rattle.tile_lines.specs.Answers.{◌>>=◌, Refuses, Gives}
use Rattle.tile_lines.specs.declared.parse_error.ParseError.{ParseError}
use Rattle.tile_lines.specs.declared.words.Word.{Word}

-- an answer that passes on a refusal gives what is refused by it
passed : {X Y : Type 0} (view : X → Y) (answer : Result X ParseError) (refusal : ParseError) (defined : Result Y ParseError) → IsErrAnd answer (λ error. error ≡ refusal) → Refuses refusal defined → Gives view answer defined
passed view (Ok x) refusal defined is refuses = absurd is
passed view (Err error) refusal defined is refuses = rw is refuses

refused_before : {A Y : Type 0} (refusal : ParseError) (first : Result A ParseError) (next : A → Result Y ParseError) → Refuses refusal first → Refuses refusal (first >>= next)
refused_before refusal first next refuses = elim refuses [ inl memory ↦ inl memory | inr e ↦ inr (rw e refl) ]

refused_after : {A Y : Type 0} (refusal : ParseError) (first : Result A ParseError) (x : A) (next : A → Result Y ParseError) → first ≡ Ok x → Refuses refusal (next x) → Refuses refusal (first >>= next)
refused_after refusal first x next is refuses = rw is refuses

-- the same where the first step refuses, or the second, or the third
pub first_refused : {A X Y : Type 0} (view : X → Y) (answer : Result X ParseError) (refusal : ParseError) (first : Result A ParseError) (next : A → Result Y ParseError)
    → IsErrAnd answer (λ error. error ≡ refusal) → Refuses refusal first → Gives view answer (first >>= next)
first_refused view answer refusal first next is refuses = passed view answer refusal (first >>= next) is (refused_before refusal first next refuses)

pub second_refused : {A B X Y : Type 0} (view : X → Y) (answer : Result X ParseError) (refusal : ParseError) (first : Result A ParseError) (x : A) (second : Result B ParseError) (next : A → B → Result Y ParseError)
    → IsErrAnd answer (λ error. error ≡ refusal) → first ≡ Ok x → Refuses refusal second → Gives view answer (first >>= λ x. (second >>= next x))
second_refused view answer refusal first x second next is given refuses =
    passed view answer refusal _ is (refused_after refusal first x (λ x. (second >>= next x)) given (refused_before refusal second (next x) refuses))

pub third_refused : {A B C X Y : Type 0} (view : X → Y) (answer : Result X ParseError) (refusal : ParseError) (first : Result A ParseError) (x : A) (second : Result B ParseError) (y : B) (third : Result C ParseError) (next : A → B → C → Result Y ParseError)
    → IsErrAnd answer (λ error. error ≡ refusal) → first ≡ Ok x → second ≡ Ok y → Refuses refusal third → Gives view answer (first >>= λ x. (second >>= λ y. (third >>= next x y)))
third_refused view answer refusal first x second y third next is given then refuses =
    passed view answer refusal _ is (refused_after refusal first x (λ x. (second >>= λ y. (third >>= next x y))) given (refused_after refusal second y (λ y. (third >>= next x y)) then (refused_before refusal third (next x y) refuses)))

-- ---- what holds of words, from how many they are

pub of_one : (P : List Word → Type 0) (words : List Word) (a : Word) → 1 ≤ length words → length words < 2 → P (get_or words 0 a ∷ []) → P words
of_one P [] a low high p = absurd (omega arith)
of_one P (x ∷ []) a low high p = p
of_one P (x ∷ y ∷ more) a low high p = absurd (omega arith)

pub of_two : (P : List Word → Type 0) (words : List Word) (a b : Word) → 2 ≤ length words → length words < 3 → P (get_or words 0 a ∷ get_or words 1 b ∷ []) → P words
of_two P [] a b low high p = absurd (omega arith)
of_two P (x ∷ []) a b low high p = absurd (omega arith)
of_two P (x ∷ y ∷ []) a b low high p = p
of_two P (x ∷ y ∷ z ∷ more) a b low high p = absurd (omega arith)

-- the same where nothing is said of the second
pub of_two_first : (P : List Word → Type 0) (words : List Word) (a : Word) → 2 ≤ length words → length words < 3 → P (get_or words 0 a ∷ get_or words 1 a ∷ []) → P words
of_two_first P words a low high p = of_two P words a a low high p

pub of_three : (P : List Word → Type 0) (words : List Word) (a b d : Word) → 3 ≤ length words → length words < 4 → P (get_or words 0 a ∷ get_or words 1 b ∷ get_or words 2 d ∷ []) → P words
of_three P [] a b d low high p = absurd (omega arith)
of_three P (x ∷ []) a b d low high p = absurd (omega arith)
of_three P (x ∷ y ∷ []) a b d low high p = absurd (omega arith)
of_three P (x ∷ y ∷ z ∷ []) a b d low high p = p
of_three P (x ∷ y ∷ z ∷ w ∷ more) a b d low high p = absurd (omega arith)

-- the same where nothing is said of the third, or of the second either
pub of_three_two : (P : List Word → Type 0) (words : List Word) (a b : Word) → 3 ≤ length words → length words < 4 → P (get_or words 0 a ∷ get_or words 1 b ∷ get_or words 2 b ∷ []) → P words
of_three_two P words a b low high p = of_three P words a b b low high p

pub of_three_first : (P : List Word → Type 0) (words : List Word) (a : Word) → 3 ≤ length words → length words < 4 → P (get_or words 0 a ∷ get_or words 1 a ∷ get_or words 2 a ∷ []) → P words
of_three_first P words a low high p = of_three P words a a a low high p

pub of_four : (P : List Word → Type 0) (words : List Word) (a b d e : Word) → 4 ≤ length words → length words < 5 → P (get_or words 0 a ∷ get_or words 1 b ∷ get_or words 2 d ∷ get_or words 3 e ∷ []) → P words
of_four P [] a b d e low high p = absurd (omega arith)
of_four P (x ∷ []) a b d e low high p = absurd (omega arith)
of_four P (x ∷ y ∷ []) a b d e low high p = absurd (omega arith)
of_four P (x ∷ y ∷ z ∷ []) a b d e low high p = absurd (omega arith)
of_four P (x ∷ y ∷ z ∷ w ∷ []) a b d e low high p = p
of_four P (x ∷ y ∷ z ∷ w ∷ v ∷ more) a b d e low high p = absurd (omega arith)

-- the same where nothing is said of the last, or of the last two
pub of_four_three : (P : List Word → Type 0) (words : List Word) (a b d : Word) → 4 ≤ length words → length words < 5 → P (get_or words 0 a ∷ get_or words 1 b ∷ get_or words 2 d ∷ get_or words 3 d ∷ []) → P words
of_four_three P words a b d low high p = of_four P words a b d d low high p

pub of_four_two : (P : List Word → Type 0) (words : List Word) (a b : Word) → 4 ≤ length words → length words < 5 → P (get_or words 0 a ∷ get_or words 1 b ∷ get_or words 2 b ∷ get_or words 3 b ∷ []) → P words
of_four_two P words a b low high p = of_four P words a b b b low high p

-- the words after the second
abbrev rest : List Word → List Word
rest words = take (length words - 2) (drop 2 words)

rest_is : (x y : Word) (more : List Word) → rest (x ∷ y ∷ more) ≡ more
rest_is x y more = take_all (length (x ∷ y ∷ more) - 2) more (omega arith)

pub of_two_and_more : (P : List Word → Type 0) (words : List Word) (a b : Word) (none : Bool) → 2 ≤ length words → none ≡ (length (rest words) == 0) → none ≡ false → ((d : Word) (more : List Word) → rest words ≡ d ∷ more → P (get_or words 0 a ∷ get_or words 1 b ∷ d ∷ more)) → P words
of_two_and_more P [] a b none low is other p = absurd (omega arith)
of_two_and_more P (x ∷ []) a b none low is other p = absurd (omega arith)
of_two_and_more P (x ∷ y ∷ []) a b none low is other p = absurd cc
of_two_and_more P (x ∷ y ∷ z ∷ more) a b none low is other p = p z more (rest_is x y (z ∷ more))

-- the same where nothing is said of the second
pub of_first_and_more : (P : List Word → Type 0) (words : List Word) (a : Word) (none : Bool) → 2 ≤ length words → none ≡ (length (rest words) == 0) → none ≡ false → ((d : Word) (more : List Word) → rest words ≡ d ∷ more → P (get_or words 0 a ∷ get_or words 1 a ∷ d ∷ more)) → P words
of_first_and_more P words a none low is other p = of_two_and_more P words a a none low is other p
