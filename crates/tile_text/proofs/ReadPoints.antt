-- The words of a geometry are read as that geometry.
use Rattle.std.proofs.Common.{◌≡◌, ℕ, ◌+◌, ◌≤◌, ◌<◌, ◌^◌, true, false, eqb, leb, List, [], ◌∷◌, ◌++◌, map, length, take, drop, Option, Some, Result, Ok, refl, sym, ap, ◌∙◌, append_assoc, arith, ℤ, pos, negsuc}
use Rattle.std.specs.Prelude.{codes, ok_or, FitsSigned, unsigned_abs}
use Rattle.std.specs.Int.{w64}
use Rattle.std.specs.Fmt.{signed_decimal}
use Rattle.std.specs.List.{All, AllByRecursion, position_or_len, before_first, after_first, slice_split, list_all}
use Rattle.std.specs.Str.{bytes_eq}
use Rattle.std.proofs.lemmas.Bool.{le-leb}
use Rattle.std.proofs.lemmas.Bool.Decides.{nat_tests}
use Rattle.std.proofs.lemmas.List.{take_at, drop_at, length_push, append-nil, map-append, length-append}
use Rattle.std.proofs.lemmas.List.Elements.{All-from_recursion}
use Rattle.std.proofs.lemmas.List.Splits.{slice_split_none, slice_split_at}
use Rattle.mvt_document.proofs.EachItem.{all_by, all_joined, all_of_map}
use Rattle.mvt_geometry.specs.Shapes.{Geometry, IsGeometry, IsPart, IsPartCount, least_points}
use Rattle.mvt_geometry.specs.declared.shapes.Point.{Point}
use Rattle.mvt_geometry.specs.declared.shapes.Kind.{Kind}
use Rattle.mvt_geometry.specs.declared.shapes.Kind.TheVariants.{Dots, Lines, Areas}
use Rattle.tile_lines.specs.Words.{Word, Bare, ends_bare, ends_word}
use Rattle.tile_lines.specs.Answers.{◌>>=◌}
use Rattle.tile_lines.specs.Spelling.{SpellsWord, SpellsWords}
use Rattle.tile_lines.specs.declared.parse_error.ParseError.{ParseError}
use Rattle.tile_lines.specs.declared.parse_error.ParseError.TheVariants.{BadGeometryText}
use Rattle.mvt_geometry.proofs.Checks.{counted-Decides}
use Rattle.tile_arguments.specs.Arguments.{delta_of, each, point_at, point_in, point_of, part_of, is_bar, parts_of, kind_word, kind_of, shaped, geometry_of}
use Rattle.tile_arguments.proofs.Shaped.{each_enough}
use Rattle.tile_text.specs.Texts.{point_form, part_words, geometry_words}
use Rattle.tile_text.specs.TextStands.{with_leading_spaces}
use Rattle.tile_text.specs.ReadBack.{IsNear, IsReadAsGeometry}
use Rattle.tile_text.proofs.Digits.{signed_all}
use Rattle.tile_text.proofs.Lists.{words_all}
use Rattle.tile_text.proofs.Readable.{geometry_form_readable}
use Rattle.tile_text.proofs.Numerals.{Lies, signed_reads}
use Rattle.tile_text.proofs.ReadAgain.{bare_spelled, digit_is_bare, signed_long}

-- ---- coordinates

near_fits : (z : ℤ) → unsigned_abs z < 2 ^ 31 → FitsSigned w64 z
near_fits (pos n) lt = omega (arith, lt)
near_fits (negsuc n) lt = omega (arith, lt)

near_lies : (z : ℤ) → unsigned_abs z < 2 ^ 31 → Lies 2147483647 2147483647 z
near_lies (pos n) lt = omega (arith, lt)
near_lies (negsuc n) lt = omega (arith, lt)

delta_reads : (z : ℤ) → unsigned_abs z < 2 ^ 31 → delta_of (signed_decimal z) ≡ Some z
delta_reads z lt = signed_reads 2147483647 2147483647 z (omega arith) (omega arith) (near_lies z lt)

-- ---- a point: what comes before the comma, and after it

place_of_comma : (xs ys : List ℕ) → AllByRecursion (λ b. eqb b 44 ≡ false) xs → position_or_len (λ b. eqb b 44) (xs ++ 44 ∷ ys) ≡ length xs
place_of_comma [] ys h = refl
place_of_comma (x ∷ xs) ys h =
    let more = place_of_comma xs ys h.1 in
    rw (h.0) (omega (arith, more))

before_comma : (xs ys : List ℕ) → AllByRecursion (λ b. eqb b 44 ≡ false) xs → before_first (λ b. eqb b 44) (xs ++ 44 ∷ ys) ≡ xs
before_comma xs ys h =
    ap (λ (n : ℕ). take n (xs ++ 44 ∷ ys)) (place_of_comma xs ys h) ∙ take_at xs (44 ∷ ys) (length xs) refl

after_comma : (xs ys : List ℕ) → AllByRecursion (λ b. eqb b 44 ≡ false) xs → after_first (λ b. eqb b 44) (xs ++ 44 ∷ ys) ≡ ys
after_comma xs ys h =
    ap (λ (n : ℕ). drop (n + 1) (xs ++ 44 ∷ ys)) (place_of_comma xs ys h) ∙ ap (drop (length xs + 1)) (sym (append_assoc xs (44 ∷ []) ys))
    ∙ drop_at (xs ++ 44 ∷ []) ys (length xs + 1) (length_push xs 44)

no_comma : (d : ℕ) → d < 10 → eqb (48 + d) 44 ≡ false
no_comma d lt = grind (arith, nat_tests)

point_reads : (p : Point) → IsNear p → point_of (Bare (point_form p)) ≡ Ok p
unfolding point_of point_in
point_reads p near =
    let comma = signed_all (λ b. eqb b 44 ≡ false) refl no_comma p.x (near_fits p.x near.x) in
    let x = ap delta_of (before_comma (signed_decimal p.x) (signed_decimal p.y) comma) ∙ delta_reads p.x near.x in
    let y = ap delta_of (after_comma (signed_decimal p.x) (signed_decimal p.y) comma) ∙ delta_reads p.y near.y in
    ap (λ (o : Option ℤ). ok_or (point_at o (delta_of (after_first (λ b. eqb b 44) (point_form p)))) BadGeometryText) x
    ∙ ap (λ (o : Option ℤ). ok_or (point_at (Some p.x) o) BadGeometryText) y

-- ---- parts

each_reads : {A B : Type 0} (f : A → Result B ParseError) (g : B → A) (xs : List B) → AllByRecursion (λ x. f (g x) ≡ Ok x) xs → each f (map g xs) ≡ Ok xs
unfolding each
each_reads f g [] h = refl
each_reads {A} {B} f g (x ∷ xs) h =
    ap (λ (r : Result B ParseError). r >>= λ y. each f (map g xs) >>= λ ys. Ok (y ∷ ys)) h.0
    ∙ ap (λ (r : Result (List B) ParseError). r >>= λ ys. Ok (x ∷ ys)) (each_reads f g xs h.1)

-- the words of a part
abbrev part_in_words : List Point → List Word
part_in_words points = map (λ p. Bare (point_form p)) points

part_reads : (points : List Point) → AllByRecursion IsNear points → part_of (part_in_words points) ≡ Ok points
unfolding part_of
part_reads points near = each_reads point_of (λ p. Bare (point_form p)) points (all_by IsNear (λ p. point_of (Bare (point_form p)) ≡ Ok p) point_reads points near)

no_bar_byte : (d : ℕ) → d < 10 → eqb (48 + d) 47 ≡ false
no_bar_byte d lt = grind (arith, nat_tests)

starts_no_bar : (xs ys : List ℕ) → 0 < length xs → AllByRecursion (λ b. eqb b 47 ≡ false) xs → bytes_eq (xs ++ ys) (codes "/") ≡ false
starts_no_bar [] ys lt h = absurd (omega arith)
starts_no_bar (x ∷ xs) ys lt h = rw (h.0) refl

point_is_no_bar : (p : Point) → IsNear p → is_bar (Bare (point_form p)) ≡ false
point_is_no_bar p near =
    let fits = near_fits p.x near.x in
    starts_no_bar (signed_decimal p.x) (44 ∷ signed_decimal p.y) (signed_long p.x fits) (signed_all (λ b. eqb b 47 ≡ false) refl no_bar_byte p.x fits)

no_bars : (points : List Point) → AllByRecursion IsNear points → All (λ w. is_bar w ≡ false) (part_in_words points)
no_bars points near =
    All-from_recursion (λ w. is_bar w ≡ false) (part_in_words points)
    (all_of_map (λ p. Bare (point_form p)) (λ w. is_bar w ≡ false) points (all_by IsNear (λ p. is_bar (Bare (point_form p)) ≡ false) point_is_no_bar points near))

bare_points : (points : List Point) → map Bare (map point_form points) ≡ part_in_words points
bare_points [] = refl
bare_points (p ∷ points) = ap (λ (words : List Word). Bare (point_form p) ∷ words) (bare_points points)

-- the words are cut at the bars
parts_cut : (part : List Point) (parts : List (List Point)) → AllByRecursion IsNear part → AllByRecursion (AllByRecursion IsNear) parts → slice_split is_bar (map Bare (part_words (part ∷ parts))) ≡ map part_in_words (part ∷ parts)
parts_cut part [] near others =
    ap (λ (xs : List (List ℕ)). slice_split is_bar (map Bare xs)) (append-nil (map point_form part)) ∙ ap (slice_split is_bar) (bare_points part)
    ∙ slice_split_none is_bar (part_in_words part) (no_bars part near)
parts_cut part (next ∷ parts) near others =
    let rest : List Word = map Bare (part_words (next ∷ parts)) in
    ap (slice_split is_bar) (map-append Bare (map point_form part) (codes "/" ∷ part_words (next ∷ parts)) ∙ ap (λ (words : List Word). words ++ Bare (codes "/") ∷ rest) (bare_points part))
    ∙ slice_split_at is_bar (part_in_words part) (Bare (codes "/")) rest (no_bars part near) refl
    ∙ ap (λ (cut : List (List Word)). part_in_words part ∷ cut) (parts_cut next parts others.0 others.1)

parts_read : (parts : List (List Point)) → 1 ≤ length parts → AllByRecursion (AllByRecursion IsNear) parts → parts_of (map Bare (part_words parts)) ≡ Ok parts
unfolding parts_of
parts_read [] some near = absurd (omega arith)
parts_read (part ∷ parts) some near =
    ap (each part_of) (parts_cut part parts near.0 near.1)
    ∙ each_reads part_of part_in_words (part ∷ parts) (all_by (AllByRecursion IsNear) (λ points. part_of (part_in_words points) ≡ Ok points) part_reads (part ∷ parts) near)

-- ---- geometries

kind_reads : (kind : Kind) → kind_of (kind_word kind) ≡ Ok kind
unfolding kind_of
kind_reads Dots = refl
kind_reads Lines = refl
kind_reads Areas = refl

some_part : (kind : Kind) (count : ℕ) → IsPartCount kind count → 1 ≤ count
some_part Dots count h = omega (arith, h)
some_part Lines count h = h
some_part Areas count h = h

shape_reads : (g : Geometry) → IsGeometry g → shaped g.kind g.parts ≡ Ok g
unfolding shaped
shape_reads g valid =
    let count = (counted-Decides g.kind (length g.parts)).1 valid.counted in
    let enough = each_enough g.kind g.parts valid.parts in
    rw (count, enough) refl

geometry_reads : (g : Geometry) → IsGeometry g → AllByRecursion (AllByRecursion IsNear) g.parts → geometry_of (map Bare (geometry_words g)) ≡ Ok g
unfolding geometry_of
geometry_reads g valid near =
    let words : List Word = map Bare (part_words g.parts) in
    ap (λ (r : Result Kind ParseError). r >>= λ kind. parts_of words >>= λ parts. shaped kind parts) (kind_reads g.kind)
    ∙ ap (λ (r : Result (List (List Point)) ParseError). r >>= λ parts. shaped g.kind parts) (parts_read g.parts (some_part g.kind (length g.parts) valid.counted) near)
    ∙ shape_reads g valid

-- ---- words on a line

ends : (words : List (List ℕ)) → ends_word (with_leading_spaces words) ≡ true
ends [] = refl
ends (word ∷ words) = refl

spaced_spelled : (words : List (List ℕ)) → AllByRecursion (λ form. SpellsWord form (Bare form)) words → SpellsWords (with_leading_spaces words) (map Bare words)
spaced_spelled [] h = tt
spaced_spelled (word ∷ words) h = (32 ∷ [], word, with_leading_spaces words, refl, (refl, tt), h.0, ends words, spaced_spelled words h.1)

kind_spelled : (kind : Kind) → SpellsWord (kind_word kind) (Bare (kind_word kind))
kind_spelled Dots = bare_spelled (codes "point") (omega arith) refl
kind_spelled Lines = bare_spelled (codes "line") (omega arith) refl
kind_spelled Areas = bare_spelled (codes "polygon") (omega arith) refl

signed_bare : (z : ℤ) → unsigned_abs z < 2 ^ 31 → AllByRecursion (λ b. ends_bare b ≡ false) (signed_decimal z)
signed_bare z lt = signed_all (λ b. ends_bare b ≡ false) refl digit_is_bare z (near_fits z lt)

point_spelled : (p : Point) → IsNear p → SpellsWord (point_form p) (Bare (point_form p))
point_spelled p near =
    (refl, omega (arith, length-append (signed_decimal p.x) (44 ∷ signed_decimal p.y)), all_joined (λ b. ends_bare b ≡ false) (signed_decimal p.x) (44 ∷ signed_decimal p.y) (signed_bare p.x near.x) (refl, signed_bare p.y near.y))

parts_spelled : (parts : List (List Point)) → AllByRecursion (AllByRecursion IsNear) parts → AllByRecursion (λ form. SpellsWord form (Bare form)) (part_words parts)
parts_spelled parts near =
    words_all (λ form. SpellsWord form (Bare form)) (bare_spelled (codes "/") (omega arith) refl) parts
    (all_by (AllByRecursion IsNear) (AllByRecursion (λ p. SpellsWord (point_form p) (Bare (point_form p)))) (all_by IsNear (λ p. SpellsWord (point_form p) (Bare (point_form p))) point_spelled) parts near)

pub geometry_read_back : (g : Geometry) → IsGeometry g → AllByRecursion (AllByRecursion IsNear) g.parts → IsReadAsGeometry g
geometry_read_back g valid near =
    let following = parts_spelled g.parts near in
    record {
      readable = geometry_form_readable g valid;
      spelled = (kind_spelled g.kind, following);
      line = ([], kind_word g.kind, with_leading_spaces (part_words g.parts), refl, tt, kind_spelled g.kind, ends (part_words g.parts), spaced_spelled (part_words g.parts) following);
      read = geometry_reads g valid near;
    }
