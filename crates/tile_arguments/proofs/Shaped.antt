-- Which parts that were read are those of a geometry.
use Rattle.std.proofs.Common.{◌≡◌, ℕ, zero, suc, ◌≤◌, Bool, true, false, cond, leb, List, [], ◌∷◌, length, Option, Some, None, Result, Ok, Err, ℤ, pos, neg_ℤ, refl, ap, ◌∙◌, arith}
use Rattle.std.specs.Prelude.{◌&&◌, ◌==◌, codes, option_map, option_and_then, ok_or, unsigned_abs}
use Rattle.std.specs.List.{AllByRecursion, before_first, after_first, list_all, slice_split}
use Rattle.std.specs.Str.Parse.{digits_value}
use Rattle.std.proofs.lemmas.Bool.{leb-true, le-leb, and_parts}
use Rattle.mvt_geometry.specs.Shapes.{Geometry, least_points, IsPlaced, IsPart, IsGeometry}
use Rattle.mvt_geometry.specs.declared.shapes.Point.{Point}
use Rattle.mvt_geometry.specs.declared.shapes.Kind.{Kind}
use Rattle.tile_lines.specs.Answers.{◌>>=◌}
use Rattle.tile_lines.specs.Words.{Word}
use Rattle.tile_lines.specs.declared.parse_error.ParseError.{ParseError}
use Rattle.tile_lines.specs.declared.parse_error.ParseError.TheVariants.{BadGeometryText}
use Rattle.mvt_geometry.specs.Checks.{is_part_count}
use Rattle.mvt_geometry.proofs.Checks.{counted-Decides}
use Rattle.tile_arguments.specs.Arguments.{after_mark, are_digits, number_up_to, signed_by, signed_of, delta_of, each, point_at, point_in, bare_in, point_of, part_of, is_bar, parts_of, are_parts, shaped}

-- ---- coordinates

up_to_le : (most : ℕ) (bytes : List ℕ) (n : ℕ) → number_up_to most bytes ≡ Some n → n ≤ most
unfolding number_up_to
up_to_le most bytes n e = tested (are_digits bytes && leb (digits_value 10 bytes) most) refl e
  where
    tested : (b : Bool) → (are_digits bytes && leb (digits_value 10 bytes) most) ≡ b → cond b (Some (digits_value 10 bytes)) None ≡ Some n → n ≤ most
    tested true is e =
        let same : digits_value 10 bytes ≡ n = cc in
        omega (arith, same, leb-true _ _ (and_parts (are_digits bytes) (leb (digits_value 10 bytes) most) is).1)
    tested false is e = absurd cc

abs_neg : (n : ℕ) → unsigned_abs (neg_ℤ (pos n)) ≡ n
abs_neg zero = refl
abs_neg (suc n) = refl

negative_le : (most : ℕ) (o : Option ℕ) (z : ℤ) → ((n : ℕ) → o ≡ Some n → n ≤ most) → option_map (λ n. neg_ℤ (pos n)) o ≡ Some z → unsigned_abs z ≤ most
negative_le most None z bound e = absurd cc
negative_le most (Some n) z bound e = let same : neg_ℤ (pos n) ≡ z = cc in rw (← same, abs_neg n) (bound n refl)

positive_le : (most : ℕ) (o : Option ℕ) (z : ℤ) → ((n : ℕ) → o ≡ Some n → n ≤ most) → option_map pos o ≡ Some z → unsigned_abs z ≤ most
positive_le most None z bound e = absurd cc
positive_le most (Some n) z bound e = let same : pos n ≡ z = cc in rw (← same) (bound n refl)

signed_le : (most : ℕ) (marked : Option (List ℕ)) (bytes : List ℕ) (z : ℤ) → signed_by most most marked bytes ≡ Some z → unsigned_abs z ≤ most
signed_le most (Some digits) bytes z e = negative_le most (number_up_to most digits) z (up_to_le most digits) e
signed_le most None bytes z e = positive_le most (number_up_to most bytes) z (up_to_le most bytes) e

delta_le : (bytes : List ℕ) (z : ℤ) → delta_of bytes ≡ Some z → unsigned_abs z ≤ 2147483647
unfolding signed_of
delta_le bytes z e = signed_le 2147483647 (after_mark (codes "-") bytes) bytes z e

at_placed : (x y : Option ℤ) (p : Point) → ((z : ℤ) → x ≡ Some z → unsigned_abs z ≤ 2147483647) → ((z : ℤ) → y ≡ Some z → unsigned_abs z ≤ 2147483647) → point_at x y ≡ Some p → IsPlaced p
at_placed None y p along down e = absurd cc
at_placed (Some x) None p along down e = absurd cc
at_placed (Some x) (Some y) p along down e =
    let first : x ≡ p.x = cc in
    let second : y ≡ p.y = cc in
    record { x = omega (arith, ap unsigned_abs first, along x refl); y = omega (arith, ap unsigned_abs second, down y refl) }

in_placed : (bytes : List ℕ) (p : Point) → point_in bytes ≡ Some p → IsPlaced p
unfolding point_in
in_placed bytes p e = at_placed _ _ p (delta_le (before_first (λ b. b == 44) bytes)) (delta_le (after_first (λ b. b == 44) bytes)) e

said_placed : (o : Option (List ℕ)) (p : Point) → ok_or (option_and_then point_in o) BadGeometryText ≡ Ok p → IsPlaced p
said_placed None p e = absurd cc
said_placed (Some bytes) p e = read (point_in bytes) refl e
  where
    read : (o : Option Point) → point_in bytes ≡ o → ok_or o BadGeometryText ≡ Ok p → IsPlaced p
    read None is e = absurd cc
    read (Some q) is e = let same : q ≡ p = cc in in_placed bytes p (is ∙ ap (λ (r : Point). Some r) same)

point_placed : (word : Word) (p : Point) → point_of word ≡ Ok p → IsPlaced p
unfolding point_of
point_placed word p e = said_placed (bare_in word) p e

-- ---- parts

-- what holds of each that is read holds of all
each_all : {A B : Type 0} (f : A → Result B ParseError) (P : B → Type 0) → ((x : A) (y : B) → f x ≡ Ok y → P y) → (xs : List A) (ys : List B) → each f xs ≡ Ok ys → AllByRecursion P ys
unfolding each
each_all f P holds [] [] e = tt
each_all f P holds [] (y ∷ ys) e = absurd cc
each_all {A} {B} f P holds (x ∷ xs) ys e = first (f x) refl (each f xs) (each_all f P holds xs) ys e
  where
    first : (r : Result B ParseError) → f x ≡ r → (rest : Result (List B) ParseError) → ((zs : List B) → rest ≡ Ok zs → AllByRecursion P zs) → (ys : List B) → (r >>= λ y. rest >>= λ zs. Ok (y ∷ zs)) ≡ Ok ys → AllByRecursion P ys
    first (Err fault) is rest others ys e = absurd cc
    first (Ok y) is (Err fault) others ys e = absurd cc
    first (Ok y) is (Ok zs) others [] e = absurd cc
    first (Ok y) is (Ok zs) others (w ∷ ws) e =
        let head : y ≡ w = cc in
        let tail : zs ≡ ws = cc in
        (holds x w (is ∙ ap (λ (b : B). Ok b) head), others ws (ap (λ (bs : List B). Ok bs) tail))

part_placed : (words : List Word) (points : List Point) → part_of words ≡ Ok points → AllByRecursion IsPlaced points
unfolding part_of
part_placed words points e = each_all point_of IsPlaced point_placed words points e

pub parts_placed : (words : List Word) (parts : List (List Point)) → parts_of words ≡ Ok parts → AllByRecursion (AllByRecursion IsPlaced) parts
unfolding parts_of
parts_placed words parts e = each_all part_of (AllByRecursion IsPlaced) part_placed (slice_split is_bar words) parts e

-- ---- geometries

enough_each : (kind : Kind) (parts : List (List Point)) → list_all (λ points. leb (least_points kind) (length points)) parts ≡ true → AllByRecursion (AllByRecursion IsPlaced) parts → AllByRecursion (IsPart kind) parts
enough_each kind [] e placed = tt
enough_each kind (points ∷ parts) e placed =
    let both = and_parts (leb (least_points kind) (length points)) (list_all (λ points. leb (least_points kind) (length points)) parts) e in
    (record { enough = leb-true _ _ both.0; placed = placed.0 }, enough_each kind parts both.1 placed.1)

pub each_enough : (kind : Kind) (parts : List (List Point)) → AllByRecursion (IsPart kind) parts → list_all (λ points. leb (least_points kind) (length points)) parts ≡ true
each_enough kind [] all = refl
each_enough kind (points ∷ parts) all = rw (le-leb _ _ all.0.enough, each_enough kind parts all.1) refl

is_shaped : (kind : Kind) (parts : List (List Point)) → AllByRecursion (AllByRecursion IsPlaced) parts → are_parts kind parts ≡ true → IsGeometry (record { kind = kind; parts = parts })
is_shaped kind parts placed e =
    let both = and_parts (is_part_count kind (length parts)) (list_all (λ points. leb (least_points kind) (length points)) parts) e in
    record { counted = (counted-Decides kind (length parts)).0 both.0; parts = enough_each kind parts both.1 placed }

has_shape : (kind : Kind) (parts : List (List Point)) → IsGeometry (record { kind = kind; parts = parts }) → are_parts kind parts ≡ true
has_shape kind parts valid = rw ((counted-Decides kind (length parts)).1 valid.counted, each_enough kind parts valid.parts) refl

pub shaped_ok : (kind : Kind) (parts : List (List Point)) → IsGeometry (record { kind = kind; parts = parts }) → shaped kind parts ≡ Ok (record { kind = kind; parts = parts })
unfolding shaped
shaped_ok kind parts valid = rw (has_shape kind parts valid) refl

pub shaped_err : (kind : Kind) (parts : List (List Point)) → AllByRecursion (AllByRecursion IsPlaced) parts → (IsGeometry (record { kind = kind; parts = parts }) → ⊥) → shaped kind parts ≡ Err BadGeometryText
unfolding shaped
shaped_err kind parts placed never = tested (are_parts kind parts) refl
  where
    tested : (b : Bool) → are_parts kind parts ≡ b → cond {A = Result Geometry ParseError} b (Ok (record { kind = kind; parts = parts })) (Err BadGeometryText) ≡ Err BadGeometryText
    tested true is = absurd (never (is_shaped kind parts placed is))
    tested false is = refl
