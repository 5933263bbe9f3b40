-- Forms that are written piece by piece.
use Rattle.std.proofs.Common.{◌≡◌, ℕ, suc, ◌+◌, ◌-◌, ◌<◌, ◌≤◌, ◌/◌, ◌%◌, Bool, true, false, cond, not, List, [], ◌∷◌, ◌++◌, length, map, take, drop, get_or, refl, sym, ap, subst, ◌∙◌, append_assoc, arith}
use Rattle.std.specs.Prelude.{slice_index, codes, Result, Ok, Err, OnErr}
use Rattle.std.specs.Char.{is_ascii_control}
use Rattle.std.specs.Fmt.{signed_decimal}
use Rattle.std.specs.List.{flat_map, position_or_len}
use Rattle.std.proofs.lemmas.List.Sums.{prefix_len_stops}
use Rattle.std.proofs.lemmas.List.{append-nil, nil_from_length, take_all, take_more, take-append-drop, drop_more, length-drop, get_or-drop, flat_map_more}
use Rattle.std.proofs.lemmas.List.Concat.{flat_map-append}
use Rattle.std.proofs.lemmas.List.Folds.{flat_map-map}
use Rattle.std.proofs.lemmas.Bool.{not-false, or_parts}
use Rattle.hex.specs.Hex.{encode_with, encode_lower, lower_digits}
use Rattle.tile_text.specs.Extends.{Extends}
use Rattle.tile_text.specs.Texts.{is_mark, is_escaped, quoted_byte, quoted, raw_form, point_form, part_words}
use Rattle.tile_text.specs.TextStands.{raw_word, with_leading_spaces, other_part}
use Rattle.mvt_geometry.specs.Stands.{points_of}
use Rattle.mvt_geometry.specs.declared.shapes.Part.{Part}
use Rattle.mvt_geometry.specs.declared.shapes.Point.{Point}

-- ---- what stays at the front

pub extends_more : (a b c : List ℕ) → Extends a b → Extends b c → Extends a c
extends_more a b c h k = record { added = h.added ++ k.added; whole = k.whole ∙ ap (λ (xs : List ℕ). xs ++ k.added) h.whole ∙ append_assoc a h.added k.added }

-- ---- a line that is a prefix of what it is to become: of `line` with a whole form after it

-- what holds anyway holds after an `Err`
pub on_err : {T E P : Type 0} (r : Result T E) → P → OnErr r P
on_err (Ok x) p = tt
on_err (Err e) p = p

-- a prefix of the first piece was added
pub first_begun : (line new front back form : List ℕ) → front ++ back ≡ form → Extends new (line ++ front) → Extends new (line ++ form)
first_begun line new front back form e begun = record {
  added = begun.added ++ back;
  whole = ap (λ (xs : List ℕ). line ++ xs) (sym e) ∙ sym (append_assoc line front back) ∙ ap (λ (xs : List ℕ). xs ++ back) begun.whole ∙ append_assoc new begun.added back;
}

-- the first piece was added, and then a prefix of the other one
pub next_begun : (line written new front back form : List ℕ) → front ++ back ≡ form → written ≡ line ++ front → Extends new (written ++ back) → Extends new (line ++ form)
next_begun line written new front back form e is begun = record {
  added = begun.added;
  whole = ap (λ (xs : List ℕ). line ++ xs) (sym e) ∙ sym (append_assoc line front back) ∙ ap (λ (xs : List ℕ). xs ++ back) (sym is) ∙ begun.whole;
}

-- the first piece was added, and then the other one
pub next_written : (line written new front back form : List ℕ) → front ++ back ≡ form → written ≡ line ++ front → new ≡ written ++ back → new ≡ line ++ form
next_written line written new front back form e is added =
    added ∙ ap (λ (xs : List ℕ). xs ++ back) is ∙ append_assoc line front back ∙ ap (λ (xs : List ℕ). line ++ xs) e

-- ---- hexadecimal digits

pub encode_with-append : (t xs ys : List ℕ) → encode_with t (xs ++ ys) ≡ encode_with t xs ++ encode_with t ys
unfolding encode_with
encode_with-append t [] ys = refl
encode_with-append t (b ∷ xs) ys = ap (λ (s : List ℕ). slice_index t (b / 16) ∷ slice_index t (b % 16) ∷ s) (encode_with-append t xs ys)

pub encode_with-nil : (t : List ℕ) → encode_with t [] ≡ []
unfolding encode_with
encode_with-nil t = refl

-- ---- a form that is written piece by piece: after what is written, the form of what is left

pub piece_written : (form : List ℕ → List ℕ) → ((xs ys : List ℕ) → form (xs ++ ys) ≡ form xs ++ form ys) → (line new rest piece after all : List ℕ)
    → rest ≡ piece ++ after → new ≡ line ++ form piece → line ++ form rest ≡ all → new ++ form after ≡ all
piece_written form joins line new rest piece after all e written so_far =
    ap (λ (xs : List ℕ). xs ++ form after) written ∙ append_assoc line (form piece) (form after) ∙ ap (λ (xs : List ℕ). line ++ xs) (sym (joins piece after)) ∙ ap (λ (xs : List ℕ). line ++ form xs) (sym e) ∙ so_far

-- of one more piece a prefix was added
pub piece_begun : (form : List ℕ → List ℕ) → ((xs ys : List ℕ) → form (xs ++ ys) ≡ form xs ++ form ys) → (line new rest piece after all : List ℕ)
    → rest ≡ piece ++ after → line ++ form rest ≡ all → Extends new (line ++ form piece) → Extends new all
piece_begun form joins line new rest piece after all e so_far begun =
    subst (Extends new) so_far (first_begun line new (form piece) (form after) (form rest) (sym (joins piece after) ∙ ap form (sym e)) begun)

pub all_written : (form : List ℕ → List ℕ) → form [] ≡ [] → (line rest all : List ℕ) → length rest ≡ 0 → line ++ form rest ≡ all → line ≡ all
all_written form none line rest all e so_far =
    sym (append-nil line) ∙ ap (λ (xs : List ℕ). line ++ xs) (sym none) ∙ ap (λ (xs : List ℕ). line ++ form xs) (sym (nil_from_length rest e)) ∙ so_far

-- ---- items

-- after what is written of the first items, what is written of one more
pub one_more : {X : Type 0} (form : X → List ℕ) (line so_far new : List ℕ) (items : List X) (i : ℕ) (d : X) → i < length items
    → so_far ≡ line ++ flat_map form (take i items) → new ≡ so_far ++ form (get_or items i d) → new ≡ line ++ flat_map form (take (i + 1) items)
one_more form line so_far new items i d low written added =
    added ∙ ap (λ (xs : List ℕ). xs ++ form (get_or items i d)) written ∙ flat_map_more form line (take i items) (get_or items i d) ∙ ap (λ xs. line ++ flat_map form xs) (sym (take_more items i d low))

-- what is written of the first items, and then of the others
items_split : {X : Type 0} (form : X → List ℕ) (items : List X) (i : ℕ) → flat_map form (take i items) ++ flat_map form (drop i items) ≡ flat_map form items
items_split form items i = sym (flat_map-append form (take i items) (drop i items)) ∙ ap (flat_map form) (take-append-drop i items)

-- the first items were added, and no more
items_begun : {X : Type 0} (form : X → List ℕ) (line new : List ℕ) (items : List X) (i : ℕ) → new ≡ line ++ flat_map form (take i items) → Extends new (line ++ flat_map form items)
items_begun form line new items i written =
    next_begun line new new (flat_map form (take i items)) (flat_map form (drop i items)) (flat_map form items) (items_split form items i) written (record { added = flat_map form (drop i items); whole = refl })

-- the first items were added, and then a prefix of the form of one more
pub item_begun : {X : Type 0} (form : X → List ℕ) (line so_far new : List ℕ) (items : List X) (i : ℕ) (d : X) → i < length items
    → so_far ≡ line ++ flat_map form (take i items) → Extends new (so_far ++ form (get_or items i d)) → Extends new (line ++ flat_map form items)
item_begun form line so_far new items i d low written begun =
    let more : flat_map form (drop i items) ≡ form (get_or items i d) ++ flat_map form (drop (i + 1) items) = ap (flat_map form) (drop_more items i d low) in
    next_begun line so_far new (flat_map form (take i items)) (flat_map form (drop i items)) (flat_map form items) (items_split form items i) written
    (first_begun so_far new (form (get_or items i d)) (flat_map form (drop (i + 1) items)) (flat_map form (drop i items)) (sym more) begun)

-- after what is written of the first points, each after a space, what is written of one more
pub one_more_point : (line so_far spaced new : List ℕ) (points : List Point) (i : ℕ) (d : Point) → i < length points
    → so_far ≡ line ++ with_leading_spaces (map point_form (take i points)) → spaced ≡ so_far ++ codes " " → new ≡ spaced ++ point_form (get_or points i d)
    → new ≡ line ++ with_leading_spaces (map point_form (take (i + 1) points))
one_more_point line so_far spaced new points i d low written space added =
    one_more (λ (point : Point). codes " " ++ point_form point) line so_far new points i d low
    (written ∙ ap (λ (xs : List ℕ). line ++ xs) (flat_map-map (λ (word : List ℕ). codes " " ++ word) point_form (take i points)))
    (added ∙ ap (λ (xs : List ℕ). xs ++ point_form (get_or points i d)) space ∙ append_assoc so_far (codes " ") (point_form (get_or points i d)))
    ∙ ap (λ (xs : List ℕ). line ++ xs) (sym (flat_map-map (λ (word : List ℕ). codes " " ++ word) point_form (take (i + 1) points)))

-- what is written of points, each after a space
abbrev spaced : Point → List ℕ
spaced point = codes " " ++ point_form point

spaced_form : (points : List Point) → with_leading_spaces (map point_form points) ≡ flat_map spaced points
spaced_form points = flat_map-map (λ (word : List ℕ). codes " " ++ word) point_form points

-- the first points were added, and no more
pub points_begun : (line new : List ℕ) (points : List Point) (i : ℕ) → new ≡ line ++ with_leading_spaces (map point_form (take i points)) → Extends new (line ++ with_leading_spaces (map point_form points))
points_begun line new points i written =
    subst (λ (form : List ℕ). Extends new (line ++ form)) (sym (spaced_form points)) (items_begun spaced line new points i (written ∙ ap (λ (xs : List ℕ). line ++ xs) (spaced_form (take i points))))

-- the first points were added, a space, and then a prefix of one more
pub point_begun : (line so_far added new : List ℕ) (points : List Point) (i : ℕ) (d : Point) → i < length points
    → so_far ≡ line ++ with_leading_spaces (map point_form (take i points)) → added ≡ so_far ++ codes " " → Extends new (added ++ point_form (get_or points i d))
    → Extends new (line ++ with_leading_spaces (map point_form points))
point_begun line so_far added new points i d low written space begun =
    subst (λ (form : List ℕ). Extends new (line ++ form)) (sym (spaced_form points))
    (item_begun spaced line so_far new points i d low (written ∙ ap (λ (xs : List ℕ). line ++ xs) (spaced_form (take i points)))
    (next_begun so_far added new (codes " ") (point_form (get_or points i d)) (spaced (get_or points i d)) refl space begun))

-- ---- a point

-- of its first coordinate a prefix was added, or the whole
pub x_begun : (line new : List ℕ) (point : Point) → Extends new (line ++ signed_decimal point.x) → Extends new (line ++ point_form point)
x_begun line new point = first_begun line new (signed_decimal point.x) (44 ∷ signed_decimal point.y) (point_form point) refl

pub x_written : (line new : List ℕ) (point : Point) → new ≡ line ++ signed_decimal point.x → Extends new (line ++ point_form point)
x_written line new point is =
    next_begun line new new (signed_decimal point.x) (44 ∷ signed_decimal point.y) (point_form point) refl is (record { added = 44 ∷ signed_decimal point.y; whole = refl })

-- its first coordinate was added, the comma, and then the other one, or a prefix of it
module _ (line first comma new : List ℕ) (point : Point) (is : first ≡ line ++ signed_decimal point.x) (added : comma ≡ first ++ 44 ∷ []) where
  joined : (signed_decimal point.x ++ 44 ∷ []) ++ signed_decimal point.y ≡ point_form point
  joined = append_assoc (signed_decimal point.x) (44 ∷ []) (signed_decimal point.y)

  before : comma ≡ line ++ (signed_decimal point.x ++ 44 ∷ [])
  before = next_written line first comma (signed_decimal point.x) (44 ∷ []) (signed_decimal point.x ++ 44 ∷ []) refl is added

  pub point_written : new ≡ comma ++ signed_decimal point.y → new ≡ line ++ point_form point
  point_written = next_written line comma new (signed_decimal point.x ++ 44 ∷ []) (signed_decimal point.y) (point_form point) joined before

  pub point_begins : Extends new (comma ++ signed_decimal point.y) → Extends new (line ++ point_form point)
  point_begins = next_begun line comma new (signed_decimal point.x ++ 44 ∷ []) (signed_decimal point.y) (point_form point) joined before

-- ---- bytes that stand for themselves

-- the bytes before the first that is escaped are their own form
abbrev StandsAlone : List ℕ → ℕ → Type 0
StandsAlone bytes n = flat_map quoted_byte bytes ≡ take n bytes ++ flat_map quoted_byte (drop n bytes)

pub plain_form : (b : ℕ) → is_escaped b ≡ false → quoted_byte b ≡ b ∷ []
plain_form b e =
    let parts = or_parts (is_mark b) (is_ascii_control b) e in
    rw (parts.0, parts.1) refl

plain_first : (b : ℕ) (bytes : List ℕ) (n : ℕ) (escaped : Bool) → is_escaped b ≡ escaped → StandsAlone bytes n → StandsAlone (b ∷ bytes) (cond (not (is_escaped b)) (1 + n) 0)
plain_first b bytes n true e more = rw e refl
plain_first b bytes n false e more =
    let one : 1 + n ≡ suc n = omega arith in
    let alone = plain_form b e in
    rw (e, one, alone) (ap (λ (xs : List ℕ). b ∷ xs) more)

pub plain_front : (bytes : List ℕ) → StandsAlone bytes (position_or_len is_escaped bytes)
plain_front [] = refl
plain_front (b ∷ bytes) = plain_first b bytes (position_or_len is_escaped bytes) (is_escaped b) refl (plain_front bytes)

pub front_written : (line new bytes front following : List ℕ) (n : ℕ) → n ≡ position_or_len is_escaped bytes → front ≡ take n bytes → following ≡ drop n bytes → new ≡ line ++ front
    → new ++ flat_map quoted_byte following ≡ line ++ flat_map quoted_byte bytes
front_written line new bytes front following n place is_front is_after written =
    let whole : flat_map quoted_byte bytes ≡ take n bytes ++ flat_map quoted_byte (drop n bytes) = rw place (plain_front bytes) in
    rw (written, is_front, is_after, whole) (append_assoc line (take n bytes) (flat_map quoted_byte (drop n bytes)))

-- a list that is not empty: its first element, and what follows it
pub first_and_rest : {X : Type 0} (xs : List X) (d : X) → 1 ≤ length xs → xs ≡ get_or xs 0 d ∷ take (length xs - 1) (drop 1 xs)
first_and_rest [] d le = absurd (omega arith)
first_and_rest {X} (x ∷ xs) d le =
    let n : suc (length xs) - 1 ≡ length xs = omega arith in
    rw n (ap (λ (ys : List X). x ∷ ys) (sym (take_all (length xs) xs (omega arith))))

-- the first byte after the plain ones is escaped
pub first_is_escaped : (bytes following : List ℕ) (n : ℕ) → n ≡ position_or_len is_escaped bytes → following ≡ drop n bytes → 1 ≤ length following → is_escaped (get_or following 0 0) ≡ true
first_is_escaped bytes following n place is_after some =
    let long : 1 ≤ length (drop n bytes) = rw (← is_after) some in
    let lt : n < length bytes = omega (arith, length-drop n bytes) in
    let front : n + 0 ≡ n = omega arith in
    let at : get_or following 0 0 ≡ get_or bytes n 0 = ap (λ (xs : List ℕ). get_or xs 0 0) is_after ∙ get_or-drop n bytes 0 0 ∙ ap (λ (k : ℕ). get_or bytes k 0) front in
    rw (at, place) (not-false _ (prefix_len_stops (λ x. not (is_escaped x)) bytes 0 (rw (← place) lt)))

pub first_written : (line new following : List ℕ) → 1 ≤ length following → new ≡ line ++ quoted_byte (get_or following 0 0)
    → new ++ flat_map quoted_byte (take (length following - 1) (drop 1 following)) ≡ line ++ flat_map quoted_byte following
first_written line new following some written =
    let rest : List ℕ = take (length following - 1) (drop 1 following) in
    ap (λ (xs : List ℕ). xs ++ flat_map quoted_byte rest) written ∙ append_assoc line (quoted_byte (get_or following 0 0)) (flat_map quoted_byte rest)
    ∙ ap (λ (xs : List ℕ). line ++ flat_map quoted_byte xs) (sym (first_and_rest following 0 some))

-- of what is left a prefix of the form of the first byte was added
pub first_byte_begun : (line new following all : List ℕ) → 1 ≤ length following → line ++ flat_map quoted_byte following ≡ all → Extends new (line ++ quoted_byte (get_or following 0 0)) → Extends new all
first_byte_begun line new following all some so_far begun =
    let rest : List ℕ = take (length following - 1) (drop 1 following) in
    subst (Extends new) so_far
    (first_begun line new (quoted_byte (get_or following 0 0)) (flat_map quoted_byte rest) (flat_map quoted_byte following) (sym (ap (flat_map quoted_byte) (first_and_rest following 0 some))) begun)

-- of what is left of a text a prefix was added
pub text_begun : (line so_far new rest text : List ℕ) → so_far ++ flat_map quoted_byte rest ≡ line ++ 34 ∷ flat_map quoted_byte text → Extends new (so_far ++ flat_map quoted_byte rest) → Extends new (line ++ quoted text)
text_begun line so_far new rest text whole begun =
    first_begun line new (34 ∷ flat_map quoted_byte text) (34 ∷ []) (quoted text) refl (subst (Extends new) whole begun)

-- ---- bytes that are not a value

pub raw_whole : (bytes : List ℕ) → raw_word bytes ++ encode_lower bytes ≡ raw_form bytes
raw_whole [] = ap (λ (xs : List ℕ). codes "raw" ++ xs) (encode_with-nil lower_digits)
raw_whole (b ∷ bytes) = refl

-- ---- the parts of a geometry

others_form : (others : List Part) → with_leading_spaces (flat_map (λ points. codes "/" ∷ [] ++ map point_form points) (map points_of others)) ≡ flat_map (λ part. other_part (points_of part)) others
others_form [] = refl
others_form (part ∷ others) =
    flat_map-append (λ word. codes " " ++ word) (codes "/" ∷ [] ++ map point_form (points_of part)) (flat_map (λ points. codes "/" ∷ [] ++ map point_form points) (map points_of others))
    ∙ ap (λ (xs : List ℕ). other_part (points_of part) ++ xs) (others_form others)

parts_form : (part : Part) (others : List Part) → with_leading_spaces (part_words (map points_of (part ∷ others))) ≡ with_leading_spaces (map point_form (points_of part)) ++ flat_map (λ part. other_part (points_of part)) others
parts_form part others =
    flat_map-append (λ word. codes " " ++ word) (map point_form (points_of part)) (flat_map (λ points. codes "/" ∷ [] ++ map point_form points) (map points_of others))
    ∙ ap (λ (xs : List ℕ). with_leading_spaces (map point_form (points_of part)) ++ xs) (others_form others)

-- the points of the parts after the first, and what separates them
abbrev others_written : List Part → List ℕ
others_written parts = flat_map (λ part. other_part (points_of part)) (take (length parts - 1) (drop 1 parts))

-- the points of all parts are those of the first part, and then those of the others
parts_split : (parts : List Part) (part : Part) → 1 ≤ length parts → part ≡ get_or parts 0 part
    → with_leading_spaces (map point_form (points_of part)) ++ others_written parts ≡ with_leading_spaces (part_words (map points_of parts))
parts_split parts part some is =
    let others : List Part = take (length parts - 1) (drop 1 parts) in
    let whole : parts ≡ part ∷ others = first_and_rest parts part some ∙ ap (λ (p : Part). p ∷ others) (sym is) in
    sym (parts_form part others) ∙ ap (λ (ps : List Part). with_leading_spaces (part_words (map points_of ps))) (sym whole)

module _ (line first new : List ℕ) (parts : List Part) (part : Part) (points : List Point) (some : 1 ≤ length parts) (is : part ≡ get_or parts 0 part) (points_are : points ≡ points_of part) where
  pub parts_written : first ≡ line ++ with_leading_spaces (map point_form points) → new ≡ first ++ others_written parts → new ≡ line ++ with_leading_spaces (part_words (map points_of parts))
  parts_written written following =
      following ∙ ap (λ (xs : List ℕ). xs ++ others_written parts) (written ∙ ap (λ (ps : List Point). line ++ with_leading_spaces (map point_form ps)) points_are)
      ∙ append_assoc line (with_leading_spaces (map point_form (points_of part))) (others_written parts)
      ∙ ap (λ (xs : List ℕ). line ++ xs) (parts_split parts part some is)

  -- a prefix of the points of the first part was added
  pub first_part_begun : Extends new (line ++ with_leading_spaces (map point_form points)) → Extends new (line ++ with_leading_spaces (part_words (map points_of parts)))
  first_part_begun begun =
      first_begun line new (with_leading_spaces (map point_form (points_of part))) (others_written parts) (with_leading_spaces (part_words (map points_of parts))) (parts_split parts part some is)
      (subst (λ (ps : List Point). Extends new (line ++ with_leading_spaces (map point_form ps))) points_are begun)

  -- the points of the first part were added, and then a prefix of the others
  pub others_begun : first ≡ line ++ with_leading_spaces (map point_form points) → Extends new (first ++ others_written parts) → Extends new (line ++ with_leading_spaces (part_words (map points_of parts)))
  others_begun written begun =
      next_begun line first new (with_leading_spaces (map point_form (points_of part))) (others_written parts) (with_leading_spaces (part_words (map points_of parts))) (parts_split parts part some is)
      (written ∙ ap (λ (ps : List Point). line ++ with_leading_spaces (map point_form ps)) points_are) begun
