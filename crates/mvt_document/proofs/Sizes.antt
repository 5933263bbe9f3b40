-- The sizes of what is written one after the other.
use Rattle.std.proofs.Common.{◌≡◌, ◌≤◌, ◌<◌, ◌+◌, ℕ, Option, List, ◌++◌, length, length-append, get_or, take, drop, max, refl, sym, ap, ◌∙◌, take-append-drop, subst, arith}
use Rattle.std.specs.List.{flat_map}
use Rattle.std.specs.Option.{SomeIff}
use Rattle.std.proofs.lemmas.List.{at_drop_more}
use Rattle.std.proofs.lemmas.List.Folds.{length-flat_map-take}
use Rattle.std.proofs.lemmas.List.Concat.{flat_map-append}
use Rattle.mvt_document.specs.Wire.{spell, minimal_width, delimited}
use Rattle.mvt_document.proofs.Spelling.{length-spell, width_within_grows, minimal_width_some}

-- a prefix and the item after it are no longer than all items
pub item_within : {T : Type 0} (f : T → List ℕ) (xs : List T) (i : ℕ) (x : T) → i < length xs → x ≡ get_or xs i x → length (flat_map f (take i xs)) + length (f x) ≤ length (flat_map f xs)
item_within f xs i x inside is = rw is (length-flat_map-take f xs i x inside)

-- a suffix and the item before it are no longer than all items
pub item_within_back : {T : Type 0} (f : T → List ℕ) (xs : List T) (i k : ℕ) (x : T) → k ≡ i + 1 → i < length xs → x ≡ get_or xs i x → length (f x) + length (flat_map f (drop k xs)) ≤ length (flat_map f xs)
item_within_back f xs i k x next inside is =
    let whole : length (flat_map f (take i xs)) + length (flat_map f (drop i xs)) ≡ length (flat_map f xs) =
    sym (length-append (flat_map f (take i xs)) (flat_map f (drop i xs))) ∙ ap length (sym (flat_map-append f (take i xs) (drop i xs)) ∙ ap (flat_map f) (take-append-drop i xs)) in
    let item : length (flat_map f (drop i xs)) ≡ length (f x) + length (flat_map f (drop k xs)) =
    rw (next, is) (at_drop_more (λ t. length (flat_map f t)) xs i x inside ∙ length-append (f (get_or xs i x)) (flat_map f (drop (i + 1) xs))) in
    omega arith

pub length-delimited : (width : ℕ) (bytes : List ℕ) → length (delimited width bytes) ≡ max width (minimal_width (length bytes)) + length bytes
length-delimited width bytes = rw (length-append, length-spell) refl

pub delimited_some : (width : ℕ) (bytes : List ℕ) → 1 ≤ length (delimited width bytes)
delimited_some width bytes = omega (arith, length-delimited width bytes, minimal_width_some (length bytes))

pub length-message : (value tag_width width : ℕ) (bytes : List ℕ) → length (spell value tag_width ++ delimited width bytes) ≡ tag_width + (max width (minimal_width (length bytes)) + length bytes)
length-message value tag_width width bytes = rw (length-append, length-spell, length-delimited) refl

-- a message with a longer content is no shorter
pub length-message_grows : (value tag_width width : ℕ) (short long : List ℕ) → length short ≤ length long → length (spell value tag_width ++ delimited width short) ≤ length (spell value tag_width ++ delimited width long)
length-message_grows value tag_width width short long less =
    omega (arith, length-message value tag_width width short, length-message value tag_width width long, width_within_grows 9 (length short) (length long) less)

-- the answer for a number within a limit is the answer for an equal one
pub same_size : (limit : ℕ) (answered : Option ℕ) (n m : ℕ) → n ≡ m → SomeIff answered (n ≤ limit) n → SomeIff answered (m ≤ limit) m
same_size limit answered n m same = subst (λ k. SomeIff answered (k ≤ limit) k) same
