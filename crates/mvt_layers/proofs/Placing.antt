-- What is found in a list, one item after the other.
use Rattle.std.proofs.Common.{◌≡◌, ℕ, ◌+◌, ◌<◌, ◌^◌, Option, Some, None, List, [], ◌∷◌, length, get_or, map, option_map, refl, sym, ap, ◌∙◌, arith}
use Rattle.std.specs.Prelude.{Bool, true, false, if◌then◌else◌, is_some, ◌≤◌}
use Rattle.std.specs.Borrow.{Bor}
use mir.Val.{bool_byte}
use Rattle.std.specs.List.{cons_option, filter_map, enumerate_from}
use Rattle.std.specs.Option.{option_copied}
use Rattle.std.proofs.lemmas.List.{drop_more, length-map, get_or-map}
use Rattle.mvt_messages.specs.Found.{with_position, placed_from, found_in}
use Rattle.mvt_layers.proofs.Yielded.{picked_fit}

-- what is found from a position on: what is there, and what is found from the next one on
pub placed_from-more : {X A B : Type 0} (view : X → A) (pick : A → Option B) (position : ℕ) (items : List X) (item : X) → position < length items → item ≡ get_or items position item
    → placed_from pick position (map view items) ≡ cons_option (with_position pick (position, view item)) (placed_from pick (position + 1) (map view items))
placed_from-more {A = A} view pick position items item within read =
    let all : List A = map view items in
    let inside : position < length all = omega (arith, length-map items view) in
    let first : get_or all position (view item) ≡ view item = get_or-map view items position item (view item) within ∙ ap view (sym read) in
    ap (λ (rest : List A). filter_map (with_position pick) (enumerate_from position rest)) (drop_more all position (view item) inside)
    ∙ ap (λ (there : A). cons_option (with_position pick (position, there)) (placed_from pick (position + 1) all)) first

-- how many are found from a position on, by how many are found from the next one on
pub counted_more : {B : Type 0} (found : Option B) (position : ℕ) (placed : List (ℕ × B)) → length (cons_option (option_map (λ found. (position, found)) found) placed) ≡ (if is_some found then 1 else 0) + length placed
counted_more None position placed = omega arith
counted_more (Some x) position placed = omega arith

pub one_at_most : (is : Bool) → (if is then 1 else 0) ≤ 1
one_at_most true = omega arith
one_at_most false = omega arith

pub byte_is : (is same : Bool) → is ≡ same → bool_byte is ≡ (if same then 1 else 0)
byte_is true true e = refl
byte_is false false e = refl
byte_is true false e = absurd (cc)
byte_is false true e = absurd (cc)

-- a copy is there where it is there
pub copied_is : {A : Type 0} (found : Option (Bor A)) → is_some found ≡ is_some (option_copied found)
copied_is None = refl
copied_is (Some x) = refl

-- ---- what is found, without where it is

item_more : {B : Type 0} (found : Option B) (position : ℕ) (placed : List (ℕ × B)) (items : List B) → map (λ (p : ℕ × B). p.1) placed ≡ items → map (λ (p : ℕ × B). p.1) (cons_option (option_map (λ found. (position, found)) found) placed) ≡ cons_option found items
item_more None position placed items e = e
item_more (Some x) position placed items e = ap (λ more. x ∷ more) e

pub placed_items : {A B : Type 0} (pick : A → Option B) (position : ℕ) (items : List A) → map (λ (p : ℕ × B). p.1) (filter_map (with_position pick) (enumerate_from position items)) ≡ filter_map pick items
placed_items pick position [] = refl
placed_items pick position (x ∷ items) = item_more (pick x) position (filter_map (with_position pick) (enumerate_from (position + 1) items)) (filter_map pick items) (placed_items pick (position + 1) items)

-- the items that are numbered are the same
numbered_items : {B : Type 0} (ordinal : ℕ) (placed : List (ℕ × B)) → map (λ (f : ℕ × (ℕ × B)). f.1.1) (enumerate_from ordinal placed) ≡ map (λ (p : ℕ × B). p.1) placed
numbered_items ordinal [] = refl
numbered_items ordinal (x ∷ placed) = ap (λ more. x.1 ∷ more) (numbered_items (ordinal + 1) placed)

-- the items that are found in a list, in order
pub found_items : {A B : Type 0} (pick : A → Option B) (items : List A) → map (λ (f : ℕ × (ℕ × B)). f.1.1) (found_in pick items) ≡ filter_map pick items
found_items pick items = numbered_items 0 (placed_from pick 0 items) ∙ placed_items pick 0 items

pub found_count : {A B : Type 0} (pick : A → Option B) (items : List A) → length (found_in pick items) ≡ length (filter_map pick items)
found_count {A} {B} pick items = sym (length-map (found_in pick items) (λ (f : ℕ × (ℕ × B)). f.1.1)) ∙ ap length (found_items pick items)

pub found_fit : {X A B : Type 0} (view : X → A) (pick : A → Option B) (items : List X) → length items < 2 ^ 64 → length (found_in pick (map view items)) < 2 ^ 64
found_fit view pick items fits = omega (arith, found_count pick (map view items), picked_fit view pick items fits)
