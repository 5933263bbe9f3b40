-- The size of a list apart from one of its items, before it and after it.
use Rattle.std.proofs.Common.{◌≡◌, ℕ, zero, suc, ◌+◌, ◌<◌, ◌≤◌, Option, Some, None, List, [], ◌∷◌, ◌++◌, length, length-append, take, drop, get_or, take-append-drop, refl, sym, ap, ◌∙◌, subst, arith}
use Rattle.std.specs.List.{flat_map}
use Rattle.std.specs.Option.{SomeIff, IfSome}
use Rattle.std.specs.Prelude.{slice_set}
use Rattle.std.proofs.lemmas.List.Concat.{flat_map-append}
use Rattle.std.proofs.lemmas.List.{drop-drop}
use Rattle.mvt_document.specs.Splicing.{moved, part, splice}
use Rattle.mvt_document.specs.Kept.{IsKept, bytes_beside}

pub front_and_back : {T : Type 0} (f : T → List ℕ) (n : ℕ) (xs : List T) → length (flat_map f (take n xs)) + length (flat_map f (drop n xs)) ≡ length (flat_map f xs)
front_and_back f n xs =
    sym (length-append (flat_map f (take n xs)) (flat_map f (drop n xs))) ∙ ap length (sym (flat_map-append f (take n xs) (drop n xs)) ∙ ap (flat_map f) (take-append-drop n xs))

pub item_and_beside : {T : Type 0} (f : T → List ℕ) (xs : List T) (i : ℕ) (x : T) → i < length xs → x ≡ get_or xs i x → bytes_beside f i xs + length (f x) ≡ length (flat_map f xs)
item_and_beside f [] i x inside is = absurd (omega arith)
item_and_beside f (y ∷ xs) zero x inside is = omega (arith, length-append (f y) (flat_map f xs), ap (λ z. length (f z)) is)
item_and_beside f (y ∷ xs) (suc i) x inside is = omega (arith, item_and_beside f xs i x (omega arith) is, length-append (f y) (flat_map f (take i xs)), length-append (f y) (flat_map f xs))

pub known_so : (P : Type 0) (r : Option ℕ) (n m : ℕ) → SomeIff r P n → n ≡ m → IfSome r (λ x. x ≡ m)
known_so P None n m some is = tt
known_so P (Some x) n m some is = some.1 ∙ is

-- what leaves and what stays, what is added and what was there
pub spliced_size : {T : Type 0} (f : T → List ℕ) (index taken : ℕ) (put items : List T) → length (flat_map f (splice index taken put items)) + length (flat_map f (part index taken items)) ≡ length (flat_map f items) + length (flat_map f put)
spliced_size f index taken put items =
    let joined = ap length (flat_map-append f (take index items ++ put) (drop (index + taken) items)) ∙ length-append (flat_map f (take index items ++ put)) (flat_map f (drop (index + taken) items)) in
    let front = ap length (flat_map-append f (take index items) put) ∙ length-append (flat_map f (take index items)) (flat_map f put) in
    let whole = front_and_back f index items in
    let following = front_and_back f taken (drop index items) in
    let rest = ap (λ xs. length (flat_map f xs)) (drop-drop taken index items) in
    omega (arith, joined, front, whole, following, rest)

pub part_size : {T : Type 0} (f : T → List ℕ) (index count : ℕ) (items : List T) → length (flat_map f (part index count items)) ≤ length (flat_map f items)
part_size f index count items = omega (arith, front_and_back f index items, front_and_back f count (drop index items))

pub pushed_size : {T : Type 0} (f : T → List ℕ) (items : List T) (x : T) → length (flat_map f (items ++ x ∷ [])) ≡ length (flat_map f items) + length (f x)
pushed_size f items x =
    omega (arith, ap length (flat_map-append f items (x ∷ [])), length-append (flat_map f items) (f x ++ []), length-append (f x) [])

-- an item that moves has the same size
pub moved_size : {T : Type 0} (f : T → List ℕ) (from to : ℕ) (items : List T) → length (flat_map f (moved from to items)) ≡ length (flat_map f items)
moved_size f from to items =
    let out = spliced_size f from 1 [] items in
    let back = spliced_size f to 0 (part from 1 items) (splice from 1 [] items) in
    omega (arith, out, back)

pub kept_so : {T : Type 0} (f : T → List ℕ) (items now : List T) (sum : Option ℕ) → length (flat_map f now) ≡ length (flat_map f items) → IsKept f items sum → IsKept f now sum
kept_so f items now None same kept = tt
kept_so f items now (Some n) same kept = kept ∙ sym same

-- what is beside an item stays when another takes its place
beside_set : {T : Type 0} (f : T → List ℕ) (i : ℕ) (xs : List T) (y : T) → bytes_beside f i (slice_set xs i y) ≡ bytes_beside f i xs
beside_set f i [] y = refl
beside_set f zero (x ∷ xs) y = refl
beside_set f (suc i) (x ∷ xs) y =
    omega (arith, beside_set f i xs y, length-append (f x) (flat_map f (take i (slice_set xs i y))), length-append (f x) (flat_map f (take i xs)))

pub beside_kept : {T : Type 0} (f : T → List ℕ) (i : ℕ) (o : Option ℕ) (xs ys : List T) (y : T) → ys ≡ slice_set xs i y → IfSome o (λ n. n ≡ bytes_beside f i xs) → IfSome o (λ n. n ≡ bytes_beside f i ys)
beside_kept f i o xs ys y is = subst (λ m. IfSome o (λ n. n ≡ m)) (sym (ap (bytes_beside f i) is ∙ beside_set f i xs y))
