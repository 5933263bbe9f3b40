-- Lines that are put one after the other.
use Rattle.std.proofs.Common.{◌≡◌, ℕ, ◌+◌, ◌<◌, ◌≤◌, Option, List, [], ◌∷◌, ◌++◌, length, get_or, map, take, take_all, refl, sym, ap, ◌∙◌}
use Rattle.std.proofs.lemmas.List.{flat_map_more, map_push, take_more}
use Rattle.tile_lines.specs.Lines.{with_feed}
use Rattle.std.specs.List.{enumerate_from, filter_map}
use Rattle.mvt_messages.specs.Found.{found_in, placed_from}
use Rattle.mvt_layers.proofs.Placing.{placed_items}
use Rattle.tile_listing.specs.Listing.{joined_lines, numbered}

-- the lines of items that came with their ordinals
abbrev pub lines_seen : {A B : Type 0} → (A → B) → (ℕ → B → List ℕ) → List (ℕ × A) → List (List ℕ)
lines_seen {A} {B} view line seen = map (λ (p : ℕ × B). line p.0 p.1) (map (λ (p : ℕ × A). (p.0, view p.1)) seen)

-- one line more
pub line_more : {A : Type 0} (line : A → List ℕ) (old now new : List ℕ) (seen : List A) (x : A) → now ≡ old ++ joined_lines (map line seen) → new ≡ now ++ with_feed (line x) → new ≡ old ++ joined_lines (map line (seen ++ x ∷ []))
line_more line old now new seen x before put =
    put ∙ ap (λ (s : List ℕ). s ++ with_feed (line x)) before ∙ flat_map_more with_feed old (map line seen) (line x)
    ∙ ap (λ (lines : List (List ℕ)). old ++ joined_lines lines) (sym (map_push line seen x))

-- the same for items in order, of which the first `i` were seen
pub next_line : {A B : Type 0} (view : A → B) (line : B → List ℕ) (old now new : List ℕ) (items : List A) (i : ℕ) (d : A) → i < length items → now ≡ old ++ joined_lines (map line (map view (take i items))) → new ≡ now ++ with_feed (line (view (get_or items i d))) → new ≡ old ++ joined_lines (map line (map view (take (i + 1) items)))
next_line {A} {B} view line old now new items i d low before put =
    line_more line old now new (map view (take i items)) (view (get_or items i d)) before put
    ∙ ap (λ (xs : List B). old ++ joined_lines (map line xs)) (sym (ap (λ (xs : List A). map view xs) (take_more items i d low) ∙ map_push view (take i items) (get_or items i d)))

-- the same, all seen
pub last_line : {A B : Type 0} (view : A → B) (line : B → List ℕ) (old now : List ℕ) (items : List A) (i : ℕ) → length items ≤ i → now ≡ old ++ joined_lines (map line (map view (take i items))) → now ≡ old ++ joined_lines (map line (map view items))
last_line {A} {B} view line old now items i past before = before ∙ ap (λ (xs : List A). old ++ joined_lines (map line (map view xs))) (take_all i items past)

pub line_seen_more : {A B : Type 0} (view : A → B) (line : ℕ → B → List ℕ) (old now new : List ℕ) (seen : List (ℕ × A)) (ordinal : ℕ) (x : A) → now ≡ old ++ joined_lines (lines_seen view line seen) → new ≡ now ++ with_feed (line ordinal (view x)) → new ≡ old ++ joined_lines (lines_seen view line (seen ++ (ordinal, x) ∷ []))
line_seen_more {A} {B} view line old now new seen ordinal x before put =
    line_more (λ (p : ℕ × B). line p.0 p.1) old now new (map (λ (p : ℕ × A). (p.0, view p.1)) seen) (ordinal, view x) before put
    ∙ ap (λ (items : List (ℕ × B)). old ++ joined_lines (map (λ (p : ℕ × B). line p.0 p.1) items)) (sym (map_push (λ (p : ℕ × A). (p.0, view p.1)) seen (ordinal, x)))

-- all lines
pub lines_all : {A B : Type 0} (view : A → B) (line : ℕ → B → List ℕ) (old now : List ℕ) (seen : List (ℕ × A)) (all : List (ℕ × B)) → now ≡ old ++ joined_lines (lines_seen view line seen) → map (λ (p : ℕ × A). (p.0, view p.1)) seen ≡ all → now ≡ old ++ joined_lines (map (λ (p : ℕ × B). line p.0 p.1) all)
lines_all {A} {B} view line old now seen all before came = before ∙ ap (λ (items : List (ℕ × B)). old ++ joined_lines (map (λ (p : ℕ × B). line p.0 p.1) items)) came

-- ---- lines of what is found, each with its ordinal

pub found_line_more : {A B : Type 0} (view : A → ℕ × (ℕ × B)) (line : ℕ → B → List ℕ) (old now new : List ℕ) (seen : List A) (x : A) → now ≡ old ++ joined_lines (map (λ (f : ℕ × (ℕ × B)). line f.0 f.1.1) (map view seen)) → new ≡ now ++ with_feed (line (view x).0 (view x).1.1) → new ≡ old ++ joined_lines (map (λ (f : ℕ × (ℕ × B)). line f.0 f.1.1) (map view (seen ++ x ∷ [])))
found_line_more {A} {B} view line old now new seen x before put =
    line_more (λ (f : ℕ × (ℕ × B)). line f.0 f.1.1) old now new (map view seen) (view x) before put
    ∙ ap (λ (items : List (ℕ × (ℕ × B))). old ++ joined_lines (map (λ (f : ℕ × (ℕ × B)). line f.0 f.1.1) items)) (sym (map_push view seen x))

numbered_lines : {B : Type 0} (line : ℕ → B → List ℕ) (start : ℕ) (placed : List (ℕ × B)) → map (λ (f : ℕ × (ℕ × B)). line f.0 f.1.1) (enumerate_from start placed) ≡ map (λ (p : ℕ × B). line p.0 p.1) (enumerate_from start (map (λ (p : ℕ × B). p.1) placed))
numbered_lines line start [] = refl
numbered_lines line start (x ∷ placed) = ap (λ more. line start x.1 ∷ more) (numbered_lines line (start + 1) placed)

pub found_lines_all : {A C B : Type 0} (view : A → ℕ × (ℕ × B)) (line : ℕ → B → List ℕ) (pick : C → Option B) (items : List C) (old now : List ℕ) (seen : List A) → now ≡ old ++ joined_lines (map (λ (f : ℕ × (ℕ × B)). line f.0 f.1.1) (map view seen)) → map view seen ≡ found_in pick items → now ≡ old ++ joined_lines (numbered line (filter_map pick items))
found_lines_all {A} {C} {B} view line pick items old now seen before came =
    before
    ∙ ap (λ (found : List (ℕ × (ℕ × B))). old ++ joined_lines (map (λ (f : ℕ × (ℕ × B)). line f.0 f.1.1) found)) came
    ∙ ap (λ (lines : List (List ℕ)). old ++ joined_lines lines) (numbered_lines line 0 (placed_from pick 0 items) ∙ ap (λ (list : List B). numbered line list) (placed_items pick 0 items))
