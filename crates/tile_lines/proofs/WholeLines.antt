-- The whole lines of a prefix of a script, and the line that goes on after them.
use Rattle.std.proofs.Common.{◌≡◌, ℕ, Bool, true, false, List, [], ◌∷◌, ◌++◌, refl, sym, ap, ◌∙◌}
use Rattle.std.specs.List.{slice_split, onto_first}
use Rattle.std.proofs.lemmas.List.{append-nil}
use Rattle.tile_lines.specs.Lines.{is_line_feed, last_line, without_empty_end, without_last, whole_lines, lines_of}

-- the last of some parts
abbrev last_part : List (List ℕ) → List ℕ
last_part [] = []
last_part (part ∷ []) = part
last_part (part ∷ next ∷ parts) = last_part (next ∷ parts)

-- the bytes after the last line feed
abbrev pub open_line : List ℕ → List ℕ
open_line text = last_part (slice_split is_line_feed text)

-- parts, with a line before the first
abbrev following : List ℕ → List (List ℕ) → List (List ℕ)
following line [] = line ∷ []
following line (part ∷ parts) = (line ++ part) ∷ parts

-- there is at least one part
some_part : (text : List ℕ) → (first : List ℕ) × (others : List (List ℕ)) × (slice_split is_line_feed text ≡ first ∷ others)
some_part [] = ([], [], refl)
some_part (b ∷ text) = by_feed (is_line_feed b) refl (some_part text)
  where
    by_feed : (q : Bool) → is_line_feed b ≡ q → (first : List ℕ) × (others : List (List ℕ)) × (slice_split is_line_feed text ≡ first ∷ others) → (first : List ℕ) × (others : List (List ℕ)) × (slice_split is_line_feed (b ∷ text) ≡ first ∷ others)
    by_feed true e rest = ([], slice_split is_line_feed text, rw e refl)
    by_feed false e rest = (b ∷ rest.0, rest.1, rw e (ap (onto_first b) rest.2))

from_nothing : (parts : List (List ℕ)) (first : List ℕ) (others : List (List ℕ)) → parts ≡ first ∷ others → parts ≡ following [] parts
from_nothing parts first others e = rw e refl

onto_joined : (b : ℕ) (parts more : List (List ℕ)) → onto_first b (without_last parts ++ following (last_part parts) more) ≡ without_last (onto_first b parts) ++ following (last_part (onto_first b parts)) more
onto_joined b [] [] = refl
onto_joined b [] (next ∷ more) = refl
onto_joined b (part ∷ []) [] = refl
onto_joined b (part ∷ []) (next ∷ more) = refl
onto_joined b (part ∷ other ∷ parts) more = refl

feed_joined : (parts more : List (List ℕ)) (first : List ℕ) (others : List (List ℕ)) → parts ≡ first ∷ others → [] ∷ (without_last parts ++ following (last_part parts) more) ≡ without_last ([] ∷ parts) ++ following (last_part ([] ∷ parts)) more
feed_joined parts more first others e = rw e refl

-- the whole lines of a prefix stay, and what comes after them goes on
split-append : (front more : List ℕ) → slice_split is_line_feed (front ++ more) ≡ whole_lines front ++ following (open_line front) (slice_split is_line_feed more)
split-append [] more = let some = some_part more in from_nothing (slice_split is_line_feed more) some.0 some.1 some.2
split-append (b ∷ front) more = by_feed (is_line_feed b) refl (split-append front more)
  where
    by_feed : (q : Bool) → is_line_feed b ≡ q → slice_split is_line_feed (front ++ more) ≡ whole_lines front ++ following (open_line front) (slice_split is_line_feed more)
        → slice_split is_line_feed (b ∷ (front ++ more)) ≡ whole_lines (b ∷ front) ++ following (open_line (b ∷ front)) (slice_split is_line_feed more)
    by_feed true e same = let some = some_part front in
        rw e (ap (λ (parts : List (List ℕ)). [] ∷ parts) same ∙ feed_joined (slice_split is_line_feed front) (slice_split is_line_feed more) some.0 some.1 some.2)
    by_feed false e same = rw e (ap (onto_first b) same ∙ onto_joined b (slice_split is_line_feed front) (slice_split is_line_feed more))

without_last-append : (parts : List (List ℕ)) (part : List ℕ) (more : List (List ℕ)) → without_last (parts ++ part ∷ more) ≡ parts ++ without_last (part ∷ more)
without_last-append [] part more = refl
without_last-append (first ∷ []) part more = refl
without_last-append (first ∷ next ∷ parts) part more = ap (λ (lines : List (List ℕ)). first ∷ lines) (without_last-append (next ∷ parts) part more)

without_empty_end-append : (parts : List (List ℕ)) (part : List ℕ) (more : List (List ℕ)) → without_empty_end (parts ++ part ∷ more) ≡ parts ++ without_empty_end (part ∷ more)
without_empty_end-append [] part more = refl
without_empty_end-append (first ∷ []) part more = refl
without_empty_end-append (first ∷ next ∷ parts) part more = ap (λ (lines : List (List ℕ)). first ∷ lines) (without_empty_end-append (next ∷ parts) part more)

last_part-append : (parts : List (List ℕ)) (part : List ℕ) (more : List (List ℕ)) → last_part (parts ++ part ∷ more) ≡ last_part (part ∷ more)
last_part-append [] part more = refl
last_part-append (first ∷ []) part more = refl
last_part-append (first ∷ next ∷ parts) part more = last_part-append (next ∷ parts) part more

-- the parts of a prefix and of what follows it, with at least one part after the whole lines
front_parts : (front more : List ℕ) → (part : List ℕ) × (parts : List (List ℕ)) × (slice_split is_line_feed (front ++ more) ≡ whole_lines front ++ part ∷ parts)
front_parts front more =
    let some = some_part more in
    (open_line front ++ some.0, some.1, split-append front more ∙ ap (λ (parts : List (List ℕ)). whole_lines front ++ following (open_line front) parts) some.2)

pub whole_lines-front : (front more : List ℕ) → (others : List (List ℕ)) × (whole_lines (front ++ more) ≡ whole_lines front ++ others)
whole_lines-front front more =
    let found = front_parts front more in
    (without_last (found.0 ∷ found.1), ap without_last found.2 ∙ without_last-append (whole_lines front) found.0 found.1)

pub lines-front : (front more : List ℕ) → (others : List (List ℕ)) × (lines_of (front ++ more) ≡ whole_lines front ++ others)
unfolding lines_of
lines-front front more =
    let found = front_parts front more in
    (without_empty_end (found.0 ∷ found.1), ap without_empty_end found.2 ∙ without_empty_end-append (whole_lines front) found.0 found.1)

-- a line feed ends the line that goes on
feed_parts : (front : List ℕ) (byte : ℕ) → is_line_feed byte ≡ true → slice_split is_line_feed (front ++ byte ∷ []) ≡ whole_lines front ++ open_line front ∷ [] ∷ []
feed_parts front byte feed =
    let alone : slice_split is_line_feed (byte ∷ []) ≡ [] ∷ [] ∷ [] = rw feed refl in
    split-append front (byte ∷ []) ∙ ap (λ (parts : List (List ℕ)). whole_lines front ++ following (open_line front) parts) alone ∙ ap (λ (line : List ℕ). whole_lines front ++ line ∷ [] ∷ []) (append-nil (open_line front))

-- another byte joins it
other_parts : (front : List ℕ) (byte : ℕ) → is_line_feed byte ≡ false → slice_split is_line_feed (front ++ byte ∷ []) ≡ whole_lines front ++ (open_line front ++ byte ∷ []) ∷ []
other_parts front byte other =
    let alone : slice_split is_line_feed (byte ∷ []) ≡ (byte ∷ []) ∷ [] = rw other refl in
    split-append front (byte ∷ []) ∙ ap (λ (parts : List (List ℕ)). whole_lines front ++ following (open_line front) parts) alone

pub whole_lines-line_feed : (front : List ℕ) (byte : ℕ) → is_line_feed byte ≡ true → whole_lines (front ++ byte ∷ []) ≡ whole_lines front ++ open_line front ∷ []
whole_lines-line_feed front byte feed = ap without_last (feed_parts front byte feed) ∙ without_last-append (whole_lines front) (open_line front) ([] ∷ [])

pub open_line-line_feed : (front : List ℕ) (byte : ℕ) → is_line_feed byte ≡ true → open_line (front ++ byte ∷ []) ≡ []
open_line-line_feed front byte feed = ap last_part (feed_parts front byte feed) ∙ last_part-append (whole_lines front) (open_line front) ([] ∷ [])

pub open_line-other : (front : List ℕ) (byte : ℕ) → is_line_feed byte ≡ false → open_line (front ++ byte ∷ []) ≡ open_line front ++ byte ∷ []
open_line-other front byte other = ap last_part (other_parts front byte other) ∙ last_part-append (whole_lines front) (open_line front ++ byte ∷ []) []

-- the lines are the whole ones, and the one that goes on where it has a byte
pub lines_of-open : (script : List ℕ) → lines_of script ≡ whole_lines script ++ last_line (open_line script)
unfolding lines_of
lines_of-open script =
    ap (λ (text : List ℕ). without_empty_end (slice_split is_line_feed text)) (sym (append-nil script)) ∙ ap without_empty_end (split-append script [])
    ∙ without_empty_end-append (whole_lines script) (open_line script ++ []) [] ∙ ap (λ (line : List ℕ). whole_lines script ++ last_line line) (append-nil (open_line script))

pub whole_lines-other : (front : List ℕ) (byte : ℕ) → is_line_feed byte ≡ false → whole_lines (front ++ byte ∷ []) ≡ whole_lines front
whole_lines-other front byte other = ap without_last (other_parts front byte other) ∙ without_last-append (whole_lines front) (open_line front ++ byte ∷ []) [] ∙ append-nil (whole_lines front)
