-- A script that is cut after a line feed.
use Rattle.std.proofs.Common.{◌≡◌, ℕ, ◌<◌, Bool, true, false, cond, List, [], ◌∷◌, ◌++◌, length, refl, sym, ap, ◌∙◌, inl, inr, append_assoc, append-nil, arith}
use Rattle.std.specs.List.{slice_split, onto_first}
use Rattle.std.proofs.lemmas.Bool.{cases_Bool}
use Rattle.std.proofs.lemmas.List.Splits.{length-slice_split}
use Rattle.tile_lines.specs.Lines.{is_line_feed, without_empty_end, lines_of}
use Rattle.tile_course.specs.Run.{Progress, at_first, after_line, is_over, after_lines}
use Rattle.tile_course.specs.RunLaws.{PrefixesHaveFirstLines, PrefixesStand}
use Rattle.tile_lines.proofs.LineCuts.{first_stays, none_of_none}
use Rattle.tile_course.proofs.Overs.{over_stays}

onto-append : (b : ℕ) (parts more : List (List ℕ)) → 0 < length parts → onto_first b (parts ++ more) ≡ onto_first b parts ++ more
onto-append b [] more some = absurd (omega arith)
onto-append b (part ∷ parts) more some = refl

next_byte : (is_feed : Bool) (b : ℕ) (whole parts more : List (List ℕ)) → 0 < length parts → whole ≡ parts ++ more → cond is_feed ([] ∷ whole) (onto_first b whole) ≡ cond is_feed ([] ∷ parts) (onto_first b parts) ++ more
next_byte true b whole parts more some e = ap (λ (ls : List (List ℕ)). [] ∷ ls) e
next_byte false b whole parts more some e = ap (onto_first b) e ∙ onto-append b parts more some

split_at_feed : (text rest : List ℕ) → slice_split is_line_feed (text ++ 10 ∷ rest) ≡ slice_split is_line_feed text ++ slice_split is_line_feed rest
split_at_feed [] rest = refl
split_at_feed (b ∷ text) rest =
    let some : 0 < length (slice_split is_line_feed text) = omega (arith, length-slice_split is_line_feed text) in
    next_byte (is_line_feed b) b (slice_split is_line_feed (text ++ 10 ∷ rest)) (slice_split is_line_feed text) (slice_split is_line_feed rest) some (split_at_feed text rest)

ends_there : (parts : List (List ℕ)) (rest : List ℕ) → without_empty_end (parts ++ slice_split is_line_feed rest) ≡ parts ++ without_empty_end (slice_split is_line_feed rest)
ends_there [] rest = refl
ends_there (part ∷ []) rest = first_stays part rest
ends_there (part ∷ next ∷ parts) rest = ap (λ (ls : List (List ℕ)). part ∷ ls) (ends_there (next ∷ parts) rest)

at_feed : (text rest : List ℕ) → lines_of (text ++ 10 ∷ rest) ≡ slice_split is_line_feed text ++ lines_of rest
unfolding lines_of
at_feed text rest = ap without_empty_end (split_at_feed text rest) ∙ ends_there (slice_split is_line_feed text) rest

up_to_feed : (text : List ℕ) → lines_of (text ++ 10 ∷ []) ≡ slice_split is_line_feed text
up_to_feed text = at_feed text [] ∙ ap (λ (ls : List (List ℕ)). slice_split is_line_feed text ++ ls) (none_of_none [] refl) ∙ append-nil (slice_split is_line_feed text)

pub first_lines : PrefixesHaveFirstLines
first_lines prefix rest (inl none) =
    ap (λ (f : List ℕ). lines_of (f ++ rest)) none ∙ sym (ap (λ (f : List ℕ). lines_of f ++ lines_of rest) none ∙ ap (λ (ls : List (List ℕ)). ls ++ lines_of rest) (none_of_none [] refl))
first_lines prefix rest (inr (text, whole)) =
    ap (λ (f : List ℕ). lines_of (f ++ rest)) whole ∙ ap lines_of (append_assoc text (10 ∷ []) rest) ∙ at_feed text rest
    ∙ sym (ap (λ (f : List ℕ). lines_of f ++ lines_of rest) whole ∙ ap (λ (ls : List (List ℕ)). ls ++ lines_of rest) (up_to_feed text))

pub after_lines-append : (strict : Bool) (p : Progress) (lines more : List (List ℕ)) → after_lines strict p (lines ++ more) ≡ after_lines strict (after_lines strict p lines) more
after_lines-append strict p [] more = refl
after_lines-append strict p (line ∷ lines) more =
    elim (cases_Bool (is_over strict p)) [
      | inl over ↦ rw over (sym (over_stays strict p more over))
      | inr on ↦ rw on (after_lines-append strict (after_line p line) lines more)
    ]

pub prefix_stands : PrefixesStand
prefix_stands document options prefix rest ends =
    let start = at_first document options.depth in
    ap (after_lines options.strict start) (first_lines prefix rest ends) ∙ after_lines-append options.strict start (lines_of prefix) (lines_of rest)
