-- What a cutter holds after a prefix of a script, and the lines of that prefix.
use Rattle.std.proofs.Common.{◌≡◌, ◌⊎◌, inl, inr, ℕ, Bool, true, false, cond, ltb, List, [], ◌∷◌, ◌++◌, length, map, Option, Some, None, refl, sym, ap, ◌∙◌, append_assoc, arith, length-append}
use Rattle.std.specs.List.{cons_option}
use Rattle.std.specs.Option.{option_to_list}
use Rattle.std.proofs.lemmas.Bool.{cases_Bool, ltb-true, lt-ltb}
use Rattle.std.proofs.lemmas.List.{append-nil, map-append, map_push}
use Rattle.std.proofs.lemmas.List.Sums.{fold_push}
use Rattle.tile_lines.specs.Lines.{is_line_feed, last_line, whole_lines, lines_of}
use Rattle.tile_lines.specs.Cutting.{Cut, Whole, TooLong, cut_of, Holding, nothing_held, line_to_join, with_byte, pushed, complete_line, some_bytes, rest_of, after_pushes, cuts}
use Rattle.tile_lines.specs.declared.TheConstants.{LINE_LIMIT}
use Rattle.tile_lines.proofs.WholeLines.{open_line, whole_lines-line_feed, whole_lines-other, open_line-line_feed, open_line-other, lines_of-open}
pub use Rattle.tile_lines.proofs.WholeLines.{whole_lines-front, lines-front}

pub after_pushes-snoc : (held : Holding) (bytes : List ℕ) (byte : ℕ) → after_pushes held (bytes ++ byte ∷ []) ≡ pushed (after_pushes held bytes) byte
after_pushes-snoc held bytes byte = fold_push pushed held bytes byte

-- a line that is cut at first, and then with one more byte, is cut as the longer line
joined_cut : (line : List ℕ) (byte : ℕ) → with_byte (cut_of line) byte ≡ cut_of (line ++ byte ∷ [])
joined_cut line byte = by_length (ltb LINE_LIMIT (length line)) refl
  where
    by_length : (b : Bool) → ltb LINE_LIMIT (length line) ≡ b → with_byte (cond b TooLong (Whole line)) byte ≡ cut_of (line ++ byte ∷ [])
    by_length true long =
        let longer : ltb LINE_LIMIT (length (line ++ byte ∷ [])) ≡ true = lt-ltb LINE_LIMIT (length (line ++ byte ∷ [])) (omega (arith, ltb-true LINE_LIMIT (length line) long, length-append line (byte ∷ []))) in
        rw longer refl
    by_length false short = refl

-- the cut of the bytes after the last line feed, if there are any
abbrev cut_after : List ℕ → Option Cut
cut_after [] = None
cut_after (b ∷ line) = Some (cut_of (b ∷ line))

some_cut : (line : List ℕ) → some_bytes (cut_of line) ≡ cut_after line
some_cut [] = refl
some_cut (b ∷ line) = by_length (ltb LINE_LIMIT (length (b ∷ line)))
  where
    by_length : (q : Bool) → some_bytes (cond q TooLong (Whole (b ∷ line))) ≡ Some (cond q TooLong (Whole (b ∷ line)))
    by_length true = refl
    by_length false = refl

-- what is held is that of this line, which goes on
record Stands (line : List ℕ) (held : Holding) : Type 0 where
  joins : line_to_join held ≡ cut_of line
  rest : rest_of held ≡ cut_after line

feed_cut : (line : List ℕ) (held : Holding) (byte : ℕ) → is_line_feed byte ≡ true → Stands line held → pushed held byte ≡ record { cut = cut_of line; is_complete = true }
unfolding pushed
feed_cut line held byte feed stands = rw (feed, stands.joins) refl

other_cut : (line : List ℕ) (held : Holding) (byte : ℕ) → is_line_feed byte ≡ false → Stands line held → pushed held byte ≡ record { cut = cut_of (line ++ byte ∷ []); is_complete = false }
unfolding pushed
other_cut line held byte other stands = rw (other, stands.joins, joined_cut line byte) refl

at_start : Stands (open_line []) nothing_held
at_start = record { joins = refl; rest = refl }

-- and so it is after one more byte
push_stands : (front : List ℕ) (held : Holding) (byte : ℕ) → Stands (open_line front) held → Stands (open_line (front ++ byte ∷ [])) (pushed held byte)
push_stands front held byte stands = by_feed (cases_Bool (is_line_feed byte))
  where
    by_feed : (is_line_feed byte ≡ true) ⊎ (is_line_feed byte ≡ false) → Stands (open_line (front ++ byte ∷ [])) (pushed held byte)
    by_feed (inl feed) = rw (feed_cut (open_line front) held byte feed stands, open_line-line_feed front byte feed) (record { joins = refl; rest = refl })
    by_feed (inr other) = rw (other_cut (open_line front) held byte other stands, open_line-other front byte other) (record { joins = refl; rest = some_cut (open_line front ++ byte ∷ []) })

stands_on : (front more : List ℕ) (held : Holding) → Stands (open_line front) held → Stands (open_line (front ++ more)) (after_pushes held more)
stands_on front [] held stands = rw (append-nil front) stands
stands_on front (byte ∷ more) held stands = rw (← append_assoc front (byte ∷ []) more) (stands_on (front ++ byte ∷ []) more (pushed held byte) (push_stands front held byte stands))

stands : (script : List ℕ) → Stands (open_line script) (after_pushes nothing_held script)
stands script = stands_on [] script nothing_held at_start

-- a push that completes a line adds it to the whole lines
pub line_completed : (script : List ℕ) (byte : ℕ) (cut : Cut) → complete_line (after_pushes nothing_held (script ++ byte ∷ [])) ≡ Some cut
    → (line : List ℕ) × (cut_of line ≡ cut) × (whole_lines (script ++ byte ∷ []) ≡ whole_lines script ++ line ∷ [])
line_completed script byte cut done = by_feed (cases_Bool (is_line_feed byte))
  where
    pushes : pushed (after_pushes nothing_held script) byte ≡ after_pushes nothing_held (script ++ byte ∷ [])
    pushes = sym (after_pushes-snoc nothing_held script byte)

    by_feed : (is_line_feed byte ≡ true) ⊎ (is_line_feed byte ≡ false) → (line : List ℕ) × (cut_of line ≡ cut) × (whole_lines (script ++ byte ∷ []) ≡ whole_lines script ++ line ∷ [])
    by_feed (inl feed) =
        let is : Some (cut_of (open_line script)) ≡ Some cut = ap complete_line (sym (feed_cut (open_line script) (after_pushes nothing_held script) byte feed (stands script)) ∙ pushes) ∙ done in
        (open_line script, cc, whole_lines-line_feed script byte feed)
    by_feed (inr other) =
        let is : None ≡ Some cut = ap complete_line (sym (other_cut (open_line script) (after_pushes nothing_held script) byte other (stands script)) ∙ pushes) ∙ done in
        absurd cc

-- a push that completes no line leaves the whole lines
pub none_completed : (script : List ℕ) (byte : ℕ) → complete_line (after_pushes nothing_held (script ++ byte ∷ [])) ≡ None → whole_lines (script ++ byte ∷ []) ≡ whole_lines script
none_completed script byte none = by_feed (cases_Bool (is_line_feed byte))
  where
    by_feed : (is_line_feed byte ≡ true) ⊎ (is_line_feed byte ≡ false) → whole_lines (script ++ byte ∷ []) ≡ whole_lines script
    by_feed (inl feed) =
        let is : Some (cut_of (open_line script)) ≡ None = ap complete_line (sym (feed_cut (open_line script) (after_pushes nothing_held script) byte feed (stands script)) ∙ sym (after_pushes-snoc nothing_held script byte)) ∙ none in
        absurd cc
    by_feed (inr other) = whole_lines-other script byte other

-- what is left is the last line
pub rest_is_last : (script : List ℕ) (cut : Cut) → rest_of (after_pushes nothing_held script) ≡ Some cut → (line : List ℕ) × (cut_of line ≡ cut) × (lines_of script ≡ whole_lines script ++ line ∷ [])
rest_is_last script cut some = by_bytes (open_line script) (sym (stands script).rest ∙ some) (lines_of-open script)
  where
    by_bytes : (last : List ℕ) → cut_after last ≡ Some cut → lines_of script ≡ whole_lines script ++ last_line last → (line : List ℕ) × (cut_of line ≡ cut) × (lines_of script ≡ whole_lines script ++ line ∷ [])
    by_bytes [] is lines = absurd cc
    by_bytes (b ∷ last) is lines = (b ∷ last, cc, lines)

-- where nothing is left, all lines are whole
pub no_rest : (script : List ℕ) → rest_of (after_pushes nothing_held script) ≡ None → lines_of script ≡ whole_lines script
no_rest script none = by_bytes (open_line script) (sym (stands script).rest ∙ none) (lines_of-open script)
  where
    by_bytes : (last : List ℕ) → cut_after last ≡ None → lines_of script ≡ whole_lines script ++ last_line last → lines_of script ≡ whole_lines script
    by_bytes [] is lines = lines ∙ append-nil (whole_lines script)
    by_bytes (b ∷ last) is lines = absurd cc

whole_cuts : (front more : List ℕ) (held : Holding) → Stands (open_line front) held → map cut_of (whole_lines (front ++ more)) ≡ map cut_of (whole_lines front) ++ cuts held more
whole_cuts front [] held stands = rw (append-nil front, append-nil (map cut_of (whole_lines front))) refl
whole_cuts front (byte ∷ more) held stands =
    ap (λ (text : List ℕ). map cut_of (whole_lines text)) (sym (append_assoc front (byte ∷ []) more)) ∙ whole_cuts (front ++ byte ∷ []) more (pushed held byte) (push_stands front held byte stands) ∙ by_feed (cases_Bool (is_line_feed byte))
  where
    by_feed : (is_line_feed byte ≡ true) ⊎ (is_line_feed byte ≡ false) → map cut_of (whole_lines (front ++ byte ∷ [])) ++ cuts (pushed held byte) more ≡ map cut_of (whole_lines front) ++ cons_option (complete_line (pushed held byte)) (cuts (pushed held byte) more)
    by_feed (inl feed) =
        let is : complete_line (pushed held byte) ≡ Some (cut_of (open_line front)) = ap complete_line (feed_cut (open_line front) held byte feed stands) in
        rw (is, whole_lines-line_feed front byte feed, map_push cut_of (whole_lines front) (open_line front)) (append_assoc (map cut_of (whole_lines front)) (cut_of (open_line front) ∷ []) (cuts (pushed held byte) more))
    by_feed (inr other) =
        let is : complete_line (pushed held byte) ≡ None = ap complete_line (other_cut (open_line front) held byte other stands) in
        rw (is, whole_lines-other front byte other) refl

rest_cut : (line : List ℕ) → map cut_of (last_line line) ≡ option_to_list (cut_after line)
rest_cut [] = refl
rest_cut (b ∷ line) = refl

-- the lines of a script, as they are cut, are those that its bytes complete, and the rest
pub cut_lines : (script : List ℕ) → map cut_of (lines_of script) ≡ cuts nothing_held script ++ option_to_list (rest_of (after_pushes nothing_held script))
cut_lines script =
    let line = open_line script in
    ap (map cut_of) (lines_of-open script) ∙ map-append cut_of (whole_lines script) (last_line line)
    ∙ ap (λ (front : List Cut). front ++ map cut_of (last_line line)) (whole_cuts [] script nothing_held at_start)
    ∙ ap (λ (rest : List Cut). cuts nothing_held script ++ rest) (rest_cut line ∙ ap option_to_list (sym (stands script).rest))
