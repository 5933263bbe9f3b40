-- The lines that were read of a script, each with its line feed, as a prefix of it.
use Rattle.std.proofs.Common.{◌≡◌, ℕ, ◌<◌, Bool, true, false, cond, List, [], ◌∷◌, ◌++◌, length, take, drop, refl, sym, ap, subst, ◌∙◌, inl, inr, append_assoc, append-nil, length-append, arith}
use Rattle.std.specs.List.{AllByRecursion, flat_map, slice_split, onto_first}
use Rattle.std.proofs.lemmas.Bool.{cases_Bool, eqb-true}
use Rattle.std.proofs.lemmas.List.{take-append-drop}
use Rattle.mvt_document.proofs.EachItem.{all_apart}
use Rattle.tile_device.specs.Seen.{Intake, IsPrefix}
use Rattle.tile_lines.specs.Lines.{is_line_feed, last_line, without_last, whole_lines, lines_of, HasNoLineFeed, with_feed, EndsWithALine, SpellsLines}
use Rattle.tile_lines.proofs.LineLaws.{lines_found, lines_only}
use Rattle.tile_lines.proofs.WholeLines.{open_line, lines_of-open}
use Rattle.tile_course.specs.Course.{lines_in}
use Rattle.tile_course.specs.declared.limits.TheConstants.{MAX_SCRIPT}
use Rattle.tile_course.proofs.ReplyEnds.{ends-append}
use Rattle.run_laws.specs.FaultLaws.{script_in, ScriptsAreReadByLines}

-- ---- prefixes

pub prefix_on : (front text whole : List ℕ) → IsPrefix front text → IsPrefix text whole → IsPrefix front whole
prefix_on front text whole first second =
    (first.0 ++ second.0, second.1 ∙ ap (λ (t : List ℕ). t ++ second.0) first.1 ∙ append_assoc front first.0 second.0)

prefix_taken : (size : ℕ) (text : List ℕ) → IsPrefix (take size text) text
prefix_taken size text = (drop size text, sym (take-append-drop size text))

-- a line with its line feed, and then a prefix of what follows
fed_prefix : (text line rest front : List ℕ) → text ≡ line ++ 10 ∷ rest → IsPrefix front rest → IsPrefix (with_feed line ++ front) text
fed_prefix text line rest front whole others =
    (others.0, whole ∙ ap (λ (t : List ℕ). line ++ 10 ∷ t) others.1 ∙ sym (append_assoc line (10 ∷ []) (front ++ others.0)) ∙ sym (append_assoc (with_feed line) front others.0))

-- ---- lines with their line feeds

-- no line of a script has a line feed
none_cut : (script : List ℕ) (lines : List (List ℕ)) → SpellsLines script lines → AllByRecursion HasNoLineFeed lines
none_cut script [] spells = tt
none_cut script (line ∷ lines) (uncut, inl (rest, whole, others)) = (uncut, none_cut rest lines others)
none_cut script (line ∷ lines) (uncut, inr (whole, some, last)) = (uncut, subst (AllByRecursion HasNoLineFeed) (sym last) tt)

-- lines with no line feed in them, each with one after it, are the lines of that text
fed_spell : (lines : List (List ℕ)) → AllByRecursion HasNoLineFeed lines → SpellsLines (flat_map with_feed lines) lines
fed_spell [] each = refl
fed_spell (line ∷ lines) (uncut, each) = (uncut, inl (flat_map with_feed lines, append_assoc line (10 ∷ []) (flat_map with_feed lines), fed_spell lines each))

fed_lines : (lines : List (List ℕ)) → AllByRecursion HasNoLineFeed lines → lines_of (flat_map with_feed lines) ≡ lines
fed_lines lines each = lines_only (flat_map with_feed lines) lines (fed_spell lines each)

fed_ends : (lines : List (List ℕ)) → EndsWithALine (flat_map with_feed lines)
fed_ends [] = inl refl
fed_ends (line ∷ lines) = ends-append (with_feed line) (flat_map with_feed lines) (inr (line, refl)) (fed_ends lines)

-- ---- the lines of a script before one of them

-- their bytes are a prefix of the script that ends with a line, and they are its lines; more of the script follows
pub record IsFront (script : List ℕ) (first : List (List ℕ)) : Type 0 where
  pub prefix : IsPrefix (flat_map with_feed first) script
  pub some : 0 < length prefix.0
  pub ends : EndsWithALine (flat_map with_feed first)
  pub lines : lines_of (flat_map with_feed first) ≡ first

spelled_before : (script : List ℕ) (first : List (List ℕ)) (line : List ℕ) (more : List (List ℕ)) → SpellsLines script (first ++ line ∷ more) → IsPrefix (flat_map with_feed first) script
spelled_before script [] line more spells = (script, refl)
spelled_before script (next ∷ first) line more (uncut, inl (rest, whole, others)) =
    fed_prefix script next rest (flat_map with_feed first) whole (spelled_before rest first line more others)
spelled_before script (next ∷ first) line more (uncut, inr (whole, some, last)) = absurd (omega (arith, ap length last, length-append first (line ∷ more)))

-- a line follows, so the bytes are not the whole script
more_follows : (script : List ℕ) (first : List (List ℕ)) (line : List ℕ) (more : List (List ℕ)) (others : List ℕ) → lines_of script ≡ first ++ line ∷ more
    → script ≡ flat_map with_feed first ++ others → lines_of (flat_map with_feed first) ≡ first → 0 < length others
more_follows script first line more [] split whole lines =
    let same : first ++ line ∷ more ≡ first = sym split ∙ ap lines_of (whole ∙ append-nil (flat_map with_feed first)) ∙ lines in
    absurd (omega (arith, ap length same, length-append first (line ∷ more)))
more_follows script first line more (b ∷ others) split whole lines = omega arith

pub lines_before : (script : List ℕ) (first : List (List ℕ)) (line : List ℕ) (more : List (List ℕ)) → lines_of script ≡ first ++ line ∷ more → IsFront script first
lines_before script first line more split =
    let spells : SpellsLines script (first ++ line ∷ more) = subst (SpellsLines script) split (lines_found script) in
    let prefix = spelled_before script first line more spells in
    let lines = fed_lines first (all_apart HasNoLineFeed first (line ∷ more) (none_cut script (first ++ line ∷ more) spells)).0 in
    record { prefix = prefix; some = more_follows script first line more prefix.0 split prefix.1 lines; ends = fed_ends first; lines = lines }

-- ---- the lines that end with a line feed

-- the parts, with a line feed between each two, make up the text
abbrev MakeUp : List (List ℕ) → List ℕ → Type 0
MakeUp [] text = ⊥
MakeUp (part ∷ []) text = text ≡ part
MakeUp (part ∷ next ∷ parts) text = (rest : List ℕ) × (text ≡ part ++ 10 ∷ rest) × MakeUp (next ∷ parts) rest

feed_first : (parts : List (List ℕ)) (text : List ℕ) → MakeUp parts text → MakeUp ([] ∷ parts) (10 ∷ text)
feed_first [] text parted = absurd parted
feed_first (part ∷ parts) text parted = (text, refl, parted)

other_first : (b : ℕ) (parts : List (List ℕ)) (text : List ℕ) → MakeUp parts text → MakeUp (onto_first b parts) (b ∷ text)
other_first b [] text parted = absurd parted
other_first b (part ∷ []) text parted = ap (λ (t : List ℕ). b ∷ t) parted
other_first b (part ∷ next ∷ parts) text parted = (parted.0, ap (λ (t : List ℕ). b ∷ t) parted.1, parted.2)

parts_make_up : (text : List ℕ) → MakeUp (slice_split is_line_feed text) text
parts_make_up [] = refl
parts_make_up (b ∷ text) = by_feed (is_line_feed b) refl (parts_make_up text)
  where
    by_feed : (q : Bool) → is_line_feed b ≡ q → MakeUp (slice_split is_line_feed text) text → MakeUp (cond q ([] ∷ slice_split is_line_feed text) (onto_first b (slice_split is_line_feed text))) (b ∷ text)
    by_feed true feed parted =
        subst (λ (c : ℕ). MakeUp ([] ∷ slice_split is_line_feed text) (c ∷ text)) (sym (eqb-true b 10 feed)) (feed_first (slice_split is_line_feed text) text parted)
    by_feed false other parted = other_first b (slice_split is_line_feed text) text parted

fed_parts : (parts : List (List ℕ)) (text : List ℕ) → MakeUp parts text → IsPrefix (flat_map with_feed (without_last parts)) text
fed_parts [] text parted = absurd parted
fed_parts (part ∷ []) text parted = (text, refl)
fed_parts (part ∷ next ∷ parts) text parted =
    fed_prefix text part parted.0 (flat_map with_feed (without_last (next ∷ parts))) parted.1 (fed_parts (next ∷ parts) parted.0 parted.2)

whole_lines_prefix : (text : List ℕ) → IsPrefix (flat_map with_feed (whole_lines text)) text
whole_lines_prefix text = fed_parts (slice_split is_line_feed text) text (parts_make_up text)

whole_lines_fed : (text : List ℕ) → lines_of (flat_map with_feed (whole_lines text)) ≡ whole_lines text
whole_lines_fed text =
    let each = subst (AllByRecursion HasNoLineFeed) (lines_of-open text) (none_cut text (lines_of text) (lines_found text)) in
    fed_lines (whole_lines text) (all_apart HasNoLineFeed (whole_lines text) (last_line (open_line text)) each).0

-- ---- what was read

pub read_whole : (script : Intake) → script.is_whole ≡ true → script_in script ≡ script.bytes
read_whole script whole = rw whole refl

pub read_prefix : (script : Intake) → IsPrefix (script_in script) script.bytes
read_prefix script =
    elim (cases_Bool script.is_whole) [
      | inl whole ↦ rw whole ([], sym (append-nil script.bytes))
      | inr cut ↦ (
          let text = take MAX_SCRIPT script.bytes in
          rw cut (prefix_on (flat_map with_feed (whole_lines text)) text script.bytes (whole_lines_prefix text) (prefix_taken MAX_SCRIPT script.bytes))
          )
    ]

pub read_lines : (script : Intake) → lines_of (script_in script) ≡ lines_in script
read_lines script =
    elim (cases_Bool script.is_whole) [
      | inl whole ↦ rw whole refl
      | inr cut ↦ rw cut (whole_lines_fed (take MAX_SCRIPT script.bytes))
    ]

pub read_by_lines : ScriptsAreReadByLines
read_by_lines script = (read_prefix script, read_lines script)
