-- Lines that may be printed.
use Rattle.std.proofs.Common.{◌≡◌, ℕ, zero, suc, ◌/◌, ◌%◌, ◌==◌, Bool, true, false, List, [], ◌∷◌, ◌++◌, decimal, refl, sym, ◌∙◌, append-nil, arith}
use Rattle.std.specs.Prelude.{nat_lt, slice_index, if◌then◌else◌}
use Rattle.std.specs.Fmt.{digits, digits_onto, digit_glyph}
use Rattle.std.proofs.lemmas.Bool.{false≢true}
use Rattle.std.proofs.lemmas.Bool.Decides.{nat_tests}
use Rattle.std.proofs.lemmas.List.Elements.{All-nil, All-cons}
use Rattle.tile_lines.specs.Lines.{is_line_feed, HasNoLineFeed, with_feed}
use Rattle.tile_listing.specs.Printed.{MayBePrinted, AreLinesToPrint}

-- ---- texts without a line feed

pub uncut-append : (xs ys : List ℕ) → HasNoLineFeed xs → HasNoLineFeed ys → HasNoLineFeed (xs ++ ys)
uncut-append [] ys none others = others
uncut-append (x ∷ xs) ys (other, none) others = (other, uncut-append xs ys none others)

digit_other : (n : ℕ) → is_line_feed (digit_glyph false (n % 10)) ≡ false
digit_other n = let low : nat_lt (n % 10) 10 ≡ true = grind (arith, nat_tests) in rw low (grind (arith, nat_tests))

pub one_of : (q : Bool) (xs ys : List ℕ) → HasNoLineFeed xs → HasNoLineFeed ys → HasNoLineFeed (if q then xs else ys)
one_of true xs ys first second = first
one_of false xs ys first second = second

digits_uncut : (k n : ℕ) (following : List ℕ) → HasNoLineFeed following → HasNoLineFeed (digits_onto k 10 false n following)
digits_uncut zero n following none = none
digits_uncut (suc k) n following none = one_of (n / 10 == 0) _ _ (digit_other n, none) (digits_uncut k (n / 10) (digit_glyph false (n % 10) ∷ following) (digit_other n, none))

pub decimal_uncut : (n : ℕ) → HasNoLineFeed (decimal n)
unfolding digits
decimal_uncut n = digits_uncut 64 n [] tt

-- ---- lines to print

-- a line whose third byte is neither that of `line ` nor missing, as in `ok`
pub may_print : (line : List ℕ) → HasNoLineFeed line → (slice_index line 2 == 110) ≡ false → (slice_index line 2 == 0) ≡ false → MayBePrinted line
may_print line uncut other there = record {
  uncut = uncut;
  unlike_ok = λ e. let same : (slice_index line 2 == 0) ≡ true = rw e refl in false≢true (sym there ∙ same);
  other = λ rest e. let same : (slice_index line 2 == 110) ≡ true = rw e refl in false≢true (sym other ∙ same);
}

pub none_to_print : AreLinesToPrint []
none_to_print = record { lines = []; spelled = refl; each = All-nil MayBePrinted }

pub one_to_print : (line : List ℕ) → MayBePrinted line → AreLinesToPrint (with_feed line)
one_to_print line may = record { lines = line ∷ []; spelled = sym (append-nil (with_feed line)); each = All-cons MayBePrinted line [] may (All-nil MayBePrinted) }
