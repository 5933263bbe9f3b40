use Rattle.std.proofs.Common.{◌≡◌, ℕ, suc, List, length, eqb, sym, ap, ◌∙◌, arith}
use Rattle.tile_lines.specs.Words.{Word, word_at, taken}
use Rattle.tile_lines.proofs.Repeats.{taken_some, taken_none}
use Rattle.tile_lines.proofs.Short.{word_short}
use Rattle.tile_lines.proofs.Counted.{number_found}
use Rattle.tile_lines.proofs.words.count_words.Goals as goal

pub loop-after-preserved : goal.loop-after-preserved
loop-after-preserved c =
    let whole = taken_some word_at word_short c.loop-after.rest.now _ c.in-Some.after.now (sym c.in-Some.ensures.value) in
    let words : length (taken word_at c.loop-after.rest.now).0 ≡ suc (length (taken word_at c.in-Some.after.now).0) = ap (λ (t : List Word × List ℕ). length t.0) whole in
    record {
      counted = omega (arith, words, c.loop-after.invariant.counted);
      left = ap (λ (t : List Word × List ℕ). t.1) (sym whole) ∙ c.loop-after.invariant.left;
      within = omega (arith, c.loop-after.invariant.within, c.in-Some.ensures.shorter);
    }

pub returns : goal.returns
returns c =
    let whole = taken_none word_at word_short c.loop-after.rest.now (sym c.in_default.ensures.value) in
    let left : (taken word_at c.args.line.now).1 ≡ c.loop-after.rest.now = sym c.loop-after.invariant.left ∙ ap (λ (t : List Word × List ℕ). t.1) whole in
    let none : length (taken word_at c.loop-after.rest.now).0 ≡ 0 = ap (λ (t : List Word × List ℕ). length t.0) whole in
    let blank = c.is_empty.ensures ∙ ap (λ (bytes : List ℕ). eqb (length bytes) 0) c.after_blanks.ensures in
    c.then_some.ensures ∙ number_found c.args.line.now c.loop-after.rest.now c.loop-after.count c.is_empty.result left (omega (arith, c.loop-after.invariant.counted, none)) blank
