use Rattle.std.proofs.Common.{◌≡◌, ◌≤◌, [], ◌∷◌, ◌++◌, map, sym, arith}
use Rattle.std.proofs.lemmas.List.{map_push}
use Rattle.tile_lines.specs.Words.{word_at, taken, words_of}
use Rattle.tile_lines.specs.WordStands.{word_of}
use Rattle.tile_lines.proofs.Repeats.{goes_on, ends}
use Rattle.tile_lines.proofs.Short.{word_short}
use Rattle.tile_lines.proofs.Counted.{found_words, some_counted, one_found}
use Rattle.tile_lines.proofs.words.words_of.Goals as goal

pub loop-word-preserved : goal.loop-word-preserved
loop-word-preserved c =
    let more : map word_of c.push.new.self.items ≡ map word_of c.loop-word.words.items ++ word_of c.in-Some-word_at.word ∷ [] = rw c.in_ok-push.ensures.items (map_push word_of c.loop-word.words.items c.in-Some-word_at.word) in
    rw more (goes_on word_at word_short (map word_of c.loop-word.words.items) c.loop-word.rest.now (word_of c.in-Some-word_at.word) c.in-Some-word_at.after.now (taken word_at c.args.line.now) (sym c.in-Some-word_at.ensures.value) c.loop-word.invariant)

pub returns-clause-answer : goal.returns-clause-answer
returns-clause-answer c =
    let words = map word_of c.loop-word.words.items in
    let all = ends word_at word_short words c.loop-word.rest.now (taken word_at c.args.line.now) (sym c.in_default-word_at.ensures.value) c.loop-word.invariant in
    found_words c.args.line.now words c.loop-word.rest.now c.in-Some.count c.in-Some.ensures all

pub returns-in_err-words-clause-no_memory : goal.returns-in_err-words-clause-no_memory
returns-in_err-words-clause-no_memory c = λ memory.
    let some : 1 ≤ c.in-Some.count = grind arith in
    some_counted (words_of c.args.line.now) c.in-Some.count c.in-Some.ensures some

pub returns-in_err-push-clause-no_memory : goal.returns-in_err-push-clause-no_memory
returns-in_err-push-clause-no_memory c = λ memory.
    one_found c.args.line.now c.loop-word.rest.now c.in-Some-word_at.after.now (map word_of c.loop-word.words.items) (word_of c.in-Some-word_at.word) c.in-Some.count c.in-Some.ensures (sym c.in-Some-word_at.ensures.value) c.loop-word.invariant
