use Rattle.std.proofs.Common.{◌≡◌, ℕ, inl, inr, List, [], ◌∷◌, ◌++◌, map, Result, Ok, Err, sym, ap, ◌∙◌, rules, arith}
use Rattle.std.proofs.lemmas.List.{map_push}
use Rattle.tile_lines.specs.declared.words.Word.{Word}
use Rattle.tile_lines.specs.declared.parse_error.ParseError.{ParseError}
use Rattle.tile_lines.specs.WordStands.{word_of}
use Rattle.tile_arguments.specs.Arguments.{text_of, texts_of}
use Rattle.tile_arguments.proofs.Each.{onto_next, onto_stops, onto_all, each-map}
use Rattle.tile_lines.specs.declared.parse_error.ParseError.TheVariants.{BadArguments}
use Rattle.tile_arguments.proofs.Judged.{only_refused, texts_only, texts_said}
use Rattle.tile_arguments.proofs.texts.text_arguments.Goals as goal

abbrev read : Word → Result (List ℕ) ParseError
read w = text_of (word_of w)

pub loop-word-preserved : goal.loop-word-preserved
loop-word-preserved c =
    let texts : map (λ text. text.items) c.push.new.self.items ≡ map (λ text. text.items) c.loop-word.texts.items ++ c.in_ok-text_argument.field-0.items ∷ [] = rw c.in_ok-push.ensures.items (map_push (λ text. text.items) c.loop-word.texts.items c.in_ok-text_argument.field-0) in
    rw texts (onto_next read c.args.words.now c.loop-word.word-index _ (map (λ text. text.items) c.loop-word.texts.items) c.in_ok-text_argument.field-0.items c.loop-word-test.true c.in_ok-text_argument.ensures.answer c.loop-word.invariant)

pub returns-in_err-text_argument-clause-answer : goal.returns-in_err-text_argument-clause-answer
unfolding texts_of
returns-in_err-text_argument-clause-answer c =
    let refused : c.from_residual-in_err-text_argument.result ≡ Err c.in_err-text_argument.field-0.0 = search rules in
    rw refused (elim c.in_err-text_argument.ensures.answer [
      | inl short_of_memory ↦ inl short_of_memory
      | inr e ↦ inr (each-map text_of word_of c.args.words.now ∙ onto_stops read c.args.words.now c.loop-word.word-index _ (map (λ text. text.items) c.loop-word.texts.items) c.in_err-text_argument.field-0.0 c.loop-word-test.true e c.loop-word.invariant)
    ])

pub returns-clause-answer : goal.returns-clause-answer
unfolding texts_of
returns-clause-answer c =
    each-map text_of word_of c.args.words.now
    ∙ onto_all read c.args.words.now c.loop-word.word-index (map (λ text. text.items) c.loop-word.texts.items) c.loop-word-test.false c.loop-word.invariant
    ∙ ap (λ texts. Ok (map (λ text. text.items) texts)) (sym c.from_vec.ensures.items)

pub returns-then-not-are_texts-clause-answer : goal.returns-then-not-are_texts-clause-answer
returns-then-not-are_texts-clause-answer c =
    inr (only_refused BadArguments (texts_of (map word_of c.args.words.now)) (texts_only (map word_of c.args.words.now)) (texts_said c.args.words.now ∙ sym c.are_texts.ensures ∙ c.if-not-are_texts.true))

pub returns-in_err-texts-clause-no_memory : goal.returns-in_err-texts-clause-no_memory
returns-in_err-texts-clause-no_memory c = λ memory. (grind arith, texts_said c.args.words.now ∙ sym c.are_texts.ensures ∙ c.if-not-are_texts.false)

pub returns-in_err-text_argument-clause-no_memory : goal.returns-in_err-text_argument-clause-no_memory
returns-in_err-text_argument-clause-no_memory c = λ memory. (grind arith, texts_said c.args.words.now ∙ sym c.are_texts.ensures ∙ c.if-not-are_texts.false)

pub returns-in_err-push-clause-no_memory : goal.returns-in_err-push-clause-no_memory
returns-in_err-push-clause-no_memory c = λ memory. (grind arith, texts_said c.args.words.now ∙ sym c.are_texts.ensures ∙ c.if-not-are_texts.false)
