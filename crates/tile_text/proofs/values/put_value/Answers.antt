use Rattle.std.proofs.Common.{◌≡◌, ◌++◌, List, ℕ, refl, ap, ◌∙◌}
use Rattle.std.proofs.lemmas.Result.{on_ok_weaker, on_err_weaker}
use Rattle.mvt_value.specs.declared.value.Value.{Value}
use Rattle.mvt_value.specs.declared.value.Value.TheVariants as shown
use Rattle.tile_text.specs.Extends.{Extends}
use Rattle.tile_text.specs.TextStands.{shown_form, type_word, rest_form}
use Rattle.tile_text.proofs.Writing.{extends_more, next_written, next_begun, raw_whole}
use Rattle.tile_text.proofs.values.put_value.Goals as goal

shown_whole : (value : Value) → type_word value ++ rest_form value ≡ shown_form value
shown_whole (shown.Text text) = refl
shown_whole (shown.Float4 bytes) = refl
shown_whole (shown.Double8 bytes) = refl
shown_whole (shown.Int number) = refl
shown_whole (shown.Uint number) = refl
shown_whole (shown.Sint number) = refl
shown_whole (shown.Bool truth) = refl
shown_whole (shown.Raw bytes) = raw_whole bytes.now

pub returns-clause-ok : goal.returns-clause-ok
returns-clause-ok c =
    let line = c.args.line.now.items in
    let value = c.args.value in
    on_ok_weaker c.put_rest.result
    (next_written line _ _ (type_word value) (rest_form value) (shown_form value) (shown_whole value) (c.in_ok-extend_from_slice.ensures.items ∙ ap (λ (xs : List ℕ). line ++ xs) c.type_word.ensures))
    c.put_rest.ensures.ok

pub returns-clause-kept : goal.returns-clause-kept
returns-clause-kept c =
    let front : Extends c.args.line.now.items c.extend_from_slice.new.self.items = record { added = _; whole = c.in_ok-extend_from_slice.ensures.items } in
    extends_more _ _ _ front c.put_rest.ensures.kept

pub returns-clause-err : goal.returns-clause-err
returns-clause-err c =
    let line = c.args.line.now.items in
    let value = c.args.value in
    on_err_weaker c.put_rest.result
    (next_begun line _ _ (type_word value) (rest_form value) (shown_form value) (shown_whole value) (c.in_ok-extend_from_slice.ensures.items ∙ ap (λ (xs : List ℕ). line ++ xs) c.type_word.ensures))
    c.put_rest.ensures.err
