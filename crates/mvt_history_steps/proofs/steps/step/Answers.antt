use Rattle.std.proofs.Common.{◌≡◌, ℕ, ◌-◌, List, length, refl, None, slice_get, slice_set, sym, ap, ◌∙◌, arith}
use Rattle.std.proofs.lemmas.List.{length-set}
use Rattle.circular_buffer.specs.Buffer.{Buffer}
use Rattle.mvt_document.specs.Stands.{document_of}
use Rattle.mvt_change.specs.declared.change.Change.{Change}
use Rattle.mvt_history_steps.specs.Held.{from_last}
use Rattle.mvt_history_steps.proofs.Stepping.{last_fits, same_put_back, same_walk, step_taken, has_last, on_refusal}
use Rattle.mvt_history_steps.proofs.steps.step.Goals as goal
use Rattle.mvt_history_steps.proofs.steps.step.Goals.{in-Some+in_ok-flip, in_default}

pub flip-requires : goal.flip-requires
flip-requires c =
    let from = c.args.from.now.items in
    let at = ap (λ n. slice_get from (n - 1)) c.len-count.ensures.len in
    last_fits from c.in-Some.change.now (document_of c.args.document.now) (sym (c.in-Some.ensures.value ∙ at)) c.requires.fits

pub returns-in_err-flip-clause-walk : goal.returns-in_err-flip-clause-walk
returns-in_err-flip-clause-walk c =
    let from = c.args.from.now.items in
    let flipped = c.flip.new.change in
    let at = ap (λ n. slice_get from (n - 1)) c.len-count.ensures.len in
    let set_at = ap (λ n. from_last (slice_set from (n - 1) flipped)) c.len-count.ensures.len in
    same_walk _ _ _ _ _ _
    c.in_err-flip.ensures.document
    (set_at ∙ same_put_back from c.in-Some.change.now flipped (sym (c.in-Some.ensures.value ∙ at)) c.in_err-flip.ensures.change)
    refl
    ∙ sym (on_refusal c.from_residual.result _ _ c.from_residual.ensures.0)

-- the change before the count is there
some_left : (changes : List Change) (count : ℕ) → count ≡ length changes → ¬ (count ≡ 0) → None ≡ slice_get changes (count - 1) → ⊥
some_left changes count long some none =
    has_last changes (omega (arith, long, some)) (none ∙ ap (λ n. slice_get changes (n - 1)) long)

pub returns-in-Some-pop_back-clause-walk : goal.returns-in-Some-pop_back-clause-walk
returns-in-Some-pop_back-clause-walk c =
    let from = c.args.from.now.items in
    let to = c.args.to.now in
    let count = c.len-count.ensures.len in
    let items : Buffer Change → List Change = λ buffer. buffer.items in
    elim c.match-get_mut.branch [
      | in-Some+in_ok-flip w ↦
          let flipped = w.flip.new.change in
          let at = ap (λ n. slice_get from (n - 1)) count in
          let set_at = ap (λ n. slice_set from (n - 1) flipped) count in
          same_walk _ _ _ _ _ _ refl (ap from_last (ap items c.in-Some-pop_back.ensures.items)) (ap from_last (ap items c.push_back.ensures.items))
          ∙ step_taken from to.items c.match-get_mut.from.items to.capacity w.in-Some.change.now flipped c.in-Some-pop_back.change (document_of c.args.document.now) (document_of c.match-get_mut.document)
          (sym (w.in-Some.ensures.value ∙ at))
          c.requires.room
          (ap items w.from-is ∙ set_at)
          c.in-Some-pop_back.ensures.value
          (ap document_of w.document-is ∙ w.in_ok-flip.ensures.document)
          w.in_ok-flip.ensures.change
      | in_default w ↦ absurd (some_left from c.len-count.result count c.if-count-eq0.false w.in_default.ensures.value)
    ]

pub returns-in_default-pop_back-clause-walk : goal.returns-in_default-pop_back-clause-walk
returns-in_default-pop_back-clause-walk c =
    let from = c.args.from.now.items in
    let count = c.len-count.ensures.len in
    let items : Buffer Change → List Change = λ buffer. buffer.items in
    elim c.match-get_mut.branch [
      | in-Some+in_ok-flip w ↦
          let held = c.match-get_mut.from.items in
          let long : length held ≡ length from = ap (λ buffer. length (items buffer)) w.from-is ∙ length-set from (c.len-count.result - 1) w.flip.new.change in
          absurd (some_left held (length held) refl (omega (arith, count, long, c.if-count-eq0.false)) c.in_default-pop_back.ensures.value)
      | in_default w ↦ absurd (some_left from c.len-count.result count c.if-count-eq0.false w.in_default.ensures.value)
    ]
