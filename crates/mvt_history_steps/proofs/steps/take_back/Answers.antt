use Rattle.std.proofs.Common.{◌≡◌, ◌-◌, ◌<◌, List, Vec, Global, length, take, drop, slice_set, refl, ap, ◌∙◌, arith}
use Rattle.std.proofs.lemmas.Bool.{false≢true}
use Rattle.mvt_document.specs.Stands.{document_of}
use Rattle.mvt_change.specs.Joining.{go_along}
use Rattle.mvt_change.specs.declared.change.Change.{Change}
use Rattle.mvt_history_steps.specs.Held.{from_last}
use Rattle.mvt_history_steps.proofs.Stepping.{last_fits, left_before, length_from_last, others_left, same_put_back, shown_last, taken_further}
use Rattle.mvt_history_steps.proofs.steps.take_back.Goals as goal
use Rattle.mvt_history_steps.proofs.steps.take_back.Goals.{in-Some+else-is_err, in_default}

pub loop-taken-init : goal.loop-taken-init
loop-taken-init c = record { document = refl; rest = refl; fit = c.requires }

pub flip-requires : goal.flip-requires
flip-requires c =
    let changes = c.loop-taken.changes in
    let change = c.in-Some.change.now in
    let is = shown_last changes.items changes.len change changes.ok.0 (c.in-Some.ensures.variant.0 refl) c.in-Some.ensures.value in
    last_fits changes.items change (document_of c.loop-taken.document) is c.loop-taken.invariant.fit

pub returns-then-is_err-clause-document : goal.returns-then-is_err-clause-document
returns-then-is_err-clause-document c =
    let same = rw c.if-is_err.ensures.negation at c.flip.ensures.document in
    same ∙ c.loop-taken.invariant.document

pub returns-then-is_err-clause-changes : goal.returns-then-is_err-clause-changes
returns-then-is_err-clause-changes c =
    let changes = c.loop-taken.changes in
    let change = c.in-Some.change.now in
    let flipped = c.flip.new.change in
    let is = shown_last changes.items changes.len change changes.ok.0 (c.in-Some.ensures.variant.0 refl) c.in-Some.ensures.value in
    let same = rw c.if-is_err.ensures.negation at c.flip.ensures.change in
    ap (λ n. from_last (slice_set changes.items (n - 1) flipped)) changes.ok.0 ∙ same_put_back changes.items change flipped is same ∙ c.loop-taken.invariant.rest

pub loop-taken-preserved : goal.loop-taken-preserved
loop-taken-preserved c =
    let changes = c.loop-taken.changes in
    let held = c.match-last_mut.changes in
    let items : Vec Change Global → List Change = λ vector. vector.items in
    elim c.match-last_mut.branch [
      | in-Some+else-is_err w ↦
          let change = w.in-Some.change.now in
          let flipped = w.flip.new.change in
          let is = shown_last changes.items changes.len change changes.ok.0 (w.in-Some.ensures.variant.0 refl) w.in-Some.ensures.value in
          let made = rw w.if-is_err.ensures.negation at w.flip.ensures.document in
          taken_further _ _ _ _ c.loop-taken.taken _ _ _ c.loop-taken.invariant
          (left_before changes.items held.items c.pop.new.self.items change flipped is
          (ap items w.changes-is ∙ ap (λ n. slice_set changes.items (n - 1) flipped) changes.ok.0)
          (c.pop.ensures.rest ∙ ap (λ n. take (n - 1) held.items) held.ok.0))
          (ap document_of w.document-is ∙ made)
      | in_default w ↦
          let all = c.args.changes.now in
          let more : c.loop-taken.taken < length (from_last all.items) = omega (arith, c.loop-taken-test.true, c.len-count.ensures, all.ok.0, length_from_last all.items) in
          let left = others_left _ _ _ _ c.loop-taken.taken c.loop-taken.invariant more in
          absurd (false≢true (w.in_default.ensures.variant.1 (omega (arith, left, length_from_last changes.items, changes.ok.0))))
    ]

pub returns-clause-document : goal.returns-clause-document
returns-clause-document c =
    let changes = c.args.changes.now in
    let all : c.loop-taken.taken ≡ length changes.items = omega (arith, c.loop-taken.auto.taken-end, c.loop-taken-test.false, c.len-count.ensures, changes.ok.0) in
    c.loop-taken.invariant.document ∙ ap (λ n. go_along (take n (from_last changes.items)) (document_of c.args.document.now)) all

pub returns-clause-changes : goal.returns-clause-changes
returns-clause-changes c =
    let changes = c.args.changes.now in
    let all : c.loop-taken.taken ≡ length changes.items = omega (arith, c.loop-taken.auto.taken-end, c.loop-taken-test.false, c.len-count.ensures, changes.ok.0) in
    c.loop-taken.invariant.rest ∙ ap (λ n. drop n (from_last changes.items)) all
