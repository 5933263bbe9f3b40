use Rattle.std.proofs.Common.{[], ◌++◌, length-append, refl, sym, ap, ◌∙◌, subst, append_assoc, arith}
use Rattle.std.proofs.lemmas.List.{append-nil, nil_from_length}
use Rattle.std.specs.Slice.Iter.{chunks_rest}
use Rattle.mvt_document.specs.Runs.{AreRunsOf}
use Rattle.mvt_document.proofs.run.runs_of.Goals as goal

pub loop-part-preserved : goal.loop-part-preserved
loop-part-preserved g c =
    let before = c.loop-part.invariant.before in
    let part = c.in-Some.part.now in
    record {
      before = before ++ part;
      runs = c.runs_with_part-runs.ensures before c.loop-part.invariant.runs c.loop-part.invariant.seen;
      seen = omega (arith, c.loop-part.invariant.seen, length-append before part);
      whole = c.loop-part.invariant.whole ∙ ap (λ xs. before ++ xs) c.in-Some.ensures.steps.1.0 ∙ sym (append_assoc before part (chunks_rest c.next.new.self));
    }

pub loop-part-init : goal.loop-part-init
loop-part-init g c =
    let known = c.unknown-runs.ensures [] in
    record {
      before = [];
      runs = record { names = known.0; messages = known.1; keys = known.2; values = known.3 };
      seen = refl;
      whole = sym (ap chunks_rest c.into_iter-part-iterator.ensures.into_iter_gives ∙ c.chunks-part-items.ensures.rest);
    }

pub returns : goal.returns
returns g c =
    let before = c.loop-part.invariant.before in
    let none = nil_from_length (chunks_rest c.loop-part.part-iterator) c.in-None.ensures.steps.1.0 in
    subst (AreRunsOf g.T.Item.of_kind c.loop-part.runs) (sym (c.loop-part.invariant.whole ∙ ap (λ rest. before ++ rest) none ∙ append-nil before)) c.loop-part.invariant.runs
