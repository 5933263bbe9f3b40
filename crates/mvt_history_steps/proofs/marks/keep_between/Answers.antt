use Rattle.std.proofs.Common.{◌≡◌, ◌≤◌, ◌++◌, All, filter, length, map, get_or, set, take, drop, refl, sym, ap, subst, ◌∙◌, arith, rules}
use Rattle.std.proofs.lemmas.Fn.{filter_same}
use Rattle.std.proofs.lemmas.List.{take_at}
use Rattle.std.proofs.lemmas.List.Edits.{map_over_more}
use Rattle.mvt_history_steps.specs.Held.{mark_of}
use Rattle.mvt_history_steps.specs.Marks.{counted_from}
use Rattle.mvt_history_steps.proofs.Lowered.{is_within, lowered, kept_no_lower, not_yet_lowered, all_lowered, counted_kept}
use Rattle.mvt_history_steps.proofs.marks.keep_between.Goals as goal

pub loop-mark-init : goal.loop-mark-init
loop-mark-init c =
    let low = c.args.low in
    let high = c.args.high in
    let kept = filter_same _ (is_within low high) _ (λ mark b f called. search rules) c.args.marks.now.items c.retain.new.self.items c.retain.ensures.filtered in
    record {
      lowered = refl;
      no_lower = subst (All (λ mark. low ≤ mark.point)) (sym (c.deref_mut-mark-items.ensures.value ∙ kept)) (kept_no_lower low high c.args.marks.now.items);
    }

pub overflow_sub-mark : goal.overflow_sub-mark
overflow_sub-mark c =
    let low = c.args.low in
    let kept = c.deref_mut-mark-items.result.now in
    let place = c.loop-mark.mark-index in
    let mark = c.mark-item.result in
    let same = ap (λ marks. get_or marks place mark) c.loop-mark.invariant.lowered ∙ not_yet_lowered low place kept mark c.loop-mark-test.true in
    subst (λ mark. low ≤ mark.point) (sym same) (c.loop-mark.invariant.no_lower place mark c.loop-mark-test.true)

pub loop-mark-preserved : goal.loop-mark-preserved
loop-mark-preserved c =
    let low = c.args.low in
    let kept = c.deref_mut-mark-items.result.now in
    let marks = c.loop-mark.mark-items in
    let place = c.loop-mark.mark-index in
    let mark = c.mark-item.result in
    record {
      lowered = ap (λ mark. set marks place (lowered low mark)) (sym c.mark-item.is) ∙ map_over_more (lowered low) kept marks place mark c.loop-mark-test.true c.loop-mark.invariant.lowered c.mark-item.is;
      no_lower = c.loop-mark.invariant.no_lower;
    }

pub returns : goal.returns
returns c =
    let low = c.args.low in
    let high = c.args.high in
    let kept = c.deref_mut-mark-items.result.now in
    let marks = c.loop-mark.mark-items in
    let place = c.loop-mark.mark-index in
    let left = filter_same _ (is_within low high) _ (λ mark b f called. search rules) c.args.marks.now.items c.retain.new.self.items c.retain.ensures.filtered in
    let all : marks ≡ map (lowered low) (filter (is_within low high) c.args.marks.now.items) =
    c.loop-mark.invariant.lowered ∙ all_lowered low place kept c.loop-mark-test.false ∙ ap (map (lowered low)) (c.deref_mut-mark-items.ensures.value ∙ left) in
    let back : take c.retain.new.self.len (marks ++ drop (length marks) c.retain.new.self.items) ≡ marks = take_at marks (drop (length marks) c.retain.new.self.items) c.retain.new.self.len (omega (arith, c.retain.new.self.ok.0, c.deref_mut-mark-items.ensures.len)) in
    ap (λ marks. map (counted_from low) (map mark_of marks)) (back ∙ all) ∙ counted_kept low high c.args.marks.now.items
