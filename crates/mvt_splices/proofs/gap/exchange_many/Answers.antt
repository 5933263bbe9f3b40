use Rattle.std.proofs.Common.{◌≡◌, ◌-◌, ◌++◌, take, drop, vec_len, ap, ◌∙◌, arith}
use Rattle.mvt_splices.proofs.Gaps.{put_traded}
use Rattle.mvt_splices.proofs.gap.exchange_many.Goals as goal

pub returns-clause-put : goal.returns-clause-put
returns-clause-put g c =
    let ring = c.args.ring.now.items in
    let put = c.args.put.now.items in
    let queue = c.from_vec-queue.result.items in
    let given = c.len-given.result in
    let taken = c.args.taken in
    let common = c.min-common.result in
    let same : queue ≡ put = c.from_vec-queue.ensures.items ∙ ap (λ v. v.items) c.replace.ensures.value in
    ap (λ v. v.items) c.replace-2.ensures.after
    ∙ c.into_vec.ensures.items
    ∙ c.pass_on-2.ensures.ring
    ∙ ap (drop (given - common)) (c.pass_on.ensures.to ∙ ap (λ items. items ++ take (taken - common) c.trade.new.ring.items) c.trade.ensures.other ∙ ap (λ items. (drop common queue ++ take common ring) ++ take (taken - common) items) c.trade.ensures.ring)
    ∙ ap (λ items. drop (given - common) ((drop common items ++ take common ring) ++ take (taken - common) (drop common ring ++ take common items))) same
    ∙ put_traded given taken common ring put (omega (arith, c.len-given.ensures, c.from_vec-queue.ensures.len, ap vec_len c.replace.ensures.value)) (omega arith) (omega arith) (omega arith)
