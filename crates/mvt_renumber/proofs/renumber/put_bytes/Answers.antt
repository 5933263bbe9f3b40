use Rattle.std.proofs.Common.{ℕ, List, [], ◌∷◌, ◌+◌, ◌++◌, drop, get_or, append_assoc, sym, ap, ◌∙◌}
use Rattle.std.proofs.lemmas.List.{append-nil, drop_all, drop_more}
use Rattle.mvt_renumber.proofs.renumber.put_bytes.Goals as goal

pub loop-byte-preserved : goal.loop-byte-preserved
loop-byte-preserved c =
    let bytes = c.args.bytes.now in
    let index = c.loop-byte.byte-index in
    let made = c.loop-byte.made.items in
    ap (λ (list : List ℕ). list ++ drop (index + 1) bytes) c.in_ok-push.ensures.items
    ∙ append_assoc made (get_or bytes index 0 ∷ []) (drop (index + 1) bytes)
    ∙ ap (λ (rest : List ℕ). made ++ rest) (sym (drop_more bytes index 0 c.loop-byte-test.true))
    ∙ c.loop-byte.invariant

pub returns : goal.returns
returns c =
    let made = c.loop-byte.made.items in
    sym (append-nil made) ∙ ap (λ (rest : List ℕ). made ++ rest) (sym (drop_all c.loop-byte.byte-index c.args.bytes.now c.loop-byte-test.false)) ∙ c.loop-byte.invariant
