use Rattle.std.proofs.Common.{◌≡◌, ◌+◌, ◌-◌, ◌≤◌, Bool, true, false, List, [], ◌∷◌, ◌++◌, append-nil, length, take, sym, ap, ◌∙◌, arith}
use Rattle.std.specs.Prelude.{replicate, vec_len}
use Rattle.std.proofs.Math.Seq.{take-nil}
use Rattle.mvt_layers.specs.Seen.{layer_seen}
use Rattle.mvt_messages.specs.Views.{keys}
use Rattle.mvt_edit_attributes.proofs.KeysNamed.{and_one, none_or_last}
use Rattle.mvt_edit_attributes.proofs.pools.keys_that_are.Goals.{then-sought+in_ok-push, else-sought}
use Rattle.mvt_edit_attributes.proofs.pools.keys_that_are.Goals as goal

pub returns : goal.returns
returns c =
    let key = c.args.key.now in
    let n = c.args.sought.ordinal in
    let all = keys (layer_seen c.args.layer) in
    let few : length all ≤ n + 1 = omega (arith, c.saturating_sub.ensures, c.if-saturating_sub-gt1.false, c.requires.count) in
    let so = ap (and_one key n) c.requires.there ∙ sym (none_or_last key n all c.requires.at few) in
    let empty = c.in_ok-named.named in
    let many : n - vec_len empty ≡ n = omega (arith, c.in_ok-named.ensures.len) in
    let filled = c.in_ok-resize.ensures.items
    ∙ ap (λ (front : List Bool). take n front ++ replicate (n - vec_len empty) false) c.in_ok-named.ensures.items
    ∙ ap (λ (front : List Bool). front ++ replicate (n - vec_len empty) false) (take-nil n)
    ∙ ap (λ k. replicate k false) many in
    elim c.if-sought.branch [
      | then-sought+in_ok-push w ↦ (let one = rw w.if-sought.true at so in rw w.named-is (w.in_ok-push.ensures.items ∙ ap (λ (front : List Bool). front ++ true ∷ []) filled ∙ one))
      | else-sought w ↦ (let none = rw w.if-sought.false at so in rw w.named-is (filled ∙ sym (append-nil (replicate n false)) ∙ none))
    ]
