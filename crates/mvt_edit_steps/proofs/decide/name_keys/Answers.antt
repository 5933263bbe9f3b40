use Rattle.std.proofs.Common.{◌∷◌, ◌++◌, map, [], append_assoc, sym, ap, ◌∙◌}
use Rattle.std.specs.Str.{bytes_eq}
use Rattle.mvt_edit_steps.proofs.decide.name_keys.Goals as goal

pub loop-other-preserved : goal.loop-other-preserved
loop-other-preserved c =
    let f = bytes_eq c.args.key.now in
    let front = c.loop-other.named.items in
    ap (λ list. list ++ map f c.next.new.self) c.in_ok-push.ensures.items
    ∙ append_assoc front (c.eq.result ∷ []) (map f c.next.new.self)
    ∙ ap (λ is. front ++ is ∷ map f c.next.new.self) c.eq.ensures
    ∙ ap (λ list. front ++ map f list) (sym c.in-Some.ensures.steps)
    ∙ c.loop-other.invariant
