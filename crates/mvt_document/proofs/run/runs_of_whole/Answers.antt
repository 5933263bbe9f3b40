use Rattle.std.proofs.Common.{◌≡◌, length, map, sym, ap, ◌∙◌}
use Rattle.std.specs.Prelude.{replicate, true}
use Rattle.mvt_document.specs.declared.run.Kind.TheVariants as kind
use Rattle.mvt_document.proofs.Running.{all_of_one, none_of_others}
use Rattle.mvt_document.proofs.run.runs_of_whole.Goals as goal

pub returns-in-Name : goal.returns-in-Name
returns-in-Name g c =
    let of_kind = g.T.Item.of_kind in
    let one = g.T.Item.one_kind in
    let items = c.args.part.now in
    let none = c.of_same-none.ensures in
    let whole : map (of_kind kind.Name) items ≡ replicate (length items) true = ap (λ k. map (of_kind k) items) (sym c.in-Name.is) ∙ c.requires in
    record {
      names = all_of_one (of_kind kind.Name) items c.of_same-all.result whole c.of_same-all.ensures;
      messages = none_of_others of_kind one kind.Name kind.Message (λ same. absurd cc) items c.of_same-none.result whole none;
      keys = none_of_others of_kind one kind.Name kind.Key (λ same. absurd cc) items c.of_same-none.result whole none;
      values = none_of_others of_kind one kind.Name kind.Value (λ same. absurd cc) items c.of_same-none.result whole none;
    }

pub returns-in-Message : goal.returns-in-Message
returns-in-Message g c =
    let of_kind = g.T.Item.of_kind in
    let one = g.T.Item.one_kind in
    let items = c.args.part.now in
    let none = c.of_same-none.ensures in
    let whole : map (of_kind kind.Message) items ≡ replicate (length items) true = ap (λ k. map (of_kind k) items) (sym c.in-Message.is) ∙ c.requires in
    record {
      names = none_of_others of_kind one kind.Message kind.Name (λ same. absurd cc) items c.of_same-none.result whole none;
      messages = all_of_one (of_kind kind.Message) items c.of_same-all.result whole c.of_same-all.ensures;
      keys = none_of_others of_kind one kind.Message kind.Key (λ same. absurd cc) items c.of_same-none.result whole none;
      values = none_of_others of_kind one kind.Message kind.Value (λ same. absurd cc) items c.of_same-none.result whole none;
    }

pub returns-in-Key : goal.returns-in-Key
returns-in-Key g c =
    let of_kind = g.T.Item.of_kind in
    let one = g.T.Item.one_kind in
    let items = c.args.part.now in
    let none = c.of_same-none.ensures in
    let whole : map (of_kind kind.Key) items ≡ replicate (length items) true = ap (λ k. map (of_kind k) items) (sym c.in-Key.is) ∙ c.requires in
    record {
      names = none_of_others of_kind one kind.Key kind.Name (λ same. absurd cc) items c.of_same-none.result whole none;
      messages = none_of_others of_kind one kind.Key kind.Message (λ same. absurd cc) items c.of_same-none.result whole none;
      keys = all_of_one (of_kind kind.Key) items c.of_same-all.result whole c.of_same-all.ensures;
      values = none_of_others of_kind one kind.Key kind.Value (λ same. absurd cc) items c.of_same-none.result whole none;
    }

pub returns-in-Value : goal.returns-in-Value
returns-in-Value g c =
    let of_kind = g.T.Item.of_kind in
    let one = g.T.Item.one_kind in
    let items = c.args.part.now in
    let none = c.of_same-none.ensures in
    let whole : map (of_kind kind.Value) items ≡ replicate (length items) true = ap (λ k. map (of_kind k) items) (sym c.in-Value.is) ∙ c.requires in
    record {
      names = none_of_others of_kind one kind.Value kind.Name (λ same. absurd cc) items c.of_same-none.result whole none;
      messages = none_of_others of_kind one kind.Value kind.Message (λ same. absurd cc) items c.of_same-none.result whole none;
      keys = none_of_others of_kind one kind.Value kind.Key (λ same. absurd cc) items c.of_same-none.result whole none;
      values = all_of_one (of_kind kind.Value) items c.of_same-all.result whole c.of_same-all.ensures;
    }
