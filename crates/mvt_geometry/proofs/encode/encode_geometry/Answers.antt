use Rattle.std.proofs.Common.{◌+◌, List, ◌∷◌, map, drop, ap, sym, subst, arith, ◌∙◌}
use Rattle.std.proofs.lemmas.Result.{err_from_is_err_and}
use Rattle.std.proofs.lemmas.List.{drop_all, drop_more}
use Rattle.mvt_geometry.specs.Shapes.{Point, Kind}
use Rattle.mvt_geometry.specs.declared.shapes.Part.{Part}
use Rattle.mvt_geometry.specs.Stands.{points_of}
use Rattle.mvt_geometry.specs.Integers.{packed, origin}
use Rattle.mvt_geometry.specs.Walks.{AreInRange, IsPartInRange, integers_from}
use Rattle.mvt_geometry.proofs.Packs.{PuttingParts, put_part, put_parts_all, integers-from, whole_in_range, parts_in_range}
use Rattle.mvt_geometry.proofs.encode.encode_geometry.Goals as goal

pub returns-in_err-from-clause-out_of_range : goal.returns-in_err-from-clause-out_of_range
returns-in_err-from-clause-out_of_range c = λ e range.
    let is = err_from_is_err_and c.from_residual.result c.from_residual.ensures.1 in
    let g = c.args.geometry.now in
    let parts = c.parts-part-items.result.now in
    let i = c.loop-part.part-index in
    let all = subst (λ (k : Kind). AreInRange k origin g.parts) (sym c.kind-kind.ensures) (parts_in_range g.kind g.parts range) in
    let left = c.loop-part.invariant.only all in
    let front = ap (map points_of) (drop_more parts i c.part-item.result (omega (arith, c.loop-part-test.true))) in
    let here = subst (λ (s : List (List Point)). AreInRange c.kind-kind.result c.loop-part.from s) front left in
    c.in_err-from.ensures.out_of_range (cc (is.1, is.2, e)) (rw c.as_slice.ensures (subst (λ (part : Part). IsPartInRange c.kind-kind.result c.loop-part.from (points_of part)) (sym c.part-item.is) here.0))

pub loop-part-preserved : goal.loop-part-preserved
loop-part-preserved c =
    let g = c.args.geometry.now in
    let kind = c.kind-kind.result in
    let parts = c.parts-part-items.result.now in
    let i = c.loop-part.part-index in
    let left = map points_of (drop (i + 1) parts) in
    let front = ap (map points_of) (drop_more parts i c.part-item.result c.loop-part-test.true) ∙ ap (λ (part : List Point). part ∷ left) (sym (c.as_slice.ensures ∙ ap points_of c.part-item.is)) in
    let r = subst (λ (s : List (List Point)). PuttingParts kind g.parts c.loop-part.from s c.loop-part.bytes.items) front c.loop-part.invariant in
    let e = c.in_ok-from.ensures in
    put_part kind g.parts c.loop-part.from c.in_ok-from.from c.as_slice.result.now left c.loop-part.bytes.items c.put_part.new.bytes.items r e.bytes e.in_range e.last

pub returns-clause-bytes : goal.returns-clause-bytes
returns-clause-bytes c =
    let g = c.args.geometry.now in
    let kind = c.kind-kind.result in
    let none = ap (map points_of) (drop_all c.loop-part.part-index c.parts-part-items.result.now (omega (arith, c.loop-part-test.false))) in
    let whole = subst (λ (s : List (List Point)). PuttingParts kind g.parts c.loop-part.from s c.loop-part.bytes.items) none c.loop-part.invariant in
    let all = put_parts_all kind g.parts c.loop-part.from c.loop-part.bytes.items whole in
    c.from_vec.ensures.items ∙ all.0 ∙ ap (λ (k : Kind). packed (integers_from k origin g.parts)) c.kind-kind.ensures ∙ ap packed (integers-from g.kind g.parts c.parts-part-items.ensures.valid.counted)

pub returns-clause-in_range : goal.returns-clause-in_range
returns-clause-in_range c =
    let g = c.args.geometry.now in
    let kind = c.kind-kind.result in
    let none = ap (map points_of) (drop_all c.loop-part.part-index c.parts-part-items.result.now (omega (arith, c.loop-part-test.false))) in
    let whole = subst (λ (s : List (List Point)). PuttingParts kind g.parts c.loop-part.from s c.loop-part.bytes.items) none c.loop-part.invariant in
    let all = put_parts_all kind g.parts c.loop-part.from c.loop-part.bytes.items whole in
    whole_in_range g.kind g.parts (subst (λ (k : Kind). AreInRange k origin g.parts) c.kind-kind.ensures all.1)
