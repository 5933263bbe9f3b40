use Rattle.std.proofs.Common.{length, map, filter, inr, rules, sym, ap, ◌∙◌}
use Rattle.std.proofs.lemmas.Simd.{map-map}
use Rattle.mvt_document.specs.Stands.{document_of, tile_item_of}
use Rattle.mvt_document.specs.Wire.{tile_item_bytes}
use Rattle.mvt_change.specs.Changes.{TileStep}
use Rattle.mvt_change.specs.ChangeStands.{step_of}
use Rattle.mvt_meaning.specs.Command.{KeepLayers}
use Rattle.mvt_edit_steps.specs.Fates.{splices_of}
use Rattle.mvt_edit_steps.proofs.Carrying.{in_tile}
use Rattle.mvt_edit_steps.proofs.Following.{alone}
use Rattle.mvt_edit_steps.proofs.Going.{count_seen, out, out_seen, seen}
use Rattle.mvt_edit_steps.proofs.Heavy.{heavy}
use Rattle.mvt_edit_steps.proofs.Refusing.{ran_out}
use Rattle.mvt_edit_lists.proofs.HaveBytes.{layer_has_bytes}
use Rattle.mvt_edit_lists.proofs.Kept.{goes, kept_alike, keeps, none_stays}
use Rattle.mvt_edit_lists.proofs.keep_layers.keep_layers.Goals as goal

pub returns-then-gone-layer_count : goal.returns-then-gone-layer_count
returns-then-gone-layer_count c =
    let names = map (λ name. name.items) c.args.names.now in
    let alike = kept_alike names (map (λ name. name.now) c.in_ok-ordered.ordered.items) c.in_ok-ordered.ensures.same in
    let done = c.in_ok-gone.ensures (λ s. TileStep s.index s.taken (map tile_item_of s.put)) (λ run made says. search rules) in
    let counted = done.2.counted ∙ count_seen tile_item_of (goes names) _ (λ item fate says. search (rules, alike)) c.as_slice-items.result.now done.0 done.1 in
    let listed = ap (λ list. length (filter (goes names) (map tile_item_of list))) c.as_slice-items.ensures in
    inr (none_stays names (document_of c.args.document.now) (sym (counted ∙ listed) ∙ c.if-gone-layer_count.true ∙ c.layer_count.ensures))

pub returns : goal.returns
returns c =
    let names = map (λ name. name.items) c.args.names.now in
    let items = c.args.document.now.items.items in
    let alike = kept_alike names (map (λ name. name.now) c.in_ok-ordered.ordered.items) c.in_ok-ordered.ensures.same in
    let done = c.in_ok-gone.ensures (λ s. TileStep s.index s.taken (map tile_item_of s.put)) (λ run made says. search rules) in
    let counted = done.2.counted ∙ count_seen tile_item_of (goes names) _ (λ item fate says. search (rules, alike)) c.as_slice-items.result.now done.0 done.1 in
    let listed = ap (λ list. length (filter (goes names) (map tile_item_of list))) c.as_slice-items.ensures in
    keeps names (document_of c.args.document.now) _
    (c.new.ensures.change
    ∙ alone step_of c.new-steps.result.items _ _ c.new-steps.ensures.items done.2.following
    ∙ sym (map-map in_tile (seen tile_item_of) (splices_of done.0))
    ∙ ap (map in_tile) (out_seen tile_item_of (goes names) _ (λ item fate says. search (rules, alike)) c.as_slice-items.result.now done.0 done.1)
    ∙ ap (λ list. map in_tile (out (goes names) (map tile_item_of list))) c.as_slice-items.ensures)
    (λ all. c.if-gone-layer_count.false (counted ∙ listed ∙ all ∙ sym c.layer_count.ensures))
    (heavy tile_item_bytes tile_item_of (goes names) (layer_has_bytes names) items)

pub returns-in_err-ordered : goal.returns-in_err-ordered
returns-in_err-ordered c =
    ran_out (KeepLayers (map (λ name. name.items) c.args.names.now)) (document_of c.args.document.now) c.from_residual.result c.from_residual.ensures.1 tt

pub returns-in_err-gone : goal.returns-in_err-gone
returns-in_err-gone c =
    ran_out (KeepLayers (map (λ name. name.items) c.args.names.now)) (document_of c.args.document.now) c.from_residual-in_err-gone.result c.from_residual-in_err-gone.ensures.1 tt
