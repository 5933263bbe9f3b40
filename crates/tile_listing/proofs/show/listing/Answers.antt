use Rattle.std.proofs.Common.{◌++◌, inr, refl, sym, ap, ◌∙◌}
use Rattle.std.proofs.lemmas.Result.{err_from_is_err_and}
use Rattle.mvt_document.specs.Stands.{document_of, layer_of}
use Rattle.mvt_layers.specs.Seen.{feature_seen}
use Rattle.mvt_meaning.specs.CommandStands.{feature_choice_of, layer_choice_of}
use Rattle.tile_arguments.specs.Request.{Whole}
use Rattle.tile_listing.specs.Listing.{joined_lines, lines_of_feature, lines_of_layer, lines_of_tile}
use Rattle.tile_listing.proofs.Listed.{feature_layer_refused, feature_refused, feature_shown, layer_refused, layer_shown, out_of_memory, put_listed}
use Rattle.tile_listing.proofs.show.listing.Goals as goal
use Rattle.tile_listing.proofs.show.listing.Goals.{in-Whole+in_ok-put_tile-in-Whole, in-OneLayer+in_ok-found-in-OneLayer+in_ok-put_layer-in-OneLayer, in-OneFeature+in_ok-holder-in-OneFeature+in_ok-found-in-OneFeature+in_ok-put_feature-in-OneFeature}

pub returns-in_err-found-in-OneLayer : goal.returns-in_err-found-in-OneLayer
returns-in_err-found-in-OneLayer c =
    let out = c.from_residual-in_err-found-in-OneLayer in
    let p = err_from_is_err_and out.result out.ensures.1 in
    rw (p.1, p.2, c.in-OneLayer.is) (inr (layer_refused (layer_choice_of c.in-OneLayer.choice) (document_of c.args.document.now) _ (sym c.in_err-found-in-OneLayer.ensures)))

pub returns-in_err-holder-in-OneFeature : goal.returns-in_err-holder-in-OneFeature
returns-in_err-holder-in-OneFeature c =
    let out = c.from_residual-in_err-holder-in-OneFeature in
    let p = err_from_is_err_and out.result out.ensures.1 in
    rw (p.1, p.2, c.in-OneFeature.is) (inr (feature_layer_refused (layer_choice_of c.in-OneFeature.layer_choice) (feature_choice_of c.in-OneFeature.choice) (document_of c.args.document.now) _ (sym c.in_err-holder-in-OneFeature.ensures)))

pub returns-in_err-found-in-OneFeature : goal.returns-in_err-found-in-OneFeature
returns-in_err-found-in-OneFeature c =
    let out = c.from_residual-in_err-found-in-OneFeature in
    let p = err_from_is_err_and out.result out.ensures.1 in
    let layer = c.in_ok-holder-in-OneFeature in
    rw (p.1, p.2, c.in-OneFeature.is) (inr (feature_refused (layer_choice_of c.in-OneFeature.layer_choice) (feature_choice_of c.in-OneFeature.choice) (document_of c.args.document.now) (layer.holder.ordinal, layer_of layer.holder.layer.now) _ (sym layer.ensures) (sym c.in_err-found-in-OneFeature.ensures)))

pub returns-in_err-put_tile-in-Whole : goal.returns-in_err-put_tile-in-Whole
returns-in_err-put_tile-in-Whole c =
    let document = document_of c.args.document.now in
    let out = c.from_residual in
    rw c.in-Whole.is (out_of_memory Whole document (lines_of_tile document) out.result refl out.ensures.1)

pub returns-in_err-put_layer-in-OneLayer : goal.returns-in_err-put_layer-in-OneLayer
returns-in_err-put_layer-in-OneLayer c =
    let document = document_of c.args.document.now in
    let out = c.from_residual-in_err-put_layer-in-OneLayer in
    rw c.in-OneLayer.is (out_of_memory _ document _ out.result (layer_shown (layer_choice_of c.in-OneLayer.choice) document _ (sym c.in_ok-found-in-OneLayer.ensures)) out.ensures.1)

pub returns-in_err-put_feature-in-OneFeature : goal.returns-in_err-put_feature-in-OneFeature
returns-in_err-put_feature-in-OneFeature c =
    let document = document_of c.args.document.now in
    let out = c.from_residual-in_err-put_feature-in-OneFeature in
    let layer = c.in_ok-holder-in-OneFeature in
    rw c.in-OneFeature.is (out_of_memory _ document _ out.result (feature_shown (layer_choice_of c.in-OneFeature.layer_choice) (feature_choice_of c.in-OneFeature.choice) document (layer.holder.ordinal, layer_of layer.holder.layer.now) _ (sym layer.ensures) (sym c.in_ok-found-in-OneFeature.ensures)) out.ensures.1)

pub returns : goal.returns
returns c =
    let document = document_of c.args.document.now in
    let made = c.from_vec.result.items in
    elim c.match-what.branch [
      | in-Whole+in_ok-put_tile-in-Whole w ↦
          rw w.in-Whole.is (put_listed Whole document (lines_of_tile document) c.new-text.result.items w.put_tile.new.text.items made refl c.new-text.ensures.items w.in_ok-put_tile-in-Whole.ensures (c.from_vec.ensures.items ∙ rw w.text-is refl))
      | in-OneLayer+in_ok-found-in-OneLayer+in_ok-put_layer-in-OneLayer w ↦
          let layer = w.in_ok-found-in-OneLayer in
          rw w.in-OneLayer.is (put_listed _ document _ c.new-text.result.items w.put_layer.new.text.items made (layer_shown (layer_choice_of w.in-OneLayer.choice) document _ (sym layer.ensures)) c.new-text.ensures.items (w.in_ok-put_layer-in-OneLayer.ensures ∙ ap (λ seen. c.new-text.result.items ++ joined_lines (lines_of_layer w.in_ok-found-in-OneLayer.found.ordinal seen)) w.view.ensures) (c.from_vec.ensures.items ∙ rw w.text-is refl))
      | in-OneFeature+in_ok-holder-in-OneFeature+in_ok-found-in-OneFeature+in_ok-put_feature-in-OneFeature w ↦
          let layer = w.in_ok-holder-in-OneFeature in
          let feature = w.in_ok-found-in-OneFeature in
          rw w.in-OneFeature.is (put_listed _ document _ c.new-text.result.items w.put_feature.new.text.items made (feature_shown (layer_choice_of w.in-OneFeature.layer_choice) (feature_choice_of w.in-OneFeature.choice) document (layer.holder.ordinal, layer_of layer.holder.layer.now) _ (sym layer.ensures) (sym feature.ensures)) c.new-text.ensures.items (w.in_ok-put_feature-in-OneFeature.ensures ∙ ap (λ seen. c.new-text.result.items ++ joined_lines (lines_of_feature seen w.in_ok-found-in-OneFeature.found.ordinal (feature_seen w.view-in-OneFeature-2.result))) w.view-in-OneFeature.ensures ∙ ap (λ seen. c.new-text.result.items ++ joined_lines (lines_of_feature (layer_of w.in_ok-holder-in-OneFeature.holder.layer.now) w.in_ok-found-in-OneFeature.found.ordinal seen)) w.view-in-OneFeature-2.ensures) (c.from_vec.ensures.items ∙ rw w.text-is refl))
    ]
