use Rattle.tile_text.proofs.Feeds.{holds_none, text_form_feedless, value_form_feedless, raw_form_feedless, geometry_form_feedless}
use Rattle.tile_text.proofs.laws.forms_stand_on_a_line.Goals as goal

pub returns : goal.returns
returns c = record {
  texts = λ bytes. holds_none _ (text_form_feedless bytes);
  values = λ value fits. holds_none _ (value_form_feedless value fits);
  raw = λ bytes. holds_none _ (raw_form_feedless bytes);
  geometries = λ g valid. holds_none _ (geometry_form_feedless g valid);
}
