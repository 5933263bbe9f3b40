use Rattle.tile_text.specs.Texts.{is_escaped}
use Rattle.tile_lines.proofs.Places.{place_le, place_from_position}
use Rattle.tile_text.proofs.texts.plain_len.Goals as goal

pub returns : goal.returns
returns c =
    let is = place_from_position is_escaped c.args.bytes.now c.first_escaped.result c.unwrap_or.result c.first_escaped.ensures c.unwrap_or.ensures in
    record { place = is; within = rw is (place_le is_escaped c.args.bytes.now) }
