use Rattle.tile_lines.specs.Words.{ends_bare}
use Rattle.tile_lines.proofs.Places.{place_le, place_from_position}
use Rattle.tile_lines.proofs.words.bare_len.Goals as goal

pub returns : goal.returns
returns c =
    let is = place_from_position ends_bare c.args.bytes.now c.word_end.result c.unwrap_or.result c.word_end.ensures c.unwrap_or.ensures in
    record { place = is; within = rw is (place_le ends_bare c.args.bytes.now) }
