use Rattle.std.proofs.Common.{not}
use Rattle.tile_lines.specs.Words.{is_blank}
use Rattle.tile_lines.proofs.Places.{place_le, place_from_position}
use Rattle.tile_lines.proofs.words.count_blanks.Goals as goal

pub returns : goal.returns
returns c =
    let is = place_from_position (λ b. not (is_blank b)) c.args.bytes.now c.word_start.result c.unwrap_or.result c.word_start.ensures c.unwrap_or.ensures in
    record { place = is; within = rw is (place_le (λ b. not (is_blank b)) c.args.bytes.now) }
