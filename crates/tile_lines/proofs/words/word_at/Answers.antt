use Rattle.std.proofs.Common.{ℕ, ◌<◌, ◌≤◌, ◌-◌, List, length, drop, take, ap, arith}
use Rattle.std.specs.List.{position_or_len}
use Rattle.std.specs.Prelude.{not}
use Rattle.std.proofs.lemmas.List.{length-drop, length-take}
use Rattle.tile_lines.specs.Words.{Word, is_blank, quoted_at}
use Rattle.tile_lines.specs.WordStands.{word_of}
use Rattle.tile_lines.proofs.Short.{quoted_short, if_seen}
use Rattle.tile_lines.proofs.words.word_at.Goals as goal

pub returns-in-34-clause-shorter : goal.returns-in-34-clause-shorter
returns-in-34-clause-shorter c =
    let bytes : List ℕ = c.args.bytes.now in
    let following : List ℕ = take (length c.after_blanks.result.now - 1) (drop 1 c.after_blanks.result.now) in
    let le : length following ≤ length bytes = omega (arith, length-take (length c.after_blanks.result.now - 1) (drop 1 c.after_blanks.result.now), length-drop 1 c.after_blanks.result.now, ap length c.after_blanks.ensures, length-drop (position_or_len (λ b. not (is_blank b)) bytes) bytes) in
    if_seen (λ found. (word_of found.0, found.1.now)) c.quoted_at.result (quoted_at following) (λ (found : Word × List ℕ). length found.1 < length bytes) c.quoted_at.ensures (quoted_short following (length bytes) le)
