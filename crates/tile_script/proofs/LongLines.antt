-- Lines that are too long.
use Rattle.std.proofs.Common.{◌≡◌, ℕ, Bool, true, false, cond, ltb, List, length, Err, refl}
use Rattle.tile_lines.specs.Cutting.{Whole, TooLong, cut_of}
use Rattle.tile_script.specs.Line.{answer_to}
use Rattle.tile_lines.specs.declared.TheConstants.{LINE_LIMIT}
use Rattle.tile_lines.specs.declared.parse_error.ParseError.TheVariants.{LineTooLong}

is_long : (b : Bool) (line : List ℕ) → cond b TooLong (Whole line) ≡ TooLong → b ≡ true
is_long true line e = refl
is_long false line e = absurd cc

pub too_long_answered : (line : List ℕ) → cut_of line ≡ TooLong → answer_to line ≡ Err LineTooLong
unfolding answer_to
too_long_answered line e =
    let long : ltb LINE_LIMIT (length line) ≡ true = is_long (ltb LINE_LIMIT (length line)) line e in
    rw long refl
