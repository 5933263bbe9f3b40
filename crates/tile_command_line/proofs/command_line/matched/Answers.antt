use Rattle.std.proofs.Common.{◌≡◌, ℕ, List, Some, refl, sym, subst, arith, codes}
use Rattle.std.specs.Prelude.{pos}
use Rattle.std.proofs.lemmas.Result.{IfOk-weaker}
use Rattle.clap.specs.Matches.{found_of, one_text}
use Rattle.clap.specs.Lexer.{without_minus}
use Rattle.clap.specs.declared.builder.value_parser.ValueParser.{ValueParser}
use Rattle.clap.specs.declared.builder.value_parser.ValueParser.TheVariants as parsers
use Rattle.clap.specs.declared.parser.matches.ArgMatches.{ArgMatches}
use Rattle.clap.specs.Built.{IsParsedFrom}
use Rattle.mvt_history_steps.specs.declared.TheConstants.{MAX_DEPTH}
use Rattle.tile_command_line.specs.Defaulted.{Awaits}
use Rattle.tile_command_line.specs.Depth.{HasDepth}
use Rattle.tile_command_line.proofs.NumberOption.{last_option_text, in_range}
use Rattle.tile_command_line.proofs.command_line.matched.Goals as goal

abbrev depth_id : List ℕ
depth_id = codes "depth"

abbrev depth_range : ValueParser
depth_range = parsers.Signed (pos 1) (pos MAX_DEPTH)

-- ---- what the matches hold

has_depth : (c : goal.After-try_get_matches_from) (matches : ArgMatches) → IsParsedFrom c.in_ok-arg.field-0 matches → HasDepth matches
has_depth c matches parsed =
    let got = last_option_text c.in_ok-described.field-0 c.in_ok-arg.field-0 c.depth_option.result matches depth_range c.in_ok-arg.ensures
    (subst (λ (t : List ℕ). Awaits t c.in_ok-described.field-0) (sym c.depth_option.ensures.id) c.in_ok-described.ensures) c.depth_option.ensures.number parsed in
    let number = in_range 1 MAX_DEPTH got.0 (omega arith) got.2 in
    let given : one_text (found_of matches) depth_id ≡ Some (without_minus got.0) = subst (λ (t : List ℕ). one_text (found_of matches) t ≡ Some (without_minus got.0)) c.depth_option.ensures.id got.1 in
    (_, (without_minus got.0, given, number.0, refl), number.1, number.2)

pub returns : goal.returns
returns c = IfOk-weaker c.try_get_matches_from.result _ _ (has_depth c) c.try_get_matches_from.ensures.parsed
