-- The depth of undo that the words of the program ask for.
use Rattle.std.specs.Prelude.{◌≡◌, ◌≤◌, ℕ, List, Some, codes}
use Rattle.std.specs.Str.Parse.{IsNumeral, digits_value, without_leading_plus}
use Rattle.clap.specs.Words.{found_of, one_text}
use Rattle.clap.specs.declared.parser.matches.ArgMatches.{ArgMatches}
use Rattle.mvt_history_steps.specs.declared.TheConstants.{MAX_DEPTH}

-- the text of the option `--depth` is a numeral of this number, perhaps after a plus sign
abbrev pub GivesDepth : ArgMatches → ℕ → Type 0
GivesDepth matches depth =
    (text : List ℕ) × (one_text (found_of matches) (codes "depth") ≡ Some text)
    × IsNumeral 10 (without_leading_plus text) × (depth ≡ digits_value 10 (without_leading_plus text))

-- the text of the option `--depth` is a numeral of a number from 1 to 10,000, perhaps after a plus sign
abbrev pub HasDepth : ArgMatches → Type 0
HasDepth matches = (depth : ℕ) × GivesDepth matches depth × (1 ≤ depth) × (depth ≤ MAX_DEPTH)
