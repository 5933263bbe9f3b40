-- The arguments and the options of a command line.
use Rattle.std.specs.List.{All}
use Rattle.std.specs.Prelude.{◌≡◌, ◌≤◌, ℕ, List, false, [], Some, None}
use Rattle.clap.specs.Built.{IsAuto, IsPlain, IsPlainArg}
use Rattle.clap.specs.Facts.{WantsDefault, args_of, least_values}
use Rattle.clap.specs.declared.builder.action.ArgAction.TheVariants.{Set}
use Rattle.clap.specs.declared.builder.arg.Arg.{Arg}
use Rattle.clap.specs.declared.builder.command.Command.{Command}
use Rattle.clap.specs.declared.builder.command.Command.TheViews.{out-Command}
use Rattle.clap.specs.declared.builder.value_parser.ValueParser.{ValueParser}

-- an argument or an option with this id; it is not global, and excludes no other
pub record IsOrdinary (argument : Arg) (id : List ℕ) : Type 0 where
  pub name : argument.id.now ≡ id
  pub plain : IsPlainArg argument
  pub local : argument.global ≡ false

-- an option that takes one value, as the parser says, and has a default; it is neither global nor one that `clap` adds,
-- and excludes no other
pub record IsDefaulted (option : Arg) (parser : ValueParser) : Type 0 where
  pub plain : IsPlainArg option
  pub local : option.global ≡ false
  pub default : WantsDefault option
  pub action : option.action ≡ Some Set
  pub delimiter : option.val_delim ≡ None
  pub least : 1 ≤ least_values option
  pub named : option.id.now ≡ [] → ⊥
  pub own : IsAuto option → ⊥
  pub value : option.value_parser ≡ Some parser

-- nothing in it excludes anything, none of its arguments is global, and none has this id
pub record Awaits (id : List ℕ) (command : Command) : Type 0 where
  pub plain : IsPlain command
  pub local : (out-Command command).has_globals ≡ false
  pub free : All (λ (a : Arg). a.id.now ≡ id → ⊥) (args_of command)
