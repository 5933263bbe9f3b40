-- Each line that asks for a request on the history asks for a valid one: an id that it sets is read as a number, and a
-- number is below 2 ^ 64.
use Rattle.std.proofs.Common.{ℕ, ◌^◌, ◌<◌, Bool, true, false, not, nat_lt, if◌then◌else◌, List, [], ◌∷◌, length, Option, Some, None, IfSome, ok_or, Result, Ok, Err, IfOk, subst}
use Rattle.std.specs.List.{AllByRecursion}
use Rattle.std.specs.Map.{lookup}
use Rattle.std.specs.Option.{option_map_or}
use Rattle.std.specs.Str.{bytes_eq, is_utf8}
use Rattle.std.specs.Str.Parse.{digits_value}
use Rattle.std.proofs.lemmas.Bool.{cond_both}
use Rattle.mvt_meaning.specs.Command.{Command, IsCommand}
use Rattle.mvt_meaning.specs.Requests.{HistoryRequest, Edit, Undo, Redo, SetMark, TakeMark, GoBack, Begin, End, Cancel}
use Rattle.run_laws.specs.HistoryLaws.{IsRequest}
use Rattle.tile_arguments.specs.Arguments.{text_of, texts_of, is_number, number_of, number_in, distance_of, layer_of, layers_of, geometry_of, value_of}
use Rattle.tile_arguments.specs.Request.{Request, OnHistory, ListMarks, PrintHistory, Size}
use Rattle.tile_arguments.proofs.Digits.{is_number_parts}
use Rattle.tile_lines.specs.Words.{Word, Bare, Quoted, words_of}
use Rattle.tile_lines.specs.Answers.{◌>>=◌}
use Rattle.tile_lines.specs.declared.TheConstants.{LINE_LIMIT}
use Rattle.tile_lines.specs.declared.parse_error.ParseError.{ParseError}
use Rattle.tile_lines.specs.declared.parse_error.ParseError.TheVariants.{LineTooLong, BadUtf8, BadWord, UnknownCommand, BadNumber}
use Rattle.tile_script.specs.Commands.{chosen_of, two_texts_of, layers_alone_of, rename_layer_of, move_layer_of, drop_layer_of, keep_layers_of, insert_feature_of, move_feature_of, drop_feature_of, set_id_of, clear_id_of, set_of, unset_of, rename_key_of, exclude_of, exclude_all_of, shift_of, set_geometry_of, compact_keys_of, compact_values_of, compact_of, commands, read_by, command_by}
use Rattle.tile_script.specs.Line.{alone_of, name_of, list_of, requests, request_by, asked_by, is_remark, request_in, answer_to}
use Rattle.run_laws.specs.RunLaws.{asked_in, RequestsAreValid}

-- ---- what is read in steps

-- what holds of each result of the second step holds of the result of both
then_so : {A B : Type 0} (P : B → Type 0) (r : Result A ParseError) (f : A → Result B ParseError) → ((x : A) → IfOk (f x) P) → IfOk (r >>= f) P
then_so P (Ok x) f each = each x
then_so P (Err error) f each = tt

-- the same, where something holds of the result of the first
then_given : {A B : Type 0} (Q : A → Type 0) (P : B → Type 0) (r : Result A ParseError) (f : A → Result B ParseError) → IfOk r Q → ((x : A) → Q x → IfOk (f x) P) → IfOk (r >>= f) P
then_given Q P (Ok x) f is each = each x is
then_given Q P (Err error) f is each = tt

-- what holds of whatever one of some readers reads
read_so : {A : Type 0} (P : A → Type 0) (readers : List (List ℕ × (List Word → Result A ParseError))) (unknown : Result A ParseError) (name : List ℕ) (arguments : List Word) → AllByRecursion (λ reader. IfOk (reader.1 arguments) P) readers → IfOk unknown P → IfOk (read_by readers unknown name arguments) P
read_so P [] unknown name arguments each other = other
read_so {A} P (reader ∷ readers) unknown name arguments each other =
    cond_both (bytes_eq name reader.0) (Some reader.1) (lookup (bytes_eq name) readers) (λ (found : Option (List Word → Result A ParseError)). IfOk (option_map_or (λ read. read arguments) found unknown) P)
    (λ _. each.0) (λ _. read_so P readers unknown name arguments each.1 other)

-- ---- commands

number_valid : (word : Word) → IfOk (number_in word) (λ n. n < 2 ^ 64)
unfolding number_in number_of
number_valid (Bare digits) = cond_both (is_number digits) (Ok (digits_value 10 digits)) (Err BadNumber) (λ (r : Result ℕ ParseError). IfOk r (λ n. n < 2 ^ 64)) (λ is. (is_number_parts digits is).2) (λ _. tt)
number_valid (Quoted text) = tt

-- a command that is read is valid
abbrev IsRead : Result Command ParseError → Type 0
IsRead read = IfOk read IsCommand

rename_layer_valid : (arguments : List Word) → IsRead (rename_layer_of arguments)
unfolding rename_layer_of
rename_layer_valid (layer ∷ name ∷ []) = then_so IsCommand (layer_of layer) _ (λ choice. then_so IsCommand (text_of name) _ (λ text. tt))
rename_layer_valid words = tt

move_layer_valid : (arguments : List Word) → IsRead (move_layer_of arguments)
unfolding move_layer_of
move_layer_valid (layer ∷ index ∷ []) = then_so IsCommand (layer_of layer) _ (λ choice. then_so IsCommand (number_in index) _ (λ at. tt))
move_layer_valid words = tt

drop_layer_valid : (arguments : List Word) → IsRead (drop_layer_of arguments)
unfolding drop_layer_of
drop_layer_valid (layer ∷ []) = then_so IsCommand (layer_of layer) _ (λ choice. tt)
drop_layer_valid words = tt

keep_layers_valid : (arguments : List Word) → IsRead (keep_layers_of arguments)
unfolding keep_layers_of
keep_layers_valid [] = tt
keep_layers_valid (name ∷ more) = then_so IsCommand (texts_of (name ∷ more)) _ (λ names. tt)

insert_feature_valid : (arguments : List Word) → IsRead (insert_feature_of arguments)
unfolding insert_feature_of
insert_feature_valid (layer ∷ index ∷ kind ∷ points) = then_so IsCommand (layer_of layer) _ (λ choice. then_so IsCommand (number_in index) _ (λ at. then_so IsCommand (geometry_of (kind ∷ points)) _ (λ geometry. tt)))
insert_feature_valid words = tt

move_feature_valid : (arguments : List Word) → IsRead (move_feature_of arguments)
unfolding move_feature_of
move_feature_valid (layer ∷ feature ∷ index ∷ []) = then_so IsCommand (chosen_of layer feature) _ (λ chosen. then_so IsCommand (number_in index) _ (λ at. tt))
move_feature_valid words = tt

drop_feature_valid : (arguments : List Word) → IsRead (drop_feature_of arguments)
unfolding drop_feature_of
drop_feature_valid (layer ∷ feature ∷ []) = then_so IsCommand (chosen_of layer feature) _ (λ chosen. tt)
drop_feature_valid words = tt

set_id_valid : (arguments : List Word) → IsRead (set_id_of arguments)
unfolding set_id_of
set_id_valid (layer ∷ feature ∷ id ∷ []) = then_so IsCommand (chosen_of layer feature) _ (λ chosen. then_given (λ n. n < 2 ^ 64) IsCommand (number_in id) _ (number_valid id) (λ number small. small))
set_id_valid words = tt

clear_id_valid : (arguments : List Word) → IsRead (clear_id_of arguments)
unfolding clear_id_of
clear_id_valid (layer ∷ feature ∷ []) = then_so IsCommand (chosen_of layer feature) _ (λ chosen. tt)
clear_id_valid words = tt

set_valid : (arguments : List Word) → IsRead (set_of arguments)
unfolding set_of
set_valid (layer ∷ feature ∷ key ∷ name ∷ value ∷ []) = then_so IsCommand (chosen_of layer feature) _ (λ chosen. then_so IsCommand (text_of key) _ (λ text. then_so IsCommand (value_of name value) _ (λ said. tt)))
set_valid words = tt

unset_valid : (arguments : List Word) → IsRead (unset_of arguments)
unfolding unset_of
unset_valid (layer ∷ feature ∷ key ∷ []) = then_so IsCommand (chosen_of layer feature) _ (λ chosen. then_so IsCommand (text_of key) _ (λ text. tt))
unset_valid words = tt

rename_key_valid : (arguments : List Word) → IsRead (rename_key_of arguments)
unfolding rename_key_of
rename_key_valid (layer ∷ old ∷ new ∷ []) = then_so IsCommand (layer_of layer) _ (λ choice. then_so IsCommand (two_texts_of old new) _ (λ keys. tt))
rename_key_valid words = tt

exclude_valid : (arguments : List Word) → IsRead (exclude_of arguments)
unfolding exclude_of
exclude_valid (layers ∷ key ∷ []) = then_so IsCommand (layers_of layers) _ (λ choice. then_so IsCommand (text_of key) _ (λ text. tt))
exclude_valid words = tt

exclude_all_valid : (arguments : List Word) → IsRead (exclude_all_of arguments)
unfolding exclude_all_of
exclude_all_valid arguments = then_so IsCommand (layers_alone_of arguments) _ (λ choice. tt)

shift_valid : (arguments : List Word) → IsRead (shift_of arguments)
unfolding shift_of
shift_valid (layer ∷ feature ∷ along ∷ down ∷ []) = then_so IsCommand (chosen_of layer feature) _ (λ chosen. then_so IsCommand (distance_of along) _ (λ dx. then_so IsCommand (distance_of down) _ (λ dy. tt)))
shift_valid words = tt

set_geometry_valid : (arguments : List Word) → IsRead (set_geometry_of arguments)
unfolding set_geometry_of
set_geometry_valid (layer ∷ feature ∷ kind ∷ points) = then_so IsCommand (chosen_of layer feature) _ (λ chosen. then_so IsCommand (geometry_of (kind ∷ points)) _ (λ geometry. tt))
set_geometry_valid words = tt

compact_keys_valid : (arguments : List Word) → IsRead (compact_keys_of arguments)
unfolding compact_keys_of
compact_keys_valid arguments = then_so IsCommand (layers_alone_of arguments) _ (λ choice. tt)

compact_values_valid : (arguments : List Word) → IsRead (compact_values_of arguments)
unfolding compact_values_of
compact_values_valid arguments = then_so IsCommand (layers_alone_of arguments) _ (λ choice. tt)

compact_valid : (arguments : List Word) → IsRead (compact_of arguments)
unfolding compact_of
compact_valid arguments = then_so IsCommand (layers_alone_of arguments) _ (λ choice. tt)

all_commands_valid : (arguments : List Word) → AllByRecursion (λ reader. IsRead (reader.1 arguments)) commands
all_commands_valid w =
    (rename_layer_valid w, (move_layer_valid w, (drop_layer_valid w, (keep_layers_valid w, (insert_feature_valid w, (move_feature_valid w, (drop_feature_valid w, (set_id_valid w, (clear_id_valid w, (set_valid w, (unset_valid w, (rename_key_valid w, (exclude_valid w, (exclude_all_valid w, (shift_valid w, (set_geometry_valid w, (compact_keys_valid w, (compact_values_valid w, (compact_valid w, tt)))))))))))))))))))

command_valid : (name : List ℕ) (arguments : List Word) → IsRead (command_by name arguments)
unfolding command_by
command_valid name arguments = read_so IsCommand commands (Err UnknownCommand) name arguments (all_commands_valid arguments) tt

-- ---- requests

-- a request on the history is valid
abbrev IsValid : Request → Type 0
IsValid (OnHistory request) = IsRequest request
IsValid request = Unit {0}

alone_valid : (request : Request) (arguments : List Word) → IsValid request → IfOk (alone_of request arguments) IsValid
unfolding alone_of
alone_valid request [] valid = valid
alone_valid request (more ∷ others) valid = tt

name_valid : (request : List ℕ → HistoryRequest) (arguments : List Word) → ((name : List ℕ) → IsRequest (request name)) → IfOk (name_of arguments >>= λ name. Ok (OnHistory (request name))) IsValid
name_valid request arguments each = then_so IsValid (name_of arguments) (λ name. Ok (OnHistory (request name))) each

list_valid : (arguments : List Word) → IfOk (list_of arguments) IsValid
unfolding list_of
list_valid (layer ∷ []) = then_so IsValid (layer_of layer) _ (λ choice. tt)
list_valid (layer ∷ feature ∷ []) = then_so IsValid (chosen_of layer feature) _ (λ chosen. tt)
list_valid words = tt

all_requests_valid : (arguments : List Word) → AllByRecursion (λ reader. IfOk (reader.1 arguments) IsValid) requests
all_requests_valid w =
    (name_valid SetMark w (λ name. tt), (name_valid TakeMark w (λ name. tt), (name_valid GoBack w (λ name. tt), (alone_valid (OnHistory Undo) w tt, (alone_valid (OnHistory Redo) w tt, (alone_valid ListMarks w tt, (alone_valid PrintHistory w tt, (alone_valid (OnHistory Begin) w tt, (alone_valid (OnHistory End) w tt, (alone_valid (OnHistory Cancel) w tt, (alone_valid Size w tt, (list_valid w, tt))))))))))))

request_valid : (name : List ℕ) (arguments : List Word) → IfOk (request_by name arguments) IsValid
unfolding request_by
request_valid name arguments =
    read_so IsValid requests _ name arguments (all_requests_valid arguments)
    (then_given IsCommand IsValid (command_by name arguments) (λ command. Ok (OnHistory (Edit command))) (command_valid name arguments) (λ command valid. valid))

asked_valid : (words : List Word) → IfOk (asked_by words) IsValid
unfolding asked_by
asked_valid (Bare name ∷ arguments) = request_valid name arguments
asked_valid words = tt

-- ---- lines

-- a request that is answered is valid
abbrev AsksValidly : Result (Option Request) ParseError → Type 0
AsksValidly answer = IfOk answer (λ request. IfSome request IsValid)

either : (test : Bool) (first second : Result (Option Request) ParseError) → AsksValidly first → AsksValidly second → AsksValidly (if test then first else second)
either true first second one other = one
either false first second one other = other

request_in_valid : (line : List ℕ) → IfOk (request_in line) IsValid
unfolding request_in
request_in_valid line = then_so IsValid (ok_or (words_of line) BadWord) asked_by asked_valid

line_valid : (line : List ℕ) → AsksValidly (answer_to line)
unfolding answer_to
line_valid line =
    let read = then_given IsValid (λ (request : Option Request). IfSome request IsValid) (request_in line) (λ request. Ok (Some request)) (request_in_valid line) (λ request valid. valid) in
    either (nat_lt LINE_LIMIT (length line)) (Err LineTooLong) _ tt
    (either (not (is_utf8 line)) (Err BadUtf8) _ tt
    (either (is_remark line) (Ok None) _ tt read))

pub requests_are_valid : RequestsAreValid
requests_are_valid line request asks = subst AsksValidly asks (line_valid line)

-- what a line asks of a history is valid
pub lines_ask_validly : (line : List ℕ) → AllByRecursion IsRequest (asked_in (answer_to line))
lines_ask_validly line = asked_so (answer_to line) (line_valid line)
  where
    asked_so : (answer : Result (Option Request) ParseError) → AsksValidly answer → AllByRecursion IsRequest (asked_in answer)
    asked_so (Ok (Some (OnHistory request))) valid = (valid, tt)
    asked_so (Ok (Some request)) valid = tt
    asked_so (Ok None) valid = tt
    asked_so (Err error) valid = tt
