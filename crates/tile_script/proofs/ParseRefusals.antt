-- No line is refused as out of memory by its definition.
use Rattle.std.proofs.Common.{◌≡◌, ℕ, Bool, true, false, not, List, [], ◌∷◌, ◌++◌, length, map, Option, Some, None, Result, Ok, Err, subst}
use Rattle.std.specs.Prelude.{codes, nat_lt, ok_or, if◌then◌else◌}
use Rattle.std.specs.List.{AllByRecursion}
use Rattle.std.specs.Map.{lookup}
use Rattle.std.specs.Option.{option_map_or}
use Rattle.std.specs.Str.{bytes_eq, is_utf8}
use Rattle.tile_lines.specs.Words.{Word, Bare, Quoted, words_of}
use Rattle.tile_arguments.specs.Arguments.{text_of, texts_of, number_in, distance_of, layer_of, layers_of, feature_of, geometry_of, value_of}
use Rattle.tile_arguments.proofs.Refusals.{never_memory, then_other, text_other, texts_other, number_in_other, distance_other, layer_other, layers_other, feature_other, geometry_other, value_other}
use Rattle.mvt_meaning.specs.Requests.{HistoryRequest}
use Rattle.tile_arguments.specs.Request.{Request, OnHistory}
use Rattle.tile_arguments.specs.RequestStands.{request_of}
use Rattle.tile_arguments.specs.declared.request.Request as program
use Rattle.tile_script.specs.Line.{is_remark, requests_alone, requests_by_name, alone_of, name_of, list_of, requests, request_by, asked_by, request_in, answer_to}
use Rattle.tile_script.specs.Commands.{chosen_of, two_texts_of, layers_alone_of, rename_layer_of, move_layer_of, drop_layer_of, keep_layers_of, insert_feature_of, move_feature_of, drop_feature_of, set_id_of, clear_id_of, set_of, unset_of, rename_key_of, exclude_of, exclude_all_of, shift_of, set_geometry_of, compact_keys_of, compact_values_of, compact_of, commands, read_by, command_by}
use Rattle.tile_lines.specs.Answers.{◌>>=◌, GivesAlways}
use Rattle.tile_lines.specs.declared.parse_error.ParseError.{ParseError}
use Rattle.tile_lines.specs.declared.parse_error.ParseError.TheVariants as parse
use Rattle.mvt_meaning.proofs.Others.{Other, either}

chosen_other : (layer feature : Word) → Other parse.NoMemory (chosen_of layer feature)
unfolding chosen_of
chosen_other layer feature = then_other (layer_of layer) _ (layer_other layer) (λ choice. then_other (feature_of feature) _ (feature_other feature) (λ chosen. tt))

two_texts_other : (first second : Word) → Other parse.NoMemory (two_texts_of first second)
unfolding two_texts_of
two_texts_other first second = then_other (text_of first) _ (text_other first) (λ one. then_other (text_of second) _ (text_other second) (λ other. tt))

rename_layer_other : (arguments : List Word) → Other parse.NoMemory (rename_layer_of arguments)
unfolding rename_layer_of
rename_layer_other [] = λ e. cc
rename_layer_other (layer ∷ []) = λ e. cc
rename_layer_other (layer ∷ name ∷ []) = then_other (layer_of layer) _ (layer_other layer) (λ choice. then_other (text_of name) _ (text_other name) (λ text. tt))
rename_layer_other (layer ∷ name ∷ more ∷ others) = λ e. cc

move_layer_other : (arguments : List Word) → Other parse.NoMemory (move_layer_of arguments)
unfolding move_layer_of
move_layer_other [] = λ e. cc
move_layer_other (layer ∷ []) = λ e. cc
move_layer_other (layer ∷ index ∷ []) = then_other (layer_of layer) _ (layer_other layer) (λ choice. then_other (number_in index) _ (number_in_other index) (λ number. tt))
move_layer_other (layer ∷ index ∷ more ∷ others) = λ e. cc

drop_layer_other : (arguments : List Word) → Other parse.NoMemory (drop_layer_of arguments)
unfolding drop_layer_of
drop_layer_other [] = λ e. cc
drop_layer_other (layer ∷ []) = then_other (layer_of layer) _ (layer_other layer) (λ choice. tt)
drop_layer_other (layer ∷ more ∷ others) = λ e. cc

keep_layers_other : (arguments : List Word) → Other parse.NoMemory (keep_layers_of arguments)
unfolding keep_layers_of
keep_layers_other [] = λ e. cc
keep_layers_other (name ∷ more) = then_other (texts_of (name ∷ more)) _ (texts_other (name ∷ more)) (λ names. tt)

insert_feature_other : (arguments : List Word) → Other parse.NoMemory (insert_feature_of arguments)
unfolding insert_feature_of
insert_feature_other [] = λ e. cc
insert_feature_other (layer ∷ []) = λ e. cc
insert_feature_other (layer ∷ index ∷ []) = λ e. cc
insert_feature_other (layer ∷ index ∷ kind ∷ points) = then_other (layer_of layer) _ (layer_other layer) (λ choice. then_other (number_in index) _ (number_in_other index) (λ number. then_other (geometry_of (kind ∷ points)) _ (geometry_other (kind ∷ points)) (λ geometry. tt)))

move_feature_other : (arguments : List Word) → Other parse.NoMemory (move_feature_of arguments)
unfolding move_feature_of
move_feature_other [] = λ e. cc
move_feature_other (layer ∷ []) = λ e. cc
move_feature_other (layer ∷ feature ∷ []) = λ e. cc
move_feature_other (layer ∷ feature ∷ index ∷ []) = then_other (chosen_of layer feature) _ (chosen_other layer feature) (λ chosen. then_other (number_in index) _ (number_in_other index) (λ number. tt))
move_feature_other (layer ∷ feature ∷ index ∷ more ∷ others) = λ e. cc

drop_feature_other : (arguments : List Word) → Other parse.NoMemory (drop_feature_of arguments)
unfolding drop_feature_of
drop_feature_other [] = λ e. cc
drop_feature_other (layer ∷ []) = λ e. cc
drop_feature_other (layer ∷ feature ∷ []) = then_other (chosen_of layer feature) _ (chosen_other layer feature) (λ chosen. tt)
drop_feature_other (layer ∷ feature ∷ more ∷ others) = λ e. cc

set_id_other : (arguments : List Word) → Other parse.NoMemory (set_id_of arguments)
unfolding set_id_of
set_id_other [] = λ e. cc
set_id_other (layer ∷ []) = λ e. cc
set_id_other (layer ∷ feature ∷ []) = λ e. cc
set_id_other (layer ∷ feature ∷ id ∷ []) = then_other (chosen_of layer feature) _ (chosen_other layer feature) (λ chosen. then_other (number_in id) _ (number_in_other id) (λ number. tt))
set_id_other (layer ∷ feature ∷ id ∷ more ∷ others) = λ e. cc

clear_id_other : (arguments : List Word) → Other parse.NoMemory (clear_id_of arguments)
unfolding clear_id_of
clear_id_other [] = λ e. cc
clear_id_other (layer ∷ []) = λ e. cc
clear_id_other (layer ∷ feature ∷ []) = then_other (chosen_of layer feature) _ (chosen_other layer feature) (λ chosen. tt)
clear_id_other (layer ∷ feature ∷ more ∷ others) = λ e. cc

set_other : (arguments : List Word) → Other parse.NoMemory (set_of arguments)
unfolding set_of
set_other [] = λ e. cc
set_other (layer ∷ []) = λ e. cc
set_other (layer ∷ feature ∷ []) = λ e. cc
set_other (layer ∷ feature ∷ key ∷ []) = λ e. cc
set_other (layer ∷ feature ∷ key ∷ name ∷ []) = λ e. cc
set_other (layer ∷ feature ∷ key ∷ name ∷ value ∷ []) =
    then_other (chosen_of layer feature) _ (chosen_other layer feature) (λ chosen. then_other (text_of key) _ (text_other key) (λ text. then_other (value_of name value) _ (value_other name value) (λ said. tt)))
set_other (layer ∷ feature ∷ key ∷ name ∷ value ∷ more ∷ others) = λ e. cc

unset_other : (arguments : List Word) → Other parse.NoMemory (unset_of arguments)
unfolding unset_of
unset_other [] = λ e. cc
unset_other (layer ∷ []) = λ e. cc
unset_other (layer ∷ feature ∷ []) = λ e. cc
unset_other (layer ∷ feature ∷ key ∷ []) = then_other (chosen_of layer feature) _ (chosen_other layer feature) (λ chosen. then_other (text_of key) _ (text_other key) (λ text. tt))
unset_other (layer ∷ feature ∷ key ∷ more ∷ others) = λ e. cc

rename_key_other : (arguments : List Word) → Other parse.NoMemory (rename_key_of arguments)
unfolding rename_key_of
rename_key_other [] = λ e. cc
rename_key_other (layer ∷ []) = λ e. cc
rename_key_other (layer ∷ old ∷ []) = λ e. cc
rename_key_other (layer ∷ old ∷ new ∷ []) = then_other (layer_of layer) _ (layer_other layer) (λ choice. then_other (two_texts_of old new) _ (two_texts_other old new) (λ keys. tt))
rename_key_other (layer ∷ old ∷ new ∷ more ∷ others) = λ e. cc

exclude_other : (arguments : List Word) → Other parse.NoMemory (exclude_of arguments)
unfolding exclude_of
exclude_other [] = λ e. cc
exclude_other (layers ∷ []) = λ e. cc
exclude_other (layers ∷ key ∷ []) = then_other (layers_of layers) _ (layers_other layers) (λ choice. then_other (text_of key) _ (text_other key) (λ text. tt))
exclude_other (layers ∷ key ∷ more ∷ others) = λ e. cc

layers_alone_other : (arguments : List Word) → Other parse.NoMemory (layers_alone_of arguments)
unfolding layers_alone_of
layers_alone_other [] = λ e. cc
layers_alone_other (layers ∷ []) = layers_other layers
layers_alone_other (layers ∷ more ∷ others) = λ e. cc

exclude_all_other : (arguments : List Word) → Other parse.NoMemory (exclude_all_of arguments)
unfolding exclude_all_of
exclude_all_other arguments = then_other (layers_alone_of arguments) _ (layers_alone_other arguments) (λ choice. tt)

compact_keys_other : (arguments : List Word) → Other parse.NoMemory (compact_keys_of arguments)
unfolding compact_keys_of
compact_keys_other arguments = then_other (layers_alone_of arguments) _ (layers_alone_other arguments) (λ choice. tt)

compact_values_other : (arguments : List Word) → Other parse.NoMemory (compact_values_of arguments)
unfolding compact_values_of
compact_values_other arguments = then_other (layers_alone_of arguments) _ (layers_alone_other arguments) (λ choice. tt)

compact_other : (arguments : List Word) → Other parse.NoMemory (compact_of arguments)
unfolding compact_of
compact_other arguments = then_other (layers_alone_of arguments) _ (layers_alone_other arguments) (λ choice. tt)

shift_other : (arguments : List Word) → Other parse.NoMemory (shift_of arguments)
unfolding shift_of
shift_other [] = λ e. cc
shift_other (layer ∷ []) = λ e. cc
shift_other (layer ∷ feature ∷ []) = λ e. cc
shift_other (layer ∷ feature ∷ along ∷ []) = λ e. cc
shift_other (layer ∷ feature ∷ along ∷ down ∷ []) =
    then_other (chosen_of layer feature) _ (chosen_other layer feature) (λ chosen. then_other (distance_of along) _ (distance_other along) (λ dx. then_other (distance_of down) _ (distance_other down) (λ dy. tt)))
shift_other (layer ∷ feature ∷ along ∷ down ∷ more ∷ others) = λ e. cc

set_geometry_other : (arguments : List Word) → Other parse.NoMemory (set_geometry_of arguments)
unfolding set_geometry_of
set_geometry_other [] = λ e. cc
set_geometry_other (layer ∷ []) = λ e. cc
set_geometry_other (layer ∷ feature ∷ []) = λ e. cc
set_geometry_other (layer ∷ feature ∷ kind ∷ points) =
    then_other (chosen_of layer feature) _ (chosen_other layer feature) (λ chosen. then_other (geometry_of (kind ∷ points)) _ (geometry_other (kind ∷ points)) (λ geometry. tt))

first_other : {A : Type 0} (is : Bool) (read : List Word → Result A ParseError) (found : Option (List Word → Result A ParseError)) (arguments : List Word) (unknown : Result A ParseError) → Other parse.NoMemory (read arguments) → Other parse.NoMemory (option_map_or (λ read. read arguments) found unknown) → Other parse.NoMemory (option_map_or (λ read. read arguments) (if is then Some read else found) unknown)
first_other true read found arguments unknown first others = first
first_other false read found arguments unknown first others = others

-- some readers, none of which refuses arguments as out of memory
read_other : {A : Type 0} (readers : List (List ℕ × (List Word → Result A ParseError))) (unknown : Result A ParseError) (name : List ℕ) (arguments : List Word) → AllByRecursion (λ reader. Other parse.NoMemory (reader.1 arguments)) readers → Other parse.NoMemory unknown → Other parse.NoMemory (read_by readers unknown name arguments)
read_other [] unknown name arguments each other = other
read_other (reader ∷ readers) unknown name arguments (first, each) other =
    first_other (bytes_eq name reader.0) reader.1 (lookup (bytes_eq name) readers) arguments unknown first (read_other readers unknown name arguments each other)

command_other : (name : List ℕ) (arguments : List Word) → Other parse.NoMemory (command_by name arguments)
unfolding command_by
command_other name arguments = read_other commands (Err parse.UnknownCommand) name arguments (
  rename_layer_other arguments,
  (
    move_layer_other arguments,
    (
      drop_layer_other arguments,
      (
        keep_layers_other arguments,
        (
          insert_feature_other arguments,
          (
            move_feature_other arguments,
            (
              drop_feature_other arguments,
              (
                set_id_other arguments,
                (
                  clear_id_other arguments,
                  (
                    set_other arguments,
                    (
                      unset_other arguments,
                      (rename_key_other arguments, (exclude_other arguments, (exclude_all_other arguments, (shift_other arguments, (set_geometry_other arguments, (compact_keys_other arguments, (compact_values_other arguments, (compact_other arguments, tt)))))))),
                    ),
                  ),
                ),
              ),
            ),
          ),
        ),
      ),
    ),
  ),
) (λ e. cc)

alone_other : (request : Request) (arguments : List Word) → Other parse.NoMemory (alone_of request arguments)
unfolding alone_of
alone_other request [] = tt
alone_other request (more ∷ others) = λ e. cc

-- the answer to a word that is a request by itself is never out of memory
pub never_alone : (answer : Result program.Request ParseError) (request : Request) (arguments : List Word) → GivesAlways request_of answer (alone_of request arguments) → answer ≡ Err parse.NoMemory → ⊥
never_alone answer request arguments gives memory =
    never_memory (alone_of request arguments) (alone_other request arguments) (subst (λ given. GivesAlways request_of given (alone_of request arguments)) memory gives)

name_other : (arguments : List Word) → Other parse.NoMemory (name_of arguments)
unfolding name_of
name_other [] = λ e. cc
name_other (name ∷ []) = text_other name
name_other (name ∷ more ∷ others) = λ e. cc

list_other : (arguments : List Word) → Other parse.NoMemory (list_of arguments)
unfolding list_of
list_other [] = tt
list_other (layer ∷ []) = then_other (layer_of layer) _ (layer_other layer) (λ choice. tt)
list_other (layer ∷ feature ∷ []) = then_other (chosen_of layer feature) _ (chosen_other layer feature) (λ chosen. tt)
list_other (layer ∷ feature ∷ more ∷ others) = λ e. cc

all_by_name : (arguments : List Word) (words : List (List ℕ × (List ℕ → HistoryRequest))) (more : List (List ℕ × (List Word → Result Request ParseError))) → AllByRecursion (λ reader. Other parse.NoMemory (reader.1 arguments)) more → AllByRecursion (λ reader. Other parse.NoMemory (reader.1 arguments)) (map (λ word. (word.0, λ arguments. name_of arguments >>= λ name. Ok (OnHistory (word.1 name)))) words ++ more)
all_by_name arguments [] more others = others
all_by_name arguments (word ∷ words) more others = (then_other (name_of arguments) _ (name_other arguments) (λ name. tt), all_by_name arguments words more others)

all_alone : (arguments : List Word) (words : List (List ℕ × Request)) (more : List (List ℕ × (List Word → Result Request ParseError))) → AllByRecursion (λ reader. Other parse.NoMemory (reader.1 arguments)) more → AllByRecursion (λ reader. Other parse.NoMemory (reader.1 arguments)) (map (λ word. (word.0, alone_of word.1)) words ++ more)
all_alone arguments [] more others = others
all_alone arguments (word ∷ words) more others = (alone_other word.1 arguments, all_alone arguments words more others)

-- the readers after those of a mark's name
abbrev names_following : List (List ℕ × (List Word → Result Request ParseError))
names_following = map (λ word. (word.0, alone_of word.1)) requests_alone ++ (codes "list", list_of) ∷ []

named_other : (name : List ℕ) (arguments : List Word) → Other parse.NoMemory (request_by name arguments)
unfolding request_by
named_other name arguments =
    read_other requests _ name arguments (all_by_name arguments requests_by_name names_following (all_alone arguments requests_alone ((codes "list", list_of) ∷ []) (list_other arguments, tt)))
    (then_other (command_by name arguments) _ (command_other name arguments) (λ command. tt))

asked_other : (words : List Word) → Other parse.NoMemory (asked_by words)
unfolding asked_by
asked_other [] = λ e. cc
asked_other (Quoted text ∷ arguments) = λ e. cc
asked_other (Bare name ∷ arguments) = named_other name arguments

words_other : (words : Option (List Word)) → Other parse.NoMemory (ok_or words parse.BadWord)
words_other None = λ e. cc
words_other (Some words) = tt

request_other : (bytes : List ℕ) → Other parse.NoMemory (request_in bytes)
unfolding request_in
request_other bytes = then_other (ok_or (words_of bytes) parse.BadWord) asked_by (words_other (words_of bytes)) asked_other

pub answer_other : (bytes : List ℕ) → Other parse.NoMemory (answer_to bytes)
unfolding answer_to
answer_other bytes =
    either parse.NoMemory (nat_lt 65536 (length bytes)) _ _ (λ e. cc) (
    either parse.NoMemory (not (is_utf8 bytes)) _ _ (λ e. cc) (
    either parse.NoMemory (is_remark bytes) _ _ tt (then_other (request_in bytes) _ (request_other bytes) (λ request. tt))))
