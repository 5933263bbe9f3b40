-- A line of the right words asks for a request.
use Rattle.std.proofs.Common.{◌≡◌, ℕ, Bool, true, false, eqb, List, [], ◌∷◌, ◌++◌, Some, Ok, refl, ap, ◌∙◌}
use Rattle.std.specs.Prelude.{◌==◌, slice_get, codes}
use Rattle.std.specs.Option.{option_map_or}
use Rattle.std.specs.List.{AllByRecursion}
use Rattle.std.specs.Str.Parse.{digits_value}
use Rattle.mvt_meaning.specs.Command.{Command, AtOrdinal, Named, RenameLayer, FeatureAtOrdinal, WithId}
use Rattle.tile_arguments.specs.Arguments.{is_number}
use Rattle.tile_arguments.proofs.Meant.{text_quoted, layer_named, layer_at, feature_at, feature_with_id}
use Rattle.mvt_meaning.specs.Requests.{HistoryRequest, Edit, Undo, Redo, SetMark, TakeMark, GoBack, Begin, End, Cancel}
use Rattle.tile_arguments.specs.Request.{Request, OnHistory, ListMarks, PrintHistory, Size, Lists, Whole, OneLayer, OneFeature}
use Rattle.tile_lines.specs.Words.{Word, Bare, Quoted, words_of}
use Rattle.tile_lines.specs.Spelling.{SpellsWords}
use Rattle.tile_lines.proofs.Again.{words_only, past_blanks, no_gap}
use Rattle.tile_script.specs.Commands.{chosen_of, command_by, rename_layer_of}
use Rattle.tile_script.specs.Line.{IsAsking, requests_alone, requests_by_name, alone_of, name_of, list_of, request_by, asked_by, is_remark, request_in, answer_to, IsReadable}
use Rattle.tile_script.specs.Shapes.{AsksAlone, AsksByName}
use Rattle.tile_script.proofs.Silent.{answer_to-words}

-- the first of the bytes, where there is one, is a `#`
abbrev is_remark_after : List ℕ → Bool
is_remark_after bytes = option_map_or (λ byte. byte == 35) (slice_get bytes 0) true

-- a line is not a remark, where its first word is bare and begins with another byte
no_remark : (line : List ℕ) (b : ℕ) (name : List ℕ) (words : List Word) → SpellsWords line (Bare (b ∷ name) ∷ words) → is_remark line ≡ eqb b 35
no_remark line b name words s =
    ap is_remark s.3 ∙ ap is_remark_after (past_blanks s.0 (s.1 ++ s.2) s.4 (no_gap s.1 (Bare (b ∷ name)) s.2 s.5)) ∙ ap (λ (bytes : List ℕ). is_remark_after (bytes ++ s.2)) s.5.0

-- a readable line that is not a remark asks for what its words ask for
asks : (line : List ℕ) (words : List Word) (request : Request) → IsAsking line → words_of line ≡ Some words → asked_by words ≡ Ok request → answer_to line ≡ Ok (Some request)
unfolding request_in
asks line words request takes read asked = answer_to-words line takes ∙ rw (read, asked) refl

-- the same for a line whose first word is bare, and begins with a byte other than `#`
asks_by : (line : List ℕ) (b : ℕ) (name : List ℕ) (arguments : List Word) (request : Request) → IsReadable line → eqb b 35 ≡ false
    → SpellsWords line (Bare (b ∷ name) ∷ arguments) → asked_by (Bare (b ∷ name) ∷ arguments) ≡ Ok request → answer_to line ≡ Ok (Some request)
asks_by line b name arguments request readable other s asked =
    let words = Bare (b ∷ name) ∷ arguments in
    asks line words request (readable, no_remark line b name arguments s ∙ other) (words_only line words s) asked

-- ---- lines of a request's word, alone or with a name

alone : (b : ℕ) (name : List ℕ) (request : Request) → eqb b 35 ≡ false → asked_by (Bare (b ∷ name) ∷ []) ≡ Ok request → AsksAlone (b ∷ name, request)
alone b name request other asked = λ line readable s. asks_by line b name [] request readable other s asked

pub asks_alone : AllByRecursion AsksAlone requests_alone
unfolding asked_by request_by alone_of
asks_alone = (
  alone _ _ (OnHistory Undo) refl refl,
  (
    alone _ _ (OnHistory Redo) refl refl,
    (
      alone _ _ ListMarks refl refl,
      (
        alone _ _ PrintHistory refl refl,
        (
          alone _ _ (OnHistory Begin) refl refl,
          (
            alone _ _ (OnHistory End) refl refl,
            (
              alone _ _ (OnHistory Cancel) refl refl,
              (alone _ _ Size refl refl, tt),
            ),
          ),
        ),
      ),
    ),
  ),
)

by_name : (b : ℕ) (word : List ℕ) (request : List ℕ → HistoryRequest) → eqb b 35 ≡ false → ((name : List ℕ) → asked_by (Bare (b ∷ word) ∷ Quoted name ∷ []) ≡ Ok (OnHistory (request name))) → AsksByName (b ∷ word, request)
by_name b word request other asked = λ line name readable s. asks_by line b word (Quoted name ∷ []) (OnHistory (request name)) readable other s (asked name)

pub asks_by_name : AllByRecursion AsksByName requests_by_name
unfolding asked_by request_by name_of
asks_by_name = (
  by_name _ _ SetMark refl (λ name. rw (text_quoted name) refl),
  (
    by_name _ _ TakeMark refl (λ name. rw (text_quoted name) refl),
    (by_name _ _ GoBack refl (λ name. rw (text_quoted name) refl), tt),
  ),
)

-- ---- lines whose first word is `rename-layer`

asks_rename : (line : List ℕ) (arguments : List Word) (command : Command) → IsReadable line → SpellsWords line (Bare (codes "rename-layer") ∷ arguments) → rename_layer_of arguments ≡ Ok command → answer_to line ≡ Ok (Some (OnHistory (Edit command)))
unfolding asked_by request_by command_by
asks_rename line arguments command readable s e =
    asks_by line 114 (101 ∷ 110 ∷ 97 ∷ 109 ∷ 101 ∷ 45 ∷ 108 ∷ 97 ∷ 121 ∷ 101 ∷ 114 ∷ []) arguments (OnHistory (Edit command)) readable refl s asked
  where
    asked : asked_by (Bare (codes "rename-layer") ∷ arguments) ≡ Ok (OnHistory (Edit command))
    asked = rw e refl

pub asks_rename_named : (line old new : List ℕ) → IsReadable line → SpellsWords line (Bare (codes "rename-layer") ∷ Quoted old ∷ Quoted new ∷ []) → answer_to line ≡ Ok (Some (OnHistory (Edit (RenameLayer (Named old) new))))
unfolding rename_layer_of
asks_rename_named line old new readable s = asks_rename line (Quoted old ∷ Quoted new ∷ []) (RenameLayer (Named old) new) readable s asked
  where
    asked : rename_layer_of (Quoted old ∷ Quoted new ∷ []) ≡ Ok (RenameLayer (Named old) new)
    asked = rw (layer_named old, text_quoted new) refl

pub asks_rename_ordinal : (line digits new : List ℕ) → IsReadable line → is_number digits ≡ true → SpellsWords line (Bare (codes "rename-layer") ∷ Bare (codes "#" ++ digits) ∷ Quoted new ∷ []) → answer_to line ≡ Ok (Some (OnHistory (Edit (RenameLayer (AtOrdinal (digits_value 10 digits)) new))))
unfolding rename_layer_of
asks_rename_ordinal line digits new readable number s =
    asks_rename line (Bare (codes "#" ++ digits) ∷ Quoted new ∷ []) (RenameLayer (AtOrdinal (digits_value 10 digits)) new) readable s asked
  where
    asked : rename_layer_of (Bare (codes "#" ++ digits) ∷ Quoted new ∷ []) ≡ Ok (RenameLayer (AtOrdinal (digits_value 10 digits)) new)
    asked = rw (layer_at digits number, text_quoted new) refl

-- ---- lines whose first word is `list`

asks_list : (line : List ℕ) (arguments : List Word) (request : Request) → IsReadable line → SpellsWords line (Bare (codes "list") ∷ arguments) → list_of arguments ≡ Ok request → answer_to line ≡ Ok (Some request)
unfolding asked_by request_by
asks_list line arguments request readable s asked = asks_by line 108 (105 ∷ 115 ∷ 116 ∷ []) arguments request readable refl s asked

pub asks_list_whole : (line : List ℕ) → IsReadable line → SpellsWords line (Bare (codes "list") ∷ []) → answer_to line ≡ Ok (Some (Lists Whole))
unfolding list_of
asks_list_whole line readable s = asks_list line [] (Lists Whole) readable s refl

pub asks_list_layer : (line name : List ℕ) → IsReadable line → SpellsWords line (Bare (codes "list") ∷ Quoted name ∷ []) → answer_to line ≡ Ok (Some (Lists (OneLayer (Named name))))
unfolding list_of
asks_list_layer line name readable s = asks_list line (Quoted name ∷ []) (Lists (OneLayer (Named name))) readable s asked
  where
    asked : list_of (Quoted name ∷ []) ≡ Ok (Lists (OneLayer (Named name)))
    asked = rw (layer_named name) refl

pub asks_list_feature_at : (line layer feature : List ℕ) → IsReadable line → is_number layer ≡ true → is_number feature ≡ true → SpellsWords line (Bare (codes "list") ∷ Bare (codes "#" ++ layer) ∷ Bare feature ∷ []) → answer_to line ≡ Ok (Some (Lists (OneFeature (AtOrdinal (digits_value 10 layer)) (FeatureAtOrdinal (digits_value 10 feature)))))
unfolding list_of chosen_of
asks_list_feature_at line layer feature readable at among s =
    asks_list line (Bare (codes "#" ++ layer) ∷ Bare feature ∷ []) (Lists (OneFeature (AtOrdinal (digits_value 10 layer)) (FeatureAtOrdinal (digits_value 10 feature)))) readable s asked
  where
    asked : list_of (Bare (codes "#" ++ layer) ∷ Bare feature ∷ []) ≡ Ok (Lists (OneFeature (AtOrdinal (digits_value 10 layer)) (FeatureAtOrdinal (digits_value 10 feature))))
    asked = rw (layer_at layer at, feature_at feature among) refl

pub asks_list_feature_with_id : (line name id : List ℕ) → IsReadable line → is_number id ≡ true → SpellsWords line (Bare (codes "list") ∷ Quoted name ∷ Bare (codes "@" ++ id) ∷ []) → answer_to line ≡ Ok (Some (Lists (OneFeature (Named name) (WithId (digits_value 10 id)))))
unfolding list_of chosen_of
asks_list_feature_with_id line name id readable number s =
    asks_list line (Quoted name ∷ Bare (codes "@" ++ id) ∷ []) (Lists (OneFeature (Named name) (WithId (digits_value 10 id)))) readable s asked
  where
    asked : list_of (Quoted name ∷ Bare (codes "@" ++ id) ∷ []) ≡ Ok (Lists (OneFeature (Named name) (WithId (digits_value 10 id))))
    asked = rw (layer_named name, feature_with_id id number) refl
