-- How a word is read that is a request by itself, and one that is not.
use Rattle.std.proofs.Common.{◌≡◌, ℕ, Bool, true, false, cond, List, [], ◌∷◌, ◌++◌, drop, map, Some, None, Result, Ok, Err, inr, refl}
use Rattle.std.specs.Map.{lookup}
use Rattle.std.specs.Str.{bytes_eq}
use Rattle.tile_arguments.specs.Request.{Request}
use Rattle.tile_arguments.specs.RequestStands.{request_of}
use Rattle.tile_arguments.specs.declared.request.Request as program
use Rattle.tile_lines.specs.Answers.{Gives, GivesAlways}
use Rattle.tile_lines.specs.Words.{Word}
use Rattle.tile_lines.specs.declared.parse_error.ParseError.{ParseError}
use Rattle.tile_script.specs.Commands.{read_by}
use Rattle.tile_script.specs.Line.{alone_of, requests, requests_alone, edit_by}

abbrev Reader : Type 0
Reader = List Word → Result Request ParseError

-- the reader that is found for a word, where the words that are requests by themselves come first
found : (test : List ℕ → Bool) (words : List (List ℕ × Request)) (more : List (List ℕ × Reader)) (request : Request) → Some request ≡ lookup test words → lookup test (map (λ word. (word.0, alone_of word.1)) words ++ more) ≡ Some (alone_of request)
found test [] more request e = absurd cc
found test (word ∷ words) more request e = either (test word.0) (found test words more request) e
  where
    either : (passes : Bool) → (Some request ≡ lookup test words → lookup test (map (λ word. (word.0, alone_of word.1)) words ++ more) ≡ Some (alone_of request)) → Some request ≡ cond passes (Some word.1) (lookup test words) → cond passes (Some (alone_of word.1)) (lookup test (map (λ word. (word.0, alone_of word.1)) words ++ more)) ≡ Some (alone_of request)
    either true others e = cc
    either false others e = others e

-- the same for a word that is none of these
not_found : (test : List ℕ → Bool) (words : List (List ℕ × Request)) (more : List (List ℕ × Reader)) → None ≡ lookup test words → lookup test (map (λ word. (word.0, alone_of word.1)) words ++ more) ≡ lookup test more
not_found test [] more e = refl
not_found test (word ∷ words) more e = either (test word.0) (not_found test words more) e
  where
    either : (passes : Bool) → (None ≡ lookup test words → lookup test (map (λ word. (word.0, alone_of word.1)) words ++ more) ≡ lookup test more) → None ≡ cond passes (Some word.1) (lookup test words) → cond passes (Some (alone_of word.1)) (lookup test (map (λ word. (word.0, alone_of word.1)) words ++ more)) ≡ lookup test more
    either true others e = absurd cc
    either false others e = others e

always : (answer : Result program.Request ParseError) (defined : Result Request ParseError) → GivesAlways request_of answer defined → Gives request_of answer defined
always (Ok request) defined gives = gives
always (Err refusal) defined gives = inr gives

-- what is answered to such a word as `alone_of` says is what is defined
pub alone_answered : (answer : Result program.Request ParseError) (name : List ℕ) (arguments : List Word) (request : Request) → Some request ≡ lookup (bytes_eq name) requests_alone
    → GivesAlways request_of answer (alone_of request arguments) → Gives request_of answer (read_by (drop 3 requests) (edit_by name arguments) name arguments)
alone_answered answer name arguments request is gives =
    always answer _ (rw (found (bytes_eq name) requests_alone (drop 11 requests) request is) gives)

-- what is answered to another word as the readers that follow define it is what is defined
pub other_answered : (answer : Result program.Request ParseError) (name : List ℕ) (arguments : List Word) → None ≡ lookup (bytes_eq name) requests_alone
    → Gives request_of answer (read_by (drop 11 requests) (edit_by name arguments) name arguments) → Gives request_of answer (read_by (drop 3 requests) (edit_by name arguments) name arguments)
other_answered answer name arguments none gives = rw (not_found (bytes_eq name) requests_alone (drop 11 requests) none) gives
