-- What may follow a line.
use Rattle.std.proofs.Common.{◌≡◌, ℕ, ◌+◌, true, List, ◌++◌, Some, None, sym, ap, ◌∙◌, inl, inr}
use Rattle.std.specs.Prelude.{Result, Ok, Err}
use Rattle.mvt_document.specs.Held.{Held}
use Rattle.tile_arguments.specs.Request.{Request}
use Rattle.tile_lines.specs.Answers.{Refuses}
use Rattle.tile_script.specs.Line.{answer_to, TakesMemory}
use Rattle.tile_course.specs.Answers.{IsAnswered}
use Rattle.tile_course.specs.Replies.{refusal_number}
use Rattle.tile_course.specs.Run.{Progress, refused_for, settled_by, answered_by, without_memory}
use Rattle.mvt_history_steps.specs.Session.{StandsFor}
use Rattle.tile_run.specs.Steps.{CarriesOut, answered}
use Rattle.tile_lines.specs.declared.parse_error.ParseError.{ParseError}
use Rattle.tile_lines.specs.declared.parse_error.ParseError.TheVariants as parse
use Rattle.tile_course.specs.declared.refused.Refused.{Refused}
use Rattle.tile_course.specs.declared.refused.Refused.TheVariants as refused
use Rattle.mvt_history.specs.declared.session.Session.{Session}
use Rattle.tile_course.proofs.ReplyEnds.{out_of_memory_reply}

-- a line that asks for nothing
pub carries_nothing : (session : Session) (line : List ℕ) (p : Progress) → answer_to line ≡ Ok None → StandsFor session p.history → CarriesOut session line None p
carries_nothing session line p asks stands = record {
  history = p.history;
  follows = inl (ap (answered_by p) (sym asks));
  stands = stands;
}

-- a refusal with the number of out of memory
short_of_memory : (p : Progress) (reason : Refused) → refusal_number reason ≡ 60 → refused_for reason p ≡ without_memory p
short_of_memory p reason out_of_memory =
    ap (λ (reply : List ℕ). record { lines = p.lines + 1; history = p.history; replies = p.replies ++ reply; any_refused = true }) (out_of_memory_reply (p.lines + 1) reason out_of_memory)

-- a request
pub carries_request : (session : Session) (line : List ℕ) (request : Request) (p : Progress) (r : Result (Held ℕ) Refused)
    → answer_to line ≡ Ok (Some request) → IsAnswered request p.history r session → CarriesOut session line (Some r) p
carries_request session line request p (Ok printed) asks answers = record {
  history = answers.0;
  follows = inl (ap (settled_by p) (sym answers.1) ∙ ap (answered_by p) (sym asks));
  stands = answers.2;
}
carries_request session line request p (Err reason) asks (inl (refused, stands)) = record {
  history = p.history;
  follows = elim refused [
    | inl (may, out_of_memory) ↦ inr (inl (inr (request, asks, may), short_of_memory p reason out_of_memory))
    | inr e ↦ inl (ap (settled_by p) (sym e) ∙ ap (answered_by p) (sym asks))
  ];
  stands = stands;
}
carries_request session line request p (Err reason) asks (inr (taken, between, is, stops, stands)) = record {
  history = between;
  follows = inr (inr (record {
    request = request;
    asked = asks;
    taken = taken;
    between = between;
    stops = stops;
    stopped = ap (λ (why : Refused). answered p between (Some (Err why))) is;
  }));
  stands = stands;
}

-- a line that is refused before it asks for anything
pub carries_refusal : (session : Session) (line : List ℕ) (e : ParseError) (p : Progress)
    → (e ≡ parse.NoMemory → TakesMemory line) → Refuses e (answer_to line) → StandsFor session p.history → CarriesOut session line (Some (Err (refused.Parse e))) p
carries_refusal session line e p takes refuses stands = record {
  history = p.history;
  follows = elim refuses [
    | inl is ↦ inr (inl (inl (takes is), ap (λ (why : ParseError). refused_for (refused.Parse why) p) is))
    | inr is ↦ inl (ap (answered_by p) (sym is))
  ];
  stands = stands;
}
