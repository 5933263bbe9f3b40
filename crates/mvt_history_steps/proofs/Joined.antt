-- The changes of an open step, one per command, lead out of it; joined they lead back over it as one step.
use Rattle.std.proofs.Common.{◌≡◌, ℕ, zero, suc, ◌+◌, ◌-◌, ◌≤◌, Option, Some, None, Ok, List, [], ◌∷◌, ◌++◌, append_assoc, length, length-append, length-take-le, take, drop, get_or, refl, sym, ap, subst, ◌∙◌, arith}
use Rattle.std.proofs.lemmas.List.{append-nil, length-map, length-drop, take_all, take_at, take_more, take-map, take-take, map-append, get_or_at}
use Rattle.std.proofs.lemmas.List.Sums.{sum_by-append}
use Rattle.mvt_document.specs.Plain.{Document}
use Rattle.mvt_meaning.specs.Command.{Command}
use Rattle.mvt_meaning.specs.Meaning.{after, applied}
use Rattle.mvt_change.specs.Changes.{Change, Fits, go, turn, step_weight, weight}
use Rattle.mvt_change.specs.Joining.{joined, go_along}
use Rattle.mvt_change.proofs.Turning.{go_joined, fits_joined, turn_joined}
use Rattle.mvt_history_steps.specs.History.{after_all, after_steps, commands_in}
use Rattle.mvt_history_steps.specs.Reached.{all_taken_by, all_put_by, LeadsBack, LeadBack, singles, LeadOut}
use Rattle.mvt_history_steps.specs.Standing.{changes_in}
use Rattle.mvt_history_steps.proofs.Following.{all_joined, lead_back_same, lead_back_dropped, back_along}

-- ---- one command

pub after_accepted : (command : Command) (document new : Document) → applied command document ≡ Ok new → after command document ≡ new
after_accepted command document new e = rw e refl

-- ---- one step after the other

taken_joined : (commands more : List Command) (document : Document) → all_taken_by (commands ++ more) document ≡ all_taken_by commands document + all_taken_by more (after_all commands document)
taken_joined [] more document = omega arith
taken_joined (command ∷ commands) more document = omega (arith, taken_joined commands more (after command document))

put_joined : (commands more : List Command) (document : Document) → all_put_by (commands ++ more) document ≡ all_put_by commands document + all_put_by more (after_all commands document)
put_joined [] more document = omega arith
put_joined (command ∷ commands) more document = omega (arith, put_joined commands more (after command document))

pub weight_joined : (first second : Change) → weight (first ++ second) ≡ weight first + weight second
weight_joined first second = sum_by-append step_weight first second

-- a change that leads back over the later commands, and then one that does so over those before
pub leads_back_joined : (first second : List Command) (before : Document) (later earlier : Change) → LeadsBack second (after_all first before) later → LeadsBack first before earlier → LeadsBack (first ++ second) before (later ++ earlier)
leads_back_joined first second before later earlier back further =
    let middle = after_all first before in
    let end = after_all second middle in
    let whole : end ≡ after_all (first ++ second) before = sym (all_joined first second before) in
    let turned : turn (later ++ earlier) end ≡ turn earlier middle ++ turn later end = turn_joined later earlier end ∙ ap (λ d. turn earlier d ++ turn later end) back.leads in
    let turned_weight : weight (turn (later ++ earlier) (after_all (first ++ second) before)) ≡ weight (turn earlier middle) + weight (turn later end) =
    ap (λ d. weight (turn (later ++ earlier) d)) (sym whole) ∙ ap weight turned ∙ weight_joined (turn earlier middle) (turn later end) in
    let holds = back.holds in
    let holds_further = further.holds in
    let becomes = back.becomes in
    let becomes_further = further.becomes in
    let few = back.few_steps in
    let few_further = further.few_steps in
    record {
      fits = subst (Fits (later ++ earlier)) whole (fits_joined later earlier end back.fits (subst (Fits earlier) (sym back.leads) further.fits));
      leads = ap (go (later ++ earlier)) (sym whole) ∙ go_joined later earlier end ∙ ap (go earlier) back.leads ∙ further.leads;
      holds = omega (arith, weight_joined later earlier, taken_joined first second before, holds, holds_further);
      becomes = omega (arith, turned_weight, put_joined first second before, becomes, becomes_further);
      few_steps = omega (arith, length-append later earlier, length-append first second, taken_joined first second before, put_joined first second before, few, few_further);
    }

-- ---- an open step

pub singles_after : (commands : List Command) (document : Document) → after_steps (singles commands) document ≡ after_all commands document
singles_after [] document = refl
singles_after (command ∷ commands) document = singles_after commands (after command document)

pub singles_taken : (count : ℕ) (commands : List Command) → take count (singles commands) ≡ singles (take count commands)
singles_taken count commands = take-map (λ command. command ∷ []) count commands

pub length_singles : (commands : List Command) → length (singles commands) ≡ length commands
length_singles commands = length-map commands (λ command. command ∷ [])

all_singles : (commands : List Command) (document : Document) → after_steps (take (length commands) (singles commands)) document ≡ after_all commands document
all_singles commands document =
    let all : length (singles commands) ≤ length commands = omega (arith, length_singles commands) in
    ap (λ steps. after_steps steps document) (take_all (length commands) (singles commands) all) ∙ singles_after commands document

-- one more command
pub lead_out_more : (commands : List Command) (command : Command) (document : Document) (changes : List Change) (change : Change) → LeadOut (Some commands) document (Some changes) → LeadsBack (command ∷ []) (after_all commands document) change → LeadOut (Some (commands ++ command ∷ [])) document (Some (change ∷ changes))
lead_out_more commands command document changes change out back =
    let count = length commands in
    let more = singles (commands ++ command ∷ []) in
    let joins : more ≡ singles commands ++ (command ∷ []) ∷ [] = map-append (λ c. c ∷ []) commands (command ∷ []) in
    let front : take count more ≡ singles commands = ap (take count) joins ∙ take_at (singles commands) ((command ∷ []) ∷ []) count (length_singles commands) in
    let last : get_or more count [] ≡ command ∷ [] = ap (λ steps. get_or steps count []) joins ∙ get_or_at (singles commands) (command ∷ []) [] [] count (length_singles commands) in
    let before : after_steps (take count more) document ≡ after_all commands document = ap (λ steps. after_steps steps document) front ∙ singles_after commands document in
    let all : take count (singles commands) ≡ take count more = take_all count (singles commands) (omega (arith, length_singles commands)) ∙ sym front in
    let counted : length (commands ++ command ∷ []) ≡ suc count = length-append commands (command ∷ []) ∙ (let one : count + 1 ≡ suc count = omega arith in one) in
    let here : LeadsBack (get_or more count []) (after_steps (take count more) document) change = subst (λ s. LeadsBack s (after_steps (take count more) document) change) (sym last) (subst (λ d. LeadsBack (command ∷ []) d change) (sym before) back) in
    (omega (arith, counted, out.0), subst (λ n. LeadBack more document n (change ∷ changes)) (sym counted) (here, lead_back_same (singles commands) more document count changes all out.1))

-- the last commands taken back
pub lead_out_stopped : (commands : List Command) (document : Document) (changes : List Change) (taken : ℕ) → LeadOut (Some commands) document (Some changes) → taken ≤ length commands → LeadOut (Some (take (length commands - taken) commands)) document (Some (drop taken changes))
lead_out_stopped commands document changes taken out within =
    let left = length commands - taken in
    let kept = take left commands in
    let long : length kept ≡ left = length-take-le left commands (omega arith) in
    let same : take left (singles commands) ≡ take left (singles kept) =
    sym (take-take left left (singles commands) (omega arith)) ∙ ap (take left) (singles_taken left commands) in
    let leads = lead_back_same (singles commands) (singles kept) document left (drop taken changes) same (lead_back_dropped (singles commands) document (length commands) taken changes out.1) in
    (omega (arith, length-drop taken changes, out.0, long), subst (λ n. LeadBack (singles kept) document n (drop taken changes)) (sym long) leads)

-- the document between
pub between_commands : (commands : List Command) (document : Document) (changes : List Change) (taken : ℕ) → LeadOut (Some commands) document (Some changes) → taken ≤ length commands → go_along (take taken changes) (after_all commands document) ≡ after_all (take (length commands - taken) commands) document
between_commands commands document changes taken out within =
    let left = length commands - taken in
    ap (go_along (take taken changes)) (sym (all_singles commands document))
    ∙ back_along (singles commands) document (length commands) taken changes (omega (arith, length_singles commands)) (omega (arith, out.0, within)) out.1
    ∙ ap (λ steps. after_steps steps document) (singles_taken left commands)
    ∙ singles_after (take left commands) document

-- all of them lead out of the step
pub lead_out_along : (group : Option (List Command)) (document : Document) (pending : Option (List Change)) → LeadOut group document pending → go_along (changes_in pending) (after_all (commands_in group) document) ≡ document
lead_out_along None document None out = refl
lead_out_along None document (Some changes) out = absurd out
lead_out_along (Some commands) document None out = absurd out
lead_out_along (Some commands) document (Some changes) out =
    let all : take (length commands) changes ≡ changes = take_all (length commands) changes (omega (arith, out.0)) in
    let none : length commands - length commands ≡ 0 = omega arith in
    ap (λ cs. go_along cs (after_all commands document)) (sym all)
    ∙ between_commands commands document changes (length commands) out (omega arith)
    ∙ ap (λ n. after_all (take n commands) document) none

-- ---- joined

-- steps as one
abbrev pub commands_of : List (List Command) → List Command
commands_of [] = []
commands_of (step ∷ steps) = step ++ commands_of steps

pub commands_of_last : (steps : List (List Command)) (step : List Command) → commands_of (steps ++ step ∷ []) ≡ commands_of steps ++ step
commands_of_last [] step = append-nil step
commands_of_last (first ∷ steps) step = ap (λ rest. first ++ rest) (commands_of_last steps step) ∙ sym (append_assoc first (commands_of steps) step)

commands_of_singles : (commands : List Command) → commands_of (singles commands) ≡ commands
commands_of_singles [] = refl
commands_of_singles (command ∷ commands) = ap (λ rest. command ∷ rest) (commands_of_singles commands)

after_commands_of : (steps : List (List Command)) (document : Document) → after_all (commands_of steps) document ≡ after_steps steps document
after_commands_of [] document = refl
after_commands_of (step ∷ steps) document = all_joined step (commands_of steps) document ∙ after_commands_of steps (after_all step document)

-- as many changes as there are steps below the point
joined_leads_back : (steps : List (List Command)) (start : Document) (point : ℕ) (changes : List Change) → point ≤ length steps → length changes ≡ point → LeadBack steps start point changes → LeadsBack (commands_of (take point steps)) start (joined changes)
joined_leads_back steps start zero [] inside counted leads = record { fits = tt; leads = refl; holds = omega arith; becomes = omega arith; few_steps = omega arith }
joined_leads_back steps start (suc point) [] inside counted leads = absurd (omega (arith, counted))
joined_leads_back steps start zero (change ∷ changes) inside counted leads = absurd leads
joined_leads_back steps start (suc point) (change ∷ changes) inside counted leads =
    let front = take point steps in
    let step = get_or steps point [] in
    let next : suc point ≡ point + 1 = omega arith in
    let whole : commands_of front ++ step ≡ commands_of (take (suc point) steps) =
    sym (ap (λ n. commands_of (take n steps)) next ∙ ap commands_of (take_more steps point [] (omega (arith, inside))) ∙ commands_of_last front step) in
    let here = subst (λ d. LeadsBack step d change) (sym (after_commands_of front start)) leads.0 in
    let further = joined_leads_back steps start point changes (omega (arith, inside)) (omega (arith, counted)) leads.1 in
    subst (λ s. LeadsBack s start (change ++ joined changes)) whole (leads_back_joined (commands_of front) step start change (joined changes) here further)

-- the changes of the whole step as one
pub lead_out_joined : (commands : List Command) (document : Document) (changes : List Change) → LeadOut (Some commands) document (Some changes) → LeadsBack commands document (joined changes)
lead_out_joined commands document changes out =
    let all : commands_of (take (length commands) (singles commands)) ≡ commands =
    ap commands_of (take_all (length commands) (singles commands) (omega (arith, length_singles commands))) ∙ commands_of_singles commands in
    subst (λ s. LeadsBack s document (joined changes)) all (joined_leads_back (singles commands) document (length commands) changes (omega (arith, length_singles commands)) out.0 out.1)
