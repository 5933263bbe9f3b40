-- Where the changes that a session keeps lead, and how much they hold.
use Rattle.std.proofs.Common.{◌≡◌, ℕ, zero, suc, ◌+◌, ◌-◌, ◌*◌, ◌≤◌, Option, Some, None, List, [], ◌∷◌, length, take, get_or, refl, sym, ap, ◌∙◌, arith}
use Rattle.std.specs.List.{sum_by}
use Rattle.std.proofs.lemmas.List.Sums.{sum_by-cons}
use Rattle.mvt_document.specs.Plain.{Document}
use Rattle.mvt_change.specs.Changes.{Change, weight}
use Rattle.mvt_change.specs.Joining.{go_along}
use Rattle.mvt_meaning.specs.Command.{Command}
use Rattle.mvt_meaning.specs.Meaning.{after}
use Rattle.mvt_history_steps.specs.History.{after_all, after_steps, present_document, commands_in}
use Rattle.mvt_history_steps.specs.Reached.{LeadsBack, LeadsOn, LeadBack, LeadOn, LeadOut, all_taken_by, all_put_by, step_allowance, singles}
use Rattle.mvt_history_steps.specs.Standing.{changes_in}
use Rattle.run_laws.specs.HistoryLaws.{ChangesLead, KeptWithin, sum_from, FewSteps}
use Rattle.mvt_history_steps.proofs.Following.{back_along, on_along}
use Rattle.mvt_history_steps.proofs.Joined.{between_commands, lead_out_along}

-- ---- where they lead

-- `count` of them lead to the document within the open step
within_along : (group : Option (List Command)) (document : Document) (pending : Option (List Change)) (count : ℕ) → LeadOut group document pending → count ≤ length (commands_in group) → go_along (take count (changes_in pending)) (after_all (commands_in group) document) ≡ after_all (take (length (commands_in group) - count) (commands_in group)) document
within_along None document None zero lead within = refl
within_along None document None (suc count) lead within = absurd (omega (arith, within))
within_along None document (Some changes) count lead within = absurd lead
within_along (Some commands) document None count lead within = absurd lead
within_along (Some commands) document (Some changes) count lead within = between_commands commands document changes count lead within

pub changes_lead : ChangesLead
changes_lead session history stands =
    let steps = history.steps in
    let start = history.start in
    let present = history.present in
    let on = stands.redo_reaches in (
      λ count enough. back_along steps start present count session.undo stands.sound.within_steps enough stands.undo_leads,
      λ count enough. on_along steps start present count session.redo (omega (arith, on, enough)) enough stands.redo_leads,
      λ count within. ap (go_along (take count (changes_in session.pending))) stands.document ∙ within_along history.group (present_document history) session.pending count stands.pending_leads within,
      ap (go_along (changes_in session.pending)) stands.document ∙ lead_out_along history.group (present_document history) session.pending stands.pending_leads,
    )

-- ---- numbers added up

sum_at_end : (number : ℕ → ℕ) (point count : ℕ) → sum_from number point (suc count) ≡ sum_from number point count + number (point + count)
sum_at_end number point zero = let same : number (point + 0) ≡ number point = ap number (omega arith) in omega (arith, same)
sum_at_end number point (suc count) =
    let next : number (suc point + count) ≡ number (point + suc count) = ap number (omega arith) in
    omega (arith, sum_at_end number (suc point) count, next)

sum_shifted : (number : ℕ → ℕ) (point count : ℕ) → sum_from number (suc point) count ≡ sum_from (λ n. number (suc n)) point count
sum_shifted number point zero = refl
sum_shifted number point (suc count) = ap (λ n. number (suc point) + n) (sum_shifted number (suc point) count)

sum_on : (number : ℕ → ℕ) (point count more : ℕ) → sum_from number point (count + more) ≡ sum_from number point count + sum_from number (point + count) more
sum_on number point zero more =
    let none : sum_from number point (0 + more) ≡ sum_from number point more = ap (sum_from number point) (omega arith) in
    let here : sum_from number (point + 0) more ≡ sum_from number point more = ap (λ n. sum_from number n more) (omega arith) in
    omega (arith, none, here)
sum_on number point (suc count) more =
    let count_next : suc count + more ≡ suc (count + more) = omega arith in
    let first : sum_from number point (suc count + more) ≡ sum_from number point (suc (count + more)) = ap (sum_from number point) count_next in
    let next : sum_from number (suc point + count) more ≡ sum_from number (point + suc count) more = ap (λ n. sum_from number n more) (omega arith) in
    omega (arith, first, sum_on number (suc point) count more, next)

sum_doubled : (number : Change → ℕ) (changes : List Change) → sum_by (λ change. 2 * number change) changes ≡ 2 * sum_by number changes
sum_doubled number [] = refl
sum_doubled number (change ∷ changes) = omega (arith, sum_by-cons (λ c. 2 * number c) change changes, sum_by-cons number change changes, sum_doubled number changes)

-- ---- what changes add up to, each of which has a bound by the step over which it leads

-- the bound of the step at a point
abbrev bound_at : (List Command → Document → ℕ) → List (List Command) → Document → ℕ → ℕ
bound_at bound steps start point = bound (get_or steps point []) (after_steps (take point steps) start)

abbrev IsBoundBack : (Change → ℕ) → (List Command → Document → ℕ) → Type 0
IsBoundBack number bound = (step : List Command) (before : Document) (change : Change) → LeadsBack step before change → number change ≤ bound step before

abbrev IsBoundOn : (Change → ℕ) → (List Command → Document → ℕ) → Type 0
IsBoundOn number bound = (step : List Command) (before : Document) (change : Change) → LeadsOn step before change → number change ≤ bound step before

-- the bound of several commands is the sum of their bounds
record IsAddedUp (bound : List Command → Document → ℕ) : Type 0 where
  none : (document : Document) → bound [] document ≡ 0
  more : (command : Command) (commands : List Command) (document : Document) → bound (command ∷ commands) document ≡ bound (command ∷ []) document + bound commands (after command document)

back_within : (number : Change → ℕ) (bound : List Command → Document → ℕ) → IsBoundBack number bound → (steps : List (List Command)) (start : Document) (floor point : ℕ) (changes : List Change) → floor + length changes ≡ point → LeadBack steps start point changes → sum_by number changes ≤ sum_from (bound_at bound steps start) floor (length changes)
back_within number bound bounds steps start floor point [] reaches lead = omega arith
back_within number bound bounds steps start floor zero (change ∷ changes) reaches lead = absurd lead
back_within number bound bounds steps start floor (suc point) (change ∷ changes) reaches lead =
    let here : floor + length changes ≡ point = omega (arith, reaches) in
    let last : bound_at bound steps start (floor + length changes) ≡ bound_at bound steps start point = ap (bound_at bound steps start) here in
    let first = bounds (get_or steps point []) (after_steps (take point steps) start) change lead.0 in
    let rest = back_within number bound bounds steps start floor point changes here lead.1 in
    omega (arith, sum_by-cons number change changes, first, rest, sum_at_end (bound_at bound steps start) floor (length changes), last)

on_within : (number : Change → ℕ) (bound : List Command → Document → ℕ) → IsBoundOn number bound → (steps : List (List Command)) (start : Document) (point : ℕ) (changes : List Change) → LeadOn steps start point changes → sum_by number changes ≤ sum_from (bound_at bound steps start) point (length changes)
on_within number bound bounds steps start point [] lead = omega arith
on_within number bound bounds steps start point (change ∷ changes) lead =
    let first = bounds (get_or steps point []) (after_steps (take point steps) start) change lead.0 in
    omega (arith, sum_by-cons number change changes, first, on_within number bound bounds steps start (suc point) changes lead.1)

singles_added_up : (bound : List Command → Document → ℕ) → IsAddedUp bound → (commands : List Command) (document : Document) → sum_from (bound_at bound (singles commands) document) 0 (length commands) ≡ bound commands document
singles_added_up bound adds [] document = sym (adds.none document)
singles_added_up bound adds (command ∷ commands) document =
    let rest = singles_added_up bound adds commands (after command document) in
    omega (arith, sum_shifted (bound_at bound (singles (command ∷ commands)) document) 0 (length commands), rest, adds.more command commands document)

out_within : (number : Change → ℕ) (bound : List Command → Document → ℕ) → IsBoundBack number bound → IsAddedUp bound → (group : Option (List Command)) (document : Document) (pending : Option (List Change)) → LeadOut group document pending → sum_by number (changes_in pending) ≤ bound (commands_in group) document
out_within number bound bounds adds None document None lead = omega arith
out_within number bound bounds adds None document (Some changes) lead = absurd lead
out_within number bound bounds adds (Some commands) document None lead = absurd lead
out_within number bound bounds adds (Some commands) document (Some changes) lead =
    let at = bound_at bound (singles commands) document in
    let count : sum_from at 0 (length changes) ≡ sum_from at 0 (length commands) = ap (sum_from at 0) lead.0 in
    omega (arith, back_within number bound bounds (singles commands) document 0 (length commands) changes (omega (arith, lead.0)) lead.1, count, singles_added_up bound adds commands document)

-- ---- what they hold, and how many steps they have

taken_added_up : IsAddedUp all_taken_by
taken_added_up = record { none = λ document. refl; more = λ command commands document. omega arith }

allowance_added_up : IsAddedUp step_allowance
allowance_added_up = record { none = λ document. refl; more = λ command commands document. omega arith }

pub kept_within : KeptWithin
kept_within session history stands =
    let steps = history.steps in
    let start = history.start in
    let back = back_within weight all_taken_by (λ step before change leads. leads.holds) steps start history.floor history.present session.undo stands.undo_reaches stands.undo_leads in
    let on = on_within weight all_put_by (λ step before change leads. leads.holds) steps start history.present session.redo stands.redo_leads in
    let out = out_within weight all_taken_by (λ step before change leads. leads.holds) taken_added_up history.group (present_document history) session.pending stands.pending_leads in
    omega (arith, back, on, out)

pub few_steps : FewSteps
few_steps session history stands =
    let steps = history.steps in
    let start = history.start in
    let doubled : Change → ℕ = λ change. 2 * length change in
    let bound = bound_at step_allowance steps start in
    let undo = length session.undo in
    let redo = length session.redo in
    let back = back_within doubled step_allowance (λ step before change leads. leads.few_steps) steps start history.floor history.present session.undo stands.undo_reaches stands.undo_leads in
    let on = on_within doubled step_allowance (λ step before change leads. leads.few_steps) steps start history.present session.redo stands.redo_leads in
    let out = out_within doubled step_allowance (λ step before change leads. leads.few_steps) allowance_added_up history.group (present_document history) session.pending stands.pending_leads in
    let above : sum_from bound (history.floor + undo) redo ≡ sum_from bound history.present redo = ap (λ point. sum_from bound point redo) stands.undo_reaches in
    omega (arith, back, on, out, sum_on bound history.floor undo redo, above, sum_doubled length session.undo, sum_doubled length session.redo, sum_doubled length (changes_in session.pending))
