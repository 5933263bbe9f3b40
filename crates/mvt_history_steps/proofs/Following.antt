-- Each document of a history follows from the one before. Changes that lead back depend only on the steps below their
-- point, and lead to the documents there; those that lead on lead to the documents above.
use Rattle.std.proofs.Common.{◌≡◌, ℕ, zero, suc, ◌+◌, ◌-◌, ◌<◌, ◌≤◌, List, [], ◌∷◌, ◌++◌, length, take, drop, get_or, refl, sym, ap, subst, ◌∙◌, arith}
use Rattle.std.proofs.lemmas.List.{take_more, get_or-take, take-take}
use Rattle.mvt_document.specs.Plain.{Document}
use Rattle.mvt_meaning.specs.Command.{Command}
use Rattle.mvt_meaning.specs.Meaning.{after}
use Rattle.mvt_change.specs.Changes.{Change, go}
use Rattle.mvt_change.specs.Joining.{go_along}
use Rattle.mvt_history_steps.specs.History.{after_all, after_steps}
use Rattle.mvt_history_steps.specs.Reached.{LeadsBack, LeadBack, LeadOn}

-- ---- documents

pub all_joined : (commands more : List Command) (document : Document) → after_all (commands ++ more) document ≡ after_all more (after_all commands document)
all_joined [] more document = refl
all_joined (command ∷ commands) more document = all_joined commands more (after command document)

pub steps_joined : (steps more : List (List Command)) (start : Document) → after_steps (steps ++ more) start ≡ after_steps more (after_steps steps start)
steps_joined [] more start = refl
steps_joined (step ∷ steps) more start = steps_joined steps more (after_all step start)

pub next_document : (steps : List (List Command)) (start : Document) (point : ℕ) → point < length steps → after_steps (take (suc point) steps) start ≡ after_all (get_or steps point []) (after_steps (take point steps) start)
next_document steps start point inside =
    let next : suc point ≡ point + 1 = omega arith in
    ap (λ n. after_steps (take n steps) start) next
    ∙ ap (λ front. after_steps front start) (take_more steps point [] inside)
    ∙ steps_joined (take point steps) (get_or steps point [] ∷ []) start

-- ---- changes that lead back

-- steps that agree below the point
pub lead_back_same : (steps others : List (List Command)) (start : Document) (point : ℕ) (changes : List Change) → take point steps ≡ take point others → LeadBack steps start point changes → LeadBack others start point changes
lead_back_same steps others start point [] e leads = tt
lead_back_same steps others start zero (change ∷ changes) e leads = absurd leads
lead_back_same steps others start (suc point) (change ∷ changes) e leads =
    let below : point < suc point = omega arith in
    let above : point ≤ suc point = omega arith in
    let step : get_or steps point [] ≡ get_or others point [] = sym (get_or-take (suc point) steps point [] below) ∙ ap (λ front. get_or front point []) e ∙ get_or-take (suc point) others point [] below in
    let front : take point steps ≡ take point others = sym (take-take point (suc point) steps above) ∙ ap (take point) e ∙ take-take point (suc point) others above in
    let here = subst (λ s. LeadsBack s (after_steps (take point steps) start) change) step leads.0 in
    (subst (λ f. LeadsBack (get_or others point []) (after_steps f start) change) front here, lead_back_same steps others start point changes front leads.1)

pub lead_back_taken : (steps : List (List Command)) (start : Document) (point count : ℕ) (changes : List Change) → LeadBack steps start point changes → LeadBack steps start point (take count changes)
lead_back_taken steps start point zero changes leads = tt
lead_back_taken steps start point (suc count) [] leads = tt
lead_back_taken steps start zero (suc count) (change ∷ changes) leads = absurd leads
lead_back_taken steps start (suc point) (suc count) (change ∷ changes) leads = (leads.0, lead_back_taken steps start point count changes leads.1)

pub lead_back_dropped : (steps : List (List Command)) (start : Document) (point count : ℕ) (changes : List Change) → LeadBack steps start point changes → LeadBack steps start (point - count) (drop count changes)
lead_back_dropped steps start point zero changes leads =
    let same : point ≡ point - 0 = omega arith in subst (λ p. LeadBack steps start p changes) same leads
lead_back_dropped steps start point (suc count) [] leads = tt
lead_back_dropped steps start zero (suc count) (change ∷ changes) leads = absurd leads
lead_back_dropped steps start (suc point) (suc count) (change ∷ changes) leads =
    let same : point - count ≡ suc point - suc count = omega arith in
    subst (λ p. LeadBack steps start p (drop count changes)) same (lead_back_dropped steps start point count changes leads.1)

-- `count` of them lead `count` steps down
pub back_along : (steps : List (List Command)) (start : Document) (point count : ℕ) (changes : List Change) → point ≤ length steps → count ≤ length changes → LeadBack steps start point changes → go_along (take count changes) (after_steps (take point steps) start) ≡ after_steps (take (point - count) steps) start
back_along steps start point zero changes inside enough leads =
    let same : point ≡ point - 0 = omega arith in ap (λ p. after_steps (take p steps) start) same
back_along steps start point (suc count) [] inside enough leads = absurd (omega (arith, enough))
back_along steps start zero (suc count) (change ∷ changes) inside enough leads = absurd leads
back_along steps start (suc point) (suc count) (change ∷ changes) inside enough leads =
    let same : point - count ≡ suc point - suc count = omega arith in
    ap (λ d. go_along (take count changes) (go change d)) (next_document steps start point (omega (arith, inside)))
    ∙ ap (go_along (take count changes)) leads.0.leads
    ∙ back_along steps start point count changes (omega (arith, inside)) (omega (arith, enough)) leads.1
    ∙ ap (λ p. after_steps (take p steps) start) same

-- ---- changes that lead on

-- `count` of them lead `count` steps up
pub on_along : (steps : List (List Command)) (start : Document) (point count : ℕ) (changes : List Change) → point + count ≤ length steps → count ≤ length changes → LeadOn steps start point changes → go_along (take count changes) (after_steps (take point steps) start) ≡ after_steps (take (point + count) steps) start
on_along steps start point zero changes inside enough leads =
    let same : point ≡ point + 0 = omega arith in ap (λ p. after_steps (take p steps) start) same
on_along steps start point (suc count) [] inside enough leads = absurd (omega (arith, enough))
on_along steps start point (suc count) (change ∷ changes) inside enough leads =
    let same : suc point + count ≡ point + suc count = omega arith in
    ap (go_along (take count changes)) (leads.0.leads ∙ sym (next_document steps start point (omega (arith, inside))))
    ∙ on_along steps start (suc point) count changes (omega (arith, inside)) (omega (arith, enough)) leads.1
    ∙ ap (λ p. after_steps (take p steps) start) same
