-- A change that leads from one document to another leads back once it is turned.
use Rattle.std.proofs.Common.{◌≡◌, ℕ, ◌≤◌, [], ◌∷◌, length, length-append, refl, sym, ap, subst, ◌∙◌, arith}
use Rattle.mvt_document.specs.Plain.{Document}
use Rattle.mvt_document.specs.Opens.{IsDocument}
use Rattle.mvt_change.specs.Changes.{Change, Fits, go, go_step, turn, turn_step, weight}
use Rattle.mvt_change.proofs.Turning.{turned_back, turned_fits, turned_twice}
use Rattle.mvt_history_steps.specs.Reached.{Leads}

-- it has as many steps
pub length_turned : (change : Change) (document : Document) → length (turn change document) ≡ length change
length_turned [] document = refl
length_turned (step ∷ change) document =
    let rest = turn change (go_step step document) in
    omega (arith, length-append rest (turn_step step document ∷ []), length_turned change (go_step step document))

pub turned_leads : (change : Change) (from to : Document) (held turned allowance : ℕ) → IsDocument from → Leads change from to held turned allowance → Leads (turn change from) to from turned held allowance
turned_leads change from to held turned allowance valid leads =
    let back = turn change from in
    let twice : turn back to ≡ change = ap (turn back) (sym leads.leads) ∙ turned_twice change from leads.fits in
    let few = leads.few_steps in
    record {
      fits = subst (Fits back) leads.leads (turned_fits change from valid leads.fits);
      leads = ap (go back) (sym leads.leads) ∙ turned_back change from leads.fits;
      holds = leads.becomes;
      becomes = subst (λ c. weight c ≤ held) (sym twice) leads.holds;
      few_steps = omega (arith, length_turned change from, few);
    }
