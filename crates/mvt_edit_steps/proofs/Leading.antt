-- What steps result in: the document that they make, and the bytes that they put and that they take out. Steps after
-- others.
use Rattle.std.proofs.Common.{◌≡◌, ℕ, ◌+◌, ◌++◌, sym, ap, ◌∙◌, subst, arith}
use Rattle.std.proofs.lemmas.List.Sums.{sum_by-append}
use Rattle.mvt_document.specs.Plain.{Document}
use Rattle.mvt_change.specs.Changes.{Change, Fits, go, step_weight, turn, weight}
use Rattle.mvt_change.proofs.Turning.{fits_joined, go_joined, turn_joined}

-- the steps fit the document and turn it into `made`; what they put has `puts` bytes, and what they take out `takes`
pub record Leads (steps : Change) (document made : Document) (puts takes : ℕ) : Type 0 where
  pub fits : Fits steps document
  pub makes : go steps document ≡ made
  pub puts_so : weight steps ≡ puts
  pub takes_so : weight (turn steps document) ≡ takes

-- for two changes one after the other
pub both_lead : (first second : Change) (document half made : Document) (p q t u : ℕ) → Leads first document half p t → Leads second half made q u → Leads (first ++ second) document made (p + q) (t + u)
both_lead first second document half made p q t u a b =
    let back = ap weight (turn_joined first second document) ∙ ap (λ d. weight (turn second d ++ turn first document)) a.makes in
    record {
      fits = fits_joined first second document a.fits (subst (Fits second) (sym a.makes) b.fits);
      makes = go_joined first second document ∙ ap (go second) a.makes ∙ b.makes;
      puts_so = omega (arith, sum_by-append step_weight first second, a.puts_so, b.puts_so);
      takes_so = omega (arith, back, sum_by-append step_weight (turn second half) (turn first document), a.takes_so, b.takes_so);
    }
