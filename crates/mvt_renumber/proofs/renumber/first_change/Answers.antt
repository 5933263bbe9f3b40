use Rattle.std.proofs.Common.{◌||◌, ◌≡◌, ℕ, ◌+◌, ◌++◌, true, List, [], ◌∷◌, length, take, drop, subst, sym, ap, ◌∙◌, arith}
use Rattle.std.proofs.lemmas.List.{length-drop, take_rest}
use Rattle.mvt_document.specs.Plain.{Number}
use Rattle.mvt_document.specs.Bodies.{number_of}
use Rattle.mvt_document.specs.Wire.{spelling}
use Rattle.mvt_document.proofs.Spelling.{spelling_some}
use Rattle.mvt_renumber.specs.Deciding.{StaysBefore}
use Rattle.mvt_renumber.specs.Fates.{changes, left_of_fate}
use Rattle.mvt_renumber.specs.Renumbering.{renumbered, some_changed}
use Rattle.mvt_renumber.proofs.Decisions.{packed-none}
use Rattle.mvt_renumber.proofs.Making.{stays_none, stays_more}
use Rattle.mvt_renumber.proofs.PackedLeft.{all_stay-bad, all_stay-end, changed_by}
use Rattle.mvt_renumber.proofs.renumber.first_change.Goals as goal

pub loop-place-init : goal.loop-place-init
loop-place-init c = record { within = omega arith; stays = stays_none c.args.bytes.now c.args.decisions.now }

pub returns-in_default : goal.returns-in_default
returns-in_default c =
    let bytes = c.args.bytes.now in
    let place = c.loop-place.place in
    all_stay-bad bytes c.args.decisions.now
    (c.loop-place.invariant.stays.bad
    (packed-none (drop place bytes) (omega (arith, length-drop place bytes)) (λ number rest valid e. c.in_default.ensures.none (record { thing = number; holds = valid; rest = rest; spelled = take_rest bytes place ∙ e }))))

pub returns-in_default-fate : goal.returns-in_default-fate
returns-in_default-fate c =
    let place = c.loop-place.place in
    let n = number_of c.in-Some.number in
    let found : take n.width (drop place c.args.bytes.now) ≡ spelling n =
    ap (take n.width) (sym (take_rest c.args.bytes.now place)) ∙ c.in-Some.ensures.found in
    let changed : some_changed c.loop-place.left.now (n ∷ []) ≡ true =
    c.first_fate-fate.ensures.changes [] ∙ changed_by c.first_fate-fate.result.0 (some_changed c.first_fate-fate.result.1.now []) c.in_default-fate.not-Stays in
    (c.loop-place-test.true, c.loop-place.invariant.stays, record { number = n; valid = c.in-Some.number.spelled; spelled = found; changed = changed })

pub loop-place-smaller : goal.loop-place-smaller
loop-place-smaller c = omega (arith, spelling_some c.in-Some.number.value c.in-Some.number.width c.in-Some.number.spelled)

pub loop-place-preserved : goal.loop-place-preserved
loop-place-preserved c =
    let bytes = c.args.bytes.now in
    let place = c.loop-place.place in
    let left = c.loop-place.left.now in
    let following = c.first_fate-fate.result.1.now in
    let n = number_of c.in-Some.number in
    let found : take n.width (drop place bytes) ≡ spelling n =
    ap (take n.width) (sym (take_rest bytes place)) ∙ c.in-Some.ensures.found in
    let same : (more : List Number) → renumbered left (n ∷ more) ≡ n ∷ renumbered following more = λ more.
    c.first_fate-fate.ensures.fate more ∙ ap (λ fate. left_of_fate number_of n fate ++ renumbered following more) c.in-Stays.is in
    let unchanged : (more : List Number) → some_changed left (n ∷ more) ≡ some_changed following more = λ more.
    c.first_fate-fate.ensures.changes more ∙ ap (λ fate. changes fate || some_changed following more) c.in-Stays.is in
    record {
      within = omega (arith, c.in-Some.ensures.within, length-drop place bytes, ap length (take_rest bytes place));
      stays =
          subst (λ (w : ℕ). StaysBefore bytes c.args.decisions.now (place + w) following) (sym c.from-place.ensures)
          (stays_more bytes c.args.decisions.now place left following n c.loop-place.invariant.stays c.in-Some.number.spelled found same c.first_fate-fate.ensures.left unchanged);
    }

pub returns : goal.returns
returns c = all_stay-end c.args.bytes.now c.args.decisions.now c.loop-place.place _ c.loop-place-test.false c.loop-place.invariant.stays
