use Rattle.std.proofs.Common.{◌≡◌, ℕ, ◌+◌, ◌++◌, List, [], length, take, drop, subst, sym, ap, ◌∙◌, arith}
use Rattle.std.specs.List.{flat_map, AllByRecursion}
use Rattle.mvt_document.specs.Groups.{IsNumber}
use Rattle.std.proofs.lemmas.List.{append-nil, length-drop, drop-drop, drop_all, take_rest}
use Rattle.mvt_document.specs.Plain.{Number}
use Rattle.mvt_document.specs.Bodies.{number_of}
use Rattle.mvt_document.specs.Wire.{spelling}
use Rattle.mvt_document.proofs.Spelling.{spelling_some}
use Rattle.mvt_renumber.specs.Deciding.{IsLeft, made_up_to, packed_numbers}
use Rattle.mvt_renumber.specs.Fates.{left_of_fate}
use Rattle.mvt_renumber.specs.Renumbering.{renumbered}
use Rattle.mvt_renumber.proofs.Decisions.{packed-none, renumbered-none}
use Rattle.mvt_renumber.proofs.Making.{Makes, makes_more, fate_valid}
use Rattle.mvt_renumber.proofs.renumber.changed_from.Goals as goal

pub returns-in_default : goal.returns-in_default
returns-in_default c =
    let bytes = c.args.bytes.now in
    let place = c.loop-place.place in
    c.loop-place.invariant.makes.bad
    (packed-none (drop place bytes) (omega (arith, length-drop place bytes)) (λ number rest valid e. c.in_default.ensures.none (record { thing = number; holds = valid; rest = rest; spelled = take_rest bytes place ∙ e })))

pub loop-place-smaller : goal.loop-place-smaller
loop-place-smaller c = omega (arith, spelling_some c.in-Some.number.value c.in-Some.number.width c.in-Some.number.spelled)

pub loop-place-preserved : goal.loop-place-preserved
loop-place-preserved c =
    let bytes = c.args.bytes.now in
    let place = c.loop-place.place in
    let left = c.loop-place.left.now in
    let following = c.first_fate-fate.result.1.now in
    let n = number_of c.in-Some.number in
    let kept : List Number = left_of_fate number_of n c.first_fate-fate.result.0 in
    let front = take c.args.start bytes in
    let whole = drop c.args.start bytes in
    let found : take n.width (drop place bytes) ≡ spelling n =
    ap (take n.width) (sym (take_rest bytes place)) ∙ c.in-Some.ensures.found in
    let made = makes_more front whole c.args.decisions.now (drop place bytes) left following (made_up_to bytes place c.loop-place.making) (made_up_to bytes (place + n.width) c.pass.new.self) n kept
    c.loop-place.invariant.makes c.in-Some.number.spelled found (fate_valid c.in-Some.number c.first_fate-fate.result.0) c.first_fate-fate.ensures.fate c.first_fate-fate.ensures.left c.in_ok-pass.ensures.made in
    record {
      within = omega (arith, c.in-Some.ensures.within, length-drop place bytes, ap length (take_rest bytes place));
      copied = omega (arith, c.in_ok-pass.ensures.copied);
      makes =
          subst (λ (w : ℕ). Makes front whole c.args.decisions.now (drop (place + w) bytes) following (made_up_to bytes (place + w) c.pass.new.self)) (sym c.from-place.ensures)
          (subst (λ (rest : List ℕ). Makes front whole c.args.decisions.now rest following (made_up_to bytes (place + n.width) c.pass.new.self)) (drop-drop n.width place bytes) made);
    }

pub returns : goal.returns
returns c =
    let bytes = c.args.bytes.now in
    let place = c.loop-place.place in
    let left = c.loop-place.left.now in
    let making = c.loop-place.making in
    let front = take c.args.start bytes in
    let whole = drop c.args.start bytes in
    let end : place ≡ length bytes = omega arith in
    let nothing : flat_map spelling (renumbered left []) ≡ [] = ap (flat_map spelling) (renumbered-none left) in
    let made : made_up_to bytes place making ++ flat_map spelling (renumbered left []) ≡ c.extend_from_slice.new.self.items =
    ap (λ (more : List ℕ). made_up_to bytes place making ++ more) nothing
    ∙ append-nil (made_up_to bytes place making)
    ∙ ap (λ (n : ℕ). made_up_to bytes n making) end
    ∙ sym c.in_ok-extend_from_slice.ensures.items in
    subst (λ (b : List ℕ). IsLeft front whole c.args.decisions.now b left) made
    (c.loop-place.invariant.makes.good [] (ap packed_numbers (drop_all place bytes c.loop-place-test.false)) (subst (AllByRecursion IsNumber) (sym (renumbered-none left)) tt))
