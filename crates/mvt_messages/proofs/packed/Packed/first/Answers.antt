use Rattle.std.proofs.Common.{◌≡◌, List, ℕ, ◌+◌, ◌∷◌, Ok, drop, take, sym, ap, ◌∙◌, arith}
use Rattle.std.proofs.lemmas.List.{length-drop, drop-drop, take_rest}
use Rattle.mvt_document.specs.Bodies.{number_of}
use Rattle.mvt_document.specs.Wire.{spelling}
use Rattle.mvt_messages.specs.Numbers.{pieces, unpacked}
use Rattle.mvt_messages.proofs.Pieces.{packed-front, packed-bad}
use Rattle.mvt_messages.proofs.packed.Packed.first.Goals as goal

pub returns-in_default : goal.returns-in_default
returns-in_default c =
    let p = c.args.self in
    packed-bad p.field p.place (drop p.place p.bytes.now) (omega (arith, length-drop p.place p.bytes.now)) (λ number rest valid e. c.in_default.ensures.none (record { thing = number; holds = valid; rest = rest; spelled = take_rest p.bytes.now p.place ∙ e }))

pub returns : goal.returns
returns c =
    let p = c.args.self in
    let n = number_of c.in-Some.varint in
    let found : take n.width (drop p.place p.bytes.now) ≡ spelling n =
    ap (take n.width) (sym (take_rest p.bytes.now p.place)) ∙ c.in-Some.ensures.found in
    packed-front p.field p.place (drop p.place p.bytes.now) n c.in-Some.varint.spelled found
    ∙ ap (λ (b : List ℕ). Ok (record { number = n; field = p.field; place = p.place }) ∷ unpacked p.field (p.place + n.width) (pieces b)) (drop-drop n.width p.place p.bytes.now)
    ∙ ap (λ (w : ℕ). Ok (record { number = n; field = p.field; place = p.place }) ∷ unpacked p.field (p.place + w) (pieces (drop (p.place + w) p.bytes.now))) (sym c.from.ensures)
