use Rattle.std.proofs.Common.{ℕ, List, [], ◌++◌, ap, sym, ◌∙◌, append_assoc}
use Rattle.std.specs.Prelude.{slice_range}
use Rattle.std.proofs.lemmas.List.{append-nil}
use Rattle.mvt_document.specs.Bodies.{number_of}
use Rattle.mvt_document.specs.Wire.{spelling}
use Rattle.mvt_renumber.proofs.Making.{range_more}
use Rattle.mvt_renumber.proofs.renumber.Making.pass.Goals as goal

pub returns-in-Stays-clause-made : goal.returns-in-Stays-clause-made
returns-in-Stays-clause-made c =
    let s = c.args.self.now in
    let n = number_of c.args.number in
    rw c.in-Stays.is
    (ap (λ (b : List ℕ). s.made.items ++ b)
    (range_more s.copied c.args.place n.width c.args.bytes.now c.requires.copied
    ∙ ap (λ (b : List ℕ). slice_range c.args.bytes.now s.copied c.args.place ++ b) (c.requires.number ∙ sym (append-nil (spelling n))))
    ∙ sym (append_assoc s.made.items (slice_range c.args.bytes.now s.copied c.args.place) (spelling n ++ [])))
