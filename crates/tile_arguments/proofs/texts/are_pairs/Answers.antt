use Rattle.std.proofs.Common.{◌≡◌, ◌%◌, false, length, nat_eq, sym, ◌∙◌, arith}
use Rattle.std.proofs.lemmas.Bool.Decides.{nat_tests}
use Rattle.tile_arguments.proofs.Pairs.{even_pairs, odd_pairs}
use Rattle.tile_arguments.proofs.texts.are_pairs.Goals as goal

pub returns-then-digits-eq0 : goal.returns-then-digits-eq0
returns-then-digits-eq0 c = c.are_hex_digits.ensures ∙ even_pairs c.args.digits.now (omega (arith, c.if-digits-eq0.true))

pub returns-else-digits-eq0 : goal.returns-else-digits-eq0
returns-else-digits-eq0 c =
    let odd : length c.args.digits.now % 2 ≡ 1 = omega (arith, c.if-digits-eq0.false) in
    let no : nat_eq (length c.args.digits.now % 2) 0 ≡ false = grind (arith, nat_tests) in
    no ∙ sym (odd_pairs c.args.digits.now odd)
