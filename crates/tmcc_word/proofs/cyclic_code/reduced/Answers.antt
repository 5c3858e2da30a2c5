use Rattle.std.proofs.Common.{sym, ◌∙◌, ap, eq-eqb, ne_eqb}
use Rattle.std.specs.Prelude.{bit_xor, if◌then◌else◌}
use Rattle.std.specs.Int.{bit_at}
use Rattle.std.proofs.lemmas.Nat.Bits.{shr_and_one}
use Rattle.tmcc_word.specs.CyclicCode.{generator, remainder}
use Rattle.tmcc_word.proofs.Remainders.{remainder-lt}
use Rattle.tmcc_word.proofs.cyclic_code.reduced.Goals as goal

pub returns-then-polynomial-eq1-clause-value : goal.returns-then-polynomial-eq1-clause-value
unfolding remainder
returns-then-polynomial-eq1-clause-value c =
    let one = eq-eqb (bit_at c.args.polynomial 82) 1 (sym (shr_and_one c.args.polynomial 82) ∙ c.if-polynomial-eq1.true) in
    sym (ap (λ b. if b then bit_xor c.args.polynomial generator else c.args.polynomial) one)

pub returns-then-polynomial-eq1-clause-most : goal.returns-then-polynomial-eq1-clause-most
returns-then-polynomial-eq1-clause-most c = rw (returns-then-polynomial-eq1-clause-value c) (remainder-lt 1 c.args.polynomial c.requires)

pub returns-else-polynomial-eq1-clause-value : goal.returns-else-polynomial-eq1-clause-value
unfolding remainder
returns-else-polynomial-eq1-clause-value c =
    let other = ne_eqb (bit_at c.args.polynomial 82) 1 (λ e. c.if-polynomial-eq1.false (shr_and_one c.args.polynomial 82 ∙ e)) in
    sym (ap (λ b. if b then bit_xor c.args.polynomial generator else c.args.polynomial) other)
