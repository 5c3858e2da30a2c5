use Rattle.std.proofs.Common.{◌≢◌, ◌+◌, ◌-◌, ◌/◌, ◌^◌, ◌<◌, ◌≤◌, ◌∙◌, arith, ap, false, get_or, set, length, refl, sym, get_or-set_same, get_or-set_other, inl, inr}
use Rattle.std.proofs.Math.Nat.{eq-or-lt_of_le}
use Rattle.viterbi_hard.specs.States.{odd}
use Rattle.viterbi_hard.proofs.decoder.put_bits.Goals as goal

pub loop-bit-init : goal.loop-bit-init
loop-bit-init c = record { put = λ j h. absurd (omega arith); rest = λ i h. refl }

pub loop-bit-preserved : goal.loop-bit-preserved
loop-bit-preserved c =
    let within : c.args.at + c.loop-bit.bit < length c.loop-bit.out = omega (arith, c.requires, c.loop-bit.auto.out, c.loop-bit-test.true) in
    record {
      put = λ j h.
          let upto : j ≤ c.loop-bit.bit = omega arith in
          elim (eq-or-lt_of_le upto) [
            | inl e ↦
                ap (λ k. get_or (set c.loop-bit.out (c.args.at + c.loop-bit.bit) (odd (c.args.label / 2 ^ (6 - c.loop-bit.bit)))) (c.args.at + k) false) e
                ∙ get_or-set_same c.loop-bit.out (c.args.at + c.loop-bit.bit) (odd (c.args.label / 2 ^ (6 - c.loop-bit.bit))) false within
                ∙ ap (λ k. odd (c.args.label / 2 ^ (6 - k))) (sym e)
            | inr l ↦
                let ne : c.args.at + j ≢ c.args.at + c.loop-bit.bit = omega arith in
                get_or-set_other c.loop-bit.out (c.args.at + c.loop-bit.bit) (c.args.at + j) _ false ne ∙ c.loop-bit.invariant.put j l
          ];
      rest = λ i h.
          let ne : i ≢ c.args.at + c.loop-bit.bit = elim h [ inl a ↦ omega arith | inr b ↦ omega (arith, c.loop-bit-test.true) ] in
          get_or-set_other c.loop-bit.out (c.args.at + c.loop-bit.bit) i _ false ne ∙ c.loop-bit.invariant.rest i h;
    }

pub returns-clause-put : goal.returns-clause-put
returns-clause-put c = λ j h. c.loop-bit.invariant.put j (omega arith)

pub returns-clause-rest : goal.returns-clause-rest
returns-clause-rest c = c.loop-bit.invariant.rest
