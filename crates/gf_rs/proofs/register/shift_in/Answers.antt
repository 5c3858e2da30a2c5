use Rattle.std.proofs.Common.{◌≡◌, ◌≢◌, ℕ, ◌<◌, ◌+◌, ◌-◌, ap, sym, ◌∙◌, get_or, set, length, arith, inl, inr, below_more, get_or-set_other, get_or-set_same}
use Rattle.std.specs.Prelude.{bit_xor}
use Rattle.std.proofs.lemmas.Bool.Decides.{eqb_tells}
use Rattle.std.proofs.lemmas.List.{get_or_past}
use Rattle.gf_rs.specs.Field.{gf_mul, gf_pow}
use Rattle.gf_rs.proofs.register.shift_in.Goals as goal

pub loop-i-preserved : goal.loop-i-preserved
loop-i-preserved g c =
    let i = c.loop-i.i in
    let next : get_or c.loop-i.register (i + 1) 0 ≡ get_or c.args.register.now (i + 1) 0 = c.loop-i.invariant.left (i + 1) (omega arith) in
    record {
      done = below_more _ _
          (λ k h. let ne : k ≢ i = omega arith in rw get_or-set_other (c.loop-i.invariant.done k h))
          (let lt : i < length c.loop-i.register = omega arith in rw get_or-set_same (ap (λ z. bit_xor z c.scaled.result) next ∙ ap (bit_xor (get_or c.args.register.now (i + 1) 0)) c.scaled.ensures));
      left = λ k h. let ne : k ≢ i = omega arith in rw get_or-set_other (c.loop-i.invariant.left k (omega arith));
    }

pub returns : goal.returns
returns g c k h =
    let last = g.row.ROOTS - 1 in
    let factor = bit_xor c.args.byte (get_or c.args.register.now 0 0) in
    let product = λ (m : ℕ). gf_mul factor (gf_pow 2 (get_or c.args.generator.now m 0)) in
    elim (eqb_tells k last) [
      | inl s ↦ (let lt : last < length c.loop-i.register = omega arith in
          ap (λ m. get_or (set c.loop-i.register last c.scaled-2.result) m 0) s.1
          ∙ get_or-set_same c.loop-i.register last c.scaled-2.result 0 lt
          ∙ c.scaled-2.ensures
          ∙ ap (λ z. bit_xor z (product last)) (sym (get_or_past c.args.register.now (k + 1) 0 (omega arith)))
          ∙ ap (λ m. bit_xor (get_or c.args.register.now (k + 1) 0) (product m)) (sym s.1))
      | inr s ↦ get_or-set_other c.loop-i.register last k c.scaled-2.result 0 s.1 ∙ c.loop-i.invariant.done k (omega arith)
    ]
