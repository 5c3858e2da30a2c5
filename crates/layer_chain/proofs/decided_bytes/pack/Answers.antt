use Rattle.std.proofs.Common.{◌≡◌, ◌*◌, arith, ◌∙◌, inl, inr}
use Rattle.std.proofs.lemmas.Bool.{cases_lt}
use Rattle.std.proofs.lemmas.List.{get_or-set_same, get_or-set_other}
use Rattle.layer_chain.proofs.DecidedLaws.{cut-byte}
use Rattle.layer_chain.proofs.decided_bytes.pack.Goals as goal

pub loop-k-preserved : goal.loop-k-preserved
loop-k-preserved c =
    let k = c.loop-k.k in
    record {
      packed = λ n h. elim (cases_lt n k) [
        | inl m ↦ get_or-set_other c.loop-k.bytes k n c.byte_of.result 0 (omega arith) ∙ c.loop-k.invariant.packed n m
        | inr m ↦ (let e : n ≡ k = omega arith in rw e (get_or-set_same c.loop-k.bytes k c.byte_of.result 0 (omega (arith, c.loop-k.auto.bytes)) ∙ c.byte_of.ensures ∙ cut-byte c.args.bits.now (8 * k)))
      ];
    }
