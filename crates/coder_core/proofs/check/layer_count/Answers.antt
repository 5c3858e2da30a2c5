use Rattle.std.proofs.Common.{◌≡◌, ℕ, ◌+◌, Bool, true, false, List, length, sym, ap, ◌∙◌, arith}
use Rattle.std.specs.Prelude.{filter}
use Rattle.std.specs.List.{range_with_len}
use Rattle.std.specs.Int.{from_bool}
use Rattle.isdbt_base.specs.declared.kinds.Layer.{Layer}
use Rattle.bts_info.specs.Information.{layer_named}
use Rattle.coder_core.specs.FrameChecks.{information_in, same_layer}
use Rattle.isdbt_base.proofs.Finding.{counted-more}
use Rattle.coder_core.proofs.check.layer_count.Goals as goal
use Rattle.coder_core.proofs.check.layer_count.Goals.{then-names, else-names}

abbrev test : List ℕ → Layer → ℕ → Bool
test frame x slot = same_layer x (layer_named (information_in frame slot))

-- a slot more
next : (frame : List ℕ) (x : Layer) (n count : ℕ) (b : Bool) → count ≡ length (filter (test frame x) (range_with_len 0 n)) → test frame x n ≡ b
    → count + from_bool b ≡ length (filter (test frame x) (range_with_len 0 (n + 1)))
next frame x n count b is named =
    let e : 0 + n ≡ n = omega arith in
    let more = counted-more (test frame x) 0 n in
    let last : from_bool (test frame x (0 + n)) ≡ from_bool b = ap (λ k. from_bool (test frame x k)) e ∙ ap from_bool named in
    omega (arith, more, last, is)

pub loop-slot-preserved : goal.loop-slot-preserved
loop-slot-preserved c =
    elim c.if-names.branch [
      | then-names w ↦ record {
        counted = w.count-is ∙ next c.args.frame.now c.args.layer c.loop-slot.slot c.loop-slot.count true c.loop-slot.invariant.counted (sym c.names.ensures ∙ w.if-names.true);
        most = (let e = w.count-is in omega (arith, e, c.loop-slot.invariant.most));
      }
      | else-names w ↦ record {
        counted = w.count-is ∙ (let more = next c.args.frame.now c.args.layer c.loop-slot.slot c.loop-slot.count false c.loop-slot.invariant.counted (sym c.names.ensures ∙ w.if-names.false) in omega (arith, more));
        most = (let e = w.count-is in omega (arith, e, c.loop-slot.invariant.most));
      }
    ]
