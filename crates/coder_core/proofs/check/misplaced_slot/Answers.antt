use Rattle.std.proofs.Common.{◌≡◌, ℕ, ◌/◌, Bool, true, false, List, length, refl, sym, ap, ◌∙◌, arith}
use Rattle.std.specs.Prelude.{◌==◌, not, if◌then◌else◌}
use Rattle.std.proofs.Math.Bool.{beq}
use Rattle.bts_info.specs.Information.{has_head}
use Rattle.coder_core.specs.FrameChecks.{information_in, is_misplaced}
use Rattle.isdbt_base.proofs.Finding.{find-none_of, find-first_of, up_to}
use Rattle.coder_core.proofs.check.misplaced_slot.Goals as goal

-- two flags differ where they are not the same
differ : (a b : Bool) → not (beq a b) ≡ (if b then not a else a)
differ true true = refl
differ true false = refl
differ false true = refl
differ false false = refl

told : (head : Bool) (frame : List ℕ) (slot : ℕ) → head ≡ has_head (information_in frame slot) → is_misplaced frame slot ≡ not (beq head (slot == 0))
told head frame slot is = ap (λ h. if slot == 0 then not h else h) (sym is) ∙ sym (differ head (slot == 0))

pub returns-then-bears_head-slot : goal.returns-then-bears_head-slot
returns-then-bears_head-slot c =
    sym (find-first_of (is_misplaced c.args.frame.now) (length c.args.frame.now / 204) c.loop-slot.slot (omega (arith, c.loop-slot-test.true, c.slots_of-slot-end.ensures.value)) (told c.bears_head.result c.args.frame.now c.loop-slot.slot c.bears_head.ensures ∙ c.if-bears_head-slot.true) c.loop-slot.invariant)

pub loop-slot-preserved : goal.loop-slot-preserved
loop-slot-preserved c = λ k h. up_to (is_misplaced c.args.frame.now) c.loop-slot.slot k c.loop-slot.invariant (told c.bears_head.result c.args.frame.now c.loop-slot.slot c.bears_head.ensures ∙ c.if-bears_head-slot.false) h

pub returns : goal.returns
returns c = sym (find-none_of (is_misplaced c.args.frame.now) (length c.args.frame.now / 204) (λ k less. c.loop-slot.invariant k (omega (arith, less, c.loop-slot-test.false, c.slots_of-slot-end.ensures.value))))
