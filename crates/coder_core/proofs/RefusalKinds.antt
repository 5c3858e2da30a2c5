-- Which faults a frame may have.
use Rattle.std.proofs.Common.{◌≡◌, ℕ, Bool, true, false, List, [], ◌∷◌, refl, subst}
use Rattle.std.specs.Prelude.{Some, None, IfSome, if◌then◌else◌}
use Rattle.std.specs.declared.option.Option.{Option}
use Rattle.isdbt_base.specs.declared.kinds.Mode.{Mode}
use Rattle.isdbt_base.specs.declared.kinds.Layer.{Layer}
use Rattle.isdbt_base.specs.declared.kinds.Layer.TheVariants.{A, B, C}
use Rattle.isdbt_base.specs.Parameters.{Parameters}
use Rattle.isdbt_base.specs.Outcome.{first_some}
use Rattle.coder_core.specs.declared.fault.CodeFault.{CodeFault}
use Rattle.coder_core.specs.declared.fault.CodeFault.TheVariants.{WrongCount}
use Rattle.coder_core.specs.FrameChecks.{bad_sync, bad_sync_slot, misplaced, misplaced_slot, framing_refusal, wrong_count, layer_count, refusal}
use Rattle.edge_io.specs.FrameAnswers.{frame_refused}
use Rattle.coder_core.specs.Answers.{code_kind}

-- a frame is refused
abbrev pub OfFrame : CodeFault → Type 0
OfFrame fault = code_kind fault ≡ frame_refused

first-kind : (a b c d e : Option CodeFault) (x : CodeFault) → IfSome a OfFrame → IfSome b OfFrame → IfSome c OfFrame → IfSome d OfFrame → IfSome e OfFrame → first_some (a ∷ b ∷ c ∷ d ∷ e ∷ []) ≡ Some x → OfFrame x
first-kind a b c d e x ka kb kc kd ke is = subst (λ o. IfSome o OfFrame) is (picked a b c d e ka kb kc kd ke)
  where
    picked : (a b c d e : Option CodeFault) → IfSome a OfFrame → IfSome b OfFrame → IfSome c OfFrame → IfSome d OfFrame → IfSome e OfFrame → IfSome (first_some (a ∷ b ∷ c ∷ d ∷ e ∷ [])) OfFrame
    picked (Some x) b c d e ka kb kc kd ke = ka
    picked None (Some x) c d e ka kb kc kd ke = kb
    picked None None (Some x) d e ka kb kc kd ke = kc
    picked None None None (Some x) e ka kb kc kd ke = kd
    picked None None None None (Some x) ka kb kc kd ke = ke
    picked None None None None None ka kb kc kd ke = tt

bad-kind : (first : ℕ) (frame : List ℕ) (o : Option ℕ) → bad_sync_slot frame ≡ o → IfSome (bad_sync first frame) OfFrame
bad-kind first frame None is = rw is tt
bad-kind first frame (Some slot) is = rw is refl

head-kind : (number : ℕ) (frame : List ℕ) (o : Option ℕ) → misplaced_slot frame ≡ o → IfSome (misplaced number frame) OfFrame
head-kind number frame None is = rw is tt
head-kind number frame (Some slot) is = rw is refl

pub framing-kind : (number first : ℕ) (frame : List ℕ) (fault : CodeFault) → framing_refusal number first frame ≡ Some fault → OfFrame fault
framing-kind number first frame fault is = subst (λ o. IfSome o OfFrame) is (picked (bad_sync first frame) (misplaced number frame) (bad-kind first frame _ refl) (head-kind number frame _ refl))
  where
    picked : (a b : Option CodeFault) → IfSome a OfFrame → IfSome b OfFrame → IfSome (first_some (a ∷ b ∷ [])) OfFrame
    picked (Some x) b ka kb = ka
    picked None (Some x) ka kb = kb
    picked None None ka kb = tt

count-kind : (b : Bool) (f : ℕ) (x : Layer) (n : ℕ) → IfSome (if b then None else Some (WrongCount f x n)) OfFrame
count-kind true f x n = tt
count-kind false f x n = refl

pub refusal-kind : (s : Parameters) (mode : Mode) (number first : ℕ) (frame : List ℕ) (fault : CodeFault) → refusal s mode number first frame ≡ Some fault → OfFrame fault
unfolding refusal
refusal-kind s mode number first frame fault is =
    first-kind (bad_sync first frame) (misplaced number frame) (wrong_count s mode number frame A) (wrong_count s mode number frame B) (wrong_count s mode number frame C) fault
    (bad-kind first frame _ refl) (head-kind number frame _ refl) (count-kind _ number A (layer_count frame A)) (count-kind _ number B (layer_count frame B)) (count-kind _ number C (layer_count frame C)) is
