-- From epoch to epoch.
use Rattle.std.proofs.Common.{◌≡◌, ℕ, ◌≤◌, ◌<◌, ◌⊎◌, min, true, List, Some, Result, refl, sym, ap, subst, arith, inl, inr}
use Rattle.std.proofs.lemmas.Bool.{cases_lt, lt-ltb, eq-eqb}
use Rattle.isdbt_base.specs.declared.epoch.At.{At}
use Rattle.isdbt_base.specs.declared.kinds.Layer.{Layer}
use Rattle.isdbt_base.specs.Epochs.{last_start, last_sent, begins_later}
use Rattle.isdbt_base.specs.Numbers.{greatest_delay}
use Rattle.isdbt_base.specs.Plans.{Transmission, Schedule, IsPlan, at_frame}
use Rattle.isdbt_base.proofs.PlanEpochs.{epoch_start-le}
use Rattle.isdbt_base.proofs.EpochLaws.{IsBefore, epoch_frame, epoch_end, begins-end, last_epoch}
use Rattle.edge_io.specs.Causes.{Cause}
use Rattle.edge_io.specs.FrameAnswers.{FaultKind, FaultCause, AnswerCause}
use Rattle.remux_core.specs.declared.fault.RemuxFault.{RemuxFault}
use Rattle.remux_core.specs.Multiplex.{frame_count, packet_count}
use Rattle.remux_core.specs.Frames.{sent_at}
use Rattle.remux_core.specs.Answers.{remux_kind, IsInputSeat}
use Rattle.remux_core.proofs.Places.{frame_count-least}

abbrev sent_of : At → Transmission
sent_of at = record { mode = at.mode; guard = at.guard; setting = at.setting }

-- the frames of an epoch are sent alike
pub sent-same : (p : Schedule) (f g e : ℕ) → IsPlan p → (at_frame p f).end ≡ Some e → f ≤ g → g < e → sent_at p g ≡ sent_at p f
sent-same p f g e plan end from below =
    let first = epoch_start-le p f in
    ap sent_of (epoch_frame p f g plan (omega (arith, first, from)) (subst (IsBefore g) (sym end) below))

-- the frames of the last epoch are sent as it says
pub sent-last : (p : Schedule) (f : ℕ) → IsPlan p → last_start p ≤ f → sent_at p f ≡ last_sent p
sent-last p f plan past = ap sent_of (last_epoch p f plan past)

-- and have its delay
pub delay-last : (p : Schedule) (f : ℕ) → IsPlan p → last_start p ≤ f → greatest_delay (at_frame p f).mode (at_frame p f).setting ≡ greatest_delay (last_sent p).mode (last_sent p).setting
delay-last p f plan past = ap (λ (t : Transmission). greatest_delay t.mode t.setting) (sent-last p f plan past)

-- a frame before an epoch's end is there
pub there-before : (p : Schedule) (input : Layer → List ℕ) (f e : ℕ) → IsPlan p → (at_frame p f).end ≡ Some e → f < frame_count p (packet_count input)
there-before p input f e plan end =
    let ends = epoch_end p f e plan end in
    let after = ends.after in
    let early = ends.not_last in
    let least = frame_count-least p (packet_count input) in
    omega (arith, after, early, least)

-- the next epoch begins at the end, if the limit allows
pub stop-begins : (p : Schedule) (f e limit stop : ℕ) → IsPlan p → (at_frame p f).end ≡ Some e → stop ≡ min e limit → stop < limit → begins_later p stop ≡ true
stop-begins p f e limit stop plan end is less =
    subst (λ (n : ℕ). begins_later p n ≡ true) (let same : e ≡ stop = omega (arith, is, less) in same) (begins-end p f e plan end)

pub stop-early : (p : Schedule) (f e limit stop : ℕ) → IsPlan p → (at_frame p f).end ≡ Some e → stop ≡ min e limit → stop ≤ last_start p
stop-early p f e limit stop plan end is =
    let ends = epoch_end p f e plan end in
    let early = ends.not_last in
    omega (arith, is, early)

-- the last epoch begins at frame 0, or later
pub last-begins : (p : Schedule) → IsPlan p → (last_start p ≡ 0) ⊎ (begins_later p (last_start p) ≡ true)
last-begins p plan =
    elim (cases_lt 0 (last_start p)) [
      | inr first ↦ inl (omega (arith, first))
      | inl later ↦ inr (
          let own : (at_frame p (last_start p)).start ≡ last_start p = ap (λ at. at.start) (last_epoch p (last_start p) plan (omega arith)) in
          rw (lt-ltb 0 (last_start p) later, own) (eq-eqb (last_start p) (last_start p) refl))
    ]

-- ---- causes

-- a part that follows others, in which nothing failed
pub cause_after : {X : Type 0} (p : Schedule) (shelf mid shelf' : Cause → ℕ) (sink half sink' : ℕ) (result : Result X RemuxFault) → mid ≡ shelf → half ≡ sink →
    AnswerCause remux_kind (IsInputSeat p) mid shelf' half sink' result → AnswerCause remux_kind (IsInputSeat p) shelf shelf' sink sink' result
cause_after p shelf mid shelf' sink half sink' result kept kept' said =
    subst (λ (s : Cause → ℕ). AnswerCause remux_kind (IsInputSeat p) s shelf' sink sink' result) kept
    (subst (λ (n : ℕ). AnswerCause remux_kind (IsInputSeat p) mid shelf' n sink' result) kept' said)

pub fault_after : (p : Schedule) (shelf mid shelf' : Cause → ℕ) (sink half sink' : ℕ) (kind : FaultKind) → mid ≡ shelf → half ≡ sink →
    FaultCause (IsInputSeat p) mid shelf' half sink' kind → FaultCause (IsInputSeat p) shelf shelf' sink sink' kind
fault_after p shelf mid shelf' sink half sink' kind kept kept' said =
    subst (λ (s : Cause → ℕ). FaultCause (IsInputSeat p) s shelf' sink sink' kind) kept
    (subst (λ (n : ℕ). FaultCause (IsInputSeat p) mid shelf' n sink' kind) kept' said)
