-- No frame behind the end of a stream is refused.
use Rattle.std.proofs.Common.{◌≡◌, ℕ, ◌≤◌, ◌<◌, false, List, length, refl, ap, ◌∙◌, arith, inl, inr}
use Rattle.std.specs.Prelude.{Some, None}
use Rattle.std.specs.declared.option.Option.{Option}
use Rattle.std.proofs.lemmas.Bool.{cases_lt, ne_eqb, ltb-false, le-ltb}
use Rattle.isdbt_base.specs.Outcome.{IsOutcome}
use Rattle.isdbt_base.specs.Plans.{Schedule}
use Rattle.coder_core.specs.InputFrames.{first_head, slots_at, frame_start}
use Rattle.coder_core.specs.CodeRefusals.{has_byte_of, refusal_from, stream_refusal, there_from, has_frame, plan_cut, code_refusal, is_there}
use Rattle.coder_core.proofs.FrameStarts.{start-later}

refusal-gone : (p : Schedule) (input : List ℕ) (limit m f : ℕ) (o : Option ℕ) → m ≤ f → there_from (slots_at p) input m o ≡ false → refusal_from (plan_cut p) input limit f o ≡ None
refusal-gone p input limit m f None le gone = refl
refusal-gone p input limit m f (Some head) le gone =
    let end = ltb-false (frame_start (slots_at p) head m) (length input) gone in
    let rise = start-later (slots_at p) head m f le in
    let none : has_byte_of (slots_at p) input head f ≡ false = le-ltb (frame_start (slots_at p) head f) (length input) (omega (arith, end, rise)) in
    rw none refl

later : (p : Schedule) (input : List ℕ) (limit f : ℕ) → 0 < f → refusal_from (plan_cut p) input limit f (first_head input) ≡ None → code_refusal p input limit f ≡ None
unfolding stream_refusal
later p input limit f some none = rw (ne_eqb f 0 (λ e. omega (arith, e, some)), none) refl

gone : (p : Schedule) (input : List ℕ) (m : ℕ) → is_there p input m ≡ false → there_from (slots_at p) input m (first_head input) ≡ false
unfolding has_frame
gone p input m none = none

-- where all frames are passed and no other is there, none is refused
pub free : (p : Schedule) (input : List ℕ) (limit count : ℕ) → IsOutcome (code_refusal p input limit) (is_there p input) count None → (f : ℕ) → code_refusal p input limit f ≡ None
free p input limit count all f =
    elim (cases_lt f count) [
      | inl below ↦ (all.before f below).0
      | inr ge ↦ elim (cases_lt count f) [
        | inl less ↦ later p input limit f (omega (arith, less)) (refusal-gone p input limit count f (first_head input) ge (gone p input count (all.done refl)))
        | inr le ↦ (let e : f ≡ count = omega (arith, ge, le) in ap (code_refusal p input limit) e ∙ all.at)
      ]
    ]
