-- The frames of the sample plan.
use Rattle.std.proofs.Common.{◌≡◌, ℕ, ◌≤◌, ◌<◌, [], ◌∷◌, refl, arith, ap, ◌∙◌, inl, inr}
use Rattle.std.proofs.lemmas.Bool.{cases_lt, lt-ltb, le-ltb}
use Rattle.isdbt_base.specs.declared.kinds.Mode.TheVariants.{M1}
use Rattle.isdbt_base.specs.declared.kinds.Guard.TheVariants.{G4}
use Rattle.isdbt_base.specs.declared.kinds.Modulation.TheVariants.{Qpsk, Qam16}
use Rattle.isdbt_base.specs.declared.kinds.Rate.TheVariants.{R12, R23, R34}
use Rattle.isdbt_base.specs.declared.kinds.DepthCode.TheVariants.{D0, D1}
use Rattle.isdbt_base.specs.declared.epoch.At.{At}
use Rattle.isdbt_base.specs.LayerParameters.{LayerParameters}
use Rattle.isdbt_base.proofs.PlanEpochs.{at_from-before, at_from-after}
use Rattle.isdbt_base.specs.declared.kinds.Layer.{Layer}
use Rattle.isdbt_base.specs.declared.kinds.Layer.TheVariants.{A, B, C}
use Rattle.isdbt_base.specs.Parameters.{Parameters, IsAccepted}
use Rattle.isdbt_base.specs.Plans.{Schedule, IsPlan, at_frame, in_epoch}
use Rattle.isdbt_base.specs.Epochs.{last_sent}
use Rattle.isdbt_base.specs.Switching.{with_switch}
use Rattle.remux_core.specs.Multiplex.{placed_before, frame_count}
use Rattle.remux_core.specs.Frames.{packets_of}
use Rattle.sample.specs.SamplePlan.{layer_with, two_layers, first_setting, second_setting, sent_with, sample_plan, sample_frames}
use Rattle.sample.specs.Places.{share_in, first_share, second_share, sample_share}

-- the plan from its two settings
pub plan-made : (first second : Parameters) (p q : Schedule) → first ≡ first_setting → second ≡ second_setting → p ≡ record { first = sent_with first; switches = [] }
    → q ≡ with_switch p (record { frame = 8; after = record { mode = (last_sent p).mode; guard = (last_sent p).guard; setting = second } }) → q ≡ sample_plan
unfolding sample_plan
plan-made first second p q is_first is_second is_p is_q =
    is_q ∙ ap (λ (r : Schedule). with_switch r (record { frame = 8; after = record { mode = (last_sent r).mode; guard = (last_sent r).guard; setting = second } })) is_p
    ∙ ap (λ (s : Parameters). record { first = sent_with s; switches = record { frame = 8; after = sent_with second } ∷ [] }) is_first
    ∙ ap (λ (s : Parameters). record { first = sent_with first_setting; switches = record { frame = 8; after = sent_with s } ∷ [] }) is_second

-- how many frames the plan has with these inputs
pub frame_count-sample : (count : Layer → ℕ) → count A ≡ 100 → count B ≡ 3000 → frame_count sample_plan count ≡ sample_frames
unfolding frame_count placed_before sample_plan
frame_count-sample count a b = rw (a, b) refl

-- layers A and B are used
pub unused-c : packets_of sample_plan.first C ≡ 0
unfolding sample_plan
unused-c = refl

pub used-a : packets_of sample_plan.first A ≡ 16
unfolding sample_plan
used-a = refl

pub used-b : packets_of sample_plan.first B ≡ 288
unfolding sample_plan
used-b = refl

-- ---- its frames

pub plan-is : IsPlan sample_plan
unfolding sample_plan
plan-is = record {
  first = accepted (layer_with 1 Qpsk R23 D1) (layer_with 12 Qam16 R12 D0) refl refl;
  few = omega arith;
  rising = (omega arith, omega arith, accepted (layer_with 1 Qpsk R12 D0) (layer_with 12 Qam16 R34 D1) refl refl, (refl, refl), tt);
}
  where
    accepted : (a b : LayerParameters) → a.segments ≡ 1 → b.segments ≡ 12 → IsAccepted (two_layers a b)
    accepted a b one twelve = record {
      a_segments = (omega arith, omega arith);
      b_segments = (omega arith, omega arith);
      c_segments = tt;
      segments = omega arith;
      no_gap = tt;
      partial = λ e. one;
    }

-- what holds before the switch, and from it on
pub at-first : (f : ℕ) → f < 8 → at_frame sample_plan f ≡ in_epoch (sent_with first_setting) 0 (record { frame = 8; after = sent_with second_setting } ∷ []) f
unfolding sample_plan
at-first f early = at_from-before (sent_with first_setting) 0 (record { frame = 8; after = sent_with second_setting }) [] f early

pub at-second : (f : ℕ) → 8 ≤ f → at_frame sample_plan f ≡ in_epoch (sent_with second_setting) 8 [] f
unfolding sample_plan
at-second f late = at_from-after (sent_with first_setting) 0 (record { frame = 8; after = sent_with second_setting }) [] f late

-- all frames are of mode 1 with guard interval 1/4
pub mode-is : (f : ℕ) → (at_frame sample_plan f).mode ≡ M1
mode-is f = elim (cases_lt f 8) [ inl early ↦ ap (λ (a : At). a.mode) (at-first f early) | inr late ↦ ap (λ (a : At). a.mode) (at-second f late) ]

pub guard-is : (f : ℕ) → (at_frame sample_plan f).guard ≡ G4
guard-is f = elim (cases_lt f 8) [ inl early ↦ ap (λ (a : At). a.guard) (at-first f early) | inr late ↦ ap (λ (a : At). a.guard) (at-second f late) ]

-- the shares of the layers
pub share-is : (x : Layer) (f : ℕ) → share_in (at_frame sample_plan f) x ≡ sample_share x f
share-is x f =
    elim (cases_lt f 8) [
      | inl early ↦ rw (at-first f early, lt-ltb f 8 early) (first x)
      | inr late ↦ rw (at-second f late, le-ltb f 8 late) (second x)
    ]
  where
    first : (x : Layer) → share_in (in_epoch (sent_with first_setting) 0 (record { frame = 8; after = sent_with second_setting } ∷ []) f) x ≡ first_share x
    first A = refl
    first B = refl
    first C = refl

    second : (x : Layer) → share_in (in_epoch (sent_with second_setting) 8 [] f) x ≡ second_share x
    second A = refl
    second B = refl
    second C = refl
