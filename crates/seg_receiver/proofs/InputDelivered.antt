-- Each packet of an input that has a place is delivered from there, after its layer's delay.
use Rattle.std.proofs.Common.{◌≡◌, ℕ, ◌+◌, ◌-◌, ◌<◌, true, List, [], ◌∷◌, refl, arith, ap, ◌∙◌, inl, inr, Some}
use Rattle.std.specs.Prelude.{nat_le}
use Rattle.std.proofs.lemmas.Bool.{le-leb, lt-ltb, ltb-true, cases_lt, cases_Bool}
use Rattle.isdbt_base.specs.declared.kinds.Layer.{Layer}
use Rattle.isdbt_base.specs.LayerParameters.{LayerParameters}
use Rattle.isdbt_base.specs.Parameters.{layer_of}
use Rattle.isdbt_base.specs.Numbers.{layer_delay, packets_per_frame}
use Rattle.isdbt_base.specs.Plans.{Transmission, Schedule, Switch, at_frame, at_from}
use Rattle.isdbt_base.specs.Epochs.{leaves_after}
use Rattle.isdbt_base.proofs.OptionLaws.{option_cases}
use Rattle.ts_packet.specs.Packets.{piece}
use Rattle.isdbt_base.proofs.PlanEpochs.{SameEpoch, epoch_start-le}
use Rattle.remux_core.specs.Multiplex.{layer_at, filled, placed_before, multiplexed, packet_count, frame_delay}
use Rattle.remux_core.specs.Answers.{IsPlacedIn}
use Rattle.seg_receiver.specs.Delivered.{into_epoch, IsDelivered}
use Rattle.seg_receiver.proofs.EpochStarts.{at_from-after, at_from-before}

-- a frame that is before the end of another's epoch is in that epoch
stays_from : (t : Transmission) (start : ℕ) (ws : List Switch) (f d : ℕ) → leaves_after f (at_from t start ws f).end d ≡ true → SameEpoch (at_from t start ws (f + d)) (at_from t start ws f)
stays_from t start [] f d h = record { mode = refl; guard = refl; setting = refl; start = refl }
stays_from t start (w ∷ ws) f d h =
    elim (cases_lt f w.frame) [
      | inl before ↦ (let soon = ltb-true (f + d) w.frame (rw (at_from-before t start w ws f before) at h) in
          rw (at_from-before t start w ws f before, at_from-before t start w ws (f + d) soon) (record { mode = refl; guard = refl; setting = refl; start = refl }))
      | inr after ↦ rw (at_from-after t start w ws f after, at_from-after t start w ws (f + d) (omega (arith, after))) (stays_from w.after w.frame ws f d (rw (at_from-after t start w ws f after) at h))
    ]

-- the next packet of the input stands in its place
multiplexed-placed : (p : Schedule) (input : Layer → List ℕ) (x : Layer) (i f : ℕ) → i < packet_count input x → IsPlacedIn p x i f → multiplexed p input f x (i - placed_before p x f) ≡ piece 188 (input x) i
unfolding multiplexed
multiplexed-placed p input x i f h at =
    let low = at.0 in
    let high = at.1 in
    let same : placed_before p x f + (i - placed_before p x f) ≡ i = omega (arith, low) in
    rw (lt-ltb (i - placed_before p x f) (filled p x f) (omega (arith, low, high)), same, lt-ltb i (packet_count input x) h) refl

-- a packet of a layer that leaves its epoch in time is delivered
delivered-later : (p : Schedule) (input : Layer → List ℕ) (x : Layer) (i f : ℕ) (l : LayerParameters) → i < packet_count input x → IsPlacedIn p x i f → layer_at p f x ≡ Some l →
    leaves_after f (at_frame p f).end (layer_delay (at_frame p f).mode l) ≡ true → IsDelivered p (multiplexed p input) x (f + layer_delay (at_frame p f).mode l) (i - placed_before p x f) (piece 188 (input x) i)
delivered-later p input x i f l h at used leaves =
    let d = layer_delay (at_frame p f).mode l in
    let epoch = stays_from p.first 0 p.switches f d leaves in
    let stays : layer_of (at_frame p (f + d)).setting x ≡ Some l = ap (λ s. layer_of s x) epoch.setting ∙ used in
    let start = epoch.start in
    let before = epoch_start-le p f in
    let late : nat_le d (into_epoch p (f + d)) ≡ true = le-leb d (into_epoch p (f + d)) (omega (arith, start, before)) in
    let back : f + d - d ≡ f = omega arith in
    let low = at.0 in
    let high = at.1 in
    let size : filled p x f ≡ packets_per_frame (at_frame p f).mode l = rw (used, leaves) refl in
    record {
      layer = l;
      used = stays;
      within = rw epoch.mode (omega (arith, low, high, size));
      packet = rw (stays, epoch.mode, late, back) (multiplexed-placed p input x i f h at);
    }

pub input_delivered : (p : Schedule) (input : Layer → List ℕ) (x : Layer) (i f : ℕ) → i < packet_count input x → IsPlacedIn p x i f →
    IsDelivered p (multiplexed p input) x (f + frame_delay p f x) (i - placed_before p x f) (piece 188 (input x) i)
input_delivered p input x i f h at =
    let low = at.0 in
    let high = at.1 in
    elim (option_cases (layer_at p f x)) [
      | inl none ↦ absurd (let n : filled p x f ≡ 0 = rw none refl in omega (arith, low, high, n))
      | inr used ↦ (let l = used.0 in
          let d = layer_delay (at_frame p f).mode l in
          elim (cases_Bool (leaves_after f (at_frame p f).end d)) [
            | inl leaves ↦ rw used.1 (delivered-later p input x i f l h at used.1 leaves)
            | inr stays ↦ absurd (let n : filled p x f ≡ 0 = rw (used.1, stays) refl in omega (arith, low, high, n))
          ])
    ]
