-- What is counted of a frame that is received.
use Rattle.std.proofs.Common.{◌≡◌, ◌≢◌, ℕ, ◌*◌, ◌<◌, ◌≤◌, Bool, true, false, List, length, refl, arith, ap, sym, ◌∙◌, subst, inl, inr}
use Rattle.std.specs.Prelude.{◌&&◌, ◌==◌, nat_lt}
use Rattle.std.proofs.lemmas.Bool.{cases_lt, lt-ltb, le-ltb, ne_eqb}
use Rattle.isdbt_base.specs.declared.kinds.Layer.{Layer}
use Rattle.isdbt_base.specs.declared.kinds.Layer.TheVariants.{A, B, C}
use Rattle.isdbt_base.specs.declared.epoch.At.{At}
use Rattle.isdbt_base.specs.Epochs.{begins_later}
use Rattle.isdbt_base.specs.Plans.{Schedule, at_frame}
use Rattle.coder_core.specs.InputFrames.{packet_in}
use Rattle.seg_receiver.specs.Received.{received_packets, received_frame}
use Rattle.sample.specs.declared.places.Share.{Share}
use Rattle.sample.specs.declared.layer_counts.LayerCount.{LayerCount}
use Rattle.sample.specs.SamplePlan.{sample_plan, sample_frames}
use Rattle.sample.specs.SampleInputs.{sample_input, input_packets}
use Rattle.sample.specs.SpoiledCells.{spoiled_view}
use Rattle.sample.specs.Places.{share_in, first_share, second_share, sample_share}
use Rattle.sample.specs.Tallies.{sample_sent, sample_received, tally_of}
use Rattle.sample.specs.LayerCounts.{IsBounded, IsCounted}
use Rattle.sample.proofs.InputLaws.{length-input}
use Rattle.sample.proofs.PlaceLaws.{given-none}
use Rattle.sample.proofs.PlanFrames.{plan-is, share-is, at-first, at-second}
use Rattle.sample.proofs.ReceivedFrames.{packet_in-received}
use Rattle.sample.proofs.TallyLaws.{tally-none}

-- ---- shares

pub packets-most : (x : Layer) (f : ℕ) → (sample_share x f).packets ≤ 432
packets-most x f = elim (cases_lt f 8) [ inl early ↦ rw (lt-ltb f 8 early) (first x) | inr late ↦ rw (le-ltb f 8 late) (second x) ]
  where
    first : (x : Layer) → (first_share x).packets ≤ 432
    first A = omega arith
    first B = omega arith
    first C = omega arith

    second : (x : Layer) → (second_share x).packets ≤ 432
    second A = omega arith
    second B = omega arith
    second C = omega arith

pub share-of : (p : Schedule) (x : Layer) (f : ℕ) (s : Share) → p ≡ sample_plan → s ≡ share_in (at_frame p f) x → s ≡ sample_share x f
share-of p x f s plan is = is ∙ ap (λ (q : Schedule). share_in (at_frame q f) x) plan ∙ share-is x f

-- ---- packets

received-is : (number f : ℕ) (x : Layer) (j : ℕ) → received_packets (spoiled_view sample_plan (sample_sent number) sample_frames) f x j ≡ sample_received number f x j
unfolding sample_received
received-is number f x j = refl

pub got : (number f : ℕ) (x : Layer) (out : List ℕ) (s : Share) → s ≡ sample_share x f → out ≡ received_frame (spoiled_view sample_plan (sample_sent number) sample_frames) f
    → (j : ℕ) → j < s.packets → packet_in out x j ≡ sample_received number f x j
got number f x out s is out_is j less =
    let size = ap (λ (t : Share). t.packets) (is ∙ sym (share-is x f)) in
    ap (λ xs. packet_in xs x j) out_is
    ∙ packet_in-received sample_plan (sample_sent number) sample_frames f plan-is x j (omega (arith, less, size))
    ∙ received-is number f x j

-- ---- bounds

pub bounded-by : (number : ℕ) (x : Layer) (f : ℕ) (c : LayerCount) (input : List ℕ) → input ≡ sample_input number x → IsBounded (188 * input_packets x) f c → IsBounded (length input) f c
bounded-by number x f c input is b = subst (λ n. IsBounded n f c) (sym (ap length is ∙ length-input number x)) b

pub bounded-in : (number : ℕ) (x : Layer) (f : ℕ) (c : LayerCount) (input : List ℕ) → input ≡ sample_input number x → IsBounded (length input) f c → IsBounded (188 * input_packets x) f c
bounded-in number x f c input is b = subst (λ n. IsBounded n f c) (ap length is ∙ length-input number x) b

-- ---- nothing counted

pub counted-none : (number : ℕ) (x : Layer) (c : LayerCount) → c.given ≡ 0 → c.tally ≡ record { met = 0; marked = 0; sum = 0 } → IsCounted number x 0 c
counted-none number x c none is = record {
  given = none ∙ sym (given-none x);
  tally = is ∙ tally-none number x ∙ ap (λ n. tally_of number x n 0) (sym (given-none x));
}

-- ---- epochs

pub starts-first : (at_frame sample_plan 0).start ≡ 0
starts-first = ap (λ (a : At). a.start) (at-first 0 (omega arith))

pub starts-second : (at_frame sample_plan 8).start ≡ 8
starts-second = ap (λ (a : At). a.start) (at-second 8 (omega arith))

none-begins : (f start : ℕ) → start ≢ f → (nat_lt 0 f && (start == f)) ≡ false
none-begins f start other = rw (ne_eqb start f other) (both (nat_lt 0 f))
  where
    both : (b : Bool) → (b && false) ≡ false
    both true = refl
    both false = refl

-- no epoch begins inside one
pub inside-first : (f : ℕ) → 0 < f → f < 8 → begins_later sample_plan f ≡ false
inside-first f some less = none-begins f (at_frame sample_plan f).start (λ e. let is = ap (λ (a : At). a.start) (at-first f less) in omega (arith, e, is, some))

pub inside-second : (f : ℕ) → 8 < f → f < 15 → begins_later sample_plan f ≡ false
inside-second f late less = none-begins f (at_frame sample_plan f).start (λ e. let is = ap (λ (a : At). a.start) (at-second f (omega (arith, late))) in omega (arith, e, is, late))
