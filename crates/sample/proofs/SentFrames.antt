-- The frames that are sent of the inputs of a sample.
use Rattle.std.proofs.Common.{◌≡◌, ℕ, zero, suc, ◌+◌, ◌-◌, ◌*◌, ◌<◌, Bool, true, false, List, length, take, drop, get_or, refl, arith, ap, sym, ◌∙◌, subst, inl, inr}
use Rattle.std.specs.Prelude.{slice_index, ◌==◌, if◌then◌else◌}
use Rattle.std.specs.List.{range_with_len}
use Rattle.std.proofs.lemmas.List.Elements.{All-append, All-map}
use Rattle.isdbt_base.specs.declared.kinds.Mode.{Mode}
use Rattle.isdbt_base.specs.declared.kinds.Mode.TheVariants.{M1}
use Rattle.isdbt_base.specs.declared.kinds.Guard.TheVariants.{G4}
use Rattle.isdbt_base.specs.declared.kinds.Layer.{Layer}
use Rattle.isdbt_base.specs.Parameters.{layer_of, number_of}
use Rattle.isdbt_base.specs.Numbers.{slots_per_frame, packets_per_frame}
use Rattle.isdbt_base.specs.Plans.{Schedule, at_frame}
use Rattle.isdbt_base.specs.Outcome.{product}
use Rattle.isdbt_base.proofs.OptionLaws.{option_cases}
use Rattle.isdbt_base.proofs.Products.{product-none, product-more}
use Rattle.ts_packet.specs.Packets.{sync_byte}
use Rattle.gf_rs.specs.Codewords.{IsBytes}
use Rattle.coder_core.specs.Coder.{IsFrameOf}
use Rattle.coder_core.specs.FrameChecks.{CanCode}
use Rattle.coder_core.specs.InputFrames.{slots_at, packets_before, packet_in}
use Rattle.coder_core.proofs.Codable.{can_code}
use Rattle.coder_core.proofs.FrameStarts.{packets_before-zero, packets_before-next}
use Rattle.remux_core.specs.Multiplex.{multiplexed, broadcast, written_frame}
use Rattle.remux_core.specs.Parts.{IsGood}
use Rattle.remux_core.proofs.Parts.{first_byte}
use Rattle.seg_receiver.specs.Received.{received_frame}
use Rattle.seg_receiver.specs.Delivered.{ArePackets}
use Rattle.seg_receiver.proofs.AcceptedStream.{refusal-broadcast, length-stream}
use Rattle.seg_receiver.proofs.FoundFrames.{sizes_of, length-broadcast, frame_at-broadcast, input_frames-broadcast}
use Rattle.seg_receiver.proofs.MultiplexedBytes.{multiplexed-packets}
use Rattle.sample.specs.Generator.{made_byte, made_packet, made_input}
use Rattle.sample.specs.SamplePlan.{sample_plan, sample_frames}
use Rattle.sample.specs.SampleInputs.{sample_input, input_packets, seed_of}
use Rattle.sample.specs.SpoiledCells.{spoiled_view}
use Rattle.sample.specs.Tallies.{sample_sent}
use Rattle.sample.proofs.InputLaws.{length-input, piece-input}
use Rattle.sample.proofs.PlanFrames.{plan-is, mode-is, guard-is}
use Rattle.sample.proofs.ReceivedFrames.{codable-received}

-- ---- the inputs

made-sync : (seed p : ℕ) → slice_index (made_packet seed p) 0 ≡ sync_byte
unfolding made_packet
made-sync seed p = refl

good-input : (number : ℕ) (x : Layer) → IsGood (sample_input number x)
good-input number x =
    let size = length-input number x in
    record {
      whole = omega (arith, size);
      sync = λ i less. sym (first_byte (sample_input number x) i) ∙ ap (λ xs. slice_index xs 0) (piece-input number x i (omega (arith, less, size))) ∙ made-sync (seed_of number x) i;
    }

byte-choice : (a b : Bool) (k m n : ℕ) → k < 256 → m < 256 → n < 256 → (if a then k else if b then m else n) < 256
byte-choice true b k m n hk hm hn = hk
byte-choice false true k m n hk hm hn = hm
byte-choice false false k m n hk hm hn = hn

made_byte-lt : (seed p k : ℕ) → made_byte seed p k < 256
made_byte-lt seed p k = byte-choice (k == 0) (k == 1) _ _ _ (omega arith) (omega arith) (omega arith)

made-bytes : (seed p : ℕ) → IsBytes (made_packet seed p)
unfolding made_packet
made-bytes seed p = All-map (λ b. b < 256) (made_byte seed p) (range_with_len 0 188) (λ k d less. made_byte-lt seed p (get_or (range_with_len 0 188) k d))

input-bytes : (seed count : ℕ) → IsBytes (made_input seed count)
input-bytes seed zero = subst IsBytes (sym (product-none (made_packet seed))) (λ k d less. absurd (omega (arith, less)))
input-bytes seed (suc n) =
    subst IsBytes (sym (ap (product (made_packet seed)) (let e : suc n ≡ n + 1 = omega arith in e) ∙ product-more (made_packet seed) n))
    (All-append (λ b. b < 256) (made_input seed n) (made_packet seed n) (input-bytes seed n) (made-bytes seed n))

byte-input : (number : ℕ) (x : Layer) → IsBytes (sample_input number x)
unfolding sample_input
byte-input number x = input-bytes (seed_of number x) (input_packets x)

-- ---- the frames

pub sent-packets : (number : ℕ) → ArePackets sample_plan (sample_sent number) sample_frames
unfolding sample_sent
sent-packets number = multiplexed-packets sample_plan (sample_input number) sample_frames (good-input number) (byte-input number)

pub slots-is : (f : ℕ) → slots_at sample_plan f ≡ 1280
slots-is f = ap (λ m. slots_per_frame m (at_frame sample_plan f).guard) (mode-is f) ∙ ap (λ g. slots_per_frame M1 g) (guard-is f)

before-is : (f : ℕ) → packets_before (slots_at sample_plan) f ≡ 1280 * f
before-is zero = packets_before-zero (slots_at sample_plan)
before-is (suc n) =
    let so_far = before-is n in
    let slots = slots-is n in
    let more = packets_before-next (slots_at sample_plan) n in
    ap (packets_before (slots_at sample_plan)) (let e : suc n ≡ n + 1 = omega arith in e) ∙ (let e : packets_before (slots_at sample_plan) (n + 1) ≡ 1280 * suc n = omega (arith, more, so_far, slots) in e)

module _ (number f : ℕ) (less : f < 15) where
  -- the part of the stream that is the frame
  pub part-is : (stream : List ℕ) → stream ≡ product (written_frame sample_plan (sample_input number)) sample_frames → take 261120 (drop (261120 * f) stream) ≡ broadcast sample_plan (sample_sent number) f
  unfolding sample_sent
  part-is stream is =
      let slots = slots-is f in
      let before = before-is f in
      ap (λ n. take n (drop (261120 * f) stream)) (let e : 261120 ≡ 204 * slots_at sample_plan f = omega (arith, slots) in e)
      ∙ ap (λ n. take (204 * slots_at sample_plan f) (drop n stream)) (let e : 261120 * f ≡ 204 * (0 + packets_before (slots_at sample_plan) f) = omega (arith, before) in e)
      ∙ ap (λ xs. take (204 * slots_at sample_plan f) (drop (204 * (0 + packets_before (slots_at sample_plan) f)) xs)) is
      ∙ frame_at-broadcast sample_plan (multiplexed sample_plan (sample_input number)) sample_frames f (sizes_of sample_plan (sample_sent number) sample_frames (sent-packets number)) less

  pub codable-sent : CanCode (at_frame sample_plan f).setting (at_frame sample_plan f).mode (broadcast sample_plan (sample_sent number) f)
  codable-sent =
      can_code (at_frame sample_plan f).setting (at_frame sample_plan f).mode f 0 (broadcast sample_plan (sample_sent number) f)
      (refusal-broadcast sample_plan (sample_sent number) sample_frames f 0 plan-is (sent-packets number) less)

  pub frame-of-sent : IsFrameOf (at_frame sample_plan f).setting (at_frame sample_plan f).mode (broadcast sample_plan (sample_sent number) f) (sample_sent number) f
  frame-of-sent = record { each = each }
    where
      mode_f : Mode
      mode_f = (at_frame sample_plan f).mode

      each : (x : Layer) (j : ℕ) → j < number_of (packets_per_frame mode_f) (layer_of (at_frame sample_plan f).setting x) → sample_sent number f x j ≡ packet_in (broadcast sample_plan (sample_sent number) f) x j
      each x j l =
          let sizes = sizes_of sample_plan (sample_sent number) sample_frames (sent-packets number) in
          elim (option_cases (layer_of (at_frame sample_plan f).setting x)) [
            | inl none ↦ absurd (let e : number_of (packets_per_frame mode_f) (layer_of (at_frame sample_plan f).setting x) ≡ 0 = ap (number_of (packets_per_frame mode_f)) none in omega (arith, e, l))
            | inr used ↦ (let e : number_of (packets_per_frame mode_f) (layer_of (at_frame sample_plan f).setting x) ≡ packets_per_frame mode_f used.0 = ap (number_of (packets_per_frame mode_f)) used.1 in
                sym (input_frames-broadcast sample_plan (sample_sent number) sample_frames f j x used.0 plan-is sizes less used.1 (omega (arith, e, l)))
                ∙ ap (λ xs. packet_in xs x j) (frame_at-broadcast sample_plan (sample_sent number) sample_frames f sizes less))
          ]

-- the bytes of all frames
pub stream-size : (number : ℕ) (stream : List ℕ) → stream ≡ product (written_frame sample_plan (sample_input number)) sample_frames → length stream ≡ 3916800
unfolding sample_sent
stream-size number stream is =
    let size = ap length is ∙ length-stream sample_plan (multiplexed sample_plan (sample_input number)) sample_frames (sent-packets number) in
    let before = before-is sample_frames in
    omega (arith, size, before)

-- ---- a frame of the stream, by the plan

module _ (p : Schedule) (is_plan : p ≡ sample_plan) (number f : ℕ) (less : f < 15) (stream : List ℕ) (is : stream ≡ product (written_frame sample_plan (sample_input number)) sample_frames) where
  abbrev part : List ℕ
  part = take (261120 * f + 261120 - 261120 * f) (drop (261120 * f) stream)

  broadcast-is : part ≡ broadcast sample_plan (sample_sent number) f
  broadcast-is =
      ap (λ n. take n (drop (261120 * f) stream)) (let e : 261120 * f + 261120 - 261120 * f ≡ 261120 = omega arith in e) ∙ part-is number f less stream is

  pub part-mode : (at_frame p f).mode ≡ M1
  part-mode = ap (λ (q : Schedule). (at_frame q f).mode) is_plan ∙ mode-is f

  pub part-guard : (at_frame p f).guard ≡ G4
  part-guard = ap (λ (q : Schedule). (at_frame q f).guard) is_plan ∙ guard-is f

  pub part-size : length part ≡ 204 * slots_at p f
  part-size =
      ap length broadcast-is ∙ length-broadcast sample_plan (sample_sent number) sample_frames f (sizes_of sample_plan (sample_sent number) sample_frames (sent-packets number)) less
      ∙ ap (λ (q : Schedule). 204 * slots_at q f) (sym is_plan)

  pub part-codable : CanCode (at_frame p f).setting (at_frame p f).mode part
  part-codable =
      subst (λ (q : Schedule). CanCode (at_frame q f).setting (at_frame q f).mode part) (sym is_plan)
      (subst (CanCode (at_frame sample_plan f).setting (at_frame sample_plan f).mode) (sym broadcast-is) (codable-sent number f less))

  pub part-frame : IsFrameOf (at_frame p f).setting (at_frame p f).mode part (sample_sent number) f
  part-frame =
      subst (λ (q : Schedule). IsFrameOf (at_frame q f).setting (at_frame q f).mode part (sample_sent number) f) (sym is_plan)
      (subst (λ xs. IsFrameOf (at_frame sample_plan f).setting (at_frame sample_plan f).mode xs (sample_sent number) f) (sym broadcast-is) (frame-of-sent number f less))

-- what is received is received by the plan of the sample
pub received-by : (p : Schedule) (number f : ℕ) (out : List ℕ) → p ≡ sample_plan → out ≡ received_frame (spoiled_view p (sample_sent number) sample_frames) f → out ≡ received_frame (spoiled_view sample_plan (sample_sent number) sample_frames) f
received-by p number f out is_plan is = is ∙ ap (λ (q : Schedule). received_frame (spoiled_view q (sample_sent number) sample_frames) f) is_plan

pub codable-out : (number f : ℕ) (out : List ℕ) → out ≡ received_frame (spoiled_view sample_plan (sample_sent number) sample_frames) f → CanCode (at_frame sample_plan f).setting (at_frame sample_plan f).mode out
codable-out number f out is = subst (CanCode (at_frame sample_plan f).setting (at_frame sample_plan f).mode) (sym is) (codable-received sample_plan (sample_sent number) sample_frames f plan-is)
