-- What `code` takes for packets in any input of bytes: packets of bytes, whose cells it writes.
use Rattle.std.proofs.Common.{◌≡◌, ℕ, zero, suc, ◌+◌, ◌-◌, ◌*◌, ◌/◌, ◌<◌, ◌≤◌, Bool, true, false, List, [], ◌∷◌, length, drop, Option, Some, None, refl, arith, ap, sym, ◌∙◌, subst, length-drop}
use Rattle.std.specs.Prelude.{slice_index, All, ◌==◌, if◌then◌else◌}
use Rattle.std.proofs.lemmas.Option.{none-some}
use Rattle.std.proofs.lemmas.List.{length-take-le, get_or-take}
use Rattle.std.proofs.lemmas.List.Elements.{All-take, All-drop, All-filter}
use Rattle.std.proofs.lemmas.List.FromFn.{length-range_with_len, get_or-range_with_len}
use Rattle.isdbt_base.specs.declared.stream.Writing.{Writing}
use Rattle.isdbt_base.specs.declared.stream.Reading.{Reading}
use Rattle.isdbt_base.specs.declared.kinds.Layer.{Layer}
use Rattle.isdbt_base.specs.Parameters.{number_of}
use Rattle.isdbt_base.specs.Numbers.{packets_per_frame}
use Rattle.isdbt_base.specs.Plans.{Schedule, at_frame, IsPlan}
use Rattle.isdbt_base.specs.Outcome.{product, first_some, ArePassed}
use Rattle.isdbt_base.proofs.Products.{product-none}
use Rattle.ts_packet.specs.Packets.{piece, IsPacket}
use Rattle.gf_rs.specs.Codewords.{IsBytes}
use Rattle.coder_core.specs.declared.fault.CodeFault.{CodeFault}
use Rattle.coder_core.specs.declared.fault.CodeFault.TheVariants.{TooLong}
use Rattle.coder_core.specs.FrameChecks.{information_in, layer_slots, slots_of, same_layer, layer_count, bad_sync_slot, refusal, CanCode}
use Rattle.bts_info.specs.Information.{layer_named}
use Rattle.coder_core.specs.InputFrames.{first_head, slots_at, packets_before, frame_start, frame_at, packet_in, input_frames}
use Rattle.coder_core.specs.SentCells.{sent_frame}
use Rattle.coder_core.specs.CodeRefusals.{search_refusal, has_byte_of, truncated, frame_refusal, refusal_from, stream_refusal, there_from, has_frame, plan_cut, code_refusal, is_there, frames_from, coded_frame}
use Rattle.coder_core.proofs.Codable.{can_code}
use Rattle.coder_core.proofs.Gathered.{synced}
use Rattle.coder_core.proofs.FoundHead.{there-found}
use Rattle.seg_receiver.specs.CellStream.{view_of, writing_of}
use Rattle.seg_receiver.specs.Delivered.{CanCarry, ArePackets, IsNear}
use Rattle.seg_receiver.proofs.FoundFrames.{product-same}
use Rattle.seg_receiver.proofs.CleanDelivered.{plan_cells-near}

-- ---- a packet in a frame

-- the slots that name a layer are slots of the frame
slot-within : (frame : List ℕ) (x : Layer) (j : ℕ) → j < layer_count frame x → slice_index (layer_slots frame x) j < length frame / 204
slot-within frame x j less =
    let n = length frame / 204 in
    let all : All (λ k. k < n) (slots_of frame) = λ k d lt. (let size = length-range_with_len 0 n in let is = get_or-range_with_len 0 n k d (omega (arith, lt, size)) in omega (arith, is, lt, size)) in
    All-filter (λ slot. same_layer x (layer_named (information_in frame slot))) (λ k. k < n) (slots_of frame) all j 0 less

length-piece : (frame : List ℕ) (slot : ℕ) → slot < length frame / 204 → length (piece 204 frame slot) ≡ 204
length-piece frame slot less =
    length-take-le 204 (drop (204 * slot) frame) (let e = length-drop (204 * slot) frame in long (length frame) slot (length (drop (204 * slot) frame)) less e)
  where
    long : (n slot rest : ℕ) → slot < n / 204 → rest ≡ n - 204 * slot → 204 ≤ rest
    long n slot rest less e = omega (arith, less, e)

packet-is : (frame : List ℕ) (x : Layer) (j : ℕ) → bad_sync_slot frame ≡ None → j < layer_count frame x → IsPacket (packet_in frame x j)
unfolding packet_in
packet-is frame x j sync less =
    let slot = slice_index (layer_slots frame x) j in
    let within = slot-within frame x j less in
    let size = length-piece frame slot within in
    record {
      size = length-take-le 188 (piece 204 frame slot) (omega (arith, size));
      sync = get_or-take 188 (piece 204 frame slot) 0 0 (omega arith) ∙ synced frame sync slot within;
    }

packet-bytes : (frame : List ℕ) (x : Layer) (j : ℕ) → IsBytes frame → IsBytes (packet_in frame x j)
unfolding packet_in
packet-bytes frame x j all =
    let slot = slice_index (layer_slots frame x) j in
    All-take (λ b. b < 256) 188 (piece 204 frame slot) (All-take (λ b. b < 256) 204 (drop (204 * slot) frame) (All-drop (λ b. b < 256) (204 * slot) frame all))

-- ---- a frame that isn't refused

last-none : (a b c : Option CodeFault) → first_some (a ∷ b ∷ c ∷ []) ≡ None → c ≡ None
last-none (Some x) b c e = absurd (none-some x (sym e))
last-none None (Some x) c e = absurd (none-some x (sym e))
last-none None None (Some x) e = absurd (none-some x (sym e))
last-none None None None e = refl

second-none : (a b : Option CodeFault) → first_some (a ∷ b ∷ []) ≡ None → b ≡ None
second-none (Some x) b e = absurd (none-some x (sym e))
second-none None (Some x) e = absurd (none-some x (sym e))
second-none None None e = refl

where_so : (b : Bool) (o : Option CodeFault) → b ≡ true → (if b then o else None) ≡ None → o ≡ None
where_so true o e h = h
where_so false o e h = absurd (cc)

module _ (p : Schedule) (input : List ℕ) (limit head f : ℕ) (found : first_head input ≡ Some head) where
  frame_fine : code_refusal p input limit f ≡ None → frame_refusal (plan_cut p) input limit head f ≡ None
  unfolding stream_refusal
  frame_fine fine = sym (ap (refusal_from (plan_cut p) input limit f) found) ∙ second-none (if f == 0 then search_refusal input else None) (refusal_from (plan_cut p) input limit f (first_head input)) fine

  frame_codable : code_refusal p input limit f ≡ None → is_there p input f ≡ true → CanCode (at_frame p f).setting (at_frame p f).mode (frame_at (slots_at p) input head f)
  frame_codable fine is =
      can_code (at_frame p f).setting (at_frame p f).mode f (head + packets_before (slots_at p) f) (frame_at (slots_at p) input head f)
      (last-none (if f == limit then Some TooLong else None) (truncated (slots_at p) input head f) (refusal (at_frame p f).setting (at_frame p f).mode f (head + packets_before (slots_at p) f) (frame_at (slots_at p) input head f))
      (where_so (has_byte_of (slots_at p) input head f) _ (sym (there-found (slots_at p) input head f found) ∙ is) (frame_fine fine)))

-- ---- all frames

module _ (p : Schedule) (input : List ℕ) (limit head count : ℕ) (found : first_head input ≡ Some head) (passed : ArePassed (code_refusal p input limit) (is_there p input) count) where
  pub input-packets : IsBytes input → ArePackets p (input_frames p input head) count
  input-packets bytes f j x l h used k =
      let frame = frame_at (slots_at p) input head f in
      let codable = frame_codable p input limit head f found (passed f h).0 (passed f h).1 in
      let counted : layer_count frame x ≡ packets_per_frame (at_frame p f).mode l = codable.counts x ∙ ap (number_of (packets_per_frame (at_frame p f).mode)) used in
      (packet-is frame x j codable.sync (omega (arith, counted, k)), packet-bytes frame x j (All-take (λ b. b < 256) (204 * slots_at p f) (drop (frame_start (slots_at p) head f) input) (All-drop (λ b. b < 256) (frame_start (slots_at p) head f) input bytes)))

coded-is : (how : Writing) (p : Schedule) (input : List ℕ) (head f : ℕ) → first_head input ≡ Some head → coded_frame how p input f ≡ sent_frame how p (input_frames p input head) f
unfolding coded_frame
coded-is how p input head f found = ap (λ o. sent_frame how p (frames_from p input o) f) found

-- what is written of an input is near
pub coded-near : (how : Reading) (p : Schedule) (input : List ℕ) (count limit head : ℕ) → IsPlan p → IsBytes input → ArePassed (code_refusal p input limit) (is_there p input) count → CanCarry how.form p count → first_head input ≡ Some head
    → ArePackets p (input_frames p input head) count × IsNear (view_of how (product (coded_frame (writing_of how.form) p input) count)) p (input_frames p input head) count
coded-near how p input count limit head plan bytes passed carries found =
    let writing = writing_of how.form in
    let frames = input_frames p input head in
    let packets = input-packets p input limit head count found passed bytes in (
      packets,
      subst (λ stream. IsNear (view_of how stream) p frames count) (sym (product-same (coded_frame writing p input) (sent_frame writing p frames) count (λ f h. coded-is writing p input head f found)))
          (plan_cells-near how p frames count plan carries packets),
    )

-- where there is no head nothing is written
none-there : (p : Schedule) (input : List ℕ) (f : ℕ) → first_head input ≡ None → is_there p input f ≡ false
unfolding has_frame
none-there p input f none = ap (there_from (slots_at p) input f) none

pub coded-none : (how : Writing) (p : Schedule) (input : List ℕ) (count limit : ℕ) → ArePassed (code_refusal p input limit) (is_there p input) count → first_head input ≡ None → (count ≡ 0) × (product (coded_frame how p input) count ≡ [])
coded-none how p input zero limit passed none = (refl, product-none (coded_frame how p input))
coded-none how p input (suc n) limit passed none = (let is = (passed 0 (omega arith)).1 in let gone = none-there p input 0 none in absurd (true_false (sym is ∙ gone)))
  where
    true_false : true ≡ false → ⊥
    true_false e = cc
