-- The frame that is made of the packets that were read is the frame of the plan and the inputs.
use Rattle.std.proofs.Common.{◌≡◌, ℕ, ◌+◌, ◌*◌, ◌<◌, ◌≤◌, List, [], length, take, refl, ap, sym, ◌∙◌, subst, arith, inl, inr}
use Rattle.std.specs.declared.option.Option.{Option}
use Rattle.std.proofs.lemmas.Bool.{lt-ltb, le-ltb, cases_lt}
use Rattle.isdbt_base.specs.declared.kinds.Layer.{Layer}
use Rattle.isdbt_base.specs.Numbers.{slots_per_frame}
use Rattle.isdbt_base.specs.Plans.{Transmission, Schedule, at_frame}
use Rattle.isdbt_base.proofs.EpochLaws.{greatest-covers}
use Rattle.edge_io.specs.Known.{append_known}
use Rattle.ts_packet.specs.Packets.{piece_count, piece_or_null, null_packet}
use Rattle.frame_order.specs.declared.layer_packets.LayerPackets.{LayerPackets}
use Rattle.frame_order.specs.LayerBytes.{layer_bytes, layer_packet}
use Rattle.frame_order.specs.OrderedFrame.{ordered_frame}
use Rattle.frame_order.proofs.FrameBytes.{ordered_frame-same}
use Rattle.remux_core.specs.declared.inputs.Inputs.{Inputs}
use Rattle.remux_core.specs.Multiplex.{filled, placed_before, multiplexed, broadcast, frame_tag, written_frame}
use Rattle.remux_core.specs.Frames.{sent_at, most_slots, frame_made}
use Rattle.remux_core.specs.Reading.{input_of, part_of, IsRead}
use Rattle.remux_core.proofs.Parts.{part-packet, length-part_of}

-- the packet of a place that the frame fills, and of another
multiplexed-filled : (p : Schedule) (input : Layer → List ℕ) (f : ℕ) (x : Layer) (j : ℕ) → j < filled p x f → multiplexed p input f x j ≡ piece_or_null (input x) (placed_before p x f + j)
unfolding multiplexed
multiplexed-filled p input f x j less = rw (lt-ltb j (filled p x f) less) refl

multiplexed-null : (p : Schedule) (input : Layer → List ℕ) (f : ℕ) (x : Layer) (j : ℕ) → filled p x f ≤ j → multiplexed p input f x j ≡ null_packet
unfolding multiplexed
multiplexed-null p input f x j past = rw (le-ltb j (filled p x f) past) refl

-- behind the last piece stand null packets
null_behind : (bytes : List ℕ) (j : ℕ) → length bytes ≤ 188 * j → piece_or_null bytes j ≡ null_packet
null_behind bytes j short = rw (le-ltb j (piece_count 188 bytes) (omega (arith, short))) refl

-- a frame whose packets are these is the frame of the plan
made : (p : Schedule) (t : Transmission) (input : Layer → List ℕ) (f : ℕ) (packet : Layer → ℕ → List ℕ) → t ≡ sent_at p f →
    ((x : Layer) (j : ℕ) → packet x j ≡ multiplexed p input f x j) → frame_made p t f packet ≡ written_frame p input f
unfolding frame_made broadcast
made p t input f packet is same =
    ordered_frame-same t.mode t.guard t.setting (frame_tag (at_frame p f) f) null_packet packet (multiplexed p input f) (λ m inside. same m.layer m.index)
    ∙ ap (λ (s : Transmission). ordered_frame s.mode s.guard s.setting (frame_tag (at_frame p f) f) null_packet (multiplexed p input f)) is

-- the frame of the packets that were read
pub made_of_read : (p : Schedule) (t : Transmission) (input : Layer → List ℕ) (f : ℕ) (i : Inputs) (packets : LayerPackets) → t ≡ sent_at p f →
    ((x : Layer) → layer_bytes packets x ≡ take (input_of i x).count (input_of i x).bytes.items) →
    ((x : Layer) → IsRead (placed_before p x f) (filled p x f) (input x) (input_of i x)) → frame_made p t f (layer_packet packets) ≡ written_frame p input f
made_of_read p t input f i packets is has read = made p t input f (layer_packet packets) is same
  where
    same : (x : Layer) (j : ℕ) → layer_packet packets x j ≡ multiplexed p input f x j
    same x j =
        ap (λ xs. piece_or_null xs j) (has x ∙ (read x).part)
        ∙ elim (cases_lt j (filled p x f)) [
          | inl less ↦ part-packet (input x) (placed_before p x f) (filled p x f) j less ∙ sym (multiplexed-filled p input f x j less)
          | inr past ↦ null_behind (part_of (input x) (placed_before p x f) (filled p x f)) j (let len = length-part_of (input x) (placed_before p x f) (filled p x f) in omega (arith, len, past)) ∙ sym (multiplexed-null p input f x j past)
        ]

-- the frame of null packets behind all inputs
pub made_of_none : (p : Schedule) (t : Transmission) (input : Layer → List ℕ) (f : ℕ) (packets : LayerPackets) → t ≡ sent_at p f →
    ((x : Layer) → length (input x) ≤ 188 * placed_before p x f) → ((x : Layer) → layer_bytes packets x ≡ []) → frame_made p t f (layer_packet packets) ≡ written_frame p input f
made_of_none p t input f packets is past none = made p t input f (layer_packet packets) is same
  where
    same : (x : Layer) (j : ℕ) → layer_packet packets x j ≡ multiplexed p input f x j
    same x j =
        ap (λ xs. piece_or_null xs j) (none x) ∙ null_behind [] j (omega arith)
        ∙ sym (elim (cases_lt j (filled p x f)) [
          | inl less ↦ multiplexed-filled p input f x j less ∙ null_behind (input x) (placed_before p x f + j) (let all = past x in omega (arith, all))
          | inr above ↦ multiplexed-null p input f x j above
        ])

-- the greatest frame has room for each
pub frame_fits : (p : Schedule) (t : Transmission) (f size : ℕ) → t ≡ sent_at p f → 204 * most_slots p ≤ size → 204 * slots_per_frame t.mode t.guard ≤ size
frame_fits p t f size is room =
    let e = ap (λ (s : Transmission). slots_per_frame s.mode s.guard) is in
    let a = greatest-covers (λ t. slots_per_frame t.mode t.guard) p f in
    omega (arith, e, a, room)

-- ---- what was written of it

pub wrote_all : (made frame : List ℕ) (mid after : Option (List ℕ)) → made ≡ frame → after ≡ append_known mid made → after ≡ append_known mid frame
wrote_all made frame mid after same wrote = wrote ∙ ap (append_known mid) same

pub wrote_some : (made frame : List ℕ) (n : ℕ) (mid after : Option (List ℕ)) → made ≡ frame → n < length made → after ≡ append_known mid (take n made) →
    (n < length frame) × (after ≡ append_known mid (take n frame))
wrote_some made frame n mid after same short wrote = (subst (λ (xs : List ℕ). n < length xs) same short, wrote ∙ ap (λ xs. append_known mid (take n xs)) same)
