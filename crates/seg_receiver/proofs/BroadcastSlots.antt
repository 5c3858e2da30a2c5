-- The slots of a frame of broadcast packets, as `code` reads them.
use Rattle.std.proofs.Common.{◌≡◌, ℕ, ◌+◌, ◌*◌, ◌/◌, ◌%◌, ◌^◌, ◌≤◌, ◌<◌, Bool, true, false, List, ◌++◌, length, take, drop, replicate, Option, Some, None, refl, arith, ap, sym, ◌∙◌, subst, length-append, append_assoc}
use Rattle.std.specs.Prelude.{slice_index, filter, map}
use Rattle.std.specs.Int.{from_bool}
use Rattle.std.specs.List.{range_with_len}
use Rattle.std.specs.Option.{option_map}
use Rattle.std.proofs.lemmas.Bool.{eq-eqb}
use Rattle.std.proofs.lemmas.List.FromFn.{get_or-map-range_with_len}
use Rattle.isdbt_base.specs.declared.kinds.Mode.{Mode}
use Rattle.isdbt_base.specs.declared.kinds.Guard.{Guard}
use Rattle.isdbt_base.specs.declared.kinds.Layer.{Layer}
use Rattle.isdbt_base.specs.declared.kinds.Layer.TheVariants.{A, B, C}
use Rattle.isdbt_base.specs.Parameters.{Parameters, IsAccepted, layer_of, number_of}
use Rattle.isdbt_base.specs.Numbers.{packets_per_frame, slots_per_frame}
use Rattle.ts_packet.specs.Packets.{piece, null_packet}
use Rattle.ts_packet.proofs.PieceLaws.{length-null_packet}
use Rattle.bts_info.specs.Fields.{Tag}
use Rattle.bts_info.specs.Information.{information, info_for, indicator, named_layer, has_head, layer_named}
use Rattle.bts_info.specs.BroadcastPackets.{broadcast_packet, broadcast_frame}
use Rattle.frame_order.specs.declared.mark.Mark.{Mark}
use Rattle.frame_order.specs.Order.{mark_at, slot_of}
use Rattle.frame_order.specs.Places.{IsInFrame}
use Rattle.frame_order.specs.OrderedFrame.{marked_packet, ordered_frame}
use Rattle.frame_order.proofs.OrderLaws.{mark_at-some, mark_at-slot, slot_of-below, slot_of-layer}
use Rattle.frame_order.proofs.FrameBytes.{HasWholePackets, ordered_frame-null, length-ordered_frame}
use Rattle.coder_core.specs.FrameChecks.{information_in, same_layer, layer_slots}
use Rattle.coder_core.specs.InputFrames.{packet_in, bears_head}
use Rattle.seg_receiver.proofs.Pieces.{length-pieces}
use Rattle.seg_receiver.proofs.RangeCuts.{take-front, drop-front, cut_at, AreKept, kept-map, filter-same}

-- ---- a broadcast packet

read_information : (packet i rest : List ℕ) → length packet ≡ 188 → length i ≡ 8 → take 8 (drop 188 ((packet ++ i) ++ rest)) ≡ i
read_information packet i rest e g =
    ap (λ xs. take 8 (drop 188 xs)) (append_assoc packet i rest) ∙ ap (take 8) (drop-front packet (i ++ rest) 188 e) ∙ take-front i rest 8 g

length-information : (tag : Tag) (layer : Option Layer) (slot : ℕ) → length (information (info_for tag layer slot)) ≡ 8
length-information tag layer slot = omega arith

pub packet-information : (packet : List ℕ) (tag : Tag) (layer : Option Layer) (slot : ℕ) → length packet ≡ 188 → take 8 (drop 188 (broadcast_packet packet tag layer slot)) ≡ information (info_for tag layer slot)
packet-information packet tag layer slot e = read_information packet (information (info_for tag layer slot)) (replicate 8 0xFF) e (length-information tag layer slot)

packet-front : (packet : List ℕ) (tag : Tag) (layer : Option Layer) (slot : ℕ) → length packet ≡ 188 → take 188 (broadcast_packet packet tag layer slot) ≡ packet
packet-front packet tag layer slot e =
    ap (take 188) (append_assoc packet (information (info_for tag layer slot)) (replicate 8 0xFF)) ∙ take-front packet (information (info_for tag layer slot) ++ replicate 8 0xFF) 188 e

length-broadcast_packet : (packet : List ℕ) (tag : Tag) (layer : Option Layer) (slot : ℕ) → length packet ≡ 188 → length (broadcast_packet packet tag layer slot) ≡ 204
length-broadcast_packet packet tag layer slot e =
    let p = length-append packet (information (info_for tag layer slot)) in
    let q = length-append (packet ++ information (info_for tag layer slot)) (replicate 8 0xFF) in
    omega arith

pub bit-most : (b : Bool) → from_bool b ≤ 1
bit-most true = omega arith
bit-most false = omega arith

head_bit : (s f o : ℕ) → s ≤ 1 → f ≤ 1 → o ≤ 1 → (64 * 2 + 32 * 1 + 16 * 0 + 8 * s + 4 * f + 2 * 1 + o) / 2 ^ 1 % 2 ≡ 1
head_bit s f o hs hf ho = omega arith

head-information : (tag : Tag) (layer : Option Layer) → has_head (information (info_for tag layer 0)) ≡ true
head-information tag layer = eq-eqb _ _ (head_bit (from_bool tag.start_up) _ (from_bool tag.odd) (bit-most tag.start_up) (bit-most _) (bit-most tag.odd))

named_indicator : (o : Option Layer) → named_layer (indicator o) ≡ o
named_indicator None = refl
named_indicator (Some A) = refl
named_indicator (Some B) = refl
named_indicator (Some C) = refl

layer-information : (tag : Tag) (layer : Option Layer) (slot : ℕ) → tag.countdown ≤ 15 → layer_named (information (info_for tag layer slot)) ≡ layer
layer-information tag layer slot h = ap named_layer (top (indicator layer) tag.countdown h) ∙ named_indicator layer
  where
    top : (n c : ℕ) → c ≤ 15 → (16 * n + c) / 16 ≡ n
    top n c h = omega arith

-- ---- the packet in a slot

abbrev pub slot_packet : Mode → Guard → Parameters → Tag → (Layer → ℕ → List ℕ) → ℕ → List ℕ
slot_packet mode guard s tag packet k = broadcast_packet (marked_packet null_packet packet (mark_at mode guard s k)) tag (option_map (λ m. m.layer) (mark_at mode guard s k)) k

-- packets of 188 bytes, by layer and index
pub length-marked : (mode : Mode) (guard : Guard) (s : Parameters) (packet : Layer → ℕ → List ℕ) → HasWholePackets mode s packet → (k : ℕ) → length (marked_packet null_packet packet (mark_at mode guard s k)) ≡ 188
length-marked mode guard s packet h k = go (mark_at mode guard s k) refl
  where
    go : (o : Option Mark) → mark_at mode guard s k ≡ o → length (marked_packet null_packet packet o) ≡ 188
    go None e = length-null_packet
    go (Some m) e = h m (mark_at-some mode guard s k m e).0

length-slot_packet : (mode : Mode) (guard : Guard) (s : Parameters) (tag : Tag) (packet : Layer → ℕ → List ℕ) → HasWholePackets mode s packet → (k : ℕ) → length (slot_packet mode guard s tag packet k) ≡ 204
length-slot_packet mode guard s tag packet h k = length-broadcast_packet (marked_packet null_packet packet (mark_at mode guard s k)) tag (option_map (λ m. m.layer) (mark_at mode guard s k)) k (length-marked mode guard s packet h k)

-- piece k of the frame is the broadcast packet of slot k
pub piece-ordered_frame : (mode : Mode) (guard : Guard) (s : Parameters) (tag : Tag) (packet : Layer → ℕ → List ℕ) → HasWholePackets mode s packet → (k : ℕ) → k < slots_per_frame mode guard
    → piece 204 (ordered_frame mode guard s tag null_packet packet) k ≡ slot_packet mode guard s tag packet k
unfolding broadcast_frame
piece-ordered_frame mode guard s tag packet h k lt =
    ap (λ xs. piece 204 xs k) (ordered_frame-null mode guard s tag packet)
    ∙ cut_at (slot_packet mode guard s tag packet) (slots_per_frame mode guard) k (204 * k) 204 lt
    (let e = length-pieces (slot_packet mode guard s tag packet) 204 0 k (length-slot_packet mode guard s tag packet h) in omega (arith, e))
    (length-slot_packet mode guard s tag packet h k)

-- the first packet bears the head
pub head-ordered_frame : (mode : Mode) (guard : Guard) (s : Parameters) (tag : Tag) (packet : Layer → ℕ → List ℕ) → HasWholePackets mode s packet → 0 < slots_per_frame mode guard
    → bears_head (piece 204 (ordered_frame mode guard s tag null_packet packet) 0) ≡ true
head-ordered_frame mode guard s tag packet h lt =
    ap bears_head (piece-ordered_frame mode guard s tag packet h 0 lt)
    ∙ ap has_head (packet-information (marked_packet null_packet packet (mark_at mode guard s 0)) tag (option_map (λ m. m.layer) (mark_at mode guard s 0)) 0 (length-marked mode guard s packet h 0))
    ∙ head-information tag (option_map (λ m. m.layer) (mark_at mode guard s 0))

-- the layer that slot k names
named-ordered_frame : (mode : Mode) (guard : Guard) (s : Parameters) (tag : Tag) (packet : Layer → ℕ → List ℕ) → HasWholePackets mode s packet → tag.countdown ≤ 15 → (k : ℕ) → k < slots_per_frame mode guard
    → layer_named (information_in (ordered_frame mode guard s tag null_packet packet) k) ≡ option_map (λ m. m.layer) (mark_at mode guard s k)
named-ordered_frame mode guard s tag packet h c k lt =
    let layer = option_map (λ m. m.layer) (mark_at mode guard s k) in
    ap (λ xs. layer_named (take 8 (drop 188 xs))) (piece-ordered_frame mode guard s tag packet h k lt)
    ∙ ap layer_named (packet-information (marked_packet null_packet packet (mark_at mode guard s k)) tag layer k (length-marked mode guard s packet h k))
    ∙ layer-information tag layer k c

-- ---- the slots of a layer

abbrev mark : Layer → ℕ → Mark
mark x j = record { layer = x; index = j }

same_layer-self : (x : Layer) → same_layer x (Some x) ≡ true
same_layer-self A = refl
same_layer-self B = refl
same_layer-self C = refl

same_layer-is : (x y : Layer) → same_layer x (Some y) ≡ true → y ≡ x
same_layer-is A A e = refl
same_layer-is A B e = absurd (cc)
same_layer-is A C e = absurd (cc)
same_layer-is B A e = absurd (cc)
same_layer-is B B e = refl
same_layer-is B C e = absurd (cc)
same_layer-is C A e = absurd (cc)
same_layer-is C B e = absurd (cc)
same_layer-is C C e = refl

same_layer-none : (x : Layer) → same_layer x None ≡ false
same_layer-none A = refl
same_layer-none B = refl
same_layer-none C = refl

-- whether a slot has a packet of the layer
abbrev has_layer : Mode → Guard → Parameters → Layer → ℕ → Bool
has_layer mode guard s x k = same_layer x (option_map (λ m. m.layer) (mark_at mode guard s k))

abbrev pub layer_size : Mode → Parameters → Layer → ℕ
layer_size mode s x = number_of (packets_per_frame mode) (layer_of s x)

slots-kept : (mode : Mode) (guard : Guard) (s : Parameters) (x : Layer) → IsAccepted s → AreKept (has_layer mode guard s x) (λ j. slot_of mode guard s (mark x j)) 0 (slots_per_frame mode guard) 0 (layer_size mode s x)
slots-kept mode guard s x h = record {
  low = λ k l m. omega arith;
  high = λ k l m. (let e = slot_of-below mode guard s h (mark x k) (omega (arith, m)) in omega (arith, e));
  rising = λ i j l m u. slot_of-layer mode guard s h x i j (omega (arith, m, u)) m;
  passes = λ k l m. ap (λ o. same_layer x (option_map (λ m. m.layer) o)) (mark_at-slot mode guard s h (mark x k) (omega (arith, m))) ∙ same_layer-self x;
  all = λ k l m pass. go k (mark_at mode guard s k) refl pass;
}
  where
    go : (k : ℕ) (o : Option Mark) → mark_at mode guard s k ≡ o → same_layer x (option_map (λ m. m.layer) o) ≡ true → (j : ℕ) × (0 ≤ j) × (j < 0 + layer_size mode s x) × (slot_of mode guard s (mark x j) ≡ k)
    go k None e pass = absurd (let none = same_layer-none x in cc)
    go k (Some m) e pass =
        let some = mark_at-some mode guard s k m e in
        let same = same_layer-is x m.layer pass in
        (m.index, omega arith, (let b : m.index < layer_size mode s x = subst (λ y. m.index < layer_size mode s y) same some.0 in omega (arith, b)), ap (λ y. slot_of mode guard s (mark y m.index)) (sym same) ∙ some.1)

-- the slots that name a layer are those of its packets, in order
pub layer_slots-ordered_frame : (mode : Mode) (guard : Guard) (s : Parameters) (tag : Tag) (packet : Layer → ℕ → List ℕ) (x : Layer) → IsAccepted s → HasWholePackets mode s packet → tag.countdown ≤ 15
    → layer_slots (ordered_frame mode guard s tag null_packet packet) x ≡ map (λ j. slot_of mode guard s (mark x j)) (range_with_len 0 (layer_size mode s x))
layer_slots-ordered_frame mode guard s tag packet x h whole c =
    let frame = ordered_frame mode guard s tag null_packet packet in
    let slots : length frame / 204 ≡ slots_per_frame mode guard = (let e = length-ordered_frame mode guard s tag null_packet packet length-null_packet whole in count (length frame) (slots_per_frame mode guard) e) in
    ap (λ n. filter (λ k. same_layer x (layer_named (information_in frame k))) (range_with_len 0 n)) slots
    ∙ filter-same (λ k. same_layer x (layer_named (information_in frame k))) (has_layer mode guard s x) 0 (slots_per_frame mode guard) (λ k l m.
    ap (same_layer x) (named-ordered_frame mode guard s tag packet whole c k (omega (arith, m))))
    ∙ kept-map (has_layer mode guard s x) (λ j. slot_of mode guard s (mark x j)) 0 (slots_per_frame mode guard) 0 (layer_size mode s x) (slots-kept mode guard s x h)
  where
    count : (n slots : ℕ) → n ≡ 204 * slots → n / 204 ≡ slots
    count n slots e = omega (arith, e)

-- packet j of a layer is found
pub packet_in-ordered_frame : (mode : Mode) (guard : Guard) (s : Parameters) (tag : Tag) (packet : Layer → ℕ → List ℕ) (x : Layer) (j : ℕ) → IsAccepted s → HasWholePackets mode s packet → tag.countdown ≤ 15
    → IsInFrame mode s (mark x j) → packet_in (ordered_frame mode guard s tag null_packet packet) x j ≡ packet x j
unfolding packet_in
packet_in-ordered_frame mode guard s tag packet x j h whole c lt =
    let frame = ordered_frame mode guard s tag null_packet packet in
    let slot = slot_of mode guard s (mark x j) in
    ap (λ xs. take 188 (piece 204 frame (slice_index xs j))) (layer_slots-ordered_frame mode guard s tag packet x h whole c)
    ∙ ap (λ k. take 188 (piece 204 frame k)) (get_or-map-range_with_len (λ j. slot_of mode guard s (mark x j)) 0 (layer_size mode s x) j j 0 lt (omega arith))
    ∙ ap (take 188) (piece-ordered_frame mode guard s tag packet whole slot (slot_of-below mode guard s h (mark x j) lt))
    ∙ ap (λ o. take 188 (broadcast_packet (marked_packet null_packet packet o) tag (option_map (λ m. m.layer) o) slot)) (mark_at-slot mode guard s h (mark x j) lt)
    ∙ packet-front (packet x j) tag (Some x) slot (whole (mark x j) lt)
