-- The bytes of a frame, slot after slot.
use Rattle.std.proofs.Common.{◌≡◌, ℕ, zero, suc, ◌+◌, ◌*◌, List, [], ◌∷◌, ◌++◌, length, replicate, flat_map, Option, Some, None, refl, arith, ap, sym, ◌∙◌, rules, append_assoc, length-append}
use Rattle.std.specs.Prelude.{◌==◌, if◌then◌else◌, Bool, true, false}
use Rattle.std.specs.List.{range_with_len}
use Rattle.std.specs.Option.{option_map}
use Rattle.std.proofs.Math.Path.{fun_ext}
use Rattle.std.proofs.lemmas.List.{map-id}
use Rattle.std.proofs.lemmas.List.Concat.{flat_map-append, flat_map-cons}
use Rattle.std.proofs.lemmas.List.FromFn.{map-range_with_len_more}
use Rattle.isdbt_base.specs.declared.kinds.Mode.{Mode}
use Rattle.isdbt_base.specs.declared.kinds.Guard.{Guard}
use Rattle.isdbt_base.specs.declared.kinds.Layer.{Layer}
use Rattle.isdbt_base.specs.declared.kinds.Layer.TheVariants.{A, B, C}
use Rattle.isdbt_base.specs.Parameters.{Parameters}
use Rattle.isdbt_base.specs.Numbers.{slots_per_frame}
use Rattle.ts_packet.specs.Packets.{null_packet}
use Rattle.ts_packet.proofs.PieceLaws.{length-null_packet, length-piece_or_null}
use Rattle.bts_info.specs.Fields.{Tag}
use Rattle.bts_info.specs.Information.{information, info_for}
use Rattle.bts_info.specs.BroadcastPackets.{broadcast_packet, broadcast_frame}
use Rattle.frame_order.specs.declared.mark.Mark.{Mark}
use Rattle.frame_order.specs.declared.layer_packets.LayerPackets.{LayerPackets}
use Rattle.frame_order.specs.Order.{mark_at}
use Rattle.frame_order.specs.Places.{IsInFrame}
use Rattle.frame_order.specs.OrderedFrame.{marked_packet, unmarked_packet, ordered_frame}
use Rattle.frame_order.specs.LayerBytes.{layer_packet, AreWhole}
use Rattle.frame_order.proofs.OrderLaws.{mark_at-some}

-- the broadcast packet of a slot
abbrev slot_bytes : Mode → Guard → Parameters → Tag → List ℕ → (Layer → ℕ → List ℕ) → ℕ → List ℕ
slot_bytes mode guard s tag first packet k = broadcast_packet (marked_packet (unmarked_packet first k) packet (mark_at mode guard s k)) tag (option_map (λ m. m.layer) (mark_at mode guard s k)) k

-- the broadcast packets of the first slots
unfoldable pub first_slots : Mode → Guard → Parameters → Tag → List ℕ → (Layer → ℕ → List ℕ) → ℕ → List ℕ
first_slots mode guard s tag first packet n = flat_map (slot_bytes mode guard s tag first packet) (range_with_len 0 n)

pub first_slots-zero : (mode : Mode) (guard : Guard) (s : Parameters) (tag : Tag) (first : List ℕ) (packet : Layer → ℕ → List ℕ) → first_slots mode guard s tag first packet 0 ≡ []
unfolding first_slots
first_slots-zero mode guard s tag first packet = refl

pub first_slots-all : (mode : Mode) (guard : Guard) (s : Parameters) (tag : Tag) (first : List ℕ) (packet : Layer → ℕ → List ℕ) → first_slots mode guard s tag first packet (slots_per_frame mode guard) ≡ ordered_frame mode guard s tag first packet
unfolding first_slots ordered_frame broadcast_frame
first_slots-all mode guard s tag first packet = refl

-- the numbers up to the next
range-more : (n : ℕ) → range_with_len 0 (n + 1) ≡ range_with_len 0 n ++ n ∷ []
range-more n = sym (map-id _) ∙ map-range_with_len_more (λ x. x) 0 n n (omega arith) ∙ ap (λ xs. xs ++ n ∷ []) (map-id _)

append-none : (xs : List ℕ) → xs ++ [] ≡ xs
append-none xs = search rules

-- one more slot
slots-more : (f : ℕ → List ℕ) (n : ℕ) → flat_map f (range_with_len 0 (n + 1)) ≡ flat_map f (range_with_len 0 n) ++ f n
slots-more f n = ap (flat_map f) (range-more n) ∙ flat_map-append f (range_with_len 0 n) (n ∷ []) ∙ ap (λ xs. flat_map f (range_with_len 0 n) ++ xs) (flat_map-cons f n [] ∙ append-none (f n))

regroup : (a p i r : List ℕ) → ((a ++ p) ++ i) ++ r ≡ a ++ ((p ++ i) ++ r)
regroup a p i r = simp append_assoc

pub first_slots-more : (mode : Mode) (guard : Guard) (s : Parameters) (tag : Tag) (first : List ℕ) (packet : Layer → ℕ → List ℕ) (n : ℕ) →
    ((first_slots mode guard s tag first packet n ++ marked_packet (unmarked_packet first n) packet (mark_at mode guard s n)) ++ information (info_for tag (option_map (λ m. m.layer) (mark_at mode guard s n)) n)) ++ replicate 8 0xFF
    ≡ first_slots mode guard s tag first packet (n + 1)
unfolding first_slots
first_slots-more mode guard s tag first packet n =
    regroup (flat_map (slot_bytes mode guard s tag first packet) (range_with_len 0 n)) (marked_packet (unmarked_packet first n) packet (mark_at mode guard s n)) _ _
    ∙ sym (slots-more (slot_bytes mode guard s tag first packet) n)

-- ---- packets that agree

-- packets that agree at each packet of the frame make the same frame
pub ordered_frame-same : (mode : Mode) (guard : Guard) (s : Parameters) (tag : Tag) (first : List ℕ) (p q : Layer → ℕ → List ℕ) →
    ((m : Mark) → IsInFrame mode s m → p m.layer m.index ≡ q m.layer m.index) → ordered_frame mode guard s tag first p ≡ ordered_frame mode guard s tag first q
unfolding ordered_frame
ordered_frame-same mode guard s tag first p q h =
    ap (broadcast_frame (slots_per_frame mode guard) tag (λ k. option_map (λ m. m.layer) (mark_at mode guard s k))) (fun_ext (λ k. at k (mark_at mode guard s k) refl))
  where
    at : (k : ℕ) (o : Option Mark) → mark_at mode guard s k ≡ o → marked_packet (unmarked_packet first k) p o ≡ marked_packet (unmarked_packet first k) q o
    at k None e = refl
    at k (Some m) e = h m (mark_at-some mode guard s k m e).0

-- with the null packet in slot 0 each slot that no layer has holds the null packet
pub ordered_frame-null : (mode : Mode) (guard : Guard) (s : Parameters) (tag : Tag) (packet : Layer → ℕ → List ℕ) →
    ordered_frame mode guard s tag null_packet packet
    ≡ broadcast_frame (slots_per_frame mode guard) tag (λ k. option_map (λ m. m.layer) (mark_at mode guard s k)) (λ k. marked_packet null_packet packet (mark_at mode guard s k))
unfolding ordered_frame
ordered_frame-null mode guard s tag packet =
    ap (broadcast_frame (slots_per_frame mode guard) tag (λ k. option_map (λ m. m.layer) (mark_at mode guard s k)))
    (fun_ext (λ k. ap (λ unmarked. marked_packet unmarked packet (mark_at mode guard s k)) (either (k == 0))))
  where
    either : (b : Bool) → (if b then null_packet else null_packet) ≡ null_packet
    either true = refl
    either false = refl

-- ---- the length of a frame

length-unmarked : (first : List ℕ) (k : ℕ) → length first ≡ 188 → length (unmarked_packet first k) ≡ 188
length-unmarked first k whole = either (k == 0)
  where
    either : (b : Bool) → length (if b then first else null_packet) ≡ 188
    either true = whole
    either false = length-null_packet

-- each packet of the frame has 188 bytes
abbrev pub HasWholePackets : Mode → Parameters → (Layer → ℕ → List ℕ) → Type 0
HasWholePackets mode s packet = (m : Mark) → IsInFrame mode s m → length (packet m.layer m.index) ≡ 188

length-slot : (mode : Mode) (guard : Guard) (s : Parameters) (tag : Tag) (first : List ℕ) (packet : Layer → ℕ → List ℕ) → length first ≡ 188 → HasWholePackets mode s packet → (k : ℕ) → length (slot_bytes mode guard s tag first packet k) ≡ 204
length-slot mode guard s tag first packet whole h k =
    let p = length-append (marked_packet (unmarked_packet first k) packet (mark_at mode guard s k)) (information (info_for tag (option_map (λ m. m.layer) (mark_at mode guard s k)) k)) in
    let q = length-append (marked_packet (unmarked_packet first k) packet (mark_at mode guard s k) ++ information (info_for tag (option_map (λ m. m.layer) (mark_at mode guard s k)) k)) (replicate 8 0xFF) in
    let m = length-marked (mark_at mode guard s k) refl in
    omega arith
  where
    length-marked : (o : Option Mark) → mark_at mode guard s k ≡ o → length (marked_packet (unmarked_packet first k) packet o) ≡ 188
    length-marked None e = length-unmarked first k whole
    length-marked (Some m) e = h m (mark_at-some mode guard s k m e).0

length-slots : (f : ℕ → List ℕ) (c : ℕ) → ((k : ℕ) → length (f k) ≡ c) → (a n : ℕ) → length (flat_map f (range_with_len a n)) ≡ c * n
length-slots f c h a zero = more 0 c (omega arith)
  where
    more : (x c : ℕ) → x ≡ 0 → x ≡ c * 0
    more x c e = omega arith
length-slots f c h a (suc n) =
    ap length (flat_map-cons f a (range_with_len (a + 1) n)) ∙ length-append (f a) (flat_map f (range_with_len (a + 1) n))
    ∙ more _ _ c n (h a) (length-slots f c h (a + 1) n)
  where
    more : (x y c n : ℕ) → x ≡ c → y ≡ c * n → x + y ≡ c * suc n
    more x y c n e g = omega arith

pub length-ordered_frame : (mode : Mode) (guard : Guard) (s : Parameters) (tag : Tag) (first : List ℕ) (packet : Layer → ℕ → List ℕ) → length first ≡ 188 → HasWholePackets mode s packet → length (ordered_frame mode guard s tag first packet) ≡ 204 * slots_per_frame mode guard
unfolding first_slots
length-ordered_frame mode guard s tag first packet whole h =
    ap length (sym (first_slots-all mode guard s tag first packet)) ∙ length-slots (slot_bytes mode guard s tag first packet) 204 (length-slot mode guard s tag first packet whole h) 0 (slots_per_frame mode guard)

-- whole packets of a layer have 188 bytes each
pub length-layer_packet : (packets : LayerPackets) → AreWhole packets → (x : Layer) (j : ℕ) → length (layer_packet packets x j) ≡ 188
length-layer_packet packets w A j = length-piece_or_null packets.a.now j w.a
length-layer_packet packets w B j = length-piece_or_null packets.b.now j w.b
length-layer_packet packets w C j = length-piece_or_null packets.c.now j w.c
