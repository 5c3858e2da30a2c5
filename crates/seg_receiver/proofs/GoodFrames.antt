-- A frame of broadcast packets is not refused.
use Rattle.std.proofs.Common.{◌≡◌, ℕ, ◌+◌, ◌*◌, ◌/◌, ◌%◌, ◌^◌, ◌≤◌, ◌<◌, Bool, true, false, List, [], ◌∷◌, ◌++◌, length, take, drop, replicate, Option, Some, None, refl, arith, ap, ◌∙◌, length-append}
use Rattle.ts_packet.proofs.PieceLaws.{length-null_packet}
use Rattle.std.specs.Prelude.{slice_index, not, ◌==◌, if◌then◌else◌}
use Rattle.std.specs.Int.{from_bool}
use Rattle.std.specs.Option.{option_map}
use Rattle.std.proofs.lemmas.Bool.{eq-eqb}
use Rattle.std.proofs.lemmas.List.{get_or_append_left}
use Rattle.std.proofs.lemmas.List.FromFn.{length-map-range_with_len}
use Rattle.isdbt_base.specs.declared.kinds.Mode.{Mode}
use Rattle.isdbt_base.specs.declared.kinds.Guard.{Guard}
use Rattle.isdbt_base.specs.declared.kinds.Layer.{Layer}
use Rattle.isdbt_base.specs.declared.kinds.Layer.TheVariants.{A, B, C}
use Rattle.isdbt_base.specs.Parameters.{Parameters, IsAccepted}
use Rattle.isdbt_base.specs.Numbers.{slots_per_frame}
use Rattle.isdbt_base.specs.Outcome.{first_some}
use Rattle.ts_packet.specs.Packets.{null_packet, piece, sync_byte}
use Rattle.bts_info.specs.Fields.{Tag}
use Rattle.bts_info.specs.Information.{information, info_for, has_head}
use Rattle.bts_info.specs.BroadcastPackets.{broadcast_packet}
use Rattle.frame_order.specs.declared.mark.Mark.{Mark}
use Rattle.frame_order.specs.Order.{mark_at}
use Rattle.frame_order.specs.Places.{IsInFrame}
use Rattle.frame_order.specs.OrderedFrame.{marked_packet, ordered_frame}
use Rattle.frame_order.proofs.OrderLaws.{mark_at-some}
use Rattle.frame_order.proofs.FrameBytes.{HasWholePackets, length-ordered_frame}
use Rattle.coder_core.specs.declared.fault.CodeFault.{CodeFault}
use Rattle.coder_core.specs.declared.fault.CodeFault.TheVariants.{WrongCount}
use Rattle.coder_core.specs.FrameChecks.{information_in, bad_sync_slot, is_misplaced, misplaced_slot, layer_count, bad_sync, misplaced, wrong_count, refusal}
use Rattle.isdbt_base.proofs.Finding.{find-none_of}
use Rattle.seg_receiver.proofs.BroadcastSlots.{packet-information, length-marked, bit-most, piece-ordered_frame, layer_size, layer_slots-ordered_frame}

-- the layers' packets of a frame begin with the sync byte
abbrev pub HasSyncBytes : Mode → Parameters → (Layer → ℕ → List ℕ) → Type 0
HasSyncBytes mode s packet = (m : Mark) → IsInFrame mode s m → slice_index (packet m.layer m.index) 0 ≡ sync_byte

null-sync : slice_index null_packet 0 ≡ sync_byte
unfolding null_packet
null-sync = refl

marked-sync : (mode : Mode) (guard : Guard) (s : Parameters) (packet : Layer → ℕ → List ℕ) → HasSyncBytes mode s packet → (k : ℕ) → slice_index (marked_packet null_packet packet (mark_at mode guard s k)) 0 ≡ sync_byte
marked-sync mode guard s packet h k = go (mark_at mode guard s k) refl
  where
    go : (o : Option Mark) → mark_at mode guard s k ≡ o → slice_index (marked_packet null_packet packet o) 0 ≡ sync_byte
    go None e = null-sync
    go (Some m) e = h m (mark_at-some mode guard s k m e).0

packet-first : (packet : List ℕ) (tag : Tag) (layer : Option Layer) (slot : ℕ) → length packet ≡ 188 → slice_index (broadcast_packet packet tag layer slot) 0 ≡ slice_index packet 0
packet-first packet tag layer slot e =
    let i = information (info_for tag layer slot) in
    get_or_append_left (packet ++ i) (replicate 8 0xFF) 0 0 (let a = length-append packet i in omega (arith, a, e))
    ∙ get_or_append_left packet i 0 0 (omega (arith, e))

-- the packet in each slot begins with the sync byte
pub sync-slot : (mode : Mode) (guard : Guard) (s : Parameters) (tag : Tag) (packet : Layer → ℕ → List ℕ) → HasWholePackets mode s packet → HasSyncBytes mode s packet → (k : ℕ) → k < slots_per_frame mode guard
    → slice_index (piece 204 (ordered_frame mode guard s tag null_packet packet) k) 0 ≡ sync_byte
sync-slot mode guard s tag packet whole sync k lt =
    ap (λ xs. slice_index xs 0) (piece-ordered_frame mode guard s tag packet whole k lt)
    ∙ packet-first (marked_packet null_packet packet (mark_at mode guard s k)) tag (option_map (λ m. m.layer) (mark_at mode guard s k)) k (length-marked mode guard s packet whole k)
    ∙ marked-sync mode guard s packet sync k

-- ---- the head flag

head_set : (s f o : ℕ) → s ≤ 1 → f ≤ 1 → o ≤ 1 → (64 * 2 + 32 * 1 + 16 * 0 + 8 * s + 4 * f + 2 * 1 + o) / 2 ^ 1 % 2 ≡ 1
head_set s f o hs hf ho = omega arith

head_clear : (s f o : ℕ) → s ≤ 1 → f ≤ 1 → o ≤ 1 → (64 * 2 + 32 * 1 + 16 * 0 + 8 * s + 4 * f + 2 * 0 + o) / 2 ^ 1 % 2 ≡ 0
head_clear s f o hs hf ho = omega arith

head-is : (s f o : ℕ) (h : Bool) → s ≤ 1 → f ≤ 1 → o ≤ 1 → ((64 * 2 + 32 * 1 + 16 * 0 + 8 * s + 4 * f + 2 * from_bool h + o) / 2 ^ 1 % 2 == 1) ≡ h
head-is s f o true hs hf ho = eq-eqb _ _ (head_set s f o hs hf ho)
head-is s f o false hs hf ho = rw (head_clear s f o hs hf ho) refl

head-slot : (tag : Tag) (layer : Option Layer) (slot : ℕ) → has_head (information (info_for tag layer slot)) ≡ (slot == 0)
head-slot tag layer slot = head-is (from_bool tag.start_up) _ (from_bool tag.odd) (slot == 0) (bit-most tag.start_up) (bit-most _) (bit-most tag.odd)

well_placed : (is : Bool) (h : Bool) → h ≡ is → (if is then not h else h) ≡ false
well_placed true h e = rw e refl
well_placed false h e = e

head-placed : (mode : Mode) (guard : Guard) (s : Parameters) (tag : Tag) (packet : Layer → ℕ → List ℕ) → HasWholePackets mode s packet → (k : ℕ) → k < slots_per_frame mode guard
    → is_misplaced (ordered_frame mode guard s tag null_packet packet) k ≡ false
head-placed mode guard s tag packet whole k lt =
    well_placed (k == 0) (has_head (information_in (ordered_frame mode guard s tag null_packet packet) k))
    (ap (λ xs. has_head (take 8 (drop 188 xs))) (piece-ordered_frame mode guard s tag packet whole k lt)
    ∙ ap has_head (packet-information (marked_packet null_packet packet (mark_at mode guard s k)) tag (option_map (λ m. m.layer) (mark_at mode guard s k)) k (length-marked mode guard s packet whole k))
    ∙ head-slot tag (option_map (λ m. m.layer) (mark_at mode guard s k)) k)

-- ---- the causes

slots-are : (mode : Mode) (guard : Guard) (s : Parameters) (tag : Tag) (packet : Layer → ℕ → List ℕ) → HasWholePackets mode s packet → length (ordered_frame mode guard s tag null_packet packet) / 204 ≡ slots_per_frame mode guard
slots-are mode guard s tag packet whole = (let e = length-ordered_frame mode guard s tag null_packet packet length-null_packet whole in count (length (ordered_frame mode guard s tag null_packet packet)) (slots_per_frame mode guard) e)
  where
    count : (n slots : ℕ) → n ≡ 204 * slots → n / 204 ≡ slots
    count n slots e = omega (arith, e)

no_bad_sync : (mode : Mode) (guard : Guard) (s : Parameters) (tag : Tag) (packet : Layer → ℕ → List ℕ) → HasWholePackets mode s packet → HasSyncBytes mode s packet → bad_sync_slot (ordered_frame mode guard s tag null_packet packet) ≡ None
no_bad_sync mode guard s tag packet whole sync =
    let frame = ordered_frame mode guard s tag null_packet packet in
    let slots = slots-are mode guard s tag packet whole in
    find-none_of (λ slot. not (slice_index (piece 204 frame slot) 0 == sync_byte)) (length frame / 204)
    (λ k less. ap not (eq-eqb (slice_index (piece 204 frame k) 0) sync_byte (sync-slot mode guard s tag packet whole sync k (omega (arith, less, slots)))))

no_misplaced : (mode : Mode) (guard : Guard) (s : Parameters) (tag : Tag) (packet : Layer → ℕ → List ℕ) → HasWholePackets mode s packet → misplaced_slot (ordered_frame mode guard s tag null_packet packet) ≡ None
no_misplaced mode guard s tag packet whole =
    let frame = ordered_frame mode guard s tag null_packet packet in
    let slots = slots-are mode guard s tag packet whole in
    find-none_of (is_misplaced frame) (length frame / 204) (λ k less. head-placed mode guard s tag packet whole k (omega (arith, less, slots)))

counted : (mode : Mode) (guard : Guard) (s : Parameters) (tag : Tag) (packet : Layer → ℕ → List ℕ) (number : ℕ) (x : Layer) → IsAccepted s → HasWholePackets mode s packet → tag.countdown ≤ 15
    → wrong_count s mode number (ordered_frame mode guard s tag null_packet packet) x ≡ None
counted mode guard s tag packet number x h whole c =
    let frame = ordered_frame mode guard s tag null_packet packet in
    let e : layer_count frame x ≡ layer_size mode s x = ap length (layer_slots-ordered_frame mode guard s tag packet x h whole c) ∙ length-map-range_with_len _ 0 (layer_size mode s x) in
    none_if (layer_count frame x == layer_size mode s x) (WrongCount number x (layer_count frame x)) (eq-eqb (layer_count frame x) (layer_size mode s x) e)
  where
    none_if : (b : Bool) (fault : CodeFault) → b ≡ true → (if b then None else Some fault) ≡ None
    none_if b fault e = rw e refl

unmapped : {X Y : Type 0} (f : X → Y) (o : Option X) → o ≡ None → option_map f o ≡ None
unmapped f o e = rw e refl

none_of_five : (a b c d e : Option CodeFault) → a ≡ None → b ≡ None → c ≡ None → d ≡ None → e ≡ None → first_some (a ∷ b ∷ c ∷ d ∷ e ∷ []) ≡ None
none_of_five a b c d e ha hb hc hd he = rw (ha, hb, hc, hd, he) refl

pub refusal-ordered_frame : (mode : Mode) (guard : Guard) (s : Parameters) (tag : Tag) (packet : Layer → ℕ → List ℕ) (number first : ℕ) → IsAccepted s → HasWholePackets mode s packet → HasSyncBytes mode s packet → tag.countdown ≤ 15
    → refusal s mode number first (ordered_frame mode guard s tag null_packet packet) ≡ None
unfolding refusal
refusal-ordered_frame mode guard s tag packet number first h whole sync c =
    let frame = ordered_frame mode guard s tag null_packet packet in
    none_of_five (bad_sync first frame) (misplaced number frame) (wrong_count s mode number frame A) (wrong_count s mode number frame B) (wrong_count s mode number frame C)
    (unmapped _ (bad_sync_slot frame) (no_bad_sync mode guard s tag packet whole sync))
    (unmapped _ (misplaced_slot frame) (no_misplaced mode guard s tag packet whole))
    (counted mode guard s tag packet number A h whole c) (counted mode guard s tag packet number B h whole c) (counted mode guard s tag packet number C h whole c)
