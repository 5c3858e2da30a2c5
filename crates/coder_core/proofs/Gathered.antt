-- The packets of a layer in the first slots of a frame.
use Rattle.std.proofs.Common.{◌≡◌, ℕ, zero, suc, ◌+◌, ◌-◌, ◌/◌, ◌<◌, ◌≤◌, Bool, true, false, cond, List, [], ◌∷◌, ◌++◌, length, take, set, map, get_or, Option, Some, None, refl, ap, sym, ◌∙◌, arith, length-append}
use Rattle.std.specs.Prelude.{find, filter, not, ◌==◌, slice_index}
use Rattle.std.specs.List.{range_with_len}
use Rattle.std.proofs.lemmas.Bool.{eqb-true}
use Rattle.std.proofs.lemmas.List.{map-append, take_more_set, take_all, get_or-map, append-nil}
use Rattle.std.proofs.lemmas.List.Elements.{filter-append}
use Rattle.std.proofs.lemmas.Option.{none-some}
use Rattle.isdbt_base.specs.declared.kinds.Layer.{Layer}
use Rattle.ts_packet.specs.Packets.{piece, sync_byte}
use Rattle.bts_info.specs.Information.{layer_named}
use Rattle.coder_core.specs.FrameChecks.{information_in, same_layer, bad_sync_slot, layer_slots, layer_count}
use Rattle.coder_core.specs.InputFrames.{packet_in}
use Rattle.coder_core.proofs.Ranges.{range-split, range-more}

-- whether a slot names a layer
abbrev pub names_layer : List ℕ → Layer → ℕ → Bool
names_layer frame x slot = same_layer x (layer_named (information_in frame slot))

-- the packet in a slot
abbrev pub slot_packet : List ℕ → ℕ → List ℕ
slot_packet frame slot = take 188 (piece 204 frame slot)

-- the slots of the first n that name a layer, and their packets
unfoldable pub first_slots : List ℕ → Layer → ℕ → List ℕ
first_slots frame x n = filter (names_layer frame x) (range_with_len 0 n)

unfoldable pub first_packets : List ℕ → Layer → ℕ → List (List ℕ)
first_packets frame x n = map (slot_packet frame) (first_slots frame x n)

pub first_packets-zero : (frame : List ℕ) (x : Layer) (packets : List (List ℕ)) → take 0 packets ≡ first_packets frame x 0
unfolding first_slots first_packets
first_packets-zero frame x packets = refl

pub first_slots-zero : (frame : List ℕ) (x : Layer) → 0 ≡ length (first_slots frame x 0)
unfolding first_slots
first_slots-zero frame x = refl

-- ---- one more slot

slots-more : (frame : List ℕ) (x : Layer) (n : ℕ) (b : Bool) → names_layer frame x n ≡ b → first_slots frame x (n + 1) ≡ first_slots frame x n ++ cond b (n ∷ []) []
unfolding first_slots
slots-more frame x n b e =
    ap (filter (names_layer frame x)) (range-more n) ∙ filter-append (names_layer frame x) (range_with_len 0 n) (n ∷ [])
    ∙ ap (λ t. filter (names_layer frame x) (range_with_len 0 n) ++ cond t (n ∷ []) []) e

-- that names the layer
pub count-more : (frame : List ℕ) (x : Layer) (n : ℕ) → names_layer frame x n ≡ true → length (first_slots frame x (n + 1)) ≡ length (first_slots frame x n) + 1
count-more frame x n e = ap length (slots-more frame x n true e) ∙ length-append (first_slots frame x n) (n ∷ [])

pub packets-more : (frame : List ℕ) (x : Layer) (n next : ℕ) (packets : List (List ℕ)) (p : List ℕ) → names_layer frame x n ≡ true → next < length packets → take next packets ≡ first_packets frame x n
    → p ≡ slot_packet frame n → take (next + 1) (set packets next p) ≡ first_packets frame x (n + 1)
unfolding first_packets
packets-more frame x n next packets p e room is at =
    take_more_set packets next p room ∙ ap (λ xs. xs ++ p ∷ []) is ∙ ap (λ q. first_packets frame x n ++ q ∷ []) at
    ∙ sym (ap (map (slot_packet frame)) (slots-more frame x n true e) ∙ map-append (slot_packet frame) (first_slots frame x n) (n ∷ []))

-- that doesn't name it
pub slots-same : (frame : List ℕ) (x : Layer) (n : ℕ) → names_layer frame x n ≡ false → first_slots frame x n ≡ first_slots frame x (n + 1)
slots-same frame x n e = sym (append-nil (first_slots frame x n)) ∙ sym (slots-more frame x n false e)

pub packets-same : (frame : List ℕ) (x : Layer) (n : ℕ) → names_layer frame x n ≡ false → first_packets frame x n ≡ first_packets frame x (n + 1)
unfolding first_packets
packets-same frame x n e = ap (map (slot_packet frame)) (slots-same frame x n e)

-- ---- all slots

later : (frame : List ℕ) (x : Layer) (n k : ℕ) → length (first_slots frame x n) ≤ length (first_slots frame x (n + k))
unfolding first_slots
later frame x n k =
    let test = names_layer frame x in
    let e = ap (λ xs. length (filter test xs)) (range-split 0 n k) ∙ ap length (filter-append test (range_with_len 0 n) (range_with_len (0 + n) k))
    ∙ length-append (filter test (range_with_len 0 n)) (filter test (range_with_len (0 + n) k)) in
    omega (arith, e)

-- a slot that names the layer has a place
pub has_place : (frame : List ℕ) (x : Layer) (n : ℕ) → n < length frame / 204 → names_layer frame x n ≡ true → length (first_slots frame x n) < layer_count frame x
unfolding first_slots
has_place frame x n h e =
    let m = length frame / 204 in
    let more = later frame x (n + 1) (m - (n + 1)) in
    let one = count-more frame x n e in
    let all : n + 1 + (m - (n + 1)) ≡ m = omega arith in
    let end : length (first_slots frame x (n + 1 + (m - (n + 1)))) ≡ layer_count frame x = ap (λ k. length (first_slots frame x k)) all in
    omega (arith, more, one, end)

pub packets-all : (frame : List ℕ) (x : Layer) (next n : ℕ) (packets : List (List ℕ)) → n ≡ length frame / 204 → layer_count frame x ≡ length packets → next ≡ length (first_slots frame x n)
    → take next packets ≡ first_packets frame x n → (j : ℕ) → j < length packets → get_or packets j [] ≡ packet_in frame x j
unfolding first_slots first_packets packet_in
packets-all frame x next n packets end count so_many is j h =
    let whole : next ≡ length packets = so_many ∙ ap (λ k. length (first_slots frame x k)) end ∙ count in
    let e : packets ≡ map (slot_packet frame) (layer_slots frame x) =
    sym (take_all next packets (omega (arith, whole))) ∙ is ∙ ap (first_packets frame x) end in
    ap (λ xs. get_or xs j []) e ∙ get_or-map (slot_packet frame) (layer_slots frame x) j 0 [] (omega (arith, count, h))

-- ---- sync bytes

cond_none : (b : Bool) (x : ℕ) (o : Option ℕ) → cond b (Some x) o ≡ None → (b ≡ false) × (o ≡ None)
cond_none true x o h = absurd (none-some x (sym h))
cond_none false x o h = (refl, h)

find-each : (test : ℕ → Bool) (a n : ℕ) → find test (range_with_len a n) ≡ None → (k : ℕ) → k < n → test (a + k) ≡ false
find-each test a zero h k less = absurd (omega arith)
find-each test a (suc n) h zero less =
    ap test (let e : a + 0 ≡ a = omega arith in e) ∙ (cond_none (test a) a (find test (range_with_len (a + 1) n)) h).0
find-each test a (suc n) h (suc k) less =
    ap test (let e : a + suc k ≡ a + 1 + k = omega arith in e) ∙ find-each test (a + 1) n (cond_none (test a) a (find test (range_with_len (a + 1) n)) h).1 k (omega arith)

not_false : (t : Bool) → not t ≡ false → t ≡ true
not_false true h = refl
not_false false h = sym h

pub synced : (frame : List ℕ) → bad_sync_slot frame ≡ None → (slot : ℕ) → slot < length frame / 204 → slice_index (piece 204 frame slot) 0 ≡ sync_byte
synced frame h slot less =
    eqb-true (slice_index (piece 204 frame slot) 0) sync_byte (not_false _
    (ap (λ k. not (slice_index (piece 204 frame k) 0 == sync_byte)) (let e : slot ≡ 0 + slot = omega arith in e)
    ∙ find-each (λ k. not (slice_index (piece 204 frame k) 0 == sync_byte)) 0 (length frame / 204) h slot less))
