-- Which frames of broadcast packets are not coded, and why.
use Rattle.std.specs.Prelude.{◌≡◌, ℕ, ◌+◌, ◌/◌, Bool, true, false, not, ◌==◌, Option, Some, None, List, [], ◌∷◌, find, length, slice_index, take, drop, filter, is_none, if◌then◌else◌}
use Rattle.std.specs.List.{range_with_len}
use Rattle.std.specs.Option.{option_map}
use Rattle.isdbt_base.specs.declared.kinds.Mode.{Mode}
use Rattle.isdbt_base.specs.declared.kinds.Layer.{Layer}
use Rattle.isdbt_base.specs.declared.kinds.Layer.TheVariants.{A, B, C}
use Rattle.isdbt_base.specs.Parameters.{Parameters, layer_of, number_of}
use Rattle.isdbt_base.specs.Numbers.{packets_per_frame}
use Rattle.isdbt_base.specs.Outcome.{first_some}
use Rattle.ts_packet.specs.Packets.{piece, sync_byte}
use Rattle.bts_info.specs.Information.{has_head, layer_named}
use Rattle.edge_io.specs.declared.shelf.Seat.TheVariants as seats
use Rattle.coder_core.specs.declared.fault.CodeFault.{CodeFault}
use Rattle.coder_core.specs.declared.fault.CodeFault.TheVariants.{BadSync, HeadMisplaced, WrongCount}

-- the information of the packet in a slot
abbrev pub information_in : List ℕ → ℕ → List ℕ
information_in frame slot = take 8 (drop 188 (piece 204 frame slot))

-- the slots of a frame
abbrev pub slots_of : List ℕ → List ℕ
slots_of frame = range_with_len 0 (length frame / 204)

-- whether two layers are the same
abbrev pub same_layer : Layer → Option Layer → Bool
same_layer A (Some A) = true
same_layer B (Some B) = true
same_layer C (Some C) = true
same_layer x y = false

-- the first slot whose packet doesn't begin with the sync byte
abbrev pub bad_sync_slot : List ℕ → Option ℕ
bad_sync_slot frame = find (λ slot. not (slice_index (piece 204 frame slot) 0 == sync_byte)) (slots_of frame)

-- the head flag is clear in slot 0, or set in another
abbrev pub is_misplaced : List ℕ → ℕ → Bool
is_misplaced frame slot = if slot == 0 then not (has_head (information_in frame slot)) else has_head (information_in frame slot)

-- the first slot with such a flag
abbrev pub misplaced_slot : List ℕ → Option ℕ
misplaced_slot frame = find (is_misplaced frame) (slots_of frame)

-- the slots that name a layer, in order
abbrev pub layer_slots : List ℕ → Layer → List ℕ
layer_slots frame x = filter (λ slot. same_layer x (layer_named (information_in frame slot))) (slots_of frame)

abbrev pub layer_count : List ℕ → Layer → ℕ
layer_count frame x = length (layer_slots frame x)

-- the slots that name no layer
abbrev pub unused_slots : List ℕ → List ℕ
unused_slots frame = filter (λ slot. is_none (layer_named (information_in frame slot))) (slots_of frame)

-- the causes, of a frame with a number, before whose first packet so many packets stand
abbrev pub bad_sync : ℕ → List ℕ → Option CodeFault
bad_sync first frame = option_map (λ slot. BadSync seats.In (first + slot)) (bad_sync_slot frame)

abbrev pub misplaced : ℕ → List ℕ → Option CodeFault
misplaced number frame = option_map (λ slot. HeadMisplaced number slot) (misplaced_slot frame)

-- the first of these two: the frame is no frame of broadcast packets, whatever it carries
abbrev pub framing_refusal : ℕ → ℕ → List ℕ → Option CodeFault
framing_refusal number first frame = first_some (bad_sync first frame ∷ misplaced number frame ∷ [])

abbrev pub wrong_count : Parameters → Mode → ℕ → List ℕ → Layer → Option CodeFault
wrong_count s mode number frame x =
    if layer_count frame x == number_of (packets_per_frame mode) (layer_of s x) then None else Some (WrongCount number x (layer_count frame x))

-- the first of all, in this order
unfoldable pub refusal : Parameters → Mode → ℕ → ℕ → List ℕ → Option CodeFault
refusal s mode number first frame = first_some (bad_sync first frame ∷ misplaced number frame
    ∷ wrong_count s mode number frame A ∷ wrong_count s mode number frame B ∷ wrong_count s mode number frame C ∷ [])

-- a frame that can be coded: each packet begins with the sync byte, slot 0 alone bears the head flag, and each layer has its count of packets
pub record CanCode (s : Parameters) (mode : Mode) (frame : List ℕ) : Type 0 where
  pub sync : bad_sync_slot frame ≡ None
  pub head : misplaced_slot frame ≡ None
  pub counts : (x : Layer) → layer_count frame x ≡ number_of (packets_per_frame mode) (layer_of s x)
