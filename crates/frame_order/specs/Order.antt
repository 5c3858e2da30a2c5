-- The order of a frame: at which clock each packet of a frame is complete at the receiver, and its slot.
use Rattle.std.specs.Prelude.{ℕ, ◌+◌, ◌-◌, ◌*◌, ◌/◌, ◌%◌, List, ◌++◌, map, find, ◌==◌, Option}
use Rattle.std.specs.List.{range_with_len}
use Rattle.std.specs.Int.{div_ceil}
use Rattle.isdbt_base.specs.declared.kinds.Mode.{Mode}
use Rattle.isdbt_base.specs.declared.kinds.Guard.{Guard}
use Rattle.isdbt_base.specs.declared.kinds.Layer.{Layer}
use Rattle.isdbt_base.specs.declared.kinds.Layer.TheVariants.{A, B, C}
use Rattle.isdbt_base.specs.LayerParameters.{LayerParameters}
use Rattle.isdbt_base.specs.Parameters.{Parameters, layer_of, number_of, sum_before}
use Rattle.isdbt_base.specs.Numbers.{symbol_clocks, slots_per_frame, cell_bits, rate_steps, rate_bits, layer_cells, packets_per_frame}
use Rattle.frame_order.specs.declared.mark.Mark.{Mark}
use Rattle.frame_order.specs.Slots.{slot_for}

-- the layer cell of the frame at which packet j is complete: 1632 bits are a packet with its parity
abbrev pub last_cell : LayerParameters → ℕ → ℕ
last_cell l j = div_ceil ((j + 1) * 1632 * rate_bits l.rate) (cell_bits l.modulation * rate_steps l.rate)

-- the clock of layer cell q, where so many cells of other layers stand before the layer's in each symbol
abbrev pub cell_clock : Mode → Guard → LayerParameters → ℕ → ℕ → ℕ
cell_clock mode guard l before q = symbol_clocks mode guard * ((q - 1) / layer_cells mode l) + before + (q - 1) % layer_cells mode l + 1

-- the clock of packet j of a layer
abbrev pub clock_of : Mode → Guard → Parameters → Mark → ℕ
clock_of mode guard s m = number_of (λ l. cell_clock mode guard l (sum_before (layer_cells mode) s m.layer) (last_cell l m.index)) (layer_of s m.layer)

-- the packets of a layer
abbrev pub layer_marks : Mode → Parameters → Layer → List Mark
layer_marks mode s x = map (λ j. record { layer = x; index = j }) (range_with_len 0 (number_of (packets_per_frame mode) (layer_of s x)))

-- the packets of a frame
abbrev pub all_marks : Mode → Parameters → List Mark
all_marks mode s = layer_marks mode s A ++ layer_marks mode s B ++ layer_marks mode s C

-- the slot of a packet
unfoldable pub slot_of : Mode → Guard → Parameters → Mark → ℕ
slot_of mode guard s m = slot_for (slots_per_frame mode guard) (clock_of mode guard s) (all_marks mode s) m

-- the packet in a slot, if a layer has it
unfoldable pub mark_at : Mode → Guard → Parameters → ℕ → Option Mark
mark_at mode guard s slot = find (λ m. slot_of mode guard s m == slot) (all_marks mode s)
