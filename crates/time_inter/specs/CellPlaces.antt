-- Segments and time interleaving (ARIB STD-B31 chapter 3).
use Rattle.std.specs.Prelude.{ℕ, ◌+◌, ◌*◌, ◌/◌, ◌%◌}
use Rattle.isdbt_base.specs.declared.kinds.Mode.{Mode}
use Rattle.isdbt_base.specs.declared.kinds.Layer.{Layer}
use Rattle.isdbt_base.specs.LayerParameters.{LayerParameters}
use Rattle.isdbt_base.specs.Parameters.{Parameters}
use Rattle.isdbt_base.specs.Numbers.{carriers, layer_cells, time_depth, time_adjust, first_segment}
use Rattle.time_inter.specs.declared.cell_place.CellPlace.{CellPlace}

-- by how many times the length carrier i of a segment is delayed
abbrev pub carrier_delay : ℕ → ℕ
carrier_delay i = 5 * i % 96

-- the segment and the carrier of place w of a layer's symbol: segment after segment, and in it carrier after carrier
abbrev pub place_of : Parameters → Layer → Mode → ℕ → CellPlace
place_of s layer mode w = record { segment = first_segment s layer + w / carriers mode; carrier = w % carriers mode }

-- by how many symbols the cell at place w of a layer's symbol is put off
abbrev pub symbol_delay : Mode → LayerParameters → ℕ → ℕ
symbol_delay mode l w = time_adjust mode l.depth + time_depth mode l.depth * carrier_delay (w % carriers mode)

-- the symbol of the epoch in which layer cell e is sent
abbrev pub symbol_of_cell : Mode → LayerParameters → ℕ → ℕ
symbol_of_cell mode l e = e / layer_cells mode l + symbol_delay mode l (e % layer_cells mode l)
