-- What the receiver of an epoch keeps of the symbols that it has seen.
use Rattle.std.specs.Prelude.{◌≡◌, ℕ, ◌+◌, ◌*◌, ◌<◌, Some, List, slice_get}
use Rattle.isdbt_base.specs.declared.kinds.Mode.{Mode}
use Rattle.isdbt_base.specs.declared.kinds.Guard.{Guard}
use Rattle.isdbt_base.specs.declared.kinds.Layer.TheVariants.{A, B, C}
use Rattle.isdbt_base.specs.Numbers.{carriers, first_segment}
use Rattle.isdbt_base.specs.Parameters.{Parameters}
use Rattle.cell_map.specs.declared.cell.Cell.{Cell}
use Rattle.seg_receiver.specs.CellStream.{FrameCells}
use Rattle.seg_receiver.specs.DecoderPart.{PartStandsFor}
use Rattle.seg_receiver.specs.declared.receiver.Receiver.{Receiver}

-- what the epoch sends
abbrev pub mode_of : Receiver → Mode
mode_of r = r.mode

abbrev pub guard_of : Receiver → Guard
guard_of r = r.guard

abbrev pub setting_of : Receiver → Parameters
setting_of r = r.setting

-- the symbols since the last frame was given out
abbrev pub symbols_of : Receiver → ℕ
symbols_of r = r.symbols

-- cells of the first so many segments of a symbol, by segment and then by carrier, are those of symbol k of frame f
pub record IsSymbolOf (segments : ℕ) (mode : Mode) (cell : FrameCells) (f k : ℕ) (received : List Cell) : Type 0 where
  pub each : (segment carrier : ℕ) → segment < segments → carrier < carriers mode → slice_get received (segment * carriers mode + carrier) ≡ Some (cell f k segment carrier)

-- the decoder of each used layer is as it is after the first h frames of the epoch that begins at a frame, and the symbols of the next that were seen
pub record StandsFor (r : Receiver) (cell : FrameCells) (start h : ℕ) : Type 0 where
  pub a_stands : PartStandsFor r.a cell start (first_segment r.setting A) h
  pub b_stands : PartStandsFor r.b cell start (first_segment r.setting B) h
  pub c_stands : PartStandsFor r.c cell start (first_segment r.setting C) h
