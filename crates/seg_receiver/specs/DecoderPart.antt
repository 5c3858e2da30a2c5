-- What the decoder of a layer that may be unused keeps, and the packets that it has of a frame.
use Rattle.std.specs.Prelude.{ℕ}
use Rattle.isdbt_base.specs.Parameters.{number_of}
use Rattle.isdbt_base.specs.Numbers.{packets_per_frame, layer_cells}
use Rattle.seg_receiver.specs.CellStream.{FrameCells}
use Rattle.seg_receiver.specs.UsedDecoders.{DecoderStandsFor, ArePacketsOf}
use Rattle.seg_receiver.specs.declared.decoder_part.DecoderPart.{DecoderPart}

-- cells in a symbol, and packets in a frame: none where the layer is unused
abbrev pub cells_of : DecoderPart → ℕ
cells_of p = number_of (layer_cells p.mode) p.layer

abbrev pub packets_of : DecoderPart → ℕ
packets_of p = number_of (packets_per_frame p.mode) p.layer

-- it is as it is after the first h frames of the epoch that begins at a frame, and the symbols of the next that were seen; the layer's cells begin at a segment
abbrev pub PartStandsFor : DecoderPart → FrameCells → ℕ → ℕ → ℕ → Type 0
PartStandsFor p cell start first h = DecoderStandsFor p.mode p.layer p.decoder cell start first h

-- its bytes are the packets that are given out with frame h of that epoch
abbrev pub HasPacketsOf : DecoderPart → FrameCells → ℕ → ℕ → ℕ → Type 0
HasPacketsOf p cell start first h = ArePacketsOf p.mode p.layer cell start first h p.bytes.items
