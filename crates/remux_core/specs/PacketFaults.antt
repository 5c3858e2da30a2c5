-- The first cause to refuse a frame for its packets.
use Rattle.std.specs.Prelude.{◌≡◌, ℕ, ◌+◌, Some, None}
use Rattle.std.specs.declared.option.Option.{Option}
use Rattle.edge_io.specs.declared.shelf.Seat.{Seat}
use Rattle.remux_core.specs.declared.fault.RemuxFault.{RemuxFault}
use Rattle.remux_core.specs.declared.fault.RemuxFault.TheVariants.{BadSync, Truncated}
use Rattle.edge_io.specs.FrameAnswers.{frame_refused}
use Rattle.remux_core.specs.Answers.{remux_kind}
use Rattle.remux_core.specs.declared.packets.Part.{Part}
use Rattle.remux_core.specs.declared.packets.Part.TheVariants.{Good, NoSync, Cut}

-- the input at a seat ends inside a packet of the part
abbrev pub cut_fault : Seat → Part → Option RemuxFault
cut_fault seat Good = None
cut_fault seat (NoSync i) = None
cut_fault seat (Cut over) = Some (Truncated seat over)

-- a packet of the part doesn't begin with the sync byte, where so many packets of the input stand before the part
abbrev pub sync_fault : Seat → ℕ → Part → Option RemuxFault
sync_fault seat first Good = None
sync_fault seat first (NoSync i) = Some (BadSync seat (first + i))
sync_fault seat first (Cut over) = None

-- a frame is refused for its packets
abbrev pub OfPackets : RemuxFault → Type 0
OfPackets fault = remux_kind fault ≡ frame_refused
