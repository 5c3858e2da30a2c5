-- Which frames the remultiplexer refuses, and why.
use Rattle.std.specs.Prelude.{ℕ, ◌+◌, ◌-◌, ◌%◌, Bool, not, ◌&&◌, ◌==◌, nat_lt, nat_le, Some, None, List, [], ◌∷◌, find, length, slice_index, if◌then◌else◌}
use Rattle.std.specs.declared.option.Option.{Option}
use Rattle.std.specs.List.{range_with_len}
use Rattle.std.specs.Option.{option_map}
use Rattle.isdbt_base.specs.declared.kinds.Layer.{Layer}
use Rattle.isdbt_base.specs.declared.kinds.Layer.TheVariants.{A, B, C}
use Rattle.isdbt_base.specs.Plans.{Schedule}
use Rattle.isdbt_base.specs.Outcome.{first_some}
use Rattle.ts_packet.specs.Packets.{piece, sync_byte}
use Rattle.edge_io.specs.declared.shelf.Seat.{Seat}
use Rattle.edge_io.specs.declared.shelf.Seat.TheVariants as seats
use Rattle.remux_core.specs.declared.fault.RemuxFault.{RemuxFault}
use Rattle.remux_core.specs.declared.fault.RemuxFault.TheVariants.{BadSync, Truncated, TooLong}
use Rattle.remux_core.specs.Multiplex.{filled, placed_before, packet_count, frame_count}

-- the seat of a layer's input
abbrev pub seat_of : Layer → Seat
seat_of A = seats.A
seat_of B = seats.B
seat_of C = seats.C

-- whether a frame places packet i of a layer's input
abbrev pub places : Schedule → (Layer → List ℕ) → Layer → ℕ → ℕ → Bool
places p input x f i = nat_le (placed_before p x f) i && nat_lt i (placed_before p x f + filled p x f) && nat_lt i (packet_count input x)

-- the frame places the unfinished last packet of a layer
abbrev pub truncated_in : Schedule → (Layer → List ℕ) → ℕ → Layer → Option RemuxFault
truncated_in p input f x =
    if not (length (input x) % 188 == 0) && places p input x f (packet_count input x - 1)
    then Some (Truncated (seat_of x) (length (input x) % 188)) else None

-- a packet of a layer's input that a frame places and that doesn't begin with the sync byte
abbrev pub places_bad_sync : Schedule → (Layer → List ℕ) → Layer → ℕ → ℕ → Bool
places_bad_sync p input x f i = places p input x f i && not (slice_index (piece 188 (input x) i) 0 == sync_byte)

-- the first such packet
abbrev pub bad_sync_in : Schedule → (Layer → List ℕ) → ℕ → Layer → Option RemuxFault
bad_sync_in p input f x = option_map (λ i. BadSync (seat_of x) i) (find (places_bad_sync p input x f) (range_with_len (placed_before p x f) (filled p x f)))

-- whether a frame is there
abbrev pub is_there : Schedule → (Layer → List ℕ) → ℕ → Bool
is_there p input f = nat_lt f (frame_count p (packet_count input))

-- the frame at the limit is there
abbrev pub too_long_at : Schedule → (Layer → List ℕ) → ℕ → ℕ → Option RemuxFault
too_long_at p input limit f = if (f == limit) && is_there p input f then Some TooLong else None

-- why frame f is refused, with a limit on frames: the first cause in this order
unfoldable pub refusal : Schedule → (Layer → List ℕ) → ℕ → ℕ → Option RemuxFault
refusal p input limit f = first_some (too_long_at p input limit f
    ∷ truncated_in p input f A ∷ truncated_in p input f B ∷ truncated_in p input f C
    ∷ bad_sync_in p input f A ∷ bad_sync_in p input f B ∷ bad_sync_in p input f C ∷ [])
