-- How received packets are compared with input packets.
use Rattle.std.specs.Prelude.{◌≡◌, ℕ, ◌+◌, ◌<◌, Bool, List, [], length, slice_index_or}
use Rattle.std.specs.Str.{bytes_eq}
use Rattle.ts_packet.specs.Packets.{piece}

-- the packets from one on, as they are sent and in an input, of which those are met that equal the received packets
pub record AreCompared (met : ℕ → Bool) (packet : ℕ → List ℕ) (input : List ℕ) (first : ℕ) (received : List (List ℕ)) : Type 0 where
  pub sent : (j : ℕ) → j < length received → piece 188 input (first + j) ≡ packet (first + j)
  pub compared : (j : ℕ) → j < length received → bytes_eq (slice_index_or received j []) (packet (first + j)) ≡ met (first + j)
