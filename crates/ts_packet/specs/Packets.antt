-- Transport stream packets (ISO/IEC 13818-1 2.4.3.2).
use Rattle.std.specs.Prelude.{◌≡◌, ℕ, ◌+◌, ◌-◌, ◌*◌, ◌/◌, ◌%◌, List, ◌∷◌, length, slice_index, slice_set, replicate, take, drop, nat_lt, if◌then◌else◌}

-- the sync byte
abbrev pub sync_byte : ℕ
sync_byte = 0x47

abbrev pub packet_bytes : ℕ
packet_bytes = 188

-- a packet has 188 bytes, the first the sync byte
pub record IsPacket (bytes : List ℕ) : Type 0 where
  pub size : length bytes ≡ packet_bytes
  pub sync : slice_index bytes 0 ≡ sync_byte

-- the packet identifier: the low 13 bits of bytes 1 and 2
abbrev pub pid_of : List ℕ → ℕ
pid_of p = (256 * slice_index p 1 + slice_index p 2) % 8192

-- the packet with its transport error indicator set, the top bit of byte 1
abbrev pub marked : List ℕ → List ℕ
marked p = slice_set p 1 (128 + slice_index p 1 % 128)

-- the null packet (2.4.3.3)
unfoldable pub null_packet : List ℕ
null_packet = 0x47 ∷ 0x1F ∷ 0xFF ∷ 0x10 ∷ replicate 184 0xFF

-- piece i of the bytes when they are cut after each so many
abbrev pub piece : ℕ → List ℕ → ℕ → List ℕ
piece size bytes i = take size (drop (size * i) bytes)

-- the count of the pieces, the last of which may be shorter
abbrev pub piece_count : ℕ → List ℕ → ℕ
piece_count size bytes = (length bytes + (size - 1)) / size

-- piece i of the bytes cut after each 188 where there is one, and else the null packet
abbrev pub piece_or_null : List ℕ → ℕ → List ℕ
piece_or_null bytes i = if nat_lt i (piece_count packet_bytes bytes) then piece packet_bytes bytes i else null_packet
