-- The bytes of a layer in an epoch as they are sent, before delay adjustment and interleaving.
use Rattle.std.specs.Prelude.{ℕ, ◌+◌, ◌*◌, ◌/◌, ◌%◌, List, slice_index, bit_xor, if◌then◌else◌, ◌==◌}
use Rattle.gf_rs.specs.Codewords.{codeword_of}
use Rattle.energy_prbs.specs.Sequence.{sequence_byte}

-- the byte of the dispersal sequence for byte n of a layer of t packets a frame: it begins anew with each frame
abbrev pub dispersal_byte : ℕ → ℕ → ℕ
dispersal_byte t n = sequence_byte (n % (204 * t))

-- byte n that is sent of the packets: bytes 1 to 203 of each codeword with the dispersal added, and then the sync byte
unfoldable pub sent_byte : ℕ → (ℕ → List ℕ) → ℕ → ℕ
sent_byte t packet n =
    if n % 204 == 203 then 0x47
    else bit_xor (slice_index (codeword_of 16 (packet (n / 204))) (n % 204 + 1)) (dispersal_byte t n)
