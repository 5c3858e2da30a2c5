-- Delay adjustment and byte interleaving (ARIB STD-B31 chapter 3: twelve paths of 17 bytes).
use Rattle.std.specs.Prelude.{ℕ, ◌+◌, ◌*◌, ◌-◌, ◌%◌, if◌then◌else◌, nat_le}

-- the delay adjustment of a layer of t packets a frame, in bytes
abbrev pub byte_adjustment : ℕ → ℕ
byte_adjustment t = 204 * (t - 11)

-- by how many bytes those of a path are put off, of 12 paths, in a layer of t packets a frame
abbrev pub byte_shift : ℕ → ℕ → ℕ
byte_shift t path = byte_adjustment t + 204 * (path % 12)

-- where byte n of a layer goes
abbrev pub byte_place : ℕ → ℕ → ℕ
byte_place t n = n + byte_shift t n

-- the byte at place q, and 0 where no byte goes
unfoldable pub interleaved : (ℕ → ℕ) → ℕ → ℕ → ℕ
interleaved sent t q = if nat_le (byte_shift t q) q then sent (q - byte_shift t q) else 0
