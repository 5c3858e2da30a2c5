-- Pieces of whole packets: where there is one, and its length.
use Rattle.std.proofs.Common.{◌≡◌, ℕ, ◌+◌, ◌*◌, ◌%◌, ◌<◌, ◌≤◌, List, length, drop, refl, arith, ap, ◌∙◌, length-drop, inl, inr}
use Rattle.std.proofs.lemmas.Bool.{lt-ltb, le-ltb}
use Rattle.std.proofs.lemmas.Bool.Decides.{leb_tells}
use Rattle.std.proofs.lemmas.List.{length-take-le}
use Rattle.ts_packet.specs.Packets.{null_packet, piece, piece_count, piece_or_null}

pub length-null_packet : length null_packet ≡ 188
unfolding null_packet
length-null_packet = refl

-- where there is a piece
pub piece_or_null-piece : (bytes : List ℕ) (i : ℕ) → i < piece_count 188 bytes → piece_or_null bytes i ≡ piece 188 bytes i
piece_or_null-piece bytes i h = rw (lt-ltb i (piece_count 188 bytes) h) refl

-- past the last piece
pub piece_or_null-null : (bytes : List ℕ) (i : ℕ) → piece_count 188 bytes ≤ i → piece_or_null bytes i ≡ null_packet
piece_or_null-null bytes i h = rw (le-ltb i (piece_count 188 bytes) h) refl

-- of whole packets each piece has 188 bytes
length-piece : (bytes : List ℕ) (i : ℕ) → length bytes % 188 ≡ 0 → i < piece_count 188 bytes → length (piece 188 bytes i) ≡ 188
length-piece bytes i whole h = length-take-le 188 (drop (188 * i) bytes) (let l = length-drop (188 * i) bytes in omega arith)

pub length-piece_or_null : (bytes : List ℕ) (i : ℕ) → length bytes % 188 ≡ 0 → length (piece_or_null bytes i) ≡ 188
length-piece_or_null bytes i whole =
    elim (leb_tells (i + 1) (piece_count 188 bytes)) [
      | inl has ↦ ap length (piece_or_null-piece bytes i (omega (arith, has.1))) ∙ length-piece bytes i whole (omega (arith, has.1))
      | inr hasnt ↦ ap length (piece_or_null-null bytes i (omega (arith, hasnt.1))) ∙ length-null_packet
    ]
