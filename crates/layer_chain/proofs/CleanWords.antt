-- Received without errors, each outer word is the codeword of its packet.
use Rattle.std.proofs.Common.{◌≡◌, ℕ, ◌+◌, ◌-◌, ◌*◌, ◌/◌, ◌%◌, ◌<◌, ◌≤◌, Bool, true, false, refl, ap, arith, sym, ◌∙◌, subst, List, [], ◌∷◌, ◌++◌, length, map, add-one}
use Rattle.std.specs.Prelude.{slice_index, bit_xor, ◌==◌}
use Rattle.std.specs.List.{range_with_len}
use Rattle.std.specs.Int.{bit_at, from_bool}
use Rattle.std.specs.Int.Bits.{xor_assoc, xor_self, xor_zero_r}
use Rattle.std.proofs.lemmas.Nat.{xor_of_8}
use Rattle.std.proofs.lemmas.Bool.{eqb-true, ne_eqb}
use Rattle.std.proofs.lemmas.List.FromFn.{fill_by_all}
use Rattle.isdbt_base.specs.declared.kinds.Mode.{Mode}
use Rattle.isdbt_base.specs.LayerParameters.{LayerParameters}
use Rattle.isdbt_base.specs.Numbers.{packets_per_frame}
use Rattle.ts_packet.specs.Packets.{IsPacket}
use Rattle.gf_rs.specs.Codewords.{codeword_of, parity_of, IsBytes, IsCodeword}
use Rattle.gf_rs.proofs.FieldTests.{each_below, at_each}
use Rattle.gf_rs.proofs.Systematic.{codeword-is, codeword-length}
use Rattle.energy_prbs.specs.Sequence.{byte_of_bits, sequence_byte, sequence_bit}
use Rattle.byte_inter.specs.BytePlaces.{interleaved, byte_place}
use Rattle.byte_inter.proofs.PlaceLaws.{interleaved-place}
use Rattle.conv_punct.specs.CodedBits.{bit_of, coded_bit}
use Rattle.viterbi_hard.specs.LeastPath.{decided_bit}
use Rattle.viterbi_hard.proofs.DecidedLaws.{clean-decided}
use Rattle.layer_chain.specs.SentBytes.{sent_byte, dispersal_byte}
use Rattle.layer_chain.specs.CodedBits.{layer_byte, layer_coded_bit}
use Rattle.layer_chain.specs.LayerCells.{read_bit, cell_bits_at}
use Rattle.layer_chain.specs.OuterWords.{outer_word, unit_word}
use Rattle.layer_chain.proofs.ReadBack.{read_bit-cell_bits_at}

-- the bits of a byte spell it
bits_test : each_below 256 (λ w. byte_of_bits (λ i. bit_at w (7 - i) == 1) == w) ≡ true
bits_test = refl

byte-bits : (w : ℕ) → w < 256 → byte_of_bits (λ i. bit_at w (7 - i) == 1) ≡ w
byte-bits w h = eqb-true _ _ (at_each 256 (λ w. byte_of_bits (λ i. bit_at w (7 - i) == 1) == w) w bits_test h)

-- eight bits of bytes are those of one byte
bit_of-in : (bytes : ℕ → ℕ) (q i : ℕ) → i < 8 → bit_of bytes (8 * q + i) ≡ (bit_at (bytes q) (7 - i) == 1)
bit_of-in bytes q i h =
    let d : (8 * q + i) / 8 ≡ q = omega arith in
    let m : (8 * q + i) % 8 ≡ i = omega arith in
    rw (d, m) refl

-- equal bits give equal bytes
pub same_byte : (f g : ℕ → Bool) → ((i : ℕ) → i < 8 → f i ≡ g i) → byte_of_bits f ≡ byte_of_bits g
same_byte f g h =
    rw (h 0 (omega arith), h 1 (omega arith), h 2 (omega arith), h 3 (omega arith), h 4 (omega arith), h 5 (omega arith), h 6 (omega arith), h 7 (omega arith)) refl

byte_of-bits : (bytes : ℕ → ℕ) (q : ℕ) → bytes q < 256 → byte_of_bits (λ i. bit_of bytes (8 * q + i)) ≡ bytes q
byte_of-bits bytes q h = same_byte (λ i. bit_of bytes (8 * q + i)) (λ i. bit_at (bytes q) (7 - i) == 1) (bit_of-in bytes q) ∙ byte-bits (bytes q) h

from_bool-le : (b : Bool) → from_bool b ≤ 1
from_bool-le true = omega arith
from_bool-le false = omega arith

byte_of_bits-lt : (b : ℕ → Bool) → byte_of_bits b < 256
byte_of_bits-lt b = omega (arith, from_bool-le (b 0), from_bool-le (b 1), from_bool-le (b 2), from_bool-le (b 3), from_bool-le (b 4), from_bool-le (b 5), from_bool-le (b 6), from_bool-le (b 7))

sequence_byte-lt : (n : ℕ) → sequence_byte n < 256
unfolding sequence_byte
sequence_byte-lt n = byte_of_bits-lt (λ i. sequence_bit (8 * n + i))

-- a byte of a unit before its last
sent_byte-is : (t : ℕ) (packet : ℕ → List ℕ) (m a : ℕ) → a < 203 → sent_byte t packet (204 * m + a) ≡ bit_xor (slice_index (codeword_of 16 (packet m)) (a + 1)) (dispersal_byte t (204 * m + a))
unfolding sent_byte
sent_byte-is t packet m a h =
    let r : (204 * m + a) % 204 ≡ a = omega arith in
    let d : (204 * m + a) / 204 ≡ m = omega arith in
    let no : (a == 203) ≡ false = ne_eqb a 203 (λ e. omega (arith, e)) in
    rw (r, d, no) refl

sent_byte-lt : (t : ℕ) (packet : ℕ → List ℕ) (m a : ℕ) → a < 203 → slice_index (codeword_of 16 (packet m)) (a + 1) < 256 → sent_byte t packet (204 * m + a) < 256
sent_byte-lt t packet m a h k = rw (sent_byte-is t packet m a h) (xor_of_8 _ _ k (sequence_byte-lt ((204 * m + a) % (204 * t))))

-- the decided bits of clean cells are the bits of the interleaved bytes
pub decided-clean : (mode : Mode) (l : LayerParameters) (packet : ℕ → List ℕ) (b : ℕ) →
    decided_bit l.rate (read_bit mode l (cell_bits_at mode l (layer_coded_bit mode l packet))) b ≡ bit_of (layer_byte (packets_per_frame mode l) packet) b
unfolding layer_coded_bit
decided-clean mode l packet b =
    let u = bit_of (layer_byte (packets_per_frame mode l) packet) in
    clean-decided l.rate u (read_bit mode l (cell_bits_at mode l (coded_bit l.rate u))) (b + 128) (λ c k. read_bit-cell_bits_at mode l (coded_bit l.rate u) c) b (omega arith)

-- a byte of an outer word without errors
clean_byte : (mode : Mode) (l : LayerParameters) (packet : ℕ → List ℕ) (m a : ℕ) → a < 203 → slice_index (codeword_of 16 (packet m)) (a + 1) < 256 →
    bit_xor (byte_of_bits (λ i. decided_bit l.rate (read_bit mode l (cell_bits_at mode l (layer_coded_bit mode l packet))) (8 * byte_place (packets_per_frame mode l) (204 * m + a) + i))) (dispersal_byte (packets_per_frame mode l) (204 * m + a))
    ≡ slice_index (codeword_of 16 (packet m)) (a + 1)
clean_byte mode l packet m a h k =
    let t = packets_per_frame mode l in
    let n = 204 * m + a in
    let q = byte_place t n in
    let w = interleaved (sent_byte t packet) t in
    let c = slice_index (codeword_of 16 (packet m)) (a + 1) in
    let z = dispersal_byte t n in
    let at : w q ≡ sent_byte t packet n = interleaved-place (sent_byte t packet) t n in
    let small : w q < 256 = (let P : ℕ → Type 0 = λ v. v < 256 in subst P (sym at) (sent_byte-lt t packet m a h k)) in
    ap (λ b. bit_xor b z) (same_byte _ _ (λ i _. decided-clean mode l packet (8 * q + i)) ∙ byte_of-bits w q small ∙ at ∙ sent_byte-is t packet m a h)
    ∙ xor_assoc c z z ∙ ap (λ y. bit_xor c y) (xor_self z) ∙ xor_zero_r c

-- a list whose first byte is the sync byte, from its other bytes
assembled : (cw : List ℕ) (byte : ℕ → ℕ) → length cw ≡ 204 → slice_index cw 0 ≡ 0x47 → ((a : ℕ) → a < 203 → byte a ≡ slice_index cw (a + 1)) → 0x47 ∷ map byte (range_with_len 0 203) ≡ cw
assembled [] byte e f h = absurd (omega arith)
assembled (x ∷ xs) byte e f h =
    let same : xs ≡ map byte (range_with_len 0 203) = fill_by_all byte xs 203 0 (omega arith) (λ k lt. sym (rw add-one at (h k lt))) in
    cc

all-lt : (cw : List ℕ) (roots : ℕ) → IsCodeword roots cw → (a : ℕ) → a < length cw → slice_index cw a < 256
all-lt cw roots c a h = c.bytes a 0 h

first-append : (xs ys : List ℕ) → length xs ≡ 188 → slice_index (xs ++ ys) 0 ≡ slice_index xs 0
first-append [] ys e = absurd (omega arith)
first-append (x ∷ xs) ys e = refl

-- received without errors, the outer word of unit m is the codeword of packet m
pub clean_word : (mode : Mode) (l : LayerParameters) (packet : ℕ → List ℕ) (m : ℕ) → IsPacket (packet m) → IsBytes (packet m) →
    unit_word mode l (cell_bits_at mode l (layer_coded_bit mode l packet)) m ≡ codeword_of 16 (packet m)
unfolding outer_word
clean_word mode l packet m is_packet bytes =
    let cw = codeword_of 16 (packet m) in
    let size : length cw ≡ 204 = codeword-length 16 (packet m) (omega arith) ∙ (let f = is_packet.size in omega (arith, f)) in
    let word = codeword-is 16 (packet m) (omega arith) bytes in
    assembled cw _ size (first-append (packet m) (parity_of 16 (packet m)) is_packet.size ∙ is_packet.sync)
    (λ a h. clean_byte mode l packet m a h (all-lt cw 16 word (a + 1) (omega (arith, size))))
