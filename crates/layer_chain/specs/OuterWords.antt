-- The receiving side of a layer: outer words, and the packets that are given out for them.
use Rattle.std.specs.Prelude.{ℕ, zero, suc, ◌+◌, ◌-◌, ◌*◌, Bool, Option, Some, None, List, [], ◌∷◌, map, flat_map, take, length, slice_index, bit_xor, if◌then◌else◌, ◌&&◌, ◌==◌, nat_le}
use Rattle.std.specs.List.{range_with_len, list_all, find}
use Rattle.isdbt_base.specs.declared.kinds.Mode.{Mode}
use Rattle.isdbt_base.specs.LayerParameters.{LayerParameters}
use Rattle.isdbt_base.specs.Numbers.{packets_per_frame, layer_delay}
use Rattle.ts_packet.specs.Packets.{marked, null_packet}
use Rattle.gf_rs.specs.Field.{gf_pow}
use Rattle.gf_rs.specs.Codewords.{value_at, differing}
use Rattle.energy_prbs.specs.Sequence.{byte_of_bits}
use Rattle.byte_inter.specs.BytePlaces.{byte_place}
use Rattle.viterbi_hard.specs.LeastPath.{decided_bit}
use Rattle.layer_chain.specs.SentBytes.{dispersal_byte}
use Rattle.layer_chain.specs.LayerCells.{read_bit}

-- the outer word of unit m, from the decided bits: the sync byte, and the bytes at the unit's places without the dispersal
unfoldable pub outer_word : ℕ → (ℕ → Bool) → ℕ → List ℕ
outer_word t decided m = 0x47 ∷ map (λ a. word_byte (204 * m + a)) (range_with_len 0 203)
  where
    word_byte : ℕ → ℕ
    word_byte n = bit_xor (byte_of_bits (λ i. decided (8 * byte_place t n + i))) (dispersal_byte t n)

-- all lists of so many bytes
unfoldable pub byte_lists : ℕ → List (List ℕ)
byte_lists zero = [] ∷ []
byte_lists (suc n) = flat_map (λ b. map (λ bytes. b ∷ bytes) (byte_lists n)) (range_with_len 0 256)

-- whether the polynomial of a list vanishes at λ^0 to λ^15
unfoldable pub vanishes : List ℕ → Bool
vanishes bytes = list_all (λ i. value_at bytes (gf_pow 2 i) == 0) (range_with_len 0 16)

-- the codeword near a word, for sixteen roots, if there is one: of all lists as long the one that vanishes at the roots and
-- differs from the word in at most eight bytes
unfoldable pub near_codeword : List ℕ → Option (List ℕ)
near_codeword word = find (λ c. vanishes c && nat_le (differing word c) 8) (byte_lists (length word))

-- the packet of a codeword that begins with the sync byte, and else the word's first bytes with the transport error indicator set
abbrev pub answer_from : List ℕ → Option (List ℕ) → List ℕ
answer_from word None = marked (take 188 word)
answer_from word (Some c) = if slice_index c 0 == 0x47 then take 188 c else marked (take 188 word)

-- the packet that is given out for an outer word
unfoldable pub outer_answer : List ℕ → List ℕ
outer_answer word = answer_from word (near_codeword word)

-- the outer word of unit m of a layer, from the bits of its cells by epoch symbol and place
abbrev pub unit_word : Mode → LayerParameters → (ℕ → ℕ → ℕ) → ℕ → List ℕ
unit_word mode l cells m = outer_word (packets_per_frame mode l) (decided_bit l.rate (read_bit mode l cells)) m

-- the answer of unit m
unfoldable pub unit_answer : Mode → LayerParameters → (ℕ → ℕ → ℕ) → ℕ → List ℕ
unit_answer mode l cells m = outer_answer (unit_word mode l cells m)

-- packet j of a layer that is given out with frame h of an epoch: the answer of packet j of the frame D frames before, and the
-- null packet where the epoch has no frame so far before
unfoldable pub given_out : Mode → LayerParameters → (ℕ → ℕ → ℕ) → ℕ → ℕ → List ℕ
given_out mode l cells h j =
    if nat_le (layer_delay mode l) h
    then unit_answer mode l cells ((h - layer_delay mode l) * packets_per_frame mode l + j)
    else null_packet
