-- The units of a frame, byte by byte.
use Rattle.std.proofs.Common.{◌≡◌, ℕ, ◌+◌, ◌-◌, ◌*◌, ◌/◌, ◌%◌, ◌<◌, ◌≤◌, List, ◌++◌, length, take, get_or, inl, inr, refl, sym, ap, ◌∙◌, arith}
use Rattle.std.specs.Prelude.{bit_xor, slice_index}
use Rattle.std.proofs.Math.Nat.{mod-eq_of_lt, mul-add-mod_self_left}
use Rattle.std.proofs.lemmas.Bool.{cases_lt}
use Rattle.std.proofs.lemmas.Bool.Decides.{eqb_tells}
use Rattle.std.proofs.lemmas.List.{get_or-take, get_or_append_left, get_or-append_right, length-take-le}
use Rattle.gf_rs.specs.Codewords.{codeword_of}
use Rattle.energy_prbs.specs.Sequence.{sequence_byte}
use Rattle.layer_chain.specs.SentBytes.{sent_byte}

-- byte a of the unit of packet j of a frame
unit_place : (t j a : ℕ) → j < t → a < 204 → (204 * j + a) % (204 * t) ≡ 204 * j + a
unit_place t j a h k = mod-eq_of_lt (omega arith)

pub sent_byte-unit : (t : ℕ) (packet : ℕ → List ℕ) (j a : ℕ) → j < t → a < 203 → sent_byte t packet (204 * j + a) ≡ bit_xor (slice_index (codeword_of 16 (packet j)) (a + 1)) (sequence_byte (204 * j + a))
unfolding sent_byte
sent_byte-unit t packet j a h k =
    let r : (204 * j + a) % 204 ≡ a = omega arith in
    let q : (204 * j + a) / 204 ≡ j = omega arith in
    elim (eqb_tells a 203) [
      | inl last ↦ absurd (omega (arith, last.1))
      | inr other ↦ rw (r, q, other.0, unit_place t j a h (omega arith)) refl
    ]

pub sent_byte-sync : (t : ℕ) (packet : ℕ → List ℕ) (j : ℕ) → sent_byte t packet (204 * j + 203) ≡ 0x47
unfolding sent_byte
sent_byte-sync t packet j = let r : (204 * j + 203) % 204 ≡ 203 = omega arith in rw r refl

-- the unit of packet j of a frame, by its bytes
pub sent_byte-at : (t : ℕ) (packet : ℕ → List ℕ) (j : ℕ) (unit word : List ℕ) → j < t → packet j ≡ word
    → ((a : ℕ) → a < 203 → slice_index unit a ≡ bit_xor (slice_index (codeword_of 16 word) (a + 1)) (sequence_byte (204 * j + a))) → slice_index unit 203 ≡ 0x47
    → (a : ℕ) → a < 204 → get_or unit a 0 ≡ sent_byte t packet (204 * j + a)
sent_byte-at t packet j unit word h is bytes sync a k =
    elim (cases_lt a 203) [
      | inl m ↦ bytes a m ∙ ap (λ p. bit_xor (slice_index (codeword_of 16 p) (a + 1)) (sequence_byte (204 * j + a))) (sym is) ∙ sym (sent_byte-unit t packet j a h m)
      | inr m ↦ (let e : a ≡ 203 = omega arith in rw e (sync ∙ sym (sent_byte-sync t packet j)))
    ]

-- a frame's units are those of the frame's packets
pub sent_byte-frame : (t : ℕ) (packet frame : ℕ → List ℕ) (g n : ℕ) → n < 204 * t → ((j : ℕ) → j < t → packet (t * g + j) ≡ frame j) → sent_byte t packet (204 * t * g + n) ≡ sent_byte t frame n
unfolding sent_byte
sent_byte-frame t packet frame g n h same =
    let r : (204 * t * g + n) % 204 ≡ n % 204 = omega arith in
    let q : (204 * t * g + n) / 204 ≡ t * g + n / 204 = omega arith in
    let d : (204 * t * g + n) % (204 * t) ≡ n % (204 * t) = mul-add-mod_self_left (204 * t) g n in
    rw (r, q, d, same (n / 204) (omega arith)) refl

-- bytes that are put behind those that stand at their places
pub put_goes_on : (s : ℕ → ℕ) (old new part : List ℕ) (at end : ℕ) → end ≡ at + length part → at ≤ length old → take end new ≡ take at old ++ part
    → ((n : ℕ) → n < at → get_or old n 0 ≡ s n) → ((a : ℕ) → a < length part → get_or part a 0 ≡ s (at + a)) → (n : ℕ) → n < end → get_or new n 0 ≡ s n
put_goes_on s old new part at end e room front before here n h =
    sym (get_or-take end new n 0 h) ∙ ap (λ xs. get_or xs n 0) front
    ∙ elim (cases_lt n at) [
      | inl k ↦ get_or_append_left (take at old) part 0 n (rw (length-take-le at old room) k) ∙ get_or-take at old n 0 k ∙ before n k
      | inr k ↦ get_or-append_right (take at old) part at n 0 (length-take-le at old room) k ∙ here (n - at) (omega arith) ∙ ap s (omega arith)
    ]
