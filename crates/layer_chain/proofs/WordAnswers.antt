-- The outer words of the units of a frame, and the answers that are found for them.
use Rattle.std.proofs.Common.{◌≡◌, ℕ, ◌+◌, ◌-◌, ◌*◌, ◌≤◌, ◌<◌, refl, ap, arith, sym, ◌∙◌, List, [], ◌∷◌, ◌++◌, length, take, drop, get_or, add-one}
use Rattle.std.specs.Prelude.{slice_index, bit_xor}
use Rattle.std.proofs.Math.Nat.{mod-eq_of_lt}
use Rattle.std.proofs.lemmas.List.{get_or-take, get_or-drop, get_or-append_right, length-take-le}
use Rattle.std.proofs.lemmas.List.FromFn.{fill_by_all}
use Rattle.energy_prbs.specs.Sequence.{sequence_byte}
use Rattle.layer_chain.specs.SentBytes.{dispersal_byte}
use Rattle.layer_chain.specs.UnitWords.{word_in}

-- byte a of unit j of a frame, among the bytes of all its units
pub unit-byte : (units : List ℕ) (at a : ℕ) → a < 204 → get_or (take (at + 204 - at) (drop at units)) a 0 ≡ get_or units (at + a) 0
unit-byte units at a h = get_or-take (at + 204 - at) (drop at units) a 0 (omega arith) ∙ get_or-drop at units a 0

-- a byte that is put behind the first
pub put-byte : (old new part : List ℕ) (end a : ℕ) → end ≡ 1 + length part → 1 ≤ length old → take end new ≡ take 1 old ++ part → a < length part → get_or new (a + 1) 0 ≡ get_or part a 0
put-byte old new part end a e some front h =
    sym (get_or-take end new (a + 1) 0 (omega arith)) ∙ ap (λ xs. get_or xs (a + 1) 0) front
    ∙ get_or-append_right (take 1 old) part 1 (a + 1) 0 (length-take-le 1 old some) (omega arith)
    ∙ ap (λ k. get_or part k 0) (let k : a + 1 - 1 ≡ a = omega arith in k)

-- a word with the sync byte and the bytes without dispersal is the outer word
pub word-is : (t j : ℕ) (units word : List ℕ) → j < t → length word ≡ 204 → slice_index word 0 ≡ 0x47
    → ((a : ℕ) → a < 203 → slice_index word (a + 1) ≡ bit_xor (slice_index units (204 * j + a)) (sequence_byte (204 * j + a)))
    → word ≡ word_in t units j
unfolding word_in
word-is t j units [] h size sync bytes = absurd (omega (arith, size))
word-is t j units (x ∷ xs) h size sync bytes =
    let each : (a : ℕ) → a < 203 → get_or xs a 0 ≡ bit_xor (slice_index units (204 * j + a)) (dispersal_byte t (204 * j + a)) =
    λ a k. (let at = bytes a k in let own : get_or (x ∷ xs) (a + 1) 0 ≡ get_or xs a 0 = rw add-one refl in
    sym own ∙ at ∙ ap (λ n. bit_xor (slice_index units (204 * j + a)) (sequence_byte n)) (sym (mod-eq_of_lt (omega arith)))) in
    ap (λ b. b ∷ xs) sync ∙ ap (λ bs. 0x47 ∷ bs) (fill_by_all (λ a. bit_xor (slice_index units (204 * j + a)) (dispersal_byte t (204 * j + a))) xs 203 0 (omega (arith, size)) each)
