-- What is kept of the bits that were read of a layer.
use Rattle.std.proofs.Common.{◌≡◌, ℕ, ◌+◌, ◌-◌, ◌*◌, ◌/◌, ◌≤◌, ◌<◌, Bool, false, List, ◌++◌, length, take, drop, get_or, ap, arith, ◌∙◌, inl, inr, length-append}
use Rattle.std.specs.Prelude.{min}
use Rattle.std.proofs.lemmas.List.{get_or-take, get_or-drop, get_or_append_left, get_or-append_right, length-take-le}
use Rattle.std.proofs.lemmas.Bool.{cases_lt}
use Rattle.isdbt_base.specs.declared.kinds.Rate.{Rate}
use Rattle.energy_prbs.specs.Sequence.{byte_of_bits}
use Rattle.viterbi_hard.specs.LeastPath.{decided_bit}
use Rattle.layer_chain.specs.DecidedBytes.{decided_byte}
use Rattle.layer_chain.proofs.CleanWords.{same_byte}

-- eight bits of a list
pub cut-byte : (bits : List Bool) (at : ℕ) → byte_of_bits (λ i. get_or (take (at + 8 - at) (drop at bits)) i false) ≡ byte_of_bits (λ i. get_or bits (at + i) false)
cut-byte bits at = same_byte (λ i. get_or (take (at + 8 - at) (drop at bits)) i false) (λ i. get_or bits (at + i) false)
    (λ i h. get_or-take (at + 8 - at) (drop at bits) i false (omega arith) ∙ get_or-drop at bits i false)

-- a list whose part from a place on was lent and written: what stands before it and what was put there
pub lent : {X : Type 0} (d : X) (f : ℕ → X) (len at count : ℕ) (now new rest old : List X) → at ≤ length now → count ≤ length new → at + count ≤ len
    → ((i : ℕ) → i < at → get_or now i d ≡ f i) → ((i : ℕ) → i < count → get_or new i d ≡ f (at + i))
    → (i : ℕ) → i < at + count → get_or (take len ((take at now ++ (new ++ rest)) ++ old)) i d ≡ f i
lent d f len at count now new rest old in_now in_new room before here i h =
    let front : length (take at now) ≡ at = length-take-le at now in_now in
    let whole : length (take at now ++ (new ++ rest)) ≡ at + (length new + length rest) = length-append (take at now) (new ++ rest) ∙ (let e = length-append new rest in omega (arith, e, front)) in
    get_or-take len ((take at now ++ (new ++ rest)) ++ old) i d (omega arith)
    ∙ get_or_append_left (take at now ++ (new ++ rest)) old d i (omega (arith, whole))
    ∙ elim (cases_lt i at) [
      | inl m ↦ get_or_append_left (take at now) (new ++ rest) d i (omega (arith, front)) ∙ get_or-take at now i d m ∙ before i m
      | inr m ↦ get_or-append_right (take at now) (new ++ rest) at i d front m ∙ get_or_append_left new rest d (i - at) (omega arith) ∙ here (i - at) (omega arith) ∙ ap f (omega arith)
    ]

-- a byte that is packed of bits that are known
pub packed-byte : (rate : Rate) (read : ℕ → Bool) (bits : List Bool) (from n k : ℕ) → k < n → ((i : ℕ) → i < 8 * n → get_or bits i false ≡ decided_bit rate read (8 * from + i))
    → byte_of_bits (λ i. get_or (take (8 * n) bits) (8 * k + i) false) ≡ decided_byte rate read (from + k)
packed-byte rate read bits from n k h known =
    same_byte (λ i. get_or (take (8 * n) bits) (8 * k + i) false) (λ i. decided_bit rate read (8 * (from + k) + i))
    (λ i e. get_or-take (8 * n) bits (8 * k + i) false (omega arith) ∙ known (8 * k + i) (omega arith) ∙ ap (decided_bit rate read) (omega arith))

-- so many whole bytes of bits find room behind those that are filled, where the steps don't go on too far
pub room-for-all : (first filled pending count len room steps whole : ℕ) → len ≡ room → 8 * (first + filled) + (pending + count) ≡ steps - 127 → steps ≤ 8 * (first + room) + 127
    → whole ≡ min ((pending + count) / 8) (len - filled) → whole ≡ (pending + count) / 8
room-for-all first filled pending count len room steps whole size counted within is = omega arith
