-- The place of a coded bit keeps its bit of the cell, so each place has at most one bit.
use Rattle.std.proofs.Common.{◌≡◌, ◌≢◌, ℕ, ◌+◌, ◌*◌, ◌-◌, ◌/◌, ◌%◌, ◌<◌, ◌≤◌, ◌⊎◌, inl, inr, Bool, false, refl, sym, ◌∙◌, arith, ap}
use Rattle.std.proofs.Math.Nat.{mul-add, div-add-mod, add-mul-mod_self_left, add-mul-div_left, div-le_of_le-mul}
use Rattle.std.proofs.lemmas.Nat.{mul-le, mod_below}
use Rattle.std.proofs.lemmas.Bool.{cases_lt}
use Rattle.delay_line.specs.Lines.{delayed}
use Rattle.delay_line.proofs.LineLaws.{delayed-early, delayed-late, delayed-agree}
use Rattle.bit_inter.specs.BitPlaces.{bit_delay, cell_of_bit, bit_place, bit_shift, interleaved_bits}

-- no bit of a cell is late by more than 120 cells
pub bit_delay-most : (v r : ℕ) → r < v → bit_delay v r ≤ 120
bit_delay-most v r inside = div-le_of_le-mul (v - 1) (omega (arith, mul-le 120 r 120 (v - 1) (omega arith) (omega arith)))

pub bit_place-shift : (v cells c : ℕ) → bit_place v cells c ≡ c + bit_shift v cells c
bit_place-shift v cells c =
    omega (arith, mul-add v (c / v) (2 * cells - 120 + bit_delay v (c % v)), div-add-mod c v, ap (λ n. v * n) (assoc (c / v) (2 * cells - 120) (bit_delay v (c % v))))
  where
    assoc : (a b d : ℕ) → a + b + d ≡ a + (b + d)
    assoc a b d = omega arith

pub place-bit : (v cells c : ℕ) → bit_place v cells c % v ≡ c % v
place-bit v cells c =
    ap (λ q. q % v) (bit_place-shift v cells c) ∙ add-mul-mod_self_left c v (2 * cells - 120 + bit_delay v (c % v))

pub place-cell : (v cells c : ℕ) → 0 < v → bit_place v cells c / v ≡ cell_of_bit v cells c
place-cell v cells c some =
    ap (λ q. q / v) (bit_place-shift v cells c) ∙ add-mul-div_left c (2 * cells - 120 + bit_delay v (c % v)) some ∙ omega arith

pub shift-place : (v cells c : ℕ) → bit_shift v cells (bit_place v cells c) ≡ bit_shift v cells c
shift-place v cells c = ap (λ r. v * (2 * cells - 120 + bit_delay v r)) (place-bit v cells c)

pub shift-most : (v cells c : ℕ) → 0 < v → 60 ≤ cells → bit_shift v cells c ≤ v * (2 * cells)
shift-most v cells c some least =
    mul-le v (2 * cells - 120 + bit_delay v (c % v)) v (2 * cells) (omega arith) (omega (arith, bit_delay-most v (c % v) (mod_below c v some)))

-- the bits at the places are the coded bits, put off path by path
pub interleaved_bits-delayed : (coded : ℕ → Bool) (v cells q : ℕ) → interleaved_bits coded v cells q ≡ delayed (bit_shift v cells q) false coded q
unfolding interleaved_bits delayed
interleaved_bits-delayed coded v cells q = refl

pub interleaved_bits-place : (coded : ℕ → Bool) (v cells c : ℕ) → interleaved_bits coded v cells (bit_place v cells c) ≡ coded c
interleaved_bits-place coded v cells c =
    let q = bit_place v cells c in
    interleaved_bits-delayed coded v cells q
    ∙ delayed-late (bit_shift v cells q) false coded q (omega (arith, shift-place v cells c, bit_place-shift v cells c))
    ∙ ap coded (omega (arith, shift-place v cells c, bit_place-shift v cells c))

pub place-one : (v cells c d : ℕ) → bit_place v cells c ≡ bit_place v cells d → c ≡ d
place-one v cells c d same =
    let bit : c % v ≡ d % v = sym (place-bit v cells c) ∙ ap (λ q. q % v) same ∙ place-bit v cells d in
    let shift : bit_shift v cells c ≡ bit_shift v cells d = ap (λ r. v * (2 * cells - 120 + bit_delay v r)) bit in
    omega (arith, bit_place-shift v cells c, bit_place-shift v cells d, shift, same)

-- the bit that a place takes
place-back : (v cells q : ℕ) → bit_shift v cells q ≤ q → bit_place v cells (q - bit_shift v cells q) ≡ q
place-back v cells q late =
    let c = q - bit_shift v cells q in
    let bit : c % v ≡ q % v = sym (add-mul-mod_self_left c v (2 * cells - 120 + bit_delay v (q % v))) ∙ ap (λ n. n % v) (omega arith) in
    bit_place-shift v cells c ∙ ap (λ r. c + v * (2 * cells - 120 + bit_delay v r)) bit ∙ omega arith

none-by : (coded : ℕ → Bool) (v cells q : ℕ) → ((c : ℕ) → bit_place v cells c ≢ q) → (q < bit_shift v cells q) ⊎ (bit_shift v cells q ≤ q) → interleaved_bits coded v cells q ≡ false
none-by coded v cells q none (inl early) =
    interleaved_bits-delayed coded v cells q ∙ delayed-early (bit_shift v cells q) false coded q early
none-by coded v cells q none (inr late) = absurd (none (q - bit_shift v cells q) (place-back v cells q late))

pub interleaved_bits-none : (coded : ℕ → Bool) (v cells q : ℕ) → ((c : ℕ) → bit_place v cells c ≢ q) → interleaved_bits coded v cells q ≡ false
interleaved_bits-none coded v cells q none = none-by coded v cells q none (cases_lt q (bit_shift v cells q))

pub interleaved_bits-agree : (coded other : ℕ → Bool) (v cells q : ℕ) → ((c : ℕ) → c ≤ q → coded c ≡ other c) → interleaved_bits coded v cells q ≡ interleaved_bits other v cells q
interleaved_bits-agree coded other v cells q agree =
    interleaved_bits-delayed coded v cells q ∙ delayed-agree (bit_shift v cells q) false coded other q agree ∙ sym (interleaved_bits-delayed other v cells q)
