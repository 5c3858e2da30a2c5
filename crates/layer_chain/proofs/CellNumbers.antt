-- The numbers of cells' bits.
use Rattle.std.proofs.Common.{◌≡◌, ℕ, zero, suc, ◌+◌, ◌*◌, ◌^◌, ◌<◌, ◌≤◌, Bool, true, false, List, ◌++◌, length, take, drop, get_or, inl, inr, refl, sym, ap, ◌∙◌, arith}
use Rattle.std.specs.Int.{from_bool}
use Rattle.std.proofs.Math.Nat.{mul-add, mul-le-mul_left, pow-suc}
use Rattle.std.proofs.lemmas.Bool.{cases_lt}
use Rattle.std.proofs.lemmas.List.{get_or-take, get_or-drop, get_or_append_left, get_or-append_right, length-take-le}
use Rattle.isdbt_base.specs.declared.kinds.Mode.{Mode}
use Rattle.isdbt_base.specs.LayerParameters.{LayerParameters}
use Rattle.isdbt_base.specs.Numbers.{cell_bits}
use Rattle.layer_chain.specs.LayerCells.{cell_number, placed_bit, cell_bits_at, bit_of_number}

pub cell_number-more : (i n x : ℕ) (b : ℕ → Bool) → n ≡ cell_number i b → x ≡ from_bool (b i) → 2 * n + x ≡ cell_number (i + 1) b
unfolding cell_number
cell_number-more i n x b is bit = (let e : i + 1 ≡ suc i = omega arith in rw (e, is, bit) refl)

pub small-more : (i n x : ℕ) → n < 2 ^ i → x ≤ 1 → 2 * n + x < 2 ^ (i + 1)
small-more i n x small bit = (let e : i + 1 ≡ suc i = omega arith in rw (e, pow-suc 2 i) (omega (arith, small, bit)))

pub from_bool-le : (b : Bool) → from_bool b ≤ 1
from_bool-le true = omega arith
from_bool-le false = omega arith

pub cell_number-lt : (v : ℕ) (b : ℕ → Bool) → cell_number v b < 2 ^ v
unfolding cell_number
cell_number-lt zero b = omega arith
cell_number-lt (suc v) b =
    let less = cell_number-lt v b in
    let more : 2 ^ suc v ≡ 2 ^ v * 2 = pow-suc 2 v in
    let one = from_bool-le (b v) in
    omega (arith, less, more, one)

pub cell_number-same : (v : ℕ) (b d : ℕ → Bool) → ((r : ℕ) → r < v → b r ≡ d r) → cell_number v b ≡ cell_number v d
unfolding cell_number
cell_number-same zero b d h = refl
cell_number-same (suc v) b d h =
    ap (λ n. 2 * n + from_bool (b v)) (cell_number-same v b d (λ r k. h r (omega arith))) ∙ ap (λ x. 2 * cell_number v d + from_bool x) (h v (omega arith))

-- no bits are the number 0
pub cell_number-zero : (v : ℕ) → cell_number v (λ r. false) ≡ 0
unfolding cell_number
cell_number-zero zero = refl
cell_number-zero (suc v) = (let e = cell_number-zero v in omega (arith, e))

-- the number of a cell of a list of bits
pub cell_number-part : (width start : ℕ) (bits part : List Bool) → part ≡ take width (drop start bits) → length part ≡ width → cell_number (length part) (λ r. get_or part r false) ≡ cell_number width (λ r. get_or bits (start + r) false)
cell_number-part width start bits part is size =
    ap (λ n. cell_number n (λ r. get_or part r false)) size
    ∙ cell_number-same width (λ r. get_or part r false) (λ r. get_or bits (start + r) false) (λ r h. ap (λ xs. get_or xs r false) is ∙ get_or-take width (drop start bits) r false h ∙ get_or-drop start bits r false)

pub cell_bits_at-lt : (mode : Mode) (l : LayerParameters) (coded : ℕ → Bool) (y w : ℕ) → cell_bits_at mode l coded y w < 2 ^ cell_bits l.modulation
unfolding cell_bits_at
cell_bits_at-lt mode l coded y w = cell_number-lt (cell_bits l.modulation) (placed_bit mode l coded y w)

-- the bits of one number more, behind those of the numbers before
pub bits-more : (width cell : ℕ) (numbers : List ℕ) (old new part : List Bool) → take (width * cell + width) new ≡ take (width * cell) old ++ part → width * cell ≤ length old
    → ((e r : ℕ) → e < cell → r < width → get_or old (width * e + r) false ≡ bit_of_number width (get_or numbers e 0) r)
    → ((r : ℕ) → r < width → get_or part r false ≡ bit_of_number width (get_or numbers cell 0) r)
    → (e r : ℕ) → e < cell + 1 → r < width → get_or new (width * e + r) false ≡ bit_of_number width (get_or numbers e 0) r
bits-more width cell numbers old new part front room before here e r h k =
    let at = width * cell in
    let q = width * e + r in
    let within : q < at + width = (let le : e ≤ cell = omega (arith, h) in let m = mul-le-mul_left width le in omega (arith, m, k)) in
    sym (get_or-take (at + width) new q false within) ∙ ap (λ xs. get_or xs q false) front
    ∙ elim (cases_lt e cell) [
      | inl earlier ↦
          let early : q < at = (let next : e + 1 ≤ cell = omega (arith, earlier) in let m = mul-le-mul_left width next in let d = mul-add width e 1 in omega (arith, m, d, k)) in
          get_or_append_left (take at old) part false q (rw (length-take-le at old room) early) ∙ get_or-take at old q false early ∙ before e r earlier k
      | inr last ↦
          let same : cell ≡ e = omega (arith, last, h) in
          let place : at + r ≡ q = ap (λ j. width * j + r) same in
          get_or-append_right (take at old) part at q false (length-take-le at old room) (omega (arith, place)) ∙ ap (λ j. get_or part j false) (omega (arith, place))
          ∙ here r k ∙ ap (λ j. bit_of_number width (get_or numbers j 0) r) same
    ]
