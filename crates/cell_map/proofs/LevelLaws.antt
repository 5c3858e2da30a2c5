-- The bits of the cell that is sent for bits are those bits; and what the levels of a modulation are.
use Rattle.std.proofs.Common.{◌≡◌, ℕ, ◌<◌, ◌^◌, ◌/◌, refl, arith, Bool, true}
use Rattle.std.proofs.lemmas.Bool.{eqb-true, ltb-true, cond_both}
use Rattle.std.specs.Prelude.{◌==◌, ◌&&◌, nat_lt, ℤ, pos, List, [], ◌∷◌, if◌then◌else◌}
use Rattle.std.specs.Int.{w8, cast_signed, cast_unsigned}
use Rattle.std.specs.List.{AllByRecursion}
use Rattle.isdbt_base.specs.declared.kinds.Modulation.{Modulation}
use Rattle.isdbt_base.specs.declared.kinds.Modulation.TheVariants.{Qpsk, Qam16, Qam64}
use Rattle.isdbt_base.specs.Numbers.{cell_bits}
use Rattle.cell_map.specs.declared.cell.Cell.{Cell}
use Rattle.cell_map.specs.Levels.{cell_of, bits_of, Level, highest, lower, level_in, level_of, nearest, distance, axis_bits_of, i_bits, q_bits, joined_bits}
use Rattle.cell_map.proofs.EachBelow.{each_below, at_each, both}

back_test : (m : Modulation) → each_below (2 ^ cell_bits m) (λ b. bits_of m (cell_of m b) == b) ≡ true
unfolding bits_of cell_of nearest level_in
back_test Qpsk = refl
back_test Qam16 = refl
back_test Qam64 = refl

pub bits_of-cell_of : (m : Modulation) (b : ℕ) → b < 2 ^ cell_bits m → bits_of m (cell_of m b) ≡ b
bits_of-cell_of m b h = eqb-true _ _ (at_each (2 ^ cell_bits m) (λ b. bits_of m (cell_of m b) == b) b (back_test m) h)

-- what holds of each level of a table holds of the one that is found
pub level_in-of : (P : ℤ → Type 0) (b : ℕ) (first : Level) (ls : List Level) → P first.level → AllByRecursion (λ l. P l.level) ls → P (level_in b first ls)
unfolding level_in
level_in-of P b first [] h hs = h
level_in-of P b first (l ∷ ls) h hs = cond_both (l.bits == b) l.level (level_in b first ls) P (λ e. hs.0) (λ e. level_in-of P b first ls h hs.1)

-- and of the nearest one
pub nearest-of : (P : Level → Type 0) (x : ℤ) (best : Level) (ls : List Level) → P best → AllByRecursion P ls → P (nearest x best ls)
unfolding nearest
nearest-of P x best [] h hs = h
nearest-of P x best (l ∷ ls) h hs =
    let t = nat_lt (distance x l.level) (distance x best.level) in
    nearest-of P x (if t then l else best) ls (cond_both t l best P (λ e. hs.0) (λ e. h)) hs.1

-- ---- the axis bits of a value

abbrev IsLevelOfBits : Modulation → Level → Type 0
IsLevelOfBits m l = level_of m l.bits ≡ l.level

pub level-nearest : (m : Modulation) (x : ℤ) → level_of m (axis_bits_of m x) ≡ (nearest x (highest m) (lower m)).level
unfolding level_in
level-nearest Qpsk x = nearest-of (IsLevelOfBits Qpsk) x (highest Qpsk) (lower Qpsk) refl (refl, tt)
level-nearest Qam16 x = nearest-of (IsLevelOfBits Qam16) x (highest Qam16) (lower Qam16) refl (refl, (refl, (refl, tt)))
level-nearest Qam64 x = nearest-of (IsLevelOfBits Qam64) x (highest Qam64) (lower Qam64) refl (refl, (refl, (refl, (refl, (refl, (refl, (refl, tt)))))))

abbrev HasFewBits : ℕ → Level → Type 0
HasFewBits n l = nat_lt l.bits n ≡ true

axis_bits_test : (m : Modulation) (x : ℤ) → nat_lt (axis_bits_of m x) (2 ^ (cell_bits m / 2)) ≡ true
axis_bits_test Qpsk x = nearest-of (HasFewBits 2) x (highest Qpsk) (lower Qpsk) refl (refl, tt)
axis_bits_test Qam16 x = nearest-of (HasFewBits 4) x (highest Qam16) (lower Qam16) refl (refl, (refl, (refl, tt)))
axis_bits_test Qam64 x = nearest-of (HasFewBits 8) x (highest Qam64) (lower Qam64) refl (refl, (refl, (refl, (refl, (refl, (refl, (refl, tt)))))))

pub axis_bits-lt : (m : Modulation) (x : ℤ) → axis_bits_of m x < 2 ^ (cell_bits m / 2)
axis_bits-lt m x = ltb-true _ _ (axis_bits_test m x)

pub axis_bits-lt-eight : (m : Modulation) (x : ℤ) → axis_bits_of m x < 8
axis_bits-lt-eight Qpsk x = let h = axis_bits-lt Qpsk x in omega arith
axis_bits-lt-eight Qam16 x = let h = axis_bits-lt Qam16 x in omega arith
axis_bits-lt-eight Qam64 x = let h = axis_bits-lt Qam64 x in omega arith

-- ---- the bits of two axes, joined

abbrev parts_pass : ℕ → ℕ → Bool
parts_pass i q = (i_bits (joined_bits i q) == i) && (q_bits (joined_bits i q) == q)

parts_test : each_below 8 (λ i. each_below 8 (λ q. parts_pass i q)) ≡ true
parts_test = refl

pub joined-parts : (i q : ℕ) → i < 8 → q < 8 → (i_bits (joined_bits i q) ≡ i) × (q_bits (joined_bits i q) ≡ q)
joined-parts i q hi hq =
    let e = both _ _ (at_each 8 (λ q. parts_pass i q) q (at_each 8 (λ i. each_below 8 (λ q. parts_pass i q)) i parts_test hi) hq) in
    (eqb-true _ _ e.0, eqb-true _ _ e.1)

joined_most : (m : Modulation) → each_below (2 ^ (cell_bits m / 2)) (λ i. each_below (2 ^ (cell_bits m / 2)) (λ q. nat_lt (joined_bits i q) (2 ^ cell_bits m))) ≡ true
joined_most Qpsk = refl
joined_most Qam16 = refl
joined_most Qam64 = refl

pub bits_of-lt : (m : Modulation) (c : Cell) → bits_of m c < 2 ^ cell_bits m
unfolding bits_of
bits_of-lt m c =
    let n = 2 ^ (cell_bits m / 2) in
    let i = axis_bits_of m c.i in
    let q = axis_bits_of m c.q in
    ltb-true _ _ (at_each n (λ q. nat_lt (joined_bits i q) (2 ^ cell_bits m)) q (at_each n (λ i. each_below n (λ q. nat_lt (joined_bits i q) (2 ^ cell_bits m))) i (joined_most m) (axis_bits-lt m c.i)) (axis_bits-lt m c.q))

-- ---- levels as bytes

-- a level comes back from its byte
abbrev ComesBack : ℤ → Type 0
ComesBack x = cast_signed w8 (cast_unsigned w8 x) ≡ x

pub level-back : (m : Modulation) (b : ℕ) → cast_signed w8 (cast_unsigned w8 (level_of m b)) ≡ level_of m b
level-back Qpsk b = level_in-of ComesBack b (highest Qpsk) (lower Qpsk) refl (refl, tt)
level-back Qam16 b = level_in-of ComesBack b (highest Qam16) (lower Qam16) refl (refl, (refl, (refl, tt)))
level-back Qam64 b = level_in-of ComesBack b (highest Qam64) (lower Qam64) refl (refl, (refl, (refl, (refl, (refl, (refl, (refl, tt)))))))

-- both levels of a cell come back from its bytes
pub record IsBack (c : Cell) : Type 0 where
  pub i : cast_signed w8 (cast_unsigned w8 c.i) ≡ c.i
  pub q : cast_signed w8 (cast_unsigned w8 c.q) ≡ c.q

pub cell_of-back : (m : Modulation) (b : ℕ) → IsBack (cell_of m b)
unfolding cell_of
cell_of-back m b = record { i = level-back m (i_bits b); q = level-back m (q_bits b) }

pub zero-back : IsBack (record { i = pos 0; q = pos 0 })
zero-back = record { i = refl; q = refl }
