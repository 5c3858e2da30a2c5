-- What the tables have.
use Rattle.std.proofs.Common.{◌≡◌, ℕ, ◌+◌, ◌-◌, ◌/◌, ◌<◌, refl, arith, true, get_or, sym, map, ◌∙◌, ap, SFits}
use Rattle.std.specs.Prelude.{◌==◌, ℤ, pos, negsuc, ◌-ℤ◌, min, max, nat_abs}
use Rattle.std.specs.Int.{w8, int_max, int_min}
use Rattle.std.specs.List.{range_with_len}
use Rattle.std.proofs.lemmas.Bool.{eqb-true}
use Rattle.std.proofs.lemmas.Int.{ints, clamps}
use Rattle.std.proofs.lemmas.List.FromFn.{get_or-map-range_with_len}
use Rattle.isdbt_base.specs.declared.kinds.Modulation.{Modulation}
use Rattle.isdbt_base.specs.declared.kinds.Modulation.TheVariants.{Qpsk, Qam16, Qam64}
use Rattle.cell_map.specs.declared.cell.Cell.{Cell}
use Rattle.cell_map.specs.declared.tables.TheConstants.{QPSK_CELLS, QAM16_CELLS, QAM64_CELLS, AXIS_BITS}
use Rattle.cell_map.specs.Levels.{cell_of, level_in, level_of, nearest, axis_bits_of, i_bits, q_bits, apart, highest}
use Rattle.cell_map.proofs.EachBelow.{each_below, at_each}

-- the levels that are sent for bits, as a pair
abbrev levels : Modulation → ℕ → ℤ × ℤ
levels m b = (level_of m (i_bits b), level_of m (q_bits b))

qpsk_entries : QPSK_CELLS ≡ map (levels Qpsk) (range_with_len 0 4)
unfolding level_in
qpsk_entries = refl

qam16_entries : QAM16_CELLS ≡ map (levels Qam16) (range_with_len 0 16)
unfolding level_in
qam16_entries = refl

qam64_entries : QAM64_CELLS ≡ map (levels Qam64) (range_with_len 0 64)
unfolding level_in
qam64_entries = refl

pub qpsk_entry : (b : ℕ) → b < 4 → get_or QPSK_CELLS b (pos 0, pos 0) ≡ levels Qpsk b
qpsk_entry b h = ap (λ t. get_or t b (pos 0, pos 0)) qpsk_entries ∙ get_or-map-range_with_len (levels Qpsk) 0 4 b b (pos 0, pos 0) h (omega arith)

pub qam16_entry : (b : ℕ) → b < 16 → get_or QAM16_CELLS b (pos 0, pos 0) ≡ levels Qam16 b
qam16_entry b h = ap (λ t. get_or t b (pos 0, pos 0)) qam16_entries ∙ get_or-map-range_with_len (levels Qam16) 0 16 b b (pos 0, pos 0) h (omega arith)

pub qam64_entry : (b : ℕ) → b < 64 → get_or QAM64_CELLS b (pos 0, pos 0) ≡ levels Qam64 b
qam64_entry b h = ap (λ t. get_or t b (pos 0, pos 0)) qam64_entries ∙ get_or-map-range_with_len (levels Qam64) 0 64 b b (pos 0, pos 0) h (omega arith)

-- how many levels are above the nearest one to k - 128, where the highest is h
abbrev pub levels_above : ℕ → ℕ → ℕ
levels_above h k = (128 + h - min (max k (128 - h)) (128 + h)) / 2

abbrev pub top : Modulation → ℕ
top Qpsk = 1
top Qam16 = 3
top Qam64 = 7

axis_test : (m : Modulation) → each_below 256 (λ k. get_or AXIS_BITS (levels_above (top m) k) 0 == apart (axis_bits_of m (pos k -ℤ pos 128))) ≡ true
unfolding nearest
axis_test Qpsk = refl
axis_test Qam16 = refl
axis_test Qam64 = refl

pub axis_entry : (m : Modulation) (k n : ℕ) (x : ℤ) → k < 256 → x ≡ pos k -ℤ pos 128 → n ≡ levels_above (top m) k → get_or AXIS_BITS n 0 ≡ apart (axis_bits_of m x)
axis_entry m k n x h ex en =
    ap (λ n. get_or AXIS_BITS n 0) en ∙ eqb-true _ _ (at_each 256 (λ k. get_or AXIS_BITS (levels_above (top m) k) 0 == apart (axis_bits_of m (pos k -ℤ pos 128))) k (axis_test m) h) ∙ ap (λ x. apart (axis_bits_of m x)) (sym ex)

-- a value held between the lowest and the highest level is so many halves below the highest
halves : (m : Modulation) (x w : ℤ) (k n : ℕ) → x ≡ pos k -ℤ pos 128 → k < 256 → w ≡ int_max (pos 0 -ℤ (highest m).level) (int_min x (highest m).level) → n ≡ nat_abs ((highest m).level -ℤ w) / 2 → n ≡ levels_above (top m) k
halves Qpsk x w k n ex h ew en = omega (arith, ints, clamps)
halves Qam16 x w k n ex h ew en = omega (arith, ints, clamps)
halves Qam64 x w k n ex h ew en = omega (arith, ints, clamps)

pub axis-read : (m : Modulation) (x w : ℤ) (n : ℕ) → SFits w8 x → w ≡ int_max (pos 0 -ℤ (highest m).level) (int_min x (highest m).level) → n ≡ nat_abs ((highest m).level -ℤ w) / 2 → get_or AXIS_BITS n 0 ≡ apart (axis_bits_of m x)
axis-read m (pos a) w n fits ew en =
    let ex : pos a ≡ pos (a + 128) -ℤ pos 128 = omega (arith, ints) in
    axis_entry m (a + 128) n (pos a) (omega arith) ex (halves m (pos a) w (a + 128) n ex (omega arith) ew en)
axis-read m (negsuc a) w n fits ew en =
    let ex : negsuc a ≡ pos (127 - a) -ℤ pos 128 = omega (arith, ints) in
    axis_entry m (127 - a) n (negsuc a) (omega arith) ex (halves m (negsuc a) w (127 - a) n ex (omega arith) ew en)

-- ---- the cells of the tables

abbrev cell_at : ℤ → ℤ → Cell
cell_at i q = record { i = i; q = q }

cell_is : (m : Modulation) (b : ℕ) (r : Cell) (p : ℤ × ℤ) → p ≡ levels m b → r.i ≡ p.0 → r.q ≡ p.1 → r ≡ cell_of m b
unfolding cell_of
cell_is m b r p e ei eq =
    let i : r.i ≡ level_of m (i_bits b) = ei ∙ ap (λ p. p.0) e in
    let q : r.q ≡ level_of m (q_bits b) = eq ∙ ap (λ p. p.1) e in
    ap (λ z. cell_at z r.q) i ∙ ap (cell_at (level_of m (i_bits b))) q

pub qpsk-sent : (b : ℕ) (r : Cell) → b < 4 → r.i ≡ (get_or QPSK_CELLS b (pos 0, pos 0)).0 → r.q ≡ (get_or QPSK_CELLS b (pos 0, pos 0)).1 → r ≡ cell_of Qpsk b
qpsk-sent b r h = cell_is Qpsk b r _ (qpsk_entry b h)

pub qam16-sent : (b : ℕ) (r : Cell) → b < 16 → r.i ≡ (get_or QAM16_CELLS b (pos 0, pos 0)).0 → r.q ≡ (get_or QAM16_CELLS b (pos 0, pos 0)).1 → r ≡ cell_of Qam16 b
qam16-sent b r h = cell_is Qam16 b r _ (qam16_entry b h)

pub qam64-sent : (b : ℕ) (r : Cell) → b < 64 → r.i ≡ (get_or QAM64_CELLS b (pos 0, pos 0)).0 → r.q ≡ (get_or QAM64_CELLS b (pos 0, pos 0)).1 → r ≡ cell_of Qam64 b
qam64-sent b r h = cell_is Qam64 b r _ (qam64_entry b h)
