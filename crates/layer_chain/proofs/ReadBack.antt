-- Reading at the place of a coded bit in the cells that are sent gives that bit, so no two bits share a place.
use Rattle.std.proofs.Common.{◌≡◌, ℕ, zero, suc, ◌+◌, ◌-◌, ◌*◌, ◌/◌, ◌%◌, ◌<◌, Bool, true, false, refl, arith, ap, sym, ◌∙◌, Some, inl, inr, rules}
use Rattle.std.specs.Prelude.{◌==◌}
use Rattle.std.specs.Option.{option_map_or}
use Rattle.std.specs.Int.{from_bool}
use Rattle.std.proofs.lemmas.Bool.{le-leb}
use Rattle.std.proofs.lemmas.Nat.{div-add-mod'}
use Rattle.std.proofs.lemmas.Nat.Bits.{bit_at-suc, bit_at_lowest}
use Rattle.std.proofs.lemmas.Bool.Decides.{eqb_tells}
use Rattle.isdbt_base.specs.declared.kinds.Mode.{Mode}
use Rattle.isdbt_base.specs.declared.kinds.Modulation.{Modulation}
use Rattle.isdbt_base.specs.LayerParameters.{LayerParameters}
use Rattle.isdbt_base.specs.Numbers.{layer_cells, cell_bits}
use Rattle.bit_inter.specs.BitPlaces.{cell_of_bit, bit_delay}
use Rattle.time_inter.specs.CellPlaces.{symbol_delay}
use Rattle.layer_chain.specs.LayerCells.{layer_cell, bit_place, bit_of_cell, bit_at_place, placed_bit, cell_number, cell_bits_at, bit_of_number, read_bit}

-- the coded bit of the cell of a coded bit
pub bit_of_cell-back : (v cells c : ℕ) → bit_of_cell v cells (cell_of_bit v cells c) (c % v) ≡ Some c
bit_of_cell-back v cells c =
    rw (le-leb (2 * cells - 120 + bit_delay v (c % v)) (cell_of_bit v cells c) (omega arith))
    (ap Some (let e = div-add-mod' c v in
    let d : cell_of_bit v cells c - (2 * cells - 120 + bit_delay v (c % v)) ≡ c / v = omega arith in
    rw d (omega (arith, e))))

-- the coded bit at the place of a coded bit
pub bit_at_place-back : (mode : Mode) (l : LayerParameters) (c : ℕ) → bit_at_place mode l (bit_place mode l c).symbol (bit_place mode l c).place (bit_place mode l c).bit ≡ Some c
bit_at_place-back mode l c =
    let cells = layer_cells mode l in
    let e = layer_cell mode l c in
    let d = symbol_delay mode l (e % cells) in
    let back : cells * (e / cells + d - d) + e % cells ≡ e = (let k = div-add-mod' e cells in let same : e / cells + d - d ≡ e / cells = omega arith in rw same (omega (arith, k))) in
    rw (le-leb d (e / cells + d) (omega arith), back) (bit_of_cell-back (cell_bits l.modulation) cells c)

last_bit : (x : ℕ) (b : Bool) → ((2 * x + from_bool b) % 2 == 1) ≡ b
last_bit x true = let e : (2 * x + 1) % 2 ≡ 1 = omega arith in rw e refl
last_bit x false = let e : (2 * x + 0) % 2 ≡ 0 = omega arith in rw e refl

other_bits : (x : ℕ) (b : Bool) → (2 * x + from_bool b) / 2 ≡ x
other_bits x true = omega arith
other_bits x false = omega arith

-- bit r of the number of bits
pub bit_of_number-cell_number : (v : ℕ) (b : ℕ → Bool) (r : ℕ) → r < v → bit_of_number v (cell_number v b) r ≡ b r
unfolding cell_number
bit_of_number-cell_number zero b r h = absurd (omega arith)
bit_of_number-cell_number (suc v) b r h =
    elim (eqb_tells r v) [
      | inl same ↦ (let e : suc v - 1 - r ≡ 0 = omega arith in rw (e, bit_at_lowest) (last_bit (cell_number v b) (b v) ∙ ap b (sym same.1)))
      | inr other ↦ (let e : suc v - 1 - r ≡ suc (v - 1 - r) = omega arith in
          rw (e, bit_at-suc (2 * cell_number v b + from_bool (b v)) (v - 1 - r), other_bits (cell_number v b) (b v)) (bit_of_number-cell_number v b r (omega arith)))
    ]

cell_bits_positive : (m : Modulation) → 0 < cell_bits m
cell_bits_positive m = search rules

-- what is read of the cells that are sent is the coded bits
pub read_bit-cell_bits_at : (mode : Mode) (l : LayerParameters) (coded : ℕ → Bool) (c : ℕ) → read_bit mode l (cell_bits_at mode l coded) c ≡ coded c
unfolding read_bit cell_bits_at
read_bit-cell_bits_at mode l coded c =
    bit_of_number-cell_number (cell_bits l.modulation) (placed_bit mode l coded (bit_place mode l c).symbol (bit_place mode l c).place) (c % cell_bits l.modulation) (omega (arith, cell_bits_positive l.modulation))
    ∙ ap (λ o. option_map_or coded o false) (bit_at_place-back mode l c)

pub distinct : (mode : Mode) (l : LayerParameters) (c other : ℕ) → bit_place mode l c ≡ bit_place mode l other → c ≡ other
distinct mode l c other h =
    let same : Some c ≡ Some other = sym (bit_at_place-back mode l c) ∙ ap (λ p. bit_at_place mode l p.symbol p.place p.bit) h ∙ bit_at_place-back mode l other in
    ap (λ o. option_map_or (λ x. x) o 0) same
