-- The cells of the frames before a frame depend on the packets of these frames alone.
use Rattle.std.proofs.Common.{◌≡◌, ℕ, ◌+◌, ◌-◌, ◌*◌, ◌<◌, ◌≤◌, Bool, false, List, refl, arith, inl, inr}
use Rattle.std.specs.Option.{option_map_or}
use Rattle.std.proofs.Math.Nat.{mul-le-mul_left}
use Rattle.std.proofs.lemmas.Bool.Decides.{leb_tells}
use Rattle.isdbt_base.specs.declared.kinds.Mode.{Mode}
use Rattle.isdbt_base.specs.LayerParameters.{LayerParameters}
use Rattle.isdbt_base.specs.Numbers.{layer_cells, cell_bits, packets_per_frame}
use Rattle.bit_inter.specs.BitPlaces.{bit_delay}
use Rattle.time_inter.specs.CellPlaces.{symbol_delay}
use Rattle.layer_chain.specs.CodedBits.{layer_coded_bit}
use Rattle.layer_chain.specs.LayerCells.{bit_of_cell, placed_bit, cell_bits_at}
use Rattle.layer_chain.proofs.CellNumbers.{cell_number-same}
use Rattle.layer_chain.proofs.StableBits.{layer_coded_bit-same}

-- a coded bit in a cell before cell z of the layer is one of the first v * z
placed-from_cell : (v cells z e r : ℕ) (coded other : ℕ → Bool) → r < v → e < z → ((c : ℕ) → c < v * z → coded c ≡ other c) →
    option_map_or coded (bit_of_cell v cells e r) false ≡ option_map_or other (bit_of_cell v cells e r) false
placed-from_cell v cells z e r coded other h k same =
    elim (leb_tells (2 * cells - 120 + bit_delay v r) e) [
      | inr beyond ↦ rw beyond.0 refl
      | inl within ↦ rw within.0 (same (v * (e - (2 * cells - 120 + bit_delay v r)) + r)
          (let d : e - (2 * cells - 120 + bit_delay v r) + 1 ≤ z = omega arith in let m = mul-le-mul_left v d in omega (arith, m)))
    ]

placed_bit-same : (mode : Mode) (l : LayerParameters) (coded other : ℕ → Bool) (y w r : ℕ) → w < layer_cells mode l → r < cell_bits l.modulation →
    ((c : ℕ) → c < layer_cells mode l * cell_bits l.modulation * (y + 1) → coded c ≡ other c) → placed_bit mode l coded y w r ≡ placed_bit mode l other y w r
placed_bit-same mode l coded other y w r h k same =
    let cells = layer_cells mode l in
    let v = cell_bits l.modulation in
    elim (leb_tells (symbol_delay mode l w) y) [
      | inr beyond ↦ rw beyond.0 refl
      | inl within ↦ rw within.0 (placed-from_cell v cells (cells * (y + 1)) (cells * (y - symbol_delay mode l w) + w) r coded other k
          (let d : y - symbol_delay mode l w + 1 ≤ y + 1 = omega arith in let m = mul-le-mul_left cells d in omega (arith, m))
          (λ c n. same c (let e : v * (cells * (y + 1)) ≡ cells * v * (y + 1) = omega arith in omega (arith, e, n))))
    ]

-- packets that are alike in the frames before f give the same cells in the symbols of these frames
pub cell_bits_at-same : (mode : Mode) (l : LayerParameters) (packet other : ℕ → List ℕ) (f y w : ℕ) → y < 204 * f → w < layer_cells mode l →
    ((m : ℕ) → m < packets_per_frame mode l * f → packet m ≡ other m) →
    cell_bits_at mode l (layer_coded_bit mode l packet) y w ≡ cell_bits_at mode l (layer_coded_bit mode l other) y w
unfolding cell_bits_at
cell_bits_at-same mode l packet other f y w h k same =
    let x = layer_cells mode l * cell_bits l.modulation in
    let d : y + 1 ≤ 204 * f = omega arith in
    let m = mul-le-mul_left x d in
    cell_number-same (cell_bits l.modulation) _ _ (λ r n. placed_bit-same mode l (layer_coded_bit mode l packet) (layer_coded_bit mode l other) y w r k n
    (λ c b. layer_coded_bit-same mode l packet other f c (omega (arith, m, b)) same))
