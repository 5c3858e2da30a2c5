-- The cells of a layer, from its coded bits through the interleavers.
use Rattle.std.proofs.Common.{◌≡◌, ℕ, ◌+◌, ◌-◌, ◌*◌, ◌%◌, ◌<◌, ◌≤◌, Bool, false, List, ◌++◌, length, get_or, refl, sym, ap, ◌∙◌, inl, inr, arith}
use Rattle.std.specs.Option.{option_map_or}
use Rattle.std.specs.Prelude.{slice_index, slice_index_or}
use Rattle.std.proofs.Math.Nat.{mul-add, mul-le-mul_left, mul-add-mod_self_left, mod-eq_of_lt}
use Rattle.std.proofs.lemmas.Bool.{le-leb, lt-leb, cases_lt}
use Rattle.isdbt_base.specs.declared.kinds.Mode.{Mode}
use Rattle.isdbt_base.specs.LayerParameters.{LayerParameters}
use Rattle.isdbt_base.specs.Numbers.{carriers, layer_cells, cell_bits, time_depth, time_adjust}
use Rattle.delay_line.specs.Lines.{item_of, delayed}
use Rattle.delay_line.proofs.LineLaws.{delayed-early, delayed-late, delayed-agree}
use Rattle.bit_inter.specs.BitPlaces.{bit_delay, bit_shift, interleaved_bits}
use Rattle.bit_inter.proofs.PlaceLaws.{interleaved_bits-delayed}
use Rattle.time_inter.specs.CellPlaces.{carrier_delay, symbol_delay}
use Rattle.time_inter.specs.Layouts.{layer_layout}
use Rattle.layer_chain.specs.Streams.{first_of, AreItems, adjusted_item}
use Rattle.layer_chain.specs.BitPaths.{path_delay, late_number}
use Rattle.layer_chain.specs.LayerCells.{cell_number, bit_of_cell, bit_of_number, placed_bit, cell_bits_at}
use Rattle.layer_chain.specs.LayerCoder.{number_at, layer_cell_number}
use Rattle.layer_chain.proofs.Streams.{length-first_of, get_or-first_of, first_of-add}
use Rattle.layer_chain.proofs.ReadBack.{bit_of_number-cell_number}
use Rattle.layer_chain.proofs.CellNumbers.{cell_number-same, cell_number-zero}

-- ---- places

early-place : (c y w s : ℕ) → w < c → y < s → c * y + w < c * s
early-place c y w s h early = (let next : y + 1 ≤ s = omega arith in let m = mul-le-mul_left c next in let e = mul-add c y 1 in omega (arith, m, e, h))

late-place : (c y w s : ℕ) → s ≤ y → c * s ≤ c * y + w
late-place c y w s late = (let m = mul-le-mul_left c late in omega (arith, m))

behind-place : (c y w s : ℕ) → s ≤ y → c * y + w - c * s ≡ c * (y - s) + w
behind-place c y w s late =
    let e = mul-add c s (y - s) in
    let back : s + (y - s) ≡ y = omega arith in
    let split : c * y ≡ c * s + c * (y - s) = ap (λ k. c * k) (sym back) ∙ e in
    omega (arith, split)

-- ---- numbers of cells

-- the numbers of so many cells of bits
pub numbers-items : (v cells frame : ℕ) (stream : ℕ → Bool) (bits : List Bool) (numbers : List ℕ) → AreItems false stream (204 * cells * v * frame) (204 * cells * v) bits
    → length numbers ≡ 204 * cells → ((e : ℕ) → e < length numbers → slice_index numbers e ≡ cell_number v (λ r. slice_index_or bits (v * e + r) false))
    → AreItems 0 (number_at v stream) (204 * cells * frame) (204 * cells) numbers
numbers-items v cells frame stream bits numbers items size each = record {
  size = size;
  each = λ e h.
      each e (omega (arith, size, h))
      ∙ cell_number-same v (λ r. get_or bits (v * e + r) false) (λ r. stream (v * (204 * cells * frame + e) + r)) (λ r k.
      let next : e + 1 ≤ 204 * cells = omega arith in
      let room = mul-le-mul_left v next in
      let more = mul-add v e 1 in
      items.each (v * e + r) (omega (arith, room, more, k)) ∙ ap stream (let m = mul-add v (204 * cells * frame) e in omega (arith, m)));
}

-- ---- cells at their places

-- bit r of layer cell e
bit-from : (v cells e r : ℕ) (coded : ℕ → Bool) → r < v → interleaved_bits coded v cells (v * e + r) ≡ option_map_or coded (bit_of_cell v cells e r) false
bit-from v cells e r coded h =
    let s = 2 * cells - 120 + bit_delay v r in
    let q = v * e + r in
    let bit : q % v ≡ r = mul-add-mod_self_left v e r ∙ mod-eq_of_lt h in
    let shift : bit_shift v cells q ≡ v * s = ap (λ k. v * (2 * cells - 120 + bit_delay v k)) bit in
    interleaved_bits-delayed coded v cells q ∙ ap (λ d. delayed d false coded q) shift ∙ elim (cases_lt e s) [
      | inl early ↦ delayed-early (v * s) false coded q (early-place v e r s h early) ∙ (rw (lt-leb s e early) refl)
      | inr late ↦ delayed-late (v * s) false coded q (late-place v e r s late) ∙ (rw (le-leb s e late) (ap coded (behind-place v e r s late)))
    ]

-- bit r of the number that went in so many cells before
late-bit : (v cells e r : ℕ) (coded : ℕ → Bool) → r < v
    → bit_of_number v (delayed (path_delay v cells r) 0 (number_at v coded) e) r ≡ interleaved_bits coded v cells (v * e + r)
late-bit v cells e r coded h =
    let s = path_delay v cells r in
    elim (cases_lt e s) [
      | inl early ↦
          ap (λ n. bit_of_number v n r) (delayed-early s 0 (number_at v coded) e early ∙ sym (cell_number-zero v)) ∙ bit_of_number-cell_number v (λ k. false) r h
          ∙ sym (bit-from v cells e r coded h ∙ (rw (lt-leb s e early) refl))
      | inr late ↦
          ap (λ n. bit_of_number v n r) (delayed-late s 0 (number_at v coded) e late) ∙ bit_of_number-cell_number v (λ k. coded (v * (e - s) + k)) r h
          ∙ sym (bit-from v cells e r coded h ∙ (rw (le-leb s e late) refl))
    ]

-- the number that goes out of the lines of the bits
late-cells : (v cells : ℕ) (coded : ℕ → Bool) (e : ℕ) → late_number v (path_delay v cells) (number_at v coded) e ≡ layer_cell_number v cells coded e
late-cells v cells coded e =
    cell_number-same v (λ r. bit_of_number v (delayed (path_delay v cells r) 0 (number_at v coded) e) r) (λ r. interleaved_bits coded v cells (v * e + r)) (λ r h. late-bit v cells e r coded h)

-- the numbers that go out for so many numbers more
pub placed-items : (v cells n m : ℕ) (coded : ℕ → Bool) (input output : List ℕ) → AreItems 0 (number_at v coded) n m input → length output ≡ m
    → ((k : ℕ) → k < length input → slice_index output k ≡ late_number v (path_delay v cells) (item_of 0 (first_of (number_at v coded) n ++ input)) (length (first_of (number_at v coded) n) + k))
    → AreItems 0 (layer_cell_number v cells coded) n m output
placed-items v cells n m coded input output items size each =
    let stream = number_at v coded in
    let h = first_of stream n in
    let more = first_of-add 0 stream n m input items in
    record {
      size = size;
      each = λ k below.
          each k (omega (arith, items.size, below))
          ∙ ap (λ xs. late_number v (path_delay v cells) (item_of 0 xs) (length h + k)) more
          ∙ ap (λ j. late_number v (path_delay v cells) (item_of 0 (first_of stream (n + m))) (j + k)) (length-first_of stream n)
          ∙ cell_number-same v (λ r. bit_of_number v (delayed (path_delay v cells r) 0 (item_of 0 (first_of stream (n + m))) (n + k)) r) (λ r. bit_of_number v (delayed (path_delay v cells r) 0 stream (n + k)) r)
          (λ r inside. ap (λ x. bit_of_number v x r) (delayed-agree (path_delay v cells r) 0 (item_of 0 (first_of stream (n + m))) stream (n + k) (λ j early. get_or-first_of stream (n + m) j 0 (omega (arith, early, below)))))
          ∙ late-cells v cells coded (n + k);
    }

-- the number of a cell at its place
pub adjusted-cells : (mode : Mode) (l : LayerParameters) (coded : ℕ → Bool) (y w : ℕ) → w < layer_cells mode l
    → adjusted_item (layer_layout (time_depth mode l.depth) (carriers mode) l.segments) (time_adjust mode l.depth * layer_cells mode l) (layer_cell_number (cell_bits l.modulation) (layer_cells mode l) coded) (layer_cells mode l * y + w)
    ≡ cell_bits_at mode l coded y w
unfolding cell_bits_at
adjusted-cells mode l coded y w h =
    let cells = layer_cells mode l in
    let v = cell_bits l.modulation in
    let late = symbol_delay mode l w in
    let q = cells * y + w in
    let numbers = layer_cell_number v cells coded in
    let place : q % cells ≡ w = mul-add-mod_self_left cells y w ∙ mod-eq_of_lt h in
    let shift : time_adjust mode l.depth * cells + cells * (time_depth mode l.depth * carrier_delay (q % cells % carriers mode)) ≡ cells * late =
    ap (λ k. time_adjust mode l.depth * cells + cells * (time_depth mode l.depth * carrier_delay (k % carriers mode))) place
    ∙ (let e = mul-add cells (time_adjust mode l.depth) (time_depth mode l.depth * carrier_delay (w % carriers mode)) in omega (arith, e)) in
    ap (λ d. delayed d 0 numbers q) shift ∙ elim (cases_lt y late) [
      | inl early ↦ delayed-early (cells * late) 0 numbers q (early-place cells y w late h early) ∙ sym (cell_number-same v (placed_bit mode l coded y w) (λ r. false) (λ r k. rw (lt-leb late y early) refl) ∙ cell_number-zero v)
      | inr behind ↦
          delayed-late (cells * late) 0 numbers q (late-place cells y w late behind) ∙ ap numbers (behind-place cells y w late behind)
          ∙ cell_number-same v (λ r. interleaved_bits coded v cells (v * (cells * (y - late) + w) + r)) (placed_bit mode l coded y w) (λ r k.
          bit-from v cells (cells * (y - late) + w) r coded k ∙ rw (le-leb late y behind) refl)
    ]
