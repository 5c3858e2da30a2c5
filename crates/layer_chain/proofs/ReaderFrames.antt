-- One symbol more through the parts of a reader.
use Rattle.std.proofs.Common.{◌≡◌, ℕ, ◌+◌, ◌*◌, ◌/◌, ◌%◌, ◌<◌, Bool, false, List, Some, length, get_or, sym, ap, ◌∙◌, arith}
use Rattle.std.specs.Prelude.{slice_get}
use Rattle.std.specs.Option.{option_map, option_map_or}
use Rattle.std.proofs.Math.Nat.{mul-add, div-add-mod}
use Rattle.std.proofs.lemmas.Nat.{div_below, mod_below}
use Rattle.isdbt_base.specs.declared.kinds.Modulation.{Modulation}
use Rattle.cell_map.specs.declared.cell.Cell.{Cell}
use Rattle.cell_map.specs.Levels.{bits_of}
use Rattle.layer_chain.specs.Streams.{AreItems}
use Rattle.layer_chain.specs.LayerCells.{bit_of_number}
use Rattle.layer_chain.specs.SymbolReader.{IsSymbol, cell_stream, bit_stream}
use Rattle.layer_chain.proofs.ReaderLaws.{cell_stream-at, bit_stream-at}

-- the numbers of the cells of a symbol
pub symbol-items : (m other : Modulation) (n y : ℕ) (cell : ℕ → ℕ → ℕ) (received : List Cell) (numbers : List ℕ) → other ≡ m → IsSymbol m cell y received → length received ≡ n → length numbers ≡ n
    → ((w : ℕ) → w < length numbers → option_map (bits_of other) (slice_get received w) ≡ Some (get_or numbers w 0)) → AreItems 0 (cell_stream n cell) (n * y) n numbers
symbol-items m other n y cell received numbers same is count size each = record {
  size = size;
  each = λ w h.
      let both : Some (get_or numbers w 0) ≡ Some (cell y w) = sym (each w (omega (arith, size, h))) ∙ ap (λ k. option_map (bits_of k) (slice_get received w)) same ∙ is.each w (omega (arith, count, h)) in
      ap (λ o. option_map_or (λ x. x) o 0) both ∙ sym (cell_stream-at n cell y w h);
}

-- the bits of the numbers of a symbol
pub bits-items : (v n y : ℕ) (late : ℕ → ℕ) (numbers : List ℕ) (bits : List Bool) → 0 < v → AreItems 0 late (n * y) n numbers → length bits ≡ v * n
    → ((e r : ℕ) → e < length numbers → r < v → get_or bits (v * e + r) false ≡ bit_of_number v (get_or numbers e 0) r) → AreItems false (bit_stream v late) (v * n * y) (v * n) bits
bits-items v n y late numbers bits some items size each = record {
  size = size;
  each = λ i h.
      let e = i / v in
      let r = i % v in
      let split : v * e + r ≡ i = div-add-mod i v in
      let below : e < n = div_below i v n some (omega (arith, h)) in
      let bit : r < v = mod_below i v some in
      let place : v * (n * y + e) + r ≡ v * n * y + i = (let m = mul-add v (n * y) e in omega (arith, m, split)) in
      ap (λ j. get_or bits j false) (sym split)
      ∙ each e r (omega (arith, items.size, below)) bit
      ∙ ap (λ b. bit_of_number v b r) (items.each e below)
      ∙ sym (bit_stream-at v late (n * y + e) r bit)
      ∙ ap (bit_stream v late) place;
}
