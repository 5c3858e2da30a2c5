use Rattle.std.proofs.Common.{◌≡◌, ℕ, ◌+◌, ◌*◌, ◌%◌, ◌^◌, ◌<◌, ◌≤◌, false, List, ◌++◌, Some, length, get_or, sym, ap, subst, ◌∙◌, arith}
use Rattle.std.proofs.Math.Nat.{mul-add, mul-mod_left, mul-le-mul_left, mod-eq_of_lt}
use Rattle.std.proofs.lemmas.List.{with_items_is}
use Rattle.isdbt_base.specs.Numbers.{carriers, cell_bits, time_depth, time_adjust}
use Rattle.delay_line.specs.Adjusted.{AdjustedStandsFor}
use Rattle.cell_map.specs.Levels.{cell_of}
use Rattle.delay_line.specs.Lines.{item_of}
use Rattle.time_inter.specs.Layouts.{layer_layout}
use Rattle.time_inter.specs.LayerStage as time
use Rattle.layer_chain.specs.Streams.{AreItems, adjusted_item, first_of}
use Rattle.layer_chain.specs.BitPaths.{path_delay, late_number}
use Rattle.layer_chain.specs.BitPaths as bit
use Rattle.layer_chain.specs.CodedLayer.{packets_of, IsFrame}
use Rattle.layer_chain.specs.LayerCells.{cell_number, cell_bits_at}
use Rattle.layer_chain.specs.LayerCoder.{mode_of, layer_of, cells_of, coded_of, number_at, layer_cell_number, StandsFor}
use Rattle.layer_chain.proofs.Streams.{AreItems-read, first_of-add}
use Rattle.layer_chain.proofs.CellNumbers.{cell_bits_at-lt}
use Rattle.layer_chain.proofs.LayerCellLaws.{numbers-items, placed-items, adjusted-cells}
use Rattle.layer_chain.proofs.LayerParts.{moved}
use Rattle.layer_chain.proofs.layer_coder.LayerCoder.frame.Goals as goal

turns : (len paths cells : ℕ) → len ≡ 204 * cells → paths ≡ cells → len % paths ≡ 0
turns len paths cells is same = rw (is, same) (mul-mod_left 204 cells)

pub feed-requires-2-clause-turns : goal.feed-requires-2-clause-turns
feed-requires-2-clause-turns c = turns (length c.deref-3.result.now) _ (cells_of c.args.self.now) (omega arith) c.args.self.now.cell_paths

-- bits of a frame, and bits of a cell
abbrev frame_bits : goal.After-out-1 → ℕ
frame_bits c = 204 * cells_of c.args.self.now * cell_bits (layer_of c.args.self.now).modulation

-- ---- coded bits

coded_out : (c : goal.After-out-1) (packet : ℕ → List ℕ) (frame : ℕ) → StandsFor c.args.self.now packet frame → IsFrame (packets_of c.args.self.now.coded) packet frame c.args.packets.now
    → AreItems false (coded_of c.args.self.now packet) (frame_bits c * frame) (frame_bits c) c.frame.new.out
coded_out c packet frame stands is =
    let size : length c.frame.new.out ≡ frame_bits c = omega arith in
    record { size = size; each = λ i h. c.frame.ensures.coded packet frame stands.coded_stands is i (omega (arith, size, h)) ∙ ap (λ k. coded_of c.args.self.now packet (k * frame + i)) size }

bits_read : (c : goal.After-out-1) → c.deref.result.now ≡ c.frame.new.out
bits_read c = c.deref.ensures.value ∙ with_items_is c.args.self.now.coded_bits c.frame.new.out (omega arith)

-- ---- numbers of cells

coded_numbers : (c : goal.After-out-1) (packet : ℕ → List ℕ) (frame : ℕ) → StandsFor c.args.self.now packet frame → IsFrame (packets_of c.args.self.now.coded) packet frame c.args.packets.now
    → AreItems 0 (number_at (cell_bits (layer_of c.args.self.now).modulation) (coded_of c.args.self.now packet)) (204 * cells_of c.args.self.now * frame) (204 * cells_of c.args.self.now) c.number_cells.new.numbers
coded_numbers c packet frame stands is =
    let v = cell_bits (layer_of c.args.self.now).modulation in
    let cells = cells_of c.args.self.now in
    let coded = coded_of c.args.self.now packet in
    let bits = c.deref.result.now in
    let size : length c.number_cells.new.numbers ≡ 204 * cells = omega arith in
    let width : c.bits_per_cell-width.result ≡ v = c.bits_per_cell-width.ensures.value ∙ ap cell_bits c.args.self.now.same_modulation in
    numbers-items v cells frame coded bits c.number_cells.new.numbers
    (subst (λ xs. AreItems false coded (frame_bits c * frame) (frame_bits c) xs) (sym (bits_read c)) (coded_out c packet frame stands is)) size
    (λ e h. c.number_cells.ensures e h ∙ ap (λ k. cell_number k (λ r. get_or bits (k * e + r) false)) width)

coded_read : (c : goal.After-out-1) → c.deref-2.result.now ≡ c.number_cells.new.numbers
coded_read c = c.deref-2.ensures.value ∙ with_items_is c.args.self.now.coded_numbers c.number_cells.new.numbers (omega arith)

-- ---- bits at their places

numbers_out : (c : goal.After-out-1) (packet : ℕ → List ℕ) (frame : ℕ) → StandsFor c.args.self.now packet frame → IsFrame (packets_of c.args.self.now.coded) packet frame c.args.packets.now
    → AreItems 0 (layer_cell_number (cell_bits (layer_of c.args.self.now).modulation) (cells_of c.args.self.now) (coded_of c.args.self.now packet)) (204 * cells_of c.args.self.now * frame) (204 * cells_of c.args.self.now) c.feed.new.output
numbers_out c packet frame stands is =
    let v = cell_bits (layer_of c.args.self.now).modulation in
    let cells = cells_of c.args.self.now in
    let coded = coded_of c.args.self.now packet in
    let h = first_of (number_at v coded) (204 * cells * frame) in
    let input = c.deref-2.result.now in
    let given = c.feed.ensures.given (path_delay v cells) h stands.bits_stand in
    placed-items v cells (204 * cells * frame) (204 * cells) coded input c.feed.new.output
    (subst (λ xs. AreItems 0 (number_at v coded) (204 * cells * frame) (204 * cells) xs) (sym (coded_read c)) (coded_numbers c packet frame stands is)) (omega arith)
    (λ k inside. given k inside ∙ ap (λ w. late_number w (path_delay v cells) (item_of 0 (h ++ input)) (length h + k)) stands.bit_lines)

numbers_in : (c : goal.After-out-1) (packet : ℕ → List ℕ) (frame : ℕ) → StandsFor c.args.self.now packet frame → IsFrame (packets_of c.args.self.now.coded) packet frame c.args.packets.now
    → AreItems 0 (layer_cell_number (cell_bits (layer_of c.args.self.now).modulation) (cells_of c.args.self.now) (coded_of c.args.self.now packet)) (204 * cells_of c.args.self.now * frame) (length c.deref-3.result.now) c.deref-3.result.now
numbers_in c packet frame stands is =
    AreItems-read 0 _ (204 * cells_of c.args.self.now * frame) (204 * cells_of c.args.self.now) c.feed.new.output c.deref-3.result.now (numbers_out c packet frame stands is)
    (c.deref-3.ensures.value ∙ with_items_is c.args.self.now.numbers c.feed.new.output (omega arith))

numbers_size : (c : goal.After-out-1) → length c.deref-3.result.now ≡ 204 * cells_of c.args.self.now
numbers_size c = omega arith

-- ---- numbers at their places

cells_out : (c : goal.After-out-1) (packet : ℕ → List ℕ) (frame : ℕ) → StandsFor c.args.self.now packet frame → IsFrame (packets_of c.args.self.now.coded) packet frame c.args.packets.now
    → (i : ℕ) → i < 204 * cells_of c.args.self.now → get_or c.feed-2.new.output i 0
    ≡ adjusted_item (layer_layout (time_depth (mode_of c.args.self.now) (layer_of c.args.self.now).depth) (carriers (mode_of c.args.self.now)) (layer_of c.args.self.now).segments)
    (time_adjust (mode_of c.args.self.now) (layer_of c.args.self.now).depth * cells_of c.args.self.now)
    (layer_cell_number (cell_bits (layer_of c.args.self.now).modulation) (cells_of c.args.self.now) (coded_of c.args.self.now packet)) (204 * cells_of c.args.self.now * frame + i)
cells_out c packet frame stands is i h =
    let a = time_adjust (mode_of c.args.self.now) (layer_of c.args.self.now).depth * cells_of c.args.self.now in
    let n = 204 * cells_of c.args.self.now * frame in
    let stream = layer_cell_number (cell_bits (layer_of c.args.self.now).modulation) (cells_of c.args.self.now) (coded_of c.args.self.now packet) in
    let given = c.feed-2.ensures.given a stream n stands.cells_stand (numbers_in c packet frame stands is) in
    (subst (λ l. AreItems l.zero (adjusted_item l a stream) n (length c.deref-3.result.now) c.feed-2.new.output) stands.cell_layout given).each i (let e = numbers_size c in omega (arith, e, h))

cells_read : (c : goal.After-out-1) → c.deref-4.result.now ≡ c.feed-2.new.output
cells_read c = c.deref-4.ensures.value ∙ with_items_is c.args.self.now.placed_numbers c.feed-2.new.output (omega arith)

cells_size : (c : goal.After-out-1) → length c.deref-4.result.now ≡ 204 * cells_of c.args.self.now
cells_size c = omega arith

pub returns-clause-cells : goal.returns-clause-cells
returns-clause-cells c = λ packet frame stands is y w h k.
    let mode = mode_of c.args.self.now in
    let l = layer_of c.args.self.now in
    let cells = cells_of c.args.self.now in
    let coded = coded_of c.args.self.now packet in
    let place : cells * y + w < 204 * cells = (let next : y + 1 ≤ 204 = omega arith in let m = mul-le-mul_left cells next in let e = mul-add cells y 1 in omega (arith, m, e, k)) in
    let at : 204 * cells * frame + (cells * y + w) ≡ cells * (204 * frame + y) + w = (let e = mul-add cells (204 * frame) y in omega (arith, e)) in
    let number : get_or c.deref-4.result.now (cells * y + w) 0 ≡ cell_bits_at mode l coded (204 * frame + y) w =
    ap (λ xs. get_or xs (cells * y + w) 0) (cells_read c) ∙ cells_out c packet frame stands is (cells * y + w) place
    ∙ ap (adjusted_item (layer_layout (time_depth mode l.depth) (carriers mode) l.segments) (time_adjust mode l.depth * cells) (layer_cell_number (cell_bits l.modulation) cells coded)) at
    ∙ adjusted-cells mode l coded (204 * frame + y) w k in
    c.map_cells.ensures (cells * y + w) (let e = cells_size c in omega (arith, e, place))
    ∙ ap (λ m. Some (cell_of m (get_or c.deref-4.result.now (cells * y + w) 0 % 2 ^ cell_bits m))) c.args.self.now.same_modulation
    ∙ ap (λ b. Some (cell_of l.modulation (b % 2 ^ cell_bits l.modulation))) number
    ∙ ap (λ b. Some (cell_of l.modulation b)) (mod-eq_of_lt (cell_bits_at-lt mode l coded (204 * frame + y) w))

pub returns-clause-state : goal.returns-clause-state
returns-clause-state c = λ packet frame stands is.
    let mode = mode_of c.args.self.now in
    let l = layer_of c.args.self.now in
    let v = cell_bits l.modulation in
    let cells = cells_of c.args.self.now in
    let coded = coded_of c.args.self.now packet in
    let numbers = layer_cell_number v cells coded in
    let coded_cells = number_at v coded in
    let items = subst (λ xs. AreItems 0 coded_cells (204 * cells * frame) (204 * cells) xs) (sym (coded_read c)) (coded_numbers c packet frame stands is) in
    let more : first_of coded_cells (204 * cells * frame) ++ c.deref-2.result.now ≡ first_of coded_cells (204 * cells * (frame + 1)) =
    first_of-add 0 coded_cells (204 * cells * frame) (204 * cells) c.deref-2.result.now items ∙ ap (first_of coded_cells) (let m = mul-add (204 * cells) frame 1 in omega (arith, m)) in
    let next : 204 * cells * frame + length c.deref-3.result.now ≡ 204 * cells * (frame + 1) = (let e = numbers_size c in let m = mul-add (204 * cells) frame 1 in omega (arith, e, m)) in
    moved _ packet (frame + 1) mode l c.frame.ensures.mode c.frame.ensures.layer record {
      coded_stands = c.frame.ensures.state packet frame stands.coded_stands is;
      bit_lines = c.feed.ensures.paths ∙ stands.bit_lines;
      bits_stand = subst (λ k. bit.StandsFor (path_delay v cells) (bit.lines_of c.feed.new.self) k) more (c.feed.ensures.state (path_delay v cells) (first_of coded_cells (204 * cells * frame)) stands.bits_stand);
      cell_layout = c.feed-2.ensures.layout ∙ stands.cell_layout;
      cells_stand = subst (λ y. AdjustedStandsFor y (time_adjust mode l.depth * cells) c.feed-2.new.self.line (time.held_of c.feed-2.new.self.stage) (first_of numbers (204 * cells * (frame + 1)))) (sym c.feed-2.ensures.layout)
          (subst (λ n. AdjustedStandsFor (time.layout_of c.args.self.now.cells.stage) (time_adjust mode l.depth * cells) c.feed-2.new.self.line (time.held_of c.feed-2.new.self.stage) (first_of numbers n)) next
          (c.feed-2.ensures.state (time_adjust mode l.depth * cells) numbers (204 * cells * frame) stands.cells_stand (numbers_in c packet frame stands is)));
    }
