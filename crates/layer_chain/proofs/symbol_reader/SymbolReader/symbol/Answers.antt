use Rattle.std.proofs.Common.{◌≡◌, ℕ, ◌+◌, ◌*◌, ◌%◌, ◌≤◌, Bool, false, length, get_or, refl, sym, ap, subst, ◌∙◌, arith}
use Rattle.std.proofs.Math.Nat.{mul-add, mod_self, mul-mod_right}
use Rattle.std.proofs.lemmas.List.{with_items_is}
use Rattle.isdbt_base.specs.Numbers.{carriers, cell_bits, time_depth}
use Rattle.delay_line.specs.Stages.{Layout, PassesOn, stage_item}
use Rattle.delay_line.specs.Stages as stages
use Rattle.bit_inter.specs.Layouts.{deinter_layout}
use Rattle.time_inter.specs.Layouts.{layer_deinter_layout}
use Rattle.time_inter.specs.LayerPartner as time
use Rattle.layer_chain.specs.BitDeinterleaver as bit
use Rattle.layer_chain.specs.LayerCells.{bit_of_number}
use Rattle.layer_chain.specs.Streams.{AreItems, first_of}
use Rattle.layer_chain.specs.SymbolReader.{mode_of, layer_of, cells_of, bits_of_symbol, read_delay, IsSymbol, StandsFor, cell_stream, late_stream, bit_stream}
use Rattle.layer_chain.proofs.StageFrames.{StagePiece, stage_piece}
use Rattle.layer_chain.proofs.ReaderLaws.{some_bits, enough_cells, read-behind}
use Rattle.layer_chain.proofs.ReaderFrames.{symbol-items, bits-items}
use Rattle.layer_chain.proofs.symbol_reader.SymbolReader.symbol.Goals as goal

turns : (len paths cells : ℕ) → len ≡ cells → paths ≡ cells → len % paths ≡ 0
turns len paths cells is same = rw (is, same) (mod_self cells)

whole : (paths cells y : ℕ) → paths ≡ cells → cells * y % paths ≡ 0
whole paths cells y same = rw same (mul-mod_right cells y)

pub feed-requires-clause-turns : goal.feed-requires-clause-turns
feed-requires-clause-turns c = turns (length c.deref.result.now) _ (cells_of c.args.self.now) (omega arith) c.args.self.now.cell_paths

-- the streams of the layer that is read
abbrev cells_in : goal.After-slice_known-2-1 → (ℕ → ℕ → ℕ) → ℕ → ℕ
cells_in c cell = cell_stream (cells_of c.args.self.now) cell

abbrev bits_in : goal.After-slice_known-2-1 → (ℕ → ℕ → ℕ) → ℕ → Bool
bits_in c cell = bit_stream (cell_bits (layer_of c.args.self.now).modulation) (late_stream (mode_of c.args.self.now) (layer_of c.args.self.now) cell)

-- ---- numbers of cells

numbers_fed : (c : goal.After-slice_known-2-1) (cell : ℕ → ℕ → ℕ) (y : ℕ) → IsSymbol (layer_of c.args.self.now).modulation cell y c.args.cells.now
    → AreItems 0 (cells_in c cell) (cells_of c.args.self.now * y) (cells_of c.args.self.now) c.deref.result.now
numbers_fed c cell y is =
    let n = cells_of c.args.self.now in
    let numbers = c.read_numbers.new.numbers in
    let read : c.deref.result.now ≡ numbers = c.deref.ensures.value ∙ with_items_is c.args.self.now.numbers numbers (omega arith) in
    subst (λ xs. AreItems 0 (cells_in c cell) (n * y) n xs) (sym read)
    (symbol-items (layer_of c.args.self.now).modulation c.modulation-modulation.result n y cell c.args.cells.now numbers c.modulation-modulation.ensures is c.requires.size (omega arith) c.read_numbers.ensures)

late : (c : goal.After-slice_known-2-1) (cell : ℕ → ℕ → ℕ) (y : ℕ) → StandsFor c.args.self.now cell y → IsSymbol (layer_of c.args.self.now).modulation cell y c.args.cells.now
    → StagePiece (layer_deinter_layout (time_depth (mode_of c.args.self.now) (layer_of c.args.self.now).depth) (carriers (mode_of c.args.self.now)) (layer_of c.args.self.now).segments)
    (cells_in c cell) (cells_of c.args.self.now * y) (cells_of c.args.self.now) (time.held_of c.feed.new.self) c.feed.new.output
late c cell y stands is =
    let s = c.args.self.now in
    let n = cells_of s in
    let paths = s.cell_paths in
    subst (λ l. StagePiece l (cells_in c cell) (n * y) n (time.held_of c.feed.new.self) c.feed.new.output) stands.cell_layout
    (stage_piece (time.layout_of s.cells) (cells_in c cell) (n * y) n c.deref.result.now c.feed.new.output (time.held_of s.cells) (time.held_of c.feed.new.self)
    stands.cells_stand (whole _ n y paths) (turns n _ n refl paths) (omega arith) c.feed.ensures.held (numbers_fed c cell y is))

-- ---- their bits

bits_fed : (c : goal.After-slice_known-2-1) (cell : ℕ → ℕ → ℕ) (y : ℕ) → StandsFor c.args.self.now cell y → IsSymbol (layer_of c.args.self.now).modulation cell y c.args.cells.now
    → AreItems false (bits_in c cell) (bits_of_symbol (mode_of c.args.self.now) (layer_of c.args.self.now) * y) (bits_of_symbol (mode_of c.args.self.now) (layer_of c.args.self.now)) c.deref-3.result.now
bits_fed c cell y stands is =
    let s = c.args.self.now in
    let n = cells_of s in
    let v = cell_bits (layer_of s).modulation in
    let stream = late_stream (mode_of s) (layer_of s) cell in
    let numbers = c.deref-2.result.now in
    let bits = c.put_bits.new.bits in
    let width : c.bits_per_cell-width.result ≡ v = c.bits_per_cell-width.ensures.value ∙ ap cell_bits c.modulation-modulation.ensures in
    let read : numbers ≡ c.feed.new.output = c.deref-2.ensures.value ∙ with_items_is s.late_numbers c.feed.new.output (omega arith) in
    let known : c.deref-3.result.now ≡ bits = c.deref-3.ensures.value ∙ with_items_is s.late_bits bits (omega arith) in
    let items : AreItems 0 stream (n * y) n numbers = subst (λ xs. AreItems 0 stream (n * y) n xs) (sym read) (late c cell y stands is).given in
    subst (λ xs. AreItems false (bits_in c cell) (v * n * y) (v * n) xs) (sym known)
    (bits-items v n y stream numbers bits (some_bits (layer_of s).modulation) items (omega arith)
    (λ e r h k. subst (λ w. get_or bits (w * e + r) false ≡ bit_of_number w (get_or numbers e 0) r) width (c.put_bits.ensures e r h (omega (arith, width, k)))))

-- ---- bits behind both deinterleavers

given : (c : goal.After-slice_known-2-1) (cell : ℕ → ℕ → ℕ) (y : ℕ) → StandsFor c.args.self.now cell y → IsSymbol (layer_of c.args.self.now).modulation cell y c.args.cells.now
    → StagePiece (deinter_layout (cell_bits (layer_of c.args.self.now).modulation)) (bits_in c cell) (bits_of_symbol (mode_of c.args.self.now) (layer_of c.args.self.now) * y) (bits_of_symbol (mode_of c.args.self.now) (layer_of c.args.self.now))
    (bit.held_of c.feed-2.new.self) c.feed-2.new.output
given c cell y stands is =
    let s = c.args.self.now in
    let n = cells_of s in
    let v = cell_bits (layer_of s).modulation in
    let l = deinter_layout v in
    let before : v * n * y % v ≡ 0 = (let e : v * n * y ≡ v * (n * y) = omega arith in rw e (mul-mod_right v (n * y))) in
    stage_piece l (bits_in c cell) (v * n * y) (v * n) c.deref-3.result.now c.feed-2.new.output (bit.held_of s.bits) (bit.held_of c.feed-2.new.self)
    (subst (λ k. stages.StandsFor k (bit.held_of s.bits) (first_of (bits_in c cell) (v * n * y))) stands.bit_layout stands.bits_stand) before (mul-mod_right v n) (omega (arith, c.requires.room))
    (subst (λ k. PassesOn k (bit.held_of s.bits) c.deref-3.result.now c.feed-2.new.output (bit.held_of c.feed-2.new.self)) stands.bit_layout c.feed-2.ensures.held) (bits_fed c cell y stands is)

pub returns-clause-bits : goal.returns-clause-bits
returns-clause-bits c = λ cell y stands is i h.
    let s = c.args.self.now in
    let least : 60 ≤ cells_of s = rw (sym s.cell_paths) (enough_cells s.cells.mode s.cells.segments s.cells.least_segments) in
    (given c cell (y + read_delay (mode_of s) (layer_of s)) stands is).given.each i h ∙ read-behind (mode_of s) (layer_of s) cell y i least

pub returns-clause-state : goal.returns-clause-state
returns-clause-state c = λ cell symbols stands is.
    let s = c.args.self.now in
    let n = cells_of s in
    let v = cell_bits (layer_of s).modulation in
    let mode = mode_of s in
    let l = layer_of s in
    let next : n * symbols + n ≡ n * (symbols + 1) = (let m = mul-add n symbols 1 in omega (arith, m)) in
    let more : v * n * symbols + v * n ≡ v * n * (symbols + 1) = (let m = mul-add (v * n) symbols 1 in omega (arith, m)) in
    let cell_layout = c.feed.ensures.layout ∙ stands.cell_layout in
    let bit_layout = c.feed-2.ensures.layout ∙ stands.bit_layout in
    record {
      cell_layout = cell_layout;
      cells_stand = subst (λ k. stages.StandsFor k (time.held_of c.feed.new.self) (first_of (cells_in c cell) (n * (symbols + 1)))) (sym cell_layout)
          (subst (λ k. stages.StandsFor (layer_deinter_layout (time_depth mode l.depth) (carriers mode) l.segments) (time.held_of c.feed.new.self) (first_of (cells_in c cell) k)) next (late c cell symbols stands is).stands);
      bit_layout = bit_layout;
      bits_stand = subst (λ k. stages.StandsFor k (bit.held_of c.feed-2.new.self) (first_of (bits_in c cell) (v * n * (symbols + 1)))) (sym bit_layout)
          (subst (λ k. stages.StandsFor (deinter_layout v) (bit.held_of c.feed-2.new.self) (first_of (bits_in c cell) k)) more (given c cell symbols stands is).stands);
    }
