use Rattle.std.proofs.Common.{◌≡◌, ℕ, ◌*◌, [], refl, sym, ap, subst, ◌∙◌, arith}
use Rattle.isdbt_base.specs.Numbers.{layer_cells, cell_bits, time_adjust}
use Rattle.delay_line.specs.Adjusted.{AdjustedStandsFor}
use Rattle.time_inter.specs.LayerStage as time
use Rattle.layer_chain.specs.Streams.{first_of}
use Rattle.layer_chain.specs.CodedBits.{layer_coded_bit}
use Rattle.layer_chain.specs.BitPaths as bit
use Rattle.layer_chain.specs.declared.bit_paths.BitPaths.{BitPaths}
use Rattle.layer_chain.specs.LayerCoder.{number_at, layer_cell_number}
use Rattle.layer_chain.proofs.Streams.{first_of-none}
use Rattle.layer_chain.proofs.OpenedLayer.{new_adjusted}
use Rattle.layer_chain.proofs.LayerParts.{moved}
use Rattle.layer_chain.proofs.layer_coder.LayerCoder.open.Goals as goal

products : {a b x y : ℕ} → a ≡ x → b ≡ y → a * b ≡ x * y
products p q = rw (p, q) refl

-- new lines stand for nothing of any stream
opened_bits : (s : BitPaths) (v cells : ℕ) (stream : ℕ → ℕ) (w width n : ℕ) → width ≡ v → w ≡ cells → bit.StandsFor (bit.path_delay width w) (bit.lines_of s) [] → n ≡ 0
    → bit.StandsFor (bit.path_delay v cells) (bit.lines_of s) (first_of stream n)
opened_bits s v cells stream w width n is same stands none =
    let one = subst (λ k. bit.StandsFor (bit.path_delay k w) (bit.lines_of s) []) is stands in
    let both = subst (λ k. bit.StandsFor (bit.path_delay v k) (bit.lines_of s) []) same one in
    rw (first_of-none stream n none) both

pub returns-clause-state : goal.returns-clause-state
returns-clause-state c = λ packet.
    let mode = c.args.mode in
    let l = c.args.setting.now in
    let v = cell_bits l.modulation in
    let cells = layer_cells mode l in
    let coded = layer_coded_bit mode l packet in
    let numbers = layer_cell_number v cells coded in
    moved _ packet 0 mode l c.in_ok-coded.ensures.mode c.in_ok-coded.ensures.layer record {
      coded_stands = c.in_ok-coded.ensures.state packet;
      bit_lines = c.in_ok-bits.ensures.paths ∙ ap cell_bits c.modulation-modulation.ensures;
      bits_stand = opened_bits c.in_ok-bits.bits v cells (number_at v coded) _ _ (204 * cells * 0) (ap cell_bits c.modulation-modulation.ensures) c.cells-symbol.ensures.value
          c.in_ok-bits.ensures.stands (omega arith);
      cell_layout = ap time.layout_of c.in_ok-cells.ensures.stage ∙ c.in_ok-stage.ensures.layout;
      cells_stand = subst (λ st. AdjustedStandsFor (time.layout_of st) (time_adjust mode l.depth * cells) c.in_ok-cells.cells.line (time.held_of st) (first_of numbers (204 * cells * 0))) (sym c.in_ok-cells.ensures.stage)
          (new_adjusted (time.layout_of c.in_ok-stage.stage) _ (time_adjust mode l.depth * cells) numbers (204 * cells * 0) c.in_ok-cells.cells.line (time.held_of c.in_ok-stage.stage) (c.in_ok-cells.ensures.stands c.in_ok-stage.ensures.stands) (products (c.adjust_of.ensures.value ∙ ap (time_adjust mode) c.depth.ensures) c.cells-symbol.ensures.value) (omega arith));
    }
