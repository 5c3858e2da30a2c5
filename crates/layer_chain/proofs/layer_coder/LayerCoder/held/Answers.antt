use Rattle.std.proofs.Common.{rules, ◌≡◌, ◌+◌, ◌-◌, ◌*◌, [], length, get_or, ap, subst, sym, ◌∙◌, arith}
use Rattle.isdbt_base.specs.Numbers.{cell_bits, time_adjust}
use Rattle.byte_inter.specs.BytePlaces.{byte_adjustment}
use Rattle.byte_inter.specs.Layouts.{inter_layout}
use Rattle.bit_inter.specs.BitPlaces.{bit_delay}
use Rattle.delay_line.proofs.LineLaws.{length-held_after}
use Rattle.time_inter.specs.LayerStage as time
use Rattle.layer_chain.specs.BitPaths.{path_delay}
use Rattle.layer_chain.specs.BitPaths as bit
use Rattle.layer_chain.specs.Streams.{first_of}
use Rattle.layer_chain.specs.CodedLayer.{packets_of}
use Rattle.layer_chain.specs.Held.{items_in}
use Rattle.layer_chain.specs.LayerCoder.{mode_of, layer_of, cells_of, coded_of, number_at}
use Rattle.layer_chain.proofs.HeldItems.{delays, delays-shared, items_in-delays, adjusted-items, byte-delays, bit-delays, cell-delays}
use Rattle.layer_chain.proofs.layer_coder.LayerCoder.held.Goals as goal

pub returns-clause-bytes : goal.returns-clause-bytes
returns-clause-bytes c = search rules

pub returns-clause-bits : goal.returns-clause-bits
returns-clause-bits c = search rules

pub returns-clause-cells : goal.returns-clause-cells
returns-clause-cells c = search rules

pub returns-clause-all_bytes : goal.returns-clause-all_bytes
returns-clause-all_bytes c = λ packet frames stands.
    let s = c.args.self.now in
    let items = adjusted-items (inter_layout 12 17) (byte_adjustment (packets_of s.coded)) s.coded.interleaver.line (λ p. get_or s.coded.interleaver.stage p []) _ stands.coded_stands.sender in
    let paths = byte-delays in
    let value = returns-clause-bytes c in
    omega (arith, items, paths, value)

pub returns-clause-all_bits : goal.returns-clause-all_bits
returns-clause-all_bits c = λ packet frames stands.
    let s = c.args.self.now in
    let v = cell_bits (layer_of s).modulation in
    let a = 2 * cells_of s - 120 in
    let h = first_of (number_at v (coded_of s packet)) (204 * cells_of s * frames) in
    let items : items_in (λ r. get_or (bit.lines_of s.bits) r []) v ≡ delays (path_delay v (cells_of s)) v =
    items_in-delays (λ r. get_or (bit.lines_of s.bits) r []) (path_delay v (cells_of s)) v (λ r k. ap length (stands.bits_stand r (omega (arith, stands.bit_lines, k))) ∙ length-held_after (path_delay v (cells_of s) r) 0 h) in
    let shared = delays-shared a (bit_delay v) v in
    let paths = bit-delays (layer_of s).modulation in
    let value = returns-clause-bits c in
    omega (arith, items, shared, paths, value)

pub returns-clause-all_cells : goal.returns-clause-all_cells
returns-clause-all_cells c = λ packet frames stands.
    let s = c.args.self.now in
    let a = time_adjust (mode_of s) (layer_of s).depth * cells_of s in
    subst (λ l. length s.cells.line + items_in (time.held_of s.cells.stage) l.paths ≡ a + delays l.path_delay l.paths) stands.cell_layout (adjusted-items (time.layout_of s.cells.stage) a s.cells.line (time.held_of s.cells.stage) _ stands.cells_stand)
    ∙ sym (cell-delays (mode_of s) (layer_of s))
    ∙ sym (returns-clause-cells c)
