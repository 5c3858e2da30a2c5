use Rattle.std.proofs.Common.{◌≡◌, ◌+◌, ◌-◌, ◌*◌, ◌/◌, length, replicate, ap, ◌∙◌, arith}
use Rattle.isdbt_base.specs.Numbers.{cell_bits}
use Rattle.layer_chain.specs.BitPaths.{path_delay}
use Rattle.layer_chain.proofs.BitPathLaws.{StandsFor-new, length-new_lines, new_lines-none, new_lines-more}
use Rattle.layer_chain.proofs.bit_paths.BitPaths.open.Goals as goal

pub loop-bit-init : goal.loop-bit-init
loop-bit-init c = c.new-lines.ensures.items ∙ new_lines-none (path_delay (cell_bits c.args.modulation) c.args.cells)

pub loop-bit-preserved : goal.loop-bit-preserved
loop-bit-preserved c =
    let delay = path_delay (cell_bits c.args.modulation) c.args.cells in
    let n = c.loop-bit.bit in
    let late : 2 * c.args.cells - 120 + 120 * n / (c.bits_per_cell-width.result - 1) ≡ delay n = ap (λ v. 2 * c.args.cells - 120 + 120 * n / (v - 1)) c.bits_per_cell-width.ensures.value in
    c.in_ok-push.ensures.items ∙ new_lines-more delay n c.loop-bit.lines.items c.in_ok-line.line c.loop-bit.invariant (c.in_ok-line.ensures ∙ ap (λ d. replicate d 0) late)

pub returns-clause-paths : goal.returns-clause-paths
returns-clause-paths c =
    let all : c.loop-bit.bit ≡ cell_bits c.args.modulation = omega (arith, c.bits_per_cell-width.ensures.value) in
    ap length c.loop-bit.invariant ∙ length-new_lines (path_delay (cell_bits c.args.modulation) c.args.cells) c.loop-bit.bit ∙ all

pub returns-clause-stands : goal.returns-clause-stands
returns-clause-stands c = StandsFor-new (path_delay (cell_bits c.args.modulation) c.args.cells) c.loop-bit.lines.items c.loop-bit.bit c.loop-bit.invariant
