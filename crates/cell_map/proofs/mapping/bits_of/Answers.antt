use Rattle.std.proofs.Common.{◌≡◌, ◌<◌, ◌^◌, arith, rules, subst, sym, w8, SFits}
use Rattle.std.proofs.lemmas.Int.{to_z-of_z}
use Rattle.cell_map.specs.Levels.{bits_of, axis_bits_of, apart}
use Rattle.isdbt_base.specs.Numbers.{cell_bits}
use Rattle.cell_map.proofs.LevelLaws.{bits_of-lt}
use Rattle.cell_map.proofs.mapping.bits_of.Goals as goal

pub returns-clause-value : goal.returns-clause-value
unfolding bits_of
returns-clause-value c =
    let fits_i : SFits w8 c.args.cell.i = search rules in
    let fits_q : SFits w8 c.args.cell.q = search rules in
    let i = c.axis_bits.ensures.value in
    let q = c.axis_bits-2.ensures.value in
    let read_i : c.axis_bits.result ≡ apart (axis_bits_of c.args.modulation c.args.cell.i) = grind (arith, to_z-of_z, i) in
    let read_q : c.axis_bits-2.result ≡ apart (axis_bits_of c.args.modulation c.args.cell.q) = grind (arith, to_z-of_z, q) in
    omega (arith, read_i, read_q)

pub returns-clause-most : goal.returns-clause-most
returns-clause-most c =
    subst (λ n. n < 2 ^ cell_bits c.args.modulation) (sym (returns-clause-value c)) (bits_of-lt c.args.modulation c.args.cell)
