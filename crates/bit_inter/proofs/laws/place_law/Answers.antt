use Rattle.std.proofs.Common.{arith}
use Rattle.bit_inter.proofs.PlaceLaws.{bit_place-shift, place-bit, place-cell, shift-most, interleaved_bits-place, place-one, interleaved_bits-none, interleaved_bits-agree}
use Rattle.bit_inter.proofs.laws.place_law.Goals as goal

pub returns : goal.returns
returns c =
    let v = c.args.v in
    let cells = c.args.cells in
    record {
      at = λ coded i. interleaved_bits-place coded v cells i;
      cell = λ i. place-cell v cells i (omega arith);
      bit = λ i. place-bit v cells i;
      within = λ i. (omega (arith, bit_place-shift v cells i), omega (arith, bit_place-shift v cells i, shift-most v cells i (omega arith) c.requires.cells));
      one = λ i j same. place-one v cells i j same;
      none = λ coded q none. interleaved_bits-none coded v cells q none;
      prefix = λ coded other q agree. interleaved_bits-agree coded other v cells q agree;
    }
