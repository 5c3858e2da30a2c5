use Rattle.std.proofs.Common.{arith, sym}
use Rattle.std.proofs.lemmas.List.{length-take-le}
use Rattle.layer_chain.proofs.outer_decoder.packet_of.Goals as goal

pub slice_bounds-read-end : goal.slice_bounds-read-end
slice_bounds-read-end c = sym (length-take-le 188 c.args.word.now (omega (arith, c.requires.size)))

pub read-requires : goal.read-requires
read-requires c = length-take-le 188 c.args.word.now (omega (arith, c.requires.size))
