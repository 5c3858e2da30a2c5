use Rattle.std.proofs.Common.{rules, sym, ◌∙◌}
use Rattle.layer_chain.specs.LayerDecoder.{mode_of, layer_of}
use Rattle.layer_chain.proofs.BytesHeld.{bytes-held}
use Rattle.layer_chain.proofs.ReaderHeld.{reader-bits, reader-cells}
use Rattle.layer_chain.proofs.layer_decoder.LayerDecoder.held.Goals as goal

pub returns-clause-all_bytes : goal.returns-clause-all_bytes
returns-clause-all_bytes c = λ cell frames stands. bytes-held _ _ stands.bytes_stand

pub returns-clause-bits : goal.returns-clause-bits
returns-clause-bits c = search rules

pub returns-clause-cells : goal.returns-clause-cells
returns-clause-cells c = search rules

pub returns-clause-all_bits : goal.returns-clause-all_bits
returns-clause-all_bits c = λ cell frames stands. reader-bits (mode_of c.args.self.now) (layer_of c.args.self.now) c.args.self.now.reader cell _ stands.reader_stands ∙ sym (returns-clause-bits c)

pub returns-clause-all_cells : goal.returns-clause-all_cells
returns-clause-all_cells c = λ cell frames stands. reader-cells (mode_of c.args.self.now) (layer_of c.args.self.now) c.args.self.now.reader cell _ stands.reader_stands ∙ sym (returns-clause-cells c)
