use Rattle.std.proofs.Common.{◌+◌, ◌∙◌}
use Rattle.isdbt_base.specs.declared.kinds.Layer.TheVariants.{A, B, C}
use Rattle.coder_core.specs.LayerPart.{symbol_cells}
use Rattle.coder_core.proofs.EpochFrames.{part_of, frame_of, frame-is}
use Rattle.coder_core.proofs.coder.Coder.frame.Goals as goal

pub returns-clause-cells : goal.returns-clause-cells
returns-clause-cells c = λ frames start g stands is.
    let self = c.args.self.now in
    let packets_a = frame_of self.mode self.setting c.args.bytes.now frames (start + g) A self.a self.a_mode self.a_layer is in
    let packets_b = frame_of self.mode self.setting c.args.bytes.now frames (start + g) B self.b self.b_mode self.b_layer is in
    let packets_c = frame_of self.mode self.setting c.args.bytes.now frames (start + g) C self.c self.c_mode self.c_layer is in
    c.write.ensures
    ∙ frame-is self.mode self.setting frames start g c.args.word.now (symbol_cells c.code.new.self) (symbol_cells c.code-2.new.self) (symbol_cells c.code-3.new.self) c.acceptance_law.ensures
    (part_of self.mode self.setting frames start g A c.code.new.self (c.code.ensures.mode ∙ self.a_mode) (c.code.ensures.layer ∙ self.a_layer) (c.code.ensures.cells frames start g stands.a_stands packets_a))
    (part_of self.mode self.setting frames start g B c.code-2.new.self (c.code-2.ensures.mode ∙ self.b_mode) (c.code-2.ensures.layer ∙ self.b_layer) (c.code-2.ensures.cells frames start g stands.b_stands packets_b))
    (part_of self.mode self.setting frames start g C c.code-3.new.self (c.code-3.ensures.mode ∙ self.c_mode) (c.code-3.ensures.layer ∙ self.c_layer) (c.code-3.ensures.cells frames start g stands.c_stands packets_c))

pub returns-clause-state : goal.returns-clause-state
returns-clause-state c = λ frames start g stands is.
    let self = c.args.self.now in
    record {
      a_stands = c.code.ensures.state frames start g stands.a_stands (frame_of self.mode self.setting c.args.bytes.now frames (start + g) A self.a self.a_mode self.a_layer is);
      b_stands = c.code-2.ensures.state frames start g stands.b_stands (frame_of self.mode self.setting c.args.bytes.now frames (start + g) B self.b self.b_mode self.b_layer is);
      c_stands = c.code-3.ensures.state frames start g stands.c_stands (frame_of self.mode self.setting c.args.bytes.now frames (start + g) C self.c self.c_mode self.c_layer is);
    }
