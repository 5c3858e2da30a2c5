use Rattle.std.proofs.Common.{◌≡◌, [], get_or, length, ap, sym, subst, ◌∙◌, arith}
use Rattle.std.proofs.lemmas.List.{with_items_is}
use Rattle.coder_core.specs.UsedLayers.{AreCellsOf}
use Rattle.coder_core.proofs.PartFrames.{ArePackets, part-cells, part-state}
use Rattle.coder_core.proofs.layer_part.LayerPart.code.Goals as goal

packets : (c : goal.After-self-3-1) → ArePackets c.args.self.now.mode c.args.self.now.layer c.args.layer c.args.frame.now c.deref.result.now
packets c = λ j h.
    let value : c.deref.result.now ≡ c.gather.new.packets = c.deref.ensures.value ∙ with_items_is c.args.self.now.packets c.gather.new.packets (omega arith) in
    ap (λ xs. get_or xs j []) value ∙ c.gather.ensures j (let e : length c.gather.new.packets ≡ c.args.self.now.packets.len = omega arith in omega (arith, e, h, c.args.self.now.packet_room))

pub returns-clause-cells : goal.returns-clause-cells
returns-clause-cells c = λ frames start g stands is.
    let self = c.args.self.now in
    subst (AreCellsOf self.mode self.layer c.args.layer frames start g) (sym (with_items_is self.cells c.code_used.new.cells (omega arith)))
    (part-cells self.mode self.layer self.coder c.code_used.new.coder c.deref.result.now c.code_used.new.cells c.args.layer c.args.frame.now frames start g self.fits c.code_used.ensures (packets c) stands is)

pub returns-clause-state : goal.returns-clause-state
returns-clause-state c = λ frames start g stands is.
    let self = c.args.self.now in
    part-state self.mode self.layer self.coder c.code_used.new.coder c.deref.result.now c.code_used.new.cells c.args.layer c.args.frame.now frames start g self.fits c.code_used.ensures (packets c) stands is
