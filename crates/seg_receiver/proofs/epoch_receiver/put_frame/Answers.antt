use Rattle.std.proofs.Common.{◌≤◌, length, drop, subst, sym, ◌∙◌}
use Rattle.std.proofs.lemmas.List.{take_at}
use Rattle.seg_receiver.specs.CellStream.{segment_cells}
use Rattle.seg_receiver.specs.EpochReceiver.{frame_room, IsReceiverOf, StandsFor}
use Rattle.seg_receiver.specs.declared.epoch_receiver.EpochReceiver.{EpochReceiver}
use Rattle.seg_receiver.proofs.FrameParts.{part_size}
use Rattle.seg_receiver.proofs.EpochParts.{full-frame, part-frame, none-before}
use Rattle.seg_receiver.proofs.epoch_receiver.put_frame.Goals as goal

pub returns-in-Full-clause-given : goal.returns-in-Full-clause-given
returns-in-Full-clause-given c = λ partial mode guard s cell start h is stands.
    let here = subst (λ (r : EpochReceiver). StandsFor r cell start h) c.in-Full.is stands in
    let kind = subst (IsReceiverOf partial mode guard s) c.in-Full.is is in
    let size = c.frame_bytes-size.result in
    take_at c.frame.new.out (drop size c.args.out.now) size
    (part_size c.args.out.now c.frame.new.out size _ c.frame_bytes-size.ensures.value (subst (λ (r : EpochReceiver). frame_room r ≤ length c.args.out.now) c.in-Full.is c.requires.room) c.frame.auto.out)
    ∙ c.frame.ensures.frame cell start h here ∙ full-frame partial mode guard s c.in-Full.full cell start h c.args.tag.now kind

pub returns-then-frame-clause-given : goal.returns-then-frame-clause-given
returns-then-frame-clause-given c = λ partial mode guard s cell start h is stands.
    let here = subst (λ (r : EpochReceiver). StandsFor r cell start h) c.in-Partial.is stands in
    let kind = subst (IsReceiverOf partial mode guard s) c.in-Partial.is is in
    let size = c.frame_bytes-size-in-Partial.result in
    take_at c.frame-in-Partial.new.out (drop size c.args.out.now) size
    (part_size c.args.out.now c.frame-in-Partial.new.out size _ c.frame_bytes-size-in-Partial.ensures.value (subst (λ (r : EpochReceiver). frame_room r ≤ length c.args.out.now) c.in-Partial.is c.requires.room) c.frame-in-Partial.auto.out)
    ∙ c.frame-in-Partial.ensures.packets (segment_cells cell) start h here c.if-frame.true ∙ part-frame partial mode guard s c.in-Partial.part cell start h c.args.tag.now kind

pub returns-then-frame-clause-state : goal.returns-then-frame-clause-state
returns-then-frame-clause-state c = λ cell start h stands.
    c.frame-in-Partial.ensures.state (segment_cells cell) start h (subst (λ (r : EpochReceiver). StandsFor r cell start h) c.in-Partial.is stands)

pub returns-else-frame-clause-given : goal.returns-else-frame-clause-given
returns-else-frame-clause-given c = λ partial mode guard s cell start h is stands.
    let here = subst (λ (r : EpochReceiver). StandsFor r cell start h) c.in-Partial.is stands in
    let kind = subst (IsReceiverOf partial mode guard s) c.in-Partial.is is in
    none-before _ _ (segment_cells cell) start h (sym c.if-frame.false ∙ c.frame-in-Partial.ensures.begun (segment_cells cell) start h here) ∙ part-frame partial mode guard s c.in-Partial.part cell start h c.args.tag.now kind

pub returns-else-frame-clause-state : goal.returns-else-frame-clause-state
returns-else-frame-clause-state c = λ cell start h stands.
    c.frame-in-Partial.ensures.state (segment_cells cell) start h (subst (λ (r : EpochReceiver). StandsFor r cell start h) c.in-Partial.is stands)
