use Rattle.std.proofs.Common.{◌+◌, subst}
use Rattle.seg_receiver.specs.CellStream.{segment_cells}
use Rattle.seg_receiver.specs.Receiver.{IsSymbolOf}
use Rattle.seg_receiver.specs.EpochReceiver.{mode_of, segments_of, symbols_of, StandsFor}
use Rattle.seg_receiver.specs.declared.epoch_receiver.EpochReceiver.{EpochReceiver}
use Rattle.seg_receiver.proofs.EpochParts.{one-segment}
use Rattle.seg_receiver.proofs.epoch_receiver.take_symbol.Goals as goal

pub returns-in-Partial-clause-state : goal.returns-in-Partial-clause-state
returns-in-Partial-clause-state c = λ cell start h stands is.
    let here = subst (λ (r : EpochReceiver). StandsFor r cell start h) c.in-Partial.is stands in
    let symbol = subst (λ (r : EpochReceiver). IsSymbolOf (segments_of r) (mode_of r) cell (start + h) (symbols_of r) c.args.cells.now) c.in-Partial.is is in
    c.symbol-in-Partial.ensures.state (segment_cells cell) start h here (one-segment _ cell (start + h) _ c.args.cells.now symbol)
