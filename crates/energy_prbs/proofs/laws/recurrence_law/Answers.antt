use Rattle.energy_prbs.proofs.SequenceLaws.{sequence_bit-recurrence}
use Rattle.energy_prbs.proofs.laws.recurrence_law.Goals as goal

pub returns : goal.returns
returns c = sequence_bit-recurrence
