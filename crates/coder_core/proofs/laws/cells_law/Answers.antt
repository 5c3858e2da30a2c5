use Rattle.coder_core.proofs.StablePlan.{frame_cells-same}
use Rattle.coder_core.proofs.laws.cells_law.Goals as goal

pub returns : goal.returns
returns c = frame_cells-same
