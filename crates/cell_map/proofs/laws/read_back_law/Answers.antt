use Rattle.cell_map.proofs.LevelLaws.{bits_of-cell_of}
use Rattle.cell_map.proofs.laws.read_back_law.Goals as goal

pub returns : goal.returns
returns c = bits_of-cell_of c.args.modulation c.args.bits c.requires
