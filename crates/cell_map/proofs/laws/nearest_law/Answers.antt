use Rattle.cell_map.proofs.LevelLaws.{axis_bits-lt}
use Rattle.cell_map.proofs.NearestLaws.{axis-nearest, i-nearest, q-nearest}
use Rattle.cell_map.proofs.laws.nearest_law.Goals as goal

pub returns-clause-axis : goal.returns-clause-axis
returns-clause-axis c = axis-nearest c.args.modulation

pub returns-clause-axis_most : goal.returns-clause-axis_most
returns-clause-axis_most c = axis_bits-lt c.args.modulation

pub returns-clause-i : goal.returns-clause-i
returns-clause-i c = i-nearest c.args.modulation

pub returns-clause-q : goal.returns-clause-q
returns-clause-q c = q-nearest c.args.modulation
