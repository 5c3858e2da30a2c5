use Rattle.gf_rs.proofs.OneNear.{one_near}
use Rattle.gf_rs.proofs.laws.near_law.Goals as goal

pub returns : goal.returns
returns c roots near other = one_near roots c.args.word.now near other c.requires
