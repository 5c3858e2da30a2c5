use Rattle.bit_inter.proofs.HeldLaws.{inter-held, deinter-held}
use Rattle.bit_inter.proofs.laws.held_law.Goals as goal

pub returns : goal.returns
returns c = record {
  sender = inter-held c.args.v c.requires;
  receiver = deinter-held c.args.v c.requires;
}
