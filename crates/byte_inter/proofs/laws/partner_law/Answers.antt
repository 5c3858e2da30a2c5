use Rattle.byte_inter.proofs.SenderLaws.{ArePartners-inter, ArePartners-deinter}
use Rattle.byte_inter.proofs.laws.partner_law.Goals as goal

pub returns : goal.returns
returns g c = record {
  sender_first = ArePartners-inter g.row.PATHS g.row.UNIT;
  receiver_first = ArePartners-deinter g.row.PATHS g.row.UNIT;
}
