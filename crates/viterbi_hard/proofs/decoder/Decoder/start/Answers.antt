use Rattle.std.proofs.Common.{[], refl, arith}
use Rattle.viterbi_hard.proofs.BlockLaws.{own_tags}
use Rattle.viterbi_hard.proofs.StartLaws.{started}
use Rattle.viterbi_hard.proofs.StepLaws.{whole-none}
use Rattle.viterbi_hard.proofs.decoder.Decoder.start.Goals as goal

pub returns : goal.returns
returns c = record {
  state = λ read. record {
    whole = whole-none c.args.rate;
    stands = record { keeps = record { young = omega arith; few = omega arith; holds = started; tags = own_tags []; traced = c.start.ensures }; steps = refl };
  };
  rate = refl;
}
