use Rattle.conv_punct.proofs.PunctureLaws.{sent_bit-moved}
use Rattle.conv_punct.proofs.puncture.moved_down.Goals as goal

pub returns : goal.returns
returns c = λ first sent h. sent_bit-moved c.args.outputs.now c.args.count first sent h
