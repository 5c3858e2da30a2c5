use Rattle.std.proofs.Common.{◌-◌, ap, sym, ◌∙◌, arith}
use Rattle.std.specs.Prelude.{◌==◌}
use Rattle.conv_punct.specs.Sending.{sent_bit}
use Rattle.conv_punct.proofs.PunctureLaws.{low_bit}
use Rattle.conv_punct.proofs.puncture.sent_bit.Goals as goal

pub returns-in-X : goal.returns-in-X
returns-in-X c =
    ap (λ b. b == 1) (low_bit c.args.outputs.now.x (c.args.first - c.in-X.step) (omega arith)) ∙ sym (ap (sent_bit c.args.outputs.now c.args.first) c.in-X.is)

pub returns-in-Y : goal.returns-in-Y
returns-in-Y c =
    ap (λ b. b == 1) (low_bit c.args.outputs.now.y (c.args.first - c.in-Y.step) (omega arith)) ∙ sym (ap (sent_bit c.args.outputs.now c.args.first) c.in-Y.is)
