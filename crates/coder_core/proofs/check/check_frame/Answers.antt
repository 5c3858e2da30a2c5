use Rattle.std.proofs.Common.{sym, ◌∙◌}
use Rattle.coder_core.proofs.Codable.{can_code}
use Rattle.coder_core.proofs.check.check_frame.Goals as goal

pub returns-in-None-clause-codable : goal.returns-in-None-clause-codable
returns-in-None-clause-codable c = can_code c.args.setting.now c.args.mode c.args.number c.args.first_packet c.args.frame.now (sym c.cause.ensures ∙ c.in-None.is)
