use Rattle.std.proofs.Common.{ap, ◌∙◌}
use Rattle.bts_info.specs.Fields.{Fields}
use Rattle.coder_core.proofs.check.bears_head.Goals as goal

pub returns : goal.returns
returns c = ap (λ (f : Fields). f.head) (c.result.view_is ∙ c.info_in.ensures)
