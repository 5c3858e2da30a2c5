use Rattle.std.proofs.Common.{◌∙◌}
use Rattle.delay_line.proofs.LineLaws.{feed-clause}
use Rattle.delay_line.proofs.line.Line.feed.Goals as goal

pub returns-clause-held : goal.returns-clause-held
returns-clause-held g c =
    rw (← c.self.view_is) (feed-clause c.self.inside.ring.items c.args.input.now c.args.output.now c.read_into-taken.new.dst c.copy_from_slice.new.self c.split_at.result.1.now c.self.inside.ring.capacity c.read_into-taken.result c.fill_from_slice.result c.read_into-taken.new.self c.fill_from_slice.new.self c.read_into-taken.ensures.count c.requires c.self.invariant c.read_into-taken.ensures.read c.read_into-taken.ensures.items (c.copy_from_slice.ensures.after ∙ c.split_at.ensures.front) c.split_at.ensures.back c.fill_from_slice.ensures.count c.fill_from_slice.ensures.items)
