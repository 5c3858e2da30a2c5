use Rattle.std.proofs.Common.{arith}
use Rattle.delay_line.proofs.PairLaws.{pair-stands, pair-middle, pair-late}
use Rattle.delay_line.proofs.pair.through.Goals as goal

pub returns-clause-stands : goal.returns-clause-stands
returns-clause-stands g c = λ h.
    pair-stands _ _ _ _ _ _ _ _ h c.args.turn.now c.feed.new.output c.feed-2.new.output c.requires.partners c.feed.ensures.layout c.feed-2.ensures.layout c.requires.turn (omega (arith, c.feed.auto.output, c.requires.turn, c.requires.middle)) (omega (arith, c.feed.auto.output, c.feed-2.auto.output, c.requires.turn, c.requires.middle)) c.feed.ensures.held c.feed-2.ensures.held

pub returns-clause-middle : goal.returns-clause-middle
returns-clause-middle g c = λ h.
    pair-middle _ _ _ _ _ h c.args.turn.now c.feed.new.output c.requires.turn (omega (arith, c.feed.auto.output, c.requires.turn, c.requires.middle)) c.feed.ensures.held

pub returns-clause-late : goal.returns-clause-late
returns-clause-late g c = λ h.
    pair-late _ _ _ _ _ _ h c.args.turn.now c.feed.new.output c.feed-2.new.output c.requires.partners c.requires.turn (omega (arith, c.feed.auto.output, c.requires.turn, c.requires.middle)) (omega (arith, c.feed.auto.output, c.feed-2.auto.output, c.requires.turn, c.requires.middle)) c.feed.ensures.held c.feed-2.ensures.held
