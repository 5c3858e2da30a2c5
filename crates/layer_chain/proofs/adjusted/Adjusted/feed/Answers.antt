use Rattle.std.proofs.Common.{ℕ, length, subst, ◌∙◌, arith}
use Rattle.std.proofs.lemmas.List.{with_items_is}
use Rattle.delay_line.specs.Stages.{PassesOn}
use Rattle.delay_line.specs.Adjusted.{AdjustedStandsFor}
use Rattle.layer_chain.specs.Streams.{first_of, AreItems}
use Rattle.layer_chain.proofs.AdjustedFrames.{AdjustedPiece, adjusted_piece}
use Rattle.layer_chain.proofs.adjusted.Adjusted.feed.Given.{Over}
use Rattle.layer_chain.proofs.adjusted.Adjusted.feed.Goals as goal

piece : (g : Over) (c : goal.After-output-1 g) (a : ℕ) (stream : ℕ → g.row.S-Item.Denot) (n : ℕ)
    → AdjustedStandsFor (g.S.Stage.layout c.args.self.now.stage) a c.args.self.now.line (g.S.Stage.held c.args.self.now.stage) (first_of stream n)
    → AreItems (g.S.Stage.layout c.args.self.now.stage).zero stream n (length c.args.input.now) c.args.input.now
    → AdjustedPiece (g.S.Stage.layout c.args.self.now.stage) a stream n (length c.args.input.now) c.feed.new.self (g.S.Stage.held c.feed-2.new.self) c.feed-2.new.output
piece g c a stream n stands items =
    let l = g.S.Stage.layout c.args.self.now.stage in
    let read = c.deref.ensures.value ∙ with_items_is c.args.self.now.middle c.feed.new.output (omega arith) in
    adjusted_piece l a stream n (length c.args.input.now) c.args.input.now c.feed.new.output c.feed-2.new.output c.args.self.now.line c.feed.new.self (g.S.Stage.held c.args.self.now.stage) (g.S.Stage.held c.feed-2.new.self)
    stands (record {
      turns = c.requires.turns;
      middle_length = omega arith;
      output_length = omega arith;
      line_feeds = c.feed.ensures.held;
      stage_feeds = subst (λ k. PassesOn l (g.S.Stage.held c.args.self.now.stage) k c.feed-2.new.output (g.S.Stage.held c.feed-2.new.self)) read c.feed-2.ensures.held;
    }) items

pub returns-clause-given : goal.returns-clause-given
returns-clause-given g c = λ a stream n stands items. (piece g c a stream n stands items).given

pub returns-clause-state : goal.returns-clause-state
returns-clause-state g c = λ a stream n stands items. (piece g c a stream n stands items).stands
