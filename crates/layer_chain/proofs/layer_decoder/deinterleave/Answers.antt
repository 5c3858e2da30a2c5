use Rattle.std.proofs.Common.{◌+◌, [], get_or, sym, ap, subst, ◌∙◌, arith}
use Rattle.delay_line.specs.Stages.{StandsFor, stage_item}
use Rattle.byte_inter.specs.Layouts.{deinter_layout}
use Rattle.layer_chain.specs.Streams.{first_of}
use Rattle.layer_chain.specs.DecidedBytes.{decided_byte, frame_of, rate_of}
use Rattle.layer_chain.proofs.StageFrames.{stage_piece}
use Rattle.layer_chain.proofs.layer_decoder.deinterleave.Goals as goal

pub returns-clause-taken : goal.returns-clause-taken
returns-clause-taken c = λ read steps first stands there whole bytes.
    let s = c.args.decided.now in
    let size = frame_of s in
    let w = decided_byte (rate_of s) read in
    let piece = stage_piece (deinter_layout 12 17) w first size c.frame.result.now c.feed.new.output (λ p. get_or c.args.deinterleaver.now p []) (λ p. get_or c.feed.new.self p []) bytes whole c.requires.turns (omega arith) c.feed.ensures.held record { size = c.frame.ensures.size; each = λ i h. c.frame.ensures.bytes read steps first stands there i h } in
    record {
      decided_stands = c.take_frame.ensures.state read steps first stands there;
      bytes_stand = subst (λ r. StandsFor (deinter_layout 12 17) (λ p. get_or c.feed.new.self p []) (first_of (decided_byte r read) (first + size))) (sym c.take_frame.ensures.rate) piece.stands;
      units_are = λ n h. piece.given.each n h ∙ ap (λ r. stage_item (deinter_layout 12 17) (decided_byte r read) (first + n)) (sym c.take_frame.ensures.rate);
    }
