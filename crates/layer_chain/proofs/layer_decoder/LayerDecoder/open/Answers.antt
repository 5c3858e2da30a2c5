use Rattle.std.proofs.Common.{sym, subst, arith}
use Rattle.byte_inter.specs.Layouts.{deinter_layout}
use Rattle.layer_chain.specs.LayerDecoder.{bytes_after}
use Rattle.layer_chain.specs.LayerCells.{read_bit}
use Rattle.layer_chain.specs.DecidedBytes.{decided_byte}
use Rattle.layer_chain.specs.DecidedBytes as decided
use Rattle.layer_chain.proofs.StageFrames.{new_stage}
use Rattle.layer_chain.proofs.DecoderParts.{decoder_moved}
use Rattle.layer_chain.proofs.DecoderSteps.{steps-start, bytes-start}
use Rattle.layer_chain.proofs.layer_decoder.LayerDecoder.open.Goals as goal

pub returns-clause-state : goal.returns-clause-state
returns-clause-state c = λ cell.
    let mode = c.args.mode in
    let l = c.args.setting.now in
    let read = read_bit mode l cell in
    let steps = steps-start mode l in
    let bytes = bytes-start mode l in
    decoder_moved _ cell 0 mode l c.in_ok-reader.ensures.mode c.in_ok-reader.ensures.layer record {
      counted = omega arith;
      reader_stands = c.in_ok-reader.ensures.state cell;
      decided_stands = subst (λ n. decided.StandsFor c.in_ok-decided.decided read n (bytes_after mode l 0)) steps (subst (λ n. decided.StandsFor c.in_ok-decided.decided read 0 n) bytes (c.in_ok-decided.ensures.state read));
      bytes_stand = new_stage (deinter_layout 12 17) (decided_byte l.rate read) (bytes_after mode l 0) _ c.in_ok-deinterleaver.ensures.stands (sym bytes);
    }
