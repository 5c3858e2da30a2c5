use Rattle.seg_receiver.proofs.decoder_part.DecoderPart.open.Goals as goal

pub returns-clause-state : goal.returns-clause-state
returns-clause-state c = λ cell start first. (c.in_ok-decoder.ensures {u = tt}).state cell start first
