use Rattle.std.proofs.Common.{Some, sym, subst}
use Rattle.seg_receiver.specs.Received.{place_bits}
use Rattle.seg_receiver.specs.UsedDecoders.{DecoderStandsFor}
use Rattle.seg_receiver.proofs.decoder_part.open_used.Goals as goal

pub returns-in_ok-decoder-in-Some-clause-state : goal.returns-in_ok-decoder-in-Some-clause-state
returns-in_ok-decoder-in-Some-clause-state c = λ cell start first.
    subst (λ o. DecoderStandsFor c.args.mode o (Some c.in_ok-decoder-in-Some.decoder) cell start first 0) (sym c.in-Some.is)
    ((c.in_ok-decoder-in-Some.ensures {u = tt}).state (place_bits c.args.mode c.in-Some.used cell start first))
