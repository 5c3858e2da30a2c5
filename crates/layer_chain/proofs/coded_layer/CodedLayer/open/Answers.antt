use Rattle.std.proofs.Common.{◌*◌, [], get_or, sym, subst, arith}
use Rattle.isdbt_base.specs.Numbers.{packets_per_frame}
use Rattle.delay_line.specs.Adjusted.{AdjustedStandsFor}
use Rattle.byte_inter.specs.Layouts.{inter_layout}
use Rattle.byte_inter.specs.BytePlaces.{byte_adjustment}
use Rattle.layer_chain.specs.Streams.{first_of}
use Rattle.layer_chain.specs.SentBytes.{sent_byte}
use Rattle.layer_chain.proofs.OpenedLayer.{new_adjusted, new_encoder}
use Rattle.layer_chain.proofs.coded_layer.CodedLayer.open.Goals as goal

pub returns-clause-state : goal.returns-clause-state
returns-clause-state c = λ packet.
    let t = packets_per_frame c.args.mode c.args.setting.now in
    record {
      sender = subst (λ st. AdjustedStandsFor (inter_layout 12 17) (byte_adjustment t) c.in_ok-interleaver.interleaver.line (λ p. get_or st p []) (first_of (sent_byte t packet) (204 * t * 0))) (sym c.in_ok-interleaver.ensures.stage)
          (new_adjusted (inter_layout 12 17) _ (byte_adjustment t) (sent_byte t packet) (204 * t * 0) c.in_ok-interleaver.interleaver.line (λ p. get_or c.in_ok-stage.stage p []) (c.in_ok-interleaver.ensures.stands c.in_ok-stage.ensures.stands) (omega (arith, c.packets-packets.ensures.value)) (omega arith));
      encoder = new_encoder _ _ _ c.start.ensures.state;
    }
