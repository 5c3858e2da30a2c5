use Rattle.std.proofs.Common.{◌≡◌, ℕ, ◌+◌, ◌*◌, List, [], ◌++◌, length, get_or, sym, ap, subst, ◌∙◌, arith}
use Rattle.std.proofs.lemmas.List.{with_items_is}
use Rattle.isdbt_base.specs.Numbers.{layer_cells, cell_bits}
use Rattle.delay_line.specs.Adjusted.{AdjustedStandsFor}
use Rattle.byte_inter.specs.BytePlaces.{byte_adjustment}
use Rattle.byte_inter.specs.Layouts.{inter_layout}
use Rattle.conv_punct.specs.StandsFor.{BeginsWith}
use Rattle.conv_punct.specs.StandsFor as inner
use Rattle.layer_chain.specs.Streams.{first_of, AreItems, adjusted_item}
use Rattle.layer_chain.specs.SentBytes.{sent_byte}
use Rattle.layer_chain.specs.CodedBits.{layer_byte}
use Rattle.layer_chain.specs.CodedLayer.{packets_of, StandsFor, IsFrame}
use Rattle.layer_chain.proofs.Streams.{length-first_of, first_of-begins, AreItems-read, AreItems-same}
use Rattle.layer_chain.proofs.LayerFrames.{units-items, adjusted-interleaved, frame_bit, frame_size, encoder-frame}
use Rattle.layer_chain.proofs.coded_layer.CodedLayer.frame.Goals as goal

-- the units are fed
fed : (c : goal.After-slice_known-2-1) (packet : ℕ → List ℕ) (frame : ℕ) → IsFrame (packets_of c.args.self.now) packet frame c.args.packets.now
    → AreItems 0 (sent_byte (packets_of c.args.self.now) packet) (204 * packets_of c.args.self.now * frame) (length c.deref.result.now) c.deref.result.now
fed c packet frame is =
    let t = packets_of c.args.self.now in
    let x = c.put_units.new.out in
    let size : length x ≡ 204 * t = omega arith in
    AreItems-read 0 (sent_byte t packet) (204 * t * frame) (204 * t) x c.deref.result.now (units-items t packet frame c.args.packets.now x c.requires.packets is size c.put_units.ensures)
    (c.deref.ensures.value ∙ with_items_is c.args.self.now.units x (omega arith))

fed-size : (c : goal.After-slice_known-2-1) → length c.deref.result.now ≡ 204 * packets_of c.args.self.now
fed-size c = omega arith

-- the bytes at their places came out
placed : (c : goal.After-slice_known-2-1) (packet : ℕ → List ℕ) (frame : ℕ) → StandsFor c.args.self.now packet frame → IsFrame (packets_of c.args.self.now) packet frame c.args.packets.now
    → AreItems 0 (layer_byte (packets_of c.args.self.now) packet) (204 * packets_of c.args.self.now * frame) (204 * packets_of c.args.self.now) c.feed.new.output
placed c packet frame stands is =
    let t = packets_of c.args.self.now in
    AreItems-same 0 (adjusted_item (inter_layout 12 17) (byte_adjustment t) (sent_byte t packet)) (layer_byte t packet) (204 * t * frame) (length c.deref.result.now) (204 * t) c.feed.new.output
    (c.feed.ensures.given (byte_adjustment t) (sent_byte t packet) (204 * t * frame) stands.sender (fed c packet frame is)) (fed-size c) (λ i h. adjusted-interleaved t (sent_byte t packet) (204 * t * frame + i))

-- the encoder is fed what came out
z_read : (c : goal.After-slice_known-2-1) → c.deref-2.result.now ≡ c.feed.new.output
z_read c = c.deref-2.ensures.value ∙ with_items_is c.args.self.now.placed c.feed.new.output (omega arith)

pub returns-clause-coded : goal.returns-clause-coded
returns-clause-coded c = λ packet frame stands is i h.
    let t = packets_of c.args.self.now in
    let z = c.feed.new.output in
    let stream = layer_byte t packet in
    let items = placed c packet frame stands is in
    let begins : BeginsWith stream (first_of stream (204 * t * frame) ++ c.deref-2.result.now) =
    subst (λ k. BeginsWith stream (first_of stream (204 * t * frame) ++ k)) (sym (z_read c)) (first_of-begins stream (204 * t * frame) (204 * t) z items) in
    let size : length c.feed-2.new.out ≡ 204 * layer_cells c.args.self.now.mode c.args.self.now.layer * cell_bits c.args.self.now.layer.modulation = omega (arith, c.requires.room) in
    let bytes : length c.deref-2.result.now ≡ 204 * t = ap length (z_read c) ∙ items.size in
    let count : c.feed-2.result ≡ length c.feed-2.new.out =
    c.feed-2.ensures.count ∙ frame_size c.args.self.now.mode c.args.self.now.layer (length c.feed-2.new.out) (length c.deref-2.result.now) c.args.self.now.encoder.rate c.args.self.now.same_rate size bytes in
    c.feed-2.ensures.coded (first_of stream (204 * t * frame)) stream stands.encoder begins i (omega (arith, count, h))
    ∙ frame_bit c.args.self.now.mode c.args.self.now.layer packet frame (length c.feed-2.new.out) c.args.self.now.encoder.rate (first_of stream (204 * t * frame)) i c.args.self.now.same_rate size (length-first_of stream (204 * t * frame))

pub returns-clause-state : goal.returns-clause-state
returns-clause-state c = λ packet frame stands is.
    let t = packets_of c.args.self.now in
    let sent = sent_byte t packet in
    let stream = layer_byte t packet in
    let next : 204 * t * frame + length c.deref.result.now ≡ 204 * t * (frame + 1) = (let e = fed-size c in omega (arith, e)) in
    record {
      sender = subst (λ k. AdjustedStandsFor (inter_layout 12 17) (byte_adjustment t) c.feed.new.self.line (λ p. get_or c.feed.new.self.stage p []) (first_of sent k)) next
          (c.feed.ensures.state (byte_adjustment t) sent (204 * t * frame) stands.sender (fed c packet frame is));
      encoder = encoder-frame c.feed-2.new.self stream t frame c.feed.new.output (placed c packet frame stands is)
          (subst (λ k. inner.StandsFor c.feed-2.new.self (first_of stream (204 * t * frame) ++ k)) (z_read c) (c.feed-2.ensures.state (first_of stream (204 * t * frame)) stands.encoder));
    }
