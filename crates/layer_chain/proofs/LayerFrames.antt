-- One frame more through the parts of a layer's coding.
use Rattle.std.proofs.Common.{◌≡◌, ℕ, ◌+◌, ◌*◌, ◌<◌, List, [], ◌++◌, length, sym, ap, subst, ◌∙◌, arith}
use Rattle.std.specs.Prelude.{slice_index, slice_index_or}
use Rattle.isdbt_base.specs.declared.kinds.Mode.{Mode}
use Rattle.isdbt_base.specs.declared.kinds.Rate.{Rate}
use Rattle.isdbt_base.specs.LayerParameters.{LayerParameters}
use Rattle.isdbt_base.specs.Numbers.{layer_cells, cell_bits, packets_per_frame}
use Rattle.conv_punct.specs.declared.encoder.Encoder.{Encoder}
use Rattle.conv_punct.specs.CodedBits.{bit_of, coded_bit}
use Rattle.conv_punct.specs.StandsFor.{coded_size}
use Rattle.conv_punct.specs.StandsFor as inner
use Rattle.delay_line.specs.Lines.{delayed}
use Rattle.byte_inter.specs.Layouts.{inter_layout}
use Rattle.byte_inter.proofs.PlaceLaws.{interleaved-delayed}
use Rattle.byte_inter.specs.BytePlaces.{byte_adjustment, interleaved}
use Rattle.layer_chain.specs.SentBytes.{sent_byte}
use Rattle.layer_chain.specs.Streams.{first_of, AreItems, adjusted_item}
use Rattle.layer_chain.specs.CodedBits.{layer_byte, layer_coded_bit}
use Rattle.layer_chain.specs.CodedLayer.{IsFrame}
use Rattle.layer_chain.proofs.Sizes.{coded_size-frames}
use Rattle.layer_chain.proofs.Streams.{first_of-add}
use Rattle.layer_chain.proofs.UnitLaws.{sent_byte-frame}

-- the byte at each place
pub adjusted-interleaved : (t : ℕ) (sent : ℕ → ℕ) (q : ℕ) → adjusted_item (inter_layout 12 17) (byte_adjustment t) sent q ≡ interleaved sent t q
adjusted-interleaved t sent q = ap (λ d. delayed d 0 sent q) (omega arith) ∙ sym (interleaved-delayed sent t q)

-- the units of a frame
pub units-items : (t : ℕ) (packet : ℕ → List ℕ) (frame : ℕ) (packets : List (List ℕ)) (x : List ℕ) → length packets ≡ t → IsFrame t packet frame packets → length x ≡ 204 * t
    → ((n : ℕ) → n < 204 * length packets → slice_index x n ≡ sent_byte (length packets) (λ m. slice_index_or packets m []) n) → AreItems 0 (sent_byte t packet) (204 * t * frame) (204 * t) x
units-items t packet frame packets x count is size bytes = record {
  size = size;
  each = λ i h.
      bytes i (omega (arith, h, count)) ∙ ap (λ k. sent_byte k (λ m. slice_index_or packets m []) i) count
      ∙ sym (sent_byte-frame t packet (λ m. slice_index_or packets m []) frame i h is.each);
}

-- ---- the inner code

-- the coded bits behind those of the frames before are those of the frame
pub frame_bit : (mode : Mode) (l : LayerParameters) (packet : ℕ → List ℕ) (frame size : ℕ) (rate : Rate) (fed : List ℕ) (i : ℕ) → rate ≡ l.rate → size ≡ 204 * layer_cells mode l * cell_bits l.modulation
    → length fed ≡ 204 * packets_per_frame mode l * frame
    → coded_bit rate (bit_of (layer_byte (packets_per_frame mode l) packet)) (coded_size rate (length fed) + i) ≡ layer_coded_bit mode l packet (size * frame + i)
unfolding layer_coded_bit
frame_bit mode l packet frame size rate fed i same is count =
    let bytes = layer_byte (packets_per_frame mode l) packet in
    ap (λ r. coded_bit r (bit_of bytes) (coded_size r (length fed) + i)) same
    ∙ ap (λ n. coded_bit l.rate (bit_of bytes) (coded_size l.rate n + i)) count
    ∙ ap (λ n. coded_bit l.rate (bit_of bytes) (n + i)) (coded_size-frames mode l frame ∙ ap (λ k. k * frame) (sym is))

-- as many as the frame has
pub frame_size : (mode : Mode) (l : LayerParameters) (size bytes : ℕ) (rate : Rate) → rate ≡ l.rate → size ≡ 204 * layer_cells mode l * cell_bits l.modulation → bytes ≡ 204 * packets_per_frame mode l → coded_size rate bytes ≡ size
frame_size mode l size bytes rate same is count =
    let one : bytes ≡ 204 * packets_per_frame mode l * 1 = omega (arith, count) in
    ap (λ r. coded_size r bytes) same ∙ ap (coded_size l.rate) one ∙ coded_size-frames mode l 1 ∙ omega (arith, is)

-- an encoder that was fed the frames before and the frame
pub encoder-frame : (e : Encoder) (s : ℕ → ℕ) (t frame : ℕ) (z : List ℕ) → AreItems 0 s (204 * t * frame) (204 * t) z → inner.StandsFor e (first_of s (204 * t * frame) ++ z) → inner.StandsFor e (first_of s (204 * t * (frame + 1)))
encoder-frame e s t frame z items stands =
    let more : 204 * t * frame + 204 * t ≡ 204 * t * (frame + 1) = omega arith in
    subst (λ h. inner.StandsFor e h) (first_of-add 0 s (204 * t * frame) (204 * t) z items ∙ ap (first_of s) more) stands
