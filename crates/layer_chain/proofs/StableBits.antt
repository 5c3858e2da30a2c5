-- The coded bits of the frames before a frame depend on the packets of these frames alone.
use Rattle.std.proofs.Common.{◌≡◌, ℕ, ◌+◌, ◌-◌, ◌*◌, ◌/◌, ◌%◌, ◌<◌, List, refl, ap, ◌∙◌, arith, add-zero}
use Rattle.std.specs.Prelude.{bit_xor, slice_index, nat_lt, count_by, if◌then◌else◌, ◌==◌}
use Rattle.std.specs.Int.{bit_at}
use Rattle.isdbt_base.specs.declared.kinds.Mode.{Mode}
use Rattle.isdbt_base.specs.declared.kinds.Rate.{Rate}
use Rattle.isdbt_base.specs.declared.kinds.Rate.TheVariants.{R12, R23, R34, R56, R78}
use Rattle.isdbt_base.specs.LayerParameters.{LayerParameters}
use Rattle.isdbt_base.specs.Numbers.{layer_cells, cell_bits, rate_steps, rate_bits, packets_per_frame}
use Rattle.gf_rs.specs.Codewords.{codeword_of}
use Rattle.byte_inter.proofs.PlaceLaws.{interleaved-agree}
use Rattle.conv_punct.specs.CodedBits.{bit_of, coded_len, pattern, step_of}
use Rattle.conv_punct.specs.StandsFor.{coded_size}
use Rattle.conv_punct.proofs.CodedLaws.{coded_bit-prefix}
use Rattle.layer_chain.specs.SentBytes.{sent_byte, dispersal_byte}
use Rattle.layer_chain.specs.CodedBits.{layer_byte, layer_coded_bit}
use Rattle.layer_chain.proofs.Sizes.{frames-whole, coded_size-frames}

pub sent_byte-same : (t : ℕ) (packet other : ℕ → List ℕ) (n : ℕ) → packet (n / 204) ≡ other (n / 204) → sent_byte t packet n ≡ sent_byte t other n
unfolding sent_byte
sent_byte-same t packet other n h = ap (λ p. if n % 204 == 203 then 0x47 else bit_xor (slice_index (codeword_of 16 p) (n % 204 + 1)) (dispersal_byte t n)) h

-- whole patterns have as many coded bits as their steps say
coded_len-whole : (rate : Rate) (n : ℕ) → 8 * n % rate_steps rate ≡ 0 → coded_len rate (8 * n) ≡ coded_size rate n
coded_len-whole rate n whole =
    let sent = rate_bits rate * (8 * n / rate_steps rate) in
    ap (λ r. sent + count_by (λ o. nat_lt (step_of o) r) (pattern rate)) whole ∙ ap (λ k. sent + k) (none rate) ∙ add-zero sent
  where
    none : (rate : Rate) → count_by (λ o. nat_lt (step_of o) 0) (pattern rate) ≡ 0
    none R12 = refl
    none R23 = refl
    none R34 = refl
    none R56 = refl
    none R78 = refl

pub layer_coded_bit-same : (mode : Mode) (l : LayerParameters) (packet other : ℕ → List ℕ) (f c : ℕ) → c < 204 * layer_cells mode l * cell_bits l.modulation * f
    → ((m : ℕ) → m < packets_per_frame mode l * f → packet m ≡ other m) → layer_coded_bit mode l packet c ≡ layer_coded_bit mode l other c
unfolding layer_coded_bit
layer_coded_bit-same mode l packet other f c h same =
    let t = packets_per_frame mode l in
    let bytes = 204 * t * f in
    let count : coded_len l.rate (8 * bytes) ≡ 204 * layer_cells mode l * cell_bits l.modulation * f = coded_len-whole l.rate bytes (frames-whole mode l f) ∙ coded_size-frames mode l f in
    coded_bit-prefix l.rate (bit_of (layer_byte t packet)) (bit_of (layer_byte t other)) (8 * bytes) (λ i k.
    ap (λ b. bit_at b (7 - i % 8) == 1) (interleaved-agree (sent_byte t packet) (sent_byte t other) t (i / 8) (λ n m.
    sent_byte-same t packet other n (same (n / 204) (omega (arith, k, m)))))) c (omega (arith, count, h))
