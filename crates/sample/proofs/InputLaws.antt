-- The made inputs of a sample.
use Rattle.std.proofs.Common.{◌≡◌, ℕ, zero, suc, ◌+◌, ◌*◌, ◌<◌, List, [], length, take, drop, arith, ap, ◌∙◌, length-append}
use Rattle.isdbt_base.specs.declared.kinds.Layer.{Layer}
use Rattle.isdbt_base.specs.declared.kinds.Layer.TheVariants.{A, B, C}
use Rattle.isdbt_base.specs.Outcome.{product}
use Rattle.isdbt_base.proofs.Products.{product-none, product-more}
use Rattle.ts_packet.specs.Packets.{piece}
use Rattle.remux_core.specs.Multiplex.{packet_count}
use Rattle.seg_receiver.proofs.Pieces.{length-pieces}
use Rattle.seg_receiver.proofs.RangeCuts.{cut_at}
use Rattle.sample.specs.Generator.{made_input, made_packet}
use Rattle.sample.specs.SampleInputs.{sample_input, seed_of, input_packets}
use Rattle.sample.proofs.Generated.{length-made_packet}

-- what was made of the seed of a layer is its input
pub input-a : (number seed : ℕ) (bytes : List ℕ) → bytes ≡ made_input seed 100 → seed ≡ number → bytes ≡ sample_input number A
unfolding sample_input
input-a number seed bytes is same = is ∙ ap (λ s. made_input s 100) same

pub input-b : (number seed : ℕ) (bytes : List ℕ) → bytes ≡ made_input (seed + 1) 3000 → seed ≡ number → bytes ≡ sample_input number B
unfolding sample_input
input-b number seed bytes is same = is ∙ ap (λ s. made_input (s + 1) 3000) same

-- ---- their packets

length-made : (seed count : ℕ) → length (made_input seed count) ≡ 188 * count
length-made seed zero = ap length (product-none (made_packet seed)) ∙ (let e : 0 ≡ 188 * 0 = omega arith in e)
length-made seed (suc n) =
    let so_far = length-made seed n in
    let one = length-made_packet seed n in
    ap (λ m. length (product (made_packet seed) m)) (let e : suc n ≡ n + 1 = omega arith in e) ∙ ap length (product-more (made_packet seed) n) ∙ length-append (made_input seed n) (made_packet seed n)
    ∙ (let e : length (made_input seed n) + length (made_packet seed n) ≡ 188 * suc n = omega (arith, so_far, one) in e)

pub length-input : (number : ℕ) (x : Layer) → length (sample_input number x) ≡ 188 * input_packets x
unfolding sample_input
length-input number x = length-made (seed_of number x) (input_packets x)

pub input-count : (number : ℕ) (x : Layer) → packet_count (sample_input number) x ≡ input_packets x
input-count number x = (let e = length-input number x in omega (arith, e))

pub input-none : (number : ℕ) → sample_input number C ≡ []
unfolding sample_input
input-none number = product-none (made_packet number)

-- packet i of an input is packet i of the generator
pub piece-input : (number : ℕ) (x : Layer) (i : ℕ) → i < input_packets x → piece 188 (sample_input number x) i ≡ made_packet (seed_of number x) i
unfolding sample_input product
piece-input number x i less =
    ap (λ n. take 188 (drop n (product (made_packet (seed_of number x)) (input_packets x)))) (let e : 188 * i ≡ i * 188 = omega arith in e)
    ∙ cut_at (made_packet (seed_of number x)) (input_packets x) i (i * 188) 188 less
    (length-pieces (made_packet (seed_of number x)) 188 0 i (length-made_packet (seed_of number x)))
    (length-made_packet (seed_of number x) i)
