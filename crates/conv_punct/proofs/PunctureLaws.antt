-- The outputs that are sent are those of the puncturing pattern.
use Rattle.std.proofs.Common.{◌≡◌, ℕ, ◌+◌, ◌-◌, ◌*◌, ◌/◌, ◌%◌, ◌^◌, ◌<◌, ◌≤◌, Bool, refl, ap, arith, sym, ◌∙◌, List, map, length, get_or}
use Rattle.std.specs.Prelude.{◌==◌, bit_and}
use Rattle.std.specs.Int.{bit_at}
use Rattle.std.proofs.lemmas.Nat.Bits.{shr_and_one, bit_at_cat_low}
use Rattle.std.proofs.Math.Nat.{div-div-eq-div-mul}
use Rattle.std.proofs.lemmas.Nat.{pow-add}
use Rattle.std.proofs.lemmas.List.{length-map}
use Rattle.std.proofs.Math.ListN.{get_or-map}
use Rattle.isdbt_base.specs.declared.kinds.Rate.{Rate}
use Rattle.isdbt_base.specs.declared.kinds.Rate.TheVariants.{R12, R23, R34, R56, R78}
use Rattle.isdbt_base.specs.Numbers.{rate_steps, rate_bits}
use Rattle.conv_punct.specs.declared.mother_code.MotherBits.{MotherBits}
use Rattle.conv_punct.specs.declared.pattern.Sent.{Sent}
use Rattle.conv_punct.specs.declared.pattern.Sent.TheVariants.{X, Y}
use Rattle.conv_punct.specs.CodedBits.{pattern, output_at, output_bit, step_of, coded_bit, x_bit, y_bit, x_of}
use Rattle.conv_punct.specs.MotherCode.{word_bit, AreMotherBits}
use Rattle.conv_punct.specs.Sending.{output_of, sent_bit}
use Rattle.conv_punct.proofs.PatternLaws.{div-part, mod-part, output_step-lt}

length-pattern : (rate : Rate) → length (pattern rate) ≡ rate_bits rate
length-pattern R12 = refl
length-pattern R23 = refl
length-pattern R34 = refl
length-pattern R56 = refl
length-pattern R78 = refl

pub length-sent : (rate : Rate) (sent : List Sent) → map output_of sent ≡ pattern rate → length sent ≡ rate_bits rate
length-sent rate sent e = sym (length-map sent output_of) ∙ ap length e ∙ length-pattern rate

pub sent-output : (rate : Rate) (sent : List Sent) (r : ℕ) → map output_of sent ≡ pattern rate → output_of (get_or sent r (X 0)) ≡ output_at rate r
sent-output rate sent r e = sym (get_or-map output_of sent r (X 0)) ∙ ap (λ os. get_or os r (x_of 0)) e

pub sent-step : (rate : Rate) (sent : List Sent) (r : ℕ) → map output_of sent ≡ pattern rate → r < length sent → step_of (output_of (get_or sent r (X 0))) < rate_steps rate
sent-step rate sent r e h =
    let size = length-sent rate sent e in
    let small = output_step-lt rate r (omega arith) in
    rw (sent-output rate sent r e) small

-- the pattern that is sent after so many patterns
pub coded_bit-pattern : (rate : Rate) (u : ℕ → Bool) (before r : ℕ) → r < rate_bits rate → coded_bit rate u (rate_bits rate * before + r) ≡ output_bit u (rate_steps rate * before) (output_at rate r)
unfolding coded_bit
coded_bit-pattern rate u before r h = rw (div-part rate before r h, mod-part rate before r h) refl

-- the bit of an output of the pattern whose last step has bit `last`
pub sent_bit-output : (o : MotherBits) (u : ℕ → Bool) (i start steps last : ℕ) (sent : Sent) → AreMotherBits o (last + steps) u i → i ≡ start + steps + last → step_of (output_of sent) < steps → sent_bit o (last + steps - 1) sent ≡ output_bit u start (output_of sent)
sent_bit-output o u i start steps last (X a) outputs e h =
    let place : i - 1 - (last + steps - 1 - a) ≡ start + a = omega arith in
    outputs.x (last + steps - 1 - a) (omega arith) ∙ ap (x_bit u) place
sent_bit-output o u i start steps last (Y a) outputs e h =
    let place : i - 1 - (last + steps - 1 - a) ≡ start + a = omega arith in
    outputs.y (last + steps - 1 - a) (omega arith) ∙ ap (y_bit u) place

pub sent-coded : (rate : Rate) (sent : List Sent) (o : MotherBits) (u : ℕ → Bool) (i before last r : ℕ) → map output_of sent ≡ pattern rate → r < rate_bits rate → AreMotherBits o (last + rate_steps rate) u i → i ≡ rate_steps rate * (before + 1) + last → sent_bit o (last + rate_steps rate - 1) (get_or sent r (X 0)) ≡ coded_bit rate u (rate_bits rate * before + r)
sent-coded rate sent o u i before last r e h outputs place =
    let size = length-sent rate sent e in
    let at : i ≡ rate_steps rate * before + rate_steps rate + last = omega arith in
    sent_bit-output o u i (rate_steps rate * before) (rate_steps rate) last (get_or sent r (X 0)) outputs at (sent-step rate sent r e (omega arith))
    ∙ ap (output_bit u (rate_steps rate * before)) (sent-output rate sent r e)
    ∙ sym (coded_bit-pattern rate u before r h)

bit-moved : (n k i j : ℕ) → j ≡ k + i → word_bit (n / 2 ^ k) i ≡ word_bit n j
bit-moved n k i j at = ap (λ m. m % 2 == 1) (div-div-eq-div-mul n (2 ^ k) (2 ^ i) ∙ ap (λ p. n / p) (sym (pow-add 2 k i) ∙ ap (λ e. 2 ^ e) (sym at)))

-- the outputs without those of the newest steps
pub sent_bit-moved : (o : MotherBits) (k first : ℕ) (sent : Sent) → step_of (output_of sent) ≤ first
    → sent_bit record { x = o.x / 2 ^ k; y = o.y / 2 ^ k } first sent ≡ sent_bit o (k + first) sent
sent_bit-moved o k first (X a) h = bit-moved o.x k (first - a) (k + first - a) (omega (arith, h))
sent_bit-moved o k first (Y a) h = bit-moved o.y k (first - a) (k + first - a) (omega (arith, h))

-- one of the eight lowest bits
pub low_bit : (n i : ℕ) → i < 8 → bit_and (n % 2 ^ 8 / 2 ^ i) 1 ≡ bit_at n i
low_bit n i h =
    let whole : n / 2 ^ 8 * 2 ^ 8 + n % 2 ^ 8 ≡ n = omega arith in
    shr_and_one (n % 2 ^ 8) i ∙ sym (bit_at_cat_low (n / 2 ^ 8) 8 (n % 2 ^ 8) i h) ∙ ap (λ m. bit_at m i) whole
