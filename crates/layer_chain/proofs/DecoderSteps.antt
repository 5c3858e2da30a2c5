-- The counts of a layer's decoder: read bits and steps of a symbol, and decided bytes of a frame.
use Rattle.std.proofs.Common.{◌≡◌, ℕ, ◌+◌, ◌-◌, ◌*◌, ◌/◌, ◌%◌, ◌<◌, ◌≤◌, refl, sym, ap, ◌∙◌, arith}
use Rattle.std.proofs.Math.Nat.{mul-add, mul-le-mul_left}
use Rattle.isdbt_base.specs.declared.kinds.Mode.{Mode}
use Rattle.isdbt_base.specs.declared.kinds.Mode.TheVariants.{M1, M2, M3}
use Rattle.isdbt_base.specs.declared.kinds.Modulation.{Modulation}
use Rattle.isdbt_base.specs.declared.kinds.Modulation.TheVariants.{Qpsk, Qam16, Qam64}
use Rattle.isdbt_base.specs.declared.kinds.Rate.{Rate}
use Rattle.isdbt_base.specs.declared.kinds.Rate.TheVariants.{R12, R23, R34, R56, R78}
use Rattle.isdbt_base.specs.LayerParameters.{LayerParameters}
use Rattle.isdbt_base.specs.Numbers.{carriers, layer_cells, cell_bits, rate_steps, rate_bits, packets_per_frame, frames_over}
use Rattle.isdbt_base.proofs.NumberLaws.{packets-exact}
use Rattle.std.specs.Prelude.{count_by, nat_lt}
use Rattle.conv_punct.specs.CodedBits.{coded_len, step_of, pattern}
use Rattle.viterbi_hard.specs.StandsFor.{steps_in}
use Rattle.layer_chain.specs.SymbolReader.{bits_of_symbol, read_delay}
use Rattle.layer_chain.specs.LayerDecoder.{steps_after, bytes_after}

-- ---- whole puncturing patterns

times-24 : (mode : Mode) (m : Modulation) (n : ℕ) → (k : ℕ) × (cell_bits m * (n * carriers mode) ≡ 24 * k)
times-24 M1 Qpsk n = (8 * n, omega arith)
times-24 M1 Qam16 n = (16 * n, omega arith)
times-24 M1 Qam64 n = (24 * n, omega arith)
times-24 M2 Qpsk n = (16 * n, omega arith)
times-24 M2 Qam16 n = (32 * n, omega arith)
times-24 M2 Qam64 n = (48 * n, omega arith)
times-24 M3 Qpsk n = (32 * n, omega arith)
times-24 M3 Qam16 n = (64 * n, omega arith)
times-24 M3 Qam64 n = (96 * n, omega arith)

whole-24 : (rate : Rate) (b k : ℕ) → b ≡ 24 * k → b % rate_bits rate ≡ 0
whole-24 R12 b k e = omega arith
whole-24 R23 b k e = omega arith
whole-24 R34 b k e = omega arith
whole-24 R56 b k e = omega arith
whole-24 R78 b k e = omega arith

-- the bits of a symbol are whole patterns
pub symbol-whole : (mode : Mode) (l : LayerParameters) → bits_of_symbol mode l % rate_bits l.rate ≡ 0
symbol-whole mode l = let t = times-24 mode l.modulation l.segments in whole-24 l.rate (bits_of_symbol mode l) t.0 t.1

steps-exact : (rate : Rate) (b t k : ℕ) → b ≡ 24 * k → 8 * rate_bits rate * t ≡ b * rate_steps rate → steps_in rate b ≡ 8 * t
steps-exact R12 b t k e p = omega arith
steps-exact R23 b t k e p = omega arith
steps-exact R34 b t k e p = omega arith
steps-exact R56 b t k e p = omega arith
steps-exact R78 b t k e p = omega arith

-- its steps are as many as the bits of a byte for each packet of a frame
pub symbol-steps : (mode : Mode) (l : LayerParameters) → steps_in l.rate (bits_of_symbol mode l) ≡ 8 * packets_per_frame mode l
symbol-steps mode l =
    let t = times-24 mode l.modulation l.segments in
    let turned : layer_cells mode l * cell_bits l.modulation ≡ bits_of_symbol mode l = omega arith in
    steps-exact l.rate (bits_of_symbol mode l) (packets_per_frame mode l) t.0 t.1 (packets-exact mode l ∙ ap (λ n. n * rate_steps l.rate) turned)

steps-apart : (rate : Rate) (n : ℕ) → (rate_steps rate * n / rate_steps rate ≡ n) × (rate_steps rate * n % rate_steps rate ≡ 0)
steps-apart R12 n = (omega arith, omega arith)
steps-apart R23 n = (omega arith, omega arith)
steps-apart R34 n = (omega arith, omega arith)
steps-apart R56 n = (omega arith, omega arith)
steps-apart R78 n = (omega arith, omega arith)

none-before : (rate : Rate) → count_by (λ o. nat_lt (step_of o) 0) (pattern rate) ≡ 0
none-before R12 = refl
none-before R23 = refl
none-before R34 = refl
none-before R56 = refl
none-before R78 = refl

coded_len-whole : (rate : Rate) (n : ℕ) → coded_len rate (rate_steps rate * n) ≡ rate_bits rate * n
coded_len-whole rate n =
    let apart = steps-apart rate n in
    ap (λ k. rate_bits rate * k + count_by (λ o. nat_lt (step_of o) (rate_steps rate * n % rate_steps rate)) (pattern rate)) apart.0
    ∙ ap (λ k. rate_bits rate * n + count_by (λ o. nat_lt (step_of o) k) (pattern rate)) apart.1
    ∙ ap (λ k. rate_bits rate * n + k) (none-before rate)
    ∙ (let e : rate_bits rate * n + 0 ≡ rate_bits rate * n = omega arith in e)

patterns-of : (n b y : ℕ) → b % n ≡ 0 → n * (b / n) ≡ b → n * (b / n * y) ≡ b * y
patterns-of n b y whole exact = (let e : n * (b / n * y) ≡ n * (b / n) * y = omega arith in e) ∙ ap (λ k. k * y) exact

bits-exact : (rate : Rate) (b y : ℕ) → b % rate_bits rate ≡ 0 → rate_bits rate * (b / rate_bits rate * y) ≡ b * y
bits-exact R12 b y whole = patterns-of 2 b y whole (omega arith)
bits-exact R23 b y whole = patterns-of 3 b y whole (omega arith)
bits-exact R34 b y whole = patterns-of 4 b y whole (omega arith)
bits-exact R56 b y whole = patterns-of 6 b y whole (omega arith)
bits-exact R78 b y whole = patterns-of 8 b y whole (omega arith)

-- the coded bits of the steps of so many symbols
pub coded_len-symbols : (mode : Mode) (l : LayerParameters) (y : ℕ) → coded_len l.rate (steps_in l.rate (bits_of_symbol mode l) * y) ≡ bits_of_symbol mode l * y
coded_len-symbols mode l y =
    let b = bits_of_symbol mode l in
    let split : steps_in l.rate b * y ≡ rate_steps l.rate * (b / rate_bits l.rate * y) = omega arith in
    ap (coded_len l.rate) split ∙ coded_len-whole l.rate (b / rate_bits l.rate * y) ∙ bits-exact l.rate b y (symbol-whole mode l)

-- ---- symbols and frames

-- the steps that one symbol more adds, and before the first coded bits none
pub steps-more : (mode : Mode) (l : LayerParameters) (symbols : ℕ) → read_delay mode l ≤ symbols → steps_after mode l symbols + steps_in l.rate (bits_of_symbol mode l) ≡ steps_after mode l (symbols + 1)
steps-more mode l symbols late =
    let s = steps_in l.rate (bits_of_symbol mode l) in
    let next : symbols + 1 - read_delay mode l ≡ symbols - read_delay mode l + 1 = omega arith in
    omega (arith, mul-add s (symbols - read_delay mode l) 1, ap (λ k. s * k) next)

pub steps-none : (mode : Mode) (l : LayerParameters) (symbols : ℕ) → symbols < read_delay mode l → steps_after mode l symbols ≡ steps_after mode l (symbols + 1)
steps-none mode l symbols early =
    let same : symbols - read_delay mode l ≡ symbols + 1 - read_delay mode l = omega arith in
    ap (λ k. steps_in l.rate (bits_of_symbol mode l) * k) same

-- there is room for the bytes of a symbol, before a frame is taken
pub symbol-room : (mode : Mode) (l : LayerParameters) (frames y : ℕ) → read_delay mode l ≤ 204 * frames + y → y < 204
    → steps_after mode l (204 * frames + y) + steps_in l.rate (bits_of_symbol mode l) ≤ 8 * (bytes_after mode l frames + 2 * (204 * packets_per_frame mode l)) + 127
symbol-room mode l frames y late few =
    let t = packets_per_frame mode l in
    let k = frames_over mode l.depth in
    let past = 204 * frames + y - read_delay mode l in
    let fed = frames - (k + 1) in
    let room : past + 1 ≤ 204 * fed + 408 = omega arith in
    let size = symbol-steps mode l in
    let more = mul-le-mul_left (8 * t) room in
    let steps : steps_after mode l (204 * frames + y) ≡ 8 * t * past = ap (λ s. s * past) size in
    omega (arith, more, size, steps, mul-add (8 * t) past 1, mul-add (8 * t) (204 * fed) 408)

-- a frame of decided bytes is there when it is taken
pub frame-there : (mode : Mode) (l : LayerParameters) (frames : ℕ) → 12 ≤ packets_per_frame mode l → frames_over mode l.depth + 1 ≤ frames
    → 8 * (bytes_after mode l frames + 204 * packets_per_frame mode l) + 127 ≤ steps_after mode l (204 * frames + 204)
frame-there mode l frames some late =
    let t = packets_per_frame mode l in
    let fed = frames - (frames_over mode l.depth + 1) in
    let past : 204 * frames + 204 - read_delay mode l ≡ 204 * fed + 406 = omega arith in
    let steps : steps_after mode l (204 * frames + 204) ≡ 8 * t * (204 * fed + 406) = ap (λ s. s * (204 * frames + 204 - read_delay mode l)) (symbol-steps mode l) ∙ ap (λ p. 8 * t * p) past in
    omega (arith, steps, mul-add (8 * t) (204 * fed) 406, some)

-- the bytes that are taken with a frame
pub bytes-more : (mode : Mode) (l : LayerParameters) (frames : ℕ) → frames_over mode l.depth + 1 ≤ frames → bytes_after mode l frames + 204 * packets_per_frame mode l ≡ bytes_after mode l (frames + 1)
bytes-more mode l frames late =
    let fed = frames - (frames_over mode l.depth + 1) in
    let next : frames + 1 - (frames_over mode l.depth + 1) ≡ fed + 1 = omega arith in
    omega (arith, mul-add (204 * packets_per_frame mode l) fed 1, ap (λ k. 204 * packets_per_frame mode l * k) next)

pub bytes-none : (mode : Mode) (l : LayerParameters) (frames : ℕ) → frames < frames_over mode l.depth + 1 → bytes_after mode l frames ≡ bytes_after mode l (frames + 1)
bytes-none mode l frames early =
    let same : frames - (frames_over mode l.depth + 1) ≡ frames + 1 - (frames_over mode l.depth + 1) = omega arith in
    ap (λ k. 204 * packets_per_frame mode l * k) same

-- nothing is decided of a new epoch
pub steps-start : (mode : Mode) (l : LayerParameters) → 0 ≡ steps_after mode l 0
steps-start mode l =
    let none : 0 - read_delay mode l ≡ 0 = omega arith in
    (let e : 0 ≡ steps_in l.rate (bits_of_symbol mode l) * 0 = omega arith in e) ∙ sym (ap (λ k. steps_in l.rate (bits_of_symbol mode l) * k) none)

pub bytes-start : (mode : Mode) (l : LayerParameters) → 0 ≡ bytes_after mode l 0
bytes-start mode l =
    let none : 0 - (frames_over mode l.depth + 1) ≡ 0 = omega arith in
    (let e : 0 ≡ 204 * packets_per_frame mode l * 0 = omega arith in e) ∙ sym (ap (λ k. 204 * packets_per_frame mode l * k) none)
