-- How many items the delay lines of a layer's coder hold: as many as the delays add up to.
use Rattle.std.proofs.Common.{◌≡◌, ℕ, zero, suc, ◌+◌, ◌*◌, ◌/◌, ◌%◌, ◌<◌, List, length, refl, sym, ap, ◌∙◌, arith}
use Rattle.std.proofs.Math.Nat.{mul-add, suc-mul}
use Rattle.isdbt_base.specs.declared.kinds.Mode.{Mode}
use Rattle.isdbt_base.specs.declared.kinds.Mode.TheVariants.{M1, M2, M3}
use Rattle.isdbt_base.specs.declared.kinds.Modulation.{Modulation}
use Rattle.isdbt_base.specs.declared.kinds.Modulation.TheVariants.{Qpsk, Qam16, Qam64}
use Rattle.isdbt_base.specs.LayerParameters.{LayerParameters}
use Rattle.isdbt_base.specs.Numbers.{carriers, layer_cells, cell_bits, time_depth, time_adjust}
use Rattle.delay_line.specs.Stages.{Layout}
use Rattle.delay_line.specs.Adjusted.{AdjustedStandsFor}
use Rattle.delay_line.specs.Lines.{given_for}
use Rattle.delay_line.specs.Stages.{path_items}
use Rattle.delay_line.proofs.LineLaws.{length-held_after}
use Rattle.bit_inter.specs.BitPlaces.{bit_delay}
use Rattle.time_inter.specs.CellPlaces.{carrier_delay}
use Rattle.layer_chain.specs.Held.{items_in}

-- the delays of the first so many paths together
unfoldable pub delays : (ℕ → ℕ) → ℕ → ℕ
delays delay zero = 0
delays delay (suc n) = delays delay n + delay n

pub items_in-delays : {X : Type 0} (held : ℕ → List X) (delay : ℕ → ℕ) (n : ℕ) → ((p : ℕ) → p < n → length (held p) ≡ delay p) → items_in held n ≡ delays delay n
unfolding items_in delays
items_in-delays held delay zero h = refl
items_in-delays held delay (suc n) h =
    let before = items_in-delays held delay n (λ p k. h p (omega arith)) in
    let last = h n (omega arith) in
    omega (arith, before, last)

-- an adjustment and the stage behind it hold what they delay by
pub adjusted-items : {X : Type 0} (l : Layout X) (a : ℕ) (line : List X) (held : ℕ → List X) (h : List X) → AdjustedStandsFor l a line held h → length line + items_in held l.paths ≡ a + delays l.path_delay l.paths
adjusted-items l a line held h stands =
    let first : length line ≡ a = ap length stands.line_stands ∙ length-held_after a l.zero h in
    let paths = items_in-delays held l.path_delay l.paths (λ p k. ap length (stands.stage_stands p k) ∙ length-held_after (l.path_delay p) l.zero (path_items l.paths l.zero (given_for a l.zero h) p)) in
    omega (arith, first, paths)

-- ---- bytes and bits

pub byte-delays : delays (λ p. 17 * p) 12 ≡ 1122
unfolding delays
byte-delays = refl

pub bit-delays : (m : Modulation) → delays (bit_delay (cell_bits m)) (cell_bits m) ≡ 60 * cell_bits m
unfolding delays
bit-delays Qpsk = refl
bit-delays Qam16 = refl
bit-delays Qam64 = refl

-- a part that all delays have
pub delays-shared : (a : ℕ) (f : ℕ → ℕ) (n : ℕ) → delays (λ r. a + f r) n ≡ n * a + delays f n
unfolding delays
delays-shared a f zero = omega arith
delays-shared a f (suc n) = (let before = delays-shared a f n in let one = suc-mul n a in omega (arith, before, one))

-- ---- cells

pub delays-same : (f g : ℕ → ℕ) (n : ℕ) → ((p : ℕ) → p < n → f p ≡ g p) → delays f n ≡ delays g n
unfolding delays
delays-same f g zero h = refl
delays-same f g (suc n) h =
    let before = delays-same f g n (λ p k. h p (omega arith)) in
    let last = h n (omega arith) in
    omega (arith, before, last)

delays-more : (f : ℕ → ℕ) (n m : ℕ) → delays f (n + m) ≡ delays f n + delays (λ p. f (n + p)) m
unfolding delays
delays-more f n zero = (let e : n + 0 ≡ n = omega arith in rw e (omega arith))
delays-more f n (suc m) =
    let e : n + suc m ≡ suc (n + m) = omega arith in
    let before = delays-more f n m in
    rw e (omega (arith, before))

pub delays-times : (k : ℕ) (f : ℕ → ℕ) (n : ℕ) → delays (λ p. k * f p) n ≡ k * delays f n
unfolding delays
delays-times k f zero = omega arith
delays-times k f (suc n) = (let before = delays-times k f n in let e = mul-add k (delays f n) (f n) in omega (arith, before, e))

-- of 96 carriers
round : delays carrier_delay 96 ≡ 4560
unfolding delays
round = refl

rounds : (g : ℕ) → delays carrier_delay (96 * g) ≡ 4560 * g
unfolding delays
rounds zero = refl
rounds (suc g) =
    let e : 96 * suc g ≡ 96 * g + 96 = omega arith in
    let before = rounds g in
    let next = delays-same (λ p. carrier_delay (96 * g + p)) carrier_delay 96 (λ p k. omega arith) in
    let split = delays-more carrier_delay (96 * g) 96 in
    let last = round in
    rw e (omega (arith, before, next, split, last))

pub in_segment : (mode : Mode) (w : ℕ) → carrier_delay (w % carriers mode) ≡ carrier_delay w
in_segment M1 w = omega arith
in_segment M2 w = omega arith
in_segment M3 w = omega arith

pub segment_rounds : (mode : Mode) (segments : ℕ) → 2 * delays carrier_delay (segments * carriers mode) ≡ 95 * (segments * carriers mode)
segment_rounds M1 segments = (let e : segments * 96 ≡ 96 * segments = omega arith in let all = rounds segments in rw e (omega (arith, all)))
segment_rounds M2 segments = (let e : segments * 192 ≡ 96 * (2 * segments) = omega arith in let all = rounds (2 * segments) in rw e (omega (arith, all)))
segment_rounds M3 segments = (let e : segments * 384 ≡ 96 * (4 * segments) = omega arith in let all = rounds (4 * segments) in rw e (omega (arith, all)))

-- of the cells of a layer's symbol
pub cell-delays : (mode : Mode) (l : LayerParameters)
    → layer_cells mode l * (2 * time_adjust mode l.depth + 95 * time_depth mode l.depth) / 2
    ≡ time_adjust mode l.depth * layer_cells mode l + delays (λ w. time_depth mode l.depth * carrier_delay (w % carriers mode)) (l.segments * carriers mode)
cell-delays mode l =
    let i = time_depth mode l.depth in
    let a = time_adjust mode l.depth in
    let n = l.segments * carriers mode in
    let all = delays carrier_delay n in
    let same : delays (λ w. i * carrier_delay (w % carriers mode)) n ≡ i * all =
    delays-times i (λ w. carrier_delay (w % carriers mode)) n ∙ ap (λ k. i * k) (delays-same (λ w. carrier_delay (w % carriers mode)) carrier_delay n (λ p h. in_segment mode p)) in
    let twice : 2 * (a * n + i * all) ≡ n * (2 * a + 95 * i) =
    (let e : i * (2 * all) ≡ i * (95 * n) = ap (λ k. i * k) (segment_rounds mode l.segments) in let m = mul-add n (2 * a) (95 * i) in omega (arith, e, m)) in
    ap (λ k. k / 2) (sym twice) ∙ (let e = same in omega (arith, e))
