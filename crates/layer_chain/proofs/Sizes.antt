-- How many coded bits the bytes of whole frames have.
use Rattle.std.proofs.Common.{◌≡◌, ℕ, ◌*◌, ◌%◌, arith, ap, ◌∙◌}
use Rattle.isdbt_base.specs.declared.kinds.Mode.{Mode}
use Rattle.isdbt_base.specs.declared.kinds.Rate.{Rate}
use Rattle.isdbt_base.specs.declared.kinds.Rate.TheVariants.{R12, R23, R34, R56, R78}
use Rattle.isdbt_base.specs.LayerParameters.{LayerParameters}
use Rattle.isdbt_base.specs.Numbers.{layer_cells, cell_bits, rate_steps, rate_bits, packets_per_frame}
use Rattle.isdbt_base.proofs.NumberLaws.{packets-exact}
use Rattle.conv_punct.specs.StandsFor.{coded_size}

-- eight bits of each byte of x packets, in y cells' bits at the rate
whole_patterns : (rate : Rate) (x y : ℕ) → 8 * rate_bits rate * x ≡ y * rate_steps rate → 8 * (204 * x) % rate_steps rate ≡ 0
whole_patterns R12 x y e = omega arith
whole_patterns R23 x y e = omega arith
whole_patterns R34 x y e = omega arith
whole_patterns R56 x y e = omega arith
whole_patterns R78 x y e = omega arith

sizes : (rate : Rate) (x y : ℕ) → 8 * rate_bits rate * x ≡ y * rate_steps rate → coded_size rate (204 * x) ≡ 204 * y
sizes R12 x y e = omega arith
sizes R23 x y e = omega arith
sizes R34 x y e = omega arith
sizes R56 x y e = omega arith
sizes R78 x y e = omega arith

frames_exact : (mode : Mode) (l : LayerParameters) (g : ℕ) → 8 * rate_bits l.rate * (packets_per_frame mode l * g) ≡ layer_cells mode l * cell_bits l.modulation * g * rate_steps l.rate
frames_exact mode l g =
    let e : g * (8 * rate_bits l.rate * packets_per_frame mode l) ≡ g * (layer_cells mode l * cell_bits l.modulation * rate_steps l.rate) = ap (λ n. g * n) (packets-exact mode l) in
    omega (arith, e)

-- the bytes of a frame are whole patterns, and so are those of g frames
pub frame-whole : (mode : Mode) (l : LayerParameters) → 8 * (204 * packets_per_frame mode l) % rate_steps l.rate ≡ 0
frame-whole mode l = whole_patterns l.rate (packets_per_frame mode l) (layer_cells mode l * cell_bits l.modulation) (packets-exact mode l)

pub frames-whole : (mode : Mode) (l : LayerParameters) (g : ℕ) → 8 * (204 * packets_per_frame mode l * g) % rate_steps l.rate ≡ 0
frames-whole mode l g =
    let e : 204 * packets_per_frame mode l * g ≡ 204 * (packets_per_frame mode l * g) = omega arith in
    ap (λ n. 8 * n % rate_steps l.rate) e ∙ whole_patterns l.rate (packets_per_frame mode l * g) (layer_cells mode l * cell_bits l.modulation * g) (frames_exact mode l g)

-- the coded bits of g frames
pub coded_size-frames : (mode : Mode) (l : LayerParameters) (g : ℕ) → coded_size l.rate (204 * packets_per_frame mode l * g) ≡ 204 * layer_cells mode l * cell_bits l.modulation * g
coded_size-frames mode l g =
    let e : 204 * packets_per_frame mode l * g ≡ 204 * (packets_per_frame mode l * g) = omega arith in
    ap (coded_size l.rate) e ∙ sizes l.rate (packets_per_frame mode l * g) (layer_cells mode l * cell_bits l.modulation * g) (frames_exact mode l g) ∙ omega arith
