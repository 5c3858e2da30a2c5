use Rattle.std.proofs.Common.{◌≡◌, ◌∙◌, arith, subst, pos, ◌-ℤ◌}
use Rattle.std.specs.Int.{int_max, int_min}
use Rattle.std.proofs.lemmas.Int.{ints, clamps}
use Rattle.cell_map.proofs.TableLaws.{axis-read}
use Rattle.cell_map.proofs.mapping.axis_bits.Goals as goal

pub overflow_cast-highest : goal.overflow_cast-highest
overflow_cast-highest c =
    let lower = c.clamp-within.ensures.lower_bound in
    let upper = c.clamp-within.ensures.upper_bound in
    (omega (arith, ints), omega (arith, ints))

pub returns : goal.returns
returns c =
    let top = c.highest_level-highest.result in
    let held = c.clamp-within.ensures.value in
    let least = c.highest_level-highest.ensures.least in
    let most = c.highest_level-highest.ensures.most in
    let is_top = c.highest_level-highest.ensures.value in
    let lower = c.clamp-within.ensures.lower_bound in
    let upper = c.clamp-within.ensures.upper_bound in
    let clamped : c.clamp-within.result ≡ int_max (pos 0 -ℤ top) (int_min c.args.value top) = omega (arith, ints, clamps) in
    let within = subst (λ h. c.clamp-within.result ≡ int_max (pos 0 -ℤ h) (int_min c.args.value h)) is_top clamped in
    record { value = c.level_bits.ensures ∙ axis-read c.args.modulation c.args.value c.clamp-within.result _ c.ranges.value within (omega (arith, ints)) }
