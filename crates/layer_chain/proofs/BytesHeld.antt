-- How many bytes the deinterleaver of a layer holds: as many as the delays of its paths add up to.
use Rattle.std.proofs.Common.{◌≡◌, ℕ, ◌-◌, ◌*◌, List, length, refl, ap, ◌∙◌}
use Rattle.delay_line.specs.Stages.{StandsFor, path_items}
use Rattle.delay_line.proofs.LineLaws.{length-held_after}
use Rattle.byte_inter.specs.Layouts.{deinter_layout}
use Rattle.layer_chain.specs.Held.{items_in}
use Rattle.layer_chain.proofs.HeldItems.{delays, items_in-delays}

-- the delays at the receiving side
pub left-delays : delays (λ p. 17 * (12 - 1 - p)) 12 ≡ 1122
unfolding delays
left-delays = refl

pub bytes-held : (held : ℕ → List ℕ) (h : List ℕ) → StandsFor (deinter_layout 12 17) held h → items_in held 12 ≡ 1122
bytes-held held h stands =
    items_in-delays held (λ p. 17 * (12 - 1 - p)) 12 (λ p k. ap length (stands p k) ∙ length-held_after (17 * (12 - 1 - p)) 0 (path_items 12 0 h p)) ∙ left-delays
