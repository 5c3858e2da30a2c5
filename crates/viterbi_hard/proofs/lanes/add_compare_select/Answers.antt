use Rattle.std.proofs.Common.{◌≡◌, ℕ, ◌+◌, ◌*◌, ◌<◌, ◌≤◌, ◌∙◌, arith, false, true, get_or}
use Rattle.viterbi_hard.specs.Steps.{read_of}
use Rattle.viterbi_hard.specs.States.{AreLow, even_metric, odd_metric, next_metric, next_tag}
use Rattle.viterbi_hard.proofs.StateLaws.{branch_metric_at_le, by_parity, chosen_metric, chosen_tag, one_even, one_odd, zero_even, zero_odd}
use Rattle.viterbi_hard.proofs.lanes.add_compare_select.Goals as goal

-- a sum of two lanes, from what they hold
added : (x a b m k sum : ℕ) → (a + b < 256 → x ≡ a + b) → a ≡ m → b ≡ k → m < 200 → k ≤ 2 → m + k ≡ sum → x ≡ sum
added x a b m k sum f ea eb lm lk e = f (omega arith) ∙ omega arith

-- the metrics of the lanes 2 * i and 2 * i + 1 through their even and their odd states before
zero_from_even : (c : goal.After-woven-new_tags) → AreLow c.args.metrics → (i : ℕ) → i < 32 → get_or c.sum-zero_even.result i 0 ≡ even_metric (read_of c.args.read) c.args.metrics (2 * i)
zero_from_even c low i h =
    added _ _ _ _ _ _ (c.sum-zero_even.ensures i h) (c.low_half-even.ensures i h) (c.even_costs-same.ensures i h)
    (low i (omega arith)) (branch_metric_at_le (read_of c.args.read) (2 * i) false) (zero_even (read_of c.args.read) c.args.metrics i h)

zero_from_odd : (c : goal.After-woven-new_tags) → AreLow c.args.metrics → (i : ℕ) → i < 32 → get_or c.sum-zero_odd.result i 0 ≡ odd_metric (read_of c.args.read) c.args.metrics (2 * i)
zero_from_odd c low i h =
    added _ _ _ _ _ _ (c.sum-zero_odd.ensures i h) (c.high_half-odd.ensures i h) (c.odd_costs-other.ensures i h)
    (low (32 + i) (omega arith)) (branch_metric_at_le (read_of c.args.read) (2 * i) true) (zero_odd (read_of c.args.read) c.args.metrics i h)

one_from_even : (c : goal.After-woven-new_tags) → AreLow c.args.metrics → (i : ℕ) → i < 32 → get_or c.sum-one_even.result i 0 ≡ even_metric (read_of c.args.read) c.args.metrics (2 * i + 1)
one_from_even c low i h =
    added _ _ _ _ _ _ (c.sum-one_even.ensures i h) (c.low_half-even.ensures i h) (c.odd_costs-other.ensures i h)
    (low i (omega arith)) (branch_metric_at_le (read_of c.args.read) (2 * i) true) (one_even (read_of c.args.read) c.args.metrics i h)

one_from_odd : (c : goal.After-woven-new_tags) → AreLow c.args.metrics → (i : ℕ) → i < 32 → get_or c.sum-one_odd.result i 0 ≡ odd_metric (read_of c.args.read) c.args.metrics (2 * i + 1)
one_from_odd c low i h =
    added _ _ _ _ _ _ (c.sum-one_odd.ensures i h) (c.high_half-odd.ensures i h) (c.even_costs-same.ensures i h)
    (low (32 + i) (omega arith)) (branch_metric_at_le (read_of c.args.read) (2 * i) false) (one_odd (read_of c.args.read) c.args.metrics i h)

pub returns-clause-metrics : goal.returns-clause-metrics
returns-clause-metrics c = λ low.
    by_parity (λ n. get_or c.woven-new_metrics.result n 0 ≡ next_metric (read_of c.args.read) c.args.metrics n)
    (λ i h. c.woven-new_metrics.ensures.zeros i h ∙ c.surviving_metrics-zero_metrics.ensures i h ∙ chosen_metric (read_of c.args.read) c.args.metrics (2 * i) _ _ (zero_from_even c low i h) (zero_from_odd c low i h))
    (λ i h. c.woven-new_metrics.ensures.ones i h ∙ c.surviving_metrics-one_metrics.ensures i h ∙ chosen_metric (read_of c.args.read) c.args.metrics (2 * i + 1) _ _ (one_from_even c low i h) (one_from_odd c low i h))

pub returns-clause-tags : goal.returns-clause-tags
returns-clause-tags c = λ low.
    by_parity (λ n. get_or c.woven-new_tags.result n 0 ≡ next_tag (read_of c.args.read) c.args.metrics c.args.tags n)
    (λ i h. c.woven-new_tags.ensures.zeros i h ∙ c.surviving_tags-zero_tags.ensures i h ∙ chosen_tag (read_of c.args.read) c.args.metrics c.args.tags (2 * i) _ _ _ _ i (omega arith) (zero_from_even c low i h) (zero_from_odd c low i h) (c.low_half-even_tags.ensures i h) (c.high_half-odd_tags.ensures i h))
    (λ i h. c.woven-new_tags.ensures.ones i h ∙ c.surviving_tags-one_tags.ensures i h ∙ chosen_tag (read_of c.args.read) c.args.metrics c.args.tags (2 * i + 1) _ _ _ _ i (omega arith) (one_from_even c low i h) (one_from_odd c low i h) (c.low_half-even_tags.ensures i h) (c.high_half-odd_tags.ensures i h))
