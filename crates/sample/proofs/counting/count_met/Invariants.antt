use Rattle.std.proofs.Common.{◌≡◌, ℕ, Bool, List, ◌+◌, ◌*◌, ◌≤◌, cond, sum, sum_by, count_by}
use Rattle.std.specs.List.{range_with_len}
use Rattle.sample.specs.Counting.{AreCompared}
use Rattle.sample.proofs.counting.count_met.Given as goal

abbrev pub invariant-loop-j : goal.invariant-loop-j
invariant-loop-j l = record {
  met_most : l.tally.met ≤ l.fn.first + l.j;
  sum_most : l.tally.sum ≤ 47940 * (l.fn.first + l.j);
  marked : l.tally.marked ≡ l.initial.tally.marked;
  met : (met : ℕ → Bool) (packet : ℕ → List ℕ) → AreCompared met packet l.input l.fn.first l.packets
      → l.initial.tally.met ≡ count_by met (range_with_len 0 l.fn.first) → l.tally.met ≡ count_by met (range_with_len 0 (l.fn.first + l.j));
  sum : (met : ℕ → Bool) (packet : ℕ → List ℕ) → AreCompared met packet l.input l.fn.first l.packets
      → l.initial.tally.sum ≡ sum_by (λ i. cond (met i) (sum (packet i)) 0) (range_with_len 0 l.fn.first)
      → l.tally.sum ≡ sum_by (λ i. cond (met i) (sum (packet i)) 0) (range_with_len 0 (l.fn.first + l.j));
}
