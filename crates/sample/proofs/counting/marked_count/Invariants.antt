use Rattle.std.proofs.Common.{◌≡◌, [], ◌≤◌, nat_le, count_by, slice_index, slice_index_or}
use Rattle.std.specs.List.{range_with_len}
use Rattle.sample.proofs.counting.marked_count.Given as goal

abbrev pub invariant-loop-j : goal.invariant-loop-j
invariant-loop-j l = record {
  value : l.count ≡ count_by (λ j. nat_le 128 (slice_index (slice_index_or l.packets j []) 1)) (range_with_len 0 l.j);
  most : l.count ≤ l.j;
}
