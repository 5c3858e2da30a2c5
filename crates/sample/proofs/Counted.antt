-- Sums and counts over the numbers below one.
use Rattle.std.proofs.Common.{◌≡◌, ℕ, suc, ◌+◌, ◌<◌, Bool, cond, List, [], length, get_or, sum, count_by, arith, ap, sym, ◌∙◌}
use Rattle.std.specs.Prelude.{sum_by}
use Rattle.std.specs.List.{range_with_len}
use Rattle.std.specs.Str.{bytes_eq}
use Rattle.ts_packet.specs.Packets.{piece}
use Rattle.coder_core.proofs.FrameStarts.{sum_range-suc}
use Rattle.sample.specs.Counting.{AreCompared}

-- a sum over one number more
pub sum-more : (g : ℕ → ℕ) (n m : ℕ) → m ≡ n + 1 → sum_by g (range_with_len 0 m) ≡ sum_by g (range_with_len 0 n) + g n
sum-more g n m is =
    ap (λ k. sum_by g (range_with_len 0 k)) (let e : m ≡ suc n = omega (arith, is) in e) ∙ sum_range-suc g 0 n
    ∙ ap (λ k. sum_by g (range_with_len 0 n) + g k) (let e : 0 + n ≡ n = omega arith in e)

-- a count over one number more
pub count-more : (p : ℕ → Bool) (n m : ℕ) (b : Bool) → m ≡ n + 1 → p n ≡ b → count_by p (range_with_len 0 m) ≡ count_by p (range_with_len 0 n) + cond b 1 0
count-more p n m b is at = sum-more (λ k. cond (p k) 1 0) n m is ∙ ap (λ t. count_by p (range_with_len 0 n) + cond t 1 0) at

-- ---- received packets that are compared with those of an input

module _ (met : ℕ → Bool) (packet : ℕ → List ℕ) (input : List ℕ) (first : ℕ) (received : List (List ℕ)) (are : AreCompared met packet input first received) (j : ℕ) (less : j < length received) (b : Bool) (is : b ≡ bytes_eq (get_or received j []) (piece 188 input (first + j))) where
  -- the test of one says whether it is met
  met-at : met (first + j) ≡ b
  met-at = sym (are.compared j less) ∙ ap (bytes_eq (get_or received j [])) (sym (are.sent j less)) ∙ sym is

  -- the count and the sum with one more
  pub met-step : (old new : ℕ) → new ≡ old + cond b 1 0 → old ≡ count_by met (range_with_len 0 (first + j)) → new ≡ count_by met (range_with_len 0 (first + (j + 1)))
  met-step old new more so_far =
      more ∙ ap (λ n. n + cond b 1 0) so_far ∙ sym (count-more met (first + j) (first + (j + 1)) b (omega arith) met-at)

  pub sum-step : (old new : ℕ) → new ≡ old + cond b (sum (piece 188 input (first + j))) 0 → old ≡ sum_by (λ i. cond (met i) (sum (packet i)) 0) (range_with_len 0 (first + j))
      → new ≡ sum_by (λ i. cond (met i) (sum (packet i)) 0) (range_with_len 0 (first + (j + 1)))
  sum-step old new more so_far =
      more ∙ ap (λ n. n + cond b (sum (piece 188 input (first + j))) 0) so_far
      ∙ ap (λ xs. sum_by (λ i. cond (met i) (sum (packet i)) 0) (range_with_len 0 (first + j)) + cond b (sum xs) 0) (are.sent j less)
      ∙ ap (λ t. sum_by (λ i. cond (met i) (sum (packet i)) 0) (range_with_len 0 (first + j)) + cond t (sum (packet (first + j))) 0) (sym met-at)
      ∙ sym (sum-more (λ i. cond (met i) (sum (packet i)) 0) (first + j) (first + (j + 1)) (omega arith))
