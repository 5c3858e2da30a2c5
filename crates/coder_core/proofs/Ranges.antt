-- Ranges of numbers in two parts.
use Rattle.std.proofs.Common.{◌≡◌, ℕ, zero, suc, ◌+◌, [], ◌∷◌, ◌++◌, ap, ◌∙◌, arith}
use Rattle.std.specs.List.{range_with_len}

pub range-split : (a n k : ℕ) → range_with_len a (n + k) ≡ range_with_len a n ++ range_with_len (a + n) k
range-split a zero k =
    ap (range_with_len a) (let e : 0 + k ≡ k = omega arith in e) ∙ ap (λ b. range_with_len b k) (let e : a ≡ a + 0 = omega arith in e)
range-split a (suc n) k =
    ap (range_with_len a) (let e : suc n + k ≡ suc (n + k) = omega arith in e)
    ∙ ap (λ xs. a ∷ xs) (range-split (a + 1) n k)
    ∙ ap (λ b. a ∷ (range_with_len (a + 1) n ++ range_with_len b k)) (let e : a + 1 + n ≡ a + suc n = omega arith in e)

pub range-more : (n : ℕ) → range_with_len 0 (n + 1) ≡ range_with_len 0 n ++ (n ∷ [])
range-more n = range-split 0 n 1 ∙ ap (λ b. range_with_len 0 n ++ (b ∷ [])) (let e : 0 + n ≡ n = omega arith in e)
