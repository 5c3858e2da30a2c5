-- The first of the causes of a range of numbers.
use Rattle.std.proofs.Common.{◌≡◌, ℕ, zero, suc, ◌+◌, ◌<◌, map, refl, ap, ◌∙◌, arith}
use Rattle.std.specs.Prelude.{Option, Some, None, [], ◌∷◌}
use Rattle.std.specs.List.{range_with_len}
use Rattle.isdbt_base.specs.Outcome.{first_some}

module _ {F : Type 0} where
  pub first_some-two : (a b : Option F) (x : F) → first_some (a ∷ b ∷ []) ≡ Some x → a ≡ None → b ≡ Some x
  first_some-two None None x e none = e
  first_some-two None (Some y) x e none = e
  first_some-two (Some y) b x e none = absurd (cc)

  none-from : (f : ℕ → Option F) (a n : ℕ) → ((k : ℕ) → k < n → f (a + k) ≡ None) → first_some (map f (range_with_len a n)) ≡ None
  none-from f a zero h = refl
  none-from f a (suc n) h =
      let here : f a ≡ None = ap f (let e : a ≡ a + 0 = omega arith in e) ∙ h 0 (omega arith) in
      rw here (none-from f (a + 1) n (λ k lt. ap f (let e : a + 1 + k ≡ a + suc k = omega arith in e) ∙ h (suc k) (omega arith)))

  first-from : (f : ℕ → Option F) (a n i : ℕ) (x : F) → i < n → f (a + i) ≡ Some x → ((k : ℕ) → k < i → f (a + k) ≡ None) → first_some (map f (range_with_len a n)) ≡ Some x
  first-from f a zero i x lt here before = absurd (omega arith)
  first-from f a (suc n) zero x lt here before = (let found : f a ≡ Some x = ap f (let e : a ≡ a + 0 = omega arith in e) ∙ here in rw found refl)
  first-from f a (suc n) (suc i) x lt here before =
      let first : f a ≡ None = ap f (let e : a ≡ a + 0 = omega arith in e) ∙ before 0 (omega arith) in
      rw first (first-from f (a + 1) n i x (omega arith)
      (ap f (let e : a + 1 + i ≡ a + suc i = omega arith in e) ∙ here)
      (λ k less. ap f (let e : a + 1 + k ≡ a + suc k = omega arith in e) ∙ before (suc k) (omega arith)))

  -- no cause below n
  pub no_cause : (f : ℕ → Option F) (n : ℕ) → ((k : ℕ) → k < n → f k ≡ None) → first_some (map f (range_with_len 0 n)) ≡ None
  no_cause f n h = none-from f 0 n (λ k less. ap f (let e : 0 + k ≡ k = omega arith in e) ∙ h k less)

  -- the first cause is that of i
  pub first_cause : (f : ℕ → Option F) (n i : ℕ) (x : F) → i < n → f i ≡ Some x → ((k : ℕ) → k < i → f k ≡ None) → first_some (map f (range_with_len 0 n)) ≡ Some x
  first_cause f n i x lt here before =
      first-from f 0 n i x lt (ap f (let e : 0 + i ≡ i = omega arith in e) ∙ here) (λ k less. ap f (let e : 0 + k ≡ k = omega arith in e) ∙ before k less)
