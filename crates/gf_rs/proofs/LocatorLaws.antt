-- The search for the shortest recurrence of the sums (Berlekamp and Massey), and why its polynomial has the wrong places as its roots.
use Rattle.std.proofs.Common.{◌≡◌, ℕ, zero, suc, ◌+◌, ◌-◌, ◌*◌, ◌<◌, ◌≤◌, refl, ap, List, length, arith, inl, inr, sym, ◌∙◌, subst, ◌⊎◌, add-zero, add-suc}
use Rattle.std.specs.Prelude.{bit_xor}
use Rattle.std.specs.Int.Bits.{xor_self, xor_zero_r}
use Rattle.std.proofs.lemmas.Bool.Decides.{eqb_tells, leb_tells}
use Rattle.std.proofs.Math.Path.{fun_ext}
use Rattle.gf_rs.specs.Field.{gf_mul, gf_pow}
use Rattle.gf_rs.specs.Polynomials.{along, value_to, moved, IsBerlekampMassey}
use Rattle.gf_rs.proofs.FieldLaws.{xor_four, mul-xor_left, mul-xor_right, mul_comm, mul_assoc, mul_one, mul-lt, zero_mul, mul_zero}
use Rattle.gf_rs.proofs.Sums.{power_sum, FallsFrom, Holds, vanish, along-powers, sum_of_zeros}

pub along-cong : (c s t : ℕ → ℕ) (d i : ℕ) → ((m : ℕ) → m ≤ d + i → s m ≡ t m) → along c s d i ≡ along c t d i
unfolding along
along-cong c s t zero i e = ap (gf_mul (c 0)) (e i (omega arith))
along-cong c s t (suc d) i e =
    ap (λ x. bit_xor x (gf_mul (c (suc d)) (s i))) (along-cong c s t d (suc i) (λ m h. e m (omega arith)))
    ∙ ap (λ x. bit_xor (along c t d (suc i)) (gf_mul (c (suc d)) x)) (e i (omega arith))

-- coefficients that are 0 from some degree on add nothing
pub along-short : (c s : ℕ → ℕ) (l i o : ℕ) → ((j : ℕ) → l < j → c j ≡ 0) → along c s (l + i) o ≡ along c s l (i + o)
unfolding along
along-short c s l zero o h = ap (λ d. along c s d o) (add-zero l) ∙ ap (along c s l) (let z : o ≡ 0 + o = omega arith in z)
along-short c s l (suc i) o h =
    ap (λ d. along c s d o) (add-suc l i)
    ∙ ap (λ x. bit_xor (along c s (l + i) (suc o)) (gf_mul x (s o))) (h (suc (l + i)) (omega arith))
    ∙ ap (bit_xor (along c s (l + i) (suc o))) (zero_mul (s o))
    ∙ xor_zero_r (along c s (l + i) (suc o))
    ∙ along-short c s l i (suc o) h
    ∙ ap (along c s l) (let z : i + suc o ≡ suc i + o = omega arith in z)

pub along-xor : (c e : ℕ → ℕ) (x : ℕ) (s : ℕ → ℕ) (d i : ℕ) → along (λ j. bit_xor (c j) (gf_mul x (e j))) s d i ≡ bit_xor (along c s d i) (gf_mul x (along e s d i))
unfolding along
along-xor c e x s zero i = mul-xor_left (c 0) (gf_mul x (e 0)) (s i) ∙ ap (bit_xor (gf_mul (c 0) (s i))) (mul_assoc x (e 0) (s i))
along-xor c e x s (suc d) i =
    let u = gf_mul (c (suc d)) (s i) in
    let v = gf_mul (e (suc d)) (s i) in
    let a = along c s d (suc i) in
    let b = along e s d (suc i) in
    ap (λ z. bit_xor z (gf_mul (bit_xor (c (suc d)) (gf_mul x (e (suc d)))) (s i))) (along-xor c e x s d (suc i))
    ∙ ap (bit_xor (bit_xor a (gf_mul x b))) (mul-xor_left (c (suc d)) (gf_mul x (e (suc d))) (s i) ∙ ap (bit_xor u) (mul_assoc x (e (suc d)) (s i)))
    ∙ xor_four a (gf_mul x b) u (gf_mul x v)
    ∙ ap (bit_xor (bit_xor a u)) (sym (mul-xor_right x b v))

pub along-scaled : (c : ℕ → ℕ) (x : ℕ) (s : ℕ → ℕ) (d i : ℕ) → along (λ j. gf_mul x (c j)) s d i ≡ gf_mul x (along c s d i)
unfolding along
along-scaled c x s zero i = mul_assoc x (c 0) (s i)
along-scaled c x s (suc d) i =
    ap (λ z. bit_xor z (gf_mul (gf_mul x (c (suc d))) (s i))) (along-scaled c x s d (suc i))
    ∙ ap (bit_xor (gf_mul x (along c s d (suc i)))) (mul_assoc x (c (suc d)) (s i))
    ∙ sym (mul-xor_right x (along c s d (suc i)) (gf_mul (c (suc d)) (s i)))

pub along-moved : (b s : ℕ → ℕ) (d i : ℕ) → along (moved b) s (suc d) i ≡ along b s d i
unfolding along
along-moved b s zero i = ap (λ z. bit_xor z (gf_mul (b 0) (s i))) (zero_mul (s (suc i)))
along-moved b s (suc d) i = ap (λ z. bit_xor z (gf_mul (b (suc d)) (s i))) (along-moved b s d (suc i))

-- what the other has once it is moved up
moved_short : (n l : ℕ) (c b s : ℕ → ℕ) → IsBerlekampMassey n l c b s → (j : ℕ) → suc n < j + l → moved b j ≡ 0
moved_short n l c b s h zero k = refl
moved_short n l c b s h (suc j) k = h.other_short j (omega arith)

moved_fits : (n l : ℕ) (c b s : ℕ → ℕ) → IsBerlekampMassey n l c b s → (k : ℕ) → n < k + l → k < n → along (moved b) s k 0 ≡ 0
moved_fits n l c b s h zero p q = absurd (let w : l ≤ n = h.within in omega arith)
moved_fits n l c b s h (suc k) p q = along-moved b s k 0 ∙ h.other_fits k (omega arith) q

moved_misses : (n l : ℕ) (c b s : ℕ → ℕ) → IsBerlekampMassey n l c b s → 0 < l → along (moved b) s n 0 ≡ 1
moved_misses zero l c b s h p = absurd (let w : l ≤ 0 = h.within in omega arith)
moved_misses (suc n) l c b s h p = along-moved b s n 0 ∙ h.other_misses n refl p

split_last : (n k : ℕ) → k < suc n → (k < n) ⊎ (k ≡ n)
split_last n k h = elim (eqb_tells k n) [ inl e ↦ inr e.1 | inr e ↦ inl (omega arith) ]

pub kept_step : (n l : ℕ) (c b s : ℕ → ℕ) → IsBerlekampMassey n l c b s → along c s n 0 ≡ 0 → IsBerlekampMassey (suc n) l c (moved b) s
kept_step n l c b s h z = record {
  within = (let w : l ≤ n = h.within in omega arith);
  first = h.first;
  short = h.short;
  fits = λ k p q. elim (split_last n k q) [ inl r ↦ h.fits k p r | inr e ↦ ap (λ m. along c s m 0) e ∙ z ];
  other_short = moved_short n l c b s h;
  other_fits = λ k p q. moved_fits n l c b s h k (omega arith) (omega arith);
  other_misses = λ k e p. (let same : k ≡ n = omega arith in ap (λ m. along (moved b) s m 0) same ∙ moved_misses n l c b s h p);
}

-- the coefficients with the miss taken away
abbrev pub mended : (ℕ → ℕ) → (ℕ → ℕ) → ℕ → ℕ → ℕ
mended c b x j = bit_xor (c j) (gf_mul x (moved b j))

mended_first : (n l : ℕ) (c b s : ℕ → ℕ) (x : ℕ) → IsBerlekampMassey n l c b s → mended c b x 0 ≡ 1
mended_first n l c b s x h = ap (bit_xor (c 0)) (mul_zero x) ∙ xor_zero_r (c 0) ∙ h.first

mended_zero : (c b : ℕ → ℕ) (x j : ℕ) → c j ≡ 0 → moved b j ≡ 0 → mended c b x j ≡ 0
mended_zero c b x j e f = ap (λ z. bit_xor z (gf_mul x (moved b j))) e ∙ ap (gf_mul x) f ∙ mul_zero x

mended_along : (c b s : ℕ → ℕ) (x k u v : ℕ) → along c s k 0 ≡ u → along (moved b) s k 0 ≡ v → along (mended c b x) s k 0 ≡ bit_xor u (gf_mul x v)
mended_along c b s x k u v e f = along-xor c (moved b) x s k 0 ∙ ap (λ z. bit_xor z (gf_mul x (along (moved b) s k 0))) e ∙ ap (λ z. bit_xor u (gf_mul x z)) f

mended_fits : (n l : ℕ) (c b s : ℕ → ℕ) (x : ℕ) → IsBerlekampMassey n l c b s → along c s n 0 ≡ x → x < 256 → (k : ℕ) → l ≤ k → n < k + l → k < suc n → along (mended c b x) s k 0 ≡ 0
mended_fits n l c b s x h m lt k p q r =
    elim (split_last n k r) [
      | inl t ↦ mended_along c b s x k 0 0 (h.fits k p t) (moved_fits n l c b s h k q t) ∙ mul_zero x
      | inr e ↦ ap (λ i. along (mended c b x) s i 0) e
          ∙ mended_along c b s x n x 1 m (moved_misses n l c b s h (omega arith))
          ∙ ap (bit_xor x) (mul_one x lt) ∙ xor_self x
    ]

pub mended_step : (n l : ℕ) (c b s : ℕ → ℕ) (x : ℕ) → IsBerlekampMassey n l c b s → along c s n 0 ≡ x → x < 256 → n < 2 * l → IsBerlekampMassey (suc n) l (mended c b x) (moved b) s
mended_step n l c b s x h m lt k = record {
  within = (let w : l ≤ n = h.within in omega arith);
  first = mended_first n l c b s x h;
  short = λ j p. mended_zero c b x j (h.short j p) (moved_short n l c b s h j (omega arith));
  fits = λ i p q. mended_fits n l c b s x h m lt i p (omega arith) q;
  other_short = moved_short n l c b s h;
  other_fits = λ i p q. moved_fits n l c b s h i (omega arith) (omega arith);
  other_misses = λ i e p. (let same : i ≡ n = omega arith in ap (λ m. along (moved b) s m 0) same ∙ moved_misses n l c b s h p);
}

pub longer_step : (n l : ℕ) (c b s : ℕ → ℕ) (x y : ℕ) → IsBerlekampMassey n l c b s → along c s n 0 ≡ x → x < 256 → gf_mul x y ≡ 1 → 2 * l ≤ n →
    IsBerlekampMassey (suc n) (n + 1 - l) (mended c b x) (λ j. gf_mul y (c j)) s
longer_step n l c b s x y h m lt inv k = record {
  within = omega arith;
  first = mended_first n l c b s x h;
  short = λ j p. mended_zero c b x j (h.short j (omega arith)) (moved_short n l c b s h j (omega arith));
  fits = λ i p q. mended_fits n l c b s x h m lt i (omega arith) (omega arith) q;
  other_short = λ j p. ap (gf_mul y) (h.short j (omega arith)) ∙ mul_zero y;
  other_fits = λ i p q. along-scaled c y s i 0 ∙ ap (gf_mul y) (h.fits i (omega arith) (omega arith)) ∙ mul_zero y;
  other_misses = λ i e p. (let same : i ≡ n = omega arith in along-scaled c y s i 0 ∙ ap (λ k. gf_mul y (along c s k 0)) same ∙ ap (gf_mul y) m ∙ mul_comm y x ∙ inv);
}

-- one, and no further coefficient
abbrev pub unit : ℕ → ℕ
unit zero = 1
unit (suc j) = 0

pub start : (s : ℕ → ℕ) → IsBerlekampMassey 0 0 unit unit s
start s = record {
  within = omega arith;
  first = refl;
  short = later;
  fits = λ k p q. absurd (omega arith);
  other_short = λ j p. later j (omega arith);
  other_fits = λ k p q. absurd (omega arith);
  other_misses = λ k e p. absurd (omega arith);
}
  where
    later : (j : ℕ) → 0 < j → unit j ≡ 0
    later zero h = absurd (omega arith)
    later (suc j) h = refl

-- the same search, by equal coefficients
pub IsBerlekampMassey-same : (n m l k : ℕ) (c e b f s : ℕ → ℕ) → n ≡ m → l ≡ k → ((j : ℕ) → c j ≡ e j) → ((j : ℕ) → b j ≡ f j) → IsBerlekampMassey m k e f s → IsBerlekampMassey n l c b s
IsBerlekampMassey-same n m l k c e b f s p q u v h =
    subst (λ i. IsBerlekampMassey i l c b s) (sym p) (subst (λ i. IsBerlekampMassey m i c b s) (sym q)
    (subst (λ g. IsBerlekampMassey m k g b s) (sym (fun_ext u)) (subst (λ g. IsBerlekampMassey m k e g s) (sym (fun_ext v)) h)))

one-zero : (n : ℕ) → n ≡ 1 → n ≡ 0 → ⊥
one-zero n e f = absurd (omega arith)

-- The terms are sums of powers over at most half as many exponents.
module _ (r l : ℕ) (c b s w : ℕ → ℕ) (qs : List ℕ) (bound : ℕ) where
  pub not_long : IsBerlekampMassey r l c b s → ((m : ℕ) → m < r → s m ≡ power_sum w qs m) → bound ≤ 255 → FallsFrom bound qs → ((q : ℕ) → w q < 256) → l ≤ length qs
  not_long h e small falls bytes =
      elim (leb_tells l (length qs)) [
        | inl k ↦ k.1
        | inr k ↦ absurd (contradiction (omega arith))
      ]
    where
      contradiction : length qs < l → ⊥
      contradiction long =
          let inside : l ≤ r = h.within in
          let d = r - l in
          let back : (i : ℕ) → i < l → along b s (d + i) 0 ≡ along b (power_sum w qs) d i =
          λ i k. along-short b s d i 0 (λ j p. h.other_short j (omega arith)) ∙ ap (along b s d) (add-zero i) ∙ along-cong b s (power_sum w qs) d i (λ m p. e m (omega arith)) in
          let killed : Holds (λ q. gf_mul (w q) (value_to b d (gf_pow 2 q)) ≡ 0) qs =
          vanish qs bound (λ q. gf_mul (w q) (value_to b d (gf_pow 2 q))) small falls (λ q. mul-lt (w q) (value_to b d (gf_pow 2 q)))
          (λ i k. sym (along-powers b w qs d i) ∙ sym (back i (omega arith)) ∙ h.other_fits (d + i) (omega arith) (omega arith)) in
          let none : along b s (d + (l - 1)) 0 ≡ 0 = back (l - 1) (omega arith) ∙ along-powers b w qs d (l - 1) ∙ sum_of_zeros (λ q. gf_mul (w q) (value_to b d (gf_pow 2 q))) qs (l - 1) killed in
          one-zero (along b s (d + (l - 1)) 0) (h.other_misses (d + (l - 1)) (omega arith) (omega arith)) none

  -- each exponent is a root, but where its weight is 0
  pub roots_found : IsBerlekampMassey r l c b s → ((m : ℕ) → m < r → s m ≡ power_sum w qs m) → bound ≤ 255 → FallsFrom bound qs → ((q : ℕ) → w q < 256) → length qs + l ≤ r →
      Holds (λ q. gf_mul (w q) (value_to c l (gf_pow 2 q)) ≡ 0) qs
  roots_found h e small falls bytes room =
      vanish qs bound (λ q. gf_mul (w q) (value_to c l (gf_pow 2 q))) small falls (λ q. mul-lt (w q) (value_to c l (gf_pow 2 q)))
      (λ i k. sym (along-powers c w qs l i) ∙ sym (along-cong c s (power_sum w qs) l i (λ m p. e m (omega arith)))
      ∙ sym (along-short c s l i 0 (λ j p. h.short j p) ∙ ap (along c s l) (add-zero i)) ∙ h.fits (l + i) (omega arith) (omega arith))
