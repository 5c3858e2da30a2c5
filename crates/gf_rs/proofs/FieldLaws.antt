-- The laws of the field: products are sums in each part, so laws at the powers of two give them everywhere.
use Rattle.std.proofs.Common.{◌≡◌, ◌≢◌, ℕ, zero, suc, ◌+◌, ◌-◌, ◌*◌, ◌^◌, ◌<◌, ◌≤◌, ◌%◌, cond, refl, ap, Bool, true, false, arith, inl, inr, sym, ◌∙◌, subst, add-zero, add-suc}
use Rattle.std.specs.Prelude.{◌==◌, bit_xor}
use Rattle.std.specs.Int.{bit_at}
use Rattle.std.specs.Int.Bits.{xor_assoc, xor_self, xor_zero_r}
use Rattle.std.proofs.lemmas.Nat.{xor_comm, xor_block, xor_mod, xor_lt, pow_pos}
use Rattle.std.proofs.Math.Nat.{two-pow-succ, mod-mod}
use Rattle.std.proofs.lemmas.Nat.Bits.{bit_at_xor, bit_at-lt}
use Rattle.std.proofs.lemmas.Bool.Decides.{leb_tells}
use Rattle.gf_rs.specs.Field.{gf_mul, gf_pow, reduced, polynomial_product}
use Rattle.gf_rs.proofs.FieldTests.{powers_commute, powers_associate, powers_one, powers-lt}

-- four parts of a sum in another order
pub xor_four : (a b c d : ℕ) → bit_xor (bit_xor a b) (bit_xor c d) ≡ bit_xor (bit_xor a c) (bit_xor b d)
xor_four a b c d = xor_assoc a b (bit_xor c d) ∙ ap (bit_xor a) (sym (xor_assoc b c d) ∙ ap (λ x. bit_xor x d) (xor_comm b c) ∙ xor_assoc c b d) ∙ sym (xor_assoc a c (bit_xor b d))

xor_shifted : (a c k : ℕ) → bit_xor a c * 2 ^ k ≡ bit_xor (a * 2 ^ k) (c * 2 ^ k)
xor_shifted a c k =
    let pos : 0 < 2 ^ k = pow_pos k in
    sym (rw (add-zero (a * 2 ^ k), add-zero (c * 2 ^ k), add-zero (bit_xor a c * 2 ^ k)) at (xor_block k a c 0 0 pos pos))

product-xor : (k a c b : ℕ) → polynomial_product k (bit_xor a c) b ≡ bit_xor (polynomial_product k a b) (polynomial_product k c b)
unfolding polynomial_product
product-xor zero a c b = refl
product-xor (suc k) a c b =
    ap (λ x. bit_xor x (cond (bit_at b k == 1) (bit_xor a c * 2 ^ k) 0)) (product-xor k a c b)
    ∙ ap (λ x. bit_xor (bit_xor (polynomial_product k a b) (polynomial_product k c b)) x) (part (bit_at b k == 1))
    ∙ xor_four (polynomial_product k a b) (polynomial_product k c b) (cond (bit_at b k == 1) (a * 2 ^ k) 0) (cond (bit_at b k == 1) (c * 2 ^ k) 0)
  where
    part : (t : Bool) → cond t (bit_xor a c * 2 ^ k) 0 ≡ bit_xor (cond t (a * 2 ^ k) 0) (cond t (c * 2 ^ k) 0)
    part true = xor_shifted a c k
    part false = refl

-- what a bit of a sum adds is the sum of what the bits add
step-cases : (s t m p q : ℕ) → s < 2 → t < 2 → cond ((s + t) % 2 == 1) (bit_xor (bit_xor p q) m) (bit_xor p q) ≡ bit_xor (cond (s == 1) (bit_xor p m) p) (cond (t == 1) (bit_xor q m) q)
step-cases zero zero m p q h k = refl
step-cases zero (suc zero) m p q h k = xor_assoc p q m
step-cases (suc zero) zero m p q h k = xor_assoc p q m ∙ ap (λ x. bit_xor p x) (xor_comm q m) ∙ sym (xor_assoc p m q)
step-cases (suc zero) (suc zero) m p q h k = sym (xor_four p m q m ∙ ap (λ x. bit_xor (bit_xor p q) x) (xor_self m) ∙ xor_zero_r (bit_xor p q))
step-cases (suc (suc n)) t m p q h k = absurd (omega arith)
step-cases zero (suc (suc n)) m p q h k = absurd (omega arith)
step-cases (suc zero) (suc (suc n)) m p q h k = absurd (omega arith)

-- one step of the reduction
abbrev reduce_step : ℕ → ℕ → ℕ
reduce_step k p = cond (bit_at p (8 + k) == 1) (bit_xor p (0x11D * 2 ^ k)) p

step-xor : (k p q : ℕ) → reduce_step k (bit_xor p q) ≡ bit_xor (reduce_step k p) (reduce_step k q)
step-xor k p q =
    ap (λ b. cond (b == 1) (bit_xor (bit_xor p q) (0x11D * 2 ^ k)) (bit_xor p q)) (bit_at_xor p q (8 + k))
    ∙ step-cases (bit_at p (8 + k)) (bit_at q (8 + k)) (0x11D * 2 ^ k) p q (bit_at-lt p (8 + k)) (bit_at-lt q (8 + k))

reduced-xor : (k p q : ℕ) → reduced k (bit_xor p q) ≡ bit_xor (reduced k p) (reduced k q)
unfolding reduced
reduced-xor zero p q = refl
reduced-xor (suc k) p q = ap (reduced k) (step-xor k p q) ∙ reduced-xor k (reduce_step k p) (reduce_step k q)

-- products distribute over sums
pub mul-xor_left : (a c b : ℕ) → gf_mul (bit_xor a c) b ≡ bit_xor (gf_mul a b) (gf_mul c b)
unfolding gf_mul
mul-xor_left a c b =
    ap (λ x. reduced 7 (polynomial_product 8 x (b % 256))) (xor_mod a c 8)
    ∙ ap (reduced 7) (product-xor 8 (a % 256) (c % 256) (b % 256))
    ∙ reduced-xor 7 (polynomial_product 8 (a % 256) (b % 256)) (polynomial_product 8 (c % 256) (b % 256))

product-xor_right : (k a b c : ℕ) → polynomial_product k a (bit_xor b c) ≡ bit_xor (polynomial_product k a b) (polynomial_product k a c)
unfolding polynomial_product
product-xor_right zero a b c = refl
product-xor_right (suc k) a b c =
    ap (λ x. bit_xor x (cond (bit_at (bit_xor b c) k == 1) (a * 2 ^ k) 0)) (product-xor_right k a b c)
    ∙ ap (λ x. bit_xor (bit_xor (polynomial_product k a b) (polynomial_product k a c)) x)
    (ap (λ t. cond (t == 1) (a * 2 ^ k) 0) (bit_at_xor b c k) ∙ part (bit_at b k) (bit_at c k) (a * 2 ^ k) (bit_at-lt b k) (bit_at-lt c k))
    ∙ xor_four (polynomial_product k a b) (polynomial_product k a c) (cond (bit_at b k == 1) (a * 2 ^ k) 0) (cond (bit_at c k == 1) (a * 2 ^ k) 0)
  where
    part : (s t m : ℕ) → s < 2 → t < 2 → cond ((s + t) % 2 == 1) m 0 ≡ bit_xor (cond (s == 1) m 0) (cond (t == 1) m 0)
    part zero zero m h k = refl
    part zero (suc zero) m h k = refl
    part (suc zero) zero m h k = sym (xor_zero_r m)
    part (suc zero) (suc zero) m h k = sym (xor_self m)
    part (suc (suc n)) t m h k = absurd (omega arith)
    part zero (suc (suc n)) m h k = absurd (omega arith)
    part (suc zero) (suc (suc n)) m h k = absurd (omega arith)

pub mul-xor_right : (a b c : ℕ) → gf_mul a (bit_xor b c) ≡ bit_xor (gf_mul a b) (gf_mul a c)
unfolding gf_mul
mul-xor_right a b c =
    ap (λ x. reduced 7 (polynomial_product 8 (a % 256) x)) (xor_mod b c 8)
    ∙ ap (reduced 7) (product-xor_right 8 (a % 256) (b % 256) (c % 256))
    ∙ reduced-xor 7 (polynomial_product 8 (a % 256) (b % 256)) (polynomial_product 8 (a % 256) (c % 256))

-- a function that takes sums to sums
abbrev IsAdditive : (ℕ → ℕ) → Type 0
IsAdditive f = (a b : ℕ) → f (bit_xor a b) ≡ bit_xor (f a) (f b)

top-bit : (k s : ℕ) → s < 2 ^ k → bit_xor (2 ^ k) s ≡ 2 ^ k + s
top-bit k s h =
    let pos : 0 < 2 ^ k = pow_pos k in
    let e : bit_xor (1 * 2 ^ k + 0) (0 * 2 ^ k + s) ≡ bit_xor 1 0 * 2 ^ k + bit_xor 0 s = xor_block k 1 0 0 s pos h in
    let l : 1 * 2 ^ k + 0 ≡ 2 ^ k = omega arith in
    let r : 0 * 2 ^ k + s ≡ s = omega arith in
    sym (ap (λ x. bit_xor x (0 * 2 ^ k + s)) l ∙ ap (bit_xor (2 ^ k)) r) ∙ e ∙ ap (λ x. x + s) (let o : 1 * 2 ^ k ≡ 2 ^ k = omega arith in o)

back : (k a : ℕ) → k ≤ a → k + (a - k) ≡ a
back k a h = omega arith

-- two functions that take sums to sums and agree at eight powers of two agree on each byte
agree : (f g : ℕ → ℕ) → IsAdditive f → IsAdditive g → ((i : ℕ) → i < 8 → f (2 ^ i) ≡ g (2 ^ i)) → (k a : ℕ) → k ≤ 8 → a < 2 ^ k → f a ≡ g a
agree f g af ag e zero a h la =
    let z : a ≡ 0 = omega arith in
    ap f z ∙ (af 0 0 ∙ xor_self (f 0)) ∙ sym (ag 0 0 ∙ xor_self (g 0)) ∙ ap g (sym z)
agree f g af ag e (suc k) a h la =
    elim (leb_tells (2 ^ k) a) [
      | inl high ↦
          (let le : 2 ^ k ≤ a = high.1 in
          let low : a - 2 ^ k < 2 ^ k = omega (arith, two-pow-succ k) in
          let is : bit_xor (2 ^ k) (a - 2 ^ k) ≡ a = top-bit k (a - 2 ^ k) low ∙ back (2 ^ k) a le in
          ap f (sym is) ∙ af (2 ^ k) (a - 2 ^ k)
          ∙ ap (λ x. bit_xor x (f (a - 2 ^ k))) (e k (omega arith))
          ∙ ap (λ x. bit_xor (g (2 ^ k)) x) (agree f g af ag e k (a - 2 ^ k) (omega arith) low)
          ∙ sym (ag (2 ^ k) (a - 2 ^ k)) ∙ ap g is)
      | inr low ↦ agree f g af ag e k a (omega arith) (omega arith)
    ]

additive-lt : (f : ℕ → ℕ) → IsAdditive f → ((i : ℕ) → i < 8 → f (2 ^ i) < 256) → (k a : ℕ) → k ≤ 8 → a < 2 ^ k → f a < 256
additive-lt f af e zero a h la =
    let z : a ≡ 0 = omega arith in
    let n : f a ≡ 0 = ap f z ∙ (af 0 0 ∙ xor_self (f 0)) in
    omega arith
additive-lt f af e (suc k) a h la =
    elim (leb_tells (2 ^ k) a) [
      | inl high ↦
          (let le : 2 ^ k ≤ a = high.1 in
          let low : a - 2 ^ k < 2 ^ k = omega (arith, two-pow-succ k) in
          let is : bit_xor (2 ^ k) (a - 2 ^ k) ≡ a = top-bit k (a - 2 ^ k) low ∙ back (2 ^ k) a le in
          let whole : f (bit_xor (2 ^ k) (a - 2 ^ k)) < 256 = subst (λ x. x < 256) (sym (af (2 ^ k) (a - 2 ^ k))) (xor_lt 8 (f (2 ^ k)) (f (a - 2 ^ k)) (e k (omega arith)) (additive-lt f af e k (a - 2 ^ k) (omega arith) low)) in
          subst (λ x. f x < 256) is whole)
      | inr low ↦ additive-lt f af e k a (omega arith) (omega arith)
    ]

-- a product is that of the lowest bytes
mul-mod : (a b : ℕ) → gf_mul (a % 256) (b % 256) ≡ gf_mul a b
unfolding gf_mul
mul-mod a b = ap (λ x. reduced 7 (polynomial_product 8 x (b % 256 % 256))) (mod-mod a 256) ∙ ap (λ x. reduced 7 (polynomial_product 8 (a % 256) x)) (mod-mod b 256)

pub positive : (a : ℕ) → a ≢ 0 → 0 < a
positive zero n = absurd (n refl)
positive (suc a) n = omega arith

mod_lt : (a : ℕ) → a % 256 < 2 ^ 8
mod_lt a = omega arith

pub xor_lt_byte : (a b : ℕ) → a < 256 → b < 256 → bit_xor a b < 256
xor_lt_byte a b h k = xor_lt 8 a b h k

bytes_commute : (a b : ℕ) → a < 2 ^ 8 → b < 2 ^ 8 → gf_mul a b ≡ gf_mul b a
bytes_commute a b ha hb =
    agree (λ x. gf_mul x b) (λ x. gf_mul b x) (λ x y. mul-xor_left x y b) (λ x y. mul-xor_right b x y)
    (λ i hi. agree (λ y. gf_mul (2 ^ i) y) (λ y. gf_mul y (2 ^ i)) (λ x y. mul-xor_right (2 ^ i) x y) (λ x y. mul-xor_left x y (2 ^ i)) (λ j hj. powers_commute i j hi hj) 8 b (omega arith) hb)
    8 a (omega arith) ha

pub mul_comm : (a b : ℕ) → gf_mul a b ≡ gf_mul b a
mul_comm a b = sym (mul-mod a b) ∙ bytes_commute (a % 256) (b % 256) (mod_lt a) (mod_lt b) ∙ mul-mod b a

bytes_product-lt : (a b : ℕ) → a < 2 ^ 8 → b < 2 ^ 8 → gf_mul a b < 256
bytes_product-lt a b ha hb =
    additive-lt (λ x. gf_mul x b) (λ x y. mul-xor_left x y b)
    (λ i hi. additive-lt (λ y. gf_mul (2 ^ i) y) (λ x y. mul-xor_right (2 ^ i) x y) (λ j hj. powers-lt i j hi hj) 8 b (omega arith) hb)
    8 a (omega arith) ha

pub mul-lt : (a b : ℕ) → gf_mul a b < 256
mul-lt a b = subst (λ x. x < 256) (mul-mod a b) (bytes_product-lt (a % 256) (b % 256) (mod_lt a) (mod_lt b))

bytes_associate : (a b c : ℕ) → a < 2 ^ 8 → b < 2 ^ 8 → c < 2 ^ 8 → gf_mul (gf_mul a b) c ≡ gf_mul a (gf_mul b c)
bytes_associate a b c ha hb hc =
    agree (λ x. gf_mul (gf_mul x b) c) (λ x. gf_mul x (gf_mul b c))
    (λ x y. ap (λ z. gf_mul z c) (mul-xor_left x y b) ∙ mul-xor_left (gf_mul x b) (gf_mul y b) c) (λ x y. mul-xor_left x y (gf_mul b c))
    (λ i hi. agree (λ x. gf_mul (gf_mul (2 ^ i) x) c) (λ x. gf_mul (2 ^ i) (gf_mul x c))
    (λ x y. ap (λ z. gf_mul z c) (mul-xor_right (2 ^ i) x y) ∙ mul-xor_left (gf_mul (2 ^ i) x) (gf_mul (2 ^ i) y) c)
    (λ x y. ap (gf_mul (2 ^ i)) (mul-xor_left x y c) ∙ mul-xor_right (2 ^ i) (gf_mul x c) (gf_mul y c))
    (λ j hj. agree (λ x. gf_mul (gf_mul (2 ^ i) (2 ^ j)) x) (λ x. gf_mul (2 ^ i) (gf_mul (2 ^ j) x))
    (λ x y. mul-xor_right (gf_mul (2 ^ i) (2 ^ j)) x y)
    (λ x y. ap (gf_mul (2 ^ i)) (mul-xor_right (2 ^ j) x y) ∙ mul-xor_right (2 ^ i) (gf_mul (2 ^ j) x) (gf_mul (2 ^ j) y))
    (λ k hk. powers_associate i j k hi hj hk) 8 c (omega arith) hc)
    8 b (omega arith) hb)
    8 a (omega arith) ha

-- a part of a product may be replaced by its lowest byte
mul-mod_left : (a b : ℕ) → gf_mul (a % 256) b ≡ gf_mul a b
mul-mod_left a b = sym (mul-mod (a % 256) b) ∙ ap (λ x. gf_mul x (b % 256)) (mod-mod a 256) ∙ mul-mod a b

mul-mod_right : (a b : ℕ) → gf_mul a (b % 256) ≡ gf_mul a b
mul-mod_right a b = mul_comm a (b % 256) ∙ mul-mod_left b a ∙ mul_comm b a

pub mul_assoc : (a b c : ℕ) → gf_mul (gf_mul a b) c ≡ gf_mul a (gf_mul b c)
mul_assoc a b c =
    sym (mul-mod_right (gf_mul a b) c) ∙ ap (λ x. gf_mul x (c % 256)) (sym (mul-mod a b))
    ∙ bytes_associate (a % 256) (b % 256) (c % 256) (mod_lt a) (mod_lt b) (mod_lt c)
    ∙ ap (gf_mul (a % 256)) (mul-mod b c) ∙ mul-mod_left a (gf_mul b c)

pub mul_one : (a : ℕ) → a < 256 → gf_mul a 1 ≡ a
mul_one a h = agree (λ x. gf_mul x 1) (λ x. x) (λ x y. mul-xor_left x y 1) (λ x y. refl) (λ i hi. powers_one i hi) 8 a (omega arith) h

pub zero_mul : (a : ℕ) → gf_mul 0 a ≡ 0
zero_mul a = mul-xor_left 0 0 a ∙ xor_self (gf_mul 0 a)

pub mul_zero : (a : ℕ) → gf_mul a 0 ≡ 0
mul_zero a = mul_comm a 0 ∙ zero_mul a

-- numbers whose sum is 0 are equal
pub equal-from_xor : (a b : ℕ) → bit_xor a b ≡ 0 → a ≡ b
equal-from_xor a b e = sym (xor_zero_r a) ∙ ap (λ z. bit_xor a z) (sym (xor_self b)) ∙ sym (xor_assoc a b b) ∙ ap (λ z. bit_xor z b) e

pub pow-lt : (a k : ℕ) → gf_pow a k < 256
unfolding gf_pow
pow-lt a zero = omega arith
pow-lt a (suc k) = mul-lt (gf_pow a k) a

pub pow-add : (a i j : ℕ) → gf_pow a (i + j) ≡ gf_mul (gf_pow a i) (gf_pow a j)
unfolding gf_pow
pow-add a i zero = ap (gf_pow a) (add-zero i) ∙ sym (mul_one (gf_pow a i) (pow-lt a i))
pow-add a i (suc j) = ap (gf_pow a) (add-suc i j) ∙ ap (λ x. gf_mul x a) (pow-add a i j) ∙ mul_assoc (gf_pow a i) (gf_pow a j) a
