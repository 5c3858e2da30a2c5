-- What the tables of powers and logarithms have, by one test over each.
use Rattle.std.proofs.Common.{◌≡◌, ◌≢◌, ℕ, zero, suc, ◌+◌, ◌-◌, ◌<◌, ◌≤◌, refl, ap, Bool, true, List, [], ◌∷◌, length, get_or, arith, sym, ◌∙◌, subst}
use Rattle.std.specs.Prelude.{◌==◌, ◌&&◌, nat_lt}
use Rattle.std.proofs.lemmas.Bool.{eqb-true, ltb-true}
use Rattle.gf_rs.specs.declared.tables.TheConstants.{POWERS, LOGARITHMS}
use Rattle.gf_rs.specs.Field.{gf_mul, gf_pow, reduced, polynomial_product, IsUniqueBelow}
use Rattle.gf_rs.proofs.FieldTests.{each_below, at_each, both}
use Rattle.gf_rs.proofs.FieldLaws.{mul_one, mul_comm, zero_mul, mul_zero, pow-lt, pow-add, mul-lt, mul_assoc}

-- the powers go on from one for so many places, and then come zeros
abbrev goes_on : ℕ → ℕ → List ℕ → Bool
goes_on k p [] = true
goes_on zero p (x ∷ xs) = x == 0 && goes_on zero p xs
goes_on (suc k) p (x ∷ xs) = x == p && goes_on k (gf_mul p 2) xs

powers_test : goes_on 512 1 POWERS ≡ true
unfolding gf_mul reduced polynomial_product
powers_test = refl

power_next : (p j : ℕ) → gf_mul (gf_mul p 2) (gf_pow 2 j) ≡ gf_mul p (gf_pow 2 (suc j))
unfolding gf_pow
power_next p j = mul_assoc p 2 (gf_pow 2 j) ∙ ap (gf_mul p) (mul_comm 2 (gf_pow 2 j))

at_power : (k p : ℕ) (xs : List ℕ) (j : ℕ) → goes_on k p xs ≡ true → j < k → j < length xs → p < 256 → get_or xs j 0 ≡ gf_mul p (gf_pow 2 j)
unfolding gf_pow
at_power k p [] j t h l b = absurd (omega arith)
at_power zero p (x ∷ xs) j t h l b = absurd (omega arith)
at_power (suc k) p (x ∷ xs) zero t h l b = eqb-true _ _ (both _ _ t).0 ∙ sym (mul_one p b)
at_power (suc k) p (x ∷ xs) (suc j) t h l b =
    at_power k (gf_mul p 2) xs j (both (x == p) _ t).1 (omega arith) (omega arith) (mul-lt p 2) ∙ power_next p j

at_zero : (k p : ℕ) (xs : List ℕ) (j : ℕ) → goes_on k p xs ≡ true → k ≤ j → get_or xs j 0 ≡ 0
at_zero k p [] j t h = refl
at_zero zero p (x ∷ xs) zero t h = eqb-true _ _ (both _ _ t).0
at_zero zero p (x ∷ xs) (suc j) t h = at_zero zero p xs j (both (x == 0) _ t).1 (omega arith)
at_zero (suc k) p (x ∷ xs) zero t h = absurd (omega arith)
at_zero (suc k) p (x ∷ xs) (suc j) t h = at_zero k (gf_mul p 2) xs j (both (x == p) _ t).1 (omega arith)

pub power_is : (j : ℕ) → j < 512 → get_or POWERS j 0 ≡ gf_pow 2 j
power_is j h = at_power 512 1 POWERS j powers_test h (omega arith) (omega arith) ∙ mul_comm 1 (gf_pow 2 j) ∙ mul_one (gf_pow 2 j) (pow-lt 2 j)

pub power_behind : (j : ℕ) → 512 ≤ j → get_or POWERS j 0 ≡ 0
power_behind j h = at_zero 512 1 POWERS j powers_test h

-- the entry of 0 lies behind the powers, and that of each other number is its exponent
abbrev fits : ℕ → Bool
fits a = nat_lt (get_or LOGARITHMS (suc a) 0) 255 && (get_or POWERS (get_or LOGARITHMS (suc a) 0) 0 == suc a)

logarithms_test : each_below 255 fits ≡ true
logarithms_test = refl

pub logarithm-lt : (a : ℕ) → 0 < a → a < 256 → get_or LOGARITHMS a 0 < 255
logarithm-lt zero p h = absurd (omega arith)
logarithm-lt (suc a) p h = ltb-true _ _ (both _ _ (at_each 255 fits a logarithms_test (omega arith))).0

pub power_of_logarithm : (a : ℕ) → 0 < a → a < 256 → gf_pow 2 (get_or LOGARITHMS a 0) ≡ a
power_of_logarithm zero p h = absurd (omega arith)
power_of_logarithm (suc a) p h =
    let low : get_or LOGARITHMS (suc a) 0 < 255 = logarithm-lt (suc a) p h in
    sym (power_is (get_or LOGARITHMS (suc a) 0) (omega arith)) ∙ eqb-true _ _ (both _ _ (at_each 255 fits a logarithms_test (omega arith))).1

pub logarithm-le : (a : ℕ) → a < 256 → get_or LOGARITHMS a 0 ≤ 512
logarithm-le zero h = omega arith
logarithm-le (suc a) h = omega (arith, logarithm-lt (suc a))

-- the product is the power of the sum of the logarithms
pub product_is : (a b : ℕ) → a < 256 → b < 256 → get_or POWERS (get_or LOGARITHMS a 0 + get_or LOGARITHMS b 0) 0 ≡ gf_mul a b
product_is zero b ha hb = power_behind (512 + get_or LOGARITHMS b 0) (omega arith) ∙ sym (zero_mul b)
product_is (suc a) zero ha hb = power_behind (get_or LOGARITHMS (suc a) 0 + 512) (omega arith) ∙ sym (mul_zero (suc a))
product_is (suc a) (suc b) ha hb =
    let la : get_or LOGARITHMS (suc a) 0 < 255 = logarithm-lt (suc a) (omega arith) ha in
    let lb : get_or LOGARITHMS (suc b) 0 < 255 = logarithm-lt (suc b) (omega arith) hb in
    power_is (get_or LOGARITHMS (suc a) 0 + get_or LOGARITHMS (suc b) 0) (omega arith)
    ∙ pow-add 2 (get_or LOGARITHMS (suc a) 0) (get_or LOGARITHMS (suc b) 0)
    ∙ ap (λ x. gf_mul x (gf_pow 2 (get_or LOGARITHMS (suc b) 0))) (power_of_logarithm (suc a) (omega arith) ha)
    ∙ ap (gf_mul (suc a)) (power_of_logarithm (suc b) (omega arith) hb)

-- the exponents of the first 255 powers are their places
places_test : each_below 255 (λ j. get_or LOGARITHMS (get_or POWERS j 0) 0 == j) ≡ true
places_test = refl

pub logarithm_of_power : (j : ℕ) → j < 255 → get_or LOGARITHMS (gf_pow 2 j) 0 ≡ j
logarithm_of_power j h = ap (λ x. get_or LOGARITHMS x 0) (sym (power_is j (omega arith))) ∙ eqb-true _ _ (at_each 255 (λ j. get_or LOGARITHMS (get_or POWERS j 0) 0 == j) j places_test h)

-- the first 255 powers of 2 are distinct
pub powers_distinct : (i j : ℕ) → i < 255 → j < 255 → gf_pow 2 i ≡ gf_pow 2 j → i ≡ j
powers_distinct i j hi hj e = sym (logarithm_of_power i hi) ∙ ap (λ x. get_or LOGARITHMS x 0) e ∙ logarithm_of_power j hj

-- no smaller power but the first is 1
pub power_order : (k : ℕ) → 0 < k → k < 255 → gf_pow 2 k ≢ 1
unfolding gf_pow
power_order k p h e = absurd (let z : k ≡ 0 = powers_distinct k 0 h (omega arith) e in omega arith)

pub power_255 : gf_pow 2 255 ≡ 1
power_255 = sym (power_is 255 (omega arith)) ∙ refl

-- the power of what the logarithm lacks to 255 is the inverse
pub inverse_is : (a : ℕ) → 0 < a → a < 256 → gf_mul a (get_or POWERS (255 - get_or LOGARITHMS a 0) 0) ≡ 1
inverse_is a p h =
    let l = get_or LOGARITHMS a 0 in
    let low : l < 255 = logarithm-lt a p h in
    let whole : l + (255 - l) ≡ 255 = omega arith in
    ap (gf_mul a) (power_is (255 - l) (omega arith)) ∙ ap (λ x. gf_mul x (gf_pow 2 (255 - l))) (sym (power_of_logarithm a p h))
    ∙ sym (pow-add 2 l (255 - l)) ∙ ap (gf_pow 2) whole ∙ power_255

-- a number that is not 0 has an inverse
pub inverse_of : ℕ → ℕ
inverse_of a = get_or POWERS (255 - get_or LOGARITHMS a 0) 0

pub mul-inverse_of : (a : ℕ) → 0 < a → a < 256 → gf_mul a (inverse_of a) ≡ 1
unfolding inverse_of
mul-inverse_of a p h = inverse_is a p h

pub inverse_of-lt : (a : ℕ) → 0 < a → a < 256 → inverse_of a < 256
unfolding inverse_of
inverse_of-lt a p h = subst (λ x. x < 256) (sym (power_is (255 - get_or LOGARITHMS a 0) (omega arith))) (pow-lt 2 (255 - get_or LOGARITHMS a 0))

-- a number times another and its inverse
pub mul_cancel : (a b : ℕ) → 0 < a → a < 256 → b < 256 → gf_mul (inverse_of a) (gf_mul a b) ≡ b
mul_cancel a b p ha hb =
    sym (mul_assoc (inverse_of a) a b) ∙ ap (λ x. gf_mul x b) (mul_comm (inverse_of a) a ∙ mul-inverse_of a p ha) ∙ mul_comm 1 b ∙ mul_one b hb

-- a product is 0 only where a part is
pub mul-eq-zero : (a b : ℕ) → 0 < a → a < 256 → b < 256 → gf_mul a b ≡ 0 → b ≡ 0
mul-eq-zero a b p ha hb e = sym (mul_cancel a b p ha hb) ∙ ap (gf_mul (inverse_of a)) e ∙ mul_zero (inverse_of a)

pub unique_inverse : (a : ℕ) → 0 < a → a < 256 → IsUniqueBelow 256 (λ x. gf_mul a x ≡ 1)
unique_inverse a p h = (
  inverse_of a,
  inverse_of-lt a p h,
  mul-inverse_of a p h,
  λ x hx e. sym (mul_cancel a x p h hx) ∙ ap (gf_mul (inverse_of a)) e ∙ mul_one (inverse_of a) (inverse_of-lt a p h),
)

pub unique_logarithm : (a : ℕ) → 0 < a → a < 256 → IsUniqueBelow 255 (λ j. gf_pow 2 j ≡ a)
unique_logarithm a p h = (
  get_or LOGARITHMS a 0,
  logarithm-lt a p h,
  power_of_logarithm a p h,
  λ j hj e. powers_distinct j (get_or LOGARITHMS a 0) hj (logarithm-lt a p h) (e ∙ sym (power_of_logarithm a p h)),
)

-- the product with a power of 2, by the sum of the exponents
pub scaled_is : (a i : ℕ) → a < 256 → i < 255 → get_or POWERS (get_or LOGARITHMS a 0 + i) 0 ≡ gf_mul a (gf_pow 2 i)
scaled_is a i h k = ap (λ e. get_or POWERS (get_or LOGARITHMS a 0 + e) 0) (sym (logarithm_of_power i k)) ∙ product_is a (gf_pow 2 i) h (pow-lt 2 i)
