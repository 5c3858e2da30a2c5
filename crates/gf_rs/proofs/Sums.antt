-- Weighted sums of powers, the polynomials that kill them, and how many roots a polynomial has.
use Rattle.std.proofs.Common.{◌≡◌, ◌≢◌, ℕ, zero, suc, ◌<◌, ◌≤◌, refl, ap, List, [], ◌∷◌, length, arith, sym, ◌∙◌}
use Rattle.std.specs.Prelude.{bit_xor}
use Rattle.std.specs.Int.Bits.{xor_assoc, xor_self, xor_zero_r}
use Rattle.gf_rs.specs.Field.{gf_mul, gf_pow}
use Rattle.gf_rs.specs.Polynomials.{along, value_to}
use Rattle.gf_rs.proofs.FieldLaws.{xor_four, mul-xor_left, mul-xor_right, mul_comm, mul_assoc, mul_one, mul-lt, zero_mul, mul_zero, equal-from_xor, pow-lt, xor_lt_byte, positive}
use Rattle.gf_rs.proofs.TableLaws.{mul-eq-zero, powers_distinct}

-- the sum over exponents of 2 of their weights times the i-th powers of their powers
unfoldable pub power_sum : (ℕ → ℕ) → List ℕ → ℕ → ℕ
power_sum w [] i = 0
power_sum w (q ∷ qs) i = bit_xor (gf_mul (w q) (gf_pow (gf_pow 2 q) i)) (power_sum w qs i)

pub power_sum-cong : (u v : ℕ → ℕ) → ((q : ℕ) → u q ≡ v q) → (qs : List ℕ) (i : ℕ) → power_sum u qs i ≡ power_sum v qs i
unfolding power_sum
power_sum-cong u v e [] i = refl
power_sum-cong u v e (q ∷ qs) i = ap (λ x. bit_xor (gf_mul x (gf_pow (gf_pow 2 q) i)) (power_sum u qs i)) (e q) ∙ ap (bit_xor (gf_mul (v q) (gf_pow (gf_pow 2 q) i))) (power_sum-cong u v e qs i)

-- w (f p X) + x (w p) = (w (f X + x)) p
combine-term : (w f x X p : ℕ) → bit_xor (gf_mul (gf_mul w f) (gf_mul p X)) (gf_mul x (gf_mul w p)) ≡ gf_mul (gf_mul w (bit_xor (gf_mul f X) x)) p
combine-term w f x X p =
    let left : gf_mul (gf_mul w f) (gf_mul p X) ≡ gf_mul (gf_mul w (gf_mul f X)) p =
    cc (mul_comm p X, mul_assoc w f (gf_mul X p), sym (mul_assoc f X p), sym (mul_assoc w (gf_mul f X) p)) in
    let right : gf_mul x (gf_mul w p) ≡ gf_mul (gf_mul w x) p = cc (mul_assoc x w p, mul_comm x w) in
    cc (left, right, mul-xor_right w (gf_mul f X) x, mul-xor_left (gf_mul w (gf_mul f X)) (gf_mul w x) p)

pub power_sum-combine : (w f : ℕ → ℕ) (x : ℕ) (qs : List ℕ) (i : ℕ) →
    bit_xor (power_sum (λ q. gf_mul (w q) (f q)) qs (suc i)) (gf_mul x (power_sum w qs i))
    ≡ power_sum (λ q. gf_mul (w q) (bit_xor (gf_mul (f q) (gf_pow 2 q)) x)) qs i
unfolding power_sum gf_pow
power_sum-combine w f x [] i = mul_zero x
power_sum-combine w f x (q ∷ qs) i =
    let X = gf_pow 2 q in
    let p = gf_pow X i in
    ap (bit_xor (bit_xor (gf_mul (gf_mul (w q) (f q)) (gf_mul p X)) (power_sum (λ q. gf_mul (w q) (f q)) qs (suc i)))) (mul-xor_right x (gf_mul (w q) p) (power_sum w qs i))
    ∙ xor_four (gf_mul (gf_mul (w q) (f q)) (gf_mul p X)) (power_sum (λ q. gf_mul (w q) (f q)) qs (suc i)) (gf_mul x (gf_mul (w q) p)) (gf_mul x (power_sum w qs i))
    ∙ ap (λ z. bit_xor z (bit_xor (power_sum (λ q. gf_mul (w q) (f q)) qs (suc i)) (gf_mul x (power_sum w qs i)))) (combine-term (w q) (f q) x X p)
    ∙ ap (bit_xor (gf_mul (gf_mul (w q) (bit_xor (gf_mul (f q) X) x)) p)) (power_sum-combine w f x qs i)

pub power_sum-scaled : (w : ℕ → ℕ) (x : ℕ) (qs : List ℕ) (i : ℕ) → gf_mul x (power_sum w qs i) ≡ power_sum (λ q. gf_mul (w q) x) qs i
unfolding power_sum
power_sum-scaled w x [] i = mul_zero x
power_sum-scaled w x (q ∷ qs) i =
    let p = gf_pow (gf_pow 2 q) i in
    mul-xor_right x (gf_mul (w q) p) (power_sum w qs i)
    ∙ ap (λ z. bit_xor z (gf_mul x (power_sum w qs i))) (sym (mul_assoc x (w q) p) ∙ ap (λ z. gf_mul z p) (mul_comm x (w q)))
    ∙ ap (bit_xor (gf_mul (gf_mul (w q) x) p)) (power_sum-scaled w x qs i)

-- a fact of each of a list, part by part
abbrev pub Holds : (ℕ → Type 0) → List ℕ → Type 0
Holds P [] = Unit {0}
Holds P (q ∷ qs) = P q × Holds P qs

-- exponents that fall from below a bound
abbrev pub FallsFrom : ℕ → List ℕ → Type 0
FallsFrom b [] = Unit {0}
FallsFrom b (q ∷ qs) = (q < b) × FallsFrom q qs

-- the powers of two different exponents below 255 differ
pub apart : (i j : ℕ) → i ≢ j → i < 255 → j < 255 → 0 < bit_xor (gf_pow 2 i) (gf_pow 2 j)
apart i j n h k = positive _ (λ e. n (powers_distinct i j h k (equal-from_xor (gf_pow 2 i) (gf_pow 2 j) e)))

less_differs : (i j : ℕ) → i < j → i ≢ j
less_differs i j h e = absurd (omega arith)

-- a weight that is 0 once it is multiplied by what is not 0
unscaled : (b q : ℕ) (w : ℕ → ℕ) → q < b → b < 255 → w q < 256 → gf_mul (w q) (bit_xor (gf_mul 1 (gf_pow 2 q)) (gf_pow 2 b)) ≡ 0 → w q ≡ 0
unscaled b q w h k l e =
    let one : gf_mul 1 (gf_pow 2 q) ≡ gf_pow 2 q = mul_comm 1 (gf_pow 2 q) ∙ mul_one (gf_pow 2 q) (pow-lt 2 q) in
    let d = bit_xor (gf_pow 2 q) (gf_pow 2 b) in
    mul-eq-zero d (w q) (apart q b (less_differs q b h) (omega arith) k) (xor_lt_byte (gf_pow 2 q) (gf_pow 2 b) (pow-lt 2 q) (pow-lt 2 b)) l
    (mul_comm d (w q) ∙ ap (λ z. gf_mul (w q) (bit_xor z (gf_pow 2 b))) (sym one) ∙ e)

unscaled_all : (b : ℕ) (qs : List ℕ) (w : ℕ → ℕ) → FallsFrom b qs → b < 255 → ((q : ℕ) → w q < 256) →
    Holds (λ q. gf_mul (w q) (bit_xor (gf_mul 1 (gf_pow 2 q)) (gf_pow 2 b)) ≡ 0) qs → (m : ℕ) → m ≤ b → FallsFrom m qs → Holds (λ q. w q ≡ 0) qs
unscaled_all b [] w f h l z m k g = tt
unscaled_all b (q ∷ qs) w f h l z m k g = (unscaled b q w (omega arith) h (l q) z.0, unscaled_all b qs w (lower q b qs (omega arith) f.1) h l z.1 q (omega arith) g.1)
  where
    lower : (q b : ℕ) (qs : List ℕ) → q ≤ b → FallsFrom q qs → FallsFrom b qs
    lower q b [] h f = tt
    lower q b (r ∷ rs) h f = ((omega arith), f.1)

pub sum_of_zeros : (w : ℕ → ℕ) (qs : List ℕ) (i : ℕ) → Holds (λ q. w q ≡ 0) qs → power_sum w qs i ≡ 0
unfolding power_sum
sum_of_zeros w [] i z = refl
sum_of_zeros w (q ∷ qs) i z = ap (λ x. bit_xor (gf_mul x (gf_pow (gf_pow 2 q) i)) (power_sum w qs i)) z.0 ∙ ap (λ x. bit_xor x (power_sum w qs i)) (zero_mul (gf_pow (gf_pow 2 q) i)) ∙ sum_of_zeros w qs i z.1

-- where as many sums of powers as there are exponents are 0, each weight is 0
pub vanish : (qs : List ℕ) (b : ℕ) (w : ℕ → ℕ) → b ≤ 255 → FallsFrom b qs → ((q : ℕ) → w q < 256) → ((i : ℕ) → i < length qs → power_sum w qs i ≡ 0) → Holds (λ q. w q ≡ 0) qs
unfolding power_sum gf_pow
vanish [] b w h f l z = tt
vanish (r ∷ qs) b w h f l z =
    let x = gf_pow 2 r in
    let term = λ (i : ℕ). gf_mul (w r) (gf_pow x i) in
    let ones : (q : ℕ) → gf_mul (w q) 1 ≡ w q = λ q. mul_one (w q) (l q) in
    let rest : (i : ℕ) → i < length qs → power_sum (λ q. gf_mul (w q) (bit_xor (gf_mul 1 (gf_pow 2 q)) x)) qs i ≡ 0 =
    λ i k.
    (let e1 : power_sum w qs (suc i) ≡ gf_mul (w r) (gf_mul (gf_pow x i) x) = sym (equal-from_xor _ _ (z (suc i) (omega arith))) in
    let e0 : power_sum w qs i ≡ gf_mul (w r) (gf_pow x i) = sym (equal-from_xor _ _ (z i (omega arith))) in
    sym (power_sum-combine w (λ q. 1) x qs i)
    ∙ ap (λ y. bit_xor y (gf_mul x (power_sum w qs i))) (power_sum-cong (λ q. gf_mul (w q) 1) w ones qs (suc i) ∙ e1)
    ∙ ap (λ y. bit_xor (gf_mul (w r) (gf_mul (gf_pow x i) x)) (gf_mul x y)) e0
    ∙ ap (λ y. bit_xor (gf_mul (w r) (gf_mul (gf_pow x i) x)) y) (mul_comm x (gf_mul (w r) (gf_pow x i)) ∙ mul_assoc (w r) (gf_pow x i) x)
    ∙ xor_self (gf_mul (w r) (gf_mul (gf_pow x i) x))) in
    let scaled : Holds (λ q. gf_mul (w q) (bit_xor (gf_mul 1 (gf_pow 2 q)) x) ≡ 0) qs =
    vanish qs r (λ q. gf_mul (w q) (bit_xor (gf_mul 1 (gf_pow 2 q)) x)) (omega arith) f.1 (λ q. mul-lt (w q) (bit_xor (gf_mul 1 (gf_pow 2 q)) x)) rest in
    let zeros : Holds (λ q. w q ≡ 0) qs = unscaled_all r qs w f.1 (omega arith) l scaled r (omega arith) f.1 in
    let first : w r ≡ 0 =
    sym (mul_one (w r) (l r)) ∙ sym (xor_zero_r (gf_mul (w r) 1)) ∙ ap (bit_xor (gf_mul (w r) 1)) (sym (sum_of_zeros w qs 0 zeros)) ∙ z 0 (omega arith) in
    (first, zeros)

-- a polynomial along sums of powers scales each weight by its value
pub along-powers : (c w : ℕ → ℕ) (qs : List ℕ) (d i : ℕ) → along c (power_sum w qs) d i ≡ power_sum (λ q. gf_mul (w q) (value_to c d (gf_pow 2 q))) qs i
unfolding along value_to
along-powers c w qs zero i = power_sum-scaled w (c 0) qs i
along-powers c w qs (suc d) i =
    ap (λ x. bit_xor x (gf_mul (c (suc d)) (power_sum w qs i))) (along-powers c w qs d (suc i))
    ∙ power_sum-combine w (λ q. value_to c d (gf_pow 2 q)) (c (suc d)) qs i

-- the division by x - a: the quotient's coefficients are the values at a so far
pub division : (c : ℕ → ℕ) (d a y : ℕ) → value_to c (suc d) y ≡ bit_xor (gf_mul (value_to (λ j. value_to c j a) d y) (bit_xor y a)) (value_to c (suc d) a)
unfolding value_to
division c zero a y = division-first (c 0) (c 1) a y
  where
    division-first : (u v a y : ℕ) → bit_xor (gf_mul u y) v ≡ bit_xor (gf_mul u (bit_xor y a)) (bit_xor (gf_mul u a) v)
    division-first u v a y =
        sym (ap (λ z. bit_xor z (bit_xor (gf_mul u a) v)) (mul-xor_right u y a)
        ∙ sym (xor_assoc (bit_xor (gf_mul u y) (gf_mul u a)) (gf_mul u a) v)
        ∙ ap (λ z. bit_xor z v) (xor_assoc (gf_mul u y) (gf_mul u a) (gf_mul u a) ∙ ap (bit_xor (gf_mul u y)) (xor_self (gf_mul u a)) ∙ xor_zero_r (gf_mul u y)))
division c (suc d) a y =
    let q = value_to (λ j. value_to c j a) d y in
    let r = value_to c (suc d) a in
    let v = c (suc (suc d)) in
    let s = bit_xor y a in
    ap (λ z. bit_xor (gf_mul z y) v) (division c d a y)
    ∙ ap (λ z. bit_xor z v) (mul-xor_left (gf_mul q s) r y)
    ∙ division-next q r v a y
  where
    -- (q s) y + r y + v = (q y + r) s + (r a + v) where s = y + a
    division-next : (q r v a y : ℕ) → bit_xor (bit_xor (gf_mul (gf_mul q (bit_xor y a)) y) (gf_mul r y)) v ≡ bit_xor (gf_mul (bit_xor (gf_mul q y) r) (bit_xor y a)) (bit_xor (gf_mul r a) v)
    division-next q r v a y =
        let s = bit_xor y a in
        let qs = gf_mul (gf_mul q s) y in
        let swap : gf_mul (gf_mul q y) s ≡ qs = cc (mul_assoc q y s, mul_comm y s, mul_assoc q s y) in
        sym (ap (λ z. bit_xor z (bit_xor (gf_mul r a) v)) (mul-xor_left (gf_mul q y) r s ∙ ap (λ z. bit_xor z (gf_mul r s)) swap ∙ ap (bit_xor qs) (mul-xor_right r y a))
        ∙ ap (λ z. bit_xor z (bit_xor (gf_mul r a) v)) (sym (xor_assoc qs (gf_mul r y) (gf_mul r a)))
        ∙ sym (xor_assoc (bit_xor (bit_xor qs (gf_mul r y)) (gf_mul r a)) (gf_mul r a) v)
        ∙ ap (λ z. bit_xor z v) (xor_assoc (bit_xor qs (gf_mul r y)) (gf_mul r a) (gf_mul r a) ∙ ap (bit_xor (bit_xor qs (gf_mul r y))) (xor_self (gf_mul r a)) ∙ xor_zero_r (bit_xor qs (gf_mul r y))))

pub value_to-lt : (c : ℕ → ℕ) (d x : ℕ) → ((j : ℕ) → c j < 256) → value_to c d x < 256
unfolding value_to
value_to-lt c zero x l = l 0
value_to-lt c (suc d) x l = xor_lt_byte (gf_mul (value_to c d x) x) (c (suc d)) (mul-lt (value_to c d x) x) (l (suc d))

-- a root other than a is a root of the quotient
pub quotient-root : (c : ℕ → ℕ) (d i j : ℕ) → ((k : ℕ) → c k < 256) → i ≢ j → i < 255 → j < 255 → value_to c (suc d) (gf_pow 2 j) ≡ 0 → value_to c (suc d) (gf_pow 2 i) ≡ 0 →
    value_to (λ k. value_to c k (gf_pow 2 j)) d (gf_pow 2 i) ≡ 0
quotient-root c d i j l n h k ej ei =
    let a = gf_pow 2 j in
    let y = gf_pow 2 i in
    let q = value_to (λ k. value_to c k a) d y in
    let whole : gf_mul q (bit_xor y a) ≡ 0 = sym (xor_zero_r (gf_mul q (bit_xor y a))) ∙ ap (bit_xor (gf_mul q (bit_xor y a))) (sym ej) ∙ sym (division c d a y) ∙ ei in
    mul-eq-zero (bit_xor y a) q (apart i j n h k) (xor_lt_byte y a (pow-lt 2 i) (pow-lt 2 j)) (value_to-lt (λ k. value_to c k a) d y (λ k. value_to-lt c k a l))
    (mul_comm (bit_xor y a) q ∙ whole)

-- a polynomial of degree d whose first coefficient isn't 0 has at most d roots
pub few_roots : (d : ℕ) (c : ℕ → ℕ) (b : ℕ) (qs : List ℕ) → ((k : ℕ) → c k < 256) → c 0 ≢ 0 → b ≤ 255 → FallsFrom b qs → Holds (λ q. value_to c d (gf_pow 2 q) ≡ 0) qs → length qs ≤ d
unfolding value_to
few_roots d c b [] l n h f z = omega arith
few_roots zero c b (q ∷ qs) l n h f z = absurd (n z.0)
few_roots (suc d) c b (q ∷ qs) l n h f z =
    let rest : length qs ≤ d = few_roots d (λ k. value_to c k (gf_pow 2 q)) q qs (λ k. value_to-lt c k (gf_pow 2 q) l) n (omega arith) f.1 (quotient_roots q qs (omega arith) f.1 z.1) in
    omega arith
  where
    quotient_roots : (m : ℕ) (rs : List ℕ) → m ≤ q → FallsFrom m rs → Holds (λ q. value_to c (suc d) (gf_pow 2 q) ≡ 0) rs → Holds (λ i. value_to (λ k. value_to c k (gf_pow 2 q)) d (gf_pow 2 i) ≡ 0) rs
    quotient_roots m [] k g y = tt
    quotient_roots m (r ∷ rs) k g y = (quotient-root c d r q l (less_differs r q (omega arith)) (omega arith) (omega arith) z.0 y.0, quotient_roots r rs (omega arith) g.1 y.1)
