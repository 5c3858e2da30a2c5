-- Words as sums of powers: the value of a word at a power of 2 is the sum over the places where it differs from a codeword.
use Rattle.std.proofs.Common.{◌≡◌, ◌≢◌, ℕ, zero, suc, ◌+◌, ◌*◌, ◌<◌, ◌≤◌, refl, ap, Bool, true, false, cond, List, [], ◌∷◌, length, arith, inl, inr, sym, ◌∙◌, subst}
use Rattle.std.specs.Prelude.{bit_xor, ◌==◌}
use Rattle.std.specs.Int.Bits.{xor_assoc, xor_self, xor_zero_r}
use Rattle.std.proofs.lemmas.Bool.{eq-eqb}
use Rattle.std.proofs.lemmas.Bool.Decides.{eqb_tells}
use Rattle.std.proofs.Math.Nat.{mul-suc, mul_comm as times_comm}
use Rattle.gf_rs.specs.Field.{gf_mul, gf_pow}
use Rattle.gf_rs.specs.Codewords.{value_from, value_at, differing, IsBytes, IsCodeword}
use Rattle.gf_rs.proofs.FieldLaws.{xor_four, mul-xor_left, mul_comm, mul_assoc, mul_one, mul-lt, zero_mul, equal-from_xor, pow-add, xor_lt_byte}
use Rattle.gf_rs.proofs.Sums.{power_sum, FallsFrom, Holds, vanish}

pow-pow : (a i j : ℕ) → gf_pow (gf_pow a i) j ≡ gf_pow a (i * j)
unfolding gf_pow
pow-pow a i zero = ap (gf_pow a) (sym (let z : i * 0 ≡ 0 = omega arith in z))
pow-pow a i (suc j) = ap (λ x. gf_mul x (gf_pow a i)) (pow-pow a i j) ∙ sym (pow-add a (i * j) i) ∙ ap (gf_pow a) (sym (mul-suc i j))

pub pow-swap : (a i j : ℕ) → gf_pow (gf_pow a i) j ≡ gf_pow (gf_pow a j) i
pow-swap a i j = pow-pow a i j ∙ ap (gf_pow a) (times_comm i j) ∙ sym (pow-pow a j i)

head-byte : (x : ℕ) (xs : List ℕ) → IsBytes (x ∷ xs) → x < 256
head-byte x xs a = a 0 0 (omega arith)

tail-bytes : (x : ℕ) (xs : List ℕ) → IsBytes (x ∷ xs) → IsBytes xs
tail-bytes x xs a = λ k d h. a (suc k) d (omega arith)

-- what a value that goes on adds
pub value_from-split : (a : ℕ) (xs : List ℕ) (v : ℕ) → a < 256 → IsBytes xs → value_from a xs v ≡ bit_xor (gf_mul a (gf_pow v (length xs))) (value_at xs v)
unfolding value_from gf_pow
value_from-split a [] v h b = sym (xor_zero_r (gf_mul a 1) ∙ mul_one a h)
value_from-split a (x ∷ xs) v h b =
    let p = gf_pow v (length xs) in
    let hx : x < 256 = head-byte x xs b in
    let bs : IsBytes xs = tail-bytes x xs b in
    let one : gf_mul (gf_mul a v) p ≡ gf_mul a (gf_mul p v) = mul_assoc a v p ∙ ap (gf_mul a) (mul_comm v p) in
    let next : value_from x xs v ≡ bit_xor (gf_mul x p) (value_at xs v) = value_from-split x xs v hx bs in
    value_from-split (bit_xor (gf_mul a v) x) xs v (xor_lt_byte (gf_mul a v) x (mul-lt a v) hx) bs
    ∙ ap (λ z. bit_xor z (value_at xs v)) (mul-xor_left (gf_mul a v) x p ∙ ap (λ z. bit_xor z (gf_mul x p)) one)
    ∙ xor_assoc (gf_mul a (gf_mul p v)) (gf_mul x p) (value_at xs v)
    ∙ ap (bit_xor (gf_mul a (gf_mul p v))) (sym next ∙ ap (λ z. value_from (bit_xor z x) xs v) (sym (zero_mul v)))

value_at-cons : (x : ℕ) (xs : List ℕ) (v : ℕ) → IsBytes (x ∷ xs) → value_at (x ∷ xs) v ≡ bit_xor (gf_mul x (gf_pow v (length xs))) (value_at xs v)
unfolding value_from
value_at-cons x xs v b = ap (λ z. value_from (bit_xor z x) xs v) (zero_mul v) ∙ value_from-split x xs v (head-byte x xs b) (tail-bytes x xs b)

-- the coefficient at an exponent
unfoldable pub coefficient : List ℕ → ℕ → ℕ
coefficient [] q = 0
coefficient (x ∷ xs) q = cond (q == length xs) x (coefficient xs q)

-- a test of two different numbers
differ-false : (a b : ℕ) → a ≢ b → (a == b) ≡ false
differ-false a b n = elim (eqb_tells a b) [ inl e ↦ absurd (n e.1) | inr e ↦ e.0 ]

same-true : (a : ℕ) → (a == a) ≡ true
same-true a = eq-eqb a a refl

pub coefficient-first : (x : ℕ) (xs : List ℕ) → coefficient (x ∷ xs) (length xs) ≡ x
unfolding coefficient
coefficient-first x xs = ap (λ t. cond t x (coefficient xs (length xs))) (same-true (length xs))

pub coefficient-below : (x : ℕ) (xs : List ℕ) (q : ℕ) → q < length xs → coefficient (x ∷ xs) q ≡ coefficient xs q
unfolding coefficient
coefficient-below x xs q h = ap (λ t. cond t x (coefficient xs q)) (differ-false q (length xs) (λ e. absurd (omega arith)))

pub coefficient-lt : (xs : List ℕ) (q : ℕ) → IsBytes xs → coefficient xs q < 256
unfolding coefficient
coefficient-lt [] q b = omega arith
coefficient-lt (x ∷ xs) q b = elim (q == length xs) as (λ t. cond t x (coefficient xs q) < 256) [ true ↦ head-byte x xs b | false ↦ coefficient-lt xs q (tail-bytes x xs b) ]

-- the numbers below n, from the greatest
unfoldable pub below : ℕ → List ℕ
below zero = []
below (suc n) = n ∷ below n

power_sum-below : (n : ℕ) (u v : ℕ → ℕ) (i : ℕ) → ((q : ℕ) → q < n → u q ≡ v q) → power_sum u (below n) i ≡ power_sum v (below n) i
unfolding power_sum below
power_sum-below zero u v i e = refl
power_sum-below (suc n) u v i e =
    ap (λ x. bit_xor (gf_mul x (gf_pow (gf_pow 2 n) i)) (power_sum u (below n) i)) (e n (omega arith))
    ∙ ap (bit_xor (gf_mul (v n) (gf_pow (gf_pow 2 n) i))) (power_sum-below n u v i (λ q h. e q (omega arith)))

-- the value at a power of 2 is a sum of powers
pub value-sum : (xs : List ℕ) (m : ℕ) → IsBytes xs → value_at xs (gf_pow 2 m) ≡ power_sum (coefficient xs) (below (length xs)) m
unfolding value_from power_sum below
value-sum [] m b = refl
value-sum (x ∷ xs) m b =
    let n = length xs in
    let rest = value-sum xs m (tail-bytes x xs b) ∙ power_sum-below n (coefficient xs) (coefficient (x ∷ xs)) m (λ q h. sym (coefficient-below x xs q h)) in
    value_at-cons x xs (gf_pow 2 m) b
    ∙ ap (λ z. bit_xor (gf_mul x z) (value_at xs (gf_pow 2 m))) (pow-swap 2 m n)
    ∙ ap (bit_xor (gf_mul x (gf_pow (gf_pow 2 n) m))) rest
    ∙ ap (λ z. bit_xor (gf_mul z (gf_pow (gf_pow 2 n) m)) (power_sum (coefficient (x ∷ xs)) (below n) m)) (sym (coefficient-first x xs))

power_sum-xor : (u v : ℕ → ℕ) (qs : List ℕ) (i : ℕ) → power_sum (λ q. bit_xor (u q) (v q)) qs i ≡ bit_xor (power_sum u qs i) (power_sum v qs i)
unfolding power_sum
power_sum-xor u v [] i = refl
power_sum-xor u v (q ∷ qs) i =
    let p = gf_pow (gf_pow 2 q) i in
    ap (λ z. bit_xor z (power_sum (λ q. bit_xor (u q) (v q)) qs i)) (mul-xor_left (u q) (v q) p)
    ∙ ap (bit_xor (bit_xor (gf_mul (u q) p) (gf_mul (v q) p))) (power_sum-xor u v qs i)
    ∙ xor_four (gf_mul (u q) p) (gf_mul (v q) p) (power_sum u qs i) (power_sum v qs i)

-- the numbers below n whose weight isn't 0
unfoldable pub weighty : ℕ → (ℕ → ℕ) → List ℕ
weighty zero w = []
weighty (suc n) w = cond (w n == 0) (weighty n w) (n ∷ weighty n w)

pub sum-weighty : (n : ℕ) (w : ℕ → ℕ) (i : ℕ) → power_sum w (below n) i ≡ power_sum w (weighty n w) i
unfolding weighty below power_sum
sum-weighty zero w i = refl
sum-weighty (suc n) w i =
    ap (bit_xor (gf_mul (w n) (gf_pow (gf_pow 2 n) i))) (sum-weighty n w i)
    ∙ (elim (eqb_tells (w n) 0) [
      | inl e ↦ ap (λ z. bit_xor (gf_mul z (gf_pow (gf_pow 2 n) i)) (power_sum w (weighty n w) i)) e.1
          ∙ ap (λ z. bit_xor z (power_sum w (weighty n w) i)) (zero_mul (gf_pow (gf_pow 2 n) i))
          ∙ ap (λ t. power_sum w (cond t (weighty n w) (n ∷ weighty n w)) i) (sym e.0)
      | inr e ↦ ap (λ t. power_sum w (cond t (weighty n w) (n ∷ weighty n w)) i) (sym e.0)
    ])

pub weighty-cong : (n : ℕ) (u v : ℕ → ℕ) → ((q : ℕ) → q < n → u q ≡ v q) → weighty n u ≡ weighty n v
unfolding weighty
weighty-cong zero u v e = refl
weighty-cong (suc n) u v e =
    ap (λ x. cond (x == 0) (weighty n u) (n ∷ weighty n u)) (e n (omega arith))
    ∙ ap (λ l. cond (v n == 0) l (n ∷ l)) (weighty-cong n u v (λ q h. e q (omega arith)))

lower : (a b : ℕ) (qs : List ℕ) → a ≤ b → FallsFrom a qs → FallsFrom b qs
lower a b [] h f = tt
lower a b (r ∷ rs) h f = ((omega arith), f.1)

pub weighty-falls : (n : ℕ) (w : ℕ → ℕ) → FallsFrom n (weighty n w)
unfolding weighty
weighty-falls zero w = tt
weighty-falls (suc n) w =
    elim (w n == 0) as (λ t. FallsFrom (suc n) (cond t (weighty n w) (n ∷ weighty n w))) [
      | true ↦ lower n (suc n) (weighty n w) (omega arith) (weighty-falls n w)
      | false ↦ ((omega arith), weighty-falls n w)
    ]

-- where each weight of the weighty is 0, there is none
pub weighty_none : (n : ℕ) (w : ℕ → ℕ) → Holds (λ q. w q ≡ 0) (weighty n w) → length (weighty n w) ≡ 0
unfolding weighty
weighty_none zero w h = refl
weighty_none (suc n) w h =
    elim (eqb_tells (w n) 0) [
      | inl e ↦ ap (λ t. length (cond t (weighty n w) (n ∷ weighty n w))) e.0 ∙ weighty_none n w (subst (λ t. Holds (λ q. w q ≡ 0) (cond t (weighty n w) (n ∷ weighty n w))) e.0 h)
      | inr e ↦ absurd (e.1 (subst (λ t. Holds (λ q. w q ≡ 0) (cond t (weighty n w) (n ∷ weighty n w))) e.0 h).0)
    ]

-- what holds of the weighty holds where the weight isn't 0
pub Holds-weighty : (P : ℕ → Type 0) (n : ℕ) (w : ℕ → ℕ) (q : ℕ) → Holds P (weighty n w) → q < n → w q ≢ 0 → P q
unfolding weighty
Holds-weighty P zero w q h k n = absurd (omega arith)
Holds-weighty P (suc m) w q h k n =
    elim (eqb_tells (w m) 0) [
      | inl e ↦ (let rest : Holds P (weighty m w) = subst (λ t. Holds P (cond t (weighty m w) (m ∷ weighty m w))) e.0 h in
          elim (eqb_tells q m) [
            | inl s ↦ absurd (n (ap w s.1 ∙ e.1))
            | inr o ↦ Holds-weighty P m w q rest (omega arith) n
          ])
      | inr e ↦ (let parts : P m × Holds P (weighty m w) = subst (λ t. Holds P (cond t (weighty m w) (m ∷ weighty m w))) e.0 h in
          elim (eqb_tells q m) [
            | inl s ↦ subst P (sym s.1) parts.0
            | inr o ↦ Holds-weighty P m w q parts.1 (omega arith) n
          ])
    ]

-- what two words differ by at an exponent
abbrev pub difference : List ℕ → List ℕ → ℕ → ℕ
difference xs ys q = bit_xor (coefficient xs q) (coefficient ys q)

pub differing-count : (xs ys : List ℕ) → length ys ≡ length xs → differing xs ys ≡ length (weighty (length xs) (difference xs ys))
unfolding differing weighty
differing-count [] ys e = refl
differing-count (x ∷ xs) [] e = absurd (omega arith)
differing-count (x ∷ xs) (y ∷ ys) e =
    let n = length xs in
    let same : length ys ≡ n = omega arith in
    let first : difference (x ∷ xs) (y ∷ ys) n ≡ bit_xor x y = ap (λ z. bit_xor z (coefficient (y ∷ ys) n)) (coefficient-first x xs) ∙ ap (λ k. bit_xor x (coefficient (y ∷ ys) k)) (sym same) ∙ ap (bit_xor x) (coefficient-first y ys) in
    let rest : weighty n (difference xs ys) ≡ weighty n (difference (x ∷ xs) (y ∷ ys)) =
    weighty-cong n (difference xs ys) (difference (x ∷ xs) (y ∷ ys))
    (λ q h. sym (ap (λ z. bit_xor z (coefficient (y ∷ ys) q)) (coefficient-below x xs q h) ∙ ap (bit_xor (coefficient xs q)) (coefficient-below y ys q (omega arith)))) in
    let count : differing xs ys ≡ length (weighty n (difference (x ∷ xs) (y ∷ ys))) = differing-count xs ys same ∙ ap length rest in
    let tests : (x == y) ≡ (difference (x ∷ xs) (y ∷ ys) n == 0) =
    (elim (eqb_tells x y) [
      | inl s ↦ s.0 ∙ sym (eq-eqb _ _ (first ∙ ap (bit_xor x) (sym s.1) ∙ xor_self x))
      | inr o ↦ o.0 ∙ sym (differ-false _ _ (λ z. o.1 (equal-from_xor x y (sym first ∙ z))))
    ]) in
    ap (λ k. cond (x == y) k (suc k)) count
    ∙ ap (λ t. cond t (length (weighty n (difference (x ∷ xs) (y ∷ ys)))) (suc (length (weighty n (difference (x ∷ xs) (y ∷ ys)))))) tests
    ∙ (elim (difference (x ∷ xs) (y ∷ ys) n == 0) as (λ t. cond t (length (weighty n (difference (x ∷ xs) (y ∷ ys)))) (suc (length (weighty n (difference (x ∷ xs) (y ∷ ys))))) ≡ length (cond t (weighty n (difference (x ∷ xs) (y ∷ ys))) (n ∷ weighty n (difference (x ∷ xs) (y ∷ ys))))) [ true ↦ refl | false ↦ refl ])

-- the places where two words differ
abbrev pub errors : List ℕ → List ℕ → List ℕ
errors xs ys = weighty (length xs) (difference xs ys)

-- two words' values at a power of 2 differ by the sum of powers over their errors
pub values-differ : (xs ys : List ℕ) (m : ℕ) → length ys ≡ length xs → IsBytes xs → IsBytes ys →
    bit_xor (value_at xs (gf_pow 2 m)) (value_at ys (gf_pow 2 m)) ≡ power_sum (difference xs ys) (errors xs ys) m
values-differ xs ys m e bx by =
    ap (λ z. bit_xor z (value_at ys (gf_pow 2 m))) (value-sum xs m bx)
    ∙ ap (bit_xor (power_sum (coefficient xs) (below (length xs)) m)) (value-sum ys m by ∙ ap (λ n. power_sum (coefficient ys) (below n) m) e)
    ∙ sym (power_sum-xor (coefficient xs) (coefficient ys) (below (length xs)) m)
    ∙ sum-weighty (length xs) (difference xs ys) m

pub difference-lt : (xs ys : List ℕ) (q : ℕ) → IsBytes xs → IsBytes ys → difference xs ys q < 256
difference-lt xs ys q bx by = xor_lt_byte (coefficient xs q) (coefficient ys q) (coefficient-lt xs q bx) (coefficient-lt ys q by)

-- words that differ nowhere are equal
pub equal-from_none : (xs ys : List ℕ) → length ys ≡ length xs → differing xs ys ≡ 0 → xs ≡ ys
unfolding differing
equal-from_none [] [] e d = refl
equal-from_none [] (y ∷ ys) e d = absurd (omega arith)
equal-from_none (x ∷ xs) [] e d = absurd (omega arith)
equal-from_none (x ∷ xs) (y ∷ ys) e d =
    elim (eqb_tells x y) [
      | inl s ↦ (let rest : differing xs ys ≡ 0 = ap (λ t. cond t (differing xs ys) (suc (differing xs ys))) (sym s.0) ∙ d in
          ap (λ z. z ∷ xs) s.1 ∙ ap (λ l. y ∷ l) (equal-from_none xs ys (omega arith) rest))
      | inr o ↦ (let rest : suc (differing xs ys) ≡ 0 = ap (λ t. cond t (differing xs ys) (suc (differing xs ys))) (sym o.0) ∙ d in absurd (omega arith))
    ]

-- two codewords of one length that differ in no more places than there are roots are equal
pub equal-from_close : (roots : ℕ) (xs ys : List ℕ) → IsCodeword roots xs → IsCodeword roots ys → length ys ≡ length xs → length xs ≤ 255 → differing xs ys ≤ roots → xs ≡ ys
equal-from_close roots xs ys cx cy e n d =
    let count : differing xs ys ≡ length (errors xs ys) = differing-count xs ys e in
    let sums : (i : ℕ) → i < length (errors xs ys) → power_sum (difference xs ys) (errors xs ys) i ≡ 0 =
    λ i h. sym (values-differ xs ys i e cx.bytes cy.bytes)
    ∙ ap (λ z. bit_xor z (value_at ys (gf_pow 2 i))) (cx.vanishes i (omega arith)) ∙ cy.vanishes i (omega arith) in
    let zeros : Holds (λ q. difference xs ys q ≡ 0) (errors xs ys) =
    vanish (errors xs ys) (length xs) (difference xs ys) n (weighty-falls (length xs) (difference xs ys)) (λ q. difference-lt xs ys q cx.bytes cy.bytes) sums in
    equal-from_none xs ys e (count ∙ weighty_none (length xs) (difference xs ys) zeros)

-- two words differ in no more places than they differ together from a third
pub differing-triangle : (ws xs ys : List ℕ) → length xs ≡ length ws → length ys ≡ length ws → differing xs ys ≤ differing ws xs + differing ws ys
unfolding differing
differing-triangle [] [] ys e f = omega arith
differing-triangle [] (x ∷ xs) ys e f = absurd (omega arith)
differing-triangle (w ∷ ws) [] ys e f = omega arith
differing-triangle (w ∷ ws) (x ∷ xs) [] e f = absurd (omega arith)
differing-triangle (w ∷ ws) (x ∷ xs) (y ∷ ys) e f =
    let rest : differing xs ys ≤ differing ws xs + differing ws ys = differing-triangle ws xs ys (omega arith) (omega arith) in
    let Goal = λ (s t u : Bool). cond s (differing xs ys) (suc (differing xs ys)) ≤ cond t (differing ws xs) (suc (differing ws xs)) + cond u (differing ws ys) (suc (differing ws ys)) in
    elim (eqb_tells x y) [
      | inl a ↦ subst (λ s. Goal s (w == x) (w == y)) (sym a.0) (elim (w == x) as (λ t. Goal true t (w == y)) [
        | true ↦ elim (w == y) as (λ u. Goal true true u) [ true ↦ rest | false ↦ omega arith ]
        | false ↦ elim (w == y) as (λ u. Goal true false u) [ true ↦ omega arith | false ↦ omega arith ]
      ])
      | inr a ↦ subst (λ s. Goal s (w == x) (w == y)) (sym a.0) (elim (eqb_tells w x) [
        | inl b ↦ elim (eqb_tells w y) [
          | inl c ↦ absurd (a.1 (sym b.1 ∙ c.1))
          | inr c ↦ subst (λ t. Goal false t (w == y)) (sym b.0) (subst (λ u. Goal false true u) (sym c.0) (omega arith))
        ]
        | inr b ↦ subst (λ t. Goal false t (w == y)) (sym b.0) (elim (w == y) as (λ u. Goal false false u) [ true ↦ omega arith | false ↦ omega arith ])
      ])
    ]
