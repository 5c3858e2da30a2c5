-- What the steps of the program's loops do to the values that they keep.
use Rattle.std.proofs.Common.{◌≡◌, ℕ, zero, suc, ◌+◌, ◌-◌, ◌<◌, ◌≤◌, refl, ap, cond, List, [], ◌∷◌, ◌++◌, length, get_or, take, drop, arith, inl, inr, sym, ◌∙◌, add-one}
use Rattle.std.specs.Prelude.{bit_xor, All}
use Rattle.std.specs.Int.Bits.{xor_assoc, xor_self, xor_zero_r}
use Rattle.std.proofs.lemmas.Nat.{xor_comm}
use Rattle.std.proofs.lemmas.List.{get_or_past}
use Rattle.std.proofs.Math.Seq.{drop-cons, take-suc, take-length}
use Rattle.std.proofs.Math.ListN.{drop_of_length-le}
use Rattle.std.proofs.lemmas.List.Elements.{All-append, All-from_get_or}
use Rattle.std.proofs.lemmas.Bool.{eq-eqb}
use Rattle.std.proofs.lemmas.Bool.Decides.{eqb_tells, leb_tells}
use Rattle.gf_rs.specs.Field.{gf_mul, gf_pow}
use Rattle.gf_rs.specs.Codewords.{value_from, value_at, differing, IsBytes, IsCodeword}
use Rattle.gf_rs.specs.Polynomials.{along, value_to}
use Rattle.gf_rs.proofs.FieldLaws.{xor_four, mul-xor_left, mul-xor_right, mul_comm, mul_assoc, mul_one, mul-lt, zero_mul, mul_zero, xor_lt_byte}
use Rattle.gf_rs.proofs.Words.{value_from-split}
use Rattle.gf_rs.proofs.OneCodeword.{value_from-append}

-- differing words, from a place on
pub differing-same : (xs ys : List ℕ) (i : ℕ) → i < length xs → length ys ≡ length xs → get_or xs i 0 ≡ get_or ys i 0 → differing (drop (i + 1) xs) (drop (i + 1) ys) ≡ differing (drop i xs) (drop i ys)
unfolding differing
differing-same xs ys i h e s =
    rw (add-one i, drop-cons xs i 0 h, drop-cons ys i 0 (let k : i < length ys = omega arith in k))
    (sym (ap (λ t. cond t (differing (drop (suc i) xs) (drop (suc i) ys)) (suc (differing (drop (suc i) xs) (drop (suc i) ys)))) (eq-eqb _ _ s)))

pub differing-other : (xs ys : List ℕ) (i : ℕ) → i < length xs → length ys ≡ length xs → (get_or xs i 0 ≡ get_or ys i 0 → ⊥) → suc (differing (drop (i + 1) xs) (drop (i + 1) ys)) ≡ differing (drop i xs) (drop i ys)
unfolding differing
differing-other xs ys i h e s =
    rw (add-one i, drop-cons xs i 0 h, drop-cons ys i 0 (let k : i < length ys = omega arith in k))
    (elim (eqb_tells (get_or xs i 0) (get_or ys i 0)) [
      | inl a ↦ absurd (s a.1)
      | inr a ↦ sym (ap (λ t. cond t (differing (drop (suc i) xs) (drop (suc i) ys)) (suc (differing (drop (suc i) xs) (drop (suc i) ys)))) a.0)
    ])

pub differing-end : (xs ys : List ℕ) (i : ℕ) → length xs ≤ i → differing (drop i xs) (drop i ys) ≡ 0
unfolding differing
differing-end xs ys i h = ap (λ l. differing l (drop i ys)) (drop_of_length-le xs h)

pub value-take : (xs : List ℕ) (i v : ℕ) → i < length xs → value_at (take (i + 1) xs) v ≡ bit_xor (gf_mul (value_at (take i xs) v) v) (get_or xs i 0)
unfolding value_from
value-take xs i v h = rw (add-one i, take-suc xs i 0 h) (value_from-append 0 (take i xs) (get_or xs i 0 ∷ []) v)

value_from-lt : (a : ℕ) (xs : List ℕ) (v : ℕ) → a < 256 → IsBytes xs → value_from a xs v < 256
unfolding value_from
value_from-lt a [] v h b = h
value_from-lt a (x ∷ xs) v h b = value_from-lt (bit_xor (gf_mul a v) x) xs v (xor_lt_byte (gf_mul a v) x (mul-lt a v) (b 0 0 (omega arith))) (λ k d g. b (suc k) d (omega arith))

pub value_at-lt : (xs : List ℕ) (v : ℕ) → IsBytes xs → value_at xs v < 256
value_at-lt xs v b = value_from-lt 0 xs v (omega arith) b

-- the value of a word, by its bytes as coefficients
pub value-entries : (xs : List ℕ) (d v : ℕ) → d < length xs → value_at (take (d + 1) xs) v ≡ value_to (λ j. get_or xs j 0) d v
unfolding value_to value_from
value-entries xs zero v h = value-take xs 0 v h ∙ ap (λ z. bit_xor z (get_or xs 0 0)) (zero_mul v)
value-entries xs (suc d) v h =
    let same : suc d ≡ d + 1 = omega arith in
    value-take xs (suc d) v h
    ∙ ap (λ z. bit_xor (gf_mul (value_at (take z xs) v) v) (get_or xs (suc d) 0)) same
    ∙ ap (λ z. bit_xor (gf_mul z v) (get_or xs (suc d) 0)) (value-entries xs d v (omega arith))

-- one step of the sum along, in the program's indexes
pub along-next : (c s : ℕ → ℕ) (j d f : ℕ) → j < d → along c s (j + 1) (f + d - (j + 1)) ≡ bit_xor (along c s j (f + d - j)) (gf_mul (c (j + 1)) (s (f + d - j - 1)))
unfolding along
along-next c s j d f h =
    let at : f + d - (j + 1) ≡ f + d - j - 1 = omega arith in
    let up : suc (f + d - j - 1) ≡ f + d - j = omega arith in
    ap (λ k. along c s k (f + d - (j + 1))) (add-one j) ∙ ap (along c s (suc j)) at ∙ ap (λ k. bit_xor (along c s j k) (gf_mul (c (suc j)) (s (f + d - j - 1)))) up
    ∙ ap (λ k. bit_xor (along c s j (f + d - j)) (gf_mul (c k) (s (f + d - j - 1)))) (sym (add-one j))

pub along-down : (c s : ℕ → ℕ) (j d : ℕ) → j < d - 1 → along c s (j + 1) (d - 1 - (j + 1)) ≡ bit_xor (along c s j (d - 1 - j)) (gf_mul (c (j + 1)) (s (d - 2 - j)))
unfolding along
along-down c s j d h =
    let at : d - 1 - (j + 1) ≡ d - 2 - j = omega arith in
    let up : suc (d - 2 - j) ≡ d - 1 - j = omega arith in
    ap (λ k. along c s k (d - 1 - (j + 1))) (add-one j) ∙ ap (along c s (suc j)) at ∙ ap (λ k. bit_xor (along c s j k) (gf_mul (c (suc j)) (s (d - 2 - j)))) up
    ∙ ap (λ k. bit_xor (along c s j (d - 1 - j)) (gf_mul (c k) (s (d - 2 - j)))) (sym (add-one j))

pub along-first : (c s : ℕ → ℕ) (i : ℕ) → along c s 0 i ≡ gf_mul (c 0) (s i)
unfolding along
along-first c s i = refl

pub value_to-first : (c : ℕ → ℕ) (v : ℕ) → value_to c 0 v ≡ c 0
unfolding value_to
value_to-first c v = refl

pub value_to-next : (c : ℕ → ℕ) (j v : ℕ) → value_to c (j + 1) v ≡ bit_xor (gf_mul (value_to c j v) v) (c (j + 1))
unfolding value_to
value_to-next c j v = ap (λ k. value_to c k v) (add-one j) ∙ ap (λ k. bit_xor (gf_mul (value_to c j v) v) (c k)) (sym (add-one j))

-- the register: what a step does to its value
value_to-sum : (c e g : ℕ → ℕ) (f d v : ℕ) → ((j : ℕ) → j ≤ d → e j ≡ bit_xor (c j) (gf_mul f (g j))) → value_to e d v ≡ bit_xor (value_to c d v) (gf_mul f (value_to g d v))
unfolding value_to
value_to-sum c e g f zero v h = h 0 (omega arith)
value_to-sum c e g f (suc d) v h =
    ap (λ z. bit_xor (gf_mul z v) (e (suc d))) (value_to-sum c e g f d v (λ j k. h j (omega arith)))
    ∙ ap (bit_xor (gf_mul (bit_xor (value_to c d v) (gf_mul f (value_to g d v))) v)) (h (suc d) (omega arith))
    ∙ ap (λ z. bit_xor z (bit_xor (c (suc d)) (gf_mul f (g (suc d))))) (mul-xor_left (value_to c d v) (gf_mul f (value_to g d v)) v ∙ ap (bit_xor (gf_mul (value_to c d v) v)) (mul_assoc f (value_to g d v) v))
    ∙ xor_four (gf_mul (value_to c d v) v) (gf_mul f (gf_mul (value_to g d v) v)) (c (suc d)) (gf_mul f (g (suc d)))
    ∙ ap (bit_xor (bit_xor (gf_mul (value_to c d v) v) (c (suc d)))) (sym (mul-xor_right f (gf_mul (value_to g d v) v) (g (suc d))))

-- without its first coefficient
value_to-drop : (c : ℕ → ℕ) (d v : ℕ) → value_to c (suc d) v ≡ bit_xor (gf_mul (c 0) (gf_pow v (suc d))) (value_to (λ j. c (suc j)) d v)
unfolding value_to gf_pow
value_to-drop c zero v = ap (λ z. bit_xor z (c 1)) (sym (ap (gf_mul (c 0)) (mul_comm 1 v) ∙ sym (mul_assoc (c 0) v 1) ∙ mul_one (gf_mul (c 0) v) (mul-lt (c 0) v)))
value_to-drop c (suc d) v =
    ap (λ z. bit_xor (gf_mul z v) (c (suc (suc d)))) (value_to-drop c d v)
    ∙ ap (λ z. bit_xor z (c (suc (suc d)))) (mul-xor_left (gf_mul (c 0) (gf_pow v (suc d))) (value_to (λ j. c (suc j)) d v) v ∙ ap (λ z. bit_xor z (gf_mul (value_to (λ j. c (suc j)) d v) v)) (mul_assoc (c 0) (gf_pow v (suc d)) v))
    ∙ xor_assoc (gf_mul (c 0) (gf_pow v (suc (suc d)))) (gf_mul (value_to (λ j. c (suc j)) d v) v) (c (suc (suc d)))

-- a register of d + 1 bytes whose generator takes the value of the power d + 1: a step multiplies by v and adds the byte at that power
pub register-step : (c e g : ℕ → ℕ) (b d v : ℕ) → c (suc d) ≡ 0 → ((j : ℕ) → j ≤ d → e j ≡ bit_xor (c (suc j)) (gf_mul (bit_xor b (c 0)) (g j))) → value_to g d v ≡ gf_pow v (suc d) →
    value_to e d v ≡ bit_xor (gf_mul (value_to c d v) v) (gf_mul b (gf_pow v (suc d)))
unfolding value_to
register-step c e g b d v z h gen =
    let p = gf_pow v (suc d) in
    let t = value_to (λ j. c (suc j)) d v in
    let whole : gf_mul (value_to c d v) v ≡ bit_xor (gf_mul (c 0) p) t = sym (ap (bit_xor (gf_mul (value_to c d v) v)) z ∙ xor_zero_r (gf_mul (value_to c d v) v)) ∙ value_to-drop c d v in
    value_to-sum (λ j. c (suc j)) e g (bit_xor b (c 0)) d v h
    ∙ ap (λ y. bit_xor t (gf_mul (bit_xor b (c 0)) y)) gen
    ∙ ap (bit_xor t) (mul-xor_left b (c 0) p ∙ xor_comm (gf_mul b p) (gf_mul (c 0) p))
    ∙ sym (xor_assoc t (gf_mul (c 0) p) (gf_mul b p))
    ∙ ap (λ y. bit_xor y (gf_mul b p)) (xor_comm t (gf_mul (c 0) p) ∙ sym whole)

pub value-none : (v : ℕ) → value_at [] v ≡ 0
unfolding value_from
value-none v = refl

-- t over u, by the inverse of u
pub divided : (u t v r : ℕ) → gf_mul u v ≡ 1 → r ≡ gf_mul t v → t < 256 → gf_mul u r ≡ t
divided u t v r i e h = ap (gf_mul u) e ∙ sym (mul_assoc u t v) ∙ ap (λ z. gf_mul z v) (mul_comm u t) ∙ mul_assoc t u v ∙ ap (gf_mul t) i ∙ mul_one t h

-- what holds of each entry below a length holds of the zeros behind it
pub all-scaled : (new old other : List ℕ) (f : ℕ) → length new ≡ length old → length other ≡ length old → ((k : ℕ) → k < length old → get_or new k 0 ≡ bit_xor (get_or old k 0) (gf_mul f (get_or other k 0))) →
    (k : ℕ) → get_or new k 0 ≡ bit_xor (get_or old k 0) (gf_mul f (get_or other k 0))
all-scaled new old other f e d h k =
    elim (leb_tells (suc k) (length old)) [
      | inl low ↦ h k low.1
      | inr high ↦ get_or_past new k 0 (omega arith) ∙ sym (ap (λ z. bit_xor z (gf_mul f (get_or other k 0))) (get_or_past old k 0 (omega arith)) ∙ ap (gf_mul f) (get_or_past other k 0 (omega arith)) ∙ mul_zero f)
    ]

pub all-product : (new old : List ℕ) (f : ℕ) → length new ≡ length old → ((k : ℕ) → k < length old → get_or new k 0 ≡ gf_mul f (get_or old k 0)) → (k : ℕ) → get_or new k 0 ≡ gf_mul f (get_or old k 0)
all-product new old f e h k =
    elim (leb_tells (suc k) (length old)) [
      | inl low ↦ h k low.1
      | inr high ↦ get_or_past new k 0 (omega arith) ∙ sym (ap (gf_mul f) (get_or_past old k 0 (omega arith)) ∙ mul_zero f)
    ]

-- zeros as coefficients
pub value_to-zeros : (c : ℕ → ℕ) (d v : ℕ) → ((j : ℕ) → c j ≡ 0) → value_to c d v ≡ 0
unfolding value_to
value_to-zeros c zero v h = h 0
value_to-zeros c (suc d) v h = ap (λ z. bit_xor (gf_mul z v) (c (suc d))) (value_to-zeros c d v h) ∙ ap (λ z. bit_xor z (c (suc d))) (zero_mul v) ∙ h (suc d)

-- the register after a byte: what has come so far, moved up by as many places as the register has
pub register-next : (old new row : List ℕ) (r b p v : ℕ) → 0 < r → length old ≡ r →
    ((k : ℕ) → k < length old → get_or new k 0 ≡ bit_xor (get_or old (k + 1) 0) (gf_mul (bit_xor b (get_or old 0 0)) (gf_pow 2 (get_or row k 0)))) →
    value_to (λ j. gf_pow 2 (get_or row j 0)) (r - 1) v ≡ gf_pow v r → value_to (λ j. get_or old j 0) (r - 1) v ≡ gf_mul p (gf_pow v r) →
    value_to (λ j. get_or new j 0) (r - 1) v ≡ gf_mul (bit_xor (gf_mul p v) b) (gf_pow v r)
register-next old new row r b p v pos size step gen inv =
    let whole : suc (r - 1) ≡ r = omega arith in
    let V = gf_pow v r in
    register-step (λ j. get_or old j 0) (λ j. get_or new j 0) (λ j. gf_pow 2 (get_or row j 0)) b (r - 1) v
    (get_or_past old (suc (r - 1)) 0 (omega arith))
    (λ j h. step j (omega arith) ∙ ap (λ k. bit_xor (get_or old k 0) (gf_mul (bit_xor b (get_or old 0 0)) (gf_pow 2 (get_or row j 0)))) (add-one j))
    (gen ∙ ap (gf_pow v) (sym whole))
    ∙ ap (λ k. bit_xor (gf_mul (value_to (λ j. get_or old j 0) (r - 1) v) v) (gf_mul b (gf_pow v k))) whole
    ∙ ap (λ z. bit_xor (gf_mul z v) (gf_mul b V)) inv
    ∙ ap (λ z. bit_xor z (gf_mul b V)) (mul_assoc p V v ∙ ap (gf_mul p) (mul_comm V v) ∙ sym (mul_assoc p v V))
    ∙ sym (mul-xor_left (gf_mul p v) b V)

-- a message and the register make a codeword
pub codeword-append : (r : ℕ) (m o : List ℕ) → 0 < r → length o ≡ r → IsBytes m → IsBytes o →
    ((i : ℕ) → i < r → value_to (λ j. get_or o j 0) (r - 1) (gf_pow 2 i) ≡ gf_mul (value_at m (gf_pow 2 i)) (gf_pow (gf_pow 2 i) r)) → IsCodeword r (m ++ o)
codeword-append r m o pos size bm bo h = record {
  bytes = All-append (λ b. b < 256) m o bm bo;
  vanishes = λ i k.
      (let v = gf_pow 2 i in
      let whole : take (r - 1 + 1) o ≡ o = ap (λ n. take n o) (let e : r - 1 + 1 ≡ length o = omega arith in e) ∙ take-length o in
      let rest : value_at o v ≡ gf_mul (value_at m v) (gf_pow v (length o)) =
      sym (ap (λ l. value_at l v) whole) ∙ value-entries o (r - 1) v (omega arith) ∙ h i k ∙ ap (λ n. gf_mul (value_at m v) (gf_pow v n)) (sym size) in
      value_from-append 0 m o v ∙ value_from-split (value_at m v) o v (value_at-lt m v bm) bo
      ∙ ap (bit_xor (gf_mul (value_at m v) (gf_pow v (length o)))) rest ∙ xor_self (gf_mul (value_at m v) (gf_pow v (length o))));
}

pub differing-self : (xs : List ℕ) → differing xs xs ≡ 0
unfolding differing
differing-self [] = refl
differing-self (x ∷ xs) = ap (λ t. cond t (differing xs xs) (suc (differing xs xs))) (eq-eqb x x refl) ∙ differing-self xs

pub All-from_zeros : (xs : List ℕ) → ((k : ℕ) → get_or xs k 0 ≡ 0) → All (λ b. b < 256) xs
All-from_zeros xs h = All-from_get_or (λ b. b < 256) xs 0 (λ i k. let z : get_or xs i 0 ≡ 0 = h i in omega arith)
