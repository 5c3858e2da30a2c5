-- A polynomial of degree below n that vanishes at n different numbers of the field is zero.
use Rattle.std.proofs.Common.{◌≡◌, ◌≢◌, ℕ, zero, suc, ◌<◌, ◌≤◌, refl, ap, arith, sym, ◌∙◌, subst, List, [], ◌∷◌, length, get_or}
use Rattle.std.specs.Prelude.{bit_xor, All}
use Rattle.std.specs.List.{AllPairs}
use Rattle.std.specs.Int.Bits.{xor_assoc, xor_self, xor_zero_r}
use Rattle.gf_rs.specs.Field.{gf_mul, gf_pow}
use Rattle.gf_rs.specs.Codewords.{value_from, value_at, IsBytes}
use Rattle.gf_rs.proofs.FieldLaws.{mul-xor_left, mul-xor_right, mul_comm, mul_assoc, mul-lt, zero_mul, equal-from_xor, pow-lt, xor_lt_byte, positive}
use Rattle.gf_rs.proofs.TableLaws.{mul-eq-zero, powers_distinct}

-- each of a list is a byte
abbrev pub AreBytes : List ℕ → Type 0
AreBytes [] = Unit {0}
AreBytes (x ∷ xs) = (x < 256) × AreBytes xs

-- each of a list is 0
abbrev pub AreZero : List ℕ → Type 0
AreZero [] = Unit {0}
AreZero (x ∷ xs) = (x ≡ 0) × AreZero xs

-- a number differs from each of a list
abbrev pub IsApart : ℕ → List ℕ → Type 0
IsApart x [] = Unit {0}
IsApart x (y ∷ ys) = (x ≢ y) × IsApart x ys

-- the numbers of a list are different
abbrev pub AreDifferent : List ℕ → Type 0
AreDifferent [] = Unit {0}
AreDifferent (x ∷ xs) = IsApart x xs × AreDifferent xs

-- a polynomial vanishes at each of a list
abbrev pub AreRoots : List ℕ → List ℕ → Type 0
AreRoots p [] = Unit {0}
AreRoots p (x ∷ xs) = (value_at p x ≡ 0) × AreRoots p xs

-- the quotient by x - a: what Horner's rule has before each further coefficient
unfoldable pub quotient : ℕ → ℕ → List ℕ → List ℕ
quotient r a [] = []
quotient r a (b ∷ bs) = r ∷ quotient (bit_xor (gf_mul r a) b) a bs

length-quotient : (r a : ℕ) (bs : List ℕ) → length (quotient r a bs) ≡ length bs
unfolding quotient
length-quotient r a [] = refl
length-quotient r a (b ∷ bs) = ap suc (length-quotient (bit_xor (gf_mul r a) b) a bs)

bytes-quotient : (r a : ℕ) (bs : List ℕ) → r < 256 → AreBytes bs → AreBytes (quotient r a bs)
unfolding quotient
bytes-quotient r a [] hr hb = tt
bytes-quotient r a (b ∷ bs) hr hb = (hr, bytes-quotient (bit_xor (gf_mul r a) b) a bs (xor_lt_byte (gf_mul r a) b (mul-lt r a) hb.0) hb.1)

pub first-value : (b : ℕ) (bs : List ℕ) (x : ℕ) → value_at (b ∷ bs) x ≡ value_from b bs x
unfolding value_from
first-value b bs x = ap (λ z. value_from (bit_xor z b) bs x) (zero_mul x)

-- one step of the division: p c + b = (q c + r) (c + a) + (r a + b) where p = q (c + a) + r
division-step : (c q r a b : ℕ) →
    bit_xor (gf_mul (bit_xor (gf_mul q (bit_xor c a)) r) c) b ≡ bit_xor (gf_mul (bit_xor (gf_mul q c) r) (bit_xor c a)) (bit_xor (gf_mul r a) b)
division-step c q r a b =
    let d = bit_xor c a in
    let swap : gf_mul (gf_mul q d) c ≡ gf_mul (gf_mul q c) d = mul_assoc q d c ∙ ap (gf_mul q) (mul_comm d c) ∙ sym (mul_assoc q c d) in
    let left : gf_mul (bit_xor (gf_mul q d) r) c ≡ bit_xor (gf_mul (gf_mul q c) d) (gf_mul r c) = mul-xor_left (gf_mul q d) r c ∙ ap (λ z. bit_xor z (gf_mul r c)) swap in
    let right : gf_mul (bit_xor (gf_mul q c) r) d ≡ bit_xor (gf_mul (gf_mul q c) d) (bit_xor (gf_mul r c) (gf_mul r a)) =
    mul-xor_left (gf_mul q c) r d ∙ ap (bit_xor (gf_mul (gf_mul q c) d)) (mul-xor_right r c a) in
    ap (λ z. bit_xor z b) left ∙ sym (ap (λ z. bit_xor z (bit_xor (gf_mul r a) b)) right ∙ cancelled (gf_mul (gf_mul q c) d) (gf_mul r c) (gf_mul r a) b)
  where
    cancelled : (u v w b : ℕ) → bit_xor (bit_xor u (bit_xor v w)) (bit_xor w b) ≡ bit_xor (bit_xor u v) b
    cancelled u v w b =
        ap (λ z. bit_xor z (bit_xor w b)) (sym (xor_assoc u v w)) ∙ xor_assoc (bit_xor u v) w (bit_xor w b)
        ∙ ap (bit_xor (bit_xor u v)) (sym (xor_assoc w w b) ∙ ap (λ z. bit_xor z b) (xor_self w))

-- the value of a polynomial is that of its quotient by x - a times x - a, and its value at a
division : (c q r a : ℕ) (bs : List ℕ) →
    value_from (bit_xor (gf_mul q (bit_xor c a)) r) bs c ≡ bit_xor (gf_mul (value_from q (quotient r a bs) c) (bit_xor c a)) (value_from r bs a)
unfolding value_from quotient
division c q r a [] = refl
division c q r a (b ∷ bs) = ap (λ p. value_from p bs c) (division-step c q r a b) ∙ division c (bit_xor (gf_mul q c) r) (bit_xor (gf_mul r a) b) a bs

pub value-lt : (r a : ℕ) (bs : List ℕ) → r < 256 → AreBytes bs → value_from r bs a < 256
unfolding value_from
value-lt r a [] hr hb = hr
value-lt r a (b ∷ bs) hr hb = value-lt (bit_xor (gf_mul r a) b) a bs (xor_lt_byte (gf_mul r a) b (mul-lt r a) hb.0) hb.1

-- a root other than a is a root of the quotient
quotient-root : (c a b : ℕ) (bs : List ℕ) → c < 256 → a < 256 → b < 256 → AreBytes bs → a ≢ c → value_from b bs a ≡ 0 → value_from b bs c ≡ 0 → value_at (quotient b a bs) c ≡ 0
quotient-root c a b bs hc ha hb hbs ne ea ec =
    let d = bit_xor c a in
    let v = value_at (quotient b a bs) c in
    let start : bit_xor (gf_mul 0 d) b ≡ b = ap (λ z. bit_xor z b) (zero_mul d) in
    let whole : gf_mul v d ≡ 0 = sym (xor_zero_r (gf_mul v d)) ∙ ap (bit_xor (gf_mul v d)) (sym ea) ∙ sym (division c 0 b a bs) ∙ ap (λ z. value_from z bs c) start ∙ ec in
    mul-eq-zero d v (positive d (λ e. ne (sym (equal-from_xor c a e)))) (xor_lt_byte c a hc ha) (value-lt 0 c (quotient b a bs) (omega arith) (bytes-quotient b a bs hb hbs)) (mul_comm d v ∙ whole)

quotient-roots : (a b : ℕ) (bs xs : List ℕ) → a < 256 → b < 256 → AreBytes bs → AreBytes xs → IsApart a xs → value_from b bs a ≡ 0 → AreRoots (b ∷ bs) xs → AreRoots (quotient b a bs) xs
quotient-roots a b bs [] ha hb hbs hx n e r = tt
quotient-roots a b bs (x ∷ xs) ha hb hbs hx n e r =
    (quotient-root x a b bs hx.0 ha hb hbs n.0 e (sym (first-value b bs x) ∙ r.0), quotient-roots a b bs xs ha hb hbs hx.1 n.1 e r.1)

-- where the quotient and the value at a are 0, so is the polynomial
zero-from_quotient : (b a : ℕ) (bs : List ℕ) → AreZero (quotient b a bs) → value_from b bs a ≡ 0 → AreZero (b ∷ bs)
unfolding value_from quotient
zero-from_quotient b a [] z e = (e, tt)
zero-from_quotient b a (c ∷ cs) z e =
    let same : bit_xor (gf_mul b a) c ≡ c = ap (λ x. bit_xor (gf_mul x a) c) z.0 ∙ ap (λ x. bit_xor x c) (zero_mul a) in
    (z.0, zero-from_quotient c a cs (subst (λ x. AreZero (quotient x a cs)) same z.1) (subst (λ x. value_from x cs a ≡ 0) same e))

-- the root count
pub zero-from_roots : (xs p : List ℕ) → length p ≤ length xs → AreBytes p → AreBytes xs → AreDifferent xs → AreRoots p xs → AreZero p
zero-from_roots [] [] h hp hx d r = tt
zero-from_roots [] (b ∷ bs) h hp hx d r = absurd (omega arith)
zero-from_roots (x ∷ xs) [] h hp hx d r = tt
zero-from_roots (x ∷ xs) (b ∷ bs) h hp hx d r =
    let at : value_from b bs x ≡ 0 = sym (first-value b bs x) ∙ r.0 in
    let short : length (quotient b x bs) ≤ length xs = (let e = length-quotient b x bs in omega arith) in
    zero-from_quotient b x bs (zero-from_roots xs (quotient b x bs) short (bytes-quotient b x bs hp.0 hp.1) hx.1 d.1 (quotient-roots x b bs xs hx.0 hp.0 hp.1 hx.1 d.0 at r.1)) at

-- ---- at the powers of λ

-- the first n powers of λ, the last first
unfoldable pub powers : ℕ → List ℕ
powers zero = []
powers (suc n) = gf_pow 2 n ∷ powers n

length-powers : (n : ℕ) → length (powers n) ≡ n
unfolding powers
length-powers zero = refl
length-powers (suc n) = ap suc (length-powers n)

bytes-powers : (n : ℕ) → AreBytes (powers n)
unfolding powers
bytes-powers zero = tt
bytes-powers (suc n) = (pow-lt 2 n, bytes-powers n)

apart-powers : (n m : ℕ) → m ≤ n → n < 255 → IsApart (gf_pow 2 n) (powers m)
unfolding powers
apart-powers n zero h k = tt
apart-powers n (suc m) h k = ((λ e. absurd (let same : n ≡ m = powers_distinct n m k (omega arith) e in omega arith)), apart-powers n m (omega arith) k)

different-powers : (n : ℕ) → n ≤ 255 → AreDifferent (powers n)
unfolding powers
different-powers zero h = tt
different-powers (suc n) h = (apart-powers n n (omega arith) (omega arith), different-powers n (omega arith))

roots-powers : (p : List ℕ) (n : ℕ) → ((i : ℕ) → i < n → value_at p (gf_pow 2 i) ≡ 0) → AreRoots p (powers n)
unfolding powers
roots-powers p zero v = tt
roots-powers p (suc n) v = (v n (omega arith), roots-powers p n (λ i h. v i (omega arith)))

-- a polynomial of at most n coefficients that vanishes at the first n powers of λ is zero
pub zero-from_powers : (n : ℕ) (p : List ℕ) → length p ≤ n → n ≤ 255 → AreBytes p → ((i : ℕ) → i < n → value_at p (gf_pow 2 i) ≡ 0) → AreZero p
zero-from_powers n p h few hp v =
    zero-from_roots (powers n) p (let e = length-powers n in omega arith) hp (bytes-powers n) (different-powers n few) (roots-powers p n v)

-- ---- in the words of the clauses

pub bytes-from_all : (xs : List ℕ) → IsBytes xs → AreBytes xs
bytes-from_all [] h = tt
bytes-from_all (x ∷ xs) h = (h zero 0 (omega arith), bytes-from_all xs (λ k d lt. h (suc k) d (omega arith)))

pub all-from_bytes : (xs : List ℕ) → AreBytes xs → IsBytes xs
all-from_bytes [] h k d lt = absurd (omega arith)
all-from_bytes (x ∷ xs) h zero d lt = h.0
all-from_bytes (x ∷ xs) h (suc k) d lt = all-from_bytes xs h.1 k d (omega arith)

pub all-from_zero : (xs : List ℕ) → AreZero xs → All (λ x. x ≡ 0) xs
all-from_zero [] h k d lt = absurd (omega arith)
all-from_zero (x ∷ xs) h zero d lt = h.0
all-from_zero (x ∷ xs) h (suc k) d lt = all-from_zero xs h.1 k d (omega arith)

pub zero-from_all : (xs : List ℕ) → All (λ x. x ≡ 0) xs → AreZero xs
zero-from_all [] h = tt
zero-from_all (x ∷ xs) h = (h zero 0 (omega arith), zero-from_all xs (λ k d lt. h (suc k) d (omega arith)))

apart-from_each : (x : ℕ) (ys : List ℕ) → ((j d : ℕ) → j < length ys → x ≢ get_or ys j d) → IsApart x ys
apart-from_each x [] h = tt
apart-from_each x (y ∷ ys) h = (h zero 0 (omega arith), apart-from_each x ys (λ j d lt. h (suc j) d (omega arith)))

different-from_pairs : (xs : List ℕ) → AllPairs (λ x y. x ≢ y) xs → AreDifferent xs
different-from_pairs [] h = tt
different-from_pairs (x ∷ xs) h = (apart-from_each x xs (λ j d lt. h zero (suc j) d (omega arith) (omega arith)), different-from_pairs xs (λ i j d a b. h (suc i) (suc j) d (omega arith) (omega arith)))

roots-from_all : (p xs : List ℕ) → All (λ x. value_at p x ≡ 0) xs → AreRoots p xs
roots-from_all p [] h = tt
roots-from_all p (x ∷ xs) h = (h zero 0 (omega arith), roots-from_all p xs (λ k d lt. h (suc k) d (omega arith)))

pub root_count : (p xs : List ℕ) → length p ≤ length xs → IsBytes p → IsBytes xs → AllPairs (λ x y. x ≢ y) xs → All (λ x. value_at p x ≡ 0) xs → All (λ c. c ≡ 0) p
root_count p xs h hp hx d r = all-from_zero p (zero-from_roots xs p h (bytes-from_all p hp) (bytes-from_all xs hx) (different-from_pairs xs d) (roots-from_all p xs r))
