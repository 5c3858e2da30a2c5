-- A message followed by its parity is a codeword, and no other that is as long begins with the message.
use Rattle.std.proofs.Common.{◌≡◌, ℕ, zero, suc, ◌+◌, ◌<◌, ◌≤◌, refl, ap, arith, sym, ◌∙◌, inl, inr, List, [], ◌∷◌, ◌++◌, length, length-append, replicate}
use Rattle.std.proofs.lemmas.Bool.Decides.{eqb_tells}
use Rattle.std.proofs.lemmas.Nat.{xor_comm}
use Rattle.std.specs.Prelude.{bit_xor}
use Rattle.std.specs.Int.Bits.{xor_self, xor_zero_r, xor_assoc}
use Rattle.gf_rs.specs.Field.{gf_mul, gf_pow}
use Rattle.gf_rs.specs.Codewords.{value_from, value_at, added, scaled, generator, remainder_from, parity_of, codeword_of, IsCodeword, IsBytes}
use Rattle.gf_rs.proofs.FieldLaws.{mul-xor_left, mul-xor_right, mul_comm, mul_assoc, mul_one, mul-lt, zero_mul, mul_zero, equal-from_xor, xor_lt_byte}
use Rattle.gf_rs.proofs.Roots.{AreBytes, first-value, all-from_bytes, bytes-from_all}
use Rattle.gf_rs.proofs.OneCodeword.{value_from-append, value_from-added, length-added, bytes-added, one_codeword}

-- a scaled polynomial has the scaled value
value-scaled : (x c v : ℕ) (xs : List ℕ) → value_from (gf_mul c v) (scaled c xs) x ≡ gf_mul c (value_from v xs x)
unfolding value_from
value-scaled x c v [] = refl
value-scaled x c v (b ∷ bs) =
    let step : bit_xor (gf_mul (gf_mul c v) x) (gf_mul c b) ≡ gf_mul c (bit_xor (gf_mul v x) b) = ap (λ z. bit_xor z (gf_mul c b)) (mul_assoc c v x) ∙ sym (mul-xor_right c (gf_mul v x) b) in
    ap (λ z. value_from z (scaled c bs) x) step ∙ value-scaled x c (bit_xor (gf_mul v x) b) bs

-- a number with so many zeros behind it
abbrev risen : ℕ → ℕ → ℕ → ℕ
risen n v x = value_from v (replicate n 0) x

added-zeros : (xs : List ℕ) → added xs (replicate (length xs) 0) ≡ xs
unfolding added
added-zeros [] = refl
added-zeros (x ∷ xs) = ap (λ z. z ∷ added xs (replicate (length xs) 0)) (xor_zero_r x) ∙ ap (λ zs. x ∷ zs) (added-zeros xs)

length-zeros : (n : ℕ) → length {A = ℕ} (replicate n 0) ≡ n
length-zeros zero = refl
length-zeros (suc n) = ap suc (length-zeros n)

-- what comes before a polynomial is risen by its length
value-split : (v : ℕ) (xs : List ℕ) (x : ℕ) → value_from v xs x ≡ bit_xor (value_at xs x) (risen (length xs) v x)
value-split v xs x = ap (λ zs. value_from v zs x) (sym (added-zeros xs)) ∙ value_from-added 0 v xs (replicate (length xs) 0) x (sym (length-zeros (length xs)))

risen-xor : (n a b x : ℕ) → risen n (bit_xor a b) x ≡ bit_xor (risen n a x) (risen n b x)
unfolding value_from
risen-xor zero a b x = refl
risen-xor (suc n) a b x =
    ap (λ z. value_from z (replicate n 0) x) (xor_zero_r (gf_mul (bit_xor a b) x) ∙ mul-xor_left a b x ∙ ap (λ z. bit_xor z (gf_mul b x)) (sym (xor_zero_r (gf_mul a x))) ∙ ap (λ z. bit_xor (bit_xor (gf_mul a x) 0) z) (sym (xor_zero_r (gf_mul b x))))
    ∙ risen-xor n (bit_xor (gf_mul a x) 0) (bit_xor (gf_mul b x) 0) x

risen-mul : (n v x : ℕ) → risen n (gf_mul v x) x ≡ gf_mul (risen n v x) x
unfolding value_from
risen-mul zero v x = refl
risen-mul (suc n) v x = ap (λ z. value_from (bit_xor (gf_mul z x) 0) (replicate n 0) x) (sym (xor_zero_r (gf_mul v x))) ∙ ap (λ z. value_from z (replicate n 0) x) (xor_zero_r (gf_mul (bit_xor (gf_mul v x) 0) x)) ∙ risen-mul n (bit_xor (gf_mul v x) 0) x

risen-suc : (n v x : ℕ) → risen (suc n) v x ≡ gf_mul (risen n v x) x
unfolding value_from
risen-suc n v x = ap (λ z. value_from z (replicate n 0) x) (xor_zero_r (gf_mul v x)) ∙ risen-mul n v x

bytes-scaled : (c : ℕ) (xs : List ℕ) → AreBytes (scaled c xs)
bytes-scaled c [] = tt
bytes-scaled c (x ∷ xs) = (mul-lt c x, bytes-scaled c xs)

bytes-append : (xs ys : List ℕ) → AreBytes xs → AreBytes ys → AreBytes (xs ++ ys)
bytes-append [] ys h k = k
bytes-append (x ∷ xs) ys h k = (h.0, bytes-append xs ys h.1 k)

length-scaled : (c : ℕ) (xs : List ℕ) → length (scaled c xs) ≡ length xs
length-scaled c [] = refl
length-scaled c (x ∷ xs) = ap suc (length-scaled c xs)

-- ---- the generator

length-generator : (r : ℕ) → length (generator r) ≡ r
unfolding generator
length-generator zero = refl
length-generator (suc r) = length-added (generator r ++ 0 ∷ []) (scaled (gf_pow 2 r) (1 ∷ generator r)) ∙ length-append (generator r) (0 ∷ []) ∙ (let e = length-generator r in omega arith)

one_zero : (v x : ℕ) → value_from v (0 ∷ []) x ≡ gf_mul v x
unfolding value_from
one_zero v x = xor_zero_r (gf_mul v x)

-- the next generator's value is the last one's times x - λ^r
generator-next : (r k : ℕ) → value_from 1 (generator (suc r)) (gf_pow 2 k) ≡ bit_xor (gf_mul (value_from 1 (generator r) (gf_pow 2 k)) (gf_pow 2 k)) (gf_mul (gf_pow 2 r) (value_from 1 (generator r) (gf_pow 2 k)))
unfolding generator
generator-next r k =
    let x = gf_pow 2 k in
    let g = generator r in
    let same : length (g ++ 0 ∷ []) ≡ length (scaled (gf_pow 2 r) (1 ∷ g)) = length-append g (0 ∷ []) ∙ (let e = length-scaled (gf_pow 2 r) (1 ∷ g) in omega arith) in
    ap (λ z. value_from z (added (g ++ 0 ∷ []) (scaled (gf_pow 2 r) (1 ∷ g))) x) (sym (xor_zero_r 1))
    ∙ value_from-added 1 0 (g ++ 0 ∷ []) (scaled (gf_pow 2 r) (1 ∷ g)) x same
    ∙ ap (λ z. bit_xor z (value_from 0 (scaled (gf_pow 2 r) (1 ∷ g)) x)) (value_from-append 1 g (0 ∷ []) x ∙ one_zero (value_from 1 g x) x)
    ∙ ap (λ z. bit_xor (gf_mul (value_from 1 g x) x) z)
    (ap (λ z. value_from z (scaled (gf_pow 2 r) (1 ∷ g)) x) (sym (mul_zero (gf_pow 2 r)))
    ∙ value-scaled x (gf_pow 2 r) 0 (1 ∷ g)
    ∙ ap (λ z. gf_mul (gf_pow 2 r) z) (first-value 1 g x))

-- the generator vanishes at the first r powers of 2
generator-root : (r k : ℕ) → k < r → value_from 1 (generator r) (gf_pow 2 k) ≡ 0
generator-root zero k h = absurd (omega arith)
generator-root (suc r) k h =
    let x = gf_pow 2 k in
    let c = gf_pow 2 r in
    let v = value_from 1 (generator r) x in
    generator-next r k ∙ elim (eqb_tells k r) [
      | inl same ↦ ap (λ z. bit_xor (gf_mul v (gf_pow 2 z)) (gf_mul c v)) same.1 ∙ ap (λ z. bit_xor z (gf_mul c v)) (mul_comm v c) ∙ xor_self (gf_mul c v)
      | inr other ↦ (let e = generator-root r k (omega arith) in
          ap (λ z. bit_xor (gf_mul z x) (gf_mul c z)) e ∙ ap (λ z. bit_xor z (gf_mul c 0)) (zero_mul x) ∙ mul_zero c)
    ]

-- ---- the remainder

-- a multiple of the generator without its leading number has the value of that number risen
multiple-value : (r k c : ℕ) → k < r → c < 256 → value_at (scaled c (generator r)) (gf_pow 2 k) ≡ risen r c (gf_pow 2 k)
multiple-value r k c h hc =
    let x = gf_pow 2 k in
    let g = generator r in
    let whole : value_from c (scaled c g) x ≡ 0 = ap (λ z. value_from z (scaled c g) x) (sym (mul_one c hc)) ∙ value-scaled x c 1 g ∙ ap (λ z. gf_mul c z) (generator-root r k h) ∙ mul_zero c in
    let size : length (scaled c g) ≡ r = length-scaled c g ∙ length-generator r in
    equal-from_xor (value_at (scaled c g) x) (risen r c x) (ap (λ n. bit_xor (value_at (scaled c g) x) (risen n c x)) (sym size) ∙ sym (value-split c (scaled c g) x) ∙ whole)

-- the remainder after a further byte
abbrev next_remainder : ℕ → ℕ → List ℕ → ℕ → List ℕ
next_remainder roots x xs b = added (xs ++ 0 ∷ []) (scaled (bit_xor b x) (generator roots))

length-next : (roots x : ℕ) (xs : List ℕ) (b : ℕ) → length (next_remainder roots x xs b) ≡ suc (length xs)
length-next roots x xs b = length-added (xs ++ 0 ∷ []) (scaled (bit_xor b x) (generator roots)) ∙ length-append xs (0 ∷ []) ∙ (omega arith)

-- the value of the remainder goes on as that of the bytes, risen
next-value : (n k x b v : ℕ) (xs : List ℕ) → k < suc n → length xs ≡ n → x < 256 → b < 256 → AreBytes xs →
    risen (suc n) v (gf_pow 2 k) ≡ value_at (x ∷ xs) (gf_pow 2 k) →
    risen (suc n) (bit_xor (gf_mul v (gf_pow 2 k)) b) (gf_pow 2 k) ≡ value_at (next_remainder (suc n) x xs b) (gf_pow 2 k)
next-value n k x b v xs h e hx hb hxs was =
    let a = gf_pow 2 k in
    let c = bit_xor b x in
    let g = generator (suc n) in
    let now : value_at (next_remainder (suc n) x xs b) a ≡ bit_xor (gf_mul (value_at xs a) a) (bit_xor (risen (suc n) b a) (risen (suc n) x a)) =
    value_from-added 0 0 (xs ++ 0 ∷ []) (scaled c g) a (length-append xs (0 ∷ []) ∙ (let s = length-scaled c g in let t = length-generator (suc n) in omega arith))
    ∙ ap (λ z. bit_xor z (value_at (scaled c g) a)) (value_from-append 0 xs (0 ∷ []) a ∙ one_zero (value_at xs a) a)
    ∙ ap (λ z. bit_xor (gf_mul (value_at xs a) a) z) (multiple-value (suc n) k c h (xor_lt_byte b x hb hx) ∙ risen-xor (suc n) b x a) in
    let before : gf_mul (value_at (x ∷ xs) a) a ≡ bit_xor (gf_mul (value_at xs a) a) (risen (suc n) x a) =
    ap (λ z. gf_mul z a) (first-value x xs a ∙ value-split x xs a ∙ ap (λ m. bit_xor (value_at xs a) (risen m x a)) e)
    ∙ mul-xor_left (value_at xs a) (risen n x a) a ∙ ap (λ z. bit_xor (gf_mul (value_at xs a) a) z) (sym (risen-suc n x a)) in
    risen-xor (suc n) (gf_mul v a) b a
    ∙ ap (λ z. bit_xor z (risen (suc n) b a)) (risen-mul (suc n) v a ∙ ap (λ z. gf_mul z a) was ∙ before)
    ∙ turned (gf_mul (value_at xs a) a) (risen (suc n) x a) (risen (suc n) b a)
    ∙ sym now
  where
    turned : (u w z : ℕ) → bit_xor (bit_xor u w) z ≡ bit_xor u (bit_xor z w)
    turned u w z = xor_assoc u w z ∙ ap (λ y. bit_xor u y) (xor_comm w z)

pub remainder-value : (n k v : ℕ) (r message : List ℕ) → k < suc n → length r ≡ suc n → AreBytes r → AreBytes message →
    risen (suc n) v (gf_pow 2 k) ≡ value_at r (gf_pow 2 k) →
    risen (suc n) (value_from v message (gf_pow 2 k)) (gf_pow 2 k) ≡ value_at (remainder_from (suc n) r message) (gf_pow 2 k)
unfolding remainder_from value_from
remainder-value n k v r [] h e hr hm was = was
remainder-value n k v [] (b ∷ bs) h e hr hm was = absurd (omega arith)
remainder-value n k v (x ∷ xs) (b ∷ bs) h e hr hm was =
    remainder-value n k (bit_xor (gf_mul v (gf_pow 2 k)) b) (next_remainder (suc n) x xs b) bs h (length-next (suc n) x xs b ∙ e)
    (bytes-added (xs ++ 0 ∷ []) (scaled (bit_xor b x) (generator (suc n))) (bytes-append xs (0 ∷ []) hr.1 (omega arith, tt)) (bytes-scaled (bit_xor b x) (generator (suc n))))
    hm.1 (next-value n k x b v xs h (omega arith) hr.0 hm.0 hr.1 was)

bytes-zeros : (n : ℕ) → AreBytes (replicate n 0)
bytes-zeros zero = tt
bytes-zeros (suc n) = (omega arith, bytes-zeros n)

length-remainder : (n : ℕ) (r message : List ℕ) → length r ≡ suc n → length (remainder_from (suc n) r message) ≡ suc n
unfolding remainder_from
length-remainder n r [] e = e
length-remainder n [] (b ∷ bs) e = absurd (omega arith)
length-remainder n (x ∷ xs) (b ∷ bs) e = length-remainder n (next_remainder (suc n) x xs b) bs (length-next (suc n) x xs b ∙ e)

bytes-remainder : (n : ℕ) (r message : List ℕ) → length r ≡ suc n → AreBytes r → AreBytes message → AreBytes (remainder_from (suc n) r message)
unfolding remainder_from
bytes-remainder n r [] e hr hm = hr
bytes-remainder n [] (b ∷ bs) e hr hm = absurd (omega arith)
bytes-remainder n (x ∷ xs) (b ∷ bs) e hr hm =
    bytes-remainder n (next_remainder (suc n) x xs b) bs (length-next (suc n) x xs b ∙ e)
    (bytes-added (xs ++ 0 ∷ []) (scaled (bit_xor b x) (generator (suc n))) (bytes-append xs (0 ∷ []) hr.1 (omega arith, tt)) (bytes-scaled (bit_xor b x) (generator (suc n)))) hm.1

pub length-parity : (n : ℕ) (message : List ℕ) → length (parity_of (suc n) message) ≡ suc n
unfolding parity_of
length-parity n message = length-remainder n (replicate (suc n) 0) message (length-zeros (suc n))

-- a message and its parity are a codeword
pub systematic : (n : ℕ) (message : List ℕ) → AreBytes message → IsCodeword (suc n) (codeword_of (suc n) message)
unfolding parity_of
systematic n message h = record { bytes = all-from_bytes (message ++ parity_of (suc n) message) (bytes-append message (parity_of (suc n) message) h (bytes-remainder n (replicate (suc n) 0) message (length-zeros (suc n)) (bytes-zeros (suc n)) h)); vanishes = vanishes }
  where
    vanishes : (k : ℕ) → k < suc n → value_at (message ++ parity_of (suc n) message) (gf_pow 2 k) ≡ 0
    vanishes k lt =
        let x = gf_pow 2 k in
        let p = parity_of (suc n) message in
        let v = value_from 0 message x in
        let same : risen (suc n) v x ≡ value_at p x = remainder-value n k 0 (replicate (suc n) 0) message lt (length-zeros (suc n)) (bytes-zeros (suc n)) h refl in
        value_from-append 0 message p x ∙ value-split v p x ∙ ap (λ m. bit_xor (value_at p x) (risen m v x)) (length-parity n message) ∙ ap (λ z. bit_xor (value_at p x) z) same ∙ xor_self (value_at p x)

-- a codeword that begins with the message is the one that the message and its parity make
pub codeword_of-only : (n : ℕ) (message tail : List ℕ) → suc n ≤ 255 → AreBytes message → length tail ≡ suc n → IsCodeword (suc n) (message ++ tail) → message ++ tail ≡ codeword_of (suc n) message
codeword_of-only n message tail few h size code = ap (λ t. message ++ t) (one_codeword (suc n) message tail (parity_of (suc n) message) few size (length-parity n message) code (systematic n message h))

-- the same, for any count of roots but 0, in the words of the clauses
pub codeword-only : (r : ℕ) (message tail : List ℕ) → 0 < r → r ≤ 255 → IsBytes message → length tail ≡ r → IsCodeword r (message ++ tail) → message ++ tail ≡ codeword_of r message
codeword-only zero message tail p few h size code = absurd (omega arith)
codeword-only (suc n) message tail p few h size code = codeword_of-only n message tail few (bytes-from_all message h) size code

pub codeword-is : (r : ℕ) (message : List ℕ) → 0 < r → IsBytes message → IsCodeword r (codeword_of r message)
codeword-is zero message p h = absurd (omega arith)
codeword-is (suc n) message p h = systematic n message (bytes-from_all message h)

pub codeword-length : (r : ℕ) (message : List ℕ) → 0 < r → length (codeword_of r message) ≡ length message + r
codeword-length zero message p = absurd (omega arith)
codeword-length (suc n) message p = length-append message (parity_of (suc n) message) ∙ ap (λ k. length message + k) (length-parity n message)
