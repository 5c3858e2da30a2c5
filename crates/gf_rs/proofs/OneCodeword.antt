-- Two codewords that begin with one message are one.
use Rattle.std.proofs.Common.{◌≡◌, ℕ, zero, suc, ◌-◌, ◌<◌, ◌≤◌, refl, ap, arith, sym, ◌∙◌, List, [], ◌∷◌, ◌++◌, length, get_or, take, drop, length-drop}
use Rattle.std.specs.Prelude.{bit_xor, All}
use Rattle.std.specs.Int.Bits.{xor_self, xor_zero_l}
use Rattle.std.proofs.lemmas.List.{ext_get_or, take-append-drop}
use Rattle.std.proofs.Math.Seq.{take-length}
use Rattle.gf_rs.specs.Field.{gf_mul, gf_pow}
use Rattle.gf_rs.specs.Codewords.{value_from, value_at, added, IsCodeword, IsBytes}
use Rattle.gf_rs.proofs.FieldLaws.{mul-xor_left, xor_four, equal-from_xor, zero_mul, xor_lt_byte}
use Rattle.gf_rs.proofs.Roots.{AreBytes, AreZero, zero-from_powers, bytes-from_all, all-from_zero, zero-from_all}

pub value_from-append : (a : ℕ) (xs ys : List ℕ) (x : ℕ) → value_from a (xs ++ ys) x ≡ value_from (value_from a xs x) ys x
unfolding value_from
value_from-append a [] ys x = refl
value_from-append a (b ∷ bs) ys x = value_from-append (bit_xor (gf_mul a x) b) bs ys x

-- the value of a sum is the sum of the values
pub value_from-added : (a c : ℕ) (xs ys : List ℕ) (x : ℕ) → length xs ≡ length ys → value_from (bit_xor a c) (added xs ys) x ≡ bit_xor (value_from a xs x) (value_from c ys x)
unfolding value_from added
value_from-added a c [] [] x e = refl
value_from-added a c [] (d ∷ ds) x e = absurd (omega arith)
value_from-added a c (b ∷ bs) [] x e = absurd (omega arith)
value_from-added a c (b ∷ bs) (d ∷ ds) x e =
    ap (λ z. value_from z (added bs ds) x) (ap (λ z. bit_xor z (bit_xor b d)) (mul-xor_left a c x) ∙ xor_four (gf_mul a x) (gf_mul c x) b d)
    ∙ value_from-added (bit_xor (gf_mul a x) b) (bit_xor (gf_mul c x) d) bs ds x (omega arith)

pub length-added : (xs ys : List ℕ) → length (added xs ys) ≡ length xs
unfolding added
length-added [] ys = refl
length-added (x ∷ xs) [] = refl
length-added (x ∷ xs) (y ∷ ys) = ap suc (length-added xs ys)

pub bytes-added : (xs ys : List ℕ) → AreBytes xs → AreBytes ys → AreBytes (added xs ys)
unfolding added
bytes-added [] ys h k = tt
bytes-added (x ∷ xs) [] h k = h
bytes-added (x ∷ xs) (y ∷ ys) h k = (xor_lt_byte x y h.0 k.0, bytes-added xs ys h.1 k.1)

added-at : (xs ys : List ℕ) (k : ℕ) → length ys ≡ length xs → get_or (added xs ys) k 0 ≡ bit_xor (get_or xs k 0) (get_or ys k 0)
unfolding added
added-at [] [] k e = refl
added-at [] (y ∷ ys) k e = absurd (omega arith)
added-at (x ∷ xs) [] k e = absurd (omega arith)
added-at (x ∷ xs) (y ∷ ys) zero e = refl
added-at (x ∷ xs) (y ∷ ys) (suc k) e = added-at xs ys k (omega arith)

-- a list that has the sum at each place
pub added-is : (new xs ys : List ℕ) → length new ≡ length xs → length ys ≡ length xs → ((k : ℕ) → k < length xs → get_or new k 0 ≡ bit_xor (get_or xs k 0) (get_or ys k 0)) → new ≡ added xs ys
added-is new xs ys e f h =
    let size = length-added xs ys in
    ext_get_or 0 new (added xs ys) (omega arith) (λ k lt. h k (omega arith) ∙ sym (added-at xs ys k f))

equal-from_zero : (xs ys : List ℕ) → length xs ≡ length ys → AreZero (added xs ys) → xs ≡ ys
unfolding added
equal-from_zero [] [] e z = refl
equal-from_zero [] (y ∷ ys) e z = absurd (omega arith)
equal-from_zero (x ∷ xs) [] e z = absurd (omega arith)
equal-from_zero (x ∷ xs) (y ∷ ys) e z = let p = equal-from_xor x y z.0 in let q = equal-from_zero xs ys (omega arith) z.1 in cc

bytes-end : (xs ys : List ℕ) → AreBytes (xs ++ ys) → AreBytes ys
bytes-end [] ys h = h
bytes-end (x ∷ xs) ys h = bytes-end xs ys h.1

-- the sum of two tails behind one message vanishes where both codewords do
tails-vanish : (roots : ℕ) (message p q : List ℕ) → length p ≡ length q → IsCodeword roots (message ++ p) → IsCodeword roots (message ++ q) →
    (i : ℕ) → i < roots → value_at (added p q) (gf_pow 2 i) ≡ 0
tails-vanish roots message p q e cp cq i h =
    let x = gf_pow 2 i in
    let v = value_from 0 message x in
    ap (λ z. value_from z (added p q) x) (sym (xor_self v))
    ∙ value_from-added v v p q x e
    ∙ ap (λ z. bit_xor z (value_from v q x)) (sym (value_from-append 0 message p x) ∙ cp.vanishes i h)
    ∙ ap (bit_xor 0) (sym (value_from-append 0 message q x) ∙ cq.vanishes i h)

pub one_codeword : (roots : ℕ) (message p q : List ℕ) → roots ≤ 255 → length p ≡ roots → length q ≡ roots → IsCodeword roots (message ++ p) → IsCodeword roots (message ++ q) → p ≡ q
one_codeword roots message p q few ep eq cp cq =
    equal-from_zero p q (ep ∙ sym eq)
    (zero-from_powers roots (added p q) (let e = length-added p q in omega arith) few
    (bytes-added p q (bytes-end message p (bytes-from_all (message ++ p) cp.bytes)) (bytes-end message q (bytes-from_all (message ++ q) cq.bytes)))
    (tails-vanish roots message p q (ep ∙ sym eq) cp cq))

-- what the end of a word differs by from the bytes that make its beginning a codeword has the word's values at the roots
pub remainder-value : (roots n : ℕ) (word parity : List ℕ) → length (drop n word) ≡ length parity → IsCodeword roots (take n word ++ parity) →
    (i : ℕ) → i < roots → value_at (added parity (drop n word)) (gf_pow 2 i) ≡ value_at word (gf_pow 2 i)
remainder-value roots n word parity e code i h =
    let x = gf_pow 2 i in
    let front = take n word in
    let tail = drop n word in
    let v = value_at front x in
    ap (λ z. value_from z (added parity tail) x) (sym (xor_self v))
    ∙ value_from-added v v parity tail x (sym e)
    ∙ ap (λ z. bit_xor z (value_from v tail x)) (sym (value_from-append 0 front parity x) ∙ code.vanishes i h)
    ∙ xor_zero_l (value_from v tail x)
    ∙ sym (value_from-append 0 front tail x)
    ∙ ap (λ w. value_at w x) (take-append-drop n word)

pub rest-of : (n : ℕ) (word : List ℕ) → take (length word - n) (drop n word) ≡ drop n word
rest-of n word = ap (λ k. take k (drop n word)) (sym (length-drop n word)) ∙ take-length (drop n word)

value-zeros : (xs : List ℕ) (x : ℕ) → AreZero xs → value_at xs x ≡ 0
unfolding value_from
value-zeros [] x z = refl
value-zeros (b ∷ bs) x z = ap (λ k. value_from (bit_xor (gf_mul 0 x) k) bs x) z.0 ∙ ap (λ k. value_from (bit_xor k 0) bs x) (zero_mul x) ∙ value-zeros bs x z.1

-- a word whose remainder is zero is a codeword
pub codeword-from_zeros : (roots : ℕ) (word rest : List ℕ) → IsBytes word → ((i : ℕ) → i < roots → value_at rest (gf_pow 2 i) ≡ value_at word (gf_pow 2 i)) → All (λ b. b ≡ 0) rest → IsCodeword roots word
codeword-from_zeros roots word rest bytes values z = record {
  bytes = bytes;
  vanishes = λ i h. sym (values i h) ∙ value-zeros rest (gf_pow 2 i) (zero-from_all rest z);
}

-- the remainder of a codeword is zero, since it has no more coefficients than roots
pub zeros-from_codeword : (roots : ℕ) (word rest : List ℕ) → length rest ≤ roots → roots ≤ 255 → IsBytes rest → ((i : ℕ) → i < roots → value_at rest (gf_pow 2 i) ≡ value_at word (gf_pow 2 i)) →
    IsCodeword roots word → All (λ b. b ≡ 0) rest
zeros-from_codeword roots word rest short few bytes values code =
    all-from_zero rest (zero-from_powers roots rest short few (bytes-from_all rest bytes) (λ i h. values i h ∙ code.vanishes i h))
