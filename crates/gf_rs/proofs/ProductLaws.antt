-- The table of products for 16 roots, by one test, and the register in one number.
use Rattle.std.proofs.Common.{◌≡◌, ℕ, zero, suc, ◌+◌, ◌*◌, ◌/◌, ◌%◌, ◌^◌, ◌<◌, refl, ap, Bool, true, List, [], ◌∷◌, length, get_or, map, arith, sym, ◌∙◌, inl, inr}
use Rattle.std.specs.Prelude.{◌==◌, ◌&&◌, bit_xor}
use Rattle.std.specs.List.{range_with_len}
use Rattle.std.proofs.Math.Nat.{div-div-eq-div-mul, zero-div}
use Rattle.std.proofs.lemmas.Nat.{pow-add, xor_shr, xor_mod}
use Rattle.std.proofs.lemmas.Bool.{eqb-true, cases_lt}
use Rattle.std.proofs.lemmas.List.{get_or_past}
use Rattle.std.proofs.lemmas.List.FromFn.{length-map-range_with_len, get_or-map-range_with_len}
use Rattle.gf_rs.specs.declared.products.TheConstants.{PRODUCTS}
use Rattle.gf_rs.specs.Field.{gf_mul, gf_pow, reduced, polynomial_product}
use Rattle.gf_rs.specs.Polynomials.{value_to, byte_of}
use Rattle.gf_rs.proofs.FieldTests.{both}
use Rattle.gf_rs.proofs.Generators.{powers_of, length-powers_of, row_of, generator-length, generator_roots, coefficient_is, value_to-cong}
use Rattle.gf_rs.proofs.Steps.{register-next, value_to-zeros}

-- the bytes of a number are the products of a byte and some coefficients
abbrev has_products : ℕ → List ℕ → ℕ → Bool
has_products f [] n = true
has_products f (c ∷ cs) n = n % 2 ^ 8 == gf_mul f c && has_products f cs (n / 2 ^ 8)

abbrev all_products : ℕ → List ℕ → Bool
all_products f [] = true
all_products f (n ∷ ns) = has_products f (powers_of (row_of 16)) n && all_products (suc f) ns

products_test : all_products 0 PRODUCTS ≡ true
unfolding gf_mul reduced polynomial_product
products_test = refl

byte_of-next : (n k : ℕ) → byte_of (n / 2 ^ 8) k ≡ byte_of n (k + 1)
byte_of-next n k =
    ap (λ m. m % 2 ^ 8) (div-div-eq-div-mul n (2 ^ 8) (2 ^ (8 * k)) ∙ ap (λ p. n / p) (sym (pow-add 2 8 (8 * k)) ∙ ap (λ e. 2 ^ e) (let e : 8 + 8 * k ≡ 8 * (k + 1) = omega arith in e)))

byte_of-first : (n : ℕ) → byte_of n 0 ≡ n % 2 ^ 8
byte_of-first n = ap (λ m. m % 2 ^ 8) (omega arith)

product-byte : (f : ℕ) (cs : List ℕ) (n k : ℕ) → has_products f cs n ≡ true → k < length cs → byte_of n k ≡ gf_mul f (get_or cs k 0)
product-byte f [] n k t h = absurd (omega arith)
product-byte f (c ∷ cs) n zero t h = byte_of-first n ∙ eqb-true _ _ (both (n % 2 ^ 8 == gf_mul f c) (has_products f cs (n / 2 ^ 8)) t).0
product-byte f (c ∷ cs) n (suc k) t h =
    let up : k + 1 ≡ suc k = omega arith in
    ap (byte_of n) (sym up) ∙ sym (byte_of-next n k) ∙ product-byte f cs (n / 2 ^ 8) k (both (n % 2 ^ 8 == gf_mul f c) (has_products f cs (n / 2 ^ 8)) t).1 (omega arith)

products-at : (f : ℕ) (ns : List ℕ) (j k : ℕ) → all_products f ns ≡ true → j < length ns → k < 16 → byte_of (get_or ns j 0) k ≡ gf_mul (f + j) (get_or (powers_of (row_of 16)) k 0)
products-at f [] j k t h inside = absurd (omega arith)
products-at f (n ∷ ns) zero k t h inside =
    let size : length (powers_of (row_of 16)) ≡ 16 = length-powers_of (row_of 16) ∙ generator-length 16 refl (omega arith) (omega arith) in
    product-byte f (powers_of (row_of 16)) n k (both (has_products f (powers_of (row_of 16)) n) (all_products (suc f) ns) t).0 (omega (arith, size, inside))
    ∙ ap (λ a. gf_mul a (get_or (powers_of (row_of 16)) k 0)) (let e : f ≡ f + 0 = omega arith in e)
products-at f (n ∷ ns) (suc j) k t h inside =
    products-at (suc f) ns j k (both (has_products f (powers_of (row_of 16)) n) (all_products (suc f) ns) t).1 (omega arith) inside
    ∙ ap (λ a. gf_mul a (get_or (powers_of (row_of 16)) k 0)) (let e : suc f + j ≡ f + suc j = omega arith in e)

-- byte k of the products of a byte
pub products_is : (f k : ℕ) → f < 256 → k < 16 → byte_of (get_or PRODUCTS f 0) k ≡ gf_mul f (gf_pow 2 (get_or (row_of 16) k 0))
products_is f k h inside =
    products-at 0 PRODUCTS f k products_test h inside ∙ ap (λ a. gf_mul a (get_or (powers_of (row_of 16)) k 0)) (let e : 0 + f ≡ f = omega arith in e) ∙ ap (gf_mul f) (coefficient_is 16 k refl (omega arith) (omega arith) inside)

-- ---- the register

-- the sixteen bytes of the register
unfoldable pub register_of : ℕ → List ℕ
register_of n = map (byte_of n) (range_with_len 0 16)

length-register : (n : ℕ) → length (register_of n) ≡ 16
unfolding register_of
length-register n = length-map-range_with_len (byte_of n) 0 16

get_or-register : (n k : ℕ) → k < 16 → get_or (register_of n) k 0 ≡ byte_of n k
unfolding register_of
get_or-register n k h = get_or-map-range_with_len (byte_of n) 0 16 k k 0 h (omega arith)

-- a byte more, or the zero behind the last
get_or-behind : (n k : ℕ) → n < 2 ^ 128 → k < 16 → byte_of (n / 2 ^ 8) k ≡ get_or (register_of n) (k + 1) 0
get_or-behind n k few h =
    elim (cases_lt (k + 1) 16) [
      | inl inside ↦ byte_of-next n k ∙ sym (get_or-register n (k + 1) inside)
      | inr last ↦
          let at : k ≡ 15 = omega (arith, h, last) in
          let size = length-register n in
          ap (byte_of (n / 2 ^ 8)) at ∙ (let z : n / 2 ^ 8 / 2 ^ 120 % 2 ^ 8 ≡ 0 = omega arith in z) ∙ sym (get_or_past (register_of n) (k + 1) 0 (omega (arith, size, last)))
    ]

pub register-zero : (v : ℕ) → value_to (byte_of 0) 15 v ≡ 0
register-zero v = value_to-zeros (byte_of 0) 15 v (λ j. ap (λ n. n % 2 ^ 8) (zero-div (2 ^ (8 * j))))

-- the register after a byte more
pub register-more : (old new b p v i : ℕ) → old < 2 ^ 128 → b < 256 → i < 16 → v ≡ gf_pow 2 i
    → new ≡ bit_xor (old / 2 ^ 8) (get_or PRODUCTS (bit_xor b (old % 2 ^ 8)) 0) → bit_xor b (old % 2 ^ 8) < 256
    → value_to (byte_of old) 15 v ≡ gf_mul p (gf_pow v 16) → value_to (byte_of new) 15 v ≡ gf_mul (bit_xor (gf_mul p v) b) (gf_pow v 16)
register-more old new b p v i few small root at is factor before =
    let f = bit_xor b (old % 2 ^ 8) in
    let row = row_of 16 in
    let first : f ≡ bit_xor b (get_or (register_of old) 0 0) = ap (bit_xor b) (sym (get_or-register old 0 (omega arith) ∙ byte_of-first old)) in
    let size = length-register old in
    let step : (k : ℕ) → k < length (register_of old) → get_or (register_of new) k 0 ≡ bit_xor (get_or (register_of old) (k + 1) 0) (gf_mul (bit_xor b (get_or (register_of old) 0 0)) (gf_pow 2 (get_or row k 0))) =
    λ k h. (let inside : k < 16 = omega (arith, size, h) in
    get_or-register new k inside
    ∙ ap (λ n. byte_of n k) is
    ∙ ap (λ n. n % 2 ^ 8) (xor_shr (old / 2 ^ 8) (get_or PRODUCTS f 0) (8 * k))
    ∙ xor_mod (old / 2 ^ 8 / 2 ^ (8 * k)) (get_or PRODUCTS f 0 / 2 ^ (8 * k)) 8
    ∙ ap (λ x. bit_xor x (byte_of (get_or PRODUCTS f 0) k)) (get_or-behind old k few inside)
    ∙ ap (bit_xor (get_or (register_of old) (k + 1) 0)) (products_is f k factor inside ∙ ap (λ a. gf_mul a (gf_pow 2 (get_or row k 0))) first)) in
    value_to-cong (byte_of new) (λ j. get_or (register_of new) j 0) 15 v (λ j h. sym (get_or-register new j (omega (arith, h))))
    ∙ register-next (register_of old) (register_of new) row 16 b p v (omega arith) size step
    (ap (λ x. value_to (λ j. gf_pow 2 (get_or row j 0)) 15 x) at ∙ generator_roots 16 i refl (omega arith) (omega arith) root ∙ ap (λ x. gf_pow x 16) (sym at))
    (value_to-cong (λ j. get_or (register_of old) j 0) (byte_of old) 15 v (λ j h. get_or-register old j (omega (arith, h))) ∙ before)
