-- The rows of the table of generators, by one test.
use Rattle.std.proofs.Common.{◌≡◌, ℕ, zero, suc, ◌+◌, ◌-◌, ◌*◌, ◌/◌, ◌%◌, ◌<◌, ◌≤◌, refl, ap, Bool, true, List, [], ◌∷◌, length, get_or, take, arith, sym, ◌∙◌, subst}
use Rattle.std.specs.Prelude.{◌==◌, ◌&&◌, nat_lt, bit_xor}
use Rattle.std.proofs.lemmas.Bool.{eqb-true, ltb-true}
use Rattle.gf_rs.specs.declared.tables.TheConstants.{POWERS}
use Rattle.gf_rs.specs.declared.generator.TheConstants.{GENERATORS}
use Rattle.gf_rs.specs.Field.{gf_mul, gf_pow, reduced, polynomial_product}
use Rattle.gf_rs.specs.Codewords.{value_at, value_from}
use Rattle.gf_rs.specs.Polynomials.{value_to}
use Rattle.gf_rs.proofs.FieldTests.{each_below, at_each, both}
use Rattle.gf_rs.proofs.TableLaws.{power_is}
use Rattle.gf_rs.proofs.Steps.{value-entries}
use Rattle.std.proofs.Math.Seq.{take-length}

abbrev pub powers_of : List ℕ → List ℕ
powers_of [] = []
powers_of (e ∷ es) = get_or POWERS e 0 ∷ powers_of es

abbrev are_exponents : List ℕ → Bool
are_exponents [] = true
are_exponents (e ∷ es) = nat_lt e 255 && are_exponents es

abbrev has_roots : ℕ → List ℕ → Bool
has_roots r coefficients = (length coefficients == r) && each_below r (λ i. value_at coefficients (gf_pow 2 i) == gf_pow (gf_pow 2 i) r)

abbrev passes : ℕ → List ℕ → Bool
passes r row = are_exponents row && has_roots r (powers_of row)

-- the generator polynomial's row for so many roots
abbrev pub row_of : ℕ → List ℕ
row_of r = take r (get_or GENERATORS (r / 2 - 1) [])

rows_test : each_below 16 (λ h. passes (2 * (h + 1)) (row_of (2 * (h + 1)))) ≡ true
unfolding gf_pow gf_mul reduced polynomial_product value_from
rows_test = refl

row_passes : (r : ℕ) → r % 2 ≡ 0 → 2 ≤ r → r ≤ 32 → passes r (row_of r) ≡ true
row_passes r e a b =
    let whole : 2 * (r / 2 - 1 + 1) ≡ r = omega arith in
    subst (λ k. passes k (row_of k) ≡ true) whole (at_each 16 (λ h. passes (2 * (h + 1)) (row_of (2 * (h + 1)))) (r / 2 - 1) rows_test (omega arith))

exponent-lt : (row : List ℕ) (k : ℕ) → are_exponents row ≡ true → k < length row → get_or row k 0 < 255
exponent-lt [] k t h = absurd (omega arith)
exponent-lt (e ∷ es) zero t h = ltb-true _ _ (both (nat_lt e 255) (are_exponents es) t).0
exponent-lt (e ∷ es) (suc k) t h = exponent-lt es k (both (nat_lt e 255) (are_exponents es) t).1 (omega arith)

pub length-powers_of : (row : List ℕ) → length (powers_of row) ≡ length row
length-powers_of [] = refl
length-powers_of (e ∷ es) = ap suc (length-powers_of es)

power-at : (row : List ℕ) (k : ℕ) → are_exponents row ≡ true → k < length row → get_or (powers_of row) k 0 ≡ gf_pow 2 (get_or row k 0)
power-at [] k t h = absurd (omega arith)
power-at (e ∷ es) zero t h = power_is e (let l : e < 255 = ltb-true _ _ (both (nat_lt e 255) (are_exponents es) t).0 in omega arith)
power-at (e ∷ es) (suc k) t h = power-at es k (both (nat_lt e 255) (are_exponents es) t).1 (omega arith)

pub value_to-cong : (c e : ℕ → ℕ) (d v : ℕ) → ((j : ℕ) → j ≤ d → c j ≡ e j) → value_to c d v ≡ value_to e d v
unfolding value_to
value_to-cong c e zero v h = h 0 (omega arith)
value_to-cong c e (suc d) v h = ap (λ z. bit_xor (gf_mul z v) (c (suc d))) (value_to-cong c e d v (λ j k. h j (omega arith))) ∙ ap (bit_xor (gf_mul (value_to e d v) v)) (h (suc d) (omega arith))

pub generator-length : (r : ℕ) → r % 2 ≡ 0 → 2 ≤ r → r ≤ 32 → length (row_of r) ≡ r
generator-length r e a b =
    let row = row_of r in
    let t = both (are_exponents row) (has_roots r (powers_of row)) (row_passes r e a b) in
    let n = both (length (powers_of row) == r) (each_below r (λ i. value_at (powers_of row) (gf_pow 2 i) == gf_pow (gf_pow 2 i) r)) t.1 in
    sym (length-powers_of row) ∙ eqb-true _ _ n.0

pub generator_exponents : (r k : ℕ) → r % 2 ≡ 0 → 2 ≤ r → r ≤ 32 → k < r → get_or (row_of r) k 0 < 255
generator_exponents r k e a b h =
    let row = row_of r in
    let t = both (are_exponents row) (has_roots r (powers_of row)) (row_passes r e a b) in
    let n = both (length (powers_of row) == r) (each_below r (λ i. value_at (powers_of row) (gf_pow 2 i) == gf_pow (gf_pow 2 i) r)) t.1 in
    let size : length row ≡ r = sym (length-powers_of row) ∙ eqb-true _ _ n.0 in
    exponent-lt row k t.0 (omega arith)

pub generator_roots : (r i : ℕ) → r % 2 ≡ 0 → 2 ≤ r → r ≤ 32 → i < r →
    value_to (λ j. gf_pow 2 (get_or (row_of r) j 0)) (r - 1) (gf_pow 2 i) ≡ gf_pow (gf_pow 2 i) r
generator_roots r i e a b h =
    let row = row_of r in
    let t = both (are_exponents row) (has_roots r (powers_of row)) (row_passes r e a b) in
    let n = both (length (powers_of row) == r) (each_below r (λ i. value_at (powers_of row) (gf_pow 2 i) == gf_pow (gf_pow 2 i) r)) t.1 in
    let size : length (powers_of row) ≡ r = eqb-true _ _ n.0 in
    let same : length row ≡ r = sym (length-powers_of row) ∙ size in
    let all : take (r - 1 + 1) (powers_of row) ≡ powers_of row = ap (λ k. take k (powers_of row)) (let e : r - 1 + 1 ≡ length (powers_of row) = omega arith in e) ∙ take-length (powers_of row) in
    sym (value_to-cong (λ j. get_or (powers_of row) j 0) (λ j. gf_pow 2 (get_or row j 0)) (r - 1) (gf_pow 2 i) (λ j k. power-at row j t.0 (omega arith)))
    ∙ sym (value-entries (powers_of row) (r - 1) (gf_pow 2 i) (omega arith))
    ∙ ap (λ l. value_at l (gf_pow 2 i)) all
    ∙ eqb-true _ _ (at_each r (λ i. value_at (powers_of row) (gf_pow 2 i) == gf_pow (gf_pow 2 i) r) i n.1 h)

-- the coefficients of a generator polynomial
pub coefficient_is : (r k : ℕ) → r % 2 ≡ 0 → 2 ≤ r → r ≤ 32 → k < r → get_or (powers_of (row_of r)) k 0 ≡ gf_pow 2 (get_or (row_of r) k 0)
coefficient_is r k e a b h =
    let row = row_of r in
    let t = both (are_exponents row) (has_roots r (powers_of row)) (row_passes r e a b) in
    power-at row k t.0 (let size = generator-length r e a b in omega (arith, size, h))
