-- Why a corrected word is the codeword near it.
use Rattle.std.proofs.Common.{◌≡◌, ◌≢◌, ℕ, zero, suc, ◌+◌, ◌-◌, ◌<◌, ◌≤◌, refl, ap, cond, List, [], ◌∷◌, length, get_or, arith, inl, inr, sym, ◌∙◌, subst, ◌⊎◌}
use Rattle.std.specs.Prelude.{bit_xor}
use Rattle.std.specs.Int.Bits.{xor_assoc, xor_self, xor_zero_r}
use Rattle.std.proofs.lemmas.Bool.Decides.{eqb_tells}
use Rattle.gf_rs.specs.Field.{gf_mul, gf_pow}
use Rattle.gf_rs.specs.Codewords.{value_at, differing, IsBytes, IsCodeword, IsNear}
use Rattle.gf_rs.specs.Polynomials.{along, value_to, IsBerlekampMassey, IsErrorValue}
use Rattle.gf_rs.proofs.FieldLaws.{mul_comm, mul_one, mul-lt, zero_mul, mul_zero, equal-from_xor, positive}
use Rattle.gf_rs.proofs.TableLaws.{mul-eq-zero, mul_cancel, inverse_of}
use Rattle.gf_rs.proofs.Sums.{power_sum, FallsFrom, Holds, along-powers, value_to-lt, quotient-root, few_roots}
use Rattle.gf_rs.proofs.Words.{weighty, weighty-falls, Holds-weighty, difference, difference-lt, errors, values-differ, differing-count, coefficient, coefficient-first, coefficient-below}
use Rattle.gf_rs.proofs.Steps.{value_to-first}
use Rattle.gf_rs.proofs.LocatorLaws.{along-cong, not_long, roots_found}

-- a sum of powers over what is 0 wherever the weight isn't
none : (n i : ℕ) (w f : ℕ → ℕ) → ((q : ℕ) → q < n → w q ≢ 0 → f q ≡ 0) → power_sum f (weighty n w) i ≡ 0
unfolding power_sum weighty
none zero i w f h = refl
none (suc n) i w f h =
    let rest : power_sum f (weighty n w) i ≡ 0 = none n i w f (λ q k. h q (omega arith)) in
    elim (eqb_tells (w n) 0) [
      | inl e ↦ ap (λ t. power_sum f (cond t (weighty n w) (n ∷ weighty n w)) i) e.0 ∙ rest
      | inr e ↦ ap (λ t. power_sum f (cond t (weighty n w) (n ∷ weighty n w)) i) e.0
          ∙ ap (λ x. bit_xor (gf_mul x (gf_pow (gf_pow 2 n) i)) (power_sum f (weighty n w) i)) (h n (omega arith) e.1)
          ∙ ap (λ x. bit_xor x (power_sum f (weighty n w) i)) (zero_mul (gf_pow (gf_pow 2 n) i)) ∙ rest
    ]

-- a sum over what is 0 but at one place
single : (n p : ℕ) (w f : ℕ → ℕ) → ((q : ℕ) → q < n → q ≢ p → w q ≢ 0 → f q ≡ 0) → (w p ≡ 0 → f p ≡ 0) → f p < 256 → p < n → power_sum f (weighty n w) 0 ≡ f p
unfolding power_sum weighty gf_pow
single zero p w f h z l k = absurd (omega arith)
single (suc n) p w f h z l k =
    elim (eqb_tells p n) [
      | inl s ↦ (let rest : power_sum f (weighty n w) 0 ≡ 0 = none n 0 w f (λ q r. h q (omega arith) (λ e. absurd (omega arith))) in
          elim (eqb_tells (w n) 0) [
            | inl e ↦ ap (λ t. power_sum f (cond t (weighty n w) (n ∷ weighty n w)) 0) e.0 ∙ rest ∙ sym (z (ap w s.1 ∙ e.1))
            | inr e ↦ ap (λ t. power_sum f (cond t (weighty n w) (n ∷ weighty n w)) 0) e.0
                ∙ ap (bit_xor (gf_mul (f n) 1)) rest ∙ xor_zero_r (gf_mul (f n) 1) ∙ ap (λ q. gf_mul (f q) 1) (sym s.1) ∙ mul_one (f p) l
          ])
      | inr s ↦ (let rest : power_sum f (weighty n w) 0 ≡ f p = single n p w f (λ q r. h q (omega arith)) z l (omega arith) in
          elim (eqb_tells (w n) 0) [
            | inl e ↦ ap (λ t. power_sum f (cond t (weighty n w) (n ∷ weighty n w)) 0) e.0 ∙ rest
            | inr e ↦ ap (λ t. power_sum f (cond t (weighty n w) (n ∷ weighty n w)) 0) e.0
                ∙ ap (λ x. bit_xor (gf_mul x 1) (power_sum f (weighty n w) 0)) (h n (omega arith) (λ x. s.1 (sym x)) e.1)
                ∙ ap (λ x. bit_xor x (power_sum f (weighty n w) 0)) (zero_mul 1) ∙ rest
          ])
    ]

Holds-root : (c w : ℕ → ℕ) (d n : ℕ) (v : ℕ → ℕ) → ((k : ℕ) → c k < 256) → ((q : ℕ) → w q < 256) → Holds (λ q. gf_mul (w q) (v q) ≡ 0) (weighty n w) → ((q : ℕ) → v q < 256) → (q : ℕ) → q < n → w q ≢ 0 → v q ≡ 0
Holds-root c w d n v lc lw h lv q k m = mul-eq-zero (w q) (v q) (positive (w q) m) (lw q) (lv q) (Holds-weighty (λ q. gf_mul (w q) (v q) ≡ 0) n w q h k m)

Holds-all : (P : ℕ → Type 0) (n : ℕ) (w : ℕ → ℕ) → ((q : ℕ) → q < n → w q ≢ 0 → P q) → Holds P (weighty n w)
unfolding weighty
Holds-all P zero w h = tt
Holds-all P (suc n) w h =
    elim (eqb_tells (w n) 0) [
      | inl e ↦ subst (λ t. Holds P (cond t (weighty n w) (n ∷ weighty n w))) (sym e.0) (Holds-all P n w (λ q k. h q (omega arith)))
      | inr e ↦ subst (λ t. Holds P (cond t (weighty n w) (n ∷ weighty n w))) (sym e.0) (h n (omega arith) e.1, Holds-all P n w (λ q k. h q (omega arith)))
    ]

-- a recurrence with a root has a term
pub root_positive : (l : ℕ) (c : ℕ → ℕ) (x : ℕ) → c 0 ≡ 1 → value_to c l x ≡ 0 → 0 < l
root_positive zero c x f z = absurd (let e : c 0 ≡ 0 = sym (value_to-first c x) ∙ z in omega arith)
root_positive (suc l) c x f z = omega arith

-- what the correction at a root is
module _ (r l : ℕ) (c b s w : ℕ → ℕ) (n : ℕ) (p e : ℕ) where
  pub root_weight : IsBerlekampMassey r l c b s → ((m : ℕ) → m < r → s m ≡ power_sum w (weighty n w) m) → n ≤ 255 → ((q : ℕ) → w q < 256) → ((k : ℕ) → c k < 256) →
      length (weighty n w) + length (weighty n w) ≤ r → p < n → e < 256 →
      (value_to c l (gf_pow 2 p) ≡ 0 → IsErrorValue c s (l - 1) (gf_pow 2 p) e) →
      ((value_to c l (gf_pow 2 p) ≡ 0) × (e ≡ w p)) ⊎ ((value_to c l (gf_pow 2 p) ≢ 0) × (w p ≡ 0))
  root_weight h es small bytes lc room hp he div =
      elim (eqb_tells (value_to c l (gf_pow 2 p)) 0) [
        | inl z ↦ inl (z.1, is_weight z.1 (root_positive l c (gf_pow 2 p) h.first z.1))
        | inr z ↦ inr (z.1, not_weighty z.1)
      ]
    where
      falls : FallsFrom n (weighty n w)
      falls = weighty-falls n w

      le : l ≤ length (weighty n w)
      le = not_long r l c b s w (weighty n w) n h es small falls bytes

      root : (q : ℕ) → q < n → w q ≢ 0 → value_to c l (gf_pow 2 q) ≡ 0
      root = Holds-root c w l n (λ q. value_to c l (gf_pow 2 q)) lc bytes (roots_found r l c b s w (weighty n w) n h es small falls bytes (omega (arith, le))) (λ q. value_to-lt c l (gf_pow 2 q) lc)

      not_weighty : value_to c l (gf_pow 2 p) ≢ 0 → w p ≡ 0
      not_weighty z = elim (eqb_tells (w p) 0) [ inl y ↦ y.1 | inr y ↦ absurd (z (root p hp y.1)) ]

      is_weight : value_to c l (gf_pow 2 p) ≡ 0 → 0 < l → e ≡ w p
      is_weight z pos =
          let x = gf_pow 2 p in
          let same : l ≡ suc (l - 1) = omega arith in
          let cq = λ (k : ℕ). value_to c k x in
          let at = λ (q : ℕ). value_to cq (l - 1) (gf_pow 2 q) in
          let zp : value_to c (suc (l - 1)) x ≡ 0 = subst (λ k. value_to c k x ≡ 0) same z in
          let other : (q : ℕ) → q < n → q ≢ p → w q ≢ 0 → at q ≡ 0 =
          λ q k ne m. quotient-root c (l - 1) q p lc ne (omega arith) (omega arith) zp (subst (λ k. value_to c k (gf_pow 2 q) ≡ 0) same (root q k m)) in
          let lq : (k : ℕ) → cq k < 256 = λ k. value_to-lt c k x lc in
          let lat : (q : ℕ) → at q < 256 = λ q. value_to-lt cq (l - 1) (gf_pow 2 q) lq in
          let simple : at p ≢ 0 =
          λ zero_there.
          (let all : Holds (λ q. at q ≡ 0) (weighty n w) =
          Holds-all (λ q. at q ≡ 0) n w (λ q k m. elim (eqb_tells q p) [ inl y ↦ ap at y.1 ∙ zero_there | inr y ↦ other q k y.1 m ]) in
          let few : length (weighty n w) ≤ l - 1 = few_roots (l - 1) cq n (weighty n w) lq (λ f. absurd (let one : cq 0 ≡ 1 = value_to-first c x ∙ h.first in omega arith)) small falls all in
          absurd (omega (arith, le, few))) in
          let sum : along cq s (l - 1) 0 ≡ gf_mul (w p) (at p) =
          along-cong cq s (power_sum w (weighty n w)) (l - 1) 0 (λ m k. es m (omega arith))
          ∙ along-powers cq w (weighty n w) (l - 1) 0
          ∙ single n p w (λ q. gf_mul (w q) (at q)) (λ q k ne m. ap (gf_mul (w q)) (other q k ne m) ∙ mul_zero (w q)) (λ y. ap (λ v. gf_mul v (at p)) y ∙ zero_mul (at p)) (mul-lt (w p) (at p)) hp in
          let eq : gf_mul (at p) e ≡ gf_mul (at p) (w p) = div z simple ∙ sum ∙ mul_comm (w p) (at p) in
          sym (mul_cancel (at p) e (positive (at p) simple) (lat p) he) ∙ ap (gf_mul (inverse_of (at p))) eq ∙ mul_cancel (at p) (w p) (positive (at p) simple) (lat p) (bytes p)

-- the coefficient of a place
pub coefficient-place : (xs : List ℕ) (p : ℕ) → p < length xs → coefficient xs (length xs - 1 - p) ≡ get_or xs p 0
coefficient-place [] p h = absurd (omega arith)
coefficient-place (x ∷ xs) zero h = ap (coefficient (x ∷ xs)) (let e : suc (length xs) - 1 - 0 ≡ length xs = omega arith in e) ∙ coefficient-first x xs
coefficient-place (x ∷ xs) (suc p) h =
    ap (coefficient (x ∷ xs)) (let e : suc (length xs) - 1 - suc p ≡ length xs - 1 - p = omega arith in e)
    ∙ coefficient-below x xs (length xs - 1 - p) (omega arith) ∙ coefficient-place xs p (omega arith)

-- what is added to a byte gives the other
added_gives : (x y e : ℕ) → e ≡ bit_xor x y → bit_xor x e ≡ y
added_gives x y e h = ap (bit_xor x) h ∙ sym (xor_assoc x x y) ∙ ap (λ z. bit_xor z y) (xor_self x)

-- each place of the corrected word has the near codeword's byte
pub place_right : (roots l : ℕ) (c b : ℕ → ℕ) (terms word near : List ℕ) (place e : ℕ) →
    IsBerlekampMassey roots l c b (λ m. get_or terms m 0) → ((k : ℕ) → c k < 256) → ((i : ℕ) → i < roots → get_or terms i 0 ≡ value_at word (gf_pow 2 i)) →
    IsNear roots word near → IsBytes word → length word ≤ 255 → place < length word → e < 256 →
    (value_to c l (gf_pow 2 (length word - 1 - place)) ≡ 0 → IsErrorValue c (λ m. get_or terms m 0) (l - 1) (gf_pow 2 (length word - 1 - place)) e) →
    ((value_to c l (gf_pow 2 (length word - 1 - place)) ≡ 0) × (bit_xor (get_or word place 0) e ≡ get_or near place 0)) ⊎ ((value_to c l (gf_pow 2 (length word - 1 - place)) ≢ 0) × (get_or word place 0 ≡ get_or near place 0))
place_right roots l c b terms word near place e h lc ts isnear bytes small hp he div =
    let code : IsCodeword roots near = isnear.codeword in
    let size : length near ≡ length word = isnear.size in
    let q = length word - 1 - place in
    let count : differing word near ≡ length (errors word near) = differing-count word near size in
    let close : differing word near + differing word near ≤ roots = isnear.close in
    let sums : (m : ℕ) → m < roots → get_or terms m 0 ≡ power_sum (difference word near) (errors word near) m =
    λ m k. ts m k ∙ sym (xor_zero_r (value_at word (gf_pow 2 m))) ∙ ap (bit_xor (value_at word (gf_pow 2 m))) (sym (code.vanishes m k)) ∙ values-differ word near m size bytes code.bytes in
    let here : coefficient word q ≡ get_or word place 0 = coefficient-place word place hp in
    let there : coefficient near q ≡ get_or near place 0 = ap (λ n. coefficient near (n - 1 - place)) (sym size) ∙ coefficient-place near place (omega arith) in
    let weight : difference word near q ≡ bit_xor (get_or word place 0) (get_or near place 0) = ap (λ z. bit_xor z (coefficient near q)) here ∙ ap (bit_xor (get_or word place 0)) there in
    elim (root_weight roots l c b (λ m. get_or terms m 0) (difference word near) (length word) q e h sums small (λ q. difference-lt word near q bytes code.bytes) lc (omega arith) (omega arith) he div) [
      | inl z ↦ inl (z.0, added_gives (get_or word place 0) (get_or near place 0) e (z.1 ∙ weight))
      | inr z ↦ inr (z.0, equal-from_xor (get_or word place 0) (get_or near place 0) (sym weight ∙ z.1))
    ]

-- with no recurrence there is no term but 0, and with one that is too long no codeword is near
pub not_long-near : (roots l : ℕ) (c b : ℕ → ℕ) (terms word near : List ℕ) → IsBerlekampMassey roots l c b (λ m. get_or terms m 0) → ((i : ℕ) → i < roots → get_or terms i 0 ≡ value_at word (gf_pow 2 i)) →
    IsNear roots word near → IsBytes word → length word ≤ 255 → l + l ≤ roots
not_long-near roots l c b terms word near h ts isnear bytes small =
    let code : IsCodeword roots near = isnear.codeword in
    let size : length near ≡ length word = isnear.size in
    let count : differing word near ≡ length (errors word near) = differing-count word near size in
    let close : differing word near + differing word near ≤ roots = isnear.close in
    let sums : (m : ℕ) → m < roots → get_or terms m 0 ≡ power_sum (difference word near) (errors word near) m =
    λ m k. ts m k ∙ sym (xor_zero_r (value_at word (gf_pow 2 m))) ∙ ap (bit_xor (value_at word (gf_pow 2 m))) (sym (code.vanishes m k)) ∙ values-differ word near m size bytes code.bytes in
    let le : l ≤ length (errors word near) = not_long roots l c b (λ m. get_or terms m 0) (difference word near) (errors word near) (length word) h sums small (weighty-falls (length word) (difference word near)) (λ q. difference-lt word near q bytes code.bytes) in
    omega arith
