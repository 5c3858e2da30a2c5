-- What coded bits depend on, and that they lead back to their inputs.
use Rattle.std.proofs.Common.{◌≡◌, ℕ, zero, suc, ◌+◌, ◌-◌, ◌*◌, ◌/◌, ◌%◌, ◌<◌, ◌≤◌, Bool, true, false, cond, refl, ap, arith, inl, inr, sym, ◌∙◌, subst, List, length, count_by, get_or}
use Rattle.std.specs.Prelude.{nat_le, sum_by}
use Rattle.std.specs.List.{range_with_len}
use Rattle.std.proofs.lemmas.Bool.Decides.{eqb_tells, leb_tells}
use Rattle.std.proofs.lemmas.List.{ext_get_or}
use Rattle.std.proofs.lemmas.List.Sums.{get_or-le-sum_by, sum_by_from}
use Rattle.std.proofs.lemmas.List.FromFn.{get_or-range_with_len, length-range_with_len}
use Rattle.isdbt_base.specs.declared.kinds.Rate.{Rate}
use Rattle.isdbt_base.specs.Bits.{◌⊕◌}
use Rattle.isdbt_base.specs.Numbers.{rate_steps, rate_bits}
use Rattle.conv_punct.specs.CodedBits.{Output, x_of, y_of, step_of, output_at, coded_len, coded_bit, output_bit, x_bit, y_bit, earlier_bit}
use Rattle.conv_punct.specs.CodedCost.{input_of, coded_cost}
use Rattle.conv_punct.proofs.PatternLaws.{coded_step-len, coded_step-lt, coded_len-lt}

-- outputs of inputs that are alike up to their step are alike
earlier-same : (f g : ℕ → Bool) (i d : ℕ) → ((j : ℕ) → j ≤ i → f j ≡ g j) → earlier_bit f i d ≡ earlier_bit g i d
earlier-same f g i d h = ap (λ b. cond (nat_le d i) b false) (h (i - d) (omega arith))

x-same : (f g : ℕ → Bool) (i : ℕ) → ((j : ℕ) → j ≤ i → f j ≡ g j) → x_bit f i ≡ x_bit g i
x-same f g i h =
    let a = h i (omega arith) in
    let b = earlier-same f g i 1 h in
    let c = earlier-same f g i 2 h in
    let d = earlier-same f g i 3 h in
    let e = earlier-same f g i 6 h in
    rw (a, b, c, d, e) refl

y-same : (f g : ℕ → Bool) (i : ℕ) → ((j : ℕ) → j ≤ i → f j ≡ g j) → y_bit f i ≡ y_bit g i
y-same f g i h =
    let a = h i (omega arith) in
    let b = earlier-same f g i 2 h in
    let c = earlier-same f g i 3 h in
    let d = earlier-same f g i 5 h in
    let e = earlier-same f g i 6 h in
    rw (a, b, c, d, e) refl

pub output-same : (f g : ℕ → Bool) (s : ℕ) (o : Output) → ((j : ℕ) → j ≤ s + step_of o → f j ≡ g j) → output_bit f s o ≡ output_bit g s o
output-same f g s (x_of a) h = x-same f g (s + a) h
output-same f g s (y_of a) h = y-same f g (s + a) h

-- a part of a sum may be taken off both sides
cancel : (a b e : Bool) → (a ⊕ e) ≡ (b ⊕ e) → a ≡ b
cancel true true e h = refl
cancel false false e h = refl
cancel true false true h = cc
cancel true false false h = cc
cancel false true true h = cc
cancel false true false h = cc

earlier-below : (f g : ℕ → Bool) (i d : ℕ) → ((j : ℕ) → j < i → f j ≡ g j) → earlier_bit f i (suc d) ≡ earlier_bit g i (suc d)
earlier-below f g i d h =
    elim (leb_tells (suc d) i) [
      | inl within ↦ ap (λ b. cond (nat_le (suc d) i) b false) (h (i - suc d) (omega (arith, within.1)))
      | inr beyond ↦ rw beyond.0 refl
    ]

x-new : (f g : ℕ → Bool) (i : ℕ) → ((j : ℕ) → j < i → f j ≡ g j) → x_bit f i ≡ x_bit g i → f i ≡ g i
x-new f g i h e =
    let b = earlier-below f g i 0 h in
    let c = earlier-below f g i 1 h in
    let d = earlier-below f g i 2 h in
    let k = earlier-below f g i 5 h in
    cancel (f i) (g i) (earlier_bit g i 1) (cancel _ _ (earlier_bit g i 2) (cancel _ _ (earlier_bit g i 3) (cancel _ _ (earlier_bit g i 6) (rw (b, c, d, k) at e))))

y-new : (f g : ℕ → Bool) (i : ℕ) → ((j : ℕ) → j < i → f j ≡ g j) → y_bit f i ≡ y_bit g i → f i ≡ g i
y-new f g i h e =
    let b = earlier-below f g i 1 h in
    let c = earlier-below f g i 2 h in
    let d = earlier-below f g i 4 h in
    let k = earlier-below f g i 5 h in
    cancel (f i) (g i) (earlier_bit g i 2) (cancel _ _ (earlier_bit g i 3) (cancel _ _ (earlier_bit g i 5) (cancel _ _ (earlier_bit g i 6) (rw (b, c, d, k) at e))))

output-new : (f g : ℕ → Bool) (s : ℕ) (o : Output) → ((j : ℕ) → j < s + step_of o → f j ≡ g j) → output_bit f s o ≡ output_bit g s o → f (s + step_of o) ≡ g (s + step_of o)
output-new f g s (x_of a) h e = x-new f g (s + a) h e
output-new f g s (y_of a) h e = y-new f g (s + a) h e

-- the coded bits of some steps depend on the inputs of these steps alone
pub coded_bit-prefix : (rate : Rate) (u v : ℕ → Bool) (steps : ℕ) → ((i : ℕ) → i < steps → u i ≡ v i) → (c : ℕ) → c < coded_len rate steps → coded_bit rate u c ≡ coded_bit rate v c
unfolding coded_bit
coded_bit-prefix rate u v steps h c k =
    output-same u v (rate_steps rate * (c / rate_bits rate)) (output_at rate (c % rate_bits rate)) (λ j l. h j (let m = coded_step-lt rate c steps k in omega arith))

cond_zero : (b : Bool) → cond b 1 0 ≤ 0 → b ≡ false
cond_zero true h = absurd (omega arith)
cond_zero false h = refl

equal-from_sum : (a b : Bool) → (a ⊕ b) ≡ false → a ≡ b
equal-from_sum true true h = refl
equal-from_sum true false h = cc
equal-from_sum false true h = cc
equal-from_sum false false h = refl

sum_self : (a : Bool) → (a ⊕ a) ≡ false
sum_self true = refl
sum_self false = refl

count-zero : (test : ℕ → Bool) (n c : ℕ) → count_by test (range_with_len 0 n) ≤ 0 → c < n → test c ≡ false
count-zero test n c h k =
    let part = get_or-le-sum_by (λ x. cond (test x) 1 0) (range_with_len 0 n) c 0 (rw (length-range_with_len 0 n) k) in
    let at : get_or (range_with_len 0 n) c 0 ≡ c = get_or-range_with_len 0 n c 0 k ∙ omega arith in
    cond_zero (test c) (let P : ℕ → Type 0 = λ m. cond (test m) 1 0 ≤ 0 in subst P at (omega (arith, part)))

first_none : (b : Bool) → b ≡ false → cond {A = ℕ} b 1 0 ≡ 0
first_none true e = cc
first_none false e = refl

count-none : (test : ℕ → Bool) (n a : ℕ) → ((c : ℕ) → c < a + n → test c ≡ false) → count_by test (range_with_len a n) ≡ 0
count-none test zero a h = refl
count-none test (suc n) a h =
    let first = first_none (test a) (h a (omega arith)) in
    let others : sum_by (λ x. cond (test x) 1 0) (range_with_len (a + 1) n) ≡ 0 = count-none test n (a + 1) (λ c k. h c (omega arith)) in
    sum_by_from (λ x. cond (test x) 1 0) (0 + cond (test a) 1 0) (range_with_len (a + 1) n) ∙ omega (arith, first, others)

-- inputs with the same coded bits are the same
pub same_bits : (rate : Rate) (f u : ℕ → Bool) (n : ℕ) → ((c : ℕ) → c < coded_len rate n → coded_bit rate f c ≡ coded_bit rate u c) → (m : ℕ) → m ≤ n → (j : ℕ) → j < m → f j ≡ u j
unfolding coded_bit
same_bits rate f u n h zero k j l = absurd (omega arith)
same_bits rate f u n h (suc m) k j l =
    elim (eqb_tells j m) [
      | inl same ↦ (let c = coded_len rate m in
          let e = coded_step-len rate m in
          let before = same_bits rate f u n h m (omega arith) in
          let new = output-new f u (rate_steps rate * (c / rate_bits rate)) (output_at rate (c % rate_bits rate)) (λ i q. before i (omega (arith, e))) (h c (coded_len-lt rate m n (omega arith))) in
          subst (λ i. f i ≡ u i) (e ∙ sym same.1) new)
      | inr other ↦ same_bits rate f u n h m (omega arith) j (omega (arith, other.1))
    ]

-- inputs meet their own coded bits at cost 0
pub coded_cost-same : (rate : Rate) (u v : ℕ → Bool) (steps : ℕ) → ((i : ℕ) → i < steps → v i ≡ u i) → coded_cost rate (coded_bit rate u) steps v ≡ 0
unfolding coded_cost
coded_cost-same rate u v steps h =
    count-none (λ c. coded_bit rate v c ⊕ coded_bit rate u c) (coded_len rate steps) 0 (λ c k.
    ap (λ b. b ⊕ coded_bit rate u c) (coded_bit-prefix rate v u steps h c (omega (arith, k))) ∙ sum_self (coded_bit rate u c))

-- and no others do
pub coded_cost-unique : (rate : Rate) (u v : ℕ → Bool) (steps : ℕ) → coded_cost rate (coded_bit rate u) steps v ≡ 0 → (i : ℕ) → i < steps → v i ≡ u i
unfolding coded_cost
coded_cost-unique rate u v steps e =
    same_bits rate v u steps (λ c k. equal-from_sum (coded_bit rate v c) (coded_bit rate u c) (count-zero (λ c. coded_bit rate v c ⊕ coded_bit rate u c) (coded_len rate steps) c (omega (arith, e)) k)) steps (omega arith)

pub lists-unique : (rate : Rate) (inputs others : List Bool) → length others ≡ length inputs → coded_cost rate (coded_bit rate (input_of inputs)) (length inputs) (input_of others) ≡ 0 → others ≡ inputs
lists-unique rate inputs others size e =
    ext_get_or false others inputs size (λ i h. coded_cost-unique rate (input_of inputs) (input_of others) (length inputs) e i (omega arith))

pub lists-same : (rate : Rate) (inputs others : List Bool) → others ≡ inputs → coded_cost rate (coded_bit rate (input_of inputs)) (length inputs) (input_of others) ≡ 0
lists-same rate inputs others e =
    coded_cost-same rate (input_of inputs) (input_of others) (length inputs) (λ i h. ap (λ l. get_or l i false) e)
