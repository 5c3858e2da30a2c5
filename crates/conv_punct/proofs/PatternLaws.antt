-- Which steps the coded bits stand for: the first output of step i is coded bit number coded_len i.
use Rattle.std.proofs.Common.{◌≡◌, ℕ, zero, suc, ◌+◌, ◌*◌, ◌/◌, ◌%◌, ◌<◌, ◌≤◌, Bool, true, false, refl, arith, inl, inr, sym, subst, count_by, rules, ◌⊎◌}
use Rattle.std.specs.Prelude.{◌==◌, ◌&&◌, ◌||◌, not, nat_lt}
use Rattle.std.proofs.lemmas.Bool.{eqb-true, ltb-true, lt-ltb}
use Rattle.std.proofs.lemmas.Bool.Decides.{eqb_tells, leb_tells}
use Rattle.isdbt_base.specs.declared.kinds.Rate.{Rate}
use Rattle.isdbt_base.specs.declared.kinds.Rate.TheVariants.{R12, R23, R34, R56, R78}
use Rattle.isdbt_base.specs.Numbers.{rate_steps, rate_bits}
use Rattle.conv_punct.specs.CodedBits.{pattern, output_at, step_of, coded_step, coded_len}

-- a test of each number below n
abbrev each_below : ℕ → (ℕ → Bool) → Bool
each_below zero test = true
each_below (suc n) test = test n && each_below n test

both : (a b : Bool) → (a && b) ≡ true → (a ≡ true) × (b ≡ true)
both true b e = (refl, e)
both false b e = cc

at_each : (n : ℕ) (test : ℕ → Bool) (k : ℕ) → each_below n test ≡ true → k < n → test k ≡ true
at_each zero test k e h = absurd (omega arith)
at_each (suc n) test k e h =
    let parts = both (test n) (each_below n test) e in
    elim (eqb_tells k n) [
      | inl same ↦ subst (λ m. test m ≡ true) (sym same.1) parts.0
      | inr other ↦ at_each n test k parts.1 (omega arith)
    ]

-- how many outputs of the pattern are before a step
abbrev pub outputs_before : Rate → ℕ → ℕ
outputs_before rate s = count_by (λ o. nat_lt (step_of o) s) (pattern rate)

-- the outputs before a step are the first so many, and more than before each earlier step; then comes one of the step itself
abbrev step_passes : Rate → ℕ → Bool
step_passes rate s = nat_lt (outputs_before rate s) (rate_bits rate) && (step_of (output_at rate (outputs_before rate s)) == s) && each_below (rate_bits rate) (λ r. not (nat_lt r (outputs_before rate s)) || nat_lt (step_of (output_at rate r)) s) && each_below s (λ t. nat_lt (outputs_before rate t) (outputs_before rate s)) && each_below (rate_bits rate) (λ r. not (nat_lt (step_of (output_at rate r)) s) || nat_lt r (outputs_before rate s))

steps_test : (rate : Rate) → each_below (rate_steps rate) (step_passes rate) ≡ true
steps_test R12 = refl
steps_test R23 = refl
steps_test R34 = refl
steps_test R56 = refl
steps_test R78 = refl

outputs_test : (rate : Rate) → each_below (rate_bits rate) (λ r. nat_lt (step_of (output_at rate r)) (rate_steps rate)) ≡ true
outputs_test R12 = refl
outputs_test R23 = refl
outputs_test R34 = refl
outputs_test R56 = refl
outputs_test R78 = refl

or-second : (a b : Bool) → (not a || b) ≡ true → a ≡ true → b ≡ true
or-second true b e h = e
or-second false b e h = cc

record StepFacts (rate : Rate) (s : ℕ) : Type 0 where
  within : outputs_before rate s < rate_bits rate
  own : step_of (output_at rate (outputs_before rate s)) ≡ s
  earlier : (r : ℕ) → r < rate_bits rate → r < outputs_before rate s → step_of (output_at rate r) < s
  rising : (t : ℕ) → t < s → outputs_before rate t < outputs_before rate s
  counted : (r : ℕ) → r < rate_bits rate → step_of (output_at rate r) < s → r < outputs_before rate s

step_facts : (rate : Rate) (s : ℕ) → s < rate_steps rate → StepFacts rate s
step_facts rate s h =
    let e = at_each (rate_steps rate) (step_passes rate) s (steps_test rate) h in
    let a = both _ _ e in
    let p = both _ _ a.0 in
    let q = both _ _ p.0 in
    let w = both _ _ q.0 in
    record {
      within = ltb-true _ _ w.0;
      own = eqb-true _ _ w.1;
      earlier = λ r k l. ltb-true _ _ (or-second _ _ (at_each (rate_bits rate) (λ r. not (nat_lt r (outputs_before rate s)) || nat_lt (step_of (output_at rate r)) s) r q.1 k) (lt-ltb _ _ l));
      rising = λ t k. ltb-true _ _ (at_each s (λ t. nat_lt (outputs_before rate t) (outputs_before rate s)) t p.1 k);
      counted = λ r k l. ltb-true _ _ (or-second _ _ (at_each (rate_bits rate) (λ r. not (nat_lt (step_of (output_at rate r)) s) || nat_lt r (outputs_before rate s)) r a.1 k) (lt-ltb _ _ l));
    }

pub output_step-lt : (rate : Rate) (r : ℕ) → r < rate_bits rate → step_of (output_at rate r) < rate_steps rate
output_step-lt rate r h = ltb-true _ _ (at_each (rate_bits rate) (λ r. nat_lt (step_of (output_at rate r)) (rate_steps rate)) r (outputs_test rate) h)

pub rest-lt : (rate : Rate) (n : ℕ) → n % rate_steps rate < rate_steps rate
rest-lt rate n = search rules

pub div-part : (rate : Rate) (q r : ℕ) → r < rate_bits rate → (rate_bits rate * q + r) / rate_bits rate ≡ q
div-part R12 q r h = omega arith
div-part R23 q r h = omega arith
div-part R34 q r h = omega arith
div-part R56 q r h = omega arith
div-part R78 q r h = omega arith

pub mod-part : (rate : Rate) (q r : ℕ) → r < rate_bits rate → (rate_bits rate * q + r) % rate_bits rate ≡ r
mod-part R12 q r h = omega arith
mod-part R23 q r h = omega arith
mod-part R34 q r h = omega arith
mod-part R56 q r h = omega arith
mod-part R78 q r h = omega arith

pub whole : (rate : Rate) (i : ℕ) → rate_steps rate * (i / rate_steps rate) + i % rate_steps rate ≡ i
whole R12 i = omega arith
whole R23 i = omega arith
whole R34 i = omega arith
whole R56 i = omega arith
whole R78 i = omega arith

-- the first coded bit of step i is of that step
pub coded_step-len : (rate : Rate) (i : ℕ) → coded_step rate (coded_len rate i) ≡ i
coded_step-len rate i =
    let facts = step_facts rate (i % rate_steps rate) (rest-lt rate i) in
    rw (div-part rate (i / rate_steps rate) (outputs_before rate (i % rate_steps rate)) facts.within, mod-part rate (i / rate_steps rate) (outputs_before rate (i % rate_steps rate)) facts.within, facts.own) (whole rate i)

-- an implication as two cases
either : {P : Type 0} (a b : ℕ) → (a < b → P) → (b ≤ a) ⊎ P
either a b f = elim (leb_tells (suc a) b) [ inl less ↦ inr (f less.1) | inr more ↦ inl (omega (arith, more.1)) ]

-- the arithmetic of the two laws below
len-arith : (rate : Rate) (i n a b : ℕ) → i < n → a < rate_bits rate → (n % rate_steps rate ≤ i % rate_steps rate) ⊎ (a < b) → rate_bits rate * (i / rate_steps rate) + a < rate_bits rate * (n / rate_steps rate) + b
len-arith R12 i n a b h k (inl f) = omega arith
len-arith R12 i n a b h k (inr f) = omega arith
len-arith R23 i n a b h k (inl f) = omega arith
len-arith R23 i n a b h k (inr f) = omega arith
len-arith R34 i n a b h k (inl f) = omega arith
len-arith R34 i n a b h k (inr f) = omega arith
len-arith R56 i n a b h k (inl f) = omega arith
len-arith R56 i n a b h k (inr f) = omega arith
len-arith R78 i n a b h k (inl f) = omega arith
len-arith R78 i n a b h k (inr f) = omega arith

pub coded_len-lt : (rate : Rate) (i n : ℕ) → i < n → coded_len rate i < coded_len rate n
coded_len-lt rate i n h =
    let facts = step_facts rate (i % rate_steps rate) (rest-lt rate i) in
    let more = step_facts rate (n % rate_steps rate) (rest-lt rate n) in
    len-arith rate i n (outputs_before rate (i % rate_steps rate)) (outputs_before rate (n % rate_steps rate)) h facts.within (either (i % rate_steps rate) (n % rate_steps rate) (more.rising (i % rate_steps rate)))

step-arith : (rate : Rate) (c n s b : ℕ) → c < rate_bits rate * (n / rate_steps rate) + b → b < rate_bits rate → s < rate_steps rate → (b ≤ c % rate_bits rate) ⊎ (s < n % rate_steps rate) → rate_steps rate * (c / rate_bits rate) + s < n
step-arith R12 c n s b h k l (inl f) = omega arith
step-arith R12 c n s b h k l (inr f) = omega arith
step-arith R23 c n s b h k l (inl f) = omega arith
step-arith R23 c n s b h k l (inr f) = omega arith
step-arith R34 c n s b h k l (inl f) = omega arith
step-arith R34 c n s b h k l (inr f) = omega arith
step-arith R56 c n s b h k l (inl f) = omega arith
step-arith R56 c n s b h k l (inr f) = omega arith
step-arith R78 c n s b h k l (inl f) = omega arith
step-arith R78 c n s b h k l (inr f) = omega arith

pub bits-lt : (rate : Rate) (c : ℕ) → c % rate_bits rate < rate_bits rate
bits-lt rate c = search rules

-- the coded bits of n steps are of steps below n
pub coded_step-lt : (rate : Rate) (c n : ℕ) → c < coded_len rate n → coded_step rate c < n
coded_step-lt rate c n h =
    let facts = step_facts rate (n % rate_steps rate) (rest-lt rate n) in
    step-arith rate c n (step_of (output_at rate (c % rate_bits rate))) (outputs_before rate (n % rate_steps rate)) h facts.within (output_step-lt rate (c % rate_bits rate) (bits-lt rate c)) (either (c % rate_bits rate) (outputs_before rate (n % rate_steps rate)) (facts.earlier (c % rate_bits rate) (bits-lt rate c)))

count-arith : (rate : Rate) (c n s b : ℕ) → rate_steps rate * (c / rate_bits rate) + s < n → (n % rate_steps rate ≤ s) ⊎ (c % rate_bits rate < b) → c < rate_bits rate * (n / rate_steps rate) + b
count-arith R12 c n s b h (inl f) = omega arith
count-arith R12 c n s b h (inr f) = omega arith
count-arith R23 c n s b h (inl f) = omega arith
count-arith R23 c n s b h (inr f) = omega arith
count-arith R34 c n s b h (inl f) = omega arith
count-arith R34 c n s b h (inr f) = omega arith
count-arith R56 c n s b h (inl f) = omega arith
count-arith R56 c n s b h (inr f) = omega arith
count-arith R78 c n s b h (inl f) = omega arith
count-arith R78 c n s b h (inr f) = omega arith

-- the coded bits of steps below n are among the coded bits of n steps
pub coded_step-counted : (rate : Rate) (c n : ℕ) → coded_step rate c < n → c < coded_len rate n
coded_step-counted rate c n h =
    let facts = step_facts rate (n % rate_steps rate) (rest-lt rate n) in
    let s = step_of (output_at rate (c % rate_bits rate)) in
    count-arith rate c n s (outputs_before rate (n % rate_steps rate)) h (either s (n % rate_steps rate) (facts.counted (c % rate_bits rate) (bits-lt rate c)))
