-- A feed, step by step.
use Rattle.std.proofs.Common.{◌≡◌, ℕ, zero, suc, ◌+◌, ◌-◌, ◌*◌, ◌/◌, ◌%◌, ◌<◌, ◌≤◌, ◌≢◌, ◌⊎◌, Bool, true, false, cond, List, ◌∷◌, drop, length, get_or, set, refl, ap, sym, subst, ◌∙◌, arith, inl, inr, get_or-set_same, get_or-set_other, add-zero, zero-add}
use Rattle.std.specs.Prelude.{min}
use Rattle.std.proofs.Math.Nat.{mul-le-mul_left, mul-div-le}
use Rattle.std.proofs.lemmas.Bool.{cases_lt}
use Rattle.isdbt_base.specs.declared.kinds.Rate.{Rate}
use Rattle.isdbt_base.specs.declared.kinds.Rate.TheVariants.{R12, R23, R34, R56, R78}
use Rattle.isdbt_base.specs.Numbers.{rate_steps, rate_bits}
use Rattle.conv_punct.specs.CodedBits.{coded_len}
use Rattle.conv_punct.proofs.PatternLaws.{outputs_before, rest-lt, whole}
use Rattle.viterbi_hard.specs.declared.decoder.Decoder.{Decoder}
use Rattle.viterbi_hard.specs.declared.received.Decision.TheVariants.{Punctured}
use Rattle.viterbi_hard.specs.declared.received.Received.{Received}
use Rattle.viterbi_hard.specs.LeastPath.{decided_bit}
use Rattle.viterbi_hard.specs.StandsFor.{FeedsTo, GoesOn, IsPlace, Keeps, Stands, StandsFor, steps_in}
use Rattle.viterbi_hard.specs.Steps.{decision_of, step_at, pushed, received_at, received_from, received_steps, sends_x, sends_y, sent_before, used_at}
use Rattle.viterbi_hard.specs.Trellis.{IsDecided}
use Rattle.viterbi_hard.proofs.DecidedLaws.{trellis-decides}
use Rattle.viterbi_hard.proofs.StepLaws.{coded_len-suc, fits, length-received}

-- ---- places

-- a step's bits lie in its pattern's
pub at-fits : (rate : Rate) (first j at : ℕ) → at ≡ first + sent_before rate j → j < rate_steps rate → at + used_at rate j ≤ first + rate_bits rate
at-fits rate first j at e l = omega (arith, fits rate j l)

-- the bits and the steps of so many more patterns lie in those of all
pub bits-fit : (rate : Rate) (len done count bits : ℕ) → bits ≡ rate_bits rate → done + count ≤ len / bits → done * bits + rate_bits rate * count ≤ len
bits-fit rate len done count bits e h =
    let le : done + count ≤ len / rate_bits rate = omega (arith, ap (λ b. len / b) e) in
    omega (arith, ap (λ b. done * b) e, mul-le-mul_left (rate_bits rate) le, mul-div-le len (rate_bits rate))

pub steps-fit : (rate : Rate) (len done count bits : ℕ) → bits ≡ rate_bits rate → done + count ≤ len / bits → rate_steps rate * done + rate_steps rate * count ≤ steps_in rate len
steps-fit rate len done count bits e h =
    let le : done + count ≤ len / rate_bits rate = omega (arith, ap (λ b. len / b) e) in
    omega (arith, mul-le-mul_left (rate_steps rate) le)

pub buffer-fits : (rate : Rate) (room count steps : ℕ) → steps ≡ rate_steps rate → count ≤ room / steps → rate_steps rate * count ≤ room
buffer-fits rate room count steps e h =
    let le : count ≤ room / rate_steps rate = omega (arith, ap (λ b. room / b) e) in
    omega (arith, mul-le-mul_left (rate_steps rate) le, mul-div-le room (rate_steps rate))

-- the step of the pattern, after whole patterns
step-of : (rate : Rate) (n done j : ℕ) → n % rate_steps rate ≡ 0 → done % rate_steps rate ≡ 0 → j < rate_steps rate → (n + (done + j)) % rate_steps rate ≡ j
step-of R12 n done j h k l = omega arith
step-of R23 n done j h k l = omega arith
step-of R34 n done j h k l = omega arith
step-of R56 n done j h k l = omega arith
step-of R78 n done j h k l = omega arith

pub whole-times : (rate : Rate) (q : ℕ) → rate_steps rate * q % rate_steps rate ≡ 0
whole-times R12 q = omega arith
whole-times R23 q = omega arith
whole-times R34 q = omega arith
whole-times R56 q = omega arith
whole-times R78 q = omega arith

mod-more : (rate : Rate) (n q : ℕ) → (n + rate_steps rate * q) % rate_steps rate ≡ n % rate_steps rate
mod-more R12 n q = omega arith
mod-more R23 n q = omega arith
mod-more R34 n q = omega arith
mod-more R56 n q = omega arith
mod-more R78 n q = omega arith

div-more : (rate : Rate) (n q : ℕ) → (n + rate_steps rate * q) / rate_steps rate ≡ n / rate_steps rate + q
div-more R12 n q = omega arith
div-more R23 n q = omega arith
div-more R34 n q = omega arith
div-more R56 n q = omega arith
div-more R78 n q = omega arith

-- whole patterns
pub place-patterns : (rate : Rate) (q : ℕ) → IsPlace rate (rate_bits rate * q) (rate_steps rate * q)
place-patterns rate q n h =
    let part : outputs_before rate ((n + rate_steps rate * q) % rate_steps rate) ≡ outputs_before rate (n % rate_steps rate) = ap (outputs_before rate) (mod-more rate n q) in
    let patterns : rate_bits rate * ((n + rate_steps rate * q) / rate_steps rate) ≡ rate_bits rate * (n / rate_steps rate + q) = ap (λ m. rate_bits rate * m) (div-more rate n q) in
    omega (arith, part, patterns)

-- and a step more
pub place-next : (rate : Rate) (at done j : ℕ) → done % rate_steps rate ≡ 0 → j < rate_steps rate → IsPlace rate at (done + j) → IsPlace rate (at + used_at rate j) (done + j + 1)
place-next rate at done j k l p n h =
    let next : n + (done + j + 1) ≡ suc (n + (done + j)) = omega arith in
    let more = coded_len-suc rate (n + (done + j)) in
    let used : used_at rate ((n + (done + j)) % rate_steps rate) ≡ used_at rate j = ap (used_at rate) (step-of rate n done j h k l) in
    omega (arith, p n h, more, used) ∙ ap (coded_len rate) (sym next)

-- ---- what is read

received_by : Bool → Bool → (ℕ → Bool) → ℕ → Received
received_by sx sy read a = record { x = cond sx (decision_of (read a)) Punctured; y = cond sy (decision_of (read (a + cond sx 1 0))) Punctured }

received-eq : (sx sy : Bool) (f g : ℕ → Bool) (a b : ℕ) → ((i : ℕ) → i < cond sx 1 0 + cond sy 1 0 → f (a + i) ≡ g (b + i)) → received_by sx sy f a ≡ received_by sx sy g b
unfolding received_by
received-eq false false f g a b h = refl
received-eq true false f g a b h = let e : f a ≡ g b = ap f (sym (add-zero a)) ∙ h 0 (omega arith) ∙ ap g (add-zero b) in rw e
received-eq false true f g a b h = rw (h 0 (omega arith))
received-eq true true f g a b h = let e : f a ≡ g b = ap f (sym (add-zero a)) ∙ h 0 (omega arith) ∙ ap g (add-zero b) in rw (e, h 1 (omega arith))

-- the step that was read is that of the stream
pub same-step : (rate : Rate) (bits : List Bool) (at done j : ℕ) (r : Received) (read : ℕ → Bool) (n : ℕ)
    → r ≡ received_from rate (λ i. get_or bits i false) at j
    → n % rate_steps rate ≡ 0 → done % rate_steps rate ≡ 0 → GoesOn rate read n bits
    → j < rate_steps rate → IsPlace rate at (done + j) → at + used_at rate j ≤ length bits
    → r ≡ received_at rate read (n + (done + j))
unfolding received_by
same-step rate bits at done j r read n is h k g l p room =
    let m : ℕ = n + (done + j) in
    let step : m % rate_steps rate ≡ j = step-of rate n done j h k l in
    is
    ∙ received-eq (sends_x rate j) (sends_y rate j) (λ i. get_or bits i false) read at (coded_len rate n + at)
    (λ i lt. (let place : coded_len rate n + (at + i) ≡ coded_len rate n + at + i = omega arith in g (at + i) (omega arith) ∙ ap read place))
    ∙ ap (λ a. received_from rate read a j) (p n h)
    ∙ ap (λ v. received_from rate read (coded_len rate m) v) (sym step)

-- from a place on, so many steps of a pattern on
place-steps : (rate : Rate) (at done : ℕ) → done % rate_steps rate ≡ 0 → IsPlace rate at done → (j : ℕ) → j < rate_steps rate → IsPlace rate (at + sent_before rate j) (done + j)
place-steps rate at done k p zero h = subst (λ a. IsPlace rate a (done + 0)) (sym (add-zero at)) (subst (λ d. IsPlace rate at d) (sym (add-zero done)) p)
place-steps rate at done k p (suc j) h =
    let there : at + sent_before rate j + used_at rate j ≡ at + sent_before rate (suc j) = omega arith in
    let next : done + j + 1 ≡ done + suc j = omega arith in
    subst (λ a. IsPlace rate a (done + suc j)) there
    (subst (λ d. IsPlace rate (at + sent_before rate j + used_at rate j) d) next
    (place-next rate (at + sent_before rate j) done j k (omega arith) (place-steps rate at done k p j (omega arith))))

div-lt : (rate : Rate) (i count : ℕ) → i < rate_steps rate * count → i / rate_steps rate < count
div-lt R12 i count h = omega arith
div-lt R23 i count h = omega arith
div-lt R34 i count h = omega arith
div-lt R56 i count h = omega arith
div-lt R78 i count h = omega arith

-- the steps of so many patterns behind the first ones
pub expanded : (rate : Rate) (bits : List Bool) (steps : List ℕ) (p count : ℕ) → rate_bits rate * (p + count) ≤ length bits
    → ((q j : ℕ) → q < count → j < rate_steps rate → step_at steps (rate_steps rate * q + j) ≡ received_from rate (λ i. get_or bits i false) (rate_bits rate * p + rate_bits rate * q + sent_before rate j) j)
    → (read : ℕ → Bool) (n : ℕ) → n % rate_steps rate ≡ 0 → GoesOn rate read n bits
    → (i : ℕ) → i < rate_steps rate * count → step_at steps i ≡ received_at rate read (n + (rate_steps rate * p + i))
expanded rate bits steps p count room f read n k g i h =
    let low = rest-lt rate i in
    let lt = div-lt rate i count h in
    let parts : rate_steps rate * (i / rate_steps rate) + i % rate_steps rate ≡ i = whole rate i in
    let back : rate_bits rate * (p + i / rate_steps rate) ≡ rate_bits rate * p + rate_bits rate * (i / rate_steps rate) = omega arith in
    let on : rate_steps rate * (p + i / rate_steps rate) + i % rate_steps rate ≡ rate_steps rate * p + i = omega (arith, parts) in
    let upto : suc (i / rate_steps rate) ≤ count = omega arith in
    let fit = at-fits rate (rate_bits rate * p + rate_bits rate * (i / rate_steps rate)) (i % rate_steps rate) (rate_bits rate * p + rate_bits rate * (i / rate_steps rate) + sent_before rate (i % rate_steps rate)) refl low in
    ap (λ m. step_at steps m) (sym parts)
    ∙ same-step rate bits (rate_bits rate * p + rate_bits rate * (i / rate_steps rate) + sent_before rate (i % rate_steps rate)) (rate_steps rate * (p + i / rate_steps rate)) (i % rate_steps rate) _ read n
    (f (i / rate_steps rate) (i % rate_steps rate) lt low)
    k (whole-times rate (p + i / rate_steps rate)) g low
    (subst (λ a. IsPlace rate (a + sent_before rate (i % rate_steps rate)) (rate_steps rate * (p + i / rate_steps rate) + i % rate_steps rate)) back
    (place-steps rate (rate_bits rate * (p + i / rate_steps rate)) (rate_steps rate * (p + i / rate_steps rate)) (whole-times rate (p + i / rate_steps rate)) (place-patterns rate (p + i / rate_steps rate)) (i % rate_steps rate) low))
    (omega (arith, fit, mul-le-mul_left (rate_bits rate) upto))
    ∙ ap (λ m. received_at rate read (n + m)) on

-- ---- one step more

pub feed-none : (d : Decoder) (bits out : List Bool) → FeedsTo d d bits out out 0 0
feed-none d bits out = record {
  rate = refl;
  steps = λ n e. e ∙ ap (min 127) (sym (add-zero n));
  counted = λ n e. omega arith;
  keeps = λ read n s g. subst (λ m. Keeps d (received_steps d.rate read m)) (sym (add-zero n)) s.stands.keeps;
  decided = λ read n s g i l. absurd (omega arith);
  rest = λ i l. refl;
}

module _ (d0 d d2 : Decoder) (bits before out : List Bool) (count done : ℕ) (r : Received) (x : Bool)
    (f : FeedsTo d0 d bits before out count done)
    (keeps : (rs : List Received) → Keeps d rs → Keeps d2 (r ∷ rs))
    (decides : (rs : List Received) → Keeps d rs → 127 ≤ length rs → IsDecided (r ∷ rs) x)
    (same : d2.rate ≡ d.rate)
    (here : (read : ℕ → Bool) (n : ℕ) → StandsFor d0 read n → GoesOn d0.rate read n bits → r ≡ received_at d0.rate read (n + done)) where
  kept : (read : ℕ → Bool) (n : ℕ) → StandsFor d0 read n → GoesOn d0.rate read n bits → Keeps d2 (received_steps d0.rate read (n + (done + 1)))
  kept read n s g =
      let next : suc (n + done) ≡ n + (done + 1) = omega arith in
      subst (λ m. Keeps d2 (received_steps d0.rate read m)) next
      (subst (λ v. Keeps d2 (v ∷ received_steps d0.rate read (n + done))) (here read n s g) (keeps (received_steps d0.rate read (n + done)) (f.keeps read n s g)))

  -- while fewer than 127 steps came before
  pub feed-more : d.steps < 127 → d2.steps ≡ d.steps + 1 → FeedsTo d0 d2 bits before out count (done + 1)
  feed-more few e = record {
    rate = same ∙ f.rate;
    steps = λ n h. omega (arith, f.steps n h);
    counted = λ n h. omega (arith, f.steps n h, f.counted n h);
    keeps = kept;
    decided = λ read n s g i l. f.decided read n s g i l;
    rest = f.rest;
  }

  -- the bit is the decided one
  bit-is : (read : ℕ → Bool) (n : ℕ) → StandsFor d0 read n → GoesOn d0.rate read n bits → 127 ≤ n + done → x ≡ decided_bit d0.rate read (n + done - 127)
  bit-is read n s g many =
      let next : suc (n + done) ≡ n + done - 127 + 128 = omega arith in
      let own : IsDecided (r ∷ received_steps d0.rate read (n + done)) x =
      decides (received_steps d0.rate read (n + done)) (f.keeps read n s g) (omega (arith, length-received d0.rate read (n + done))) in
      trellis-decides d0.rate read (n + done - 127) x
      (subst (λ m. IsDecided (received_steps d0.rate read m) x) next
      (subst (λ v. IsDecided (v ∷ received_steps d0.rate read (n + done)) x) (here read n s g) own))

  -- and from then on
  pub feed-out : 127 ≤ d.steps → d2.steps ≡ d.steps → count < length out → FeedsTo d0 d2 bits before (set out count x) (count + 1) (done + 1)
  feed-out many e room = record {
    rate = same ∙ f.rate;
    steps = λ n h. omega (arith, f.steps n h);
    counted = λ n h. omega (arith, f.steps n h, f.counted n h);
    keeps = kept;
    decided = λ read n s g i l.
        let steps_are : d0.steps ≡ min 127 n = s.stands.steps ∙ ap (min 127) (length-received d0.rate read n) in
        let in_all = f.steps n steps_are in
        let bits_are = f.counted n steps_are in
        elim (cases_lt i count) [
          | inl lt ↦ (let ne : i ≢ count = omega arith in rw (get_or-set_other out count i x false ne) (f.decided read n s g i lt))
          | inr le ↦ (let at : i ≡ count = omega arith in
              let place : n + done - 127 ≡ n - 127 + i = omega (arith, in_all, bits_are) in
              ap (λ k. get_or (set out count x) k false) at
              ∙ get_or-set_same out count x false room
              ∙ bit-is read n s g (omega (arith, in_all))
              ∙ ap (decided_bit d0.rate read) place)
        ];
    rest = λ i l. (let ne : i ≢ count = omega arith in rw (get_or-set_other out count i x false ne) (f.rest i (omega arith)));
  }

-- ---- a whole block more

pub length-pushed : (steps : List ℕ) (at k : ℕ) (rs : List Received) → length (pushed steps at k rs) ≡ k + length rs
length-pushed steps at zero rs = sym (zero-add (length rs))
length-pushed steps at (suc k) rs = omega (arith, length-pushed steps at k rs)

pub drop-pushed : (steps : List ℕ) (at k : ℕ) (rs : List Received) → drop k (pushed steps at k rs) ≡ rs
drop-pushed steps at zero rs = refl
drop-pushed steps at (suc k) rs = drop-pushed steps at k rs

-- steps of the stream, behind those before
received-pushed : (rate : Rate) (read : ℕ → Bool) (steps : List ℕ) (at m k : ℕ) → ((i : ℕ) → i < k → step_at steps (at + i) ≡ received_at rate read (m + i)) → pushed steps at k (received_steps rate read m) ≡ received_steps rate read (m + k)
received-pushed rate read steps at m zero h = ap (received_steps rate read) (sym (add-zero m))
received-pushed rate read steps at m (suc k) h =
    let next : m + suc k ≡ suc (m + k) = omega arith in
    ap (λ r. r ∷ pushed steps at k (received_steps rate read m)) (h k (omega arith))
    ∙ ap (λ l. received_at rate read (m + k) ∷ l) (received-pushed rate read steps at m k (λ i l. h i (omega arith)))
    ∙ ap (received_steps rate read) (sym next)

module _ (d0 d d2 : Decoder) (bits before out out2 : List Bool) (count done at : ℕ) (steps : List ℕ)
    (f : FeedsTo d0 d bits before out count done)
    (many : 127 ≤ d.steps)
    (keeps : (rs : List Received) → Keeps d rs → Keeps d2 (pushed steps at 8 rs))
    (decides : (rs : List Received) → Keeps d rs → 127 ≤ length rs → (j : ℕ) → j < 8 → IsDecided (pushed steps at (j + 1) rs) (get_or out2 (count + j) false))
    (others : (i : ℕ) → ((i < count) ⊎ (count + 8 ≤ i)) → get_or out2 i false ≡ get_or out i false)
    (same : d2.rate ≡ d.rate) (stays : d2.steps ≡ d.steps)
    (here : (read : ℕ → Bool) (n : ℕ) → StandsFor d0 read n → GoesOn d0.rate read n bits → (i : ℕ) → i < 8 → step_at steps (at + i) ≡ received_at d0.rate read (n + done + i)) where
  block-bit : (read : ℕ → Bool) (n : ℕ) → StandsFor d0 read n → GoesOn d0.rate read n bits → 127 ≤ n + done → (j : ℕ) → j < 8 → get_or out2 (count + j) false ≡ decided_bit d0.rate read (n + done + j - 127)
  block-bit read n s g long j h =
      let is = received-pushed d0.rate read steps at (n + done) (j + 1) (λ i l. here read n s g i (omega arith)) in
      let next : n + done + (j + 1) ≡ n + done + j - 127 + 128 = omega arith in
      let own : IsDecided (pushed steps at (j + 1) (received_steps d0.rate read (n + done))) (get_or out2 (count + j) false) =
      decides (received_steps d0.rate read (n + done)) (f.keeps read n s g) (omega (arith, length-received d0.rate read (n + done))) j h in
      trellis-decides d0.rate read (n + done + j - 127) (get_or out2 (count + j) false)
      (subst (λ m. IsDecided (received_steps d0.rate read m) (get_or out2 (count + j) false)) next
      (subst (λ rs. IsDecided rs (get_or out2 (count + j) false)) is own))

  pub feed-block : FeedsTo d0 d2 bits before out2 (count + 8) (done + 8)
  feed-block = record {
    rate = same ∙ f.rate;
    steps = λ n h. omega (arith, f.steps n h);
    counted = λ n h. omega (arith, f.steps n h, f.counted n h);
    keeps = λ read n s g.
        let next : n + done + 8 ≡ n + (done + 8) = omega arith in
        subst (λ m. Keeps d2 (received_steps d0.rate read m)) next
        (subst (Keeps d2) (received-pushed d0.rate read steps at (n + done) 8 (here read n s g)) (keeps (received_steps d0.rate read (n + done)) (f.keeps read n s g)));
    decided = λ read n s g i l.
        let steps_are : d0.steps ≡ min 127 n = s.stands.steps ∙ ap (min 127) (length-received d0.rate read n) in
        let in_all = f.steps n steps_are in
        let bits_are = f.counted n steps_are in
        elim (cases_lt i count) [
          | inl lt ↦ others i (inl lt) ∙ f.decided read n s g i lt
          | inr le ↦ (let at : count + (i - count) ≡ i = omega arith in
              let place : n + done + (i - count) - 127 ≡ n - 127 + i = omega (arith, in_all, bits_are) in
              ap (λ k. get_or out2 k false) (sym at)
              ∙ block-bit read n s g (omega (arith, in_all)) (i - count) (omega arith)
              ∙ ap (decided_bit d0.rate read) place)
        ];
    rest = λ i l. others i (inr l) ∙ f.rest i (omega arith);
  }

-- ---- a whole feed

steps-are : (d : Decoder) (read : ℕ → Bool) (n : ℕ) → StandsFor d read n → d.steps ≡ min 127 n
steps-are d read n s = s.stands.steps ∙ ap (min 127) (length-received d.rate read n)

pub feed-count : (d0 d : Decoder) (bits before out : List Bool) (count done : ℕ) → FeedsTo d0 d bits before out count done
    → (read : ℕ → Bool) (n : ℕ) → StandsFor d0 read n → count + (n - 127) ≡ n + done - 127
feed-count d0 d bits before out count done f read n s = f.counted n (steps-are d0 read n s)

pub feed-state : (d0 d : Decoder) (bits before out : List Bool) (count len : ℕ) → FeedsTo d0 d bits before out count (steps_in d0.rate len)
    → (read : ℕ → Bool) (n : ℕ) → StandsFor d0 read n → GoesOn d0.rate read n bits → StandsFor d read (n + steps_in d0.rate len)
feed-state d0 d bits before out count len f read n s g = record {
  whole = ap (λ r. (n + steps_in d0.rate len) % rate_steps r) f.rate ∙ mod-more d0.rate n (len / rate_bits d0.rate) ∙ s.whole;
  stands = subst (λ r. Stands d (received_steps r read (n + steps_in d0.rate len))) (sym f.rate)
      (record { keeps = f.keeps read n s g; steps = f.steps n (steps-are d0 read n s) ∙ ap (min 127) (sym (length-received d0.rate read (n + steps_in d0.rate len))) });
}
