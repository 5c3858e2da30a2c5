-- The steps' places among the read bits, and the cost of a path step by step.
use Rattle.std.proofs.Common.{◌≡◌, ℕ, zero, suc, ◌+◌, ◌-◌, ◌*◌, ◌/◌, ◌%◌, ◌<◌, ◌≤◌, ◌⊎◌, ◌||◌, not, leb, eqb, Bool, true, false, cond, List, [], ◌∷◌, length, count_by, get_or, refl, ap, sym, ◌∙◌, arith, inl, inr, add-zero, zero-add}
use Rattle.std.specs.Prelude.{sum_by}
use Rattle.std.specs.List.{range_with_len}
use Rattle.std.proofs.lemmas.Bool.{agree_below_at, cases_lt, eqb-true, leb-true}
use Rattle.std.proofs.lemmas.Bool.Decides.{leb_tells}
use Rattle.std.proofs.lemmas.List.{get_or_past}
use Rattle.std.proofs.lemmas.List.Sums.{sum_by-cons}
use Rattle.isdbt_base.specs.declared.kinds.Rate.{Rate}
use Rattle.isdbt_base.specs.declared.kinds.Rate.TheVariants.{R12, R23, R34, R56, R78}
use Rattle.isdbt_base.specs.Bits.{◌⊕◌}
use Rattle.isdbt_base.specs.Numbers.{rate_steps, rate_bits}
use Rattle.isdbt_base.proofs.RangeLaws.{count-same}
use Rattle.conv_punct.specs.CodedBits.{Output, x_of, y_of, output_at, output_bit, coded_bit, coded_len, earlier_bit, x_bit, y_bit}
use Rattle.conv_punct.specs.CodedCost.{coded_cost}
use Rattle.conv_punct.proofs.PatternLaws.{outputs_before, div-part, mod-part, whole, rest-lt}
use Rattle.conv_punct.proofs.CodedLaws.{coded_bit-prefix}
use Rattle.viterbi_hard.specs.declared.received.Decision.TheVariants.{Punctured}
use Rattle.viterbi_hard.specs.declared.received.Received.{Received}
use Rattle.viterbi_hard.specs.LeastPath.{path_bit, path_cost}
use Rattle.viterbi_hard.specs.Steps.{decision_of, is_x, is_y, received_at, received_steps, sends_x, sends_y, sent_before, used_at}
use Rattle.viterbi_hard.specs.Trellis.{bit, branch_metric, differs, list_metric, sum_x, sum_y}

-- ---- places

-- the outputs of the pattern before a step
sent-before : (rate : Rate) (j : ℕ) → j < rate_steps rate → outputs_before rate j ≡ sent_before rate j
sent-before R12 j h = eqb-true _ _ (agree_below_at (λ j. eqb (outputs_before R12 j) (sent_before R12 j)) (λ _. true) 1 j refl h)
sent-before R23 j h = eqb-true _ _ (agree_below_at (λ j. eqb (outputs_before R23 j) (sent_before R23 j)) (λ _. true) 2 j refl h)
sent-before R34 j h = eqb-true _ _ (agree_below_at (λ j. eqb (outputs_before R34 j) (sent_before R34 j)) (λ _. true) 3 j refl h)
sent-before R56 j h = eqb-true _ _ (agree_below_at (λ j. eqb (outputs_before R56 j) (sent_before R56 j)) (λ _. true) 5 j refl h)
sent-before R78 j h = eqb-true _ _ (agree_below_at (λ j. eqb (outputs_before R78 j) (sent_before R78 j)) (λ _. true) 7 j refl h)

-- all of a pattern
pub sent-whole : (rate : Rate) → sent_before rate (rate_steps rate) ≡ rate_bits rate
sent-whole R12 = refl
sent-whole R23 = refl
sent-whole R34 = refl
sent-whole R56 = refl
sent-whole R78 = refl

pub steps-positive : (rate : Rate) → 0 < rate_steps rate
steps-positive R12 = omega arith
steps-positive R23 = omega arith
steps-positive R34 = omega arith
steps-positive R56 = omega arith
steps-positive R78 = omega arith

pub bits-positive : (rate : Rate) → 0 < rate_bits rate
bits-positive R12 = omega arith
bits-positive R23 = omega arith
bits-positive R34 = omega arith
bits-positive R56 = omega arith
bits-positive R78 = omega arith

fits_by : (rate : Rate) (j : ℕ) → j < rate_steps rate → leb (sent_before rate (suc j)) (rate_bits rate) ≡ true
fits_by R12 j h = agree_below_at (λ j. leb (sent_before R12 (suc j)) 2) (λ _. true) 1 j refl h
fits_by R23 j h = agree_below_at (λ j. leb (sent_before R23 (suc j)) 3) (λ _. true) 2 j refl h
fits_by R34 j h = agree_below_at (λ j. leb (sent_before R34 (suc j)) 4) (λ _. true) 3 j refl h
fits_by R56 j h = agree_below_at (λ j. leb (sent_before R56 (suc j)) 6) (λ _. true) 5 j refl h
fits_by R78 j h = agree_below_at (λ j. leb (sent_before R78 (suc j)) 8) (λ _. true) 7 j refl h

-- a step's bits lie in its pattern
pub fits : (rate : Rate) (j : ℕ) → j < rate_steps rate → sent_before rate (suc j) ≤ rate_bits rate
fits rate j h = leb-true _ _ (fits_by rate j h)

-- the step that follows is of the same pattern or begins the next
next_step : (rate : Rate) (n : ℕ)
    → ((suc (n % rate_steps rate) < rate_steps rate) × (suc n % rate_steps rate ≡ suc (n % rate_steps rate)) × (suc n / rate_steps rate ≡ n / rate_steps rate))
    ⊎ ((suc (n % rate_steps rate) ≡ rate_steps rate) × (suc n % rate_steps rate ≡ 0) × (suc n / rate_steps rate ≡ suc (n / rate_steps rate)))
next_step R12 n = inr (omega arith, omega arith, omega arith)
next_step R23 n = elim (cases_lt (suc (n % 2)) 2) [ inl l ↦ inl (l, omega arith, omega arith) | inr l ↦ inr (omega arith, omega arith, omega arith) ]
next_step R34 n = elim (cases_lt (suc (n % 3)) 3) [ inl l ↦ inl (l, omega arith, omega arith) | inr l ↦ inr (omega arith, omega arith, omega arith) ]
next_step R56 n = elim (cases_lt (suc (n % 5)) 5) [ inl l ↦ inl (l, omega arith, omega arith) | inr l ↦ inr (omega arith, omega arith, omega arith) ]
next_step R78 n = elim (cases_lt (suc (n % 7)) 7) [ inl l ↦ inl (l, omega arith, omega arith) | inr l ↦ inr (omega arith, omega arith, omega arith) ]

-- one step more has its own bits more
pub coded_len-suc : (rate : Rate) (n : ℕ) → coded_len rate (suc n) ≡ coded_len rate n + used_at rate (n % rate_steps rate)
coded_len-suc rate n =
    let here = sent-before rate (n % rate_steps rate) (rest-lt rate n) in
    elim (next_step rate n) [
      | inl w ↦ (let there : outputs_before rate (suc n % rate_steps rate) ≡ sent_before rate (suc (n % rate_steps rate)) = ap (outputs_before rate) w.1 ∙ sent-before rate (suc (n % rate_steps rate)) w.0 in
          let patterns : rate_bits rate * (suc n / rate_steps rate) ≡ rate_bits rate * (n / rate_steps rate) = ap (λ q. rate_bits rate * q) w.2 in
          omega (arith, here, there, patterns))
      | inr w ↦ (let none : outputs_before rate (suc n % rate_steps rate) ≡ 0 = ap (outputs_before rate) w.1 ∙ sent-before rate 0 (steps-positive rate) in
          let all : sent_before rate (suc (n % rate_steps rate)) ≡ rate_bits rate = ap (sent_before rate) w.0 ∙ sent-whole rate in
          let patterns : rate_bits rate * (suc n / rate_steps rate) ≡ rate_bits rate * suc (n / rate_steps rate) = ap (λ q. rate_bits rate * q) w.2 in
          omega (arith, here, none, all, patterns))
    ]

-- ---- the outputs at these places

abbrev x_there : Rate → ℕ → Bool
x_there rate j = not (sends_x rate j) || is_x j (output_at rate (sent_before rate j))

abbrev y_there : Rate → ℕ → Bool
y_there rate j = not (sends_y rate j) || is_y j (output_at rate (sent_before rate j + cond (sends_x rate j) 1 0))

x_test : (rate : Rate) (j : ℕ) → j < rate_steps rate → x_there rate j ≡ true
x_test R12 j h = agree_below_at (x_there R12) (λ _. true) 1 j refl h
x_test R23 j h = agree_below_at (x_there R23) (λ _. true) 2 j refl h
x_test R34 j h = agree_below_at (x_there R34) (λ _. true) 3 j refl h
x_test R56 j h = agree_below_at (x_there R56) (λ _. true) 5 j refl h
x_test R78 j h = agree_below_at (x_there R78) (λ _. true) 7 j refl h

y_test : (rate : Rate) (j : ℕ) → j < rate_steps rate → y_there rate j ≡ true
y_test R12 j h = agree_below_at (y_there R12) (λ _. true) 1 j refl h
y_test R23 j h = agree_below_at (y_there R23) (λ _. true) 2 j refl h
y_test R34 j h = agree_below_at (y_there R34) (λ _. true) 3 j refl h
y_test R56 j h = agree_below_at (y_there R56) (λ _. true) 5 j refl h
y_test R78 j h = agree_below_at (y_there R78) (λ _. true) 7 j refl h

is_x-true : (o : Output) (j : ℕ) → is_x j o ≡ true → o ≡ x_of j
is_x-true (x_of a) j h = ap x_of (sym (eqb-true j a h))
is_x-true (y_of a) j h = cc

is_y-true : (o : Output) (j : ℕ) → is_y j o ≡ true → o ≡ y_of j
is_y-true (x_of a) j h = cc
is_y-true (y_of a) j h = ap y_of (sym (eqb-true j a h))

or-second : (a b : Bool) → (not a || b) ≡ true → a ≡ true → b ≡ true
or-second true b e h = e
or-second false b e h = cc

-- coded bit k of those from a step on
coded_bit-at : (rate : Rate) (u : ℕ → Bool) (n k : ℕ) → sent_before rate (n % rate_steps rate) + k < rate_bits rate
    → coded_bit rate u (coded_len rate n + k) ≡ output_bit u (rate_steps rate * (n / rate_steps rate)) (output_at rate (sent_before rate (n % rate_steps rate) + k))
unfolding coded_bit
coded_bit-at rate u n k h =
    let b : ℕ = sent_before rate (n % rate_steps rate) + k in
    let place : coded_len rate n + k ≡ rate_bits rate * (n / rate_steps rate) + b = omega (arith, sent-before rate (n % rate_steps rate) (rest-lt rate n)) in
    ap (λ c. output_bit u (rate_steps rate * (c / rate_bits rate)) (output_at rate (c % rate_bits rate))) place
    ∙ ap (λ q. output_bit u (rate_steps rate * q) (output_at rate ((rate_bits rate * (n / rate_steps rate) + b) % rate_bits rate))) (div-part rate (n / rate_steps rate) b h)
    ∙ ap (λ r. output_bit u (rate_steps rate * (n / rate_steps rate)) (output_at rate r)) (mod-part rate (n / rate_steps rate) b h)

sent_x : (rate : Rate) (j : ℕ) → sends_x rate j ≡ true → sent_before rate j < sent_before rate (suc j)
sent_x rate j h = let one : cond {A = ℕ} (sends_x rate j) 1 0 ≡ 1 = ap (λ b. cond b 1 0) h in omega arith

sent_y : (rate : Rate) (j : ℕ) → sends_y rate j ≡ true → sent_before rate j + cond (sends_x rate j) 1 0 < sent_before rate (suc j)
sent_y rate j h = let one : cond {A = ℕ} (sends_y rate j) 1 0 ≡ 1 = ap (λ b. cond b 1 0) h in omega arith

-- X of a step comes first
pub coded_bit-x : (rate : Rate) (u : ℕ → Bool) (n : ℕ) → sends_x rate (n % rate_steps rate) ≡ true → coded_bit rate u (coded_len rate n) ≡ x_bit u n
coded_bit-x rate u n h =
    let j : ℕ = n % rate_steps rate in
    let lt = rest-lt rate n in
    let first : coded_len rate n ≡ coded_len rate n + 0 = sym (add-zero (coded_len rate n)) in
    ap (coded_bit rate u) first
    ∙ coded_bit-at rate u n 0 (omega (arith, fits rate j lt, sent_x rate j h))
    ∙ ap (λ b. output_bit u (rate_steps rate * (n / rate_steps rate)) (output_at rate b)) (add-zero (sent_before rate j))
    ∙ ap (output_bit u (rate_steps rate * (n / rate_steps rate))) (is_x-true _ j (or-second _ _ (x_test rate j lt) h))
    ∙ ap (x_bit u) (whole rate n)

-- and Y follows
pub coded_bit-y : (rate : Rate) (u : ℕ → Bool) (n : ℕ) → sends_y rate (n % rate_steps rate) ≡ true → coded_bit rate u (coded_len rate n + cond (sends_x rate (n % rate_steps rate)) 1 0) ≡ y_bit u n
coded_bit-y rate u n h =
    let j : ℕ = n % rate_steps rate in
    let lt = rest-lt rate n in
    coded_bit-at rate u n (cond (sends_x rate j) 1 0) (omega (arith, fits rate j lt, sent_y rate j h))
    ∙ ap (output_bit u (rate_steps rate * (n / rate_steps rate))) (is_y-true _ j (or-second _ _ (y_test rate j lt) h))
    ∙ ap (y_bit u) (whole rate n)

pub whole-none : (rate : Rate) → 0 % rate_steps rate ≡ 0
whole-none R12 = refl
whole-none R23 = refl
whole-none R34 = refl
whole-none R56 = refl
whole-none R78 = refl

-- ---- the cost of a path, step by step

-- an input some steps before the newest of a path
earlier-bit : (p : List Bool) (n d : ℕ) → length p ≡ suc n → earlier_bit (path_bit p) n d ≡ bit p d
earlier-bit p n d e =
    elim (leb_tells d n) [
      | inl within ↦ (let place : length p - 1 - (n - d) ≡ d = omega (arith, within.1) in rw within.0 (ap (λ i. get_or p i false) place))
      | inr beyond ↦ rw beyond.0 (sym (get_or_past p d false (omega (arith, beyond.1))))
    ]

newest-bit : (p : List Bool) (n : ℕ) → length p ≡ suc n → path_bit p n ≡ bit p 0
newest-bit p n e = let place : length p - 1 - n ≡ 0 = omega arith in ap (λ i. get_or p i false) place

sum_x-path : (p : List Bool) (n : ℕ) → length p ≡ suc n → x_bit (path_bit p) n ≡ sum_x p
sum_x-path p n e = rw (newest-bit p n e, earlier-bit p n 1 e, earlier-bit p n 2 e, earlier-bit p n 3 e, earlier-bit p n 6 e) refl

sum_y-path : (p : List Bool) (n : ℕ) → length p ≡ suc n → y_bit (path_bit p) n ≡ sum_y p
sum_y-path p n e = rw (newest-bit p n e, earlier-bit p n 2 e, earlier-bit p n 3 e, earlier-bit p n 5 e, earlier-bit p n 6 e) refl

-- the older bits of a path
older-bits : (x : Bool) (t : List Bool) (i : ℕ) → i < length t → path_bit (x ∷ t) i ≡ path_bit t i
older-bits x t i h = let place : length (x ∷ t) - 1 - i ≡ suc (length t - 1 - i) = omega arith in ap (λ k. get_or (x ∷ t) k false) place

count-more : (f : ℕ → Bool) (n a : ℕ) → count_by f (range_with_len a (suc n)) ≡ count_by f (range_with_len a n) + cond (f (a + n)) 1 0
count-more f zero a = ap (λ k. 0 + cond (f k) 1 0) (sym (add-zero a))
count-more f (suc n) a =
    let last : a + 1 + n ≡ a + suc n = omega arith in
    let others : sum_by (λ k. cond (f k) 1 0) (range_with_len (a + 1) (suc n)) ≡ sum_by (λ k. cond (f k) 1 0) (range_with_len (a + 1) n) + cond (f (a + 1 + n)) 1 0 = count-more f n (a + 1) in
    let same : cond {A = ℕ} (f (a + 1 + n)) 1 0 ≡ cond (f (a + suc n)) 1 0 = ap (λ k. cond (f k) 1 0) last in
    sum_by-cons (λ k. cond (f k) 1 0) a (range_with_len (a + 1) (suc n))
    ∙ omega (arith, others, same, sum_by-cons (λ k. cond (f k) 1 0) a (range_with_len (a + 1) n))

count-next : (f : ℕ → Bool) (n : ℕ) → count_by f (range_with_len 0 (suc n)) ≡ count_by f (range_with_len 0 n) + cond (f n) 1 0
count-next f n = count-more f n 0 ∙ ap (λ k. count_by f (range_with_len 0 n) + cond (f k) 1 0) (zero-add n)

-- the bits of one step
count-step : (f : ℕ → Bool) (n : ℕ) (sx sy : Bool)
    → count_by f (range_with_len 0 (n + (cond sx 1 0 + cond sy 1 0))) ≡ count_by f (range_with_len 0 n) + (cond sx (cond (f n) 1 0) 0 + cond sy (cond (f (n + cond sx 1 0)) 1 0) 0)
count-step f n false false = let e : n + 0 ≡ n = add-zero n in ap (λ k. count_by f (range_with_len 0 k)) e ∙ sym (add-zero (count_by f (range_with_len 0 n)))
count-step f n true false = let e : n + 1 ≡ suc n = omega arith in ap (λ k. count_by f (range_with_len 0 k)) e ∙ omega (arith, count-next f n)
count-step f n false true = let e : n + 1 ≡ suc n = omega arith in let z : cond {A = ℕ} (f (n + 0)) 1 0 ≡ cond (f n) 1 0 = ap (λ k. cond (f k) 1 0) (add-zero n) in ap (λ k. count_by f (range_with_len 0 k)) e ∙ omega (arith, count-next f n, z)
count-step f n true true =
    let e : n + 2 ≡ suc (suc n) = omega arith in
    let z : cond {A = ℕ} (f (n + 1)) 1 0 ≡ cond (f (suc n)) 1 0 = (let one : n + 1 ≡ suc n = omega arith in ap (λ k. cond (f k) 1 0) one) in
    ap (λ k. count_by f (range_with_len 0 k)) e ∙ omega (arith, count-next f (suc n), count-next f n, z)

-- an output's place counts where it is sent
part_is : (s b v r : Bool) → (s ≡ true → b ≡ v) → ◌≡◌ {A = ℕ} (cond s (cond (b ⊕ r) 1 0) 0) (differs (cond s (decision_of r) Punctured) v)
part_is false b v r h = refl
part_is true b v true h = rw (h refl) (one_read v)
  where
    one_read : (v : Bool) → cond {A = ℕ} (v ⊕ true) 1 0 ≡ cond v 0 1
    one_read true = refl
    one_read false = refl
part_is true b v false h = rw (h refl) (zero_read v)
  where
    zero_read : (v : Bool) → cond {A = ℕ} (v ⊕ false) 1 0 ≡ cond v 1 0
    zero_read true = refl
    zero_read false = refl

branch-parts : (r : Received) (x : Bool) (t : List Bool) → branch_metric r x (bit t 0) (bit t 1) (bit t 2) (bit t 3) (bit t 4) (bit t 5) ≡ differs r.x (sum_x (x ∷ t)) + differs r.y (sum_y (x ∷ t))
unfolding branch_metric
branch-parts r x t = refl

cost-none : (rate : Rate) (read u : ℕ → Bool) → coded_cost rate read 0 u ≡ 0
unfolding coded_cost
cost-none R12 read u = refl
cost-none R23 read u = refl
cost-none R34 read u = refl
cost-none R56 read u = refl
cost-none R78 read u = refl

-- a path costs what its older bits cost and what its newest step costs
cost-step : (rate : Rate) (read : ℕ → Bool) (x : Bool) (t : List Bool)
    → path_cost rate read (x ∷ t) ≡ branch_metric (received_at rate read (length t)) x (bit t 0) (bit t 1) (bit t 2) (bit t 3) (bit t 4) (bit t 5) + path_cost rate read t
unfolding coded_cost
cost-step rate read x t =
    let n : ℕ = length t in
    let u : ℕ → Bool = path_bit (x ∷ t) in
    let sx : Bool = sends_x rate (n % rate_steps rate) in
    let sy : Bool = sends_y rate (n % rate_steps rate) in
    let f : ℕ → Bool = λ c. coded_bit rate (path_bit (x ∷ t)) c ⊕ read c in
    let g : ℕ → Bool = λ c. coded_bit rate (path_bit t) c ⊕ read c in
    let before : count_by f (range_with_len 0 (coded_len rate n)) ≡ count_by g (range_with_len 0 (coded_len rate n)) =
    count-same f g 0 (coded_len rate n) (λ c a b. ap (λ v. v ⊕ read c) (coded_bit-prefix rate (path_bit (x ∷ t)) (path_bit t) n (λ i l. older-bits x t i l) c (omega arith))) in
    let xs = part_is sx (coded_bit rate u (coded_len rate n)) (sum_x (x ∷ t)) (read (coded_len rate n)) (λ h. coded_bit-x rate u n h ∙ sum_x-path (x ∷ t) n refl) in
    let ys = part_is sy (coded_bit rate u (coded_len rate n + cond sx 1 0)) (sum_y (x ∷ t)) (read (coded_len rate n + cond sx 1 0)) (λ h. coded_bit-y rate u n h ∙ sum_y-path (x ∷ t) n refl) in
    ap (λ k. count_by f (range_with_len 0 k)) (coded_len-suc rate n)
    ∙ count-step f (coded_len rate n) sx sy
    ∙ omega (arith, before, xs, ys, branch-parts (received_at rate read n) x t)

-- the trellis counts the cost of a path
pub trellis-cost : (rate : Rate) (read : ℕ → Bool) (p : List Bool) → list_metric (received_steps rate read (length p)) p ≡ path_cost rate read p
trellis-cost rate read [] = sym (cost-none rate read (path_bit []))
trellis-cost rate read (x ∷ t) = omega (arith, cost-step rate read x t, trellis-cost rate read t)

pub length-received : (rate : Rate) (read : ℕ → Bool) (n : ℕ) → length (received_steps rate read n) ≡ n
length-received rate read zero = refl
length-received rate read (suc n) = ap suc (length-received rate read n)
