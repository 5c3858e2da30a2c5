-- The bit that the trellis decides is the decided bit of the definition.
use Rattle.std.proofs.Common.{◌≡◌, ℕ, zero, suc, ◌+◌, ◌-◌, ◌<◌, ◌≤◌, Bool, false, List, [], ◌∷◌, length, get_or, refl, ap, sym, ◌∙◌, subst, arith, inl, inr}
use Rattle.std.proofs.Math.Nat.{eq-or-lt_of_le}
use Rattle.std.proofs.lemmas.Bool.Decides.{eqb_tells}
use Rattle.isdbt_base.specs.declared.kinds.Rate.{Rate}
use Rattle.isdbt_base.specs.Bits.{◌⊕◌}
use Rattle.isdbt_base.proofs.RangeLaws.{count-same}
use Rattle.conv_punct.specs.CodedBits.{coded_bit, coded_len}
use Rattle.conv_punct.specs.CodedCost.{coded_cost}
use Rattle.conv_punct.proofs.CodedLaws.{coded_cost-same, coded_cost-unique}
use Rattle.conv_punct.proofs.PatternLaws.{coded_len-lt}
use Rattle.viterbi_hard.specs.LeastPath.{IsLeast, decided_bit, least_path, path_bit, path_cost}
use Rattle.viterbi_hard.specs.Steps.{received_steps}
use Rattle.viterbi_hard.specs.Trellis.{IsDecided, list_metric}
use Rattle.viterbi_hard.proofs.LeastLaws.{first-is_least, least-same}
use Rattle.viterbi_hard.proofs.StepLaws.{length-received, trellis-cost}
use Rattle.viterbi_hard.proofs.UniqueLaws.{least-unique}

pub least_path-is_least : (rate : Rate) (read : ℕ → Bool) (n : ℕ) → IsLeast (path_cost rate read) n (least_path rate read n)
unfolding least_path
least_path-is_least rate read n = first-is_least (path_cost rate read) n

-- a path that is least by the trellis is the least path
trellis-least : (rate : Rate) (read : ℕ → Bool) (n : ℕ) (p : List Bool) → IsLeast (list_metric (received_steps rate read n)) n p → p ≡ least_path rate read n
trellis-least rate read n p l =
    least-unique (path_cost rate read) n p (least_path rate read n)
    (least-same (list_metric (received_steps rate read n)) (path_cost rate read) n p
    (λ q e. ap (λ m. list_metric (received_steps rate read m) q) (sym e) ∙ trellis-cost rate read q) l)
    (least_path-is_least rate read n)

pub trellis-decides : (rate : Rate) (read : ℕ → Bool) (b : ℕ) (x : Bool) → IsDecided (received_steps rate read (b + 128)) x → x ≡ decided_bit rate read b
trellis-decides rate read b x d =
    let found : IsLeast (list_metric (received_steps rate read (b + 128))) (b + 128) d.path =
    subst (λ m. IsLeast (list_metric (received_steps rate read (b + 128))) m d.path) (length-received rate read (b + 128)) d.least in
    let same : d.path ≡ least_path rate read (b + 128) = trellis-least rate read (b + 128) d.path found in
    let place : 127 ≡ length (least_path rate read (b + 128)) - 1 - b = omega (arith, (least_path-is_least rate read (b + 128)).long) in
    sym d.is ∙ ap (λ p. get_or p 127 false) same ∙ ap (λ k. get_or (least_path rate read (b + 128)) k false) place

-- ---- costs of other read bits

cost-read : (rate : Rate) (read other : ℕ → Bool) (n : ℕ) (u : ℕ → Bool) → ((c : ℕ) → c < coded_len rate n → read c ≡ other c) → coded_cost rate read n u ≡ coded_cost rate other n u
unfolding coded_cost
cost-read rate read other n u h =
    count-same (λ c. coded_bit rate u c ⊕ read c) (λ c. coded_bit rate u c ⊕ other c) 0 (coded_len rate n)
    (λ c a k. ap (λ b. coded_bit rate u c ⊕ b) (h c (omega arith)))

pub window-decided : (rate : Rate) (read other : ℕ → Bool) (b : ℕ) → ((c : ℕ) → c < coded_len rate (b + 128) → read c ≡ other c) → decided_bit rate read b ≡ decided_bit rate other b
window-decided rate read other b h =
    let same : least_path rate read (b + 128) ≡ least_path rate other (b + 128) =
    least-unique (path_cost rate other) (b + 128) (least_path rate read (b + 128)) (least_path rate other (b + 128))
    (least-same (path_cost rate read) (path_cost rate other) (b + 128) (least_path rate read (b + 128))
    (λ q e. cost-read rate read other (length q) (path_bit q) (λ c k. h c (subst (λ m. c < coded_len rate m) e k)))
    (least_path-is_least rate read (b + 128)))
    (least_path-is_least rate other (b + 128)) in
    ap (λ p. path_bit p b) same

-- the path of the first n inputs
path_from : (ℕ → Bool) → ℕ → List Bool
path_from u zero = []
path_from u (suc n) = u n ∷ path_from u n

length-path_from : (u : ℕ → Bool) (n : ℕ) → length (path_from u n) ≡ n
unfolding path_from
length-path_from u zero = refl
length-path_from u (suc n) = ap suc (length-path_from u n)

item-path_from : (u : ℕ → Bool) (n i : ℕ) → i < n → get_or (path_from u n) (n - 1 - i) false ≡ u i
unfolding path_from
item-path_from u zero i h = absurd (omega arith)
item-path_from u (suc n) i h =
    elim (eqb_tells i n) [
      | inl same ↦ (let e : suc n - 1 - i ≡ 0 = omega (arith, same.1) in rw e (ap u (sym same.1)))
      | inr other ↦ (let e : suc n - 1 - i ≡ suc (n - 1 - i) = omega (arith, other.1) in rw e (item-path_from u n i (omega (arith, other.1))))
    ]

path_bit-path_from : (u : ℕ → Bool) (n i : ℕ) → i < n → path_bit (path_from u n) i ≡ u i
path_bit-path_from u n i h = ap (λ m. get_or (path_from u n) (m - 1 - i) false) (length-path_from u n) ∙ item-path_from u n i h

least-le : (rate : Rate) (read : ℕ → Bool) (n : ℕ) (q : List Bool) → length q ≡ n → path_cost rate read (least_path rate read n) ≤ path_cost rate read q
least-le rate read n q e = elim ((least_path-is_least rate read n).least q e) [ inl l ↦ omega arith | inr w ↦ omega (arith, w.0) ]

-- the first n inputs cost nothing where their own coded bits were read
own-cost : (rate : Rate) (u read : ℕ → Bool) (n : ℕ) → ((c : ℕ) → c < coded_len rate n → read c ≡ coded_bit rate u c) → path_cost rate read (path_from u n) ≡ 0
own-cost rate u read n h =
    ap (λ m. coded_cost rate read m (path_bit (path_from u n))) (length-path_from u n)
    ∙ cost-read rate read (coded_bit rate u) n (path_bit (path_from u n)) h
    ∙ coded_cost-same rate u (path_bit (path_from u n)) n (path_bit-path_from u n)

clean-path : (rate : Rate) (u read : ℕ → Bool) (n : ℕ) → ((c : ℕ) → c < coded_len rate n → read c ≡ coded_bit rate u c) → (i : ℕ) → i < n → path_bit (least_path rate read n) i ≡ u i
clean-path rate u read n h =
    let p : List Bool = least_path rate read n in
    let size : length (least_path rate read n) ≡ n = (least_path-is_least rate read n).long in
    let none : path_cost rate read (least_path rate read n) ≡ 0 = (let a = least-le rate read n (path_from u n) (length-path_from u n) in let b = own-cost rate u read n h in omega (arith, a, b)) in
    coded_cost-unique rate u (path_bit p) n
    (sym (cost-read rate read (coded_bit rate u) n (path_bit p) h) ∙ ap (λ m. coded_cost rate read m (path_bit p)) (sym size) ∙ none)

coded_len-le : (rate : Rate) (i n : ℕ) → i ≤ n → coded_len rate i ≤ coded_len rate n
coded_len-le rate i n h = elim (eq-or-lt_of_le h) [
  | inl e ↦ (let same : coded_len rate i ≡ coded_len rate n = ap (coded_len rate) e in omega arith)
  | inr l ↦ omega (arith, coded_len-lt rate i n l)
]

pub clean-decided : (rate : Rate) (u read : ℕ → Bool) (steps : ℕ) → ((c : ℕ) → c < coded_len rate steps → read c ≡ coded_bit rate u c) → (b : ℕ) → b + 128 ≤ steps → decided_bit rate read b ≡ u b
clean-decided rate u read steps h b le = clean-path rate u read (b + 128) (λ c k. h c (omega (arith, coded_len-le rate (b + 128) steps le))) b (omega arith)
