-- The least path of all starts from zeros.
use Rattle.std.proofs.Common.{◌≡◌, ℕ, ◌+◌, ◌*◌, ◌++◌, get_or, ◌∷◌, ◌<◌, ◌≤◌, ◌⊎◌, inl, inr, Bool, true, false, cond, List, [], length, take, drop, refl, ◌∙◌, ap, sym, arith, zero, suc, length-append, length-drop}
use Rattle.std.specs.Prelude.{min}
use Rattle.std.proofs.lemmas.List.{length-take-le, take-append-drop, get_or_append_left}
use Rattle.std.proofs.lemmas.Bool.{cases_lt}
use Rattle.viterbi_hard.specs.declared.received.Received.{Received}
use Rattle.viterbi_hard.specs.LeastPath.{no_later, IsLeast}
use Rattle.viterbi_hard.specs.Trellis.{IsChosen, TrellisState, branch_metric, newest_state, path_metric, survivor, previous, path_of, start_metric, any_of, bit, list_metric}
use Rattle.viterbi_hard.proofs.TrellisLaws.{branch_metric_le, chosen_least, length-survivor}

abbrev pub zeros : List Bool
zeros = false ∷ false ∷ false ∷ false ∷ false ∷ false ∷ []

-- the metric of a whole list, with the six bits of the start last
abbrev pub whole_cost : List Received → List Bool → ℕ
whole_cost [] l = start_metric (newest_state l)
whole_cost (r ∷ rs) [] = 0
whole_cost (r ∷ rs) (x ∷ l) =
    branch_metric r x (bit l 0) (bit l 1) (bit l 2) (bit l 3) (bit l 4) (bit l 5) + whole_cost rs l

pub path_metric-path_of : (rs : List Received) (s : TrellisState) (t : List Bool) → length t ≡ length rs → path_metric rs s t ≡ whole_cost rs (path_of s t)
path_metric-path_of [] s t e = refl
path_metric-path_of (r ∷ rs) s [] e = absurd (omega arith)
path_metric-path_of (r ∷ rs) s (g ∷ t) e =
    ap (λ n. branch_metric r s.u1 s.u2 s.u3 s.u4 s.u5 s.u6 g + n) (path_metric-path_of rs (previous s g) t (omega arith))

bit-zeros : (i : ℕ) → get_or zeros i false ≡ false
bit-zeros zero = refl
bit-zeros (suc zero) = refl
bit-zeros (suc (suc zero)) = refl
bit-zeros (suc (suc (suc zero))) = refl
bit-zeros (suc (suc (suc (suc zero)))) = refl
bit-zeros (suc (suc (suc (suc (suc zero))))) = refl
bit-zeros (suc (suc (suc (suc (suc (suc i)))))) = refl

bit-append_zeros : (h : List Bool) (i : ℕ) → get_or (h ++ zeros) i false ≡ get_or h i false
bit-append_zeros [] i = bit-zeros i
bit-append_zeros (x ∷ h) zero = refl
bit-append_zeros (x ∷ h) (suc i) = bit-append_zeros h i

branch_same : (r : Received) (x : Bool) (l m : List Bool) → ((i : ℕ) → i < 6 → get_or l i false ≡ get_or m i false) → branch_metric r x (bit l 0) (bit l 1) (bit l 2) (bit l 3) (bit l 4) (bit l 5) ≡ branch_metric r x (bit m 0) (bit m 1) (bit m 2) (bit m 3) (bit m 4) (bit m 5)
branch_same r x l m h = rw (h 0 (omega arith), h 1 (omega arith), h 2 (omega arith), h 3 (omega arith), h 4 (omega arith), h 5 (omega arith))

pub whole_cost-zeros : (rs : List Received) (h : List Bool) → length h ≡ length rs → whole_cost rs (h ++ zeros) ≡ list_metric rs h
whole_cost-zeros [] [] e = refl
whole_cost-zeros [] (x ∷ h) e = absurd (omega arith)
whole_cost-zeros (r ∷ rs) [] e = absurd (omega arith)
whole_cost-zeros (r ∷ rs) (x ∷ h) e =
    omega (
      arith,
      branch_same r x (h ++ zeros) h (λ i _. bit-append_zeros h i),
      whole_cost-zeros rs h (omega arith),
    )

-- to start from zeros in place of other bits changes the outputs of at most six steps
whole_cost-start : (rs : List Received) (h st : List Bool) → length h ≡ length rs → start_metric (newest_state st) ≡ 16 → whole_cost rs (h ++ zeros) + 16 ≤ whole_cost rs (h ++ st) + min (2 * length rs) 12
whole_cost-start [] [] st e k = omega arith
whole_cost-start [] (x ∷ h) st e k = absurd (omega arith)
whole_cost-start (r ∷ rs) [] st e k = absurd (omega arith)
whole_cost-start (r ∷ rs) (x ∷ h) st e k =
    let less = whole_cost-start rs h st (omega arith) k in
    elim (cases_lt (length rs) 6) [
      | inl l ↦ omega (arith, less, branch_metric_le r x (bit (h ++ zeros) 0) (bit (h ++ zeros) 1) (bit (h ++ zeros) 2) (bit (h ++ zeros) 3) (bit (h ++ zeros) 4) (bit (h ++ zeros) 5))
      | inr l ↦ omega (arith, less, branch_same r x (h ++ zeros) (h ++ st) (λ i lt. bit-append_zeros h i ∙ sym (get_or_append_left h st false i (omega arith))))
    ]

any_none : (a b c d e f : Bool) → any_of (record { u1 = a; u2 = b; u3 = c; u4 = d; u5 = e; u6 = f }) ≡ false → (a ∷ b ∷ c ∷ d ∷ e ∷ f ∷ []) ≡ zeros
any_none true b c d e f h = cc
any_none false true c d e f h = cc
any_none false false true d e f h = cc
any_none false false false true e f h = cc
any_none false false false false true f h = cc
any_none false false false false false true h = cc
any_none false false false false false false h = refl

pub path_of-split : (l : List Bool) (n : ℕ) → length l ≡ n + 6 → path_of (newest_state l) (drop 6 l) ≡ l
path_of-split [] n e = absurd (omega arith)
path_of-split (a ∷ []) n e = absurd (omega arith)
path_of-split (a ∷ b ∷ []) n e = absurd (omega arith)
path_of-split (a ∷ b ∷ c ∷ []) n e = absurd (omega arith)
path_of-split (a ∷ b ∷ c ∷ d ∷ []) n e = absurd (omega arith)
path_of-split (a ∷ b ∷ c ∷ d ∷ f ∷ []) n e = absurd (omega arith)
path_of-split (a ∷ b ∷ c ∷ d ∷ f ∷ g ∷ l) n e = refl

nil : (l : List Bool) → length l ≡ 0 → l ≡ []
nil [] e = refl
nil (x ∷ l) e = absurd (omega arith)

-- where six bits cost nothing at the start, they are zeros
start_free : (st : List Bool) → length st ≡ 6 → (b : Bool) → any_of (newest_state st) ≡ b → (start_metric (newest_state st) ≡ 16) ⊎ (st ≡ zeros)
start_free st e true h = inl (ap (λ v. cond v 16 0) h)
start_free st e false h =
    let none : drop 6 st ≡ [] = nil (drop 6 st) (omega (arith, length-drop 6 st)) in
    inr (sym (path_of-split st 0 e) ∙ ap (λ t. path_of (newest_state st) t) none ∙ any_none _ _ _ _ _ _ h)

no_later_append : (p q z : List Bool) → length p ≡ length q → no_later (p ++ z) (q ++ z) ≡ true → no_later p q ≡ true
no_later_append [] q z e h = refl
no_later_append (x ∷ p) [] z e h = absurd (omega arith)
no_later_append (false ∷ p) (false ∷ q) z e h = no_later_append p q z (omega arith) h
no_later_append (false ∷ p) (true ∷ q) z e h = refl
no_later_append (true ∷ p) (false ∷ q) z e h = cc
no_later_append (true ∷ p) (true ∷ q) z e h = no_later_append p q z (omega arith) h

-- the best of the survivors against any list of bits, with zeros before it
against : (rs : List Received) (s : TrellisState) → IsChosen rs s → (q : List Bool) → length q ≡ length rs →
    (path_metric rs s (survivor rs s) < list_metric rs q)
    ⊎ ((path_metric rs s (survivor rs s) ≡ list_metric rs q) × (no_later (path_of s (survivor rs s)) (q ++ zeros) ≡ true))
against rs s h q e =
    let long : length (q ++ zeros) ≡ length rs + 6 = omega (arith, length-append q zeros) in
    let same : path_of (newest_state (q ++ zeros)) (drop 6 (q ++ zeros)) ≡ q ++ zeros = path_of-split (q ++ zeros) (length rs) long in
    let rest : length (drop 6 (q ++ zeros)) ≡ length rs = omega (arith, length-drop 6 (q ++ zeros)) in
    let metrics : path_metric rs (newest_state (q ++ zeros)) (drop 6 (q ++ zeros)) ≡ list_metric rs q =
    path_metric-path_of rs (newest_state (q ++ zeros)) (drop 6 (q ++ zeros)) rest
    ∙ ap (λ l. whole_cost rs l) same
    ∙ whole_cost-zeros rs q e in
    elim (chosen_least rs s h (newest_state (q ++ zeros)) (drop 6 (q ++ zeros)) rest) [
      | inl l ↦ inl (omega (arith, metrics))
      | inr w ↦ inr (w.0 ∙ metrics, (let f : List Bool → Bool = λ l. no_later (path_of s (survivor rs s)) l in sym (ap f same) ∙ w.1))
    ]

-- it starts from zeros
chosen_zeros : (rs : List Received) (s : TrellisState) → IsChosen rs s → drop (length rs) (path_of s (survivor rs s)) ≡ zeros
chosen_zeros rs s h =
    let long : length (path_of s (survivor rs s)) ≡ length rs + 6 = omega (arith, length-survivor rs s) in
    let p : List Bool = take (length rs) (path_of s (survivor rs s)) in
    let st : List Bool = drop (length rs) (path_of s (survivor rs s)) in
    let p_long : length p ≡ length rs = length-take-le (length rs) (path_of s (survivor rs s)) (omega arith) in
    let st_long : length st ≡ 6 = omega (arith, length-drop (length rs) (path_of s (survivor rs s))) in
    let metrics : path_metric rs s (survivor rs s) ≡ whole_cost rs (p ++ st) =
    path_metric-path_of rs s (survivor rs s) (length-survivor rs s) ∙ ap (λ l. whole_cost rs l) (sym (take-append-drop (length rs) (path_of s (survivor rs s)))) in
    elim (start_free st st_long _ refl) [
      | inr e ↦ e
      | inl k ↦ elim (against rs s h p p_long) [
        | inl l ↦ absurd (omega (arith, metrics, whole_cost-start rs p st p_long k, whole_cost-zeros rs p p_long))
        | inr w ↦ absurd (omega (arith, w.0, metrics, whole_cost-start rs p st p_long k, whole_cost-zeros rs p p_long))
      ]
    ]

-- without the zeros it is the least path
pub chosen_is_least : (rs : List Received) (s : TrellisState) → IsChosen rs s → IsLeast (list_metric rs) (length rs) (take (length rs) (path_of s (survivor rs s)))
chosen_is_least rs s h =
    let p : List Bool = take (length rs) (path_of s (survivor rs s)) in
    let p_long : length p ≡ length rs = length-take-le (length rs) (path_of s (survivor rs s)) (omega (arith, length-survivor rs s)) in
    let parts : path_of s (survivor rs s) ≡ p ++ zeros =
    sym (take-append-drop (length rs) (path_of s (survivor rs s))) ∙ ap (λ z. p ++ z) (chosen_zeros rs s h) in
    let metrics : path_metric rs s (survivor rs s) ≡ list_metric rs p =
    path_metric-path_of rs s (survivor rs s) (length-survivor rs s) ∙ ap (λ l. whole_cost rs l) parts ∙ whole_cost-zeros rs p p_long in
    record {
      long = p_long;
      least = λ q e. elim (against rs s h q e) [
        | inl l ↦ inl (omega (arith, metrics))
        | inr w ↦ inr (sym metrics ∙ w.0, no_later_append p q zeros (p_long ∙ sym e) (rw parts at w.1))
      ];
    }
