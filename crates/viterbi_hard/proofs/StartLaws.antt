-- The lanes and the blocks at the start.
use Rattle.std.proofs.Common.{◌≡◌, ℕ, ◌*◌, ◌^◌, ◌<◌, true, List, [], eqb, drop, get_or, set, replicate, refl, subst, sym, ap, ◌∙◌, arith}
use Rattle.std.proofs.Math.Nat.{zero-div}
use Rattle.std.proofs.lemmas.Bool.{agree_below_at, eqb-true}
use Rattle.std.proofs.lemmas.List.{drop_all, get_or-replicate}
use Rattle.viterbi_hard.specs.Trellis.{start_metric}
use Rattle.viterbi_hard.specs.declared.blocks.Blocks.{Blocks}
use Rattle.viterbi_hard.specs.States.{Holds, IsLabel, IsTag, odd, path_at, state_of}
use Rattle.viterbi_hard.specs.Blocks.{Traced, place_back}
use Rattle.viterbi_hard.proofs.TrellisLaws.{start_metric_le}

-- 0 at state 0, and 16 at each other
abbrev pub first_metrics : List ℕ
first_metrics = set (replicate 64 16) 0 0

first_metric : (n : ℕ) → n < 64 → eqb (get_or first_metrics n 0) (start_metric (state_of n)) ≡ true
first_metric n h = agree_below_at (λ n. eqb (get_or first_metrics n 0) (start_metric (state_of n))) (λ _. true) 64 n refl h

pub started : Holds first_metrics 0 []
started = record {
  base = 0;
  metric_of = λ n h. omega (arith, eqb-true _ _ (first_metric n h));
  low = λ n h. omega (arith, eqb-true _ _ (first_metric n h), start_metric_le (state_of n));
}

-- before the first step all blocks are zeros, to which a map of zeros leads
no_steps : (k n : ℕ) → path_at (drop k []) n ≡ path_at [] n
no_steps k n = ap (λ rs. path_at rs n) (drop_all k [] (omega arith))

zero_tag : (n : ℕ) → IsTag 0 8 (path_at [] n)
zero_tag n = record { state = refl; first = λ le. refl; second = λ le. refl; young = λ lt. absurd (omega arith) }

zero_label : (n : ℕ) → IsLabel 0 (drop 120 (path_at [] n))
zero_label n j h = ap odd (zero-div (2 ^ j))

pub nothing_traced : (blocks : Blocks) → blocks.maps ≡ replicate 16 (replicate 64 0) → blocks.known ≡ 0 → blocks.table ≡ replicate 64 0 → blocks.kept.left ≡ 0 → Traced blocks []
nothing_traced blocks m e t l = record {
  maps = λ b h n lt.
      let place : place_back blocks.oldest b < 16 = omega arith in
      let none : get_or (get_or blocks.maps (place_back blocks.oldest b) []) n 0 ≡ 0 =
      ap (λ l. get_or (get_or l (place_back blocks.oldest b) []) n 0) m
      ∙ ap (λ l. get_or l n 0) (get_or-replicate {A = List ℕ} 16 (place_back blocks.oldest b) (replicate 64 0) [] place)
      ∙ get_or-replicate {A = ℕ} 64 n 0 0 lt in
      subst (λ v. IsTag v 8 (path_at (drop (8 * b) []) n)) (sym none) (subst (λ p. IsTag 0 8 p) (sym (no_steps (8 * b) n)) (zero_tag n));
  few = omega arith;
  labels = λ b h le. absurd (omega arith);
  table = λ z n h. subst (λ v. IsLabel v (drop 120 (path_at [] n))) (sym (ap (λ l. get_or l n 0) t ∙ get_or-replicate {A = ℕ} 64 n 0 0 h)) (zero_label n);
  short = omega arith;
  kept = λ b h le. absurd (omega arith);
}
