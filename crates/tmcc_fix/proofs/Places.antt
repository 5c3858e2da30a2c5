-- Numbers of places that stand twice over, and zeros.
use Rattle.std.proofs.Common.{◌≡◌, ℕ, ◌+◌, ◌%◌, ◌≤◌, ◌<◌, refl, true, arith, ap, sym, ◌∙◌, inl, inr, List, [], ◌++◌, length, get_or, take, drop, replicate, length-drop}
use Rattle.std.proofs.lemmas.List.{get_or-replicate, get_or_past, get_or_append_left, get_or-append-add, length-replicate, drop_all, append-nil}
use Rattle.std.specs.Prelude.{nat_lt}
use Rattle.std.proofs.lemmas.Bool.{agree_below, agree_below_at, ltb-true}
use Rattle.std.proofs.lemmas.Bool.Decides.{leb_tells}
use Rattle.std.proofs.Math.Seq.{take-append_seam, drop-append_seam}
use Rattle.tmcc_fix.specs.declared.checks.TheConstants.{RESIDUES}

abbrev zeros : ℕ → List ℕ
zeros n = replicate n 0

-- the residues are below 273
residues_test : agree_below (λ i. nat_lt (get_or RESIDUES i 0) 273) (λ _. true) 17 ≡ true
residues_test = refl

pub residue-lt : (i : ℕ) → i < 17 → get_or RESIDUES i 0 < 273
residue-lt i h = ltb-true _ _ (agree_below_at (λ i. nat_lt (get_or RESIDUES i 0) 273) (λ _. true) 17 i residues_test h)

pub none-at : (n k : ℕ) → get_or (zeros n) k 0 ≡ 0
none-at n k =
    elim (leb_tells n k) [
      | inl past ↦ get_or_past (zeros n) k 0 (let l = length-replicate {A = ℕ} n 0 in let h = past.1 in omega (arith, l, h))
      | inr here ↦ get_or-replicate n k 0 0 here.1
    ]

pub none-le : (n k : ℕ) → get_or (zeros n) k 0 ≤ 0
none-le n k = let z = none-at n k in omega (arith, z)

-- the place that a number has twice over
pub twice-at : (xs : List ℕ) (i : ℕ) → length xs ≡ 273 → i < 546 → get_or (xs ++ xs) i 0 ≡ get_or xs (i % 273) 0
twice-at xs i size h =
    elim (leb_tells 273 i) [
      | inl second ↦ (let place : i ≡ length xs + i % 273 = (let e = second.1 in omega (arith, e, size, h)) in
          ap (λ k. get_or (xs ++ xs) k 0) place ∙ get_or-append-add xs xs (i % 273) 0)
      | inr first ↦ (let place : i ≡ i % 273 = (let e = first.1 in omega (arith, e)) in
          get_or_append_left xs xs 0 i (let e = first.1 in omega (arith, e, size)) ∙ ap (λ k. get_or xs k 0) place)
    ]

-- what two writes of the same numbers leave
pub twice-put : (first second rest xs : List ℕ) → first ≡ xs → second ≡ xs → length xs ≡ 273 → length rest ≤ 273 → take 273 (first ++ rest) ++ (second ++ drop 273 (drop 273 (first ++ rest))) ≡ xs ++ xs
twice-put first second rest xs e f size short =
    let n : 273 ≡ length first = sym (ap length e ∙ size) in
    let start : take 273 (first ++ rest) ≡ first = ap (λ k. take k (first ++ rest)) n ∙ take-append_seam first rest in
    let behind : drop 273 (first ++ rest) ≡ rest = ap (λ k. drop k (first ++ rest)) n ∙ drop-append_seam first rest in
    let none : drop 273 (drop 273 (first ++ rest)) ≡ [] = ap (drop 273) behind ∙ drop_all 273 rest short in
    ap (λ l. l ++ (second ++ drop 273 (drop 273 (first ++ rest)))) start
    ∙ ap (λ l. first ++ (second ++ l)) none
    ∙ ap (λ l. first ++ l) (append-nil second ∙ f)
    ∙ ap (λ l. l ++ xs) e

pub zeros-short : length (drop 273 (zeros 546)) ≤ 273
zeros-short = let l = length-drop 273 (zeros 546) in let n = length-replicate {A = ℕ} 546 0 in omega (arith, l, n)
