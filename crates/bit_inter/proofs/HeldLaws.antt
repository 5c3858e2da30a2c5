-- How many bits the stages hold.
use Rattle.std.proofs.Common.{◌≡◌, ℕ, ◌*◌, ◌⊎◌, inl, inr, map, sum, refl, arith}
use Rattle.std.specs.List.{range_with_len}
use Rattle.std.proofs.lemmas.Bool.{cases_lt}
use Rattle.bit_inter.specs.Layouts.{inter_layout, deinter_layout, IsCellWidth}

width-cases : (v : ℕ) → IsCellWidth v → (v ≡ 2) ⊎ (v ≡ 4) ⊎ (v ≡ 6)
width-cases v width =
    elim (cases_lt v 4) [
      | inl small ↦ inl (omega (arith, small, width.least, width.even))
      | inr more ↦ elim (cases_lt v 6) [
        | inl middle ↦ inr (inl (omega (arith, more, middle, width.even)))
        | inr large ↦ inr (inr (omega (arith, large, width.most)))
      ]
    ]

inter-sum : (v : ℕ) → (v ≡ 2) ⊎ (v ≡ 4) ⊎ (v ≡ 6) → sum (map (inter_layout v).path_delay (range_with_len 0 v)) ≡ 60 * v
inter-sum v (inl e) = rw e refl
inter-sum v (inr (inl e)) = rw e refl
inter-sum v (inr (inr e)) = rw e refl

deinter-sum : (v : ℕ) → (v ≡ 2) ⊎ (v ≡ 4) ⊎ (v ≡ 6) → sum (map (deinter_layout v).path_delay (range_with_len 0 v)) ≡ 60 * v
deinter-sum v (inl e) = rw e refl
deinter-sum v (inr (inl e)) = rw e refl
deinter-sum v (inr (inr e)) = rw e refl

pub inter-held : (v : ℕ) → IsCellWidth v → sum (map (inter_layout v).path_delay (range_with_len 0 v)) ≡ 60 * v
inter-held v width = inter-sum v (width-cases v width)

pub deinter-held : (v : ℕ) → IsCellWidth v → sum (map (deinter_layout v).path_delay (range_with_len 0 v)) ≡ 60 * v
deinter-held v width = deinter-sum v (width-cases v width)
