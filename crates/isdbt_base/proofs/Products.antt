-- What is written for the first frames, and for one more.
use Rattle.std.proofs.Common.{◌≡◌, ℕ, ◌+◌, List, [], ◌∷◌, ◌++◌, refl, sym, ◌∙◌, ap, arith, flat_map}
use Rattle.std.specs.List.{range_with_len}
use Rattle.std.proofs.lemmas.List.{map-id, append-nil}
use Rattle.std.proofs.lemmas.List.FromFn.{map-range_with_len_more}
use Rattle.std.proofs.lemmas.List.Concat.{flat_map-append, flat_map-cons}
use Rattle.isdbt_base.specs.Outcome.{product}

range-more : (n : ℕ) → range_with_len 0 (n + 1) ≡ range_with_len 0 n ++ n ∷ []
range-more n = sym (map-id _) ∙ map-range_with_len_more (λ x. x) 0 n n (omega arith) ∙ ap (λ xs. xs ++ n ∷ []) (map-id _)

pub product-none : (frame : ℕ → List ℕ) → product frame 0 ≡ []
unfolding product
product-none frame = refl

pub product-more : (frame : ℕ → List ℕ) (m : ℕ) → product frame (m + 1) ≡ product frame m ++ frame m
unfolding product
product-more frame m =
    ap (flat_map frame) (range-more m) ∙ flat_map-append frame (range_with_len 0 m) (m ∷ [])
    ∙ ap (λ xs. flat_map frame (range_with_len 0 m) ++ xs) (flat_map-cons frame m [] ∙ append-nil (frame m))
