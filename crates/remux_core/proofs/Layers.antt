-- The layers, one by one.
use Rattle.std.proofs.Common.{◌≡◌, ◌≢◌, ◌⊎◌, inl, inr, refl}
use Rattle.isdbt_base.specs.declared.kinds.Layer.{Layer}
use Rattle.isdbt_base.specs.declared.kinds.Layer.TheVariants.{A, B, C}
use Rattle.remux_core.specs.Refusals.{seat_of}
use Rattle.remux_core.specs.Answers.{place_of}

-- what holds of each layer
pub each : (P : Layer → Type 0) → P A → P B → P C → (x : Layer) → P x
each P a b c A = a
each P a b c B = b
each P a b c C = c

-- two layers are the same, or have other seats and places
pub same_or_other : (x y : Layer) → (y ≡ x) ⊎ ((seat_of y ≢ seat_of x) × (place_of y ≢ place_of x))
same_or_other A A = inl refl
same_or_other A B = inr ((λ e. cc), (λ e. cc))
same_or_other A C = inr ((λ e. cc), (λ e. cc))
same_or_other B A = inr ((λ e. cc), (λ e. cc))
same_or_other B B = inl refl
same_or_other B C = inr ((λ e. cc), (λ e. cc))
same_or_other C A = inr ((λ e. cc), (λ e. cc))
same_or_other C B = inr ((λ e. cc), (λ e. cc))
same_or_other C C = inl refl
