-- Each slot names one layer or none.
use Rattle.std.proofs.Common.{◌≡◌, ℕ, ◌+◌, ◌/◌, List, [], ◌∷◌, Option, Some, None, length, refl, ◌∙◌, arith}
use Rattle.std.specs.Prelude.{filter, is_none}
use Rattle.std.proofs.lemmas.List.FromFn.{length-range_with_len}
use Rattle.isdbt_base.specs.declared.kinds.Layer.{Layer}
use Rattle.isdbt_base.specs.declared.kinds.Layer.TheVariants.{A, B, C}
use Rattle.bts_info.specs.Information.{layer_named}
use Rattle.coder_core.specs.FrameChecks.{information_in, same_layer, slots_of, layer_count, unused_slots}

-- how many of a list name a layer, and how many name none
abbrev naming : (ℕ → Option Layer) → Layer → List ℕ → ℕ
naming named x slots = length (filter (λ slot. same_layer x (named slot)) slots)

abbrev unused : (ℕ → Option Layer) → List ℕ → ℕ
unused named slots = length (filter (λ slot. is_none (named slot)) slots)

one-more : (named : ℕ → Option Layer) (slot : ℕ) (slots : List ℕ) (o : Option Layer) → named slot ≡ o → naming named A slots + naming named B slots + naming named C slots + unused named slots ≡ length slots
    → naming named A (slot ∷ slots) + naming named B (slot ∷ slots) + naming named C (slot ∷ slots) + unused named (slot ∷ slots) ≡ length (slot ∷ slots)
one-more named slot slots None e rest = rw e (omega (arith, rest))
one-more named slot slots (Some A) e rest = rw e (omega (arith, rest))
one-more named slot slots (Some B) e rest = rw e (omega (arith, rest))
one-more named slot slots (Some C) e rest = rw e (omega (arith, rest))

add-up : (named : ℕ → Option Layer) (slots : List ℕ) → naming named A slots + naming named B slots + naming named C slots + unused named slots ≡ length slots
add-up named [] = refl
add-up named (slot ∷ slots) = one-more named slot slots (named slot) refl (add-up named slots)

-- the counts add up to the slots of the frame
pub counts-add_up : (frame : List ℕ) → layer_count frame A + layer_count frame B + layer_count frame C + length (unused_slots frame) ≡ length frame / 204
counts-add_up frame = add-up (λ slot. layer_named (information_in frame slot)) (slots_of frame) ∙ length-range_with_len 0 (length frame / 204)
