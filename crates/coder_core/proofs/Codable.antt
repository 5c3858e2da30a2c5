-- A frame that no cause refuses can be coded.
use Rattle.std.proofs.Common.{◌≡◌, ℕ, Bool, true, false, List, [], ◌∷◌, Option, Some, None, refl, sym}
use Rattle.std.specs.Prelude.{◌==◌, if◌then◌else◌}
use Rattle.std.specs.Option.{option_map}
use Rattle.std.proofs.lemmas.Bool.{eqb-true}
use Rattle.std.proofs.lemmas.Option.{none-some}
use Rattle.isdbt_base.specs.declared.kinds.Mode.{Mode}
use Rattle.isdbt_base.specs.declared.kinds.Layer.{Layer}
use Rattle.isdbt_base.specs.declared.kinds.Layer.TheVariants.{A, B, C}
use Rattle.isdbt_base.specs.Parameters.{Parameters, layer_of, number_of}
use Rattle.isdbt_base.specs.Numbers.{packets_per_frame}
use Rattle.isdbt_base.specs.Outcome.{first_some}
use Rattle.coder_core.specs.FrameChecks.{bad_sync_slot, misplaced_slot, layer_count, bad_sync, misplaced, wrong_count, refusal, CanCode}

-- none of five
record AllNone {X : Type 0} (a b c d e : Option X) : Type 0 where
  one : a ≡ None
  two : b ≡ None
  three : c ≡ None
  four : d ≡ None
  five : e ≡ None

all_none : {X : Type 0} (a b c d e : Option X) → first_some (a ∷ b ∷ c ∷ d ∷ e ∷ []) ≡ None → AllNone a b c d e
all_none (Some x) b c d e h = absurd (none-some x (sym h))
all_none None (Some x) c d e h = absurd (none-some x (sym h))
all_none None None (Some x) d e h = absurd (none-some x (sym h))
all_none None None None (Some x) e h = absurd (none-some x (sym h))
all_none None None None None (Some x) h = absurd (none-some x (sym h))
all_none None None None None None h = record { one = refl; two = refl; three = refl; four = refl; five = refl }

unmapped : {X Y : Type 0} (f : X → Y) (o : Option X) → option_map f o ≡ None → o ≡ None
unmapped f None h = refl
unmapped f (Some x) h = absurd (none-some (f x) (sym h))

counted : {X : Type 0} (a b : ℕ) (x : X) → (if a == b then None else Some x) ≡ None → a ≡ b
counted a b x h = eqb-true a b (go (a == b) h)
  where
    go : (t : Bool) → (if t then None else Some x) ≡ None → t ≡ true
    go true e = refl
    go false e = absurd (none-some x (sym e))

pub can_code : (s : Parameters) (mode : Mode) (number first : ℕ) (frame : List ℕ) → refusal s mode number first frame ≡ None → CanCode s mode frame
unfolding refusal
can_code s mode number first frame h = record { sync = unmapped _ (bad_sync_slot frame) causes.one; head = unmapped _ (misplaced_slot frame) causes.two; counts = counts }
  where
    causes : AllNone (bad_sync first frame) (misplaced number frame) (wrong_count s mode number frame A) (wrong_count s mode number frame B) (wrong_count s mode number frame C)
    causes = all_none _ _ _ _ _ h

    counts : (x : Layer) → layer_count frame x ≡ number_of (packets_per_frame mode) (layer_of s x)
    counts A = counted _ _ _ causes.three
    counts B = counted _ _ _ causes.four
    counts C = counted _ _ _ causes.five
