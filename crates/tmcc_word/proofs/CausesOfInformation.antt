-- The information of a word is refused by the causes of its own fields.
use Rattle.std.proofs.Common.{◌≡◌, ℕ, ◌+◌, Bool, subst, Some, None, Ok, Err, Result, List}
use Rattle.std.specs.Prelude.{not, ◌&&◌, ◌==◌}
use Rattle.std.proofs.lemmas.Bool.{cond_both}
use Rattle.isdbt_base.specs.LayerParameters.{LayerParameters}
use Rattle.isdbt_base.specs.Parameters.{Parameters, layer_sum}
use Rattle.isdbt_base.specs.declared.kinds.Layer.TheVariants as layers
use Rattle.tmcc_word.specs.declared.fault.TmccFault.{TmccFault}
use Rattle.tmcc_word.specs.declared.fault.TmccFault.TheVariants as faults
use Rattle.tmcc_word.specs.declared.layer_bits.LayerBits.{LayerBits}
use Rattle.tmcc_word.specs.declared.layer_bits.LayerBits.TheVariants.{Unused, Used, Refused}
use Rattle.tmcc_word.specs.Causes.{IsOfInformation}
use Rattle.tmcc_word.specs.Reading.{field, flag, layer_field_at, of_13_segments, setting_with_a, setting_of, setting_at, with_now, info_at}

IsCaused : {X : Type 0} → Result X TmccFault → Type 0
IsCaused (Ok x) = Unit {0}
IsCaused (Err fault) = IsOfInformation fault

of_13_segments-caused : (s : Parameters) → IsCaused (of_13_segments s)
unfolding IsCaused
of_13_segments-caused s =
    let sum = layer_sum (λ l. l.segments) s in
    cond_both (sum == 13) (Ok s) (Err (faults.Segments sum)) IsCaused (λ e. tt) (λ e. tt)

setting_with_a-caused : (partial : Bool) (a : LayerParameters) (b c : LayerBits) → IsCaused (setting_with_a partial a b c)
unfolding IsCaused
setting_with_a-caused partial a Refused c = tt
setting_with_a-caused partial a Unused Refused = tt
setting_with_a-caused partial a Unused (Used c) = tt
setting_with_a-caused partial a Unused Unused = of_13_segments-caused (record { partial = partial; a = a; b = None; c = None })
setting_with_a-caused partial a (Used b) Refused = tt
setting_with_a-caused partial a (Used b) Unused = of_13_segments-caused (record { partial = partial; a = a; b = Some b; c = None })
setting_with_a-caused partial a (Used b) (Used c) = of_13_segments-caused (record { partial = partial; a = a; b = Some b; c = Some c })

setting_of-caused : (partial : Bool) (a b c : LayerBits) → IsCaused (setting_of partial a b c)
unfolding IsCaused
setting_of-caused partial Refused b c = tt
setting_of-caused partial Unused b c = tt
setting_of-caused partial (Used a) b c =
    cond_both (partial && not (a.segments == 1)) (Err (faults.LayerField layers.A)) (setting_with_a partial a b c) IsCaused (λ e. tt) (λ e. setting_with_a-caused partial a b c)

setting_at-caused : (word : List Bool) (at : ℕ) → IsCaused (setting_at word at)
unfolding setting_at
setting_at-caused word at = setting_of-caused (flag word at) (layer_field_at word (at + 1)) (layer_field_at word (at + 14)) (layer_field_at word (at + 27))

with_now-caused : (word : List Bool) (at : ℕ) (r : Result Parameters TmccFault) → IsCaused r → IsCaused (with_now word at r)
unfolding IsCaused
with_now-caused word at (Err fault) h = h
with_now-caused word at (Ok s) h = tt

info_at-caused : (word : List Bool) (at : ℕ) → IsCaused (info_at word at)
unfolding IsCaused info_at
info_at-caused word at =
    let now = setting_at word (at + 7) in
    cond_both (not (field word at 2 == 0)) (Err faults.System) (with_now word at now) IsCaused (λ e. tt) (λ e. with_now-caused word at now (setting_at-caused word (at + 7)))

pub info_at-cause : (word : List Bool) (at : ℕ) (fault : TmccFault) → info_at word at ≡ Err fault → IsOfInformation fault
unfolding IsCaused
info_at-cause word at fault e = subst IsCaused e (info_at-caused word at)
