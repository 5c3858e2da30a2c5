-- The bit adjustment and the interleaver behind it, and the deinterleaver.
use Rattle.std.proofs.Common.{◌≡◌, ℕ, ◌+◌, ◌*◌, ◌-◌, ◌%◌, ◌<◌, ◌≤◌, Bool, false, List, ◌++◌, length, get_or, sym, ◌∙◌, arith, ap}
use Rattle.std.proofs.Math.Nat.{mul-add, add-mul-mod_self_left}
use Rattle.std.proofs.lemmas.Nat.{mod_below}
use Rattle.delay_line.specs.Lines.{item_of, delayed}
use Rattle.delay_line.specs.Stages.{stage_item}
use Rattle.delay_line.specs.Adjusted.{AdjustedStandsFor, AdjustedFeeds}
use Rattle.delay_line.proofs.LineLaws.{delayed-late}
use Rattle.delay_line.proofs.AdjustedLaws.{get_or-adjusted_output}
use Rattle.bit_inter.specs.BitPlaces.{bit_adjustment, bit_delay, bit_place, bit_shift, interleaved_bits}
use Rattle.bit_inter.specs.Layouts.{inter_layout, deinter_layout}
use Rattle.bit_inter.proofs.PlaceLaws.{interleaved_bits-delayed, bit_delay-most, bit_place-shift}

pub get_or-sender_output : (v cells : ℕ) (h x middle output line line' : List Bool) (held held' : ℕ → List Bool) → AdjustedStandsFor (inter_layout v) (bit_adjustment v cells) line held h → AdjustedFeeds (inter_layout v) line held x middle output line' held' → (n : ℕ) → n < length x → get_or output n false ≡ interleaved_bits (item_of false (h ++ x)) v cells (length h + n)
get_or-sender_output v cells h x middle output line line' held held' stands feeds n inside =
    get_or-adjusted_output (inter_layout v) (bit_adjustment v cells) h x middle output line line' held held' stands feeds n inside
    ∙ ap (λ d. delayed d false (item_of false (h ++ x)) (length h + n)) (sym (mul-add v (2 * cells - 120) (bit_delay v ((length h + n) % v))))
    ∙ sym (interleaved_bits-delayed (item_of false (h ++ x)) v cells (length h + n))

-- two symbols are what is left of the delay, and the shift
two-symbols : (v cells c : ℕ) → 0 < v → 60 ≤ cells → v * (2 * cells) ≡ v * (120 - bit_delay v (c % v)) + bit_shift v cells c
two-symbols v cells c some least =
    ap (λ n. v * n) (omega (arith, bit_delay-most v (c % v) (mod_below c v some)))
    ∙ mul-add v (120 - bit_delay v (c % v)) (2 * cells - 120 + bit_delay v (c % v))

pub stage_item-deinter : (v cells : ℕ) → 0 < v → 60 ≤ cells → (stream : ℕ → Bool) (c : ℕ) → stage_item (deinter_layout v) stream (c + v * (2 * cells)) ≡ stream (bit_place v cells c)
stage_item-deinter v cells some least stream c =
    let n = c + v * (2 * cells) in
    let late = v * (120 - bit_delay v (c % v)) in
    let split : v * (2 * cells) ≡ late + bit_shift v cells c = two-symbols v cells c some least in
    ap (λ r. delayed (v * (120 - bit_delay v r)) false stream n) (add-mul-mod_self_left c v (2 * cells))
    ∙ delayed-late late false stream n (omega (arith, split))
    ∙ ap stream (omega (arith, split, bit_place-shift v cells c))
