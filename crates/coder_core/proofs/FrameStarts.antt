-- Where the frames of a stream begin.
use Rattle.std.proofs.Common.{◌≡◌, ℕ, zero, suc, ◌+◌, ◌-◌, ◌*◌, ◌≤◌, ◌<◌, [], refl, ap, ◌∙◌, arith}
use Rattle.std.specs.Prelude.{sum_by}
use Rattle.std.specs.List.{range_with_len}
use Rattle.std.proofs.lemmas.List.Sums.{sum_by-cons}
use Rattle.isdbt_base.specs.declared.kinds.Mode.{Mode}
use Rattle.isdbt_base.specs.declared.kinds.Mode.TheVariants.{M1, M2, M3}
use Rattle.isdbt_base.specs.declared.kinds.Guard.{Guard}
use Rattle.isdbt_base.specs.declared.kinds.Guard.TheVariants.{G4, G8, G16, G32}
use Rattle.isdbt_base.specs.Numbers.{slots_per_frame}
use Rattle.isdbt_base.specs.Plans.{Schedule, at_frame}
use Rattle.coder_core.specs.InputFrames.{slots_at, packets_before, frame_start}

-- ---- slots

slots_most : (mode : Mode) (guard : Guard) → (0 < slots_per_frame mode guard) × (slots_per_frame mode guard ≤ 5120)
slots_most M1 G4 = (omega arith, omega arith)
slots_most M1 G8 = (omega arith, omega arith)
slots_most M1 G16 = (omega arith, omega arith)
slots_most M1 G32 = (omega arith, omega arith)
slots_most M2 G4 = (omega arith, omega arith)
slots_most M2 G8 = (omega arith, omega arith)
slots_most M2 G16 = (omega arith, omega arith)
slots_most M2 G32 = (omega arith, omega arith)
slots_most M3 G4 = (omega arith, omega arith)
slots_most M3 G8 = (omega arith, omega arith)
slots_most M3 G16 = (omega arith, omega arith)
slots_most M3 G32 = (omega arith, omega arith)

-- each frame has slots
pub slots-some : (p : Schedule) (f : ℕ) → 0 < slots_at p f
slots-some p f = (slots_most (at_frame p f).mode (at_frame p f).guard).0

pub slots-few : (p : Schedule) (f : ℕ) → slots_at p f ≤ 5120
slots-few p f = (slots_most (at_frame p f).mode (at_frame p f).guard).1

-- ---- packets

pub sum_range-suc : (g : ℕ → ℕ) (a n : ℕ) → sum_by g (range_with_len a (suc n)) ≡ sum_by g (range_with_len a n) + g (a + n)
sum_range-suc g a zero = sum_by-cons g a [] ∙ ap (λ m. g m + 0) (let e : a ≡ a + 0 = omega arith in e) ∙ (let none : sum_by g (range_with_len a 0) ≡ 0 = refl in omega (arith, none))
sum_range-suc g a (suc n) =
    let e : a + 1 + n ≡ a + suc n = omega arith in
    sum_by-cons g a (range_with_len (a + 1) (suc n))
    ∙ ap (λ m. g a + m) (sum_range-suc g (a + 1) n ∙ ap (λ m. sum_by g (range_with_len (a + 1) n) + g m) e)
    ∙ (let first = sum_by-cons g a (range_with_len (a + 1) n) in omega (arith, first))

pub packets_before-zero : (slots : ℕ → ℕ) → packets_before slots 0 ≡ 0
unfolding packets_before
packets_before-zero slots = refl

pub packets_before-suc : (slots : ℕ → ℕ) (f : ℕ) → packets_before slots (suc f) ≡ packets_before slots f + slots f
unfolding packets_before
packets_before-suc slots f = sum_range-suc slots 0 f ∙ ap (λ g. sum_by slots (range_with_len 0 f) + slots g) (let e : 0 + f ≡ f = omega arith in e)

pub packets_before-next : (slots : ℕ → ℕ) (f : ℕ) → packets_before slots (f + 1) ≡ packets_before slots f + slots f
packets_before-next slots f = ap (packets_before slots) (let e : f + 1 ≡ suc f = omega arith in e) ∙ packets_before-suc slots f

-- ---- starts

pub start-zero : (slots : ℕ → ℕ) (head : ℕ) → frame_start slots head 0 ≡ 204 * head
start-zero slots head = (let e = packets_before-zero slots in omega (arith, e))

pub start-more : (slots : ℕ → ℕ) (head f : ℕ) → frame_start slots head (f + 1) ≡ frame_start slots head f + 204 * slots f
start-more slots head f = (let e = packets_before-next slots f in omega (arith, e))

pub start-rises : (slots : ℕ → ℕ) (head f n : ℕ) → frame_start slots head f ≤ frame_start slots head (f + n)
start-rises slots head f zero = (let e = ap (λ g. frame_start slots head g) (let e' : f ≡ f + 0 = omega arith in e') in omega (arith, e))
start-rises slots head f (suc n) =
    let more = start-more slots head (f + n) in
    let e = ap (λ g. frame_start slots head g) (let e' : f + n + 1 ≡ f + suc n = omega arith in e') in
    let before = start-rises slots head f n in
    omega (arith, more, e, before)

-- a later frame doesn't begin before an earlier one
pub start-later : (slots : ℕ → ℕ) (head m f : ℕ) → m ≤ f → frame_start slots head m ≤ frame_start slots head f
start-later slots head m f le =
    let rise = start-rises slots head m (f - m) in
    let e = ap (λ g. frame_start slots head g) (let e' : m + (f - m) ≡ f = omega (arith, le) in e') in
    omega (arith, rise, e)

-- ---- frames of the same size

pub packets_before-same : (slots f : ℕ) → packets_before (λ g. slots) f ≡ slots * f
packets_before-same slots zero = packets_before-zero (λ g. slots) ∙ omega arith
packets_before-same slots (suc f) =
    let more = packets_before-suc (λ g. slots) f in
    let before = packets_before-same slots f in
    let e : slots * suc f ≡ slots * f + slots = grind arith in
    omega (arith, more, before, e)
