-- The places of input packets in the frames of a plan.
use Rattle.std.proofs.Common.{◌≡◌, ℕ, zero, suc, ◌+◌, ◌-◌, ◌*◌, ◌/◌, ◌%◌, ◌≤◌, ◌<◌, min, Bool, [], None, Some, Option, refl, sym, ap, ◌∙◌, subst, arith, inl, inr}
use Rattle.std.specs.Prelude.{sum_by, ◌==◌, if◌then◌else◌, is_some}
use Rattle.std.specs.List.{range_with_len}
use Rattle.std.specs.Int.{div_ceil}
use Rattle.std.proofs.lemmas.List.Sums.{sum_by-cons}
use Rattle.std.proofs.lemmas.Nat.{div-add-mod', mod_below}
use Rattle.std.proofs.lemmas.Bool.{cases_lt, cases_Bool, ne_eqb, eq-eqb}
use Rattle.std.proofs.Math.Nat.{mul-le-mul_right}
use Rattle.isdbt_base.specs.declared.kinds.Layer.{Layer}
use Rattle.isdbt_base.specs.declared.kinds.Layer.TheVariants.{A, B, C}
use Rattle.isdbt_base.specs.declared.epoch.At.{At}
use Rattle.isdbt_base.specs.LayerParameters.{LayerParameters, HasSegments}
use Rattle.isdbt_base.specs.Parameters.{Parameters, IsAccepted, HasSegmentsIfUsed, layer_of, number_of}
use Rattle.isdbt_base.proofs.NumberLaws.{packets-least}
use Rattle.isdbt_base.proofs.OptionLaws.{option_cases}
use Rattle.isdbt_base.specs.Numbers.{greatest_delay, packets_per_frame, layer_delay}
use Rattle.isdbt_base.specs.Plans.{Transmission, Schedule, IsPlan, SameLayers, at_frame}
use Rattle.isdbt_base.specs.Epochs.{last_start, last_sent, leaves_after}
use Rattle.isdbt_base.proofs.PlanEpochs.{setting_accepted}
use Rattle.isdbt_base.proofs.EpochLaws.{last_epoch, layers_alike, greatest-covers}
use Rattle.remux_core.specs.Multiplex.{filled, filled_at, placed_before, data_frames_of, data_frames, frame_count}
use Rattle.remux_core.specs.Frames.{packets_of, sent_at, most_packets}

sum_range-suc : (g : ℕ → ℕ) (a n : ℕ) → sum_by g (range_with_len a (suc n)) ≡ sum_by g (range_with_len a n) + g (a + n)
sum_range-suc g a zero = sum_by-cons g a [] ∙ ap (λ m. g m + 0) (let e : a ≡ a + 0 = omega arith in e) ∙ (let none : sum_by g (range_with_len a 0) ≡ 0 = refl in omega (arith, none))
sum_range-suc g a (suc n) =
    let e : a + 1 + n ≡ a + suc n = omega arith in
    sum_by-cons g a (range_with_len (a + 1) (suc n))
    ∙ ap (λ m. g a + m) (sum_range-suc g (a + 1) n ∙ ap (λ m. sum_by g (range_with_len (a + 1) n) + g m) e)
    ∙ (let first = sum_by-cons g a (range_with_len (a + 1) n) in omega (arith, first))

pub placed_before-suc : (p : Schedule) (x : Layer) (f : ℕ) → placed_before p x (suc f) ≡ placed_before p x f + filled p x f
unfolding placed_before
placed_before-suc p x f = sum_range-suc (filled p x) 0 f ∙ ap (λ g. sum_by (filled p x) (range_with_len 0 f) + filled p x g) (let e : 0 + f ≡ f = omega arith in e)

pub placed_before-zero : (p : Schedule) (x : Layer) → placed_before p x 0 ≡ 0
unfolding placed_before
placed_before-zero p x = refl

-- a frame places what stands between the places before it and before the next
pub placed_before-next : (p : Schedule) (x : Layer) (f : ℕ) → placed_before p x (f + 1) ≡ placed_before p x f + filled p x f
placed_before-next p x f = ap (placed_before p x) (let e : f + 1 ≡ suc f = omega arith in e) ∙ placed_before-suc p x f

pub placed_before-rise : (p : Schedule) (x : Layer) (f g : ℕ) → f ≤ g → placed_before p x f ≤ placed_before p x g
placed_before-rise p x f zero le = (let e : f ≡ 0 = omega (arith, le) in rw e (omega arith))
placed_before-rise p x f (suc g) le =
    elim (cases_lt f (suc g)) [
      | inl less ↦ (let k = placed_before-rise p x f g (omega (arith, less)) in let s = placed_before-suc p x g in omega (arith, k, s))
      | inr ge ↦ (let e : f ≡ suc g = omega (arith, le, ge) in rw e (omega arith))
    ]

-- ---- how many packets a frame places

part_le : (keep : LayerParameters → Bool) (n : LayerParameters → ℕ) (o : Option LayerParameters) → number_of (λ l. if keep l then n l else 0) o ≤ number_of n o
part_le keep n None = omega arith
part_le keep n (Some l) = elim (cases_Bool (keep l)) [ inl e ↦ rw e (omega arith) | inr e ↦ rw e (omega arith) ]

pub filled-at : (p : Schedule) (x : Layer) (f : ℕ) → filled p x f ≤ packets_of (sent_at p f) x
filled-at p x f = part_le (λ l. leaves_after f (at_frame p f).end (layer_delay (at_frame p f).mode l)) (packets_per_frame (at_frame p f).mode) (layer_of (at_frame p f).setting x)

pub filled-most : (p : Schedule) (x : Layer) (f : ℕ) → filled p x f ≤ most_packets p x
filled-most p x f =
    let a = filled-at p x f in
    let b = greatest-covers (λ t. number_of (packets_per_frame t.mode) (layer_of t.setting x)) p f in
    omega (arith, a, b)

pub placed_before-few : (p : Schedule) (x : Layer) (f : ℕ) → most_packets p x ≤ 3276 → placed_before p x f ≤ f * 3276
placed_before-few p x zero most = (let e = placed_before-zero p x in omega (arith, e))
placed_before-few p x (suc f) most =
    let s = placed_before-suc p x f in
    let a = filled-most p x f in
    let k = placed_before-few p x f most in
    omega (arith, s, a, k, most)

-- ---- used layers

pub packets-used : (t : Transmission) (x : Layer) (l : LayerParameters) → layer_of t.setting x ≡ Some l → packets_of t x ≡ packets_per_frame t.mode l
packets-used t x l e = rw e refl

pub packets-unused : (t : Transmission) (x : Layer) → layer_of t.setting x ≡ None → packets_of t x ≡ 0
packets-unused t x e = rw e refl

has_segments : (s : Parameters) (x : Layer) (l : LayerParameters) → IsAccepted s → layer_of s x ≡ Some l → HasSegments l
has_segments s A l h e = subst HasSegmentsIfUsed e h.a_segments
has_segments s B l h e = subst HasSegmentsIfUsed e h.b_segments
has_segments s C l h e = subst HasSegmentsIfUsed e h.c_segments

-- a used layer has packets
pub some_packets : (t : Transmission) (x : Layer) (l : LayerParameters) → IsAccepted t.setting → layer_of t.setting x ≡ Some l → 0 < packets_of t x
some_packets t x l accepted e =
    let least = packets-least t.mode l (has_segments t.setting x l accepted e) in
    let is = packets-used t x l e in
    omega (arith, least, is)

pub unused-none : (t : Transmission) (x : Layer) → IsAccepted t.setting → packets_of t x ≡ 0 → layer_of t.setting x ≡ None
unused-none t x accepted empty =
    elim (option_cases (layer_of t.setting x)) [
      | inl none ↦ none
      | inr used ↦ absurd (let some = some_packets t x used.0 accepted used.1 in omega (arith, some, empty))
    ]

-- a layer is used where it has packets
pub used-some : (t : Transmission) (x : Layer) → 0 < packets_of t x → (l : LayerParameters) × (layer_of t.setting x ≡ Some l)
used-some t x some =
    elim (option_cases (layer_of t.setting x)) [
      | inl none ↦ absurd (let e = packets-unused t x none in omega (arith, e, some))
      | inr used ↦ used
    ]

none_alike : (a b : Option LayerParameters) → is_some a ≡ is_some b → a ≡ None → b ≡ None
none_alike None None h e = refl
none_alike None (Some l) h e = absurd (cc)
none_alike (Some l) b h e = absurd (cc)

pub layers_none : (s u : Parameters) (x : Layer) → SameLayers s u → layer_of s x ≡ None → layer_of u x ≡ None
layers_none s u A h e = absurd (cc)
layers_none s u B h e = none_alike s.b u.b h.0 e
layers_none s u C h e = none_alike s.c u.c h.1 e

-- a layer is used in all frames or in none
pub used-at : (p : Schedule) (x : Layer) (f : ℕ) → IsPlan p → 0 < packets_of p.first x → 0 < packets_of (sent_at p f) x
used-at p x f plan some =
    elim (option_cases (layer_of (at_frame p f).setting x)) [
      | inr used ↦ some_packets (sent_at p f) x used.0 (setting_accepted p f plan) used.1
      | inl none ↦
          (let same = layers_alike p f plan in
          let e = packets-unused p.first x (layers_none (at_frame p f).setting p.first.setting x (sym same.0, sym same.1) none) in
          absurd (omega (arith, e, some)))
    ]

pub unused-at : (p : Schedule) (x : Layer) (f : ℕ) → IsPlan p → packets_of p.first x ≡ 0 → packets_of (sent_at p f) x ≡ 0
unused-at p x f plan empty = packets-unused (sent_at p f) x (layers_none p.first.setting (at_frame p f).setting x (layers_alike p f plan) (unused-none p.first x plan.first empty))

-- ---- the last epoch

pub filled-last : (p : Schedule) (x : Layer) (f : ℕ) → IsPlan p → last_start p ≤ f → filled p x f ≡ packets_of (last_sent p) x
filled-last p x f plan past = ap (λ at. filled_at at f x) (last_epoch p f plan past)

pub packets-last : (p : Schedule) (x : Layer) (f : ℕ) → IsPlan p → last_start p ≤ f → packets_of (sent_at p f) x ≡ packets_of (last_sent p) x
packets-last p x f plan past = ap (λ at. number_of (packets_per_frame at.mode) (layer_of at.setting x)) (last_epoch p f plan past)

pub used-last : (p : Schedule) (x : Layer) → IsPlan p → 0 < packets_of p.first x → 0 < packets_of (last_sent p) x
used-last p x plan some =
    let a = used-at p x (last_start p) plan some in
    let b = packets-last p x (last_start p) plan (omega arith) in
    omega (arith, a, b)

pub placed_before-last : (p : Schedule) (x : Layer) (k : ℕ) → IsPlan p → placed_before p x (last_start p + k) ≡ placed_before p x (last_start p) + k * packets_of (last_sent p) x
placed_before-last p x zero plan =
    ap (placed_before p x) (let e : last_start p + 0 ≡ last_start p = omega arith in e)
    ∙ (let e : placed_before p x (last_start p) ≡ placed_before p x (last_start p) + 0 * packets_of (last_sent p) x = omega arith in e)
placed_before-last p x (suc k) plan =
    ap (placed_before p x) (let e : last_start p + suc k ≡ suc (last_start p + k) = omega arith in e)
    ∙ placed_before-suc p x (last_start p + k)
    ∙ (let a = placed_before-last p x k plan in let b = filled-last p x (last_start p + k) plan (omega arith) in omega (arith, a, b))

-- ---- how many frames cover so many packets

pub ceil-covers : (n t : ℕ) → 0 < t → n ≤ div_ceil n t * t
ceil-covers n t some =
    let parts = div-add-mod' n t in
    let rest = mod_below n t some in
    elim (cases_lt 0 (n % t)) [
      | inl more ↦ (let e : min 1 (n % t) ≡ 1 = omega (arith, more) in rw e (omega (arith, parts, rest)))
      | inr none ↦ (let e : n % t ≡ 0 = omega (arith, none) in let z = rw e at parts in rw e (omega (arith, z)))
    ]

-- more packets than f frames have want a frame more
pub ceil-more : (n t f : ℕ) → 0 < t → f * t < n → f < div_ceil n t
ceil-more n t f some more =
    elim (cases_lt f (div_ceil n t)) [
      | inl less ↦ less
      | inr le ↦ absurd (let a = ceil-covers n t some in let b = mul-le-mul_right t le in omega (arith, a, b, more))
    ]

-- no more packets than f frames have want f frames at most
pub ceil-most : (n t f : ℕ) → 0 < t → n ≤ f * t → div_ceil n t ≤ f
ceil-most n t f some most =
    elim (cases_lt f (div_ceil n t)) [
      | inr le ↦ le
      | inl less ↦ absurd (past less)
    ]
  where
    parts : n / t * t + n % t ≡ n
    parts = div-add-mod' n t

    past : f < div_ceil n t → ⊥
    past less = elim (cases_lt f (n / t)) [
      | inl below ↦ (let a : suc f ≤ n / t = omega (arith, below) in let b = mul-le-mul_right t a in omega (arith, parts, b, most, some))
      | inr above ↦ (let a : f ≤ n / t = omega (arith, less, above) in let b = mul-le-mul_right t a in omega (arith, parts, b, most, less, above))
    ]

-- ---- how many frames there are

frames-used : (p : Schedule) (count : Layer → ℕ) (x : Layer) (l : LayerParameters) → layer_of (last_sent p).setting x ≡ Some l →
    data_frames_of p count x ≡ div_ceil (count x - placed_before p x (last_start p)) (packets_of (last_sent p) x)
frames-used p count x l e = rw e refl

frames-unused : (p : Schedule) (count : Layer → ℕ) (x : Layer) → layer_of (last_sent p).setting x ≡ None → data_frames_of p count x ≡ 0
frames-unused p count x e = rw e refl

frames_of-le : (p : Schedule) (count : Layer → ℕ) (x : Layer) → data_frames_of p count x ≤ data_frames p count
frames_of-le p count A = omega arith
frames_of-le p count B = omega arith
frames_of-le p count C = omega arith

-- a layer whose packets go on behind k frames of the last epoch wants a frame more
pub data_frames-more : (p : Schedule) (count : Layer → ℕ) (x : Layer) (k : ℕ) → IsPlan p → placed_before p x (last_start p + k) < count x → 0 < packets_of (last_sent p) x → k < data_frames p count
data_frames-more p count x k plan more some =
    let used = used-some (last_sent p) x some in
    let is = frames-used p count x used.0 used.1 in
    let rows = placed_before-last p x k plan in
    let less = ceil-more (count x - placed_before p x (last_start p)) (packets_of (last_sent p) x) k some (omega (arith, more, rows)) in
    let all = frames_of-le p count x in
    omega (arith, less, is, all)

-- frames that hold all packets are enough
layer-most : (p : Schedule) (count : Layer → ℕ) (x : Layer) (k : ℕ) → IsPlan p → count x ≤ placed_before p x (last_start p + k) → data_frames_of p count x ≤ k
layer-most p count x k plan all =
    elim (option_cases (layer_of (last_sent p).setting x)) [
      | inl none ↦ (let e = frames-unused p count x none in omega (arith, e))
      | inr used ↦
          (let rows = placed_before-last p x k plan in
          let is = frames-used p count x used.0 used.1 in
          let accepted = subst (λ (at : At). IsAccepted at.setting) (last_epoch p (last_start p) plan (omega arith)) (setting_accepted p (last_start p) plan) in
          let some = some_packets (last_sent p) x used.0 accepted used.1 in
          let most = ceil-most (count x - placed_before p x (last_start p)) (packets_of (last_sent p) x) k some (omega (arith, all, rows)) in
          omega (arith, most, is))
    ]

pub data_frames-most : (p : Schedule) (count : Layer → ℕ) (k : ℕ) → IsPlan p → ((x : Layer) → count x ≤ placed_before p x (last_start p + k)) → data_frames p count ≤ k
data_frames-most p count k plan all =
    let a = layer-most p count A k plan (all A) in
    let b = layer-most p count B k plan (all B) in
    let c = layer-most p count C k plan (all C) in
    omega (arith, a, b, c)

-- so many frames hold all packets of a used layer
pub data_frames-cover : (p : Schedule) (count : Layer → ℕ) (x : Layer) (k : ℕ) → IsPlan p → data_frames p count ≤ k → 0 < packets_of (last_sent p) x → count x ≤ placed_before p x (last_start p + k)
data_frames-cover p count x k plan past some =
    let used = used-some (last_sent p) x some in
    let is = frames-used p count x used.0 used.1 in
    let le = frames_of-le p count x in
    let covers = ceil-covers (count x - placed_before p x (last_start p)) (packets_of (last_sent p) x) some in
    let fewer : div_ceil (count x - placed_before p x (last_start p)) (packets_of (last_sent p) x) ≤ k = omega (arith, is, le, past) in
    let rows = mul-le-mul_right (packets_of (last_sent p) x) fewer in
    let same = placed_before-last p x k plan in
    omega (arith, covers, rows, same)

counted : (start d g : ℕ) → 0 < d → start + (if d == 0 then 0 else d + g) ≡ start + (d + g)
counted start d g some = rw (ne_eqb d 0 (λ e. omega (arith, e, some))) refl

counted-none : (start d g : ℕ) → d ≡ 0 → start + (if d == 0 then 0 else d + g) ≡ start
counted-none start d g none = rw (eq-eqb d 0 none) (omega arith)

pub frame_count-some : (p : Schedule) (count : Layer → ℕ) → 0 < data_frames p count →
    frame_count p count ≡ last_start p + (data_frames p count + greatest_delay (last_sent p).mode (last_sent p).setting)
unfolding frame_count
frame_count-some p count some = counted (last_start p) (data_frames p count) (greatest_delay (last_sent p).mode (last_sent p).setting) some

pub frame_count-none : (p : Schedule) (count : Layer → ℕ) → data_frames p count ≡ 0 → frame_count p count ≡ last_start p
unfolding frame_count
frame_count-none p count empty = counted-none (last_start p) (data_frames p count) (greatest_delay (last_sent p).mode (last_sent p).setting) empty

pub frame_count-least : (p : Schedule) (count : Layer → ℕ) → last_start p ≤ frame_count p count
frame_count-least p count =
    elim (cases_lt 0 (data_frames p count)) [
      | inl some ↦ (let e = frame_count-some p count some in omega (arith, e))
      | inr none ↦ (let e = frame_count-none p count (omega (arith, none)) in omega (arith, e))
    ]
