-- The frames that are there when a unit is given out have all the cells that its outer word needs.
use Rattle.std.proofs.Common.{◌≡◌, ℕ, ◌+◌, ◌-◌, ◌*◌, ◌/◌, ◌%◌, ◌<◌, ◌≤◌, Bool, ap, arith, ◌∷◌, inl, inr, refl, rules}
use Rattle.std.specs.Prelude.{bit_xor}
use Rattle.std.proofs.Math.Nat.{mul-le-mul_left}
use Rattle.std.proofs.lemmas.Bool.Decides.{leb_tells}
use Rattle.std.proofs.lemmas.Nat.{div_below, mod_below, mul-le}
use Rattle.isdbt_base.specs.declared.kinds.Mode.{Mode}
use Rattle.isdbt_base.specs.declared.kinds.Mode.TheVariants.{M1, M2, M3}
use Rattle.isdbt_base.specs.declared.kinds.DepthCode.{DepthCode}
use Rattle.isdbt_base.specs.declared.kinds.DepthCode.TheVariants.{D0, D1, D2, D3}
use Rattle.isdbt_base.specs.declared.kinds.Modulation.{Modulation}
use Rattle.isdbt_base.specs.declared.kinds.Modulation.TheVariants.{Qpsk, Qam16, Qam64}
use Rattle.isdbt_base.specs.declared.kinds.Rate.{Rate}
use Rattle.isdbt_base.specs.declared.kinds.Rate.TheVariants.{R12, R23, R34, R56, R78}
use Rattle.isdbt_base.specs.LayerParameters.{LayerParameters, HasSegments}
use Rattle.isdbt_base.specs.Numbers.{carriers, layer_cells, cell_bits, rate_steps, rate_bits, packets_per_frame, frames_over, layer_delay, time_depth, time_adjust}
use Rattle.isdbt_base.proofs.NumberLaws.{packets-exact, packets-least, cells-least}
use Rattle.isdbt_base.proofs.RangeLaws.{map-same}
use Rattle.byte_inter.specs.BytePlaces.{byte_place}
use Rattle.bit_inter.specs.BitPlaces.{bit_delay}
use Rattle.time_inter.specs.CellPlaces.{symbol_delay, carrier_delay}
use Rattle.conv_punct.specs.CodedBits.{coded_len, step_of, output_at}
use Rattle.conv_punct.proofs.PatternLaws.{coded_step-lt}
use Rattle.viterbi_hard.specs.LeastPath.{decided_bit}
use Rattle.viterbi_hard.proofs.DecidedLaws.{window-decided}
use Rattle.layer_chain.specs.SentBytes.{dispersal_byte}
use Rattle.layer_chain.specs.LayerCells.{layer_cell, bit_place, bit_of_number, read_bit}
use Rattle.layer_chain.specs.OuterWords.{outer_word, outer_answer, unit_word, unit_answer, given_out}
use Rattle.layer_chain.proofs.CleanWords.{same_byte}

-- ---- an outer word depends on the decided bits at the places of its bytes

pub outer_word-same : (t : ℕ) (f g : ℕ → Bool) (m : ℕ) → ((a i : ℕ) → a < 203 → i < 8 → f (8 * byte_place t (204 * m + a) + i) ≡ g (8 * byte_place t (204 * m + a) + i)) → outer_word t f m ≡ outer_word t g m
unfolding outer_word
outer_word-same t f g m h =
    ap (λ bytes. 0x47 ∷ bytes) (map-same _ _ 0 203 (λ a k l. ap (λ b. bit_xor b (dispersal_byte t (204 * m + a))) (same_byte _ _ (λ i n. h a i (omega arith) n))))

-- ---- places

bit_delay-le : (m : Modulation) (c : ℕ) → bit_delay (cell_bits m) (c % cell_bits m) ≤ 120
bit_delay-le Qpsk c = omega arith
bit_delay-le Qam16 c = omega arith
bit_delay-le Qam64 c = omega arith

cell_bits_positive : (m : Modulation) → 0 < cell_bits m
cell_bits_positive m = search rules

carrier_delay-le : (i : ℕ) → carrier_delay i ≤ 95
carrier_delay-le i = omega arith

depth_frames : (mode : Mode) (d : DepthCode) → 95 * time_depth mode d + time_adjust mode d ≡ 204 * frames_over mode d
depth_frames mode D0 = refl
depth_frames M1 D1 = refl
depth_frames M1 D2 = refl
depth_frames M1 D3 = refl
depth_frames M2 D1 = refl
depth_frames M2 D2 = refl
depth_frames M2 D3 = refl
depth_frames M3 D1 = refl
depth_frames M3 D2 = refl
depth_frames M3 D3 = refl

pub symbol_delay-le : (mode : Mode) (l : LayerParameters) (w : ℕ) → symbol_delay mode l w ≤ 204 * frames_over mode l.depth
symbol_delay-le mode l w =
    let e = depth_frames mode l.depth in
    let k = mul-le-mul_left (time_depth mode l.depth) (carrier_delay-le (w % carriers mode)) in
    omega (arith, e, k)

-- the cell of a coded bit of the symbols before y is in a symbol before y + 2
layer_cell-lt : (mode : Mode) (l : LayerParameters) (c y : ℕ) → HasSegments l → c < layer_cells mode l * cell_bits l.modulation * y → layer_cell mode l c < (y + 2) * layer_cells mode l
layer_cell-lt mode l c y s h =
    let cells = layer_cells mode l in
    let most = bit_delay-le l.modulation c in
    let least = cells-least mode l s in
    let e : cells * cell_bits l.modulation * y ≡ cells * y * cell_bits l.modulation = omega arith in
    let q : c / cell_bits l.modulation < cells * y = div_below c (cell_bits l.modulation) (cells * y) (cell_bits_positive l.modulation) (omega (arith, e)) in
    omega (arith, most, least, q)

pub bit_symbol-lt : (mode : Mode) (l : LayerParameters) (c y : ℕ) → HasSegments l → c < layer_cells mode l * cell_bits l.modulation * y → (bit_place mode l c).symbol < y + 2 + 204 * frames_over mode l.depth
bit_symbol-lt mode l c y s h =
    let cells = layer_cells mode l in
    let least = cells-least mode l s in
    let e = layer_cell mode l c in
    let q : e / cells < y + 2 = div_below e cells (y + 2) (omega (arith, least)) (layer_cell-lt mode l c y s h) in
    let d = symbol_delay-le mode l (e % cells) in
    omega (arith, q, d)

pub bit_place-lt : (mode : Mode) (l : LayerParameters) (c : ℕ) → HasSegments l → (bit_place mode l c).place < layer_cells mode l
bit_place-lt mode l c s = let least = cells-least mode l s in mod_below (layer_cell mode l c) (layer_cells mode l) (omega (arith, least))

-- what is read depends on the cells up to the symbol of the bit
pub read_bit-same : (mode : Mode) (l : LayerParameters) (cells other : ℕ → ℕ → ℕ) (c : ℕ) → cells (bit_place mode l c).symbol (bit_place mode l c).place ≡ other (bit_place mode l c).symbol (bit_place mode l c).place → read_bit mode l cells c ≡ read_bit mode l other c
unfolding read_bit
read_bit-same mode l cells other c h = ap (λ n. bit_of_number (cell_bits l.modulation) n (c % cell_bits l.modulation)) h

-- ---- the coded bits of a unit

-- a byte of unit j of frame g is sent before the end of the coded frame g + 1
byte_place-le : (t g j a : ℕ) → 11 ≤ t → j < t → a < 203 → byte_place t (204 * (g * t + j) + a) + 2 ≤ 204 * ((g + 2) * t)
byte_place-le t g j a h k l = omega arith

-- the coded bits of so many steps: all of coded frames 0 to g + 1 and of 202 symbols of the next
window : (rate : Rate) (c p x z s : ℕ) → 8 * rate_bits rate * p ≡ z * rate_steps rate → 192 ≤ x → rate_steps rate * (c / rate_bits rate) + s < 8 * (204 * p) + 119 → c < 204 * z + 202 * x
window R12 c p x z s e h k = omega arith
window R23 c p x z s e h k = omega arith
window R34 c p x z s e h k = omega arith
window R56 c p x z s e h k = omega arith
window R78 c p x z s e h k = omega arith

cells_bits-least : (mode : Mode) (l : LayerParameters) → HasSegments l → 192 ≤ layer_cells mode l * cell_bits l.modulation
cells_bits-least mode l s = mul-le 96 2 (layer_cells mode l) (cell_bits l.modulation) (cells-least mode l s) (two_bits l.modulation)
  where
    two_bits : (m : Modulation) → 2 ≤ cell_bits m
    two_bits m = search rules

window_symbols : (mode : Mode) (l : LayerParameters) (g c b : ℕ) → HasSegments l → b + 9 ≤ 8 * (204 * ((g + 2) * packets_per_frame mode l)) → c < coded_len l.rate (b + 128) → c < layer_cells mode l * cell_bits l.modulation * (204 * (g + 3) - 2)
window_symbols mode l g c b s h k =
    let t = packets_per_frame mode l in
    let x = layer_cells mode l * cell_bits l.modulation in
    let e : 8 * rate_bits l.rate * ((g + 2) * t) ≡ (g + 2) * x * rate_steps l.rate =
    (let f : (g + 2) * (8 * rate_bits l.rate * t) ≡ (g + 2) * (x * rate_steps l.rate) = ap (λ n. (g + 2) * n) (packets-exact mode l) in omega (arith, f)) in
    let step = coded_step-lt l.rate c (b + 128) k in
    let w : c < 204 * ((g + 2) * x) + 202 * x = window l.rate c ((g + 2) * t) x ((g + 2) * x) (step_of (output_at l.rate (c % rate_bits l.rate))) e (cells_bits-least mode l s) (omega (arith, step, h)) in
    let same : x * (204 * (g + 3) - 2) ≡ 204 * ((g + 2) * x) + 202 * x = (let r : 204 * (g + 3) - 2 ≡ 204 * (g + 2) + 202 = omega arith in rw r (omega arith)) in
    rw same w

-- cells that are alike in the frames up to h of an epoch give the same outer words for the units that are given out with frame h
pub unit_word-same : (mode : Mode) (l : LayerParameters) (cells other : ℕ → ℕ → ℕ) (h j : ℕ) → HasSegments l → layer_delay mode l ≤ h → j < packets_per_frame mode l →
    ((y w : ℕ) → y < 204 * (h + 1) → w < layer_cells mode l → cells y w ≡ other y w) →
    unit_word mode l cells ((h - layer_delay mode l) * packets_per_frame mode l + j) ≡ unit_word mode l other ((h - layer_delay mode l) * packets_per_frame mode l + j)
unit_word-same mode l cells other h j s late k same =
    let t = packets_per_frame mode l in
    let g = h - layer_delay mode l in
    let least = packets-least mode l s in
    outer_word-same t (decided_bit l.rate (read_bit mode l cells)) (decided_bit l.rate (read_bit mode l other)) (g * t + j) (λ a i la li.
    window-decided l.rate (read_bit mode l cells) (read_bit mode l other) (8 * byte_place t (204 * (g * t + j) + a) + i) (λ c lc.
    let place = byte_place-le t g j a (omega (arith, least)) k la in
    let w = window_symbols mode l g c (8 * byte_place t (204 * (g * t + j) + a) + i) s (omega (arith, place, li)) lc in
    let y = bit_symbol-lt mode l c (204 * (g + 3) - 2) s w in
    read_bit-same mode l cells other c (same (bit_place mode l c).symbol (bit_place mode l c).place (omega (arith, y, late)) (bit_place-lt mode l c s))))

-- and so the same packets
pub given_out-same : (mode : Mode) (l : LayerParameters) (cells other : ℕ → ℕ → ℕ) (h j : ℕ) → HasSegments l → j < packets_per_frame mode l →
    ((y w : ℕ) → y < 204 * (h + 1) → w < layer_cells mode l → cells y w ≡ other y w) → given_out mode l cells h j ≡ given_out mode l other h j
unfolding given_out unit_answer
given_out-same mode l cells other h j s k same =
    elim (leb_tells (layer_delay mode l) h) [
      | inr early ↦ rw early.0 refl
      | inl late ↦ rw late.0 (ap outer_answer (unit_word-same mode l cells other h j s late.1 k same))
    ]
