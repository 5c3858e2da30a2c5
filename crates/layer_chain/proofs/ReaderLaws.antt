-- What is read of the cells of a layer behind time and bit deinterleaving.
use Rattle.std.proofs.Common.{rules, ◌≡◌, ℕ, ◌+◌, ◌-◌, ◌*◌, ◌/◌, ◌%◌, ◌<◌, ◌≤◌, refl, ap, ◌∙◌, arith}
use Rattle.std.proofs.Math.Nat.{mul-add, mul-add-div, mul-add-mod_self_left, mod-eq_of_lt, add-mul-mod_self_left, add-mul-div_left, div-eq_of_lt}
use Rattle.isdbt_base.specs.declared.kinds.Mode.{Mode}
use Rattle.isdbt_base.specs.declared.kinds.Mode.TheVariants.{M1, M2, M3}
use Rattle.isdbt_base.specs.declared.kinds.Modulation.{Modulation}
use Rattle.isdbt_base.specs.declared.kinds.DepthCode.{DepthCode}
use Rattle.isdbt_base.specs.LayerParameters.{LayerParameters}
use Rattle.isdbt_base.specs.Numbers.{carriers, layer_cells, cell_bits, time_depth, time_adjust, frames_over}
use Rattle.delay_line.specs.Lines.{delayed}
use Rattle.delay_line.specs.Stages.{stage_item}
use Rattle.delay_line.proofs.LineLaws.{delayed-late}
use Rattle.bit_inter.specs.BitPlaces.{bit_delay, cell_of_bit, bit_place}
use Rattle.bit_inter.specs.Layouts.{deinter_layout}
use Rattle.bit_inter.proofs.SenderLaws.{stage_item-deinter}
use Rattle.time_inter.specs.CellPlaces.{carrier_delay, symbol_delay, symbol_of_cell}
use Rattle.layer_chain.specs.LayerCells.{layer_cell, bit_of_number, read_bit}
use Rattle.layer_chain.specs.SymbolReader.{bits_of_symbol, read_delay, cell_stream, late_stream, bit_stream}

-- ---- numbers

pub some_bits : (m : Modulation) → 0 < cell_bits m
some_bits m = search rules

-- some segments have more cells than bit interleaving wants
pub enough_cells : (mode : Mode) (segments : ℕ) → 1 ≤ segments → 60 ≤ segments * carriers mode
enough_cells M1 segments h = omega (arith, h)
enough_cells M2 segments h = omega (arith, h)
enough_cells M3 segments h = omega (arith, h)

-- time interleaving and its adjustment take whole frames over both ends
whole_frames : (mode : Mode) (code : DepthCode) → time_adjust mode code + 95 * time_depth mode code ≡ 204 * frames_over mode code
whole_frames mode code = search rules

-- what is left of the whole frames behind the delay of a carrier at the receiving side
rest : (a i d frames : ℕ) → d ≤ 95 → a + 95 * i ≡ 204 * frames → 204 * frames ≡ i * (95 - d) + (a + i * d)
rest a i d frames most whole =
    let split : i * 95 ≡ i * (95 - d) + i * d = ap (λ k. i * k) (omega (arith, most)) ∙ mul-add i (95 - d) d in
    omega (arith, whole, split)

-- ---- streams

-- the cells of a symbol
pub cell_stream-at : (n : ℕ) (cell : ℕ → ℕ → ℕ) (y w : ℕ) → w < n → cell_stream n cell (n * y + w) ≡ cell y w
cell_stream-at n cell y w h =
    let some : 0 < n = omega (arith, h) in
    let symbol : (n * y + w) / n ≡ y = mul-add-div some y w ∙ (let e = div-eq_of_lt h in omega (arith, e)) in
    let place : (n * y + w) % n ≡ w = mul-add-mod_self_left n y w ∙ mod-eq_of_lt h in
    rw (symbol, place) refl

-- bit r of number e
pub bit_stream-at : (v : ℕ) (numbers : ℕ → ℕ) (e r : ℕ) → r < v → bit_stream v numbers (v * e + r) ≡ bit_of_number v (numbers e) r
bit_stream-at v numbers e r h =
    let some : 0 < v = omega (arith, h) in
    let number : (v * e + r) / v ≡ e = mul-add-div some e r ∙ (let k = div-eq_of_lt h in omega (arith, k)) in
    let bit : (v * e + r) % v ≡ r = mul-add-mod_self_left v e r ∙ mod-eq_of_lt h in
    rw (number, bit) refl

-- layer cell e comes behind time deinterleaving so many whole frames later
pub late_stream-at : (mode : Mode) (l : LayerParameters) (cell : ℕ → ℕ → ℕ) (e : ℕ) → 0 < layer_cells mode l
    → late_stream mode l cell (e + layer_cells mode l * (204 * frames_over mode l.depth)) ≡ cell (symbol_of_cell mode l e) (e % layer_cells mode l)
late_stream-at mode l cell e some =
    let n = layer_cells mode l in
    let frames = frames_over mode l.depth in
    let q = e + n * (204 * frames) in
    let i = time_depth mode l.depth in
    let d = carrier_delay (e % n % carriers mode) in
    let back = i * (95 - d) in
    let s = symbol_delay mode l (e % n) in
    let place : q % n ≡ e % n = add-mul-mod_self_left e n (204 * frames) in
    let most : d ≤ 95 = omega arith in
    let split : n * (204 * frames) ≡ n * back + n * s = ap (λ k. n * k) (rest (time_adjust mode l.depth) i d frames most (whole_frames mode l.depth)) ∙ mul-add n back s in
    ap (λ r. delayed (n * (i * (95 - carrier_delay (r % carriers mode)))) 0 (cell_stream n cell) q) place
    ∙ delayed-late (n * back) 0 (cell_stream n cell) q (omega (arith, split))
    ∙ ap (cell_stream n cell) (let k : q - n * back ≡ e + n * s = omega (arith, split) in k)
    ∙ ap (λ y. cell y ((e + n * s) % n)) (add-mul-div_left e s some)
    ∙ ap (λ w. cell (e / n + s) w) (add-mul-mod_self_left e n s)

-- ---- bits

-- the place of a coded bit so many frames of bits later
later_place : (v n c frames : ℕ) → 0 < v → bit_place v n (c + v * (n * frames)) ≡ v * (cell_of_bit v n c + n * frames) + c % v
later_place v n c frames some =
    let bit : (c + v * (n * frames)) % v ≡ c % v = add-mul-mod_self_left c v (n * frames) in
    let cell : (c + v * (n * frames)) / v ≡ c / v + n * frames = add-mul-div_left c (n * frames) some in
    ap (λ r. v * ((c + v * (n * frames)) / v + (2 * n - 120) + bit_delay v r) + r) bit
    ∙ ap (λ k. v * (k + (2 * n - 120) + bit_delay v (c % v)) + c % v) cell
    ∙ ap (λ k. v * k + c % v) (omega arith)

-- behind both deinterleavers coded bit c is what is read at its place
pub read-behind : (mode : Mode) (l : LayerParameters) (cell : ℕ → ℕ → ℕ) (y i : ℕ) → 60 ≤ layer_cells mode l
    → stage_item (deinter_layout (cell_bits l.modulation)) (bit_stream (cell_bits l.modulation) (late_stream mode l cell)) (bits_of_symbol mode l * (y + read_delay mode l) + i)
    ≡ read_bit mode l cell (bits_of_symbol mode l * y + i)
unfolding read_bit
read-behind mode l cell y i least =
    let v = cell_bits l.modulation in
    let n = layer_cells mode l in
    let frames = 204 * frames_over mode l.depth in
    let c = bits_of_symbol mode l * y + i in
    let e = layer_cell mode l c in
    let some : 0 < v = some_bits l.modulation in
    let stream = bit_stream v (late_stream mode l cell) in
    let at : v * n * (y + (frames + 2)) + i ≡ c + v * (n * frames) + v * (2 * n) =
    (let a = mul-add (v * n) y (frames + 2) in let b = mul-add (v * n) frames 2 in omega (arith, a, b)) in
    ap (stage_item (deinter_layout v) stream) at
    ∙ stage_item-deinter v n some least stream (c + v * (n * frames))
    ∙ ap stream (later_place v n c frames some)
    ∙ bit_stream-at v (late_stream mode l cell) (e + n * frames) (c % v) (omega (arith, some))
    ∙ ap (λ b. bit_of_number v b (c % v)) (late_stream-at mode l cell e (omega (arith, least)))
