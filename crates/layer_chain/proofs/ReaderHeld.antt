-- How many items the deinterleavers of a reader hold: as many as the delays add up to.
use Rattle.std.proofs.Common.{◌≡◌, ℕ, zero, suc, ◌+◌, ◌-◌, ◌*◌, ◌/◌, ◌%◌, ◌<◌, List, refl, ap, subst, ◌∙◌, arith}
use Rattle.isdbt_base.specs.declared.kinds.Mode.{Mode}
use Rattle.isdbt_base.specs.declared.kinds.Modulation.{Modulation}
use Rattle.isdbt_base.specs.declared.kinds.Modulation.TheVariants.{Qpsk, Qam16, Qam64}
use Rattle.isdbt_base.specs.LayerParameters.{LayerParameters}
use Rattle.isdbt_base.specs.Numbers.{carriers, layer_cells, cell_bits, time_depth}
use Rattle.delay_line.specs.Stages.{Layout, StandsFor}
use Rattle.delay_line.proofs.StageLaws.{length-StandsFor}
use Rattle.bit_inter.specs.BitPlaces.{bit_delay}
use Rattle.time_inter.specs.CellPlaces.{carrier_delay}
use Rattle.time_inter.specs.LayerPartner as time
use Rattle.layer_chain.specs.BitDeinterleaver as bit
use Rattle.layer_chain.specs.Held.{items_in}
use Rattle.layer_chain.specs.SymbolReader.{PartsStandFor}
use Rattle.layer_chain.specs.declared.symbol_reader.SymbolReader.{SymbolReader}
use Rattle.layer_chain.proofs.HeldItems.{delays, items_in-delays, delays-same, delays-times, in_segment, segment_rounds}

-- a stage holds what it delays by
stage-items : {X : Type 0} (l : Layout X) (held : ℕ → List X) (h : List X) → StandsFor l held h → items_in held l.paths ≡ delays l.path_delay l.paths
stage-items l held h stands = items_in-delays held l.path_delay l.paths (λ p k. length-StandsFor l held h stands p k)

-- delays of two sides that add up to k on each path
delays-pair : (k : ℕ) (f g : ℕ → ℕ) (n : ℕ) → ((p : ℕ) → p < n → f p + g p ≡ k) → delays f n + delays g n ≡ k * n
unfolding delays
delays-pair k f g zero h = omega arith
delays-pair k f g (suc n) h =
    let before = delays-pair k f g n (λ p b. h p (omega arith)) in
    let last = h n (omega arith) in
    omega (arith, before, last)

rest-delays : (m : Modulation) → delays (λ r. 120 - bit_delay (cell_bits m) r) (cell_bits m) ≡ 60 * cell_bits m
unfolding delays
rest-delays Qpsk = refl
rest-delays Qam16 = refl
rest-delays Qam64 = refl

-- of the cells of a layer's symbol
partner-delays : (mode : Mode) (i segments : ℕ) → delays (λ w. i * (95 - carrier_delay (w % carriers mode))) (segments * carriers mode) ≡ segments * carriers mode * (95 * i) / 2
partner-delays mode i segments =
    let n = segments * carriers mode in
    let rest : ℕ → ℕ = λ w. 95 - carrier_delay w in
    let all = delays rest n in
    let same : delays (λ w. i * (95 - carrier_delay (w % carriers mode))) n ≡ i * all =
    delays-times i (λ w. 95 - carrier_delay (w % carriers mode)) n ∙ ap (λ k. i * k) (delays-same (λ w. 95 - carrier_delay (w % carriers mode)) rest n (λ p h. ap (λ k. 95 - k) (in_segment mode p))) in
    let both : delays carrier_delay n + all ≡ 95 * n = delays-pair 95 carrier_delay rest n (λ p h. omega arith) in
    let sent = segment_rounds mode segments in
    let half : 2 * all ≡ 95 * n = omega (arith, both, sent) in
    let twice : 2 * (i * all) ≡ n * (95 * i) = (let e : i * (2 * all) ≡ i * (95 * n) = ap (λ k. i * k) half in omega (arith, e)) in
    same ∙ omega (arith, twice)

-- time deinterleaving holds the cells of 95 lengths' half
pub reader-cells : (mode : Mode) (l : LayerParameters) (s : SymbolReader) (cell : ℕ → ℕ → ℕ) (symbols : ℕ) → PartsStandFor mode l s cell symbols
    → items_in (λ w. time.held_of s.cells w) (layer_cells mode l) ≡ layer_cells mode l * (95 * time_depth mode l.depth) / 2
reader-cells mode l s cell symbols stands =
    subst (λ k. items_in (time.held_of s.cells) k.paths ≡ delays k.path_delay k.paths) stands.cell_layout (stage-items (time.layout_of s.cells) (time.held_of s.cells) _ stands.cells_stand)
    ∙ partner-delays mode (time_depth mode l.depth) l.segments

-- bit deinterleaving holds 60 bits for each bit of a cell
pub reader-bits : (mode : Mode) (l : LayerParameters) (s : SymbolReader) (cell : ℕ → ℕ → ℕ) (symbols : ℕ) → PartsStandFor mode l s cell symbols
    → items_in (bit.held_of s.bits) (cell_bits l.modulation) ≡ 60 * cell_bits l.modulation
reader-bits mode l s cell symbols stands =
    subst (λ k. items_in (bit.held_of s.bits) k.paths ≡ delays k.path_delay k.paths) stands.bit_layout (stage-items (bit.layout_of s.bits) (bit.held_of s.bits) _ stands.bits_stand)
    ∙ rest-delays l.modulation
