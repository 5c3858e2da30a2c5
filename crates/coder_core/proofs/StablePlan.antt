-- The cells of a frame of a plan need the packets of the frames up to it alone.
use Rattle.std.proofs.Common.{◌≡◌, ℕ, ◌+◌, ◌-◌, ◌*◌, ◌/◌, ◌%◌, ◌≤◌, ◌<◌, Bool, false, List, ◌∷◌, arith, refl, ap, sym, ◌∙◌, subst, inl, inr, Option, Some}
use Rattle.std.specs.Prelude.{slice_index_or}
use Rattle.std.specs.Int.{from_bool}
use Rattle.std.proofs.lemmas.Nat.{div_below, mod_below, mul-add-lt}
use Rattle.std.proofs.lemmas.Bool.{lt-ltb, le-ltb, cases_lt}
use Rattle.isdbt_base.proofs.OptionLaws.{option_cases}
use Rattle.isdbt_base.specs.declared.kinds.Mode.{Mode}
use Rattle.isdbt_base.specs.declared.kinds.Layer.{Layer}
use Rattle.isdbt_base.specs.declared.kinds.Layer.TheVariants.{A, B, C}
use Rattle.isdbt_base.specs.LayerParameters.{LayerParameters, HasSegments}
use Rattle.isdbt_base.specs.Parameters.{Parameters, IsAccepted, HasSegmentsIfUsed, layer_of, number_of}
use Rattle.isdbt_base.specs.Numbers.{carriers, layer_cells, packets_per_frame, first_segment}
use Rattle.isdbt_base.specs.Plans.{Schedule, at_frame, IsPlan}
use Rattle.isdbt_base.specs.Frames.{FramePackets}
use Rattle.isdbt_base.proofs.NumberLaws.{packets-least}
use Rattle.isdbt_base.proofs.RangeLaws.{flat_map-same}
use Rattle.cell_map.specs.declared.cell.Cell.{Cell}
use Rattle.cell_map.specs.Levels.{cell_of}
use Rattle.layer_chain.proofs.StableCells.{cell_bits_at-same}
use Rattle.coder_core.specs.SentCells.{epoch_packet, layer_cell_at, segment_layer, cell_in, epoch_cell, cell_bytes, symbol_bytes, epoch_frame_cells, frame_cells, plan_word, AgreeUpTo}
use Rattle.isdbt_base.proofs.PlanEpochs.{epoch_start-le, same_epoch, setting_accepted}
use Rattle.coder_core.proofs.SegmentCells.{carriers-positive}

-- ---- layers and segments

-- a used layer of an accepted setting has segments
has_segments : (s : Parameters) (x : Layer) (l : LayerParameters) → IsAccepted s → layer_of s x ≡ Some l → HasSegments l
has_segments s A l h e = subst HasSegmentsIfUsed e h.a_segments
has_segments s B l h e = subst HasSegmentsIfUsed e h.b_segments
has_segments s C l h e = subst HasSegmentsIfUsed e h.c_segments

-- segments of a layer, where it is used
segments_used : (o : Option LayerParameters) (l : LayerParameters) → o ≡ Some l → number_of (λ l. l.segments) o ≡ l.segments
segments_used o l e = ap (number_of (λ l. l.segments)) e

-- which layer has a segment: A, those after A are B's, and those after B are C's
segment_layer-a : (s : Parameters) (segment : ℕ) → segment < first_segment s B → segment_layer s segment ≡ A
segment_layer-a s segment h = rw (lt-ltb segment (first_segment s B) h) refl

segment_layer-b : (s : Parameters) (segment : ℕ) → first_segment s B ≤ segment → segment < first_segment s C → segment_layer s segment ≡ B
segment_layer-b s segment h k = rw (le-ltb segment (first_segment s B) h, lt-ltb segment (first_segment s C) k) refl

segment_layer-c : (s : Parameters) (segment : ℕ) → first_segment s C ≤ segment → segment_layer s segment ≡ C
segment_layer-c s segment h = rw (le-ltb segment (first_segment s B) (omega arith), le-ltb segment (first_segment s C) h) refl

-- a segment lies within its layer
segment-within : (s : Parameters) (x : Layer) (l : LayerParameters) (segment : ℕ) → IsAccepted s → segment < 13 → segment_layer s segment ≡ x → layer_of s x ≡ Some l → segment - first_segment s x < l.segments
segment-within s A l segment h n is e =
    elim (cases_lt segment (first_segment s B)) [
      | inl low ↦ (let k : s.a.segments ≡ l.segments = segments_used (Some s.a) l e in omega (arith, k, low))
      | inr high ↦ elim (cases_lt segment (first_segment s C)) [
        | inl mid ↦ (let k = segment_layer-b s segment high mid in cc)
        | inr top ↦ (let k = segment_layer-c s segment top in cc)
      ]
    ]
segment-within s B l segment h n is e =
    elim (cases_lt segment (first_segment s B)) [
      | inl low ↦ (let k = segment_layer-a s segment low in cc)
      | inr high ↦ elim (cases_lt segment (first_segment s C)) [
        | inl mid ↦ (let k = segments_used s.b l e in omega (arith, k, mid, high))
        | inr top ↦ (let k = segment_layer-c s segment top in cc)
      ]
    ]
segment-within s C l segment h n is e =
    elim (cases_lt segment (first_segment s B)) [
      | inl low ↦ (let k = segment_layer-a s segment low in cc)
      | inr high ↦ elim (cases_lt segment (first_segment s C)) [
        | inl mid ↦ (let k = segment_layer-b s segment high mid in cc)
        | inr top ↦ (let k = segments_used s.c l e in let sum = h.segments in omega (arith, k, top, sum))
      ]
    ]

-- ---- cells of an epoch

-- packets that are alike in the first f frames of an epoch give the same cells of the layer in the symbols of these frames
layer_cell_at-same : (mode : Mode) (l : LayerParameters) (packet other : ℕ → List ℕ) (f y w : ℕ) → y < 204 * f → w < layer_cells mode l →
    ((m : ℕ) → m < packets_per_frame mode l * f → packet m ≡ other m) → layer_cell_at mode l packet y w ≡ layer_cell_at mode l other y w
unfolding layer_cell_at
layer_cell_at-same mode l packet other f y w h k same = ap (cell_of l.modulation) (cell_bits_at-same mode l packet other f y w h k same)

-- packets of the used layers that are alike in the first f frames of an epoch give the same cell at a segment and carrier in the symbols of these frames
epoch_cell-same : (mode : Mode) (s : Parameters) (frames other : FramePackets) (start f y segment carrier : ℕ) → IsAccepted s → y < 204 * f → segment < 13 → carrier < carriers mode →
    ((x : Layer) (l : LayerParameters) (m : ℕ) → layer_of s x ≡ Some l → m < packets_per_frame mode l * f → epoch_packet mode l frames start x m ≡ epoch_packet mode l other start x m) →
    epoch_cell mode s frames start y segment carrier ≡ epoch_cell mode s other start y segment carrier
epoch_cell-same mode s frames other start f y segment carrier h k n c same =
    let x = segment_layer s segment in
    elim (option_cases (layer_of s (segment_layer s segment))) [
      | inl none ↦ ap (cell_in mode s frames start y segment carrier x) none ∙ ap (cell_in mode s other start y segment carrier x) (sym none)
      | inr used ↦ (let l = used.0 in
          let within : (segment - first_segment s x) * carriers mode + carrier < layer_cells mode l =
          (let e = mul-add-lt (segment - first_segment s x) (carriers mode) carrier l.segments (segment-within s x l segment h n refl used.1) c in omega (arith, e)) in
          ap (cell_in mode s frames start y segment carrier x) used.1
          ∙ layer_cell_at-same mode l (epoch_packet mode l frames start x) (epoch_packet mode l other start x) f y ((segment - first_segment s x) * carriers mode + carrier) k within (λ m b. same x l m used.1 b)
          ∙ ap (cell_in mode s other start y segment carrier x) (sym used.1))
    ]

-- cells that are alike give the same symbol
symbol_bytes-same : (mode : Mode) (tmcc : Bool) (cell other : ℕ → ℕ → Cell) → ((segment carrier : ℕ) → segment < 13 → carrier < carriers mode → cell segment carrier ≡ other segment carrier) → symbol_bytes mode tmcc cell ≡ symbol_bytes mode tmcc other
unfolding symbol_bytes
symbol_bytes-same mode tmcc cell other same =
    ap (λ bytes. from_bool tmcc ∷ bytes) (flat_map-same _ _ 0 (13 * carriers mode) (λ n a b.
    ap cell_bytes (same (n / carriers mode) (n % carriers mode) (div_below n (carriers mode) 13 (carriers-positive mode) (omega arith)) (mod_below n (carriers mode) (carriers-positive mode)))))

-- packets that are alike in frames 0 to g of an epoch give the same cells of its frame g
epoch_frame_cells-same : (mode : Mode) (s : Parameters) (frames other : FramePackets) (start g : ℕ) (word : List Bool) → IsAccepted s →
    ((x : Layer) (l : LayerParameters) (m : ℕ) → layer_of s x ≡ Some l → m < packets_per_frame mode l * (g + 1) → epoch_packet mode l frames start x m ≡ epoch_packet mode l other start x m) →
    epoch_frame_cells mode s frames start g word ≡ epoch_frame_cells mode s other start g word
unfolding epoch_frame_cells
epoch_frame_cells-same mode s frames other start g word h same =
    flat_map-same _ _ 0 204 (λ k a b.
    symbol_bytes-same mode (slice_index_or word k false) (epoch_cell mode s frames start (204 * g + k)) (epoch_cell mode s other start (204 * g + k)) (λ segment carrier n c.
    epoch_cell-same mode s frames other start (g + 1) (204 * g + k) segment carrier h (omega arith) n c same))

-- ---- cells of a plan

-- packets that are alike in the frames up to f, where their layers have them, give the same cells of frame f
pub frame_cells-same : (p : Schedule) (frames other : FramePackets) (f : ℕ) → IsPlan p → AgreeUpTo p f frames other → frame_cells p frames f ≡ frame_cells p other f
unfolding frame_cells
frame_cells-same p frames other f plan agree =
    let mode = (at_frame p f).mode in
    let s = (at_frame p f).setting in
    let start = (at_frame p f).start in
    let before : start ≤ f = epoch_start-le p f in
    let accepted = setting_accepted p f plan in
    epoch_frame_cells-same mode s frames other start (f - start) (plan_word p f) accepted (λ x l m used d.
    let t = packets_per_frame mode l in
    let positive : 0 < t = (let e = packets-least mode l (has_segments s x l accepted used) in omega (arith, e)) in
    let row : m / t < f - start + 1 = div_below m t (f - start + 1) positive (omega (arith, d)) in
    let epoch = same_epoch p (start + m / t) f plan (omega (arith, row, before)) (omega arith) in
    let place : m % t < packets_per_frame (at_frame p (start + m / t)).mode l =
    subst (λ n. m % t < packets_per_frame n l) (sym epoch.mode) (mod_below m t positive) in
    agree (start + m / t) (m % t) x l (omega (arith, row, before)) (ap (λ u. layer_of u x) epoch.setting ∙ used) place)
