-- The cells of a plan are near it.
use Rattle.std.proofs.Common.{◌≡◌, ℕ, ◌+◌, ◌-◌, ◌*◌, ◌/◌, ◌%◌, ◌≤◌, ◌<◌, List, [], ◌∷◌, refl, arith, ap, sym, ◌∙◌, subst, true, Some}
use Rattle.std.proofs.Math.Nat.{mul-add-div_right, mul-add-mod_self_right}
use Rattle.std.proofs.lemmas.Nat.{div_below, mod_below, div-mul-add, mod-mul-add}
use Rattle.std.proofs.lemmas.Bool.{eq-eqb}
use Rattle.isdbt_base.specs.declared.kinds.Mode.{Mode}
use Rattle.isdbt_base.specs.declared.stream.Reading.{Reading}
use Rattle.isdbt_base.specs.declared.kinds.Layer.{Layer}
use Rattle.isdbt_base.specs.declared.kinds.Layer.TheVariants.{A, B, C}
use Rattle.isdbt_base.specs.LayerParameters.{LayerParameters, HasSegments}
use Rattle.isdbt_base.specs.Parameters.{Parameters, IsAccepted, HasSegmentsIfUsed, layer_of, number_of}
use Rattle.isdbt_base.specs.Numbers.{carriers, layer_cells, packets_per_frame, layer_delay, first_segment}
use Rattle.isdbt_base.specs.Plans.{Schedule, at_frame, IsPlan}
use Rattle.isdbt_base.specs.Frames.{FramePackets}
use Rattle.isdbt_base.specs.Outcome.{product}
use Rattle.ts_packet.specs.Packets.{IsPacket}
use Rattle.gf_rs.specs.Codewords.{codeword_of, differing, IsBytes}
use Rattle.cell_map.specs.Levels.{bits_of}
use Rattle.cell_map.proofs.LevelLaws.{bits_of-cell_of}
use Rattle.layer_chain.specs.CodedBits.{layer_coded_bit}
use Rattle.layer_chain.specs.LayerCells.{cell_bits_at}
use Rattle.layer_chain.proofs.CellNumbers.{cell_bits_at-lt}
use Rattle.layer_chain.proofs.CleanWords.{clean_word}
use Rattle.layer_chain.proofs.StableWords.{unit_word-same}
use Rattle.coder_core.specs.SentCells.{epoch_packet, layer_cell_at, epoch_cell, sent_frame}
use Rattle.isdbt_base.proofs.PlanEpochs.{epoch_start-le, same_epoch, setting_accepted}
use Rattle.coder_core.proofs.SegmentCells.{carriers-positive, layer-symbol_cell}
use Rattle.seg_receiver.specs.CellStream.{View, view_of, writing_of}
use Rattle.seg_receiver.specs.Received.{place_bits}
use Rattle.seg_receiver.specs.Delivered.{CanCarry, CanCarryPartial, into_epoch, ArePackets, outer_word_at, AreWordsNear, IsNear, IsNearPartial}
use Rattle.seg_receiver.proofs.PlanViews.{ShowsPlan, shows_partial, carries_partial, shows_guards}

-- ---- layers and segments

-- a used layer of an accepted setting has segments
pub has_segments : (s : Parameters) (x : Layer) (l : LayerParameters) → IsAccepted s → layer_of s x ≡ Some l → HasSegments l
has_segments s A l h e = subst HasSegmentsIfUsed e h.a_segments
has_segments s B l h e = subst HasSegmentsIfUsed e h.b_segments
has_segments s C l h e = subst HasSegmentsIfUsed e h.c_segments

-- a segment of a used layer is one of the thirteen
pub segment-lt : (s : Parameters) (x : Layer) (l : LayerParameters) (n : ℕ) → IsAccepted s → layer_of s x ≡ Some l → n < l.segments → first_segment s x + n < 13
segment-lt s A l n h used k = (let e : s.a.segments ≡ l.segments = ap (number_of (λ l. l.segments)) used in let sum = h.segments in omega (arith, e, sum))
segment-lt s B l n h used k = (let e : number_of (λ l. l.segments) s.b ≡ l.segments = ap (number_of (λ l. l.segments)) used in let sum = h.segments in omega (arith, e, sum))
segment-lt s C l n h used k = (let e : number_of (λ l. l.segments) s.c ≡ l.segments = ap (number_of (λ l. l.segments)) used in let sum = h.segments in omega (arith, e, sum))

-- ---- cells of a layer

-- the bits of a layer's cell come back
layer_cell_at-bits : (mode : Mode) (l : LayerParameters) (packet : ℕ → List ℕ) (y w : ℕ) → bits_of l.modulation (layer_cell_at mode l packet y w) ≡ cell_bits_at mode l (layer_coded_bit mode l packet) y w
unfolding layer_cell_at
layer_cell_at-bits mode l packet y w = bits_of-cell_of l.modulation (cell_bits_at mode l (layer_coded_bit mode l packet) y w) (cell_bits_at-lt mode l (layer_coded_bit mode l packet) y w)

-- the cell of the epoch at place w of a layer
epoch_cell-of : (mode : Mode) (s : Parameters) (frames : FramePackets) (start y : ℕ) (x : Layer) (l : LayerParameters) (w : ℕ) → layer_of s x ≡ Some l → w < layer_cells mode l →
    epoch_cell mode s frames start y (first_segment s x + w / carriers mode) (w % carriers mode) ≡ layer_cell_at mode l (epoch_packet mode l frames start x) y w
epoch_cell-of mode s frames start y x l w used h =
    let c = carriers mode in
    let f = first_segment s x in
    ap (epoch_cell mode s frames start y (f + w / c)) (sym (mul-add-mod_self_right f c w))
    ∙ ap (λ k. epoch_cell mode s frames start y k ((f * c + w) % c)) (sym (mul-add-div_right (carriers-positive mode) f w))
    ∙ layer-symbol_cell mode s frames start y x l w used h

-- what is read of the frames up to f of an epoch is what was sent
place_bits-plan : (v : View) (p : Schedule) (frames : FramePackets) (count f : ℕ) (x : Layer) (l : LayerParameters) (y w : ℕ) → IsPlan p → ShowsPlan v p frames count → f < count → layer_of (at_frame p f).setting x ≡ Some l →
    y < 204 * (into_epoch p f + 1) → w < layer_cells (at_frame p f).mode l →
    place_bits (at_frame p f).mode l v.cell (at_frame p f).start (first_segment (at_frame p f).setting x) y w
    ≡ cell_bits_at (at_frame p f).mode l (layer_coded_bit (at_frame p f).mode l (epoch_packet (at_frame p f).mode l frames (at_frame p f).start x)) y w
place_bits-plan v p frames count f x l y w plan shows h used ly lw =
    let mode = (at_frame p f).mode in
    let s = (at_frame p f).setting in
    let start = (at_frame p f).start in
    let first = first_segment s x in
    let g = start + y / 204 in
    let c = carriers mode in
    let before = epoch_start-le p f in
    let same = same_epoch p g f plan (omega (arith, before)) (omega arith) in
    let row : w / c < l.segments = div_below w c l.segments (carriers-positive mode) lw in
    let segment = segment-lt s x l (w / c) (setting_accepted p f plan) used row in
    ap (bits_of l.modulation) (
    shows.cells g (y % 204) (first + w / c) (w % c) (omega (arith, before, h, ly)) (omega arith) segment (subst (λ m. w % c < carriers m) (sym same.mode) (mod_below w c (carriers-positive mode)))
    ∙ ap (λ m. epoch_cell m (at_frame p g).setting frames (at_frame p g).start (204 * (g - (at_frame p g).start) + y % 204) (first + w / c) (w % c)) same.mode
    ∙ ap (λ u. epoch_cell mode u frames (at_frame p g).start (204 * (g - (at_frame p g).start) + y % 204) (first + w / c) (w % c)) same.setting
    ∙ ap (λ u. epoch_cell mode s frames u (204 * (g - u) + y % 204) (first + w / c) (w % c)) same.start
    ∙ ap (λ z. epoch_cell mode s frames start z (first + w / c) (w % c)) (let e : 204 * (start + y / 204 - start) + y % 204 ≡ y = omega arith in e)
    ∙ epoch_cell-of mode s frames start y x l w used lw)
    ∙ layer_cell_at-bits mode l (epoch_packet mode l frames start x) y w

-- ---- outer words

differing-self : (xs : List ℕ) → differing xs xs ≡ 0
unfolding differing
differing-self [] = refl
differing-self (x ∷ xs) = rw (eq-eqb x x refl) (differing-self xs)

-- each outer word of the plan's cells is its packet's codeword
outer_word-plan : (v : View) (p : Schedule) (frames : FramePackets) (count : ℕ) (x : Layer) → IsPlan p → ArePackets p frames count → ShowsPlan v p frames count → (f j : ℕ) (l : LayerParameters) → f < count → layer_of (at_frame p f).setting x ≡ Some l
    → layer_delay (at_frame p f).mode l ≤ into_epoch p f → j < packets_per_frame (at_frame p f).mode l → outer_word_at v p l x f j ≡ codeword_of 16 (frames (f - layer_delay (at_frame p f).mode l) x j)
outer_word-plan v p frames count x plan packets shows f j l h used late k =
    let mode = (at_frame p f).mode in
    let s = (at_frame p f).setting in
    let start = (at_frame p f).start in
    let t = packets_per_frame mode l in
    let g = f - layer_delay mode l in
    let m = (into_epoch p f - layer_delay mode l) * t + j in
    let before = epoch_start-le p f in
    let packet = epoch_packet mode l frames start x in
    let frame : start + m / t ≡ g = (let e = div-mul-add (into_epoch p f - layer_delay mode l) t j k in omega (arith, e, before, late)) in
    let is : packet m ≡ frames g x j = ap (λ n. frames n x (m % t)) frame ∙ ap (frames g x) (mod-mul-add (into_epoch p f - layer_delay mode l) t j k) in
    let epoch = same_epoch p g f plan (omega arith) (omega (arith, late, before)) in
    let fine = packets g j x l (omega (arith, h)) (ap (λ u. layer_of u x) epoch.setting ∙ used) (subst (λ m. j < packets_per_frame m l) (sym epoch.mode) k) in
    let word = clean_word mode l packet m (subst IsPacket (sym is) fine.0) (subst IsBytes (sym is) fine.1) in
    unit_word-same mode l (place_bits mode l v.cell start (first_segment s x)) (cell_bits_at mode l (layer_coded_bit mode l packet)) (into_epoch p f) j
    (has_segments s x l (setting_accepted p f plan) used) late k (λ y w ly lw. place_bits-plan v p frames count f x l y w plan shows h used ly lw)
    ∙ word ∙ ap (codeword_of 16) is

-- ---- a view that shows a plan is near it

words-near : (v : View) (p : Schedule) (frames : FramePackets) (count : ℕ) → IsPlan p → ArePackets p frames count → ShowsPlan v p frames count → (x : Layer) → AreWordsNear v p frames count x
words-near v p frames count plan packets shows x f j l h used late k =
    let sent = codeword_of 16 (frames (f - layer_delay (at_frame p f).mode l) x j) in
    let e = ap (λ word. differing word sent) (outer_word-plan v p frames count x plan packets shows f j l h used late k) ∙ differing-self sent in omega (arith, e)

pub plan_cells-near : (how : Reading) (p : Schedule) (frames : FramePackets) (count : ℕ) → IsPlan p → CanCarry how.form p count → ArePackets p frames count
    → IsNear (view_of how (product (sent_frame (writing_of how.form) p frames) count)) p frames count
plan_cells-near how p frames count plan carries packets =
    let shows = shows_partial p frames count how.fix how.form (carries_partial p frames count how.form carries) in
    record {
      whole = shows.whole;
      modes = shows.modes;
      guards = shows_guards p frames count how.fix how.form carries;
      words = shows.words;
      close = words-near _ p frames count plan packets shows;
    }

pub plan_cells-near_partial : (how : Reading) (p : Schedule) (frames : FramePackets) (count : ℕ) → IsPlan p → CanCarryPartial how.form p count → ArePackets p frames count → ((f : ℕ) → f < count → (at_frame p f).setting.partial ≡ true)
    → IsNearPartial (view_of how (product (sent_frame (writing_of how.form) p frames) count)) p frames count
plan_cells-near_partial how p frames count plan carries packets partial =
    let shows = shows_partial p frames count how.fix how.form carries in
    record {
      whole = shows.whole;
      modes = shows.modes;
      words = shows.words;
      close = words-near _ p frames count plan packets shows A;
      partial = partial;
    }
