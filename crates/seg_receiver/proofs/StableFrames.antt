-- What is given out in a frame depends on the words and cells of the frames up to it, whatever they say.
use Rattle.std.proofs.Common.{◌≡◌, ℕ, zero, suc, ◌+◌, ◌-◌, ◌/◌, ◌%◌, ◌≤◌, ◌<◌, Bool, List, refl, arith, ap, sym, ◌∙◌, subst, inl, inr, Some, Ok}
use Rattle.ts_packet.specs.Packets.{null_packet}
use Rattle.std.specs.Prelude.{if◌then◌else◌, ◌==◌, nat_le, []}
use Rattle.std.proofs.lemmas.Nat.{div_below, mod_below}
use Rattle.std.proofs.lemmas.Bool.{cond_both}
use Rattle.isdbt_base.proofs.OptionLaws.{option_cases, result_cases}
use Rattle.isdbt_base.proofs.RangeLaws.{flat_map-same}
use Rattle.isdbt_base.specs.declared.kinds.Mode.{Mode}
use Rattle.isdbt_base.specs.declared.kinds.Layer.{Layer}
use Rattle.isdbt_base.specs.LayerParameters.{LayerParameters}
use Rattle.isdbt_base.specs.Parameters.{Parameters, IsAccepted, layer_of, number_of}
use Rattle.isdbt_base.specs.Numbers.{carriers, packets_per_frame, layer_delay, first_segment}
use Rattle.frame_order.specs.OrderedFrame.{ordered_frame}
use Rattle.frame_order.proofs.FrameBytes.{ordered_frame-same}
use Rattle.cell_map.specs.Levels.{bits_of}
use Rattle.tmcc_word.specs.Fields.{TmccFields}
use Rattle.tmcc_word.specs.Reading.{read}
use Rattle.tmcc_word.proofs.Accepted.{read-fits}
use Rattle.layer_chain.specs.OuterWords.{given_out}
use Rattle.layer_chain.proofs.StableWords.{given_out-same}
use Rattle.coder_core.proofs.SegmentCells.{carriers-positive}
use Rattle.seg_receiver.specs.CellStream.{FrameCells, segment_cells, View, AgreeUpTo}
use Rattle.seg_receiver.specs.Epochs.{countdown_read, epoch_start}
use Rattle.seg_receiver.specs.Received.{place_bits, setting_packet, word_packet, received_packets, tag_read, word_frame, received_frame, segment_bits, partial_packets, word_partial, partial_frame}
use Rattle.seg_receiver.proofs.CleanDelivered.{has_segments, segment-lt}

-- cells that are alike from a frame up to frame f, at each place of a frame
abbrev pub CellsAgreeFrom : Mode → ℕ → ℕ → FrameCells → FrameCells → Type 0
CellsAgreeFrom mode start f cell other = (g k segment carrier : ℕ) → start ≤ g → g ≤ f → k < 204 → segment < 13 → carrier < carriers mode → cell g k segment carrier ≡ other g k segment carrier

-- what is alike of two views at a frame: what its word says, its epoch, and the cells from the epoch's first frame on
pub record IsAlikeAt (f : ℕ) (v w : View) : Type 0 where
  pub mode : v.mode f ≡ w.mode f
  pub guard : v.guard f ≡ w.guard f
  pub says : read (v.word f) ≡ read (w.word f)
  pub begun : epoch_start v.word f ≡ epoch_start w.word f
  pub cells : CellsAgreeFrom (v.mode f) (epoch_start v.word f) f v.cell w.cell

-- words that say the same before a frame give the same epoch
pub epoch_start-same : (words other : ℕ → List Bool) (f : ℕ) → ((g : ℕ) → g < f → read (words g) ≡ read (other g)) → epoch_start words f ≡ epoch_start other f
unfolding epoch_start
epoch_start-same words other zero same = refl
epoch_start-same words other (suc f) same =
    ap (λ r. if countdown_read r == 0 then suc f else epoch_start words f) (same f (omega arith))
    ∙ ap (λ start. if countdown_read (read (other f)) == 0 then suc f else start) (epoch_start-same words other f (λ g h. same g (omega arith)))

-- an epoch begins at its frame or before
read_start-le : (words : ℕ → List Bool) (f : ℕ) → epoch_start words f ≤ f
unfolding epoch_start
read_start-le words zero = omega arith
read_start-le words (suc f) =
    cond_both (countdown_read (read (words f)) == 0) (suc f) (epoch_start words f) (λ n. n ≤ suc f) (λ e. omega arith) (λ e. let k = read_start-le words f in omega (arith, k))

-- cells that are alike in the frames of an epoch up to f give the same packets of a layer in frame f
given_out-alike : (mode : Mode) (s : Parameters) (x : Layer) (l : LayerParameters) (cell other : FrameCells) (start f j : ℕ) → IsAccepted s → layer_of s x ≡ Some l → start ≤ f → CellsAgreeFrom mode start f cell other → j < packets_per_frame mode l →
    given_out mode l (place_bits mode l cell start (first_segment s x)) (f - start) j ≡ given_out mode l (place_bits mode l other start (first_segment s x)) (f - start) j
given_out-alike mode s x l cell other start f j accepted used before same k =
    let first = first_segment s x in
    given_out-same mode l (place_bits mode l cell start first) (place_bits mode l other start first) (f - start) j (has_segments s x l accepted used) k (λ y w ly lw.
    let row : w / carriers mode < l.segments = div_below w (carriers mode) l.segments (carriers-positive mode) lw in
    ap (bits_of l.modulation) (same (start + y / 204) (y % 204) (first + w / carriers mode) (w % carriers mode) (omega arith) (omega (arith, before)) (omega arith) (segment-lt s x l (w / carriers mode) accepted used row) (mod_below w (carriers mode) (carriers-positive mode))))

word_packet-same : (mode : Mode) (words other : ℕ → List Bool) (cell cells : FrameCells) (f j : ℕ) (x : Layer) (i : TmccFields × Bool) → read (words f) ≡ Ok i → read (other f) ≡ Ok i → epoch_start words f ≡ epoch_start other f →
    CellsAgreeFrom mode (epoch_start words f) f cell cells → j < number_of (packets_per_frame mode) (layer_of i.0.now x) → word_packet mode cell (epoch_start words f) f x j (read (words f)) ≡ word_packet mode cells (epoch_start other f) f x j (read (other f))
word_packet-same mode words other cell cells f j x i word too start same k =
    let s = i.0.now in
    let begun = epoch_start other f in
    let fits = read-fits (words f) i word in
    ap (word_packet mode cell (epoch_start words f) f x j) word
    ∙ ap (λ u. setting_packet mode cell u f s x j (layer_of s x)) start
    ∙ elim (option_cases (layer_of i.0.now x)) [
      | inl none ↦ ap (setting_packet mode cell begun f s x j) none ∙ sym (ap (setting_packet mode cells begun f s x j) none)
      | inr used ↦ (let within : j < packets_per_frame mode used.0 = subst (λ o. j < number_of (packets_per_frame mode) o) used.1 k in
          ap (setting_packet mode cell begun f s x j) used.1
          ∙ given_out-alike mode s x used.0 cell cells begun f j fits.now used.1 (read_start-le other f) (λ g m segment carrier from. same g m segment carrier (omega (arith, start, from))) within
          ∙ sym (ap (setting_packet mode cells begun f s x j) used.1))
    ]
    ∙ sym (ap (word_packet mode cells begun f x j) too)

received_packets-same : (v w : View) (f j : ℕ) (x : Layer) (i : TmccFields × Bool) → IsAlikeAt f v w → read (v.word f) ≡ Ok i → read (w.word f) ≡ Ok i →
    j < number_of (packets_per_frame (v.mode f)) (layer_of i.0.now x) → received_packets v f x j ≡ received_packets w f x j
unfolding received_packets
received_packets-same v w f j x i alike word too k =
    word_packet-same (v.mode f) v.word w.word v.cell w.cell f j x i word too alike.begun alike.cells k
    ∙ ap (λ m. word_packet m w.cell (epoch_start w.word f) f x j (read (w.word f))) alike.mode

-- views that are alike at frame f give the same output frame
pub received_frame-alike : (v w : View) (f : ℕ) → IsAlikeAt f v w → received_frame v f ≡ received_frame w f
unfolding received_frame
received_frame-alike v w f alike =
    let mode = v.mode f in
    let guard = v.guard f in
    let begun = epoch_start w.word f in
    let got = received_packets v f in
    let due = received_packets w f in
    let same = sym alike.says in
    elim (result_cases (read (v.word f))) [
      | inr refused ↦ (let too = same ∙ refused.1 in
          ap (word_frame mode guard (epoch_start v.word f) f got) refused.1 ∙ sym (ap (word_frame mode guard begun f due) too))
      | inl word ↦ (let i = word.0 in
          let too = same ∙ word.1 in
          ap (word_frame mode guard (epoch_start v.word f) f got) word.1
          ∙ ap (λ u. ordered_frame mode guard i.0.now (tag_read i u f) null_packet got) alike.begun
          ∙ ordered_frame-same mode guard i.0.now (tag_read i begun f) null_packet got due (λ m k. received_packets-same v w f m.index m.layer i alike word.1 too k)
          ∙ sym (ap (word_frame mode guard begun f due) too))
    ]
    ∙ ap (λ m. word_frame m guard begun f due (read (w.word f))) alike.mode
    ∙ ap (λ g. word_frame (w.mode f) g begun f due (read (w.word f))) alike.guard

-- so do views that are alike up to f
pub received_frame-same : (v w : View) (f : ℕ) → AgreeUpTo f v w → received_frame v f ≡ received_frame w f
received_frame-same v w f alike = received_frame-alike v w f (record {
  mode = alike.same_mode;
  guard = alike.same_guard;
  says = ap read (alike.words f (omega arith));
  begun = epoch_start-same v.word w.word f (λ g h. ap read (alike.words g (omega (arith, h))));
  cells = λ g k segment carrier from to. alike.cells g k segment carrier to;
})

-- ---- partial reception

-- layer A's packets of views that are alike at frame f
partial_packets-alike : (mode : Mode) (s : Parameters) (cell other : FrameCells) (start f : ℕ) → IsAccepted s → start ≤ f → CellsAgreeFrom mode start f cell other
    → partial_packets mode s.a (segment_cells cell) start (f - start) ≡ partial_packets mode s.a (segment_cells other) start (f - start)
partial_packets-alike mode s cell other start f accepted before same =
    let l = s.a in
    let h = f - start in
    ap (λ xs. if nat_le (layer_delay mode l) h then xs else [])
    (flat_map-same (given_out mode l (segment_bits mode l (segment_cells cell) start) h) (given_out mode l (segment_bits mode l (segment_cells other) start) h) 0 (packets_per_frame mode l) (λ j a k.
    given_out-same mode l (segment_bits mode l (segment_cells cell) start) (segment_bits mode l (segment_cells other) start) h j accepted.a_segments (omega (arith, k)) (λ y w ly lw.
    ap (bits_of l.modulation) (same (start + y / 204) (y % 204) 0 (w % carriers mode) (omega arith) (omega (arith, before, ly)) (omega arith) (omega arith) (mod_below w (carriers mode) (carriers-positive mode))))))

pub partial_frame-alike : (v w : View) (f : ℕ) → IsAlikeAt f v w → partial_frame v f ≡ partial_frame w f
unfolding partial_frame
partial_frame-alike v w f alike =
    let mode = v.mode f in
    let cell = segment_cells v.cell in
    let other = segment_cells w.cell in
    let begun = epoch_start v.word f in
    let same = sym alike.says in
    elim (result_cases (read (v.word f))) [
      | inr refused ↦ ap (word_partial mode cell begun f) refused.1 ∙ sym (ap (word_partial mode other begun f) (same ∙ refused.1))
      | inl word ↦ (
          let i = word.0 in
          let fits = read-fits (v.word f) i word.1 in
          ap (word_partial mode cell begun f) word.1
          ∙ partial_packets-alike mode i.0.now v.cell w.cell begun f fits.now (read_start-le v.word f) alike.cells
          ∙ sym (ap (word_partial mode other begun f) (same ∙ word.1)))
    ]
    ∙ ap (λ u. word_partial mode other u f (read (w.word f))) alike.begun
    ∙ ap (λ m. word_partial m other (epoch_start w.word f) f (read (w.word f))) alike.mode
