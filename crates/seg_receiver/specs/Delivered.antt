-- What is delivered of the frames of a plan, and which views of cells are near the cells of a plan.
use Rattle.std.specs.Prelude.{◌≡◌, ℕ, ◌+◌, ◌-◌, ◌*◌, ◌<◌, ◌≤◌, true, if◌then◌else◌, nat_le, Option, Some, None, List, Bool, [], flat_map, take, drop}
use Rattle.std.specs.List.{range_with_len}
use Rattle.isdbt_base.specs.declared.kinds.Mode.{Mode}
use Rattle.isdbt_base.specs.declared.kinds.Guard.{Guard}
use Rattle.isdbt_base.specs.declared.kinds.Layer.{Layer}
use Rattle.isdbt_base.specs.declared.kinds.Layer.TheVariants.{A}
use Rattle.isdbt_base.specs.declared.stream.Form.{Form}
use Rattle.isdbt_base.specs.declared.stream.Form.TheVariants.{V1, V2}
use Rattle.isdbt_base.specs.LayerParameters.{LayerParameters}
use Rattle.isdbt_base.specs.Parameters.{layer_of}
use Rattle.isdbt_base.specs.Numbers.{packets_per_frame, layer_delay, first_segment}
use Rattle.isdbt_base.specs.Plans.{Schedule, at_frame}
use Rattle.isdbt_base.specs.Frames.{FramePackets}
use Rattle.isdbt_base.specs.Outcome.{product}
use Rattle.ts_packet.specs.Packets.{null_packet, IsPacket}
use Rattle.gf_rs.specs.Codewords.{codeword_of, differing, IsBytes}
use Rattle.tmcc_fix.specs.NearCodewords as words
use Rattle.layer_chain.specs.OuterWords.{unit_word}
use Rattle.coder_core.specs.SentCells.{plan_word}
use Rattle.remux_core.specs.Multiplex.{broadcast}
use Rattle.seg_receiver.specs.CellStream.{FrameCells, View}
use Rattle.seg_receiver.specs.Received.{place_bits}

-- a plan sends its first frames in this mode and with this guard interval
abbrev pub SendsIn : Mode → Guard → Schedule → ℕ → Type 0
SendsIn mode guard p count = (f : ℕ) → f < count → ((at_frame p f).mode ≡ mode) × ((at_frame p f).guard ≡ guard)

-- a stream of a version can carry a plan's first frames: version 1 has one mode and guard interval for all of them
abbrev pub CanCarry : Form → Schedule → ℕ → Type 0
CanCarry (V1 mode guard) p count = SendsIn mode guard p count
CanCarry V2 p count = Unit {0}

-- the same for partial reception, to which the guard interval is nothing
abbrev pub CanCarryPartial : Form → Schedule → ℕ → Type 0
CanCarryPartial (V1 mode guard) p count = (f : ℕ) → f < count → (at_frame p f).mode ≡ mode
CanCarryPartial V2 p count = Unit {0}

-- how many frames of its epoch are before a frame
abbrev pub into_epoch : Schedule → ℕ → ℕ
into_epoch p f = f - (at_frame p f).start

-- packet j of a layer as it is delivered in frame f: that of the frame before by the layer's delay, where the epoch has one
abbrev pub delayed_packet : Schedule → FramePackets → ℕ → Layer → ℕ → Option LayerParameters → List ℕ
delayed_packet p frames f x j None = null_packet
delayed_packet p frames f x j (Some l) =
    if nat_le (layer_delay (at_frame p f).mode l) (into_epoch p f) then frames (f - layer_delay (at_frame p f).mode l) x j else null_packet

abbrev pub delivered_packets : Schedule → FramePackets → FramePackets
delivered_packets p frames f x j = delayed_packet p frames f x j (layer_of (at_frame p f).setting x)

-- frame f has a packet j of a layer, and delivers these bytes as it
pub record IsDelivered (p : Schedule) (frames : FramePackets) (x : Layer) (f j : ℕ) (bytes : List ℕ) : Type 0 where
  pub layer : LayerParameters
  pub used : layer_of (at_frame p f).setting x ≡ Some layer
  pub within : j < packets_per_frame (at_frame p f).mode layer
  pub packet : delivered_packets p frames f x j ≡ bytes

-- the broadcast packets that are delivered of so many frames: those of the plan, each layer's packets put off by its delay
abbrev pub delivered : Schedule → FramePackets → ℕ → List ℕ
delivered p frames count = product (broadcast p (delivered_packets p frames)) count

-- layer A's packets that are delivered in frame f: none before its delay in each epoch
abbrev pub delivered_partial_frame : Schedule → FramePackets → ℕ → List ℕ
delivered_partial_frame p frames f =
    if nat_le (layer_delay (at_frame p f).mode (at_frame p f).setting.a) (into_epoch p f)
    then flat_map (delivered_packets p frames f A) (range_with_len 0 (packets_per_frame (at_frame p f).mode (at_frame p f).setting.a))
    else []

abbrev pub delivered_partial : Schedule → FramePackets → ℕ → List ℕ
delivered_partial p frames count = product (delivered_partial_frame p frames) count

-- the layers' packets of the first so many frames are packets of bytes
abbrev pub ArePackets : Schedule → FramePackets → ℕ → Type 0
ArePackets p frames count = (f j : ℕ) (x : Layer) (l : LayerParameters) → f < count → layer_of (at_frame p f).setting x ≡ Some l → j < packets_per_frame (at_frame p f).mode l
    → IsPacket (frames f x j) × IsBytes (frames f x j)

-- ---- near views

-- the outer word of a layer's packet j that a receiver of cells has for frame f, by the mode of the frame
abbrev pub outer_word_in : Mode → FrameCells → Schedule → LayerParameters → Layer → ℕ → ℕ → List ℕ
outer_word_in mode cell p l x f j =
    unit_word mode l (place_bits mode l cell (at_frame p f).start (first_segment (at_frame p f).setting x)) ((into_epoch p f - layer_delay mode l) * packets_per_frame mode l + j)

-- the same in the plan's mode
abbrev pub outer_word_at : View → Schedule → LayerParameters → Layer → ℕ → ℕ → List ℕ
outer_word_at v p l x f j = outer_word_in (at_frame p f).mode v.cell p l x f j

-- each outer word of a layer that is given out differs in at most eight bytes from its packet's codeword
abbrev pub AreWordsNear : View → Schedule → FramePackets → ℕ → Layer → Type 0
AreWordsNear v p frames count x = (f j : ℕ) (l : LayerParameters) → f < count → layer_of (at_frame p f).setting x ≡ Some l
    → layer_delay (at_frame p f).mode l ≤ into_epoch p f → j < packets_per_frame (at_frame p f).mode l
    → differing (outer_word_at v p l x f j) (codeword_of 16 (frames (f - layer_delay (at_frame p f).mode l) x j)) ≤ 8

-- the word of each of so many frames of a view is that of the plan
abbrev pub HaveWords : View → Schedule → ℕ → Type 0
HaveWords v p count = (f : ℕ) → f < count → v.word f ≡ plan_word p f

-- a word differs from another in at most eight of the bits from B20 on, and in none before
pub record IsWordNear (came word : List Bool) : Type 0 where
  pub start : take 20 came ≡ take 20 word
  pub close : words.differing (drop 20 came) (drop 20 word) ≤ 8

-- the words of so many frames of a view, as they came, differ so from those of the plan
abbrev pub AreRestorable : View → Schedule → ℕ → Type 0
AreRestorable v p count = (f : ℕ) → f < count → IsWordNear (v.came f) (plan_word p f)

-- a view has so many frames and no more, each in the plan's mode, with its guard interval and its word, and its outer words are near for each layer
pub record IsNear (v : View) (p : Schedule) (frames : FramePackets) (count : ℕ) : Type 0 where
  pub whole : v.size ≡ v.starts count
  pub modes : (f : ℕ) → f < count → v.mode f ≡ (at_frame p f).mode
  pub guards : (f : ℕ) → f < count → v.guard f ≡ (at_frame p f).guard
  pub words : HaveWords v p count
  pub close : (x : Layer) → AreWordsNear v p frames count x

-- the same for partial reception, which asks it of layer A alone, and that layer A has a segment by itself; the guard interval is nothing to it
pub record IsNearPartial (v : View) (p : Schedule) (frames : FramePackets) (count : ℕ) : Type 0 where
  pub whole : v.size ≡ v.starts count
  pub modes : (f : ℕ) → f < count → v.mode f ≡ (at_frame p f).mode
  pub words : HaveWords v p count
  pub close : AreWordsNear v p frames count A
  pub partial : (f : ℕ) → f < count → (at_frame p f).setting.partial ≡ true
