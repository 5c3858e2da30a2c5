-- The frames that are received of the spoiled cells of a plan.
use Rattle.std.proofs.Common.{◌≡◌, ℕ, ◌+◌, ◌-◌, ◌%◌, ◌<◌, Bool, List, Option, Some, None, Ok, false, refl, arith, ap, sym, ◌∙◌, subst}
use Rattle.std.specs.Prelude.{◌==◌}
use Rattle.isdbt_base.specs.declared.kinds.Mode.{Mode}
use Rattle.isdbt_base.specs.declared.kinds.Guard.{Guard}
use Rattle.isdbt_base.specs.declared.kinds.Layer.{Layer}
use Rattle.isdbt_base.specs.declared.epoch.At.{At}
use Rattle.isdbt_base.specs.LayerParameters.{LayerParameters}
use Rattle.isdbt_base.specs.Parameters.{Parameters, layer_of, number_of}
use Rattle.isdbt_base.specs.Numbers.{first_segment, packets_per_frame}
use Rattle.isdbt_base.specs.Plans.{Schedule, at_frame, IsPlan}
use Rattle.isdbt_base.specs.Epochs.{begins_later}
use Rattle.isdbt_base.specs.Frames.{FramePackets}
use Rattle.isdbt_base.proofs.PlanEpochs.{epoch_start-le, setting_accepted, at_countdown-le}
use Rattle.ts_packet.specs.Packets.{null_packet, IsPacket}
use Rattle.bts_info.specs.Fields.{Tag}
use Rattle.frame_order.specs.OrderedFrame.{ordered_frame}
use Rattle.frame_order.proofs.FrameBytes.{ordered_frame-same}
use Rattle.tmcc_word.specs.Reading.{read}
use Rattle.layer_chain.proofs.NearAnswers.{given_out-packet}
use Rattle.coder_core.specs.FrameChecks.{CanCode}
use Rattle.coder_core.specs.InputFrames.{packet_in}
use Rattle.coder_core.proofs.Codable.{can_code}
use Rattle.coder_core.specs.SentCells.{epoch_frame_cells, frame_cells, plan_word, plan_info}
use Rattle.coder_core.proofs.PlanWords.{read-plan_word}
use Rattle.coder_core.proofs.EpochSteps.{same_next}
use Rattle.remux_core.specs.Multiplex.{frame_tag}
use Rattle.seg_receiver.specs.CellStream.{FrameCells}
use Rattle.seg_receiver.specs.Epochs.{epoch_start}
use Rattle.seg_receiver.specs.FrameReading.{ShowsFrame}
use Rattle.seg_receiver.specs.Received.{place_bits, setting_packet, word_packet, received_packets, tag_read, word_frame, received_frame}
use Rattle.seg_receiver.proofs.MultiplexedBytes.{null-packet}
use Rattle.seg_receiver.proofs.GoodFrames.{refusal-ordered_frame}
use Rattle.seg_receiver.proofs.BroadcastSlots.{packet_in-ordered_frame}
use Rattle.seg_receiver.proofs.NearDelivered.{epoch_start-plan}
use Rattle.seg_receiver.proofs.StreamLaws.{frame-cell}
use Rattle.sample.specs.SpoiledCells.{sent_cells, spoiled, spoiled_view}

-- ---- what is received

module _ (p : Schedule) (frames : FramePackets) (count f : ℕ) (plan : IsPlan p) where
  abbrev at : At
  at = at_frame p f

  abbrev got : Layer → ℕ → List ℕ
  got = received_packets (spoiled_view p frames count) f

  abbrev cells : FrameCells
  cells = spoiled (sent_cells p frames)

  word-is : read (plan_word p f) ≡ Ok (plan_info p f, f % 2 == 1)
  word-is = read-plan_word p f plan

  begun : epoch_start (plan_word p) f ≡ at.start
  begun = epoch_start-plan p (plan_word p) f plan (λ g l. refl)

  -- a packet
  packet-is : (x : Layer) (j : ℕ) → got x j ≡ setting_packet at.mode cells at.start f at.setting x j (layer_of at.setting x)
  unfolding received_packets spoiled_view
  packet-is x j =
      ap (word_packet at.mode cells (epoch_start (plan_word p) f) f x j) word-is
      ∙ ap (λ u. setting_packet at.mode cells u f at.setting x j (layer_of at.setting x)) begun

  -- a frame
  pub frame-is : received_frame (spoiled_view p frames count) f ≡ ordered_frame at.mode at.guard at.setting (frame_tag at f) null_packet got
  unfolding received_frame spoiled_view
  frame-is =
      ap (word_frame at.mode at.guard (epoch_start (plan_word p) f) f (received_packets (spoiled_view p frames count) f)) word-is
      ∙ ap (λ u. ordered_frame at.mode at.guard at.setting (tag_read (plan_info p f, f % 2 == 1) u f) null_packet (received_packets (spoiled_view p frames count) f)) begun

  -- what a receiver gives out that stands for the cells is that frame
  pub out-is : (mode : Mode) (guard : Guard) (s : Parameters) (tag : Tag) (h : ℕ) (out : List ℕ) → mode ≡ at.mode → guard ≡ at.guard → s ≡ at.setting → tag ≡ frame_tag at f → at.start + h ≡ f
      → out ≡ ordered_frame mode guard s tag null_packet (λ x j. setting_packet mode cells at.start (at.start + h) s x j (layer_of s x)) → out ≡ received_frame (spoiled_view p frames count) f
  out-is mode guard s tag h out is_mode is_guard is_setting is_tag here is =
      is
      ∙ ap (λ m. ordered_frame m guard s tag null_packet (λ x j. setting_packet m cells at.start (at.start + h) s x j (layer_of s x))) is_mode
      ∙ ap (λ g. ordered_frame at.mode g s tag null_packet (λ x j. setting_packet at.mode cells at.start (at.start + h) s x j (layer_of s x))) is_guard
      ∙ ap (λ (u : Parameters). ordered_frame at.mode at.guard u tag null_packet (λ x j. setting_packet at.mode cells at.start (at.start + h) u x j (layer_of u x))) is_setting
      ∙ ap (λ t. ordered_frame at.mode at.guard at.setting t null_packet (λ x j. setting_packet at.mode cells at.start (at.start + h) at.setting x j (layer_of at.setting x))) is_tag
      ∙ ordered_frame-same at.mode at.guard at.setting (frame_tag at f) null_packet _ got
      (λ m inside. ap (λ n. setting_packet at.mode cells at.start n at.setting m.layer m.index (layer_of at.setting m.layer)) here ∙ sym (packet-is m.layer m.index))
      ∙ sym frame-is

-- ---- what is sent

-- the cells that a coder writes of a frame show it
pub shows-sent : (p : Schedule) (frames : FramePackets) (f : ℕ) (mode m : Mode) (s : Parameters) (word : List Bool) (symbols : List ℕ) → mode ≡ (at_frame p f).mode → s ≡ (at_frame p f).setting → m ≡ (at_frame p f).mode → word ≡ plan_word p f
    → symbols ≡ epoch_frame_cells mode s frames (at_frame p f).start (f - (at_frame p f).start) word → ShowsFrame m (sent_cells p frames) f symbols
unfolding frame_cells
shows-sent p frames f mode m s word symbols is_mode is_setting same is_word is =
    let start = (at_frame p f).start in
    let sent : symbols ≡ frame_cells p frames f =
    is ∙ ap (λ a. epoch_frame_cells a s frames start (f - start) word) is_mode
    ∙ ap (λ (u : Parameters). epoch_frame_cells (at_frame p f).mode u frames start (f - start) word) is_setting
    ∙ ap (λ w. epoch_frame_cells (at_frame p f).mode (at_frame p f).setting frames start (f - start) w) is_word in
    subst (λ a. ShowsFrame a (sent_cells p frames) f symbols) (sym same)
    (subst (ShowsFrame (at_frame p f).mode (sent_cells p frames) f) (sym sent) (record { each = λ k segment carrier l h n. frame-cell p frames f k segment carrier l h n }))

-- ---- the next frame

-- what holds behind a frame holds at the next, if no epoch begins there
pub at-next : (P : ℕ → ℕ → Type 0) (p : Schedule) (f : ℕ) → IsPlan p → P (at_frame p f).start (f - (at_frame p f).start + 1) → begins_later p (f + 1) ≡ false → P (at_frame p (f + 1)).start (f + 1 - (at_frame p (f + 1)).start)
at-next P p f plan stands same =
    let least = epoch_start-le p f in
    let start : (at_frame p f).start ≡ (at_frame p (f + 1)).start = ap (λ (a : At). a.start) (same_next p f plan same) in
    let count : f - (at_frame p f).start + 1 ≡ f + 1 - (at_frame p (f + 1)).start = omega (arith, least, start) in
    subst (λ n. P n (f + 1 - (at_frame p (f + 1)).start)) start (subst (P (at_frame p f).start) count stands)

-- ---- the packets of a received frame

-- what is received is a packet, whatever the cells
setting-packet : (mode : Mode) (cell : FrameCells) (start f : ℕ) (s : Parameters) (x : Layer) (j : ℕ) (o : Option LayerParameters) → IsPacket (setting_packet mode cell start f s x j o)
setting-packet mode cell start f s x j None = null-packet
setting-packet mode cell start f s x j (Some l) = given_out-packet mode l (place_bits mode l cell start (first_segment s x)) (f - start) j

module _ (p : Schedule) (frames : FramePackets) (count f : ℕ) (plan : IsPlan p) where
  received-packet : (x : Layer) (j : ℕ) → IsPacket (received_packets (spoiled_view p frames count) f x j)
  received-packet x j =
      subst IsPacket (sym (packet-is p frames count f plan x j))
      (setting-packet (at_frame p f).mode (spoiled (sent_cells p frames)) (at_frame p f).start f (at_frame p f).setting x j (layer_of (at_frame p f).setting x))

  -- the frame could be coded again
  pub codable-received : CanCode (at_frame p f).setting (at_frame p f).mode (received_frame (spoiled_view p frames count) f)
  codable-received =
      subst (CanCode (at_frame p f).setting (at_frame p f).mode) (sym (frame-is p frames count f plan))
      (can_code (at_frame p f).setting (at_frame p f).mode f 0 _
      (refusal-ordered_frame (at_frame p f).mode (at_frame p f).guard (at_frame p f).setting (frame_tag (at_frame p f) f) (received_packets (spoiled_view p frames count) f) f 0 (setting_accepted p f plan)
      (λ m inside. (received-packet m.layer m.index).size) (λ m inside. (received-packet m.layer m.index).sync) (at_countdown-le p f)))

  -- and its packets are those that are received
  pub packet_in-received : (x : Layer) (j : ℕ) → j < number_of (packets_per_frame (at_frame p f).mode) (layer_of (at_frame p f).setting x)
      → packet_in (received_frame (spoiled_view p frames count) f) x j ≡ received_packets (spoiled_view p frames count) f x j
  packet_in-received x j less =
      ap (λ xs. packet_in xs x j) (frame-is p frames count f plan)
      ∙ packet_in-ordered_frame (at_frame p f).mode (at_frame p f).guard (at_frame p f).setting (frame_tag (at_frame p f) f) (received_packets (spoiled_view p frames count) f) x j (setting_accepted p f plan)
      (λ m inside. (received-packet m.layer m.index).size) (at_countdown-le p f) less
