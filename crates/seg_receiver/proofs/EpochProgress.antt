-- How far the frames of an epoch have come.
use Rattle.std.proofs.Common.{◌≡◌, ℕ, zero, suc, ◌+◌, ◌-◌, ◌≤◌, ◌<◌, Bool, true, false, List, [], ◌∷◌, length, take, refl, ap, sym, ◌∙◌, subst, arith, inl, inr}
use Rattle.ts_packet.specs.Packets.{null_packet}
use Rattle.std.specs.Prelude.{Some, None, Ok, ◌==◌, if◌then◌else◌}
use Rattle.std.specs.Int.{from_bool}
use Rattle.std.specs.declared.option.Option.{Option}
use Rattle.std.proofs.lemmas.Bool.{ne_eqb, eq-eqb, cond_both}
use Rattle.std.proofs.lemmas.Bool.Decides.{eqb_tells}
use Rattle.isdbt_base.specs.declared.kinds.Mode.{Mode}
use Rattle.isdbt_base.specs.declared.kinds.Guard.{Guard}
use Rattle.isdbt_base.specs.Outcome.{first_some}
use Rattle.isdbt_base.specs.Parameters.{IsAccepted, layer_of}
use Rattle.edge_io.specs.Known.{append_known}
use Rattle.edge_io.specs.FrameAnswers.{WantsMemory, Took}
use Rattle.frame_order.specs.OrderedFrame.{ordered_frame}
use Rattle.frame_order.proofs.FrameBytes.{ordered_frame-same}
use Rattle.tmcc_word.specs.declared.fault.TmccFault.TheVariants as words
use Rattle.tmcc_word.specs.Fields.{TmccFields}
use Rattle.tmcc_word.specs.Reading.{read}
use Rattle.tmcc_word.proofs.Accepted.{read-fits}
use Rattle.coder_core.specs.SentCells.{frame_size}
use Rattle.seg_receiver.specs.declared.aim.Aim.{Aim}
use Rattle.seg_receiver.specs.declared.fault.ReceiveFault.{ReceiveFault}
use Rattle.seg_receiver.specs.declared.fault.ReceiveFault.TheVariants.{BadTmcc, Unannounced}
use Rattle.seg_receiver.specs.declared.epoch_receiver.EpochReceiver.{EpochReceiver}
use Rattle.seg_receiver.specs.Aims.{aim_of}
use Rattle.seg_receiver.specs.CellStream.{View, segment_cells}
use Rattle.seg_receiver.specs.Epochs.{countdown_read, epoch_start, epoch_head, due_behind}
use Rattle.seg_receiver.specs.Received.{setting_packet, word_packet, received_packets, tag_read, word_frame, received_frame, partial_packets, word_partial, partial_frame}
use Rattle.seg_receiver.specs.ReceiveRefusals.{expected, is_expected, behind_refusal, part_refusal, word_refusal}
use Rattle.seg_receiver.specs.ReceiveAnswers.{given_frame, opens_at, receive_command}
use Rattle.seg_receiver.specs.EpochReceiver.{IsReceiverOf, StandsFor, epoch_frame}
use Rattle.seg_receiver.specs.EpochAnswers.{tag_of, Progress, HeadTaken, DueIn, Taken, AtEpoch, InEpoch}
use Rattle.seg_receiver.proofs.SameSettings.{same-equal}
use Rattle.seg_receiver.proofs.ReceiveProgress.{begin, next}
use Rattle.seg_receiver.proofs.ViewLaws.{IsLaid}

-- a receiver stands for the epoch that begins at a frame, up to frame f
pub record Going (r : EpochReceiver) (v : View) (partial : Bool) (stream : List ℕ) (limit start f : ℕ) (said : Mode × Guard) (word : TmccFields × Bool) (left before now : Option (List ℕ)) : Type 0 where
  pub kind : IsReceiverOf partial said.0 said.1 word.0.now r
  pub stands : StandsFor r v.cell start (f - start)
  pub from : start < f
  pub so_far : InEpoch v (aim_of partial) stream limit start f said word left before now

-- ---- settings

first_none : (a b : Option ReceiveFault) → first_some (a ∷ b ∷ []) ≡ None → a ≡ None
first_none None b is = refl
first_none (Some x) b is = absurd (cc)

had-so : (b c : Bool) (x y : ReceiveFault) → (if b then Some x else if c then None else Some y) ≡ None → c ≡ true
had-so true c x y is = absurd (cc)
had-so false true x y is = refl
had-so false false x y is = absurd (cc)

-- of packets no word stands that is refused behind the one before
behind-stands : (f : ℕ) (partial : Bool) (last word : TmccFields × Bool) → word_refusal f (aim_of partial) (Some last) (Ok word) ≡ None → behind_refusal f (Some last) word ≡ None
behind-stands f false last word fine = fine
behind-stands f true last word fine = first_none (behind_refusal f (Some last) word) (part_refusal f word.0.now) fine

-- behind a frame whose countdown isn't 0 the setting stays
pub setting-stays : (f : ℕ) (partial : Bool) (last word : TmccFields × Bool) → IsAccepted last.0.now → IsAccepted word.0.now → word_refusal f (aim_of partial) (Some last) (Ok word) ≡ None → (last.0.countdown ≡ 0 → ⊥) → last.0.now ≡ word.0.now
setting-stays f partial last word h k fine other =
    let behind = behind-stands f partial last word fine in
    let had : is_expected (expected last.0) word.0.now ≡ true = had-so (from_bool last.1 == from_bool word.1) (is_expected (expected last.0) word.0.now) (BadTmcc f words.Sync) (Unannounced f) behind in
    let due : expected last.0 ≡ Some last.0.now = rw (ne_eqb last.0.countdown 0 other) refl in
    same-equal last.0.now word.0.now h k (sym (ap (λ o. is_expected o word.0.now) due) ∙ had)

-- an epoch begins at a frame of it or before
epoch_start-le : (words : ℕ → List Bool) (f : ℕ) → epoch_start words f ≤ f
unfolding epoch_start
epoch_start-le words zero = omega arith
epoch_start-le words (suc f) =
    let k = epoch_start-le words f in
    cond_both (countdown_read (read (words f)) == 0) (suc f) (epoch_start words f) (λ n. n ≤ suc f) (λ e. omega arith) (λ e. omega (arith, k))

-- before the first frame
pub at_first : (v : View) (stream : List ℕ) (aim : Aim) (limit : ℕ) (left before : Option (List ℕ)) → IsLaid v stream → left ≡ Some stream → AtEpoch v aim stream limit 0 None left before before
unfolding epoch_start
at_first v stream aim limit left before laid told = record { so_far = begin v stream laid aim limit left before told; begun = λ less. refl }

-- ---- what a frame gives out

module _ (v : View) where
  packet-is : (f start : ℕ) (word : TmccFields × Bool) (x : _) (j : ℕ) → read (v.word f) ≡ Ok word → epoch_start v.word f ≡ start → received_packets v f x j ≡ setting_packet (v.mode f) v.cell start f word.0.now x j (layer_of word.0.now x)
  unfolding received_packets
  packet-is f start word x j is begun =
      ap (word_packet (v.mode f) v.cell (epoch_start v.word f) f x j) is
      ∙ ap (λ u. setting_packet (v.mode f) v.cell u f word.0.now x j (layer_of word.0.now x)) begun

  frame-is : (f start h : ℕ) (word : TmccFields × Bool) (first : Bool) → read (v.word f) ≡ Ok word → epoch_start v.word f ≡ start → start + h ≡ f → (start == f) ≡ first
      → received_frame v f ≡ epoch_frame false (v.mode f) (v.guard f) word.0.now v.cell start h (tag_of word first)
  unfolding received_frame
  frame-is f start h word first is begun place same =
      let mode = v.mode f in
      let guard = v.guard f in
      let packets = received_packets v f in
      let due = λ (x : _) (j : ℕ). setting_packet mode v.cell start (start + h) word.0.now x j (layer_of word.0.now x) in
      ap (word_frame mode guard (epoch_start v.word f) f packets) is
      ∙ ap (λ u. ordered_frame mode guard word.0.now (tag_read word u f) null_packet packets) begun
      ∙ ordered_frame-same mode guard word.0.now (tag_read word start f) null_packet packets due
      (λ m inside. packet-is f start word m.layer m.index is begun ∙ ap (λ g. setting_packet mode v.cell start g word.0.now m.layer m.index (layer_of word.0.now m.layer)) (sym place))
      ∙ ap (λ b. ordered_frame mode guard word.0.now (record { odd = word.1; first = b; start_up = word.0.start_up; countdown = word.0.countdown }) null_packet due) same

  part-is : (f start h : ℕ) (word : TmccFields × Bool) → read (v.word f) ≡ Ok word → epoch_start v.word f ≡ start → start + h ≡ f
      → partial_frame v f ≡ partial_packets (v.mode f) word.0.now.a (segment_cells v.cell) start h
  unfolding partial_frame
  part-is f start h word is begun place =
      ap (word_partial (v.mode f) (segment_cells v.cell) (epoch_start v.word f) f) is
      ∙ ap (λ u. partial_packets (v.mode f) word.0.now.a (segment_cells v.cell) u (f - u)) begun
      ∙ ap (partial_packets (v.mode f) word.0.now.a (segment_cells v.cell) start) (let e : f - start ≡ h = omega (arith, place) in e)

  given-is : (partial : Bool) (f start h : ℕ) (word : TmccFields × Bool) (first : Bool) → read (v.word f) ≡ Ok word → epoch_start v.word f ≡ start → start + h ≡ f → (start == f) ≡ first
      → given_frame v (aim_of partial) f ≡ epoch_frame partial (v.mode f) (v.guard f) word.0.now v.cell start h (tag_of word first)
  given-is false f start h word first is begun place same = frame-is f start h word first is begun place same
  given-is true f start h word first is begun place same = part-is f start h word is begun place

  pub is-given : (partial : Bool) (f start h : ℕ) (said : Mode × Guard) (word : TmccFields × Bool) (first : Bool) → v.mode f ≡ said.0 → v.guard f ≡ said.1
      → read (v.word f) ≡ Ok word → epoch_start v.word f ≡ start → start + h ≡ f → (start == f) ≡ first
      → epoch_frame partial said.0 said.1 word.0.now v.cell start h (tag_of word first) ≡ given_frame v (aim_of partial) f
  is-given partial f start h said word first mode_is guard_is is begun place same =
      ap (λ m. epoch_frame partial m said.1 word.0.now v.cell start h (tag_of word first)) (sym mode_is)
      ∙ ap (λ g. epoch_frame partial (v.mode f) g word.0.now v.cell start h (tag_of word first)) (sym guard_is)
      ∙ sym (given-is partial f start h word first is begun place same)

-- ---- where epochs begin

begun-suc : (v : View) (last : ℕ) (word : TmccFields × Bool) → read (v.word last) ≡ Ok word → epoch_start v.word (suc last) ≡ (if word.0.countdown == 0 then suc last else epoch_start v.word last)
unfolding epoch_start
begun-suc v last word is = ap (λ r. if countdown_read r == 0 then suc last else epoch_start v.word last) is

-- what the head behind a frame must repeat
pub head-behind : (v : View) (f : ℕ) (said : Mode × Guard) (word : TmccFields × Bool) → v.mode f ≡ said.0 → v.guard f ≡ said.1 → read (v.word f) ≡ Ok word → epoch_head v.word v.mode v.guard (suc f) ≡ due_behind said word
unfolding epoch_head
head-behind v f said word mode guard is =
    elim (eqb_tells word.0.countdown 0) [
      | inl none ↦ (let begun = begun-suc v f word is ∙ rw none.0 refl in rw (eq-eqb (epoch_start v.word (suc f)) (suc f) begun, none.0) refl)
      | inr some ↦ (
          let begun : epoch_start v.word (suc f) ≡ epoch_start v.word f = begun-suc v f word is ∙ rw some.0 refl in
          let le = epoch_start-le v.word f in
          let other = ne_eqb (epoch_start v.word (suc f)) (suc f) (λ e. omega (arith, e, begun, le)) in
          rw (other, some.0) (ap (λ m. Some (m, v.guard f)) mode ∙ ap (λ g. Some (said.0, g)) guard))
    ]

module _ (v : View) (aim : Aim) (stream : List ℕ) (limit : ℕ) where
  -- the limit of frames is reached
  pub progress-at_limit : (f : ℕ) (last : Option (TmccFields × Bool)) (left before now : Option (List ℕ)) → f ≡ limit → AtEpoch v aim stream limit f last left before now → Progress v aim stream limit limit last left before now
  progress-at_limit f last left before now is at = subst (λ n. Progress v aim stream limit n last left before now) is at.so_far

  pub begun-in : (start f : ℕ) (said : Mode × Guard) (word : TmccFields × Bool) (left before now : Option (List ℕ)) → InEpoch v aim stream limit start f said word left before now → (word.0.countdown ≡ 0 → ⊥) → epoch_start v.word f ≡ start
  begun-in start f said word left before now so_far other =
      ap (epoch_start v.word) (sym so_far.next) ∙ begun-suc v so_far.last word so_far.word_is
      ∙ rw (ne_eqb word.0.countdown 0 other) so_far.begun

  begun-next : (start f : ℕ) (said : Mode × Guard) (word : TmccFields × Bool) (left before now : Option (List ℕ)) → InEpoch v aim stream limit start f said word left before now → word.0.countdown ≡ 0 → epoch_start v.word f ≡ f
  begun-next start f said word left before now so_far none =
      ap (epoch_start v.word) (sym so_far.next) ∙ begun-suc v so_far.last word so_far.word_is
      ∙ rw (eq-eqb word.0.countdown 0 none) so_far.next

  -- a frame with countdown 0 ends its epoch
  pub ends-epoch : (start f : ℕ) (said : Mode × Guard) (word : TmccFields × Bool) (left before now : Option (List ℕ)) → InEpoch v aim stream limit start f said word left before now → word.0.countdown ≡ 0 → AtEpoch v aim stream limit f (Some word) left before now
  ends-epoch start f said word left before now so_far none = record { so_far = so_far.so_far; begun = λ less. begun-next start f said word left before now so_far none }

  -- so does the limit
  pub ends-at_limit : (start f : ℕ) (said : Mode × Guard) (word : TmccFields × Bool) (left before now : Option (List ℕ)) → f ≡ limit → InEpoch v aim stream limit start f said word left before now → AtEpoch v aim stream limit limit (Some word) left before now
  ends-at_limit start f said word left before now is so_far = record {
    so_far = subst (λ n. Progress v aim stream limit n (Some word) left before now) is so_far.so_far;
    begun = λ less. absurd (omega (arith, less));
  }

  -- ---- a frame more

  pub first_in : (f : ℕ) (said : Mode × Guard) (last : Option (TmccFields × Bool)) (word : TmccFields × Bool) (frame : List ℕ) (known left before mid after : Option (List ℕ)) → f < limit → AtEpoch v aim stream limit f last known before mid
      → Taken v aim stream limit f said last word frame left → after ≡ append_known mid (given_frame v aim f) → InEpoch v aim stream limit f (f + 1) said word left before after
  first_in f said last word frame known left before mid after less at taken wrote = record {
    so_far = next v aim stream limit f said last word frame known left before mid after at.so_far taken wrote;
    last = f;
    next = omega arith;
    mode = taken.mode;
    guard = taken.guard;
    word_is = taken.word_is;
    begun = at.begun less;
  }

  pub next_in : (start f : ℕ) (said : Mode × Guard) (last word : TmccFields × Bool) (frame : List ℕ) (known left before mid after : Option (List ℕ)) → InEpoch v aim stream limit start f said last known before mid → (last.0.countdown ≡ 0 → ⊥)
      → Taken v aim stream limit f said (Some last) word frame left → after ≡ append_known mid (given_frame v aim f) → InEpoch v aim stream limit start (f + 1) said word left before after
  next_in start f said last word frame known left before mid after so_far other taken wrote = record {
    so_far = next v aim stream limit f said (Some last) word frame known left before mid after so_far.so_far taken wrote;
    last = f;
    next = omega arith;
    mode = taken.mode;
    guard = taken.guard;
    word_is = taken.word_is;
    begun = begun-in start f said last known before mid so_far other;
  }

  -- ---- heads

  -- the head of an epoch's first frame may say any mode and guard interval
  pub first_due : (f : ℕ) → epoch_start v.word f ≡ f → DueIn v f None
  unfolding epoch_head
  first_due zero begun = refl
  first_due (suc f) begun = rw (eq-eqb (epoch_start v.word (suc f)) (suc f) begun) refl

  -- the next frame doesn't begin an epoch
  goes_on : (start f : ℕ) (said : Mode × Guard) (last : TmccFields × Bool) (known before mid : Option (List ℕ)) → (so_far : InEpoch v aim stream limit start f said last known before mid) → (last.0.countdown ≡ 0 → ⊥) → (epoch_start v.word (suc so_far.last) ≡ suc so_far.last → ⊥)
  goes_on start f said last known before mid so_far other e =
      let begun = ap (epoch_start v.word) so_far.next ∙ begun-in start f said last known before mid so_far other in
      let le = epoch_start-le v.word so_far.last in
      let from = so_far.begun in
      omega (arith, e, begun, le, from)

  -- its head must repeat the mode and the guard interval of the epoch
  pub next_due : (start f : ℕ) (said : Mode × Guard) (last : TmccFields × Bool) (known before mid : Option (List ℕ)) → InEpoch v aim stream limit start f said last known before mid → (last.0.countdown ≡ 0 → ⊥) → DueIn v f (Some said)
  next_due start f said last known before mid so_far other =
      ap (epoch_head v.word v.mode v.guard) (sym so_far.next)
      ∙ head-behind v so_far.last said last so_far.mode so_far.guard so_far.word_is ∙ rw (ne_eqb last.0.countdown 0 other) refl

  -- and says them
  pub next_head : (start f : ℕ) (said saying : Mode × Guard) (last : TmccFields × Bool) (known left before mid : Option (List ℕ)) → IsLaid v stream → InEpoch v aim stream limit start f said last known before mid → (last.0.countdown ≡ 0 → ⊥)
      → HeadTaken v stream f saying left → HeadTaken v stream f said left
  next_head start f said saying last known left before mid laid so_far other head =
      let at = so_far.next in
      let kept = laid.keeps so_far.last (ap v.bad_head at ∙ head.fine) (goes_on start f said last known before mid so_far other) in
      let mode : saying.0 ≡ said.0 = sym head.mode ∙ ap v.mode (sym at) ∙ kept.0 ∙ so_far.mode in
      let guard : saying.1 ≡ said.1 = sym head.guard ∙ ap v.guard (sym at) ∙ kept.1 ∙ so_far.guard in
      record {
        mode = head.mode ∙ mode;
        guard = head.guard ∙ guard;
        fine = head.fine;
        end = head.end ∙ ap (λ m. v.starts f + v.head + frame_size m) mode;
        within = head.within;
        left_is = head.left_is;
      }

-- ---- receptions

-- memory is asked for where an epoch begins
opens-begun : (v : View) (partial : Bool) (f : ℕ) → epoch_start v.word f ≡ f → opens_at v (aim_of partial) f ≡ true
opens-begun v false f begun = eq-eqb (epoch_start v.word f) f begun
opens-begun v true f begun = eq-eqb (epoch_start v.word f) f begun

module _ (v : View) (partial : Bool) (stream : List ℕ) (limit : ℕ) where
  -- the setting of the next frame in an epoch
  pub next_setting : (start f : ℕ) (said : Mode × Guard) (last word : TmccFields × Bool) (frame : List ℕ) (known left before mid : Option (List ℕ)) → InEpoch v (aim_of partial) stream limit start f said last known before mid → (last.0.countdown ≡ 0 → ⊥)
      → Taken v (aim_of partial) stream limit f said (Some last) word frame left → last.0.now ≡ word.0.now
  next_setting start f said last word frame known left before mid so_far other taken =
      let fits = read-fits (v.word so_far.last) last so_far.word_is in
      let fits' = read-fits (v.word f) word taken.word_is in
      setting-stays f partial last word fits.now fits'.now taken.fine other

  -- there is no memory for the receiver of an epoch
  pub wants_memory : (f : ℕ) (said : Mode × Guard) (last : Option (TmccFields × Bool)) (word : TmccFields × Bool) (frame : List ℕ) (known left before now : Option (List ℕ)) → f < limit → AtEpoch v (aim_of partial) stream limit f last known before now
      → Taken v (aim_of partial) stream limit f said last word frame left → WantsMemory (receive_command v (aim_of partial) stream limit).frames (Took (receive_command v (aim_of partial) stream limit) left) before now
  wants_memory f said last word frame known left before now less at taken = record {
    frame = f;
    opens = opens-begun v partial f (at.begun less);
    passed = taken.passed;
    written = at.so_far.written;
    account = taken.left_is;
  }

-- what was written of a frame
pub wrote_all : (cells frame : List ℕ) (mid after : Option (List ℕ)) → cells ≡ frame → after ≡ append_known mid cells → after ≡ append_known mid frame
wrote_all cells frame mid after is wrote = wrote ∙ ap (append_known mid) is

pub wrote_some : (cells frame : List ℕ) (n : ℕ) (mid after : Option (List ℕ)) → cells ≡ frame → n < length cells → after ≡ append_known mid (take n cells) → (n < length frame) × (after ≡ append_known mid (take n frame))
wrote_some cells frame n mid after same short wrote = (subst (λ (xs : List ℕ). n < length xs) same short, wrote ∙ ap (λ xs. append_known mid (take n xs)) same)
