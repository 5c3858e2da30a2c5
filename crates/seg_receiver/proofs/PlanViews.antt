-- Views that show what is sent of a plan, in either version of the stream.
use Rattle.std.proofs.Common.{◌≡◌, ℕ, zero, suc, ◌+◌, ◌-◌, ◌*◌, ◌≤◌, ◌<◌, Bool, List, ◌++◌, length, take, drop, refl, arith, ap, sym, ◌∙◌, subst, Ok, true, false, Err, length-append, length-drop}
use Rattle.std.specs.declared.result.Result.{Result}
use Rattle.std.proofs.lemmas.List.{take-take, drop-take}
use Rattle.isdbt_base.specs.declared.kinds.Mode.{Mode}
use Rattle.isdbt_base.specs.declared.kinds.Mode.TheVariants.{M1, M2, M3}
use Rattle.isdbt_base.specs.declared.kinds.Guard.{Guard}
use Rattle.isdbt_base.specs.declared.kinds.Guard.TheVariants.{G4, G8, G16, G32}
use Rattle.isdbt_base.specs.declared.head.HeadFault.{HeadFault}
use Rattle.isdbt_base.specs.declared.stream.Form.{Form}
use Rattle.isdbt_base.specs.declared.stream.Form.TheVariants.{V1, V2}
use Rattle.isdbt_base.specs.Heads.{head_bytes, head_read}
use Rattle.isdbt_base.specs.Numbers.{carriers}
use Rattle.isdbt_base.specs.Plans.{Schedule, at_frame}
use Rattle.isdbt_base.specs.Frames.{FramePackets}
use Rattle.isdbt_base.specs.Outcome.{product}
use Rattle.isdbt_base.proofs.Products.{product-none, product-more}
use Rattle.coder_core.specs.SentCells.{epoch_cell, frame_cells, sent_frame, plan_word, frame_size}
use Rattle.seg_receiver.specs.CellStream.{View, stream_word, word_by, stream_cell, first_version, head_said, bytes_said, second_start, bytes_from, symbols_from, mode_said, guard_said, second_mode, second_guard, second_version, version_of, writing_of, AreInRow}
use Rattle.seg_receiver.specs.Delivered.{CanCarry, CanCarryPartial}
use Rattle.seg_receiver.proofs.RangeCuts.{take-front, drop-front, cut_at}
use Rattle.seg_receiver.proofs.StreamLaws.{length-frame_cells, frame-word, frame-cell}
use Rattle.seg_receiver.proofs.SymbolPlaces.{shows-frame, word-frame}
use Rattle.seg_receiver.proofs.ViewLaws.{laid, starts-le, start-next}
use Rattle.seg_receiver.proofs.RestoredWords.{plan_word-by}

-- a view shows the first frames of a plan and no more: each in the plan's mode, with its word and with its cells
pub record ShowsPlan (v : View) (p : Schedule) (frames : FramePackets) (count : ℕ) : Type 0 where
  pub whole : v.size ≡ v.starts count
  pub modes : (f : ℕ) → f < count → v.mode f ≡ (at_frame p f).mode
  pub words : (f : ℕ) → f < count → v.word f ≡ plan_word p f
  pub cells : (f k segment carrier : ℕ) → f < count → k < 204 → segment < 13 → carrier < carriers (at_frame p f).mode
      → v.cell f k segment carrier ≡ epoch_cell (at_frame p f).mode (at_frame p f).setting frames (at_frame p f).start (204 * (f - (at_frame p f).start) + k) segment carrier

-- a piece of what is written for so many frames
cut-product : (frame : ℕ → List ℕ) (count f before size : ℕ) → f < count → length (product frame f) ≡ before → length (frame f) ≡ size → take size (drop before (product frame count)) ≡ frame f
unfolding product
cut-product frame count f before size h e g = cut_at frame count f before size h e g

-- ---- a frame among others

-- bytes that hold the cells of a frame at a place hold its word and its cells
module _ (mode : Mode) (stream : List ℕ) (n : ℕ) (p : Schedule) (frames : FramePackets) (f : ℕ) where
  abbrev HoldsFrame : Type 0
  HoldsFrame = take (frame_size mode) (drop (n * frame_size mode) stream) ≡ frame_cells p frames f

  pub held-word : (at_frame p f).mode ≡ mode → HoldsFrame → stream_word mode stream n ≡ plan_word p f
  held-word same holds =
      let P : Mode → Type 0 = λ m. stream_word m (frame_cells p frames f) 0 ≡ plan_word p f in
      sym (word-frame mode stream (frame_cells p frames f) n (sym holds)) ∙ subst P same (frame-word p frames f)

  pub held-cell : (k segment carrier : ℕ) → (at_frame p f).mode ≡ mode → HoldsFrame → k < 204 → segment < 13 → carrier < carriers (at_frame p f).mode
      → stream_cell mode stream n k segment carrier ≡ epoch_cell (at_frame p f).mode (at_frame p f).setting frames (at_frame p f).start (204 * (f - (at_frame p f).start) + k) segment carrier
  held-cell k segment carrier same holds l s c =
      let cell = epoch_cell (at_frame p f).mode (at_frame p f).setting frames (at_frame p f).start (204 * (f - (at_frame p f).start) + k) segment carrier in
      let P : Mode → Type 0 = λ m. stream_cell m (frame_cells p frames f) 0 k segment carrier ≡ cell in
      sym ((shows-frame mode stream (frame_cells p frames f) n (sym holds)).each k segment carrier l s (subst (λ m. carrier < carriers m) same c))
      ∙ subst P same (frame-cell p frames f k segment carrier l s c)

-- ---- the first version

module _ (mode : Mode) (guard : Guard) (p : Schedule) (frames : FramePackets) (count : ℕ) (sends : (f : ℕ) → f < count → (at_frame p f).mode ≡ mode) where
  abbrev sent : ℕ → List ℕ
  sent = sent_frame (record { v2 = false }) p frames

  sent-is : (f : ℕ) → sent f ≡ frame_cells p frames f
  unfolding sent_frame
  sent-is f = refl

  length-sent : (f : ℕ) → f < count → length (sent f) ≡ frame_size mode
  length-sent f h = ap length (sent-is f) ∙ length-frame_cells p frames f ∙ ap frame_size (sends f h)

  length-before : (f : ℕ) → f ≤ count → length (product sent f) ≡ f * frame_size mode
  length-before zero h = ap length (product-none sent) ∙ (let e : 0 ≡ 0 * frame_size mode = omega arith in e)
  length-before (suc f) h =
      let so_far = length-before f (omega arith) in
      let more = length-sent f (omega arith) in
      ap (λ n. length (product sent n)) (let e : suc f ≡ f + 1 = omega arith in e) ∙ ap length (product-more sent f) ∙ length-append (product sent f) (sent f)
      ∙ (let e : length (product sent f) + length (sent f) ≡ suc f * frame_size mode = omega (arith, so_far, more) in e)

  held-first : (f : ℕ) → f < count → take (frame_size mode) (drop (f * frame_size mode) (product sent count)) ≡ frame_cells p frames f
  held-first f h = cut-product sent count f (f * frame_size mode) (frame_size mode) h (length-before f (omega arith)) (length-sent f h) ∙ sent-is f

  pub first-shows : (fix : Bool) → ShowsPlan (first_version fix mode guard (product sent count)) p frames count
  first-shows fix = record {
    whole = length-before count (omega arith);
    modes = λ f h. sym (sends f h);
    words = λ f h. ap (word_by fix) (held-word mode (product sent count) f p frames f (sends f h) (held-first f h)) ∙ plan_word-by fix p f;
    cells = λ f k segment carrier h l s c. held-cell mode (product sent count) f p frames f k segment carrier (sends f h) (held-first f h) l s c;
  }

-- ---- the second version

-- a head says what it was made of
head-back : (mode : Mode) (guard : Guard) → head_read (head_bytes mode guard) ≡ Ok (mode, guard)
unfolding head_read
head-back M1 G4 = refl
head-back M1 G8 = refl
head-back M1 G16 = refl
head-back M1 G32 = refl
head-back M2 G4 = refl
head-back M2 G8 = refl
head-back M2 G16 = refl
head-back M2 G32 = refl
head-back M3 G4 = refl
head-back M3 G8 = refl
head-back M3 G16 = refl
head-back M3 G32 = refl

module _ (p : Schedule) (frames : FramePackets) (count : ℕ) where
  abbrev headed : ℕ → List ℕ
  headed = sent_frame (record { v2 = true }) p frames

  abbrev all : List ℕ
  all = product headed count

  headed-is : (f : ℕ) → headed f ≡ head_bytes (at_frame p f).mode (at_frame p f).guard ++ frame_cells p frames f
  unfolding sent_frame
  headed-is f = refl

  length-headed : (f : ℕ) → length (headed f) ≡ 8 + frame_size (at_frame p f).mode
  length-headed f =
      let size = length-frame_cells p frames f in
      ap length (headed-is f) ∙ length-append (head_bytes (at_frame p f).mode (at_frame p f).guard) (frame_cells p frames f)
      ∙ (let e : 8 + length (frame_cells p frames f) ≡ 8 + frame_size (at_frame p f).mode = omega (arith, size) in e)

  -- the bytes that begin with a frame
  piece-at : (f start : ℕ) → f < count → start ≡ length (product headed f) → take (8 + frame_size (at_frame p f).mode) (drop start all) ≡ head_bytes (at_frame p f).mode (at_frame p f).guard ++ frame_cells p frames f
  piece-at f start h is = cut-product headed count f start (8 + frame_size (at_frame p f).mode) h (sym is) (length-headed f) ∙ headed-is f

  said-at : (f start : ℕ) → f < count → start ≡ length (product headed f) → head_said (drop start all) ≡ Ok ((at_frame p f).mode, (at_frame p f).guard)
  said-at f start h is =
      let head = head_bytes (at_frame p f).mode (at_frame p f).guard in
      ap head_read (sym (take-take 8 (8 + frame_size (at_frame p f).mode) (drop start all) (omega arith)) ∙ ap (take 8) (piece-at f start h is) ∙ take-front head (frame_cells p frames f) 8 refl)
      ∙ head-back (at_frame p f).mode (at_frame p f).guard

  pub start-is : (f : ℕ) → f ≤ count → second_start all f ≡ length (product headed f)
  unfolding second_start
  start-is zero h = sym (ap length (product-none headed))
  start-is (suc f) h =
      let so_far = start-is f (omega arith) in
      let bytes = bytes_from all f in
      let size = length-headed f in
      ap (λ said. second_start all f + bytes_said (length bytes) said) (said-at f (second_start all f) (omega arith) so_far)
      ∙ (let e : second_start all f + (8 + frame_size (at_frame p f).mode) ≡ length (product headed f) + length (headed f) = omega (arith, so_far, size) in e)
      ∙ sym (length-append (product headed f) (headed f)) ∙ sym (ap length (product-more headed f))
      ∙ ap (λ n. length (product headed n)) (let e : f + 1 ≡ suc f = omega arith in e)

  said-is : (f : ℕ) → f < count → head_said (bytes_from all f) ≡ Ok ((at_frame p f).mode, (at_frame p f).guard)
  said-is f h = said-at f (second_start all f) h (start-is f (omega arith))

  -- the symbols behind the head
  held-second : (f : ℕ) → f < count → HoldsFrame (at_frame p f).mode (symbols_from all f) 0 p frames f
  held-second f h =
      ap (λ n. take (frame_size (at_frame p f).mode) (drop n (symbols_from all f))) (let e : 0 * frame_size (at_frame p f).mode ≡ 0 = omega arith in e)
      ∙ sym (drop-take 8 (frame_size (at_frame p f).mode) (bytes_from all f)) ∙ ap (drop 8) (piece-at f (second_start all f) h (start-is f (omega arith)))
      ∙ drop-front (head_bytes (at_frame p f).mode (at_frame p f).guard) (frame_cells p frames f) 8 refl

  pub second-mode : (f : ℕ) → f < count → second_mode all f ≡ (at_frame p f).mode
  second-mode f h = ap mode_said (said-is f h)

  pub second-guard : (f : ℕ) → f < count → second_guard all f ≡ (at_frame p f).guard
  second-guard f h = ap guard_said (said-is f h)

  pub second-shows : (fix : Bool) → ShowsPlan (second_version fix all) p frames count
  second-shows fix = record {
    whole = sym (start-is count (omega arith));
    modes = second-mode;
    words = λ f h. ap (word_by fix) (ap (λ m. stream_word m (symbols_from all f) 0) (second-mode f h) ∙ held-word (at_frame p f).mode (symbols_from all f) 0 p frames f refl (held-second f h)) ∙ plan_word-by fix p f;
    cells = λ f k segment carrier h l s c. ap (λ m. stream_cell m (symbols_from all f) 0 k segment carrier) (second-mode f h)
        ∙ held-cell (at_frame p f).mode (symbols_from all f) 0 p frames f k segment carrier refl (held-second f h) l s c;
  }

-- ---- either version

module _ (p : Schedule) (frames : FramePackets) (count : ℕ) where
  pub shows_partial : (fix : Bool) (form : Form) → CanCarryPartial form p count → ShowsPlan (version_of fix form (product (sent_frame (writing_of form) p frames) count)) p frames count
  shows_partial fix (V1 mode guard) sends = first-shows mode guard p frames count sends fix
  shows_partial fix V2 carries = second-shows p frames count fix

  pub carries_partial : (form : Form) → CanCarry form p count → CanCarryPartial form p count
  carries_partial (V1 mode guard) sends = λ f h. (sends f h).0
  carries_partial V2 carries = tt

  pub shows_guards : (fix : Bool) (form : Form) → CanCarry form p count → (f : ℕ) → f < count → (version_of fix form (product (sent_frame (writing_of form) p frames) count)).guard f ≡ (at_frame p f).guard
  shows_guards fix (V1 mode guard) sends f h = sym (sends f h).1
  shows_guards fix V2 carries f h = second-guard p frames count f h

-- ---- frames in a row

-- where the stream ends with a frame, no frame before it begins past its end
later : (stream : List ℕ) (f count : ℕ) → f < count → length stream ≡ second_start stream count → second_start stream (f + 1) ≤ length stream
later stream f count less whole =
    let from = starts-le (second_version false stream) stream (f + 1) count (laid false V2 stream) (omega (arith, less)) in
    omega (arith, from, whole)

second-row : (stream : List ℕ) (f : ℕ) (said : Result (Mode × Guard) HeadFault) → head_said (bytes_from stream f) ≡ said → second_start stream (f + 1) ≤ length stream
    → second_start stream (f + 1) ≡ second_start stream f + (8 + frame_size (mode_said (head_said (bytes_from stream f))))
second-row stream f (Ok h) is within =
    let rest = bytes_from stream f in
    start-next stream f
    ∙ ap (λ said. second_start stream f + bytes_said (length rest) said) is
    ∙ ap (λ said. second_start stream f + (8 + frame_size (mode_said said))) (sym is)
second-row stream f (Err fault) is within =
    let rest = bytes_from stream f in
    let next : second_start stream (f + 1) ≡ second_start stream f + (length rest + 1) = start-next stream f ∙ ap (λ said. second_start stream f + bytes_said (length rest) said) is in
    let size = length-drop (second_start stream f) stream in
    absurd (omega (arith, next, size, within))

pub in_row : (fix : Bool) (form : Form) (stream : List ℕ) (count : ℕ) → length stream ≡ (version_of fix form stream).starts count → AreInRow (version_of fix form stream) count
in_row fix (V1 mode guard) stream count whole = λ f less. omega arith
in_row fix V2 stream count whole = λ f less. second-row stream f (head_said (bytes_from stream f)) refl (later stream f count less whole)
