-- How the frames of a stream lie in it, in either version.
use Rattle.std.proofs.Common.{◌≡◌, ℕ, zero, suc, ◌+◌, ◌-◌, ◌*◌, ◌%◌, ◌≤◌, ◌<◌, ◌⊎◌, Bool, List, length, take, drop, refl, ap, sym, ◌∙◌, subst, arith, inl, inr, length-drop, drop-drop}
use Rattle.std.specs.Prelude.{Some, None, Ok, Err, slice_index, ◌==◌}
use Rattle.std.specs.declared.result.Result.{Result}
use Rattle.std.proofs.lemmas.Bool.{ne_eqb}
use Rattle.std.proofs.lemmas.List.{get_or-drop}
use Rattle.isdbt_base.specs.declared.kinds.Mode.{Mode}
use Rattle.isdbt_base.specs.declared.kinds.Guard.{Guard}
use Rattle.isdbt_base.specs.declared.head.HeadFault.{HeadFault}
use Rattle.isdbt_base.specs.declared.stream.Form.{Form}
use Rattle.isdbt_base.specs.declared.stream.Form.TheVariants.{V1, V2}
use Rattle.isdbt_base.proofs.RangeLaws.{map-same}
use Rattle.coder_core.specs.SentCells.{frame_size}
use Rattle.seg_receiver.specs.Epochs.{epoch_start, epoch_head}
use Rattle.seg_receiver.specs.HeadChecks.{bad_byte}
use Rattle.seg_receiver.specs.CellStream.{View, symbol_start, tmcc_bit, stream_word, word_by, stream_cell, first_version, head_said, bytes_said, second_start, bytes_from, symbols_from, mode_said, guard_said, second_mode, second_guard, second_word, second_due, second_version, version_of}
use Rattle.seg_receiver.specs.FrameReading.{ShowsFrame}
use Rattle.seg_receiver.proofs.SymbolPlaces.{shows-rest, word-frame}
use Rattle.seg_receiver.proofs.GoodHeads.{same-head}

-- the frames of a stream lie one behind the other, the bytes behind a head show the frame's cells and the word as it came, and a head that isn't refused within an epoch says what the one before says
pub record IsLaid (v : View) (stream : List ℕ) : Type 0 where
  pub size : v.size ≡ length stream
  pub first : v.starts 0 ≡ 0
  pub rises : (f : ℕ) → v.starts f < v.starts (f + 1)
  pub past : (f : ℕ) → (v.starts f + v.head ≤ v.starts (f + 1)) ⊎ (length stream < v.starts (f + 1))
  pub shows : (f : ℕ) → ShowsFrame (v.mode f) v.cell f (drop (v.starts f + v.head) stream)
  pub came : (f : ℕ) → stream_word (v.mode f) (drop (v.starts f + v.head) stream) 0 ≡ v.came f
  pub words : (f : ℕ) → word_by v.fix (v.came f) ≡ v.word f
  pub keeps : (f : ℕ) → v.bad_head (suc f) ≡ None → (epoch_start v.word (suc f) ≡ suc f → ⊥) → (v.mode (suc f) ≡ v.mode f) × (v.guard (suc f) ≡ v.guard f)

-- places that rise from each frame to the next
pub rise_on : (starts : ℕ → ℕ) → ((f : ℕ) → starts f ≤ starts (f + 1)) → (f d : ℕ) → starts f ≤ starts (f + d)
rise_on starts rises f zero = (let e = ap starts (let z : f + 0 ≡ f = omega arith in z) in omega (arith, e))
rise_on starts rises f (suc d) =
    let so_far = rise_on starts rises f d in
    let more = rises (f + d) in
    let e = ap starts (let z : f + d + 1 ≡ f + suc d = omega arith in z) in
    omega (arith, so_far, more, e)

-- no frame of a stream begins behind a later one
pub starts-le : (v : View) (stream : List ℕ) (f g : ℕ) → IsLaid v stream → f ≤ g → v.starts f ≤ v.starts g
starts-le v stream f g laid le =
    let on = rise_on v.starts (λ n. (let less = laid.rises n in omega (arith, less))) f (g - f) in
    let e = ap v.starts (let z : f + (g - f) ≡ g = omega (arith, le) in z) in
    omega (arith, on, e)

-- ---- the first version

module _ (mode : Mode) (guard : Guard) (stream : List ℕ) where
  no-head : (f : ℕ) → drop (f * frame_size mode + 0) stream ≡ drop (f * frame_size mode) stream
  no-head f = ap (λ n. drop n stream) (let e : f * frame_size mode + 0 ≡ f * frame_size mode = omega arith in e)

  word-rest : (f : ℕ) → stream_word mode (drop (f * frame_size mode) stream) 0 ≡ stream_word mode stream f
  unfolding stream_word
  word-rest f =
      map-same (tmcc_bit mode (drop (f * frame_size mode) stream) 0) (tmcc_bit mode stream f) 0 204 (λ k low high.
      ap (λ b. b % 2 == 1) (get_or-drop (f * frame_size mode) stream (symbol_start mode 0 k) 0
      ∙ ap (slice_index stream) (let e : f * frame_size mode + symbol_start mode 0 k ≡ symbol_start mode f k = omega arith in e)))

  laid-first : (fix : Bool) → IsLaid (first_version fix mode guard stream) stream
  laid-first fix = record {
    size = refl;
    first = omega arith;
    rises = λ f. (let some : 0 < frame_size mode = omega arith in omega (arith, some));
    past = λ f. inl (let some : 0 < frame_size mode = omega arith in omega (arith, some));
    shows = λ f. subst (ShowsFrame mode (stream_cell mode stream) f) (sym (no-head f)) (shows-rest mode stream f);
    came = λ f. ap (λ xs. stream_word mode xs 0) (no-head f) ∙ word-rest f;
    words = λ f. refl;
    keeps = λ f fine other. (refl, refl);
  }

-- ---- the second version

module _ (stream : List ℕ) where
  pub start-next : (f : ℕ) → second_start stream (f + 1) ≡ second_start stream f + bytes_said (length (bytes_from stream f)) (head_said (bytes_from stream f))
  unfolding second_start
  start-next f = ap (second_start stream) (let e : f + 1 ≡ suc f = omega arith in e)

  past-head : (f : ℕ) (said : Result (Mode × Guard) HeadFault) → head_said (bytes_from stream f) ≡ said → (second_start stream f + 8 ≤ second_start stream (f + 1)) ⊎ (length stream < second_start stream (f + 1))
  past-head f (Ok said) is =
      let e = start-next f ∙ ap (λ r. second_start stream f + bytes_said (length (bytes_from stream f)) r) is in
      inl (let k : second_start stream (f + 1) ≡ second_start stream f + (8 + frame_size said.0) = e in omega (arith, k))
  past-head f (Err fault) is =
      let e = start-next f ∙ ap (λ r. second_start stream f + bytes_said (length (bytes_from stream f)) r) is in
      let size = length-drop (second_start stream f) stream in
      inr (let k : second_start stream (f + 1) ≡ second_start stream f + (length (bytes_from stream f) + 1) = e in omega (arith, k, size))

  rises-said : (f : ℕ) (said : Result (Mode × Guard) HeadFault) → head_said (bytes_from stream f) ≡ said → second_start stream f < second_start stream (f + 1)
  rises-said f (Ok said) is =
      let e = start-next f ∙ ap (λ r. second_start stream f + bytes_said (length (bytes_from stream f)) r) is in
      (let k : second_start stream (f + 1) ≡ second_start stream f + (8 + frame_size said.0) = e in omega (arith, k))
  rises-said f (Err fault) is =
      let e = start-next f ∙ ap (λ r. second_start stream f + bytes_said (length (bytes_from stream f)) r) is in
      (let k : second_start stream (f + 1) ≡ second_start stream f + (length (bytes_from stream f) + 1) = e in omega (arith, k))

  behind-head : (f : ℕ) → drop (second_start stream f + 8) stream ≡ symbols_from stream f
  behind-head f = sym (drop-drop 8 (second_start stream f) stream)

  due-within : (fix : Bool) (f : ℕ) → (epoch_start (second_word fix stream) (suc f) ≡ suc f → ⊥) → second_due fix stream (suc f) ≡ Some (second_mode stream f, second_guard stream f)
  unfolding epoch_head
  due-within fix f other = rw (ne_eqb (epoch_start (second_word fix stream) (suc f)) (suc f) other) refl

  keeps-said : (fix : Bool) (f : ℕ) → bad_byte (second_due fix stream (suc f)) (take 8 (bytes_from stream (suc f))) ≡ None → (epoch_start (second_word fix stream) (suc f) ≡ suc f → ⊥) → head_said (bytes_from stream (suc f)) ≡ Ok (second_mode stream f, second_guard stream f)
  keeps-said fix f fine other = same-head (second_mode stream f, second_guard stream f) (take 8 (bytes_from stream (suc f))) (ap (λ o. bad_byte o (take 8 (bytes_from stream (suc f)))) (sym (due-within fix f other)) ∙ fine)

  laid-second : (fix : Bool) → IsLaid (second_version fix stream) stream
  unfolding second_start
  laid-second fix = record {
    size = refl;
    first = refl;
    rises = λ f. rises-said f (head_said (bytes_from stream f)) refl;
    past = λ f. past-head f (head_said (bytes_from stream f)) refl;
    shows = λ f. record { each = λ k segment carrier l s c. ap (λ xs. stream_cell (second_mode stream f) xs 0 k segment carrier) (behind-head f) };
    came = λ f. ap (λ xs. stream_word (second_mode stream f) xs 0) (behind-head f);
    words = λ f. refl;
    keeps = λ f fine other. (let said = keeps-said fix f fine other in (ap mode_said said, ap guard_said said));
  }

-- ---- either version

pub laid : (fix : Bool) (form : Form) (stream : List ℕ) → IsLaid (version_of fix form stream) stream
laid fix (V1 mode guard) stream = laid-first mode guard stream fix
laid fix V2 stream = laid-second stream fix

-- whether words are corrected is as the stream is read
pub fix-of : (fix : Bool) (form : Form) (stream : List ℕ) → (version_of fix form stream).fix ≡ fix
fix-of fix (V1 mode guard) stream = refl
fix-of fix V2 stream = refl

-- the word of bytes that are a frame's symbols is that of the frame as it came
pub came-part : (v : View) (stream : List ℕ) (f : ℕ) (mode : Mode) (part : List ℕ) → IsLaid v stream → v.mode f ≡ mode → part ≡ take (frame_size mode) (drop (v.starts f + v.head) stream) → stream_word mode part 0 ≡ v.came f
came-part v stream f mode part lies same is =
    let rest = drop (v.starts f + v.head) stream in
    word-frame mode rest part 0 (is ∙ ap (λ n. take (frame_size mode) (drop n rest)) (let e : 0 ≡ 0 * frame_size mode = omega arith in e))
    ∙ ap (λ m. stream_word m rest 0) (sym same)
    ∙ lies.came f
