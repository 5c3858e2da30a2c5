-- Streams of cells that differ in nothing that is read.
use Rattle.std.proofs.Common.{◌≡◌, ℕ, zero, suc, ◌+◌, ◌-◌, ◌*◌, ◌%◌, ◌<◌, Bool, List, ◌∷◌, length, take, drop, map, refl, ap, sym, ◌∙◌, subst, arith, Some, None, length-drop}
use Rattle.std.specs.Prelude.{◌==◌, slice_index}
use Rattle.std.specs.List.{range_with_len}
use Rattle.std.specs.Int.{w8, cast_signed}
use Rattle.std.specs.declared.option.Option.{Option}
use Rattle.std.proofs.lemmas.Nat.{mul-add-lt}
use Rattle.std.proofs.lemmas.List.{get_or-take, get_or-drop}
use Rattle.isdbt_base.specs.declared.kinds.Mode.{Mode}
use Rattle.isdbt_base.specs.declared.kinds.Guard.{Guard}
use Rattle.isdbt_base.specs.declared.stream.Form.{Form}
use Rattle.isdbt_base.specs.declared.stream.Form.TheVariants.{V1, V2}
use Rattle.isdbt_base.specs.Heads.{head_read}
use Rattle.isdbt_base.specs.Numbers.{carriers}
use Rattle.isdbt_base.proofs.RangeLaws.{map-same}
use Rattle.tmcc_word.specs.Reading.{read}
use Rattle.seg_receiver.specs.Epochs.{epoch_head}
use Rattle.seg_receiver.specs.FrameLines.{restored}
use Rattle.seg_receiver.specs.HeadChecks.{other_byte, unread_byte, least, bad_byte}
use Rattle.seg_receiver.specs.CellStream.{View, symbol_size, symbol_start, tmcc_bit, stream_word, word_by, stream_cell, head_said, bytes_said, second_start, bytes_from, mode_said, guard_said, second_due, second_version, version_of}
use Rattle.seg_receiver.specs.UnreadBits.{symbol_in, DifferUnread}
use Rattle.seg_receiver.proofs.StableFrames.{epoch_start-same}
use Rattle.seg_receiver.proofs.SymbolPlaces.{stream_cell-at}
use Rattle.seg_receiver.proofs.UnreadViews.{ReadAlike}
use Rattle.seg_receiver.proofs.ViewLaws.{laid, fix-of}
use Rattle.seg_receiver.proofs.RestoredWords.{DifferFirst, same-read, same-restored}

-- ---- words

first-bit : (g : ℕ → Bool) → map g (range_with_len 0 204) ≡ g 0 ∷ map g (range_with_len 1 203)
first-bit g = refl

-- of bytes whose symbols have the same lowest bits, but for the first, the words differ at most in the first bit
word-alike : (mode : Mode) (xs ys : List ℕ) → ((k : ℕ) → 0 < k → k < 204 → slice_index xs (k * symbol_size mode) % 2 ≡ slice_index ys (k * symbol_size mode) % 2) → DifferFirst (stream_word mode xs 0) (stream_word mode ys 0)
unfolding stream_word
word-alike mode xs ys same =
    let g = tmcc_bit mode xs 0 in
    let h = tmcc_bit mode ys 0 in
    let behind : map g (range_with_len 1 203) ≡ map h (range_with_len 1 203) = map-same g h 1 203 (λ k low high.
    ap (λ n. slice_index xs n % 2 == 1) (let e : symbol_start mode 0 k ≡ k * symbol_size mode = omega arith in e)
    ∙ ap (λ n. n == 1) (same k (omega (arith, low)) (omega (arith, high)))
    ∙ sym (ap (λ n. slice_index ys n % 2 == 1) (let e : symbol_start mode 0 k ≡ k * symbol_size mode = omega arith in e))) in
    record { a = g 0; b = h 0; rest = map h (range_with_len 1 203); is = first-bit g ∙ ap (λ rest. g 0 ∷ rest) behind; other_is = first-bit h }

-- ---- cells

cell-alike : (mode : Mode) (xs ys : List ℕ) → ((k i : ℕ) → k < 204 → 0 < i → i < symbol_size mode → slice_index xs (k * symbol_size mode + i) ≡ slice_index ys (k * symbol_size mode + i))
    → (k segment carrier : ℕ) → k < 204 → segment < 13 → carrier < carriers mode → stream_cell mode xs 0 k segment carrier ≡ stream_cell mode ys 0 k segment carrier
cell-alike mode xs ys same k segment carrier l s c =
    let n = segment * carriers mode + carrier in
    let place : n < 13 * carriers mode = (let e = mul-add-lt segment (carriers mode) carrier 13 s c in omega (arith, e)) in
    let at = symbol_start mode 0 k + 1 + 2 * n in
    let first : at ≡ k * symbol_size mode + (1 + 2 * n) = omega arith in
    let second : at + 1 ≡ k * symbol_size mode + (1 + 2 * n + 1) = omega arith in
    let here : slice_index xs at ≡ slice_index ys at = ap (slice_index xs) first ∙ same k (1 + 2 * n) l (omega arith) (omega (arith, place)) ∙ sym (ap (slice_index ys) first) in
    let next : slice_index xs (at + 1) ≡ slice_index ys (at + 1) = ap (slice_index xs) second ∙ same k (1 + 2 * n + 1) l (omega arith) (omega (arith, place)) ∙ sym (ap (slice_index ys) second) in
    stream_cell-at mode xs 0 k segment carrier
    ∙ ap (λ a. record { i = cast_signed w8 a; q = cast_signed w8 (slice_index xs (at + 1)) }) here
    ∙ ap (λ b. record { i = cast_signed w8 (slice_index ys at); q = cast_signed w8 b }) next
    ∙ sym (stream_cell-at mode ys 0 k segment carrier)

-- ---- heads

-- a byte of a head
head_at : (xs : List ℕ) (i : ℕ) → i < 8 → slice_index (take 8 xs) i ≡ slice_index xs i
head_at xs i less = get_or-take 8 xs i 0 less

head-byte : (xs ys : List ℕ) → ((i : ℕ) → i < 6 → slice_index xs i ≡ slice_index ys i) → (i : ℕ) → i < 6 → slice_index (take 8 xs) i ≡ slice_index (take 8 ys) i
head-byte xs ys same i less = head_at xs i (omega (arith, less)) ∙ same i less ∙ sym (head_at ys i (omega (arith, less)))

said-alike : (xs ys : List ℕ) → ((i : ℕ) → i < 6 → slice_index xs i ≡ slice_index ys i) → head_said xs ≡ head_said ys
unfolding head_read
said-alike xs ys same =
    let b = head-byte xs ys same in
    rw (b 0 (omega arith), b 1 (omega arith), b 2 (omega arith), b 3 (omega arith), b 4 (omega arith), b 5 (omega arith)) refl

other-alike : (due : Option (Mode × Guard)) (xs ys : List ℕ) → ((i : ℕ) → i < 6 → slice_index xs i ≡ slice_index ys i) → other_byte due (take 8 xs) ≡ other_byte due (take 8 ys)
other-alike None xs ys same = refl
other-alike (Some due) xs ys same = (let b = head-byte xs ys same in rw (b 4 (omega arith), b 5 (omega arith)) refl)

bad-alike : (due other : Option (Mode × Guard)) (xs ys : List ℕ) → due ≡ other → ((i : ℕ) → i < 6 → slice_index xs i ≡ slice_index ys i) → bad_byte due (take 8 xs) ≡ bad_byte other (take 8 ys)
unfolding bad_byte
bad-alike due other xs ys is same =
    ap (λ r. least (unread_byte r) (other_byte due (take 8 xs))) (said-alike xs ys same)
    ∙ ap (least (unread_byte (head_said ys))) (other-alike due xs ys same ∙ ap (λ o. other_byte o (take 8 ys)) is)

head-alike : (words other : ℕ → List Bool) (mode mode' : ℕ → Mode) (guard guard' : ℕ → Guard) (f : ℕ) → ((g : ℕ) → read (words g) ≡ read (other g)) → ((g : ℕ) → mode g ≡ mode' g) → ((g : ℕ) → guard g ≡ guard' g)
    → epoch_head words mode guard f ≡ epoch_head other mode' guard' f
unfolding epoch_head
head-alike words other mode mode' guard guard' zero says modes guards = refl
head-alike words other mode mode' guard guard' (suc f) says modes guards = rw (epoch_start-same words other (suc f) (λ g h. says g), modes f, guards f) refl

-- ---- frames

-- the words and the cells of two streams whose frames lie alike
module _ (fix : Bool) (form : Form) (s t : List ℕ) (differ : DifferUnread (version_of fix form s) s t) (starts : (f : ℕ) → (version_of fix form s).starts f ≡ (version_of fix form t).starts f) (head : (version_of fix form s).head ≡ (version_of fix form t).head) (mode : (f : ℕ) → (version_of fix form s).mode f ≡ (version_of fix form t).mode f) where
  abbrev v : View
  v = version_of fix form s

  abbrev w : View
  w = version_of fix form t

  byte-from : (f n : ℕ) (xs : List ℕ) → slice_index (drop (v.starts f + v.head) xs) n ≡ slice_index xs (v.starts f + v.head + n)
  byte-from f n xs = get_or-drop (v.starts f + v.head) xs n 0

  bits-from : (f k : ℕ) → 0 < k → k < 204 → slice_index (drop (v.starts f + v.head) s) (k * symbol_size (v.mode f)) % 2 ≡ slice_index (drop (v.starts f + v.head) t) (k * symbol_size (v.mode f)) % 2
  bits-from f k some less =
      ap (λ n. n % 2) (byte-from f (k * symbol_size (v.mode f)) s) ∙ differ.bits f k some less ∙ sym (ap (λ n. n % 2) (byte-from f (k * symbol_size (v.mode f)) t))

  bytes-from : (f k i : ℕ) → k < 204 → 0 < i → i < symbol_size (v.mode f) → slice_index (drop (v.starts f + v.head) s) (k * symbol_size (v.mode f) + i) ≡ slice_index (drop (v.starts f + v.head) t) (k * symbol_size (v.mode f) + i)
  bytes-from f k i l some less =
      let e : v.starts f + v.head + (k * symbol_size (v.mode f) + i) ≡ symbol_in v f k + i = omega arith in
      byte-from f (k * symbol_size (v.mode f) + i) s ∙ ap (slice_index s) e ∙ differ.cells f k i l some less ∙ sym (byte-from f (k * symbol_size (v.mode f) + i) t ∙ ap (slice_index t) e)

  place : (f : ℕ) → v.starts f + v.head ≡ w.starts f + w.head
  place f = ap (λ n. n + v.head) (starts f) ∙ ap (λ n. w.starts f + n) head

  same-fix : v.fix ≡ w.fix
  same-fix = fix-of fix form s ∙ sym (fix-of fix form t)

  came-alike : (f : ℕ) → DifferFirst (v.came f) (w.came f)
  came-alike f =
      let here : DifferFirst (stream_word (v.mode f) (drop (v.starts f + v.head) s) 0) (stream_word (v.mode f) (drop (v.starts f + v.head) t) 0) = word-alike (v.mode f) (drop (v.starts f + v.head) s) (drop (v.starts f + v.head) t) (bits-from f) in
      let there : stream_word (v.mode f) (drop (v.starts f + v.head) t) 0 ≡ w.came f =
      ap (λ n. stream_word (v.mode f) (drop n t) 0) (place f) ∙ ap (λ m. stream_word m (drop (w.starts f + w.head) t) 0) (mode f) ∙ (laid fix form t).came f in
      subst (λ came. DifferFirst came (w.came f)) ((laid fix form s).came f) (subst (DifferFirst (stream_word (v.mode f) (drop (v.starts f + v.head) s) 0)) there here)

  says-alike : (f : ℕ) → read (v.word f) ≡ read (w.word f)
  says-alike f =
      ap read (sym ((laid fix form s).words f))
      ∙ same-read v.fix (v.came f) (w.came f) (came-alike f)
      ∙ ap (λ b. read (word_by b (w.came f))) same-fix
      ∙ ap read ((laid fix form t).words f)

  restored-alike : (f : ℕ) → restored v.fix (v.came f) ≡ restored w.fix (w.came f)
  restored-alike f = same-restored v.fix (v.came f) (w.came f) (came-alike f) ∙ ap (λ b. restored b (w.came f)) same-fix

  cells-alike : (f k segment carrier : ℕ) → k < 204 → segment < 13 → carrier < carriers (v.mode f) → v.cell f k segment carrier ≡ w.cell f k segment carrier
  cells-alike f k segment carrier l few c =
      sym (((laid fix form s).shows f).each k segment carrier l few c)
      ∙ cell-alike (v.mode f) (drop (v.starts f + v.head) s) (drop (v.starts f + v.head) t) (bytes-from f) k segment carrier l few c
      ∙ ap (λ n. stream_cell (v.mode f) (drop n t) 0 k segment carrier) (place f)
      ∙ ap (λ m. stream_cell m (drop (w.starts f + w.head) t) 0 k segment carrier) (mode f)
      ∙ ((laid fix form t).shows f).each k segment carrier l few (subst (λ m. carrier < carriers m) (mode f) c)

-- ---- the second version

module _ (fix : Bool) (s t : List ℕ) (differ : DifferUnread (second_version fix s) s t) where
  head-bytes : (f : ℕ) → second_start s f ≡ second_start t f → (i : ℕ) → i < 6 → slice_index (bytes_from s f) i ≡ slice_index (bytes_from t f) i
  head-bytes f same i less =
      get_or-drop (second_start s f) s i 0 ∙ differ.heads f i (omega (arith, less)) less ∙ ap (λ n. slice_index t (n + i)) same ∙ sym (get_or-drop (second_start t f) t i 0)

  starts-alike : (f : ℕ) → second_start s f ≡ second_start t f
  unfolding second_start
  starts-alike zero = refl
  starts-alike (suc f) =
      let same = starts-alike f in
      let rest : length (bytes_from s f) ≡ length (bytes_from t f) = length-drop (second_start s f) s ∙ ap (λ n. n - second_start s f) differ.size ∙ ap (λ n. length t - n) same ∙ sym (length-drop (second_start t f) t) in
      ap (λ n. n + bytes_said (length (bytes_from s f)) (head_said (bytes_from s f))) same
      ∙ ap (λ n. second_start t f + bytes_said n (head_said (bytes_from s f))) rest
      ∙ ap (λ r. second_start t f + bytes_said (length (bytes_from t f)) r) (said-alike (bytes_from s f) (bytes_from t f) (head-bytes f same))

  said-same : (f : ℕ) → head_said (bytes_from s f) ≡ head_said (bytes_from t f)
  said-same f = said-alike (bytes_from s f) (bytes_from t f) (head-bytes f (starts-alike f))

  mode-same : (f : ℕ) → (second_version fix s).mode f ≡ (second_version fix t).mode f
  mode-same f = ap mode_said (said-same f)

  guard-same : (f : ℕ) → (second_version fix s).guard f ≡ (second_version fix t).guard f
  guard-same f = ap guard_said (said-same f)

  due-same : (f : ℕ) → second_due fix s f ≡ second_due fix t f
  due-same f = head-alike (second_version fix s).word (second_version fix t).word (second_version fix s).mode (second_version fix t).mode (second_version fix s).guard (second_version fix t).guard f (says-alike fix V2 s t differ starts-alike refl mode-same) mode-same guard-same

-- ---- either version

pub read_alike : (fix : Bool) (form : Form) (s t : List ℕ) → DifferUnread (version_of fix form s) s t → ReadAlike (version_of fix form s) (version_of fix form t)
read_alike fix (V1 m g) s t differ = record {
  size = differ.size;
  starts = λ f. refl;
  head = refl;
  mode = λ f. refl;
  guard = λ f. refl;
  says = says-alike fix (V1 m g) s t differ (λ f. refl) refl (λ f. refl);
  restored = restored-alike fix (V1 m g) s t differ (λ f. refl) refl (λ f. refl);
  bad = λ f. refl;
  cells = cells-alike fix (V1 m g) s t differ (λ f. refl) refl (λ f. refl);
  keeps = λ f fine other. refl;
}
read_alike fix V2 s t differ = record {
  size = differ.size;
  starts = starts-alike fix s t differ;
  head = refl;
  mode = mode-same fix s t differ;
  guard = guard-same fix s t differ;
  says = says-alike fix V2 s t differ (starts-alike fix s t differ) refl (mode-same fix s t differ);
  restored = restored-alike fix V2 s t differ (starts-alike fix s t differ) refl (mode-same fix s t differ);
  bad = λ f. bad-alike (second_due fix s f) (second_due fix t f) (bytes_from s f) (bytes_from t f) (due-same fix s t differ f) (head-bytes fix s t differ f (starts-alike fix s t differ f));
  cells = cells-alike fix V2 s t differ (starts-alike fix s t differ) refl (mode-same fix s t differ);
  keeps = λ f fine other. ((laid fix V2 s).keeps f fine other).0;
}
