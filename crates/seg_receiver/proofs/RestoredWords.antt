-- Words that are corrected.
use Rattle.std.proofs.Common.{◌≡◌, ℕ, ◌+◌, ◌-◌, ◌%◌, ◌≤◌, ◌<◌, Bool, true, false, List, ◌∷◌, ◌++◌, length, length-drop, take, drop, refl, ap, sym, ◌∙◌, subst, arith, Some, None}
use Rattle.std.specs.Prelude.{◌==◌}
use Rattle.std.specs.declared.option.Option.{Option}
use Rattle.std.proofs.lemmas.List.{take-append-drop}
use Rattle.std.proofs.lemmas.List.FromFn.{length-map-range_with_len}
use Rattle.isdbt_base.specs.declared.kinds.Mode.{Mode}
use Rattle.isdbt_base.specs.declared.stream.Reading.{Reading}
use Rattle.isdbt_base.specs.Plans.{Schedule}
use Rattle.tmcc_word.specs.Reading.{layer_field_at, setting_at, info_at, read}
use Rattle.tmcc_word.specs.Words.{word_of}
use Rattle.tmcc_word.proofs.ReadBack.{length-word_of, codeword-word_of}
use Rattle.tmcc_fix.specs.NearCodewords.{differing, IsNear, near_codeword}
use Rattle.tmcc_fix.specs.Corrected.{with_codeword, corrected}
use Rattle.tmcc_fix.proofs.Differing.{differing-self}
use Rattle.tmcc_fix.proofs.Search.{corrected-near}
use Rattle.coder_core.specs.SentCells.{plan_info, plan_word}
use Rattle.seg_receiver.specs.CellStream.{View, tmcc_bit, stream_word, word_by, view_of}
use Rattle.seg_receiver.specs.FrameLines.{restored}
use Rattle.seg_receiver.specs.Delivered.{HaveWords, IsWordNear, AreRestorable}
use Rattle.seg_receiver.proofs.ViewLaws.{laid, fix-of}

-- ---- words that differ in the first bit alone

-- two words differ at most in the first bit
pub record DifferFirst (came other : List Bool) : Type 0 where
  pub a : Bool
  pub b : Bool
  pub rest : List Bool
  pub is : came ≡ a ∷ rest
  pub other_is : other ≡ b ∷ rest

-- what a word says doesn't depend on its first bit
read-first : (a b : Bool) (rest : List Bool) → read (a ∷ rest) ≡ read (b ∷ rest)
unfolding read info_at setting_at layer_field_at
read-first a b rest = refl

read-corrected : (a b : Bool) (rest : List Bool) (near : Option (List Bool)) → read (with_codeword (a ∷ rest) near) ≡ read (with_codeword (b ∷ rest) near)
read-corrected a b rest None = read-first a b rest
read-corrected a b rest (Some near) = read-first a b (take 19 rest ++ near)

read-by : (fix a b : Bool) (rest : List Bool) → read (word_by fix (a ∷ rest)) ≡ read (word_by fix (b ∷ rest))
read-by false a b rest = read-first a b rest
read-by true a b rest = read-corrected a b rest (near_codeword (drop 19 rest))

-- such words say the same when they are read, and as many bits of them are restored
pub same-read : (fix : Bool) (came other : List Bool) → DifferFirst came other → read (word_by fix came) ≡ read (word_by fix other)
same-read fix came other d = ap (λ w. read (word_by fix w)) d.is ∙ read-by fix d.a d.b d.rest ∙ sym (ap (λ w. read (word_by fix w)) d.other_is)

differing-first : (a b : Bool) (xs ys : List Bool) → differing (a ∷ xs) (a ∷ ys) ≡ differing (b ∷ xs) (b ∷ ys)
unfolding differing
differing-first true true xs ys = refl
differing-first true false xs ys = refl
differing-first false true xs ys = refl
differing-first false false xs ys = refl

changed-first : (a b : Bool) (rest : List Bool) (near : Option (List Bool)) → differing (a ∷ rest) (with_codeword (a ∷ rest) near) ≡ differing (b ∷ rest) (with_codeword (b ∷ rest) near)
changed-first a b rest None = differing-first a b rest rest
changed-first a b rest (Some near) = differing-first a b rest (take 19 rest ++ near)

restored-by : (fix a b : Bool) (rest : List Bool) → restored fix (a ∷ rest) ≡ restored fix (b ∷ rest)
unfolding restored
restored-by false a b rest = refl
restored-by true a b rest = ap Some (changed-first a b rest (near_codeword (drop 19 rest)))

pub same-restored : (fix : Bool) (came other : List Bool) → DifferFirst came other → restored fix came ≡ restored fix other
same-restored fix came other d = ap (restored fix) d.is ∙ restored-by fix d.a d.b d.rest ∙ sym (ap (restored fix) d.other_is)

-- ---- words that are restored

-- a word that is near one with its parity is corrected to it
corrected-word : (came word : List Bool) → length came ≡ 204 → IsNear (drop 20 came) (drop 20 word) → take 20 came ≡ take 20 word → corrected came ≡ word
corrected-word came word size near start = corrected-near came (drop 20 word) size near ∙ ap (λ l. l ++ drop 20 word) start ∙ take-append-drop 20 word

length-stream_word : (mode : Mode) (bytes : List ℕ) → length (stream_word mode bytes 0) ≡ 204
unfolding stream_word
length-stream_word mode bytes = length-map-range_with_len (tmcc_bit mode bytes 0) 0 204

-- one that differs from a plan's word in at most eight bits from B20 on is corrected to the plan's word
restored-word : (p : Schedule) (f : ℕ) (came : List Bool) → length came ≡ 204 → IsWordNear came (plan_word p f) → corrected came ≡ plan_word p f
restored-word p f came size is =
    let whole = length-word_of (plan_info p f) (f % 2 == 1) in
    let sizes : length (drop 20 (plan_word p f)) ≡ length (drop 20 came) = length-drop 20 (plan_word p f) ∙ ap (λ n. n - 20) (whole ∙ sym size) ∙ sym (length-drop 20 came) in
    corrected-word came (plan_word p f) size (record { codeword = codeword-word_of (plan_info p f) (f % 2 == 1); size = sizes; close = is.close }) is.start

-- a plan's word stays as it is
pub plan_word-by : (fix : Bool) (p : Schedule) (f : ℕ) → word_by fix (plan_word p f) ≡ plan_word p f
plan_word-by false p f = refl
plan_word-by true p f =
    restored-word p f (plan_word p f) (length-word_of (plan_info p f) (f % 2 == 1)) (record { start = refl; close = (let none = differing-self (drop 20 (plan_word p f)) in omega (arith, none)) })

-- where words are corrected, words that are near those of a plan are read as these
pub restored-words : (how : Reading) (stream : List ℕ) (p : Schedule) (count : ℕ) → how.fix ≡ true → AreRestorable (view_of how stream) p count → HaveWords (view_of how stream) p count
restored-words how stream p count on all f less =
    let v = view_of how stream in
    let lies = laid how.fix how.form stream in
    let size : length (v.came f) ≡ 204 = ap length (sym (lies.came f)) ∙ length-stream_word (v.mode f) (drop (v.starts f + v.head) stream) in
    sym (lies.words f) ∙ ap (λ b. word_by b (v.came f)) (fix-of how.fix how.form stream ∙ on) ∙ restored-word p f (v.came f) size (all f less)
