-- No frame of a stream with a plan's words is refused.
use Rattle.std.proofs.Common.{◌≡◌, ℕ, zero, suc, ◌+◌, ◌-◌, ◌%◌, ◌≤◌, ◌<◌, Bool, true, false, refl, arith, ap, ◌∙◌, inl, inr, Some, None}
use Rattle.std.specs.Prelude.{◌==◌, nat_lt}
use Rattle.std.specs.Int.{from_bool}
use Rattle.std.proofs.lemmas.Bool.{lt-ltb, le-ltb, ne_eqb, eq-eqb}
use Rattle.std.proofs.lemmas.Bool.Decides.{eqb_tells}
use Rattle.isdbt_base.specs.Bits.{bits_number}
use Rattle.isdbt_base.specs.Parameters.{Parameters}
use Rattle.isdbt_base.specs.Plans.{Schedule, at_frame, IsPlan}
use Rattle.isdbt_base.specs.Outcome.{IsOutcome}
use Rattle.tmcc_word.specs.Fields.{TmccFields}
use Rattle.tmcc_word.specs.Words.{setting_field}
use Rattle.tmcc_word.specs.Reading.{read}
use Rattle.std.specs.declared.option.Option.{Option}
use Rattle.coder_core.specs.SentCells.{plan_word, plan_info, frame_size}
use Rattle.coder_core.proofs.PlanWords.{read-plan_word}
use Rattle.seg_receiver.specs.Aims.{aim_of}
use Rattle.seg_receiver.specs.CellStream.{View, AreInRow, NoBadHead}
use Rattle.seg_receiver.specs.ReceiveRefusals.{receive_is_there, same_setting, expected, is_expected, behind_refusal, reading_refusal, word_refusal, word_before, receive_refusal}
use Rattle.seg_receiver.proofs.NextSettings.{next_setting-zero, setting-stays}

-- ---- words of a plan

pub same_setting-self : (s : Parameters) → same_setting s s ≡ true
same_setting-self s = eq-eqb (bits_number (setting_field s)) (bits_number (setting_field s)) refl

-- the setting of each frame is the expected one
is_expected-plan : (p : Schedule) (f : ℕ) → IsPlan p → is_expected (expected (plan_info p f)) (at_frame p (suc f)).setting ≡ true
is_expected-plan p f plan =
    elim (eqb_tells (at_frame p f).countdown 0) [
      | inl last ↦ rw (last.0) (ap (λ o. is_expected o (at_frame p (suc f)).setting) (next_setting-zero p f plan last.1) ∙ same_setting-self (at_frame p (suc f)).setting)
      | inr other ↦ rw other.0 (ap (λ s. same_setting s (at_frame p (suc f)).setting) (setting-stays p f plan other.1) ∙ same_setting-self (at_frame p (suc f)).setting)
    ]

-- of two frames one is odd
odd-turns : (f : ℕ) → (from_bool (f % 2 == 1) == from_bool (suc f % 2 == 1)) ≡ false
odd-turns f =
    elim (eqb_tells (f % 2) 1) [
      | inl odd ↦ (let e = ne_eqb (suc f % 2) 1 (λ k. let o = odd.1 in omega (arith, k, o)) in rw (odd.0, e) refl)
      | inr even ↦ (let e = eq-eqb (suc f % 2) 1 (let o = even.1 in omega (arith, o)) in rw (even.0, e) refl)
    ]

reading-fine : (f : ℕ) (partial : Bool) (before : Option (TmccFields × Bool)) (word : TmccFields × Bool) → behind_refusal f before word ≡ None → (partial ≡ true → word.0.now.partial ≡ true) → reading_refusal f (aim_of partial) before word ≡ None
reading-fine f false before word behind asked = behind
reading-fine f true before word behind asked = rw (behind, asked refl) refl

-- behind the word of a frame that of the next is not refused
behind-fine : (p : Schedule) (f : ℕ) → IsPlan p → behind_refusal (suc f) (Some (plan_info p f, f % 2 == 1)) (plan_info p (suc f), suc f % 2 == 1) ≡ None
behind-fine p f plan = rw (odd-turns f, is_expected-plan p f plan) refl

words-fine : (v : View) (p : Schedule) (partial : Bool) (f : ℕ) → IsPlan p → ((g : ℕ) → g ≤ f → v.word g ≡ plan_word p g) → (partial ≡ true → (at_frame p f).setting.partial ≡ true) →
    word_refusal f (aim_of partial) (word_before v f) (read (v.word f)) ≡ None
words-fine v p partial zero plan same asked =
    let word = ap read (same 0 (omega arith)) ∙ read-plan_word p 0 plan in
    rw word (reading-fine 0 partial None (plan_info p 0, 0 % 2 == 1) refl asked)
words-fine v p partial (suc f) plan same asked =
    let word = ap read (same (suc f) (omega arith)) ∙ read-plan_word p (suc f) plan in
    let before = ap read (same f (omega arith)) ∙ read-plan_word p f plan in
    rw (word, before) (reading-fine (suc f) partial (Some (plan_info p f, f % 2 == 1)) (plan_info p (suc f), suc f % 2 == 1) (behind-fine p f plan) asked)

-- ---- frames

-- a frame of a row begins before the next
rises : (v : View) (count f : ℕ) → AreInRow v count → f < count → v.starts f < v.starts (f + 1)
rises v count f row less = (let e = row f less in let some : 0 < frame_size (v.mode f) = omega arith in omega (arith, e, some))

-- and no later than those behind it
starts-le : (v : View) (count f d : ℕ) → AreInRow v count → f + d ≤ count → v.starts f ≤ v.starts (f + d)
starts-le v count f zero row fits = (let e = ap v.starts (let z : f + 0 ≡ f = omega arith in z) in omega (arith, e))
starts-le v count f (suc d) row fits =
    let so_far = starts-le v count f d row (omega (arith, fits)) in
    let more = rises v count (f + d) row (omega (arith, fits)) in
    let e = ap v.starts (let z : f + d + 1 ≡ f + suc d = omega arith in z) in
    omega (arith, so_far, more, e)

-- each frame of a row ends within the whole
ends_within : (v : View) (count f : ℕ) → AreInRow v count → v.size ≡ v.starts count → f < count → v.starts (f + 1) ≤ v.size
ends_within v count f row whole less =
    let le = starts-le v count (f + 1) (count - (f + 1)) row (omega (arith, less)) in
    let e = ap v.starts (let z : f + 1 + (count - (f + 1)) ≡ count = omega (arith, less) in z) in
    omega (arith, le, e, whole)

there : (v : View) (count f : ℕ) → AreInRow v count → v.size ≡ v.starts count → f < count → receive_is_there v f ≡ true
there v count f row whole h = lt-ltb (v.starts f) v.size (let before = rises v count f row h in let within = ends_within v count f row whole h in omega (arith, before, within))

-- no frame of a view in a row with a plan's words and no bad head is refused
pub near_outcome : (v : View) (p : Schedule) (partial : Bool) (count limit : ℕ) → IsPlan p → AreInRow v count → NoBadHead v count → v.size ≡ v.starts count → ((f : ℕ) → f < count → v.word f ≡ plan_word p f) →
    ((f : ℕ) → f < count → partial ≡ true → (at_frame p f).setting.partial ≡ true) → count ≤ limit →
    IsOutcome (receive_refusal v (aim_of partial) limit) (receive_is_there v) count None
unfolding receive_refusal
near_outcome v p partial count limit plan row heads whole words asked few =
    let over : receive_is_there v count ≡ false = le-ltb (v.starts count) v.size (omega (arith, whole)) in
    record {
      before = λ f h. (
        (let here = there v count f row whole h in
            let end = ends_within v count f row whole h in
            let next = row f h in
            let headed : nat_lt v.size (v.starts f + v.head) ≡ false = le-ltb v.size (v.starts f + v.head) (omega (arith, end, next)) in
            let fits : nat_lt v.size (v.starts (f + 1)) ≡ false = le-ltb v.size (v.starts (f + 1)) end in
            let soon : (f == limit) ≡ false = ne_eqb f limit (λ e. omega (arith, e, h, few)) in
            rw (here, soon, headed, heads f h, fits, words-fine v p partial f plan (λ g k. words g (omega (arith, h, k))) (asked f h)) refl),
        there v count f row whole h,
      );
      at = rw over refl;
      done = λ e. over;
    }
