-- No head of a stream that is near the cells of a plan is refused.
use Rattle.std.proofs.Common.{◌≡◌, ℕ, zero, suc, ◌+◌, ◌≤◌, ◌<◌, Bool, true, false, List, length, take, refl, arith, ap, sym, ◌∙◌, inl, inr, length-drop}
use Rattle.std.specs.Prelude.{Some, None, Ok, Err, ◌==◌, slice_index, if◌then◌else◌}
use Rattle.std.specs.declared.option.Option.{Option}
use Rattle.std.specs.declared.result.Result.{Result}
use Rattle.std.proofs.lemmas.Bool.{eq-eqb, eqb-false, cases_lt}
use Rattle.std.proofs.lemmas.Bool.Decides.{eqb_tells}
use Rattle.isdbt_base.specs.declared.kinds.Mode.{Mode}
use Rattle.isdbt_base.specs.declared.kinds.Mode.TheVariants.{M1, M2, M3}
use Rattle.isdbt_base.specs.declared.kinds.Guard.{Guard}
use Rattle.isdbt_base.specs.declared.kinds.Guard.TheVariants.{G4, G8, G16, G32}
use Rattle.isdbt_base.specs.declared.head.HeadFault.{HeadFault}
use Rattle.isdbt_base.specs.declared.stream.Form.{Form}
use Rattle.isdbt_base.specs.declared.stream.Form.TheVariants.{V1, V2}
use Rattle.isdbt_base.specs.Heads.{mode_byte, guard_byte, mode_in, guard_in, both_read, head_read}
use Rattle.isdbt_base.specs.Plans.{Schedule, at_frame, IsPlan}
use Rattle.isdbt_base.specs.Frames.{FramePackets}
use Rattle.isdbt_base.proofs.PlanEpochs.{epoch_start-le, same_epoch}
use Rattle.seg_receiver.specs.Epochs.{epoch_start, epoch_head}
use Rattle.seg_receiver.specs.HeadChecks.{unread_byte, other_byte, least, bad_byte}
use Rattle.seg_receiver.specs.CellStream.{head_said, bytes_said, second_start, bytes_from, mode_said, guard_said, second_mode, second_guard, second_word, second_due, second_version, version_of, NoBadHead}
use Rattle.seg_receiver.specs.Delivered.{IsNear}
use Rattle.seg_receiver.proofs.GoodHeads.{said-tail}
use Rattle.seg_receiver.proofs.NearDelivered.{epoch_start-plan}
use Rattle.seg_receiver.proofs.ViewLaws.{laid, starts-le, start-next}

-- ---- what the bytes of a head are that is read

byte_of_mode : Option Mode → ℕ
byte_of_mode None = 0
byte_of_mode (Some m) = mode_byte m

mode_in-one : (n : ℕ) (m : Mode) → mode_in n ≡ Some m → n ≡ mode_byte m
unfolding byte_of_mode
mode_in-one n m h =
    elim (eqb_tells n 1) [
      | inl one ↦ (let e : Some M1 ≡ Some m = rw one.0 at h in one.1 ∙ ap byte_of_mode e)
      | inr not_one ↦ elim (eqb_tells n 2) [
        | inl two ↦ (let e : Some M2 ≡ Some m = rw (not_one.0, two.0) at h in two.1 ∙ ap byte_of_mode e)
        | inr not_two ↦ elim (eqb_tells n 3) [
          | inl three ↦ (let e : Some M3 ≡ Some m = rw (not_one.0, not_two.0, three.0) at h in three.1 ∙ ap byte_of_mode e)
          | inr not_three ↦ (let e : None ≡ Some m = rw (not_one.0, not_two.0, not_three.0) at h in absurd (cc))
        ]
      ]
    ]

byte_of_guard : Option Guard → ℕ
byte_of_guard None = 0
byte_of_guard (Some g) = guard_byte g

guard_in-one : (n : ℕ) (g : Guard) → guard_in n ≡ Some g → n ≡ guard_byte g
unfolding byte_of_guard
guard_in-one n g h =
    elim (eqb_tells n 4) [
      | inl four ↦ (let e : Some G4 ≡ Some g = rw four.0 at h in four.1 ∙ ap byte_of_guard e)
      | inr not_four ↦ elim (eqb_tells n 8) [
        | inl eight ↦ (let e : Some G8 ≡ Some g = rw (not_four.0, eight.0) at h in eight.1 ∙ ap byte_of_guard e)
        | inr not_eight ↦ elim (eqb_tells n 16) [
          | inl sixteen ↦ (let e : Some G16 ≡ Some g = rw (not_four.0, not_eight.0, sixteen.0) at h in sixteen.1 ∙ ap byte_of_guard e)
          | inr not_sixteen ↦ elim (eqb_tells n 32) [
            | inl last ↦ (let e : Some G32 ≡ Some g = rw (not_four.0, not_eight.0, not_sixteen.0, last.0) at h in last.1 ∙ ap byte_of_guard e)
            | inr not_last ↦ (let e : None ≡ Some g = rw (not_four.0, not_eight.0, not_sixteen.0, not_last.0) at h in absurd (cc))
          ]
        ]
      ]
    ]

both_of : (m : Option Mode) (g : Option Guard) (said : Mode × Guard) → both_read m g ≡ Ok said → (m ≡ Some said.0) × (g ≡ Some said.1)
both_of None g said h = absurd (cc)
both_of (Some m) None said h = absurd (cc)
both_of (Some m) (Some g) said h = (ap first_said h, ap second_said h)
  where
    first_said : Result (Mode × Guard) HeadFault → Option Mode
    first_said (Ok p) = Some p.0
    first_said (Err e) = None

    second_said : Result (Mode × Guard) HeadFault → Option Guard
    second_said (Ok p) = Some p.1
    second_said (Err e) = None

-- no byte of a head that is read says otherwise
not_other : (head : List ℕ) (said : Mode × Guard) → head_read head ≡ Ok said → other_byte (Some said) head ≡ None
not_other head said is =
    let parts = both_of (mode_in (slice_index head 4)) (guard_in (slice_index head 5)) said (sym (said-tail head (ap unread_byte is)) ∙ is) in
    let mode = eq-eqb (slice_index head 4) (mode_byte said.0) (mode_in-one (slice_index head 4) said.0 parts.0) in
    let guard = eq-eqb (slice_index head 5) (guard_byte said.1) (guard_in-one (slice_index head 5) said.1 parts.1) in
    rw (mode, guard) refl

fine-byte : (due : Option (Mode × Guard)) (head : List ℕ) (said : Mode × Guard) → head_read head ≡ Ok said → other_byte due head ≡ None → bad_byte due head ≡ None
unfolding bad_byte
fine-byte due head said is same = ap (λ r. least (unread_byte r) (other_byte due head)) is ∙ same

-- ---- the heads of a stream

module _ (fix : Bool) (stream : List ℕ) (p : Schedule) (frames : FramePackets) (count : ℕ) (plan : IsPlan p) (near : IsNear (second_version fix stream) p frames count) where
  -- the head of each of its frames is read
  said-of : (f : ℕ) (r : Result (Mode × Guard) HeadFault) → f < count → head_said (bytes_from stream f) ≡ r → (said : Mode × Guard) × (head_said (bytes_from stream f) ≡ Ok said)
  said-of f (Ok said) h is = (said, is)
  said-of f (Err fault) h is =
      let next = start-next stream f ∙ ap (λ r. second_start stream f + bytes_said (length (bytes_from stream f)) r) is in
      let k : second_start stream (f + 1) ≡ second_start stream f + (length (bytes_from stream f) + 1) = next in
      let size = length-drop (second_start stream f) stream in
      let end = starts-le (second_version fix stream) stream (f + 1) count (laid fix V2 stream) (omega (arith, h)) in
      let whole = near.whole in
      absurd (omega (arith, k, size, end, whole))

  -- within an epoch it says what the head before says
  same_as_before : (g : ℕ) → suc g < count → (epoch_start (second_word fix stream) (suc g) ≡ suc g → ⊥) → (second_mode stream (suc g) ≡ second_mode stream g) × (second_guard stream (suc g) ≡ second_guard stream g)
  same_as_before g h other =
      let begun = epoch_start-plan p (second_word fix stream) (suc g) plan (λ k l. near.words k (omega (arith, h, l))) in
      let le = epoch_start-le p (suc g) in
      let within : (at_frame p (suc g)).start ≤ g =
      elim (eqb_tells (at_frame p (suc g)).start (suc g)) [
        | inl same ↦ absurd (other (begun ∙ same.1))
        | inr differs ↦ (let apart = differs.1 in let e : ((at_frame p (suc g)).start ≤ g) = elim (cases_lt (at_frame p (suc g)).start (suc g)) [ inl less ↦ omega (arith, less) | inr over ↦ absurd (apart (omega (arith, over, le))) ] in e)
      ] in
      let epoch = same_epoch p g (suc g) plan (omega arith) within in
      (near.modes (suc g) h ∙ sym epoch.mode ∙ sym (near.modes g (omega (arith, h))), near.guards (suc g) h ∙ sym epoch.guard ∙ sym (near.guards g (omega (arith, h))))

  due-fine : (g : ℕ) (said : Mode × Guard) (b : Bool) → suc g < count → (epoch_start (second_word fix stream) (suc g) == suc g) ≡ b → head_said (bytes_from stream (suc g)) ≡ Ok said
      → other_byte (if b then None else Some (second_mode stream g, second_guard stream g)) (take 8 (bytes_from stream (suc g))) ≡ None
  due-fine g said true h begins is = refl
  due-fine g said false h begins is =
      let head = take 8 (bytes_from stream (suc g)) in
      let same = same_as_before g h (eqb-false (epoch_start (second_word fix stream) (suc g)) (suc g) begins) in
      let mode : said.0 ≡ second_mode stream g = sym (ap mode_said is) ∙ same.0 in
      let guard : said.1 ≡ second_guard stream g = sym (ap guard_said is) ∙ same.1 in
      ap (λ m. other_byte (Some (m, second_guard stream g)) head) (sym mode) ∙ ap (λ k. other_byte (Some (said.0, k)) head) (sym guard) ∙ not_other head said is

  fine-head : (f : ℕ) → f < count → bad_byte (second_due fix stream f) (take 8 (bytes_from stream f)) ≡ None
  unfolding epoch_head
  fine-head zero h = (let said = said-of zero (head_said (bytes_from stream zero)) h refl in fine-byte None (take 8 (bytes_from stream zero)) said.0 said.1 refl)
  fine-head (suc g) h =
      let said = said-of (suc g) (head_said (bytes_from stream (suc g))) h refl in
      fine-byte (second_due fix stream (suc g)) (take 8 (bytes_from stream (suc g))) said.0 said.1 (due-fine g said.0 (epoch_start (second_word fix stream) (suc g) == suc g) h refl said.1)

pub near-heads : (fix : Bool) (form : Form) (stream : List ℕ) (p : Schedule) (frames : FramePackets) (count : ℕ) → IsPlan p → IsNear (version_of fix form stream) p frames count → NoBadHead (version_of fix form stream) count
near-heads fix (V1 mode guard) stream p frames count plan near f h = refl
near-heads fix V2 stream p frames count plan near f h = fine-head fix stream p frames count plan near f h
