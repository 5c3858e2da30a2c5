-- What the remultiplexer writes of the inputs of a sample.
use Rattle.std.proofs.Common.{◌≡◌, ℕ, List, [], ◌++◌, Some, Bool, true, arith, ap, ◌∙◌}
use Rattle.std.specs.declared.option.Option.{Option}
use Rattle.std.proofs.lemmas.Option.{same_Some}
use Rattle.isdbt_base.specs.declared.kinds.Layer.{Layer}
use Rattle.isdbt_base.specs.declared.kinds.Layer.TheVariants.{A, B, C}
use Rattle.isdbt_base.specs.Plans.{Schedule}
use Rattle.isdbt_base.specs.Outcome.{product}
use Rattle.edge_io.specs.declared.shelf.Seat.{Seat}
use Rattle.edge_io.specs.declared.shelf.Seat.TheVariants as seats
use Rattle.remux_core.specs.Answers.{IsUsed, Tells, Finished}
use Rattle.remux_core.specs.Frames.{packets_of}
use Rattle.remux_core.specs.Multiplex.{written_frame, frame_count, packet_count}
use Rattle.remux_core.specs.Refusals.{seat_of}
use Rattle.sample.specs.SamplePlan.{sample_plan, sample_frames}
use Rattle.sample.specs.SampleInputs.{sample_input}
use Rattle.sample.proofs.InputLaws.{input-none, input-count}
use Rattle.sample.proofs.PlanFrames.{unused-c, used-a, used-b, frame_count-sample}

-- layer C is unused
c-unused : (p : Schedule) → p ≡ sample_plan → IsUsed p C → ⊥
c-unused p is used = (let none : packets_of p.first C ≡ 0 = ap (λ (q : Schedule). packets_of q.first C) is ∙ unused-c in omega (arith, none, used))

-- the seats of the used layers are open
pub seats-open : (p : Schedule) → p ≡ sample_plan → (is_open : Seat → Bool) → is_open seats.A ≡ true → is_open seats.B ≡ true → (x : Layer) → IsUsed p x → is_open (seat_of x) ≡ true
seats-open p is is_open a b A used = a
seats-open p is is_open a b B used = b
seats-open p is is_open a b C used = absurd (c-unused p is used)

-- the seats hold the inputs
pub tells-inputs : (p : Schedule) (number : ℕ) (left : Seat → Option (List ℕ)) → p ≡ sample_plan → left seats.A ≡ Some (sample_input number A) → left seats.B ≡ Some (sample_input number B) → Tells p left (sample_input number)
tells-inputs p number left is a b = record { used = used; unused = unused }
  where
    used : (x : Layer) → IsUsed p x → left (seat_of x) ≡ Some (sample_input number x)
    used A some = a
    used B some = b
    used C some = absurd (c-unused p is some)

    unused : (x : Layer) → packets_of p.first x ≡ 0 → sample_input number x ≡ []
    unused A none = absurd (let some : packets_of p.first A ≡ 16 = ap (λ (q : Schedule). packets_of q.first A) is ∙ used-a in omega (arith, none, some))
    unused B none = absurd (let some : packets_of p.first B ≡ 288 = ap (λ (q : Schedule). packets_of q.first B) is ∙ used-b in omega (arith, none, some))
    unused C none = input-none number

-- all frames were written
pub all-written : (p : Schedule) (number limit m : ℕ) (before after : List ℕ) (left : Seat → Option (List ℕ)) → p ≡ sample_plan → before ≡ [] → Finished p (sample_input number) limit m (Some before) (Some after) left
    → after ≡ product (written_frame sample_plan (sample_input number)) sample_frames
all-written p number limit m before after left is empty done =
    let count : m ≡ sample_frames = done.count ∙ ap (λ q. frame_count q (packet_count (sample_input number))) is ∙ frame_count-sample (packet_count (sample_input number)) (input-count number A) (input-count number B) in
    same_Some after (product (written_frame sample_plan (sample_input number)) sample_frames)
    (done.ended.written ∙ ap (λ xs. Some (xs ++ product (written_frame p (sample_input number)) m)) empty
    ∙ ap (λ n. Some (product (written_frame p (sample_input number)) n)) count
    ∙ ap (λ q. Some (product (written_frame q (sample_input number)) sample_frames)) is)
