use Rattle.std.proofs.Common.{◌≡◌, ℕ, ◌*◌, ◌++◌, Bool, true, List, None, Some, Ok, length, take, drop, ap, sym, ◌∙◌, subst, arith}
use Rattle.std.proofs.lemmas.List.{length-take-le, take_at}
use Rattle.isdbt_base.specs.declared.epoch.At.{At}
use Rattle.isdbt_base.specs.Plans.{at_frame}
use Rattle.edge_io.specs.declared.shelf.Seat.TheVariants as seats
use Rattle.edge_io.proofs.FrameAnswers.{refused_answer, refused_reading}
use Rattle.coder_core.specs.InputFrames.{slots_at}
use Rattle.coder_core.specs.FrameChecks.{refusal, CanCode}
use Rattle.coder_core.specs.Answers.{code_kind}
use Rattle.coder_core.specs.FrameSteps.{command_of, Whole, Taken, StepAnswer, coding_run}
use Rattle.coder_core.proofs.FrameStarts.{slots-some}
use Rattle.coder_core.proofs.CodeProgress.{held-front, frame_refused, taken}
use Rattle.coder_core.proofs.RefusalKinds.{refusal-kind}
use Rattle.coder_core.proofs.frames.take_frame.Goals as goal

pub returns-in-Ok-false-clause-answer : goal.returns-in-Ok-false-clause-answer
returns-in-Ok-false-clause-answer g c = λ how input limit head before now less place so_far.
    let p = c.args.plan.now in
    let f = c.args.place.number in
    let frame = c.read_frame.new.frame in
    let size : length frame ≡ 204 * slots_at p f = c.read_frame.auto.frame ∙ length-take-le (204 * c.slots_at.result) c.args.buffer.now (omega (arith, c.requires.room, c.slots_at.ensures.value)) ∙ ap (λ n. 204 * n) c.slots_at.ensures.value in
    let r = coding_run how p input limit head in
    let left' = g.H.Shelf.left c.read_frame.new.shelf seats.In in
    let front = held-front r f c.args.place.held (204 * c.slots_at.result) c.args.buffer.now (g.H.Shelf.left c.args.shelf.now seats.In) before now (omega (arith, c.slots_at.ensures.least, c.requires.held)) so_far in
    let P : Bool → Type 0 = λ b. StepAnswer r f (Whole r f frame left' before now) left' before now (Ok b) in
    subst P c.in-Ok-false.field-0-test (c.in-Ok-false.ensures.answer r f before now less (slots-some p) size front)

pub returns-in-Err-clause-answer : goal.returns-in-Err-clause-answer
returns-in-Err-clause-answer g c = λ how input limit head before now less place so_far.
    let p = c.args.plan.now in
    let f = c.args.place.number in
    let frame = c.read_frame.new.frame in
    let size : length frame ≡ 204 * slots_at p f = c.read_frame.auto.frame ∙ length-take-le (204 * c.slots_at.result) c.args.buffer.now (omega (arith, c.requires.room, c.slots_at.ensures.value)) ∙ ap (λ n. 204 * n) c.slots_at.ensures.value in
    let r = coding_run how p input limit head in
    let left' = g.H.Shelf.left c.read_frame.new.shelf seats.In in
    let front = held-front r f c.args.place.held (204 * c.slots_at.result) c.args.buffer.now (g.H.Shelf.left c.args.shelf.now seats.In) before now (omega (arith, c.slots_at.ensures.least, c.requires.held)) so_far in
    c.in-Err.ensures.answer r f before now less (slots-some p) size front

pub returns-in-Ok-clause-codable : goal.returns-in-Ok-clause-codable
returns-in-Ok-clause-codable g c = λ there.
    let p = c.args.plan.now in
    let f = c.args.place.number in
    let frame = c.read_frame.new.frame in
    let size : length frame ≡ 204 * slots_at p f = c.read_frame.auto.frame ∙ length-take-le (204 * c.slots_at.result) c.args.buffer.now (omega (arith, c.requires.room, c.slots_at.ensures.value)) ∙ ap (λ n. 204 * n) c.slots_at.ensures.value in
    let held : take (204 * slots_at p f) (frame ++ drop (204 * c.slots_at.result) c.args.buffer.now) ≡ frame = take_at frame (drop (204 * c.slots_at.result) c.args.buffer.now) (204 * slots_at p f) size in
    subst (λ (xs : List ℕ). CanCode (at_frame p f).setting (at_frame p f).mode xs) (sym held) (subst (λ (a : At). CanCode a.setting a.mode frame) c.at-at.ensures.value c.in-Ok.ensures.codable)

pub returns-in-Ok-clause-answer : goal.returns-in-Ok-clause-answer
returns-in-Ok-clause-answer g c = λ how input limit head before now less place so_far.
    let p = c.args.plan.now in
    let f = c.args.place.number in
    let frame = c.read_frame.new.frame in
    let size : length frame ≡ 204 * slots_at p f = c.read_frame.auto.frame ∙ length-take-le (204 * c.slots_at.result) c.args.buffer.now (omega (arith, c.requires.room, c.slots_at.ensures.value)) ∙ ap (λ n. 204 * n) c.slots_at.ensures.value in
    let r = coding_run how p input limit head in
    let left' = g.H.Shelf.left c.read_frame.new.shelf seats.In in
    let front = held-front r f c.args.place.held (204 * c.slots_at.result) c.args.buffer.now (g.H.Shelf.left c.args.shelf.now seats.In) before now (omega (arith, c.slots_at.ensures.least, c.requires.held)) so_far in
    let P : Bool → Type 0 = λ b. StepAnswer r f (Whole r f frame left' before now) left' before now (Ok b) in
    let held : take (204 * slots_at p f) (frame ++ drop (204 * c.slots_at.result) c.args.buffer.now) ≡ frame = take_at frame (drop (204 * c.slots_at.result) c.args.buffer.now) (204 * slots_at p f) size in
    let w : P true = subst P c.in-Ok-true.field-0-test (c.in-Ok-true.ensures.answer r f before now less (slots-some p) size front) in
    let fine = subst (λ (a : At). refusal a.setting a.mode f c.args.place.first_packet frame ≡ None) c.at-at.ensures.value c.in-Ok.ensures.answer in
    subst (λ (xs : List ℕ). Taken r f xs left' before now) (sym held) (taken r f c.args.place.first_packet frame left' before now place w fine)

pub returns-in-Err-check_frame-clause-answer : goal.returns-in-Err-check_frame-clause-answer
returns-in-Err-check_frame-clause-answer g c = λ how input limit head before now less place so_far.
    let p = c.args.plan.now in
    let f = c.args.place.number in
    let frame = c.read_frame.new.frame in
    let size : length frame ≡ 204 * slots_at p f = c.read_frame.auto.frame ∙ length-take-le (204 * c.slots_at.result) c.args.buffer.now (omega (arith, c.requires.room, c.slots_at.ensures.value)) ∙ ap (λ n. 204 * n) c.slots_at.ensures.value in
    let r = coding_run how p input limit head in
    let left' = g.H.Shelf.left c.read_frame.new.shelf seats.In in
    let front = held-front r f c.args.place.held (204 * c.slots_at.result) c.args.buffer.now (g.H.Shelf.left c.args.shelf.now seats.In) before now (omega (arith, c.slots_at.ensures.least, c.requires.held)) so_far in
    let P : Bool → Type 0 = λ b. StepAnswer r f (Whole r f frame left' before now) left' before now (Ok b) in
    let w : P true = subst P c.in-Ok-true.field-0-test (c.in-Ok-true.ensures.answer r f before now less (slots-some p) size front) in
    let why = subst (λ (a : At). refusal a.setting a.mode f c.args.place.first_packet frame ≡ Some c.in-Err-check_frame.fault) c.at-at.ensures.value c.in-Err-check_frame.ensures.answer in
    refused_answer code_kind (command_of r) before now left' c.in-Err-check_frame.fault (refusal-kind _ _ _ _ _ _ c.in-Err-check_frame.ensures.answer)
    (frame_refused r f c.args.place.first_packet c.in-Err-check_frame.fault frame left' before now place w why)

pub returns-in-Err-check_frame-clause-cause : goal.returns-in-Err-check_frame-clause-cause
returns-in-Err-check_frame-clause-cause g c = refused_reading Bool code_kind _ _ c.in-Err-check_frame.fault (refusal-kind _ _ _ _ _ _ c.in-Err-check_frame.ensures.answer) c.in-Ok-true.ensures.cause
