use Rattle.std.proofs.Common.{◌≡◌, ℕ, List, Bool, ◌+◌, ◌-◌, ◌*◌, true, ◌++◌, length, take, drop, vec_len, Ok, sym, ap, subst, ◌∙◌, arith, inr}
use Rattle.std.proofs.lemmas.List.{length-take-le, take_at}
use Rattle.isdbt_base.specs.Numbers.{slots_per_frame}
use Rattle.isdbt_base.specs.Plans.{at_frame}
use Rattle.edge_io.specs.declared.shelf.Seat.TheVariants as seats
use Rattle.coder_core.specs.FrameChecks.{CanCode}
use Rattle.coder_core.specs.InputFrames.{slots_at, input_frames}
use Rattle.coder_core.specs.CodeRefusals.{coded_frame}
use Rattle.coder_core.specs.Coder.{mode_of, guard_of, setting_of, IsFrameOf}
use Rattle.coder_core.specs.FrameSteps.{Progress, Taken, StepAnswer, coding_run}
use Rattle.coder_core.proofs.FrameRoom.{frame_fits, cells_fit}
use Rattle.coder_core.proofs.CodeProgress.{wrote_all, wrote_some, wants_memory, write_failed}
use Rattle.coder_core.proofs.EpochSteps.{of_next, is_frame, cells_are, coded}
use Rattle.coder_core.proofs.frames.code_frame.Goals as goal

-- what was read into the buffer stands in its front
front-kept : (size most : ℕ) (buffer old : List ℕ) → length buffer ≡ most → take size (take most (buffer ++ old)) ≡ take size buffer
front-kept size most buffer old whole = ap (take size) (take_at buffer old most whole)

pub take_frame-requires-clause-room : goal.take_frame-requires-clause-room
take_frame-requires-clause-room g c =
    let fits = frame_fits c.args.sending.plan.now c.args.place.number c.args.buffers.now c.requires.room in
    omega (arith, fits, c.deref_mut.ensures.len)

pub returns-in-Ok-false-clause-kept : goal.returns-in-Ok-false-clause-kept
returns-in-Ok-false-clause-kept g c = record { frame = c.requires.room.frame; cells = c.requires.room.cells }

pub returns-in-Err-clause-kept : goal.returns-in-Err-clause-kept
returns-in-Err-clause-kept g c = record { frame = c.requires.room.frame; cells = c.requires.room.cells }

pub returns-in-Err-turn_to-clause-kept : goal.returns-in-Err-turn_to-clause-kept
returns-in-Err-turn_to-clause-kept g c = record { frame = c.requires.room.frame; cells = c.requires.room.cells }

pub returns-in-Ok-write_cells-clause-kept : goal.returns-in-Ok-write_cells-clause-kept
returns-in-Ok-write_cells-clause-kept g c = record { frame = c.requires.room.frame; cells = c.requires.room.cells }

pub returns-in-Err-write_cells-clause-kept : goal.returns-in-Err-write_cells-clause-kept
returns-in-Err-write_cells-clause-kept g c = record { frame = c.requires.room.frame; cells = c.requires.room.cells }

pub returns-in-Ok-false-clause-answer : goal.returns-in-Ok-false-clause-answer
returns-in-Ok-false-clause-answer g c = λ input limit head first less place at.
    let how = c.args.sending.how in
    let p = c.args.sending.plan.now in
    let f = c.args.place.number in
    let now = g.K.Sink.written c.args.sink.now in
    let r = coding_run how p input limit head in
    let P : List ℕ → Type 0 = λ xs. Progress r f c.args.place.held xs (g.H.Shelf.left c.args.shelf.now seats.In) first now in
    let so_far : P c.deref_mut.result.now = subst P (sym c.deref_mut.ensures.value) at.so_far in
    let frame = take (204 * slots_at p f) c.take_frame.new.buffer in
    let left' = g.H.Shelf.left c.take_frame.new.shelf seats.In in
    let Q : Bool → Type 0 = λ b. StepAnswer r f (Taken r f frame left' first now) left' first now (Ok b) in
    subst Q c.in-Ok-false.field-0-test (c.in-Ok-false.ensures.answer how input limit head first now less place so_far)

pub returns-in-Err-clause-answer : goal.returns-in-Err-clause-answer
returns-in-Err-clause-answer g c = λ input limit head first less place at.
    let how = c.args.sending.how in
    let p = c.args.sending.plan.now in
    let f = c.args.place.number in
    let now = g.K.Sink.written c.args.sink.now in
    let r = coding_run how p input limit head in
    let P : List ℕ → Type 0 = λ xs. Progress r f c.args.place.held xs (g.H.Shelf.left c.args.shelf.now seats.In) first now in
    let so_far : P c.deref_mut.result.now = subst P (sym c.deref_mut.ensures.value) at.so_far in
    c.in-Err.ensures.answer how input limit head first now less place so_far

pub returns-in-Err-turn_to-clause-answer : goal.returns-in-Err-turn_to-clause-answer
returns-in-Err-turn_to-clause-answer g c = λ input limit head first less place at.
    let how = c.args.sending.how in
    let p = c.args.sending.plan.now in
    let f = c.args.place.number in
    let now = g.K.Sink.written c.args.sink.now in
    let r = coding_run how p input limit head in
    let P : List ℕ → Type 0 = λ xs. Progress r f c.args.place.held xs (g.H.Shelf.left c.args.shelf.now seats.In) first now in
    let so_far : P c.deref_mut.result.now = subst P (sym c.deref_mut.ensures.value) at.so_far in
    let frame = take (204 * slots_at p f) c.take_frame.new.buffer in
    let left' = g.H.Shelf.left c.take_frame.new.shelf seats.In in
    let Q : Bool → Type 0 = λ b. StepAnswer r f (Taken r f frame left' first now) left' first now (Ok b) in
    let taken : Q true = subst Q c.in-Ok-true.field-0-test (c.in-Ok-true.ensures.answer how input limit head first now less place so_far) in
    inr (wants_memory r f frame left' first now c.in-Err-turn_to.ensures.opens taken)

pub slice_bounds-frame-end : goal.slice_bounds-frame-end
slice_bounds-frame-end g c =
    let room = frame_fits c.args.sending.plan.now c.args.place.number c.args.buffers.now c.requires.room in
    let len : length c.deref.result.now ≡ vec_len c.args.buffers.now.frame = c.deref.ensures.len in
    sym (length-take-le (204 * c.slots_at.result) c.deref.result.now (omega (arith, room, len, c.slots_at.ensures.value)))

pub write_cells-requires-clause-size : goal.write_cells-requires-clause-size
write_cells-requires-clause-size g c =
    let how = c.args.sending.how in
    let p = c.args.sending.plan.now in
    let f = c.args.place.number in
    let c' = c.turn_to.new.coder in
    let of = c.in-Ok.ensures.of_frame in
    let room = frame_fits p f c.args.buffers.now c.requires.room in
    let len : length c.deref.result.now ≡ vec_len c.args.buffers.now.frame = c.deref.ensures.len in
    let slots : slots_per_frame (mode_of c') (guard_of c') ≡ slots_at p f = ap (λ m. slots_per_frame m (guard_of c')) of.mode ∙ ap (λ i. slots_per_frame (at_frame p f).mode i) of.guard in
    length-take-le (204 * c.slots_at.result) c.deref.result.now (omega (arith, room, len, c.slots_at.ensures.value)) ∙ ap (λ n. 204 * n) (c.slots_at.ensures.value ∙ sym slots)

pub write_cells-requires-clause-codable : goal.write_cells-requires-clause-codable
write_cells-requires-clause-codable g c =
    let how = c.args.sending.how in
    let p = c.args.sending.plan.now in
    let f = c.args.place.number in
    let buffer = c.take_frame.new.buffer in
    let most = vec_len c.args.buffers.now.frame in
    let len : length buffer ≡ most = c.take_frame.auto.buffer ∙ c.deref_mut.ensures.len in
    let held : take (204 * c.slots_at.result) c.deref.result.now ≡ take (204 * slots_at p f) buffer =
    ap (take (204 * c.slots_at.result)) c.deref.ensures.value ∙ front-kept (204 * c.slots_at.result) most buffer (drop (length buffer) c.args.buffers.now.frame.items) len ∙ ap (λ n. take (204 * n) buffer) c.slots_at.ensures.value in
    let c' = c.turn_to.new.coder in
    let of = c.in-Ok.ensures.of_frame in
    let frame = take (204 * slots_at p f) buffer in
    let can = c.in-Ok-true.ensures.codable c.in-Ok-true.field-0-test in
    let by_mode = subst (λ m. CanCode (at_frame p f).setting m frame) (sym of.mode) can in
    let by_setting = subst (λ s. CanCode s (mode_of c') frame) (sym of.setting) by_mode in
    subst (λ (xs : List ℕ). CanCode (setting_of c') (mode_of c') xs) (sym held) by_setting

pub write_cells-requires-clause-room : goal.write_cells-requires-clause-room
write_cells-requires-clause-room g c =
    let how = c.args.sending.how in
    let p = c.args.sending.plan.now in
    let f = c.args.place.number in
    let room = cells_fit p f c.args.buffers.now c.requires.room in
    omega (arith, room, c.deref_mut-2.ensures.len)

pub returns-in-Ok-write_cells-clause-next_coder : goal.returns-in-Ok-write_cells-clause-next_coder
returns-in-Ok-write_cells-clause-next_coder g c = λ _ same.
    let w = c.in-Ok-write_cells.ensures in
    of_next c.turn_to.new.coder c.write_cells.new.coder c.args.sending.plan.now c.args.place.number c.acceptance_law.ensures w.mode_kept w.guard w.setting c.in-Ok.ensures.of_frame same

pub returns-in-Ok-write_cells-clause-answer : goal.returns-in-Ok-write_cells-clause-answer
returns-in-Ok-write_cells-clause-answer g c = λ input limit head first less place at.
    let how = c.args.sending.how in
    let p = c.args.sending.plan.now in
    let f = c.args.place.number in
    let now = g.K.Sink.written c.args.sink.now in
    let r = coding_run how p input limit head in
    let P : List ℕ → Type 0 = λ xs. Progress r f c.args.place.held xs (g.H.Shelf.left c.args.shelf.now seats.In) first now in
    let so_far : P c.deref_mut.result.now = subst P (sym c.deref_mut.ensures.value) at.so_far in
    let frame = take (204 * slots_at p f) c.take_frame.new.buffer in
    let left' = g.H.Shelf.left c.take_frame.new.shelf seats.In in
    let Q : Bool → Type 0 = λ b. StepAnswer r f (Taken r f frame left' first now) left' first now (Ok b) in
    let taken : Q true = subst Q c.in-Ok-true.field-0-test (c.in-Ok-true.ensures.answer how input limit head first now less place so_far) in
    let buffer = c.take_frame.new.buffer in
    let most = vec_len c.args.buffers.now.frame in
    let len : length buffer ≡ most = c.take_frame.auto.buffer ∙ c.deref_mut.ensures.len in
    let held : take (204 * c.slots_at.result) c.deref.result.now ≡ take (204 * slots_at p f) buffer =
    ap (take (204 * c.slots_at.result)) c.deref.ensures.value ∙ front-kept (204 * c.slots_at.result) most buffer (drop (length buffer) c.args.buffers.now.frame.items) len ∙ ap (λ n. take (204 * n) buffer) c.slots_at.ensures.value in
    let c' = c.turn_to.new.coder in
    let of = c.in-Ok.ensures.of_frame in
    let after = g.K.Sink.written c.write_cells.new.sink in
    let frames = input_frames p input head in
    let start = (at_frame p f).start in
    let stands = c.in-Ok.ensures.stands frames at.stands in
    let is = subst (λ (xs : List ℕ). IsFrameOf (setting_of c') (mode_of c') xs frames (start + (f - start))) (sym held) (is_frame how p input limit head f frame left' first now (setting_of c') (mode_of c') taken) in
    let cells = cells_are c' how p input head f taken.whole.found of in
    let wrote = wrote_all _ (coded_frame how p input f) now after cells (c.in-Ok-write_cells.ensures.ok frames start (f - start) stands is) in
    coded how p input limit head f c.write_cells.new.coder frame _ left' first now after c.acceptance_law.ensures taken wrote (c.in-Ok-write_cells.ensures.state frames start (f - start) stands is)

pub returns-in-Err-write_cells-clause-answer : goal.returns-in-Err-write_cells-clause-answer
returns-in-Err-write_cells-clause-answer g c = λ input limit head first less place at.
    let how = c.args.sending.how in
    let p = c.args.sending.plan.now in
    let f = c.args.place.number in
    let now = g.K.Sink.written c.args.sink.now in
    let r = coding_run how p input limit head in
    let P : List ℕ → Type 0 = λ xs. Progress r f c.args.place.held xs (g.H.Shelf.left c.args.shelf.now seats.In) first now in
    let so_far : P c.deref_mut.result.now = subst P (sym c.deref_mut.ensures.value) at.so_far in
    let frame = take (204 * slots_at p f) c.take_frame.new.buffer in
    let left' = g.H.Shelf.left c.take_frame.new.shelf seats.In in
    let Q : Bool → Type 0 = λ b. StepAnswer r f (Taken r f frame left' first now) left' first now (Ok b) in
    let taken : Q true = subst Q c.in-Ok-true.field-0-test (c.in-Ok-true.ensures.answer how input limit head first now less place so_far) in
    let buffer = c.take_frame.new.buffer in
    let most = vec_len c.args.buffers.now.frame in
    let len : length buffer ≡ most = c.take_frame.auto.buffer ∙ c.deref_mut.ensures.len in
    let held : take (204 * c.slots_at.result) c.deref.result.now ≡ take (204 * slots_at p f) buffer =
    ap (take (204 * c.slots_at.result)) c.deref.ensures.value ∙ front-kept (204 * c.slots_at.result) most buffer (drop (length buffer) c.args.buffers.now.frame.items) len ∙ ap (λ n. take (204 * n) buffer) c.slots_at.ensures.value in
    let c' = c.turn_to.new.coder in
    let of = c.in-Ok.ensures.of_frame in
    let after = g.K.Sink.written c.write_cells.new.sink in
    let frames = input_frames p input head in
    let start = (at_frame p f).start in
    let stands = c.in-Ok.ensures.stands frames at.stands in
    let is = subst (λ (xs : List ℕ). IsFrameOf (setting_of c') (mode_of c') xs frames (start + (f - start))) (sym held) (is_frame how p input limit head f frame left' first now (setting_of c') (mode_of c') taken) in
    let cells = cells_are c' how p input head f taken.whole.found of in
    let failed = c.in-Err-write_cells.ensures.some frames start (f - start) stands is in
    let part = wrote_some _ (coded_frame how p input f) failed.0 now after cells failed.1 failed.2 in
    write_failed r f failed.0 frame left' first now after taken part.0 part.1
