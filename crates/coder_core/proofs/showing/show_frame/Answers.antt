use Rattle.std.proofs.Common.{◌≡◌, ℕ, ◌+◌, ◌*◌, Bool, true, List, Some, Ok, length, ap, sym, ◌∙◌, subst}
use Rattle.edge_io.specs.declared.shelf.Seat.TheVariants as seats
use Rattle.edge_io.proofs.FrameAnswers.{refused_answer}
use Rattle.setting_words.specs.declared.lines.BtsLine.{BtsLine}
use Rattle.setting_words.specs.Lines.{bts_line}
use Rattle.coder_core.specs.InputFrames.{first_head, packets_before, frame_at}
use Rattle.coder_core.specs.ShownFrames.{shown, shown_frame}
use Rattle.coder_core.specs.Answers.{code_kind}
use Rattle.coder_core.specs.FrameSteps.{command_of, Whole, StepAnswer, showing_run}
use Rattle.coder_core.proofs.FrameStarts.{packets_before-same}
use Rattle.coder_core.proofs.FoundHead.{shown-found}
use Rattle.coder_core.proofs.CodeProgress.{frame_refused, taken, next, wrote_all, wrote_some, write_failed}
use Rattle.coder_core.proofs.RefusalKinds.{framing-kind}
use Rattle.coder_core.proofs.showing.show_frame.Goals as goal

-- the packets before a frame
packets-before : (slots f head first : ℕ) → first ≡ head + slots * f → first ≡ head + packets_before (λ _. slots) f
packets-before slots f head first place = place ∙ ap (λ n. head + n) (sym (packets_before-same slots f))

-- bytes that are the line of what a frame shows are what is written of it
line_of : (slots : ℕ) (input : List ℕ) (head f : ℕ) (frame bytes text : List ℕ) (line : BtsLine) → bytes ≡ text → text ≡ bts_line line → line ≡ shown f frame → frame ≡ frame_at (λ g. slots) input head f → first_head input ≡ Some head
    → bytes ≡ shown_frame slots input f
line_of slots input head f frame bytes text line same is shows here found = same ∙ is ∙ ap bts_line shows ∙ ap (λ xs. bts_line (shown f xs)) here ∙ sym (shown-found slots input head f found)

pub returns-in-Ok-false-clause-answer : goal.returns-in-Ok-false-clause-answer
returns-in-Ok-false-clause-answer g c = λ input limit head before less place so_far.
    let r = showing_run c.args.slots input limit head in
    let f = c.args.place.number in
    let frame = c.read_frame.new.frame in
    let left' = g.H.Shelf.left c.read_frame.new.shelf seats.In in
    let now = g.K.Sink.written c.args.sink.now in
    let size : length frame ≡ 204 * c.args.slots = c.read_frame.auto.frame ∙ c.requires.size in
    let P : Bool → Type 0 = λ b. StepAnswer r f (Whole r f frame left' before now) left' before now (Ok b) in
    subst P c.in-Ok-false.field-0-test (c.in-Ok-false.ensures.answer r f before now less (λ _. c.requires.some) size so_far)

pub returns-in-Err-clause-answer : goal.returns-in-Err-clause-answer
returns-in-Err-clause-answer g c = λ input limit head before less place so_far.
    let r = showing_run c.args.slots input limit head in
    let f = c.args.place.number in
    let frame = c.read_frame.new.frame in
    let left' = g.H.Shelf.left c.read_frame.new.shelf seats.In in
    let now = g.K.Sink.written c.args.sink.now in
    let size : length frame ≡ 204 * c.args.slots = c.read_frame.auto.frame ∙ c.requires.size in
    c.in-Err.ensures.answer r f before now less (λ _. c.requires.some) size so_far

pub returns-in-Some-clause-answer : goal.returns-in-Some-clause-answer
returns-in-Some-clause-answer g c = λ input limit head before less place so_far.
    let r = showing_run c.args.slots input limit head in
    let f = c.args.place.number in
    let frame = c.read_frame.new.frame in
    let left' = g.H.Shelf.left c.read_frame.new.shelf seats.In in
    let now = g.K.Sink.written c.args.sink.now in
    let size : length frame ≡ 204 * c.args.slots = c.read_frame.auto.frame ∙ c.requires.size in
    let P : Bool → Type 0 = λ b. StepAnswer r f (Whole r f frame left' before now) left' before now (Ok b) in
    let w : P true = subst P c.in-Ok-true.field-0-test (c.in-Ok-true.ensures.answer r f before now less (λ _. c.requires.some) size so_far) in
    let place' : c.args.place.first_packet ≡ head + packets_before (λ _. c.args.slots) f = packets-before c.args.slots f head c.args.place.first_packet place in
    let why = sym c.framing_fault.ensures ∙ c.in-Some.is in
    refused_answer code_kind (command_of r) before now left' c.in-Some.fault (framing-kind f c.args.place.first_packet frame c.in-Some.fault why) (frame_refused r f c.args.place.first_packet c.in-Some.fault frame left' before now place' w why)

pub returns-in-Ok-clause-answer : goal.returns-in-Ok-clause-answer
returns-in-Ok-clause-answer g c = λ input limit head before less place so_far.
    let r = showing_run c.args.slots input limit head in
    let f = c.args.place.number in
    let frame = c.read_frame.new.frame in
    let left' = g.H.Shelf.left c.read_frame.new.shelf seats.In in
    let now = g.K.Sink.written c.args.sink.now in
    let size : length frame ≡ 204 * c.args.slots = c.read_frame.auto.frame ∙ c.requires.size in
    let P : Bool → Type 0 = λ b. StepAnswer r f (Whole r f frame left' before now) left' before now (Ok b) in
    let w : P true = subst P c.in-Ok-true.field-0-test (c.in-Ok-true.ensures.answer r f before now less (λ _. c.requires.some) size so_far) in
    let place' : c.args.place.first_packet ≡ head + packets_before (λ _. c.args.slots) f = packets-before c.args.slots f head c.args.place.first_packet place in
    let t = taken r f c.args.place.first_packet frame left' before now place' w (sym c.framing_fault.ensures ∙ c.in-None.is) in
    let line : c.as_bytes.result.now ≡ shown_frame c.args.slots input f =
    line_of c.args.slots input head f frame _ _ _ (c.as_bytes.ensures.value ∙ c.as_str.ensures.value) c.bts_line-line.ensures c.shown.ensures w.frame_is w.found in
    let after = g.K.Sink.written c.write_whole.new.sink in
    next r f frame frame left' before now after t (wrote_all _ (shown_frame c.args.slots input f) now after line c.in-Ok.ensures.ok)

pub returns-in-Err-write_whole-clause-answer : goal.returns-in-Err-write_whole-clause-answer
returns-in-Err-write_whole-clause-answer g c = λ input limit head before less place so_far.
    let r = showing_run c.args.slots input limit head in
    let f = c.args.place.number in
    let frame = c.read_frame.new.frame in
    let left' = g.H.Shelf.left c.read_frame.new.shelf seats.In in
    let now = g.K.Sink.written c.args.sink.now in
    let size : length frame ≡ 204 * c.args.slots = c.read_frame.auto.frame ∙ c.requires.size in
    let P : Bool → Type 0 = λ b. StepAnswer r f (Whole r f frame left' before now) left' before now (Ok b) in
    let w : P true = subst P c.in-Ok-true.field-0-test (c.in-Ok-true.ensures.answer r f before now less (λ _. c.requires.some) size so_far) in
    let place' : c.args.place.first_packet ≡ head + packets_before (λ _. c.args.slots) f = packets-before c.args.slots f head c.args.place.first_packet place in
    let t = taken r f c.args.place.first_packet frame left' before now place' w (sym c.framing_fault.ensures ∙ c.in-None.is) in
    let line : c.as_bytes.result.now ≡ shown_frame c.args.slots input f =
    line_of c.args.slots input head f frame _ _ _ (c.as_bytes.ensures.value ∙ c.as_str.ensures.value) c.bts_line-line.ensures c.shown.ensures w.frame_is w.found in
    let after = g.K.Sink.written c.write_whole.new.sink in
    let failed = c.in-Err-write_whole.ensures.some in
    let part = wrote_some _ (shown_frame c.args.slots input f) failed.0 now after line failed.1 failed.2 in
    write_failed r f failed.0 frame left' before now after t part.0 part.1
