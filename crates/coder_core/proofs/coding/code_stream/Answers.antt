use Rattle.std.proofs.Common.{◌≡◌, ℕ, List, Ok, Some, None, Option, ◌++◌, length, take, drop, vec_len, sym, ap, ◌∙◌, subst, arith}
use Rattle.std.proofs.lemmas.List.{take_at}
use Rattle.edge_io.specs.declared.shelf.Seat.TheVariants as seats
use Rattle.coder_core.specs.Answers.{coding, SearchAnswer}
use Rattle.coder_core.proofs.FrameStarts.{slots-some}
use Rattle.coder_core.proofs.FrameRoom.{frame_fits}
use Rattle.coder_core.proofs.SearchEnds.{empty_input, search_ended}
use Rattle.coder_core.proofs.coding.code_stream.Goals as goal

pub returns-in-Ok-None-clause-answer : goal.returns-in-Ok-None-clause-answer
returns-in-Ok-None-clause-answer g c = λ input told.
    let P : Option ℕ → Type 0 = λ o. SearchAnswer input c.find_head.new.packet (g.H.Shelf.left c.find_head.new.shelf seats.In) (Ok o) in
    let none : P None = subst P c.in-Ok-None.field-0-is (c.in-Ok-None.ensures.answer input told) in
    empty_input (coding c.args.sending.how c.args.sending.plan.now) input _ _ _ none.0 none.1

pub returns-in-Err-clause-answer : goal.returns-in-Err-clause-answer
returns-in-Err-clause-answer g c = λ input told.
    search_ended (coding c.args.sending.how c.args.sending.plan.now) input _ _ _ c.find_head.new.packet c.in-Err.fault (slots-some c.args.sending.plan.now 0) c.requires.some (c.in-Err.ensures.answer input told)

pub put-requires : goal.put-requires
put-requires g c =
    let fits = frame_fits c.args.sending.plan.now 0 c.args.buffers.now c.requires.has_room in
    let some = slots-some c.args.sending.plan.now 0 in
    let size : length c.find_head.new.packet ≡ 204 = c.find_head.auto.packet in
    omega (arith, fits, some, size, c.deref_mut.ensures.len)

-- what was put into the buffer stands in its front
front : (packet buffer old : List ℕ) (n most : ℕ) → length buffer ≡ most → n ≡ 204 → take n buffer ≡ packet → take 204 (take most (buffer ++ old)) ≡ packet
front packet buffer old n most whole is put = ap (take 204) (take_at buffer old most whole) ∙ ap (λ k. take k buffer) (sym is) ∙ put

pub returns-clause-answer : goal.returns-clause-answer
returns-clause-answer g c = λ input told.
    let left = g.H.Shelf.left c.find_head.new.shelf seats.In in
    let packet = c.find_head.new.packet in
    let buffer = c.put.new.out in
    let old = c.args.buffers.now.frame in
    let P : Option ℕ → Type 0 = λ o. SearchAnswer input packet left (Ok o) in
    let found : P (Some c.in-Ok-Some.head) = subst P c.in-Ok-Some.field-0-is (c.in-Ok-Some.ensures.answer input told) in
    let size : length packet ≡ 204 = c.find_head.auto.packet in
    let len : length buffer ≡ vec_len old = c.put.auto.out ∙ c.deref_mut.ensures.len in
    let end : c.put.result ≡ 204 = omega (arith, c.put.ensures.end, size) in
    let items : take c.put.result buffer ≡ packet = c.put.ensures.items in
    let held = front packet buffer (drop (length buffer) old.items) c.put.result (vec_len old) len end items in
    let Q : List ℕ → Type 0 = λ xs. SearchAnswer input xs left (Ok (Some c.in-Ok-Some.head)) in
    c.code_frames.ensures.answer input (subst Q (sym held) found)
