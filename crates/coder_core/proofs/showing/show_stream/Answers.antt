use Rattle.std.proofs.Common.{◌≡◌, ℕ, ◌*◌, ◌<◌, List, Ok, Some, None, Option, length, take, drop, sym, ◌∙◌, subst, arith}
use Rattle.std.proofs.lemmas.List.{length-take-le, take_at}
use Rattle.edge_io.specs.declared.shelf.Seat.TheVariants as seats
use Rattle.coder_core.specs.Answers.{showing, SearchAnswer}
use Rattle.coder_core.proofs.SearchEnds.{empty_input, search_ended}
use Rattle.coder_core.proofs.showing.show_stream.Goals as goal

-- a frame of some slots has a first packet
first-packet : (frame : List ℕ) (slots : ℕ) → 0 < slots → length frame ≡ 204 * slots → length (take 204 frame) ≡ 204
first-packet frame slots some size = length-take-le 204 frame (omega (arith, some, size))

pub slice_bounds-find_head-end-2 : goal.slice_bounds-find_head-end-2
slice_bounds-find_head-end-2 g c = sym (first-packet c.args.frame.now c.args.slots c.requires.slots c.requires.size)

pub find_head-requires-clause-size : goal.find_head-requires-clause-size
find_head-requires-clause-size g c = first-packet c.args.frame.now c.args.slots c.requires.slots c.requires.size

pub returns-in-Ok-None-clause-answer : goal.returns-in-Ok-None-clause-answer
returns-in-Ok-None-clause-answer g c = λ input told.
    let P : Option ℕ → Type 0 = λ o. SearchAnswer input c.find_head.new.packet (g.H.Shelf.left c.find_head.new.shelf seats.In) (Ok o) in
    let none : P None = subst P c.in-Ok-None.field-0-is (c.in-Ok-None.ensures.answer input told) in
    empty_input (showing c.args.slots) input _ _ _ none.0 none.1

pub returns-in-Err-clause-answer : goal.returns-in-Err-clause-answer
returns-in-Err-clause-answer g c = λ input told.
    search_ended (showing c.args.slots) input _ _ _ c.find_head.new.packet c.in-Err.fault c.requires.slots c.requires.some (c.in-Err.ensures.answer input told)

pub returns-clause-answer : goal.returns-clause-answer
returns-clause-answer g c = λ input told.
    let left = g.H.Shelf.left c.find_head.new.shelf seats.In in
    let packet = c.find_head.new.packet in
    let P : Option ℕ → Type 0 = λ o. SearchAnswer input packet left (Ok o) in
    let found : P (Some c.in-Ok-Some.head) = subst P c.in-Ok-Some.field-0-is (c.in-Ok-Some.ensures.answer input told) in
    let size : length packet ≡ 204 = c.find_head.auto.packet ∙ first-packet c.args.frame.now c.args.slots c.requires.slots c.requires.size in
    let held = take_at packet (drop 204 c.args.frame.now) 204 size in
    let Q : List ℕ → Type 0 = λ xs. SearchAnswer input xs left (Ok (Some c.in-Ok-Some.head)) in
    c.show_frames.ensures.answer input (subst Q (sym held) found)
