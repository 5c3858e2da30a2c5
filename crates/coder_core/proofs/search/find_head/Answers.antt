use Rattle.std.proofs.Common.{◌≡◌, ℕ, Bool, true, false, List, Ok, ◌+◌, ◌*◌, ◌<◌, ◌∙◌, Some, Option, [], ◌∷◌, length, drop, refl, sym, ap, subst, arith, length-drop, drop-drop}
use Rattle.edge_io.specs.declared.shelf.Seat.TheVariants as seats
use Rattle.edge_io.specs.Reading.{EndsAnswer}
use Rattle.edge_io.proofs.FrameAnswers.{refused_reading}
use Rattle.coder_core.specs.Answers.{code_kind}
use Rattle.coder_core.proofs.Searching.{begin, Came, came, nothing_first, nothing_more, refused, refused_far, next, found, read_stopped, search_refused, packet_answer}
use Rattle.coder_core.proofs.search.find_head.Goals as goal

pub loop-number-init : goal.loop-number-init
loop-number-init g c = record { is_open = c.requires.is_open; still_open = refl; kept = refl; told = λ input told. begin input _ told }

pub returns-in-Err-clause-answer : goal.returns-in-Err-clause-answer
returns-in-Err-clause-answer g c = λ input told.
    let so_far = c.loop-number.invariant.told input told in
    let size : length c.fill_behind.new.buf ≡ 204 = omega (arith, c.fill_behind.auto.buf, c.loop-number.auto.packet, c.requires.size) in
    read_stopped input c.loop-number.number c.fill_behind.new.buf _ _ (omega (arith, size)) (omega (arith, size, c.loop-number-test.true)) so_far (c.in-Err.ensures.answer _ so_far.left_is)

pub returns-then-number-eq0-clause-answer : goal.returns-then-number-eq0-clause-answer
returns-then-number-eq0-clause-answer g c = λ input told.
    let so_far = c.loop-number.invariant.told input told in
    let size : length c.fill_behind.new.buf ≡ 204 = omega (arith, c.fill_behind.auto.buf, c.loop-number.auto.packet, c.requires.size) in
    let left' = g.H.Shelf.left c.fill_behind.new.shelf seats.In in
    let now : Came input c.loop-number.number c.in-Ok.count c.fill_behind.new.buf left' = came input c.loop-number.number _ c.fill_behind.new.buf _ _ c.in-Ok.count size so_far (c.in-Ok.ensures.answer _ so_far.left_is) in
    let counted = now.count_is in
    let P : ℕ → Type 0 = λ n. Came input c.loop-number.number n c.fill_behind.new.buf left' in
    let none : Came input c.loop-number.number 0 c.fill_behind.new.buf left' = subst P c.if-count-eq0.true now in
    nothing_first input c.loop-number.number _ _ c.fill_behind.new.buf c.if-number-eq0.true so_far none

pub returns-else-number-eq0-clause-answer : goal.returns-else-number-eq0-clause-answer
returns-else-number-eq0-clause-answer g c = λ input told.
    let so_far = c.loop-number.invariant.told input told in
    let size : length c.fill_behind.new.buf ≡ 204 = omega (arith, c.fill_behind.auto.buf, c.loop-number.auto.packet, c.requires.size) in
    let left' = g.H.Shelf.left c.fill_behind.new.shelf seats.In in
    let now : Came input c.loop-number.number c.in-Ok.count c.fill_behind.new.buf left' = came input c.loop-number.number _ c.fill_behind.new.buf _ _ c.in-Ok.count size so_far (c.in-Ok.ensures.answer _ so_far.left_is) in
    let counted = now.count_is in
    let why = nothing_more input c.loop-number.number _ (omega (arith, c.if-number-eq0.false)) (omega (arith, counted, c.if-count-eq0.true)) so_far in
    search_refused input c.loop-number.number c.in-Ok.count _ _ left' so_far (omega (arith, counted)) (omega (arith, counted, c.loop-number-test.true)) now.left_is why

pub returns-in-Some-clause-answer : goal.returns-in-Some-clause-answer
returns-in-Some-clause-answer g c = λ input told.
    let so_far = c.loop-number.invariant.told input told in
    let size : length c.fill_behind.new.buf ≡ 204 = omega (arith, c.fill_behind.auto.buf, c.loop-number.auto.packet, c.requires.size) in
    let left' = g.H.Shelf.left c.fill_behind.new.shelf seats.In in
    let now : Came input c.loop-number.number c.in-Ok.count c.fill_behind.new.buf left' = came input c.loop-number.number _ c.fill_behind.new.buf _ _ c.in-Ok.count size so_far (c.in-Ok.ensures.answer _ so_far.left_is) in
    let counted = now.count_is in
    let some : 0 < c.in-Ok.count = omega (arith, c.if-count-eq0.false) in
    let why = c.in-Some.ensures.refusal input c.loop-number-test.true some counted now.front in
    packet_answer input c.fill_behind.new.buf left' c.in-Some.fault c.in-Some.ensures.kind
    (search_refused input c.loop-number.number c.in-Ok.count _ _ left' so_far (omega (arith, counted)) (omega (arith, counted, c.loop-number-test.true)) now.left_is (refused input c.loop-number.number _ c.in-Some.fault (omega (arith, counted, some)) so_far why))

pub returns-in-Some-clause-cause : goal.returns-in-Some-clause-cause
returns-in-Some-clause-cause g c = refused_reading (Option ℕ) code_kind _ _ c.in-Some.fault c.in-Some.ensures.kind (c.in-Ok.ensures.cause.kept ∙ c.loop-number.invariant.kept)

pub returns-then-bears_head-clause-answer : goal.returns-then-bears_head-clause-answer
returns-then-bears_head-clause-answer g c = λ input told.
    let so_far = c.loop-number.invariant.told input told in
    let size : length c.fill_behind.new.buf ≡ 204 = omega (arith, c.fill_behind.auto.buf, c.loop-number.auto.packet, c.requires.size) in
    let left' = g.H.Shelf.left c.fill_behind.new.shelf seats.In in
    let now : Came input c.loop-number.number c.in-Ok.count c.fill_behind.new.buf left' = came input c.loop-number.number _ c.fill_behind.new.buf _ _ c.in-Ok.count size so_far (c.in-Ok.ensures.answer _ so_far.left_is) in
    let counted = now.count_is in
    let some : 0 < c.in-Ok.count = omega (arith, c.if-count-eq0.false) in
    let why = c.in-None.ensures.refusal input c.loop-number-test.true some counted now.front in
    found input c.loop-number.number c.in-Ok.count c.fill_behind.new.buf _ _ size so_far now (sym why) (sym c.bears_head.ensures ∙ c.if-bears_head.true)

pub loop-number-preserved : goal.loop-number-preserved
loop-number-preserved g c = record {
  is_open = ap (λ f. f seats.In) c.fill_behind.ensures.still_open ∙ c.loop-number.invariant.is_open;
  still_open = c.fill_behind.ensures.still_open ∙ c.loop-number.invariant.still_open;
  kept = c.in-Ok.ensures.cause.kept ∙ c.loop-number.invariant.kept;
  told = λ input told. (
      let so_far = c.loop-number.invariant.told input told in
      let size : length c.fill_behind.new.buf ≡ 204 = omega (arith, c.fill_behind.auto.buf, c.loop-number.auto.packet, c.requires.size) in
      let left' = g.H.Shelf.left c.fill_behind.new.shelf seats.In in
      let now : Came input c.loop-number.number c.in-Ok.count c.fill_behind.new.buf left' = came input c.loop-number.number _ c.fill_behind.new.buf _ _ c.in-Ok.count size so_far (c.in-Ok.ensures.answer _ so_far.left_is) in
      let counted = now.count_is in
      let some : 0 < c.in-Ok.count = omega (arith, c.if-count-eq0.false) in
      let why = c.in-None.ensures.refusal input c.loop-number-test.true some counted now.front in
      next input c.loop-number.number c.in-Ok.count c.fill_behind.new.buf _ _ size so_far now (sym why) (sym c.bears_head.ensures ∙ c.if-bears_head.false));
}

pub returns-in-Ok-true-clause-answer : goal.returns-in-Ok-true-clause-answer
returns-in-Ok-true-clause-answer g c = λ input told.
    let so_far = c.loop-number.invariant.told input told in
    let P : Bool → Type 0 = λ b. EndsAnswer (drop (204 * c.loop-number.number) input) (g.H.Shelf.left c.ends.new.shelf seats.In) (Ok b) in
    let ended : P true = subst P c.in-Ok-true.field-0-test (c.in-Ok-true.ensures.answer _ so_far.left_is) in
    let last : c.loop-number.number ≡ 65536 = omega (arith, c.loop-number-test.false, c.loop-number.auto.number-end) in
    let rest = length-drop (204 * c.loop-number.number) input in
    let none : length (drop (204 * c.loop-number.number) input) ≡ 0 = ap length ended.0 in
    let why = nothing_more input c.loop-number.number _ (omega (arith, last)) (omega (arith, none, rest)) so_far in
    search_refused input c.loop-number.number 0 _ _ _ so_far (omega arith) (omega (arith, last)) (ended.1 ∙ ap Some (sym ended.0) ∙ ap (λ m. Some (drop m input)) (let e : 204 * c.loop-number.number ≡ 204 * c.loop-number.number + 0 = omega arith in e)) why

pub returns-in-Ok-false-clause-answer : goal.returns-in-Ok-false-clause-answer
returns-in-Ok-false-clause-answer g c = λ input told.
    let so_far = c.loop-number.invariant.told input told in
    let P : Bool → Type 0 = λ b. EndsAnswer (drop (204 * c.loop-number.number) input) (g.H.Shelf.left c.ends.new.shelf seats.In) (Ok b) in
    let more : P false = subst P c.in-Ok-false.field-0-test (c.in-Ok-false.ensures.answer _ so_far.left_is) in
    let some = more.0 in
    let last : c.loop-number.number ≡ 65536 = omega (arith, c.loop-number-test.false, c.loop-number.auto.number-end) in
    let rest = length-drop (204 * c.loop-number.number) input in
    let why = refused_far input c.loop-number.number _ last (omega (arith, some, rest)) so_far in
    search_refused input c.loop-number.number 1 _ _ _ so_far (omega arith) (omega (arith, last)) (more.1 ∙ ap Some (drop-drop 1 (204 * c.loop-number.number) input)) why

pub returns-in-Err-ends-clause-answer : goal.returns-in-Err-ends-clause-answer
returns-in-Err-ends-clause-answer g c = λ input told.
    let so_far = c.loop-number.invariant.told input told in
    let last : c.loop-number.number ≡ 65536 = omega (arith, c.loop-number-test.false, c.loop-number.auto.number-end) in
    let byte : List ℕ = 0 ∷ [] in
    let one : length byte ≡ 1 = refl in
    read_stopped input c.loop-number.number byte _ _ (omega (arith, one)) (omega (arith, one, last)) so_far
    (record { taken = 0; below = omega (arith, one); within = omega arith; left_is = c.in-Err-ends.ensures.answer _ so_far.left_is })
