use Rattle.std.proofs.Common.{◌∙◌, ap, subst, ℕ}
use Rattle.isdbt_base.specs.declared.kinds.Layer.TheVariants.{A, B, C}
use Rattle.edge_io.specs.declared.shelf.Seat.TheVariants as seats
use Rattle.remux_core.specs.Multiplex.{filled}
use Rattle.remux_core.proofs.Readings.{StepAt, at_seat, StopAt, stop_at, all_read, stopped_a, stopped_b, stopped_c}
use Rattle.remux_core.proofs.inputs.Inputs.read.Goals as goal

pub read-requires-clause-is_open : goal.read-requires-clause-is_open
read-requires-clause-is_open g c = λ goes. ap (g.H.Shelf.is_open c.args.shelf.now) c.requires.seats.a ∙ c.requires.is_open A goes

pub read-requires-clause-fits : goal.read-requires-clause-fits
read-requires-clause-fits g c = c.requires.fits A

pub read-requires-clause-few : goal.read-requires-clause-few
read-requires-clause-few g c = c.requires.few A

pub read-requires-2-clause-is_open : goal.read-requires-2-clause-is_open
read-requires-2-clause-is_open g c = λ goes. ap (g.H.Shelf.is_open c.read.new.shelf) c.requires.seats.b ∙ ap (λ f. f seats.B) c.in-Ok.ensures.still_open ∙ c.requires.is_open B goes

pub read-requires-2-clause-fits : goal.read-requires-2-clause-fits
read-requires-2-clause-fits g c = c.requires.fits B

pub read-requires-2-clause-few : goal.read-requires-2-clause-few
read-requires-2-clause-few g c = c.requires.few B

pub read-requires-3-clause-is_open : goal.read-requires-3-clause-is_open
read-requires-3-clause-is_open g c = λ goes. ap (g.H.Shelf.is_open c.read-2.new.shelf) c.requires.seats.c ∙ ap (λ f. f seats.C) c.in-Ok-read.ensures.still_open ∙ ap (λ f. f seats.C) c.in-Ok.ensures.still_open ∙ c.requires.is_open C goes

pub read-requires-3-clause-fits : goal.read-requires-3-clause-fits
read-requires-3-clause-fits g c = c.requires.fits C

pub read-requires-3-clause-few : goal.read-requires-3-clause-few
read-requires-3-clause-few g c = c.requires.few C

pub returns-in-Err-clause-answer : goal.returns-in-Err-clause-answer
returns-in-Err-clause-answer g c = λ p input f fills ready.
    let l0 = g.H.Shelf.left c.args.shelf.now in
    let l1 = g.H.Shelf.left c.read.new.shelf in
    let i = c.args.self.now in
    let stop : StopAt seats.A (filled p A f) i.a l0 l1 =
    subst (λ (n : ℕ). StopAt seats.A n i.a l0 l1) (fills A) (stop_at seats.A c.args.wanted.now.a i.a l0 l1 c.requires.seats.a c.in-Err.ensures.never c.in-Err.ensures.some c.in-Err.ensures.other_left) in
    stopped_a p input f i l0 l1 stop ready

pub returns-in-Err-read-clause-answer : goal.returns-in-Err-read-clause-answer
returns-in-Err-read-clause-answer g c = λ p input f fills ready.
    let l0 = g.H.Shelf.left c.args.shelf.now in
    let l1 = g.H.Shelf.left c.read.new.shelf in
    let l2 = g.H.Shelf.left c.read-2.new.shelf in
    let i = c.args.self.now in
    let a = c.read.new.self in
    let step_a : StepAt seats.A (filled p A f) i.a a l0 l1 =
    subst (λ (n : ℕ). StepAt seats.A n i.a a l0 l1) (fills A) (at_seat seats.A c.args.wanted.now.a i.a a l0 l1 c.requires.seats.a
    (record { nothing = c.in-Ok.ensures.nothing; ended = c.in-Ok.ensures.ended; goes_on = c.in-Ok.ensures.goes_on; count = c.in-Ok.ensures.count; taken = c.in-Ok.ensures.taken; copied = c.in-Ok.ensures.copied }, c.in-Ok.ensures.other_left)) in
    let stop : StopAt seats.B (filled p B f) i.b l1 l2 =
    subst (λ (n : ℕ). StopAt seats.B n i.b l1 l2) (fills B) (stop_at seats.B c.args.wanted.now.b i.b l1 l2 c.requires.seats.b c.in-Err-read.ensures.never c.in-Err-read.ensures.some c.in-Err-read.ensures.other_left) in
    stopped_b p input f i a l0 l1 l2 step_a stop ready

pub returns-in-Err-read-2-clause-answer : goal.returns-in-Err-read-2-clause-answer
returns-in-Err-read-2-clause-answer g c = λ p input f fills ready.
    let l0 = g.H.Shelf.left c.args.shelf.now in
    let l1 = g.H.Shelf.left c.read.new.shelf in
    let l2 = g.H.Shelf.left c.read-2.new.shelf in
    let l3 = g.H.Shelf.left c.read-3.new.shelf in
    let i = c.args.self.now in
    let a = c.read.new.self in
    let b = c.read-2.new.self in
    let step_a : StepAt seats.A (filled p A f) i.a a l0 l1 =
    subst (λ (n : ℕ). StepAt seats.A n i.a a l0 l1) (fills A) (at_seat seats.A c.args.wanted.now.a i.a a l0 l1 c.requires.seats.a
    (record { nothing = c.in-Ok.ensures.nothing; ended = c.in-Ok.ensures.ended; goes_on = c.in-Ok.ensures.goes_on; count = c.in-Ok.ensures.count; taken = c.in-Ok.ensures.taken; copied = c.in-Ok.ensures.copied }, c.in-Ok.ensures.other_left)) in
    let step_b : StepAt seats.B (filled p B f) i.b b l1 l2 =
    subst (λ (n : ℕ). StepAt seats.B n i.b b l1 l2) (fills B) (at_seat seats.B c.args.wanted.now.b i.b b l1 l2 c.requires.seats.b
    (record { nothing = c.in-Ok-read.ensures.nothing; ended = c.in-Ok-read.ensures.ended; goes_on = c.in-Ok-read.ensures.goes_on; count = c.in-Ok-read.ensures.count; taken = c.in-Ok-read.ensures.taken; copied = c.in-Ok-read.ensures.copied }, c.in-Ok-read.ensures.other_left)) in
    let stop : StopAt seats.C (filled p C f) i.c l2 l3 =
    subst (λ (n : ℕ). StopAt seats.C n i.c l2 l3) (fills C) (stop_at seats.C c.args.wanted.now.c i.c l2 l3 c.requires.seats.c c.in-Err-read-2.ensures.never c.in-Err-read-2.ensures.some c.in-Err-read-2.ensures.other_left) in
    stopped_c p input f i a b l0 l1 l2 l3 step_a step_b stop ready

pub returns-in-Ok-read-2-clause-answer : goal.returns-in-Ok-read-2-clause-answer
returns-in-Ok-read-2-clause-answer g c = λ p input f fills ready.
    let l0 = g.H.Shelf.left c.args.shelf.now in
    let l1 = g.H.Shelf.left c.read.new.shelf in
    let l2 = g.H.Shelf.left c.read-2.new.shelf in
    let l3 = g.H.Shelf.left c.read-3.new.shelf in
    let i = c.args.self.now in
    let a = c.read.new.self in
    let b = c.read-2.new.self in
    let n = c.read-3.new.self in
    let step_a : StepAt seats.A (filled p A f) i.a a l0 l1 =
    subst (λ (n : ℕ). StepAt seats.A n i.a a l0 l1) (fills A) (at_seat seats.A c.args.wanted.now.a i.a a l0 l1 c.requires.seats.a
    (record { nothing = c.in-Ok.ensures.nothing; ended = c.in-Ok.ensures.ended; goes_on = c.in-Ok.ensures.goes_on; count = c.in-Ok.ensures.count; taken = c.in-Ok.ensures.taken; copied = c.in-Ok.ensures.copied }, c.in-Ok.ensures.other_left)) in
    let step_b : StepAt seats.B (filled p B f) i.b b l1 l2 =
    subst (λ (n : ℕ). StepAt seats.B n i.b b l1 l2) (fills B) (at_seat seats.B c.args.wanted.now.b i.b b l1 l2 c.requires.seats.b
    (record { nothing = c.in-Ok-read.ensures.nothing; ended = c.in-Ok-read.ensures.ended; goes_on = c.in-Ok-read.ensures.goes_on; count = c.in-Ok-read.ensures.count; taken = c.in-Ok-read.ensures.taken; copied = c.in-Ok-read.ensures.copied }, c.in-Ok-read.ensures.other_left)) in
    let step_c : StepAt seats.C (filled p C f) i.c n l2 l3 =
    subst (λ (t : ℕ). StepAt seats.C t i.c n l2 l3) (fills C) (at_seat seats.C c.args.wanted.now.c i.c n l2 l3 c.requires.seats.c
    (record { nothing = c.in-Ok-read-2.ensures.nothing; ended = c.in-Ok-read-2.ensures.ended; goes_on = c.in-Ok-read-2.ensures.goes_on; count = c.in-Ok-read-2.ensures.count; taken = c.in-Ok-read-2.ensures.taken; copied = c.in-Ok-read-2.ensures.copied }, c.in-Ok-read-2.ensures.other_left)) in
    all_read p input f i a b n l0 l1 l2 l3 step_a step_b step_c ready
