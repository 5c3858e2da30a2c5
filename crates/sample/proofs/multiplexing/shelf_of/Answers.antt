use Rattle.std.proofs.Common.{◌≡◌, ◌≢◌, [], arith, ap, ◌∙◌}
use Rattle.std.specs.Prelude.{codes, unwrap_or, slice_index}
use Rattle.edge_io.specs.declared.shelf.Seat.TheVariants as seats
use Rattle.sample.proofs.multiplexing.shelf_of.Goals as goal

a-b : seats.A ≢ seats.B
a-b e = cc

b-a : seats.B ≢ seats.A
b-a e = cc

names-differ : codes "A" ≢ codes "B"
names-differ e = (let h : 65 ≡ 66 = ap (λ xs. slice_index xs 0) e in omega (arith, h))

pub open-requires : goal.open-requires
open-requires c = ap (λ f. f seats.A) (c.put-2.ensures.seats.is_open ∙ c.put.ensures.seats.is_open) ∙ c.new-shelf.ensures.closed seats.A

pub open-requires-2 : goal.open-requires-2
open-requires-2 c = c.open.ensures.other_open seats.B b-a ∙ ap (λ f. f seats.B) (c.put-2.ensures.seats.is_open ∙ c.put.ensures.seats.is_open) ∙ c.new-shelf.ensures.closed seats.B

pub returns-clause-a_open : goal.returns-clause-a_open
returns-clause-a_open c = c.open-2.ensures.other_open seats.A a-b ∙ c.open.ensures.opened

pub returns-clause-a_left : goal.returns-clause-a_left
returns-clause-a_left c =
    c.open-2.ensures.other_left seats.A a-b ∙ c.open.ensures.content
    ∙ ap (λ o. unwrap_or o []) (c.in_ok-put-2.ensures.ok.others (codes "A") names-differ ∙ c.in_ok-put.ensures.ok.put) ∙ c.a.ensures

pub returns-clause-b_left : goal.returns-clause-b_left
returns-clause-b_left c =
    c.open-2.ensures.content ∙ ap (λ f. f (codes "B")) c.open.ensures.names
    ∙ ap (λ o. unwrap_or o []) c.in_ok-put-2.ensures.ok.put ∙ c.b.ensures
