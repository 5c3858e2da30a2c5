use Rattle.isdbt_cli.proofs.run.read_cells.Goals as goal

pub returns-in-Full-clause-answer : goal.returns-in-Full-clause-answer
returns-in-Full-clause-answer g c = λ stream told. rw c.in-Full.is (c.receive.ensures.answer stream told)

pub returns-in-Partial-clause-answer : goal.returns-in-Partial-clause-answer
returns-in-Partial-clause-answer g c = λ stream told. rw c.in-Partial.is (c.receive_partial.ensures.answer stream told)

pub returns-in-Lines-clause-answer : goal.returns-in-Lines-clause-answer
returns-in-Lines-clause-answer g c = λ stream told. rw c.in-Lines.is (c.show_cells.ensures.answer stream told)
