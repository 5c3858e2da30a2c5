use Rattle.isdbt_cli.proofs.run.run_command.Goals as goal

pub returns-in-Remux-clause-seats : goal.returns-in-Remux-clause-seats
returns-in-Remux-clause-seats g c = rw c.in-Remux.is c.run_remux.ensures.seats

pub returns-in-Code-clause-seats : goal.returns-in-Code-clause-seats
returns-in-Code-clause-seats g c = rw c.in-Code.is c.run_code.ensures.seats

pub returns-in-Receive-clause-answer : goal.returns-in-Receive-clause-answer
returns-in-Receive-clause-answer g c = rw (c.in-Receive.is, ← c.aim_of.ensures) c.run_cells.ensures.answer

pub returns-in-Receive-clause-seats : goal.returns-in-Receive-clause-seats
returns-in-Receive-clause-seats g c = rw c.in-Receive.is c.run_cells.ensures.seats

pub returns-in-ShowBts-clause-seats : goal.returns-in-ShowBts-clause-seats
returns-in-ShowBts-clause-seats g c = rw c.in-ShowBts.is c.run_show_bts.ensures.seats

pub returns-in-ShowCells-clause-seats : goal.returns-in-ShowCells-clause-seats
returns-in-ShowCells-clause-seats g c = rw c.in-ShowCells.is c.run_cells-in-ShowCells.ensures.seats

pub returns-in-Sample-clause-cause : goal.returns-in-Sample-clause-cause
returns-in-Sample-clause-cause g c = rw c.in-Sample.is (c.run_sample.ensures.cause (g.H.Shelf.faults c.args.shelf.now))
