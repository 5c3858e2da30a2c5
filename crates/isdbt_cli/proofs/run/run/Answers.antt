use Rattle.std.proofs.Common.{◌≤◌, arith}
use Rattle.isdbt_base.specs.Outcome.{product}
use Rattle.edge_io.specs.declared.shelf.Seat.TheVariants as seats
use Rattle.coder_core.specs.SentCells.{sent_frame}
use Rattle.remux_core.specs.Multiplex.{multiplexed}
use Rattle.seg_receiver.proofs.AcceptedStream.{accepted-written}
use Rattle.isdbt_cli.specs.Chain.{written_stream, delivered_for}
use Rattle.isdbt_cli.specs.CommandLines.{remux, code, receive, sample}
use Rattle.isdbt_cli.specs.FrameLimit.{frame_limit}
use Rattle.isdbt_cli.specs.Parsing.{command_of}
use Rattle.isdbt_cli.proofs.OnePlace.{no_place, one_command}
use Rattle.isdbt_cli.proofs.RunOutcomes.{ok_usage, fault_usage, same_answer, same_cause, same_seats, complete, sampled, good, coded, given, coded_done}
use Rattle.isdbt_cli.proofs.Chains.{near_received, near_stream, restored_stream, near_cells, chain, coded_multiplex, wrote_near}
use Rattle.isdbt_cli.proofs.run.run.Goals as goal

pub returns-in-Ok-clause-usage : goal.returns-in-Ok-clause-usage
returns-in-Ok-clause-usage g c = λ word. ok_usage _ (command_of c.in-Ok.command) _ _ _ _ c.run_command-outcome.result word c.in-Ok.ensures c.run_command-outcome.ensures.cause

pub returns-in-Ok-clause-one_command : goal.returns-in-Ok-clause-one_command
returns-in-Ok-clause-one_command g c = λ a b s t. one_command c.args.words.now a b s t

pub returns-in-Ok-clause-answer : goal.returns-in-Ok-clause-answer
returns-in-Ok-clause-answer g c = λ d spelled. same_answer (command_of c.in-Ok.command) d _ _ _ _ _ (one_command c.args.words.now (command_of c.in-Ok.command) d c.in-Ok.ensures spelled) c.run_command-outcome.ensures.answer

pub returns-in-Ok-clause-seats : goal.returns-in-Ok-clause-seats
returns-in-Ok-clause-seats g c = λ d spelled. same_seats (command_of c.in-Ok.command) d _ _ (one_command c.args.words.now (command_of c.in-Ok.command) d c.in-Ok.ensures spelled) c.run_command-outcome.ensures.seats

pub returns-in-Ok-clause-sample_alone : goal.returns-in-Ok-clause-sample_alone
returns-in-Ok-clause-sample_alone g c = λ number spelled. c.run_command-outcome.ensures.unread number (one_command c.args.words.now (command_of c.in-Ok.command) (sample number) c.in-Ok.ensures spelled)

pub returns-in-Ok-clause-sample_lines : goal.returns-in-Ok-clause-sample_lines
returns-in-Ok-clause-sample_lines g c = λ number spelled none.
    let same = one_command c.args.words.now (command_of c.in-Ok.command) (sample number) c.in-Ok.ensures spelled in
    sampled (g.H.Shelf.holds c.args.shelf.now) _ _ (g.H.Shelf.left c.run_command-outcome.new.shelf) _ _ _ _ c.run_command-outcome.result number
    (same_answer (command_of c.in-Ok.command) (sample number) _ _ _ _ _ same c.run_command-outcome.ensures.answer) (same_cause (command_of c.in-Ok.command) (sample number) _ _ _ _ _ same c.run_command-outcome.ensures.cause) none

pub returns-in-Ok-clause-complete : goal.returns-in-Ok-clause-complete
returns-in-Ok-clause-complete g c = λ d spelled none free.
    let same = one_command c.args.words.now (command_of c.in-Ok.command) d c.in-Ok.ensures spelled in
    complete (g.H.Shelf.holds c.args.shelf.now) _ _ _ _ _ _ _ c.run_command-outcome.result d spelled.command (same_answer (command_of c.in-Ok.command) d _ _ _ _ _ same c.run_command-outcome.ensures.answer) (same_cause (command_of c.in-Ok.command) d _ _ _ _ _ same c.run_command-outcome.ensures.cause) none free

pub returns-in-Ok-clause-good_packets : goal.returns-in-Ok-clause-good_packets
returns-in-Ok-clause-good_packets g c = λ p a b n input spelled hold none fine.
    let same = one_command c.args.words.now (command_of c.in-Ok.command) (remux p a b n) c.in-Ok.ensures spelled in
    good (g.H.Shelf.holds c.args.shelf.now) _ _ _ _ _ _ _ c.run_command-outcome.result p a b n input spelled.command (same_answer (command_of c.in-Ok.command) (remux p a b n) _ _ _ _ _ same c.run_command-outcome.ensures.answer input hold) (same_cause (command_of c.in-Ok.command) (remux p a b n) _ _ _ _ _ same c.run_command-outcome.ensures.cause) none fine

pub returns-in-Ok-clause-code_of_remux : goal.returns-in-Ok-clause-code_of_remux
returns-in-Ok-clause-code_of_remux g c = λ p how name input count spelled hold fine bytes few none.
    let same = one_command c.args.words.now (command_of c.in-Ok.command) (code p how name) c.in-Ok.ensures spelled in
    let plan = spelled.command.plan in
    let stream = written_stream p input count in
    coded (g.H.Shelf.holds c.args.shelf.now) _ _ (g.H.Shelf.left c.run_command-outcome.new.shelf) _ _ _ _ c.run_command-outcome.result how p name stream count (product (sent_frame how p (multiplexed p input)) count)
    (same_answer (command_of c.in-Ok.command) (code p how name) _ _ _ _ _ same c.run_command-outcome.ensures.answer stream hold)
    (same_cause (command_of c.in-Ok.command) (code p how name) _ _ _ _ _ same c.run_command-outcome.ensures.cause) none
    (accepted-written p input count frame_limit plan fine bytes few) (coded_multiplex how p input count plan fine bytes)

pub returns-in-Ok-clause-code_near : goal.returns-in-Ok-clause-code_near
returns-in-Ok-clause-code_near g c = λ p how name input m spelled hold bytes done.
    let same = one_command c.args.words.now (command_of c.in-Ok.command) (code p how name) c.in-Ok.ensures spelled in
    let r = spelled.command in
    wrote_near how p input m _ _ ((g.H.Shelf.left c.run_command-outcome.new.shelf) seats.In) r.plan r.keeps bytes
    (coded_done (g.H.Shelf.holds c.args.shelf.now) _ _ (g.H.Shelf.left c.run_command-outcome.new.shelf) (g.H.Shelf.faults c.args.shelf.now) (g.H.Shelf.faults c.args.shelf.now) 0 0 c.run_command-outcome.result how p input m
    (same_answer (command_of c.in-Ok.command) (code p how name) _ _ _ _ _ same c.run_command-outcome.ensures.answer input hold) done)

pub returns-in-Ok-clause-receive_near : goal.returns-in-Ok-clause-receive_near
returns-in-Ok-clause-receive_near g c = λ p frames count how partial name stream spelled hold plan packets near fine few none.
    let same = one_command c.args.words.now (command_of c.in-Ok.command) (receive how partial name) c.in-Ok.ensures spelled in
    let all = near_stream how stream p frames count partial plan packets near fine few in
    let whole : count ≤ count = omega arith in
    given (g.H.Shelf.holds c.args.shelf.now) _ _ (g.H.Shelf.left c.run_command-outcome.new.shelf) _ _ _ _ c.run_command-outcome.result how partial name stream count (delivered_for partial p frames count) (same_answer (command_of c.in-Ok.command) (receive how partial name) _ _ _ _ _ same c.run_command-outcome.ensures.answer stream hold) (same_cause (command_of c.in-Ok.command) (receive how partial name) _ _ _ _ _ same c.run_command-outcome.ensures.cause) none all.outcome (all.product count whole)

pub returns-in-Ok-clause-receive_restored : goal.returns-in-Ok-clause-receive_restored
returns-in-Ok-clause-receive_restored g c = λ p frames count how partial name stream spelled hold on plan packets restorable fine few none.
    let same = one_command c.args.words.now (command_of c.in-Ok.command) (receive how partial name) c.in-Ok.ensures spelled in
    let near = restored_stream how stream p frames count partial on restorable in
    let all = near_stream how stream p frames count partial plan packets near fine few in
    let whole : count ≤ count = omega arith in
    given (g.H.Shelf.holds c.args.shelf.now) _ _ (g.H.Shelf.left c.run_command-outcome.new.shelf) _ _ _ _ c.run_command-outcome.result how partial name stream count (delivered_for partial p frames count) (same_answer (command_of c.in-Ok.command) (receive how partial name) _ _ _ _ _ same c.run_command-outcome.ensures.answer stream hold) (same_cause (command_of c.in-Ok.command) (receive how partial name) _ _ _ _ _ same c.run_command-outcome.ensures.cause) none all.outcome (all.product count whole)

pub returns-in-Ok-clause-near_received : goal.returns-in-Ok-clause-near_received
returns-in-Ok-clause-near_received g c = near_received

pub returns-in-Ok-clause-near_cells : goal.returns-in-Ok-clause-near_cells
returns-in-Ok-clause-near_cells g c = near_cells

pub returns-in-Ok-clause-chain : goal.returns-in-Ok-clause-chain
returns-in-Ok-clause-chain g c = chain

pub returns-in-Err-clause-usage : goal.returns-in-Err-clause-usage
returns-in-Err-clause-usage g c = λ word. fault_usage _ _ word c.in-Err.ensures

pub returns-in-Err-clause-one_command : goal.returns-in-Err-clause-one_command
returns-in-Err-clause-one_command g c = λ a b s t. one_command c.args.words.now a b s t

pub returns-in-Err-clause-answer : goal.returns-in-Err-clause-answer
returns-in-Err-clause-answer g c = λ d spelled. absurd (no_place _ d _ spelled c.in-Err.ensures)

pub returns-in-Err-clause-seats : goal.returns-in-Err-clause-seats
returns-in-Err-clause-seats g c = λ d spelled. absurd (no_place _ d _ spelled c.in-Err.ensures)

pub returns-in-Err-clause-sample_alone : goal.returns-in-Err-clause-sample_alone
returns-in-Err-clause-sample_alone g c = λ number spelled. absurd (no_place _ (sample number) _ spelled c.in-Err.ensures)

pub returns-in-Err-clause-sample_lines : goal.returns-in-Err-clause-sample_lines
returns-in-Err-clause-sample_lines g c = λ number spelled none. absurd (no_place _ (sample number) _ spelled c.in-Err.ensures)

pub returns-in-Err-clause-complete : goal.returns-in-Err-clause-complete
returns-in-Err-clause-complete g c = λ d spelled none free. absurd (no_place _ d _ spelled c.in-Err.ensures)

pub returns-in-Err-clause-good_packets : goal.returns-in-Err-clause-good_packets
returns-in-Err-clause-good_packets g c = λ p a b n input spelled hold none fine. absurd (no_place _ (remux p a b n) _ spelled c.in-Err.ensures)

pub returns-in-Err-clause-code_of_remux : goal.returns-in-Err-clause-code_of_remux
returns-in-Err-clause-code_of_remux g c = λ p how name input count spelled hold fine bytes few none. absurd (no_place _ (code p how name) _ spelled c.in-Err.ensures)

pub returns-in-Err-clause-code_near : goal.returns-in-Err-clause-code_near
returns-in-Err-clause-code_near g c = λ p how name input m spelled hold bytes done. absurd (no_place _ (code p how name) _ spelled c.in-Err.ensures)

pub returns-in-Err-clause-receive_near : goal.returns-in-Err-clause-receive_near
returns-in-Err-clause-receive_near g c = λ p frames count how partial name stream spelled hold plan packets near fine few none. absurd (no_place _ (receive how partial name) _ spelled c.in-Err.ensures)

pub returns-in-Err-clause-receive_restored : goal.returns-in-Err-clause-receive_restored
returns-in-Err-clause-receive_restored g c = λ p frames count how partial name stream spelled hold on plan packets restorable fine few none. absurd (no_place _ (receive how partial name) _ spelled c.in-Err.ensures)

pub returns-in-Err-clause-near_received : goal.returns-in-Err-clause-near_received
returns-in-Err-clause-near_received g c = near_received

pub returns-in-Err-clause-near_cells : goal.returns-in-Err-clause-near_cells
returns-in-Err-clause-near_cells g c = near_cells

pub returns-in-Err-clause-chain : goal.returns-in-Err-clause-chain
returns-in-Err-clause-chain g c = chain
