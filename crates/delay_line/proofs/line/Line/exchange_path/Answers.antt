use Rattle.std.proofs.Common.{◌+◌, ◌*◌, ◌<◌, length, refl, arith}
use Rattle.delay_line.proofs.Turns.{place-inside, offset-fits}
use Rattle.delay_line.proofs.PathLaws.{ExchangedTurns-none, ExchangedTurns-more}
use Rattle.delay_line.proofs.line.Line.exchange_path.Goals as goal

pub loop-turn-init : goal.loop-turn-init
loop-turn-init g c =
    ExchangedTurns-none c.args.paths c.args.path c.args.skipped c.args.self.now c.args.input.now c.args.output.now

pub offset_bounds-output-paths : goal.offset_bounds-output-paths
offset_bounds-output-paths g c =
    offset-fits _ _ (length c.args.input.now) (omega arith) (place-inside c.args.paths c.loop-turn.turn (c.args.skipped + c.args.count) (length c.args.input.now) c.args.path c.requires.input (omega (arith, c.loop-turn-test.true)) c.requires.path)

pub loop-turn-preserved : goal.loop-turn-preserved
loop-turn-preserved g c =
    let n = length c.args.input.now in
    let turns = c.args.skipped + c.args.count in
    let to : c.args.paths * c.loop-turn.turn + c.args.path < n = place-inside c.args.paths c.loop-turn.turn turns n c.args.path c.requires.input (omega (arith, c.loop-turn-test.true)) c.requires.path in
    let from : c.args.paths * (c.args.skipped + c.loop-turn.turn) + c.args.path < n = place-inside c.args.paths (c.args.skipped + c.loop-turn.turn) turns n c.args.path c.requires.input (omega (arith, c.loop-turn-test.true)) c.requires.path in
    ExchangedTurns-more c.args.paths c.args.path c.args.skipped c.args.self.now c.loop-turn.self c.step.new.self c.args.input.now c.args.output.now c.loop-turn.output c.loop-turn.turn (c.args.paths * (c.args.skipped + c.loop-turn.turn) + c.args.path) (c.args.paths * c.loop-turn.turn + c.args.path) c.index-input-paths.result c.step.result c.requires.path refl refl from (omega (arith, to, c.requires.input, c.requires.output, c.loop-turn.auto.output)) c.index-input-paths.is c.step.ensures.held c.step.ensures.count c.loop-turn.invariant
