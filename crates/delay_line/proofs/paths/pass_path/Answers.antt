use Rattle.std.proofs.Common.{◌+◌, ◌-◌, ◌*◌, ◌<◌, length, refl, arith}
use Rattle.delay_line.proofs.Turns.{place-inside, offset-fits}
use Rattle.delay_line.proofs.PathLaws.{PassedTurns-more}
use Rattle.delay_line.proofs.paths.pass_path.Goals as goal

pub offset_bounds-output-paths : goal.offset_bounds-output-paths
offset_bounds-output-paths g c =
    offset-fits _ _ (length c.args.input.now) (omega arith) (place-inside c.args.paths c.loop-turn.turn c.args.turns (length c.args.input.now) c.args.path c.requires.input c.loop-turn-test.true c.requires.path)

pub loop-turn-preserved : goal.loop-turn-preserved
loop-turn-preserved g c =
    let n = length c.args.input.now in
    let to : c.args.paths * c.loop-turn.turn + c.args.path < n = place-inside c.args.paths c.loop-turn.turn c.args.turns n c.args.path c.requires.input c.loop-turn-test.true c.requires.path in
    let from : c.args.paths * (c.loop-turn.turn - c.args.late) + c.args.path < n = place-inside c.args.paths (c.loop-turn.turn - c.args.late) c.args.turns n c.args.path c.requires.input (omega arith) c.requires.path in
    PassedTurns-more c.args.paths c.args.path c.args.late c.args.input.now c.args.output.now c.loop-turn.output c.loop-turn.turn _ _ c.index-input-paths.result c.requires.path (omega arith) refl refl from (omega (arith, to, c.requires.input, c.requires.output, c.loop-turn.auto.output)) c.index-input-paths.is c.loop-turn.invariant
