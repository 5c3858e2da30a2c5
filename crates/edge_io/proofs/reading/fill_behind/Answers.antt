use Rattle.std.proofs.lemmas.Result.{err_from_is_err_and}
use Rattle.edge_io.proofs.Filling.{filled, stopped}
use Rattle.edge_io.proofs.reading.fill_behind.Goals as goal

pub returns-clause-answer : goal.returns-clause-answer
returns-clause-answer g c = λ bytes told.
    let came = c.in_ok-count.ensures in
    filled c.args.held c.in_ok-count.count c.args.buf.now c.fill.new.buf bytes _ _ c.requires.held told c.fill.auto.buf came.bound came.count came.copied came.taken

pub returns-in_err-count-clause-answer : goal.returns-in_err-count-clause-answer
returns-in_err-count-clause-answer g c = λ bytes told.
    let some = c.in_err-count.ensures.some in
    let failed = err_from_is_err_and c.from_residual.result c.from_residual.ensures.1 in
    rw failed.1 (stopped c.args.held some.0 c.args.buf.now c.fill.new.buf bytes _ _ c.requires.held told c.fill.auto.buf some.1 some.3 some.2)
