use Rattle.std.proofs.lemmas.Option.{MatchOption-at_some, MatchOption-at_none}
use Rattle.edge_io.proofs.EntryLemmas.{found_at}
use Rattle.edge_io.proofs.entries.start_of.Goals as goal

pub returns-in_err-entry-clause-absent : goal.returns-in_err-entry-clause-absent
returns-in_err-entry-clause-absent c =
    let at = found_at c.args.entries.now c.args.name.now c.index_of.result c.index_of.ensures in
    rw c.from_residual.ensures (MatchOption-at_none _ _ c.in_err-entry.was at)

pub returns-clause-content : goal.returns-clause-content
returns-clause-content c =
    let at = found_at c.args.entries.now c.args.name.now c.index_of.result c.index_of.ensures in
    MatchOption-at_some _ _ c.in_ok-entry.entry c.in_ok-entry.was at
