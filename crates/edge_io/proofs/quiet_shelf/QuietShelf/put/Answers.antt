use Rattle.std.proofs.Common.{refl}
use Rattle.std.proofs.Math.Path.{fun_ext}
use Rattle.edge_io.proofs.EntryLemmas.{puts_on_ok, rest_stays_either}
use Rattle.edge_io.proofs.quiet_shelf.QuietShelf.put.Goals as goal

pub returns-clause-ok : goal.returns-clause-ok
returns-clause-ok c = puts_on_ok _ _ _ _ c.add.result c.add.ensures.ok c.requires

pub returns-clause-seats : goal.returns-clause-seats
returns-clause-seats c = record {
  rest = fun_ext (λ seat. rest_stays_either _ _ _ _ _ c.add.result c.add.ensures.ok c.add.ensures.err (c.args.self.now.read_entries seat));
  is_open = refl;
}
