use Rattle.std.proofs.Common.{◌<◌, length, IfSome}
use Rattle.edge_io.proofs.SeatLemmas.{entries_read_at_each}
use Rattle.edge_io.proofs.quiet_shelf.QuietShelfShelf.open.Goals as goal

pub invariant_of-self : goal.invariant_of-self
invariant_of-self c = record {
  read_entries =
      let within : IfSome c.start_of-start.result (λ cursor. cursor.entry < length c.args.self.now.entries.items) = rw c.deref.ensures.value at c.start_of-start.ensures.within in
      rw c.set.ensures (entries_read_at_each _ _ _ _ c.args.self.now.read_entries within);
}
