use Rattle.std.proofs.Common.{rules, ◌<◌, length, IfSome}
use Rattle.edge_io.proofs.SeatLemmas.{entries_read_at_each}
use Rattle.edge_io.proofs.memory_shelf.MemoryShelfShelf.open.Goals as goal

pub invariant_of-self-2 : goal.invariant_of-self-2
invariant_of-self-2 c = record {
  gives_some = search rules;
  read_entries =
      let within : IfSome c.start_of-start.result (λ cursor. cursor.entry < length c.args.self.now.entries.items) = rw c.deref.ensures.value at c.start_of-start.ensures.within in
      rw c.set-2.ensures (entries_read_at_each _ _ _ _ c.args.self.now.read_entries within);
}
