use Rattle.std.proofs.Common.{rules, ◌<◌, length, Some, sym, ◌∙◌}
use Rattle.edge_io.proofs.SeatLemmas.{entries_read_at_each}
use Rattle.edge_io.proofs.memory_shelf.MemoryShelfShelf.read.Goals as goal

pub invariant_of-self-2 : goal.invariant_of-self-2
invariant_of-self-2 c = record {
  gives_some = search rules;
  read_entries =
      let had = c.args.self.now.read_entries c.args.seat c.in-Some.cursor (sym c.at.ensures ∙ c.in-Some.is) in
      let within : c.read_on-count.new.cursor.entry < length c.args.self.now.entries.items = rw c.read_on-count.ensures.moved had in
      rw c.set-2.ensures (entries_read_at_each _ _ c.args.seat (Some c.read_on-count.new.cursor) c.args.self.now.read_entries within);
}
