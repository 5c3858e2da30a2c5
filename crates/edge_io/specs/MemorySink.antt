-- What a memory sink shows and is set to.
use Rattle.std.specs.Prelude.{ℕ, List, None, Some, if◌then◌else◌}
use Rattle.std.specs.declared.option.Option.{Option}
use Rattle.edge_io.specs.declared.memory_sink.MemorySink.{MemorySink}

abbrev pub written_bytes : MemorySink → List ℕ
written_bytes s = s.bytes.items

-- how many bytes it takes in all
abbrev pub room_of : MemorySink → ℕ
room_of s = s.room

-- the room, until it was ever told to fail
abbrev pub told_room : MemorySink → Option ℕ
told_room s = if s.may_fail then None else Some s.room

-- the byte from which a write fails
abbrev pub fails_from : MemorySink → Option ℕ
fails_from s = s.fail_from

abbrev pub fault_count : MemorySink → ℕ
fault_count s = s.faults
