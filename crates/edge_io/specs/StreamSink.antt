-- What a stream sink shows.
use Rattle.std.specs.Prelude.{ℕ}
use Rattle.edge_io.specs.declared.stream_sink.StreamSink.{StreamSink}

-- the writer that takes the bytes
abbrev pub writer_of : {W : Type 0} → StreamSink W → W
writer_of s = s.inner

abbrev pub fault_count : {W : Type 0} → StreamSink W → ℕ
fault_count s = s.faults
