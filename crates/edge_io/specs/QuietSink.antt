-- What a quiet sink shows.
use Rattle.std.specs.Prelude.{ℕ}
use Rattle.edge_io.specs.declared.quiet_sink.QuietSink.{QuietSink}

-- how many bytes it took, and at the last value of 64 bits that many or more
abbrev pub taken_by : QuietSink → ℕ
taken_by s = s.count
