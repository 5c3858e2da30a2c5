-- The most frames of a command.
use Rattle.std.specs.Prelude.{ℕ}

abbrev pub frame_limit : ℕ
frame_limit = 16777216
