-- What is shown of the frames of a stream of broadcast packets.
use Rattle.std.specs.Prelude.{ℕ, Option, Some, None, List, [], length}
use Rattle.isdbt_base.specs.declared.kinds.Layer.TheVariants.{A, B, C}
use Rattle.bts_info.specs.Information.{fields_of}
use Rattle.setting_words.specs.declared.lines.BtsLine.{BtsLine}
use Rattle.setting_words.specs.Lines.{bts_line}
use Rattle.coder_core.specs.FrameChecks.{information_in, layer_count, unused_slots}
use Rattle.coder_core.specs.InputFrames.{first_head, frame_at}

-- what a frame shows: its number, the frame indicator and the countdown of slot 0, and how many slots name each layer and none
abbrev pub shown : ℕ → List ℕ → BtsLine
shown number frame = record {
  frame = number;
  odd = (fields_of (information_in frame 0)).odd;
  countdown = (fields_of (information_in frame 0)).countdown;
  a = layer_count frame A;
  b = layer_count frame B;
  c = layer_count frame C;
  unused = length (unused_slots frame);
}

abbrev pub shown_from : ℕ → List ℕ → ℕ → Option ℕ → List ℕ
shown_from slots input f None = []
shown_from slots input f (Some head) = bts_line (shown f (frame_at (λ g. slots) input head f))

-- the line of frame f of a stream, whose frames have so many slots
unfoldable pub shown_frame : ℕ → List ℕ → ℕ → List ℕ
shown_frame slots input f = shown_from slots input f (first_head input)
