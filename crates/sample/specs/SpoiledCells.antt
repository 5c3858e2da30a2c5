-- The cells of a plan with some of them spoiled, and the view of them.
use Rattle.std.specs.Prelude.{◌≡◌, ℕ, ◌+◌, ◌-◌, ◌*◌, ◌%◌, ◌==◌, Bool, ◌&&◌, ◌||◌, neg_ℤ, None, false, if◌then◌else◌}
use Rattle.std.specs.Int.{w8, int_wrapping_neg}
use Rattle.isdbt_base.specs.Numbers.{frame_symbols}
use Rattle.isdbt_base.specs.Plans.{Schedule, at_frame}
use Rattle.isdbt_base.specs.Frames.{FramePackets}
use Rattle.cell_map.specs.declared.cell.Cell.{Cell}
use Rattle.coder_core.specs.SentCells.{epoch_cell, plan_word, frame_size}
use Rattle.seg_receiver.specs.CellStream.{FrameCells, View}

-- the cells that are sent of frames of packets with a plan
abbrev pub sent_cells : Schedule → FramePackets → FrameCells
sent_cells p frames f k segment carrier =
    epoch_cell (at_frame p f).mode (at_frame p f).setting frames (at_frame p f).start (frame_symbols * (f - (at_frame p f).start) + k) segment carrier

-- whether a cell is spoiled: in each frame two, at one symbol and one carrier of segments 0 and 5
abbrev pub is_spoiled : ℕ → ℕ → ℕ → ℕ → Bool
is_spoiled f k segment carrier = (k == 7 * f % 204) && (carrier == f % 96) && ((segment == 0) || (segment == 5))

-- a cell with both numbers negated
abbrev pub negated : Cell → Cell
negated c = record { i = neg_ℤ c.i; q = neg_ℤ c.q }

-- cells of which those are negated that are spoiled
unfoldable pub spoiled : FrameCells → FrameCells
spoiled cell f k segment carrier = if is_spoiled f k segment carrier then negated (cell f k segment carrier) else cell f k segment carrier

-- what is received: the plan's words, and its cells spoiled; laid as in version 1, so many frames
unfoldable pub spoiled_view : Schedule → FramePackets → ℕ → View
spoiled_view p frames count = record {
  size = count * frame_size p.first.mode;
  starts = λ f. f * frame_size p.first.mode;
  head = 0;
  mode = λ f. (at_frame p f).mode;
  guard = λ f. (at_frame p f).guard;
  fix = false;
  came = plan_word p;
  word = plan_word p;
  bad_head = λ f. None;
  cell = spoiled (sent_cells p frames);
}

-- negating the numbers of a cell stays within 8 bits
pub record HasNegation (c : Cell) : Type 0 where
  pub i : int_wrapping_neg w8 c.i ≡ neg_ℤ c.i
  pub q : int_wrapping_neg w8 c.q ≡ neg_ℤ c.q
