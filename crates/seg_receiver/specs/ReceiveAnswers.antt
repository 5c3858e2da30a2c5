-- What the answers of the receiving say: the receiving as a command that works frame by frame.
use Rattle.std.specs.Prelude.{ℕ, Bool, false, ◌==◌, List}
use Rattle.edge_io.specs.FrameAnswers.{FaultKind, frame_refused, read_failed, write_failed, no_memory, LoneCommand}
use Rattle.seg_receiver.specs.declared.aim.Aim.{Aim}
use Rattle.seg_receiver.specs.declared.aim.Aim.TheVariants.{Full, Partial, Lines}
use Rattle.seg_receiver.specs.declared.fault.ReceiveFault.{ReceiveFault}
use Rattle.seg_receiver.specs.declared.fault.ReceiveFault.TheVariants.{Truncated, BadHead, BadTmcc, Unannounced, NotPartial, ReadFault, WriteFault, TooLong, NoMemory}
use Rattle.seg_receiver.specs.CellStream.{View}
use Rattle.seg_receiver.specs.Epochs.{epoch_start}
use Rattle.seg_receiver.specs.Received.{received_frame, partial_frame}
use Rattle.seg_receiver.specs.FrameLines.{frame_line}
use Rattle.seg_receiver.specs.ReceiveRefusals.{receive_is_there, receive_refusal}

-- what becomes of the receiving at a fault
abbrev pub receive_kind : ReceiveFault → FaultKind
receive_kind (Truncated seat over) = frame_refused
receive_kind (BadHead frame byte) = frame_refused
receive_kind (BadTmcc frame reason) = frame_refused
receive_kind (Unannounced frame) = frame_refused
receive_kind (NotPartial frame) = frame_refused
receive_kind (ReadFault seat) = read_failed seat
receive_kind WriteFault = write_failed
receive_kind TooLong = frame_refused
receive_kind NoMemory = no_memory

-- what is written of frame f
abbrev pub given_frame : View → Aim → ℕ → List ℕ
given_frame v Full f = received_frame v f
given_frame v Partial f = partial_frame v f
given_frame v Lines f = frame_line v f

-- memory is asked for at frame f: for packets where an epoch begins, and for lines nowhere
abbrev pub opens_at : View → Aim → ℕ → Bool
opens_at v Full f = epoch_start v.word f == f
opens_at v Partial f = epoch_start v.word f == f
opens_at v Lines f = false

-- what is done with a stream, of which this is the view, by what is asked and with a limit on frames: where an epoch begins memory is asked for behind its first frame
abbrev pub receive_command : View → Aim → List ℕ → ℕ → LoneCommand ReceiveFault
receive_command v aim stream limit = record {
  frames = record { refusal = receive_refusal v aim limit; is_there = receive_is_there v; frame = given_frame v aim; opens = opens_at v aim; ahead = 1 };
  input = stream;
  limit = limit;
  starts = v.starts;
}
