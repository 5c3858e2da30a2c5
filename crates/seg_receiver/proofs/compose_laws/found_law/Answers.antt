use Rattle.seg_receiver.proofs.FoundFrames.{first_head-broadcast, frame_at-broadcast, input_frames-broadcast}
use Rattle.seg_receiver.proofs.compose_laws.found_law.Goals as goal

pub returns : goal.returns
returns c = record { head = first_head-broadcast; frame = λ p frames count f plan. frame_at-broadcast p frames count f; packets = input_frames-broadcast }
