-- Packets and their information in the slots of a frame.
use Rattle.std.proofs.Common.{◌≡◌, ℕ, ◌+◌, ◌*◌, List, take, drop, get_or, ap, ◌∙◌, arith, drop-drop}
use Rattle.std.proofs.lemmas.List.{drop-take, take-take, get_or-take, get_or-drop}
use Rattle.ts_packet.specs.Packets.{piece}
use Rattle.coder_core.specs.FrameChecks.{information_in}

pub information-part : (frame : List ℕ) (slot : ℕ) → information_in frame slot ≡ take 8 (drop (204 * slot + 188) frame)
information-part frame slot =
    ap (take 8) (drop-take 188 16 (drop (204 * slot) frame))
    ∙ take-take 8 16 (drop 188 (drop (204 * slot) frame)) (omega arith)
    ∙ ap (take 8) (drop-drop 188 (204 * slot) frame)

pub first_byte : (frame : List ℕ) (slot : ℕ) → get_or (piece 204 frame slot) 0 0 ≡ get_or frame (204 * slot) 0
first_byte frame slot =
    get_or-take 204 (drop (204 * slot) frame) 0 0 (omega arith) ∙ get_or-drop (204 * slot) frame 0 0 ∙ ap (λ k. get_or frame k 0) (omega arith)
