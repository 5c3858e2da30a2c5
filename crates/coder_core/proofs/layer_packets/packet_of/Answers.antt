use Rattle.std.proofs.Common.{◌≡◌, ℕ, ◌+◌, ◌-◌, ◌*◌, List, take, drop, sym, ap, ◌∙◌, arith}
use Rattle.std.proofs.lemmas.List.{take-take}
use Rattle.coder_core.proofs.layer_packets.packet_of.Goals as goal

part : (n : ℕ) (frame : List ℕ) → take (n + 188 - n) (drop n frame) ≡ take 188 (take 204 (drop n frame))
part n frame = ap (λ k. take k (drop n frame)) (let e : n + 188 - n ≡ 188 = omega arith in e) ∙ sym (take-take 188 204 (drop n frame) (omega arith))

pub returns-in-Ok : goal.returns-in-Ok
returns-in-Ok c = (c.in-Ok.ensures {u = tt}).0 ∙ part (204 * c.args.slot) c.args.frame.now
