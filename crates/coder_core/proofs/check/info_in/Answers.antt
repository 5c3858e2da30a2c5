use Rattle.std.proofs.Common.{◌≡◌, ℕ, ◌+◌, ◌-◌, ◌*◌, List, take, drop, ap, sym, ◌∙◌, arith}
use Rattle.bts_info.specs.Information.{fields_of}
use Rattle.coder_core.proofs.Slots.{information-part}
use Rattle.coder_core.proofs.check.info_in.Goals as goal

part : (n : ℕ) (frame : List ℕ) → take (n + 8 - n) (drop n frame) ≡ take 8 (drop n frame)
part n frame = (let e : n + 8 - n ≡ 8 = omega arith in ap (λ k. take k (drop n frame)) e)

pub returns : goal.returns
returns c = c.read.ensures.value ∙ ap fields_of (c.copy_from_slice.ensures.after ∙ part (204 * c.args.slot + 188) c.args.frame.now ∙ sym (information-part c.args.frame.now c.args.slot))
