use Rattle.std.proofs.Common.{◌≡◌, Bool, true, false, List, Some, None, refl, sym, ap, ◌∙◌}
use Rattle.tmcc_fix.specs.NearCodewords.{differing}
use Rattle.tmcc_fix.specs.Corrected.{corrected}
use Rattle.tmcc_fix.proofs.Differing.{differing-self}
use Rattle.seg_receiver.specs.FrameLines.{restored}
use Rattle.seg_receiver.proofs.corrections.restored.Goals as goal

pub returns-then-not-fix : goal.returns-then-not-fix
unfolding restored
returns-then-not-fix c = (let off : c.args.fix ≡ false = search in rw off refl)

pub returns-in-Restored : goal.returns-in-Restored
unfolding restored
returns-in-Restored c =
    let on : c.args.fix ≡ true = search in
    let says = c.in-Restored.ensures.answer in
    rw on (ap Some (says.2 ∙ ap (differing c.args.came) c.in-Restored.ensures.value))

pub returns-in-Far : goal.returns-in-Far
unfolding restored
returns-in-Far c =
    let on : c.args.fix ≡ true = search in
    let says = c.in-Far.ensures.answer in
    rw on (ap Some (sym (ap (differing c.args.came) (sym c.in-Far.ensures.value ∙ says.0) ∙ differing-self c.args.came)))
