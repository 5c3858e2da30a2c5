use Rattle.std.proofs.Common.{◌≡◌, Bool, true, false, refl, sym, ◌∙◌, ap}
use Rattle.isdbt_base.specs.Parameters.{Parameters, IsAccepted}
use Rattle.seg_receiver.specs.ReceiveRefusals.{same_setting}
use Rattle.seg_receiver.proofs.NearOutcome.{same_setting-self}
use Rattle.seg_receiver.proofs.SameSettings.{same-equal}
use Rattle.seg_receiver.proofs.check_word.same_setting.Goals as goal

decides : (r : Bool) (s u : Parameters) → IsAccepted s → IsAccepted u → (r ≡ true → s ≡ u) → (s ≡ u → r ≡ true) → (t : Bool) → same_setting s u ≡ t → r ≡ t
decides r s u h k equal same true is = same (same-equal s u h k is)
decides true s u h k equal same false isnt = sym (same_setting-self s) ∙ ap (same_setting s) (equal refl) ∙ isnt
decides false s u h k equal same false isnt = refl

pub returns : goal.returns
returns c = decides c.is_equal.result c.args.a.now c.args.b.now c.acceptance_law.ensures c.acceptance_law-2.ensures c.is_equal.ensures.equal c.is_equal.ensures.same _ refl
