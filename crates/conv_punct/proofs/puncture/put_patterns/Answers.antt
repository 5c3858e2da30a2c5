use Rattle.std.proofs.Common.{◌≡◌, ◌+◌, ◌-◌, ◌*◌, ap, arith, subst}
use Rattle.isdbt_base.specs.Numbers.{rate_steps, rate_bits}
use Rattle.conv_punct.specs.MotherCode.{AreMotherBits, AreCoded, ChangesOnly}
use Rattle.conv_punct.proofs.ListLaws.{AreCoded-more, ChangesOnly-more}
use Rattle.conv_punct.proofs.puncture.put_patterns.Goals as goal

pub loop-done-preserved : goal.loop-done-preserved
loop-done-preserved c =
    let rate = c.args.rate in
    let k = rate_steps rate in
    let n = rate_bits rate in
    let done = c.loop-done.done in
    let left = c.args.patterns - done - 1 in
    let last = c.rate_pair-steps.result.0 * left in
    let new = c.put_pattern-end.new.out in
    let split : done + 1 + left ≡ c.args.patterns = omega arith in
    let steps : last ≡ k * left = ap (λ s. s * left) c.rate_pair-steps.ensures.steps in
    let all : k * (done + 1 + left) ≡ k * c.args.patterns = ap (λ p. k * p) split in
    let count : n * done + n ≡ n * (done + 1) = omega arith in
    record {
      place = omega (arith, c.put_pattern-end.ensures.end, c.loop-done.invariant.place);
      coded = λ u i before outputs place. (
          let fewer : AreMotherBits c.args.outputs.now (last + k) u i = record { x = λ d h. outputs.x d (omega (arith, steps, all)); y = λ d h. outputs.y d (omega (arith, steps, all)) } in
          let number : n * (before + done) ≡ n * before + n * done = omega arith in
          let part = c.put_pattern-end.ensures.coded u i (before + done) fewer (omega (arith, place, steps, all)) in
          subst (λ m. AreCoded rate u (n * before) new c.args.at m) count (AreCoded-more rate u (n * before) (n * (before + done)) c.loop-done.out new c.args.at (n * done) c.loop-done.end n c.loop-done.invariant.place number c.put_pattern-end.ensures.others (c.loop-done.invariant.coded u i before outputs place) part));
      others = subst (λ m. ChangesOnly c.args.out.now new c.args.at m) count (ChangesOnly-more c.args.out.now c.loop-done.out new c.args.at (n * done) c.loop-done.end n c.loop-done.invariant.place c.loop-done.invariant.others c.put_pattern-end.ensures.others);
    }
