use Rattle.std.proofs.Common.{◌≡◌, true, false, List, [], length, ap, arith, rules}
use Rattle.std.proofs.lemmas.Result.{err_from_is_err_and}
use Rattle.isdbt_base.specs.Parameters.{IsAccepted}
use Rattle.isdbt_base.specs.Plans.{Switch}
use Rattle.isdbt_cli.specs.CommandLines.{transmission_words}
use Rattle.isdbt_cli.specs.Parsing.{Follows, planned}
use Rattle.isdbt_cli.proofs.Stuck.{stuck_piece, reads_none}
use Rattle.isdbt_cli.proofs.PlanLines.{opened, sent_follows, follows_sent, reads_more, stays_read, count_more, taken, not_taken, stuck_switch, ended, full}
use Rattle.isdbt_cli.proofs.grammar.plan.Goals as goal

pub returns-in_err-plan-clause-err : goal.returns-in_err-plan-clause-err
returns-in_err-plan-clause-err c =
    let p = err_from_is_err_and c.from_residual.result c.from_residual.ensures.1 in
    rw (p.1, p.2) (λ coded. stuck_piece (λ t. IsAccepted t.setting) transmission_words (Follows (planned coded)) [] c.args.words.now c.args.words.now c.in_err-plan.field-0.0
    (reads_none c.args.words.now) (sent_follows coded) (follows_sent coded) c.in_err-plan.ensures.err)

pub loop-init : goal.loop-init
loop-init c = (
  opened c.in_ok-plan.plan c.args.words.now c.opening.new.words c.in_ok-plan.ensures.plain c.in_ok-plan.ensures.accepted c.in_ok-plan.ensures.ok,
  ap
      (λ (l : List Switch). length l) c.in_ok-plan.ensures.plain,
)

pub switch-requires : goal.switch-requires
switch-requires c = (let count = c.loop.invariant.1 in let less = c.loop-test.true in omega (arith, count, less))

pub returns-in_err-switch-clause-err : goal.returns-in_err-switch-clause-err
returns-in_err-switch-clause-err c =
    let p = err_from_is_err_and c.from_residual-in_err-switch.result c.from_residual-in_err-switch.ensures.1 in
    let count = c.loop.invariant.1 in
    let less = c.loop-test.true in
    rw (p.1, p.2) (λ coded. stuck_switch coded c.loop.plan c.args.words.now c.loop.words c.in_err-switch.field-0.0 c.loop.invariant.0 (omega (arith, count, less)) c.in_err-switch.ensures.err)

pub returns-then-not-branch-clause-ok : goal.returns-then-not-branch-clause-ok
returns-then-not-branch-clause-ok c =
    let none : c.in_ok-switch.field-0 ≡ false = search rules in
    stays_read c.loop.plan c.switch.new.plan c.args.words.now c.loop.words c.switch.new.words c.loop.invariant.0
    (not_taken c.in_ok-switch.field-0 c.loop.plan c.switch.new.plan c.loop.words c.switch.new.words none c.in_ok-switch.ensures.ok)

pub returns-then-not-branch-clause-end : goal.returns-then-not-branch-clause-end
returns-then-not-branch-clause-end c =
    let none : c.in_ok-switch.field-0 ≡ false = search rules in
    ended c.loop.plan c.switch.new.plan c.loop.words c.switch.new.words
    (not_taken c.in_ok-switch.field-0 c.loop.plan c.switch.new.plan c.loop.words c.switch.new.words none c.in_ok-switch.ensures.ok)

pub loop-preserved : goal.loop-preserved
loop-preserved c =
    let some : c.in_ok-switch.field-0 ≡ true = search rules in
    let count = c.loop.invariant.1 in
    let less = c.loop-test.true in
    let adds = taken c.in_ok-switch.field-0 c.loop.plan c.switch.new.plan c.loop.words c.switch.new.words some c.in_ok-switch.ensures.ok in (
      reads_more c.loop.plan c.switch.new.plan c.args.words.now c.loop.words c.switch.new.words c.loop.invariant.0
          (omega (arith, count, less)) adds,
      count_more c.loop.plan c.switch.new.plan c.loop.words c.switch.new.words c.loop.counter count adds,
    )

pub returns-clause-ok : goal.returns-clause-ok
returns-clause-ok c = c.loop.invariant.0

pub returns-clause-end : goal.returns-clause-end
returns-clause-end c = (let count = c.loop.invariant.1 in let most = c.loop.auto.counter-end in let end = c.loop-test.false in full c.loop.plan c.loop.words (omega (arith, count, most, end)))
