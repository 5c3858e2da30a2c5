use Rattle.std.proofs.Common.{refl, sym, subst}
use Rattle.std.proofs.lemmas.Result.{err_from_is_err_and}
use Rattle.isdbt_base.specs.Parameters.{IsAccepted}
use Rattle.isdbt_base.specs.Plans.{Transmission, SameLayers}
use Rattle.setting_words.specs.SettingWords.{setting_word}
use Rattle.isdbt_cli.specs.Parsing.{IsLater}
use Rattle.isdbt_cli.proofs.Stuck.{misses}
use Rattle.isdbt_cli.proofs.SwitchStuck.{is_last, in_switch, stuck_at_setting, SwitchRead, adds_switch, other_word, refused_layers}
use Rattle.isdbt_cli.proofs.grammar.switch.Goals as goal

pub returns-in_default-clause-ok : goal.returns-in_default-clause-ok
returns-in_default-clause-ok c =
    let last = is_last c.args.plan.now c.at-before.result c.acceptance_law.ensures c.at-before.ensures.value in
    record {
      kept = refl;
      stays = c.next_frame.ensures.kept c.in_default.is;
      next = λ frame later starts. c.next_frame.ensures.none frame c.in_default.is
          (subst (λ n. IsLater n frame) (sym last.start) later) starts;
    }

pub returns-in_err-mode-clause-err : goal.returns-in_err-mode-clause-err
returns-in_err-mode-clause-err c =
    let p = err_from_is_err_and c.from_residual.result c.from_residual.ensures.1 in
    let last = is_last c.args.plan.now c.at-before.result c.acceptance_law.ensures c.at-before.ensures.value in
    rw (p.1, p.2) (in_switch c.args.plan.now c.at-before.result last c.in-Some.frame c.in_err-mode.field-0.0 c.args.words.now c.next_frame.new.words c.in-Some.ensures.some
    (c.in_err-mode.ensures.err c.args.plan.now.first.setting c.acceptance_law.ensures.first))

pub returns-in_err-setting-clause-err : goal.returns-in_err-setting-clause-err
returns-in_err-setting-clause-err c =
    let p = err_from_is_err_and c.from_residual-in_err-setting.result c.from_residual-in_err-setting.ensures.1 in
    let last = is_last c.args.plan.now c.at-before.result c.acceptance_law.ensures c.at-before.ensures.value in
    let m = misses IsAccepted (setting_word c.in_ok-mode.mode) c.mode_and_guard.new.words c.in_err-setting.field-0.0 c.in_err-setting.ensures.err in
    rw (p.1, p.2) (in_switch c.args.plan.now c.at-before.result last c.in-Some.frame c.in_err-setting.field-0.0 c.args.words.now c.next_frame.new.words c.in-Some.ensures.some
    (stuck_at_setting c.args.plan.now.first.setting c.at-before.result.mode c.at-before.result.guard c.acceptance_law.ensures.first c.in_ok-mode.mode
    c.in_ok-mode.guard c.next_frame.new.words c.mode_and_guard.new.words c.in_err-setting.field-0.0
    c.in_ok-mode.ensures.ok m.0 (λ s fine same starts. m.1 s fine starts)))

pub returns-in-Ok-clause-ok : goal.returns-in-Ok-clause-ok
returns-in-Ok-clause-ok c =
    let last = is_last c.args.plan.now c.at-before.result c.acceptance_law.ensures c.at-before.ensures.value in
    let t : Transmission = record { mode = c.in_ok-mode.mode; guard = c.in_ok-mode.guard; setting = c.in_ok-setting.setting } in
    let read : SwitchRead c.at-before.result c.in-Some.frame t c.args.words.now c.setting.new.words = record {
      v = c.next_frame.new.words;
      w = c.mode_and_guard.new.words;
      frame_read = c.in-Some.ensures.some;
      mode_read = c.in_ok-mode.ensures.ok;
      accepted = c.acceptance_law-2.ensures;
      setting_read = c.in_ok-setting.ensures.ok;
    } in
    adds_switch c.args.plan.now c.at-before.result last c.add_switch_at.new.self c.in-Some.frame t c.args.words.now c.setting.new.words c.requires read c.in-Ok.ensures

pub returns-in-Err-clause-err : goal.returns-in-Err-clause-err
returns-in-Err-clause-err c =
    let last = is_last c.args.plan.now c.at-before.result c.acceptance_law.ensures c.at-before.ensures.value in
    let later = subst (λ n. IsLater n c.in-Some.frame) last.start c.in-Some.ensures.some.0 in
    in_switch c.args.plan.now c.at-before.result last c.in-Some.frame c.place-place.result c.args.words.now c.next_frame.new.words c.in-Some.ensures.some
    (stuck_at_setting c.args.plan.now.first.setting c.at-before.result.mode c.at-before.result.guard c.acceptance_law.ensures.first c.in_ok-mode.mode
    c.in_ok-mode.guard c.next_frame.new.words c.mode_and_guard.new.words c.place-place.result
    c.in_ok-mode.ensures.ok c.place-place.ensures
    (λ s fine same starts. refused_layers c.args.plan.now c.in-Some.frame c.in_ok-setting.setting c.in-Err.field-0 c.requires later c.in-Err.ensures.0
    (subst (λ x. SameLayers c.args.plan.now.first.setting x)
    (sym (other_word c.in_ok-mode.mode c.in_ok-setting.setting s c.mode_and_guard.new.words c.setting.new.words c.in_ok-setting.ensures.ok c.acceptance_law-2.ensures fine starts)) same)))
