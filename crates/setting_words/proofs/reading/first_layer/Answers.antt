use Rattle.std.proofs.Common.{◌≡◌, None, Some, sym, ◌∙◌}
use Rattle.setting_words.proofs.Texts.{suffix_joins}
use Rattle.setting_words.proofs.LayerTexts.{ends_partial}
use Rattle.std.specs.Prelude.{codes}
use Rattle.setting_words.proofs.reading.first_layer.Goals as goal

pub returns-in_err-layer-in-Some-clause-found : goal.returns-in_err-layer-in-Some-clause-found
returns-in_err-layer-in-Some-clause-found c = λ l partial ok e.
    let ends = ends_partial c.args.mode l partial c.in-Some.front.now (sym (suffix_joins (codes ":partial") c.args.text.now c.in-Some.front c.in-Some.ensures.cases) ∙ e) in
    absurd (let bad : None ≡ Some l = c.in_err-layer-in-Some.ensures.found l ok ends.1 in cc)

pub returns-in_ok-layer-in-Some-clause-found : goal.returns-in_ok-layer-in-Some-clause-found
returns-in_ok-layer-in-Some-clause-found c = λ l partial ok e.
    let ends = ends_partial c.args.mode l partial c.in-Some.front.now (sym (suffix_joins (codes ":partial") c.args.text.now c.in-Some.front c.in-Some.ensures.cases) ∙ e) in
    let same : Some c.in_ok-layer-in-Some.layer ≡ Some l = c.in_ok-layer-in-Some.ensures.found l ok ends.1 in
    let set = ends.0 in
    cc
