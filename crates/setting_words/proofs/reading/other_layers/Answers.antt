use Rattle.std.proofs.Common.{◌≡◌, None, Some, ap, sym, ◌∙◌}
use Rattle.std.specs.Prelude.{codes}
use Rattle.setting_words.specs.Reading.{behind_comma}
use Rattle.setting_words.proofs.Texts.{prefix_joins}
use Rattle.std.proofs.lemmas.List.{append_cancel_left}
use Rattle.setting_words.specs.SettingWords.{layer_text}
use Rattle.setting_words.proofs.LayerTexts.{second_is, third_is, no_third}
use Rattle.setting_words.proofs.reading.other_layers.Goals as goal

pub returns-in_err-strip_prefix-clause-found : goal.returns-in_err-strip_prefix-clause-found
returns-in_err-strip_prefix-clause-found c = λ b d ok e.
    let second = second_is c.args.mode c.in-Some.text.now c.first_part.result.0.now c.first_part.result.1 b d ok (ap behind_comma (sym c.in-Some.is) ∙ e) c.first_part.ensures.whole c.first_part.ensures.first in
    absurd (c.in_err-strip_prefix.ensures.cases (layer_text c.args.mode second.0) second.3)

pub returns-in_err-b-clause-found : goal.returns-in_err-b-clause-found
returns-in_err-b-clause-found c = λ b d ok e.
    let second = second_is c.args.mode c.in-Some.text.now c.first_part.result.0.now c.first_part.result.1 b d ok (ap behind_comma (sym c.in-Some.is) ∙ e) c.first_part.ensures.whole c.first_part.ensures.first in
    let inner : c.in_ok-strip_prefix.field-0.now ≡ layer_text c.args.mode second.0 = append_cancel_left (codes "B:") c.in_ok-strip_prefix.field-0.now (layer_text c.args.mode second.0) (sym (prefix_joins (codes "B:") c.first_part.result.0.now c.in_ok-strip_prefix.field-0 c.in_ok-strip_prefix.ensures.cases) ∙ second.3) in
    absurd (let bad : None ≡ Some second.0 = c.in_err-b.ensures.found second.0 second.1 inner in cc)

pub returns-in_default-others-clause-found : goal.returns-in_default-others-clause-found
returns-in_default-others-clause-found c = λ b d ok e.
    let second = second_is c.args.mode c.in-Some.text.now c.first_part.result.0.now c.first_part.result.1 b d ok (ap behind_comma (sym c.in-Some.is) ∙ e) c.first_part.ensures.whole c.first_part.ensures.first in
    let inner : c.in_ok-strip_prefix.field-0.now ≡ layer_text c.args.mode second.0 = append_cancel_left (codes "B:") c.in_ok-strip_prefix.field-0.now (layer_text c.args.mode second.0) (sym (prefix_joins (codes "B:") c.first_part.result.0.now c.in_ok-strip_prefix.field-0 c.in_ok-strip_prefix.ensures.cases) ∙ second.3) in
    let b_is : Some c.in_ok-b.b ≡ Some second.0 = c.in_ok-b.ensures.found second.0 second.1 inner in
    let none = no_third c.args.mode d (ap behind_comma (sym c.in_default-others.is) ∙ second.4) in
    let some = second.2 in
    cc

pub returns-in_err-strip_prefix-2-clause-found : goal.returns-in_err-strip_prefix-2-clause-found
returns-in_err-strip_prefix-2-clause-found c = λ b d ok e.
    let second = second_is c.args.mode c.in-Some.text.now c.first_part.result.0.now c.first_part.result.1 b d ok (ap behind_comma (sym c.in-Some.is) ∙ e) c.first_part.ensures.whole c.first_part.ensures.first in
    let third = third_is c.args.mode c.in-Some-others.third.now d ok.c_segments (ap behind_comma (sym c.in-Some-others.is) ∙ second.4) in
    absurd (c.in_err-strip_prefix-2.ensures.cases (layer_text c.args.mode third.0) third.3)

pub returns-in_err-c-clause-found : goal.returns-in_err-c-clause-found
returns-in_err-c-clause-found c = λ b d ok e.
    let second = second_is c.args.mode c.in-Some.text.now c.first_part.result.0.now c.first_part.result.1 b d ok (ap behind_comma (sym c.in-Some.is) ∙ e) c.first_part.ensures.whole c.first_part.ensures.first in
    let third = third_is c.args.mode c.in-Some-others.third.now d ok.c_segments (ap behind_comma (sym c.in-Some-others.is) ∙ second.4) in
    let last : c.in_ok-strip_prefix-2.field-0.now ≡ layer_text c.args.mode third.0 = append_cancel_left (codes "C:") c.in_ok-strip_prefix-2.field-0.now (layer_text c.args.mode third.0) (sym (prefix_joins (codes "C:") c.in-Some-others.third.now c.in_ok-strip_prefix-2.field-0 c.in_ok-strip_prefix-2.ensures.cases) ∙ third.3) in
    absurd (let bad : None ≡ Some third.0 = c.in_err-c.ensures.found third.0 third.1 last in cc)

pub returns-clause-found : goal.returns-clause-found
returns-clause-found c = λ b d ok e.
    let second = second_is c.args.mode c.in-Some.text.now c.first_part.result.0.now c.first_part.result.1 b d ok (ap behind_comma (sym c.in-Some.is) ∙ e) c.first_part.ensures.whole c.first_part.ensures.first in
    let inner : c.in_ok-strip_prefix.field-0.now ≡ layer_text c.args.mode second.0 = append_cancel_left (codes "B:") c.in_ok-strip_prefix.field-0.now (layer_text c.args.mode second.0) (sym (prefix_joins (codes "B:") c.first_part.result.0.now c.in_ok-strip_prefix.field-0 c.in_ok-strip_prefix.ensures.cases) ∙ second.3) in
    let b_is : Some c.in_ok-b.b ≡ Some second.0 = c.in_ok-b.ensures.found second.0 second.1 inner in
    let third = third_is c.args.mode c.in-Some-others.third.now d ok.c_segments (ap behind_comma (sym c.in-Some-others.is) ∙ second.4) in
    let last : c.in_ok-strip_prefix-2.field-0.now ≡ layer_text c.args.mode third.0 = append_cancel_left (codes "C:") c.in_ok-strip_prefix-2.field-0.now (layer_text c.args.mode third.0) (sym (prefix_joins (codes "C:") c.in-Some-others.third.now c.in_ok-strip_prefix-2.field-0 c.in_ok-strip_prefix-2.ensures.cases) ∙ third.3) in
    let c_is : Some c.in_ok-c.c ≡ Some third.0 = c.in_ok-c.ensures.found third.0 third.1 last in
    let some_b = second.2 in
    let some_c = third.2 in
    cc
