use Rattle.std.proofs.Common.{◌≡◌, None, Some, lit<, ◌∙◌}
use Rattle.std.specs.Prelude.{decimal}
use Rattle.setting_words.specs.SettingWords.{modulation_text, rate_text}
use Rattle.setting_words.proofs.Texts.{split_missed, split_found, split_joins}
use Rattle.setting_words.proofs.LayerTexts.{segments_lack, modulation_lacks, rate_lacks, behind_rate, behind_modulation, behind_segments, layer_fields, layer_joins, makes_layer, made_layer}
use Rattle.setting_words.proofs.reading.layer_of.Goals as goal

pub returns-in_err-segments-clause-found : goal.returns-in_err-segments-clause-found
returns-in_err-segments-clause-found c = λ l ok e. absurd (split_missed 58 c.args.text.now (decimal l.segments) (behind_segments c.args.mode l) c.split_once.result c.split_once.ensures.cases (lit< tt) c.in_err-segments.was (e ∙ layer_fields c.args.mode l) (segments_lack l ok))

pub returns-in_err-modulation-clause-found : goal.returns-in_err-modulation-clause-found
returns-in_err-modulation-clause-found c = λ l ok e.
    let first = split_found 58 c.args.text.now (decimal l.segments) (behind_segments c.args.mode l) c.split_once.result c.in_ok-segments.segments c.in_ok-segments.rest c.split_once.ensures.cases (lit< tt) c.in_ok-segments.was (e ∙ layer_fields c.args.mode l) (segments_lack l ok) in
    absurd (split_missed 58 c.in_ok-segments.rest.now (modulation_text l.modulation) (behind_modulation c.args.mode l) c.split_once-2.result c.split_once-2.ensures.cases (lit< tt) c.in_err-modulation.was first.1 (modulation_lacks l))

pub returns-in_err-rate-clause-found : goal.returns-in_err-rate-clause-found
returns-in_err-rate-clause-found c = λ l ok e.
    let first = split_found 58 c.args.text.now (decimal l.segments) (behind_segments c.args.mode l) c.split_once.result c.in_ok-segments.segments c.in_ok-segments.rest c.split_once.ensures.cases (lit< tt) c.in_ok-segments.was (e ∙ layer_fields c.args.mode l) (segments_lack l ok) in
    let second = split_found 58 c.in_ok-segments.rest.now (modulation_text l.modulation) (behind_modulation c.args.mode l) c.split_once-2.result c.in_ok-modulation.modulation c.in_ok-modulation.rest c.split_once-2.ensures.cases (lit< tt) c.in_ok-modulation.was first.1 (modulation_lacks l) in
    absurd (split_missed 58 c.in_ok-modulation.rest.now (rate_text l.rate) (behind_rate c.args.mode l) c.split_once-3.result c.split_once-3.ensures.cases (lit< tt) c.in_err-rate.was second.1 (rate_lacks l))

pub returns-in_err-segments-2-clause-found : goal.returns-in_err-segments-2-clause-found
returns-in_err-segments-2-clause-found c = λ l ok e.
    let first = split_found 58 c.args.text.now (decimal l.segments) (behind_segments c.args.mode l) c.split_once.result c.in_ok-segments.segments c.in_ok-segments.rest c.split_once.ensures.cases (lit< tt) c.in_ok-segments.was (e ∙ layer_fields c.args.mode l) (segments_lack l ok) in
    absurd (let bad : None ≡ Some l.segments = c.in_err-segments-2.ensures.found l.segments ok.0 ok.1 first.0 in cc)

pub returns-in_err-modulation-2-clause-found : goal.returns-in_err-modulation-2-clause-found
returns-in_err-modulation-2-clause-found c = λ l ok e.
    let first = split_found 58 c.args.text.now (decimal l.segments) (behind_segments c.args.mode l) c.split_once.result c.in_ok-segments.segments c.in_ok-segments.rest c.split_once.ensures.cases (lit< tt) c.in_ok-segments.was (e ∙ layer_fields c.args.mode l) (segments_lack l ok) in
    let second = split_found 58 c.in_ok-segments.rest.now (modulation_text l.modulation) (behind_modulation c.args.mode l) c.split_once-2.result c.in_ok-modulation.modulation c.in_ok-modulation.rest c.split_once-2.ensures.cases (lit< tt) c.in_ok-modulation.was first.1 (modulation_lacks l) in
    absurd (let bad : None ≡ Some l.modulation = c.in_err-modulation-2.ensures.found l.modulation second.0 in cc)

pub returns-in_err-rate-2-clause-found : goal.returns-in_err-rate-2-clause-found
returns-in_err-rate-2-clause-found c = λ l ok e.
    let first = split_found 58 c.args.text.now (decimal l.segments) (behind_segments c.args.mode l) c.split_once.result c.in_ok-segments.segments c.in_ok-segments.rest c.split_once.ensures.cases (lit< tt) c.in_ok-segments.was (e ∙ layer_fields c.args.mode l) (segments_lack l ok) in
    let second = split_found 58 c.in_ok-segments.rest.now (modulation_text l.modulation) (behind_modulation c.args.mode l) c.split_once-2.result c.in_ok-modulation.modulation c.in_ok-modulation.rest c.split_once-2.ensures.cases (lit< tt) c.in_ok-modulation.was first.1 (modulation_lacks l) in
    let third = split_found 58 c.in_ok-modulation.rest.now (rate_text l.rate) (behind_rate c.args.mode l) c.split_once-3.result c.in_ok-rate.rate c.in_ok-rate.depth c.split_once-3.ensures.cases (lit< tt) c.in_ok-rate.was second.1 (rate_lacks l) in
    absurd (let bad : None ≡ Some l.rate = c.in_err-rate-2.ensures.found l.rate third.0 in cc)

pub returns-in_err-depth-clause-found : goal.returns-in_err-depth-clause-found
returns-in_err-depth-clause-found c = λ l ok e.
    let first = split_found 58 c.args.text.now (decimal l.segments) (behind_segments c.args.mode l) c.split_once.result c.in_ok-segments.segments c.in_ok-segments.rest c.split_once.ensures.cases (lit< tt) c.in_ok-segments.was (e ∙ layer_fields c.args.mode l) (segments_lack l ok) in
    let second = split_found 58 c.in_ok-segments.rest.now (modulation_text l.modulation) (behind_modulation c.args.mode l) c.split_once-2.result c.in_ok-modulation.modulation c.in_ok-modulation.rest c.split_once-2.ensures.cases (lit< tt) c.in_ok-modulation.was first.1 (modulation_lacks l) in
    let third = split_found 58 c.in_ok-modulation.rest.now (rate_text l.rate) (behind_rate c.args.mode l) c.split_once-3.result c.in_ok-rate.rate c.in_ok-rate.depth c.split_once-3.ensures.cases (lit< tt) c.in_ok-rate.was second.1 (rate_lacks l) in
    absurd (let bad : None ≡ Some l.depth = c.in_err-depth.ensures.found l.depth third.1 in cc)

pub returns-clause-found : goal.returns-clause-found
returns-clause-found c = λ l ok e.
    let first = split_found 58 c.args.text.now (decimal l.segments) (behind_segments c.args.mode l) c.split_once.result c.in_ok-segments.segments c.in_ok-segments.rest c.split_once.ensures.cases (lit< tt) c.in_ok-segments.was (e ∙ layer_fields c.args.mode l) (segments_lack l ok) in
    let second = split_found 58 c.in_ok-segments.rest.now (modulation_text l.modulation) (behind_modulation c.args.mode l) c.split_once-2.result c.in_ok-modulation.modulation c.in_ok-modulation.rest c.split_once-2.ensures.cases (lit< tt) c.in_ok-modulation.was first.1 (modulation_lacks l) in
    let third = split_found 58 c.in_ok-modulation.rest.now (rate_text l.rate) (behind_rate c.args.mode l) c.split_once-3.result c.in_ok-rate.rate c.in_ok-rate.depth c.split_once-3.ensures.cases (lit< tt) c.in_ok-rate.was second.1 (rate_lacks l) in
    makes_layer c.new.result c.in_ok-segments-2.segments c.in_ok-modulation-2.modulation c.in_ok-rate-2.rate c.in_ok-depth.depth l ok
    (c.in_ok-segments-2.ensures.found l.segments ok.0 ok.1 first.0) (c.in_ok-modulation-2.ensures.found l.modulation second.0) (c.in_ok-rate-2.ensures.found l.rate third.0) (c.in_ok-depth.ensures.found l.depth third.1) c.new.ensures

pub returns-clause-spelled : goal.returns-clause-spelled
returns-clause-spelled c =
    let first = split_joins 58 c.args.text.now c.split_once.result c.in_ok-segments.segments c.in_ok-segments.rest c.split_once.ensures.cases (lit< tt) c.in_ok-segments.was in
    let second = split_joins 58 c.in_ok-segments.rest.now c.split_once-2.result c.in_ok-modulation.modulation c.in_ok-modulation.rest c.split_once-2.ensures.cases (lit< tt) c.in_ok-modulation.was in
    let third = split_joins 58 c.in_ok-modulation.rest.now c.split_once-3.result c.in_ok-rate.rate c.in_ok-rate.depth c.split_once-3.ensures.cases (lit< tt) c.in_ok-rate.was in
    made_layer c.args.mode c.args.text.now c.new.result c.in_ok-segments-2.segments c.in_ok-modulation-2.modulation c.in_ok-rate-2.rate c.in_ok-depth.depth
    (layer_joins c.args.mode c.args.text.now _ _ _ _ _ _ (record { segments = c.in_ok-segments-2.segments; modulation = c.in_ok-modulation-2.modulation; rate = c.in_ok-rate-2.rate; depth = c.in_ok-depth.depth }) first.0 second.0 third.0
    c.in_ok-segments-2.ensures.spelled c.in_ok-modulation-2.ensures.spelled c.in_ok-rate-2.ensures.spelled c.in_ok-depth.ensures.spelled) c.new.ensures
