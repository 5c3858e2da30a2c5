use Rattle.std.proofs.Common.{rules, ◌≡◌, None, Some, refl, ap, sym, ◌∙◌}
use Rattle.std.specs.Prelude.{Bool, codes}
use Rattle.std.specs.declared.option.Option.{Option}
use Rattle.isdbt_base.specs.LayerParameters.{LayerParameters}
use Rattle.isdbt_base.specs.Parameters.{Parameters}
use Rattle.setting_words.proofs.Texts.{prefix_joins}
use Rattle.setting_words.proofs.SettingWords.{others_accepted, setting_parts, never_refused, same_setting, none_read, parts_joined}
use Rattle.setting_words.proofs.reading.setting_of.Goals as goal

pub returns-in_err-a : goal.returns-in_err-a
returns-in_err-a c = none_read c.args.mode c.args.word.now c.from_residual-in_err-a.result (search rules) (λ s ok e.
    let parts = setting_parts c.args.mode c.in_ok-layers.layers.now c.first_part.result.0.now c.first_part.result.1 s ok (sym (prefix_joins (codes "A:") c.args.word.now c.in_ok-layers.layers c.in_ok-layers.ensures.cases) ∙ e) c.first_part.ensures.whole c.first_part.ensures.first in
    let bad : ◌≡◌ {A = Option (LayerParameters × Bool)} None (Some (s.a, s.partial)) = c.in_err-a.ensures.found s.a s.partial ok.a_segments parts.0 in cc)

pub returns-in_err-b : goal.returns-in_err-b
returns-in_err-b c = none_read c.args.mode c.args.word.now c.from_residual-in_err-b.result (search rules) (λ s ok e.
    let parts = setting_parts c.args.mode c.in_ok-layers.layers.now c.first_part.result.0.now c.first_part.result.1 s ok (sym (prefix_joins (codes "A:") c.args.word.now c.in_ok-layers.layers c.in_ok-layers.ensures.cases) ∙ e) c.first_part.ensures.whole c.first_part.ensures.first in
    let bad : ◌≡◌ {A = Option (Option LayerParameters × Option LayerParameters)} None (Some (s.b, s.c)) = c.in_err-b.ensures.found s.b s.c (others_accepted s ok) parts.1 in cc)

pub returns-in-Ok : goal.returns-in-Ok
returns-in-Ok c = record {
  spelled =
      let asked : Parameters = record { partial = c.in_ok-a.partial; a = c.in_ok-a.a; b = c.in_ok-b.b; c = c.in_ok-b.c } in
      let made : c.in-Ok.setting ≡ asked = c.in-Ok.ensures.0 in
      rw made (parts_joined c.args.mode c.args.word.now c.in_ok-layers.layers.now c.first_part.result.0.now c.first_part.result.1 asked
      (prefix_joins (codes "A:") c.args.word.now c.in_ok-layers.layers c.in_ok-layers.ensures.cases) c.first_part.ensures.whole c.in_ok-a.ensures.spelled.1 c.in_ok-b.ensures.spelled.1);
  found = λ s ok e.
      let parts = setting_parts c.args.mode c.in_ok-layers.layers.now c.first_part.result.0.now c.first_part.result.1 s ok (sym (prefix_joins (codes "A:") c.args.word.now c.in_ok-layers.layers c.in_ok-layers.ensures.cases) ∙ e) c.first_part.ensures.whole c.first_part.ensures.first in
      let same = same_setting c.in_ok-a.partial c.in_ok-a.a c.in_ok-b.b c.in_ok-b.c s (c.in_ok-a.ensures.found s.a s.partial ok.a_segments parts.0) (c.in_ok-b.ensures.found s.b s.c (others_accepted s ok) parts.1) in
      ap Some (c.in-Ok.ensures.0 ∙ same);
}

pub returns-in-Err : goal.returns-in-Err
returns-in-Err c = none_read c.args.mode c.args.word.now None refl (λ s ok e.
    let parts = setting_parts c.args.mode c.in_ok-layers.layers.now c.first_part.result.0.now c.first_part.result.1 s ok (sym (prefix_joins (codes "A:") c.args.word.now c.in_ok-layers.layers c.in_ok-layers.ensures.cases) ∙ e) c.first_part.ensures.whole c.first_part.ensures.first in
    let same = same_setting c.in_ok-a.partial c.in_ok-a.a c.in_ok-b.b c.in_ok-b.c s (c.in_ok-a.ensures.found s.a s.partial ok.a_segments parts.0) (c.in_ok-b.ensures.found s.b s.c (others_accepted s ok) parts.1) in
    never_refused s (record { partial = c.in_ok-a.partial; a = c.in_ok-a.a; b = c.in_ok-b.b; c = c.in_ok-b.c }) c.in-Err.field-0 ok same c.in-Err.ensures)
