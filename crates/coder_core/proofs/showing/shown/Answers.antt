use Rattle.std.proofs.Common.{◌≡◌, ℕ, Bool, refl, ap, ◌∙◌, arith}
use Rattle.bts_info.specs.Fields.{Fields}
use Rattle.setting_words.specs.declared.lines.BtsLine.{BtsLine}
use Rattle.coder_core.proofs.SlotCounts.{counts-add_up}
use Rattle.coder_core.proofs.showing.shown.Goals as goal

pub overflow_sub-result : goal.overflow_sub-result
overflow_sub-result c = (let all = counts-add_up c.args.frame.now in omega (arith, all, c.slots_of.ensures.value, c.layer_count-a.ensures))

pub overflow_sub-result-2 : goal.overflow_sub-result-2
overflow_sub-result-2 c = (let all = counts-add_up c.args.frame.now in omega (arith, all, c.slots_of.ensures.value, c.layer_count-a.ensures, c.layer_count-b.ensures))

pub overflow_sub-result-3 : goal.overflow_sub-result-3
overflow_sub-result-3 c = (let all = counts-add_up c.args.frame.now in omega (arith, all, c.slots_of.ensures.value, c.layer_count-a.ensures, c.layer_count-b.ensures, c.layer_count-c.ensures))

abbrev line : ℕ → Bool → ℕ → ℕ → ℕ → ℕ → ℕ → BtsLine
line number odd countdown a b c none = record { frame = number; odd = odd; countdown = countdown; a = a; b = b; c = c; unused = none }

-- lines of the same numbers
same-line : (number : ℕ) {countdown countdown' a a' b b' c c' none none' : ℕ} {odd odd' : Bool} → odd ≡ odd' → countdown ≡ countdown' → a ≡ a' → b ≡ b' → c ≡ c' → none ≡ none'
    → line number odd countdown a b c none ≡ line number odd' countdown' a' b' c' none'
same-line number p q r s t u = rw (p, q, r, s, t, u) refl

pub returns : goal.returns
returns c =
    let info = c.info.view_is ∙ c.info_in-info.ensures in
    let all = counts-add_up c.args.frame.now in
    same-line c.args.number (ap (λ (f : Fields). f.odd) info) (ap (λ (f : Fields). f.countdown) info) c.layer_count-a.ensures c.layer_count-b.ensures c.layer_count-c.ensures
    (omega (arith, all, c.slots_of.ensures.value, c.layer_count-a.ensures, c.layer_count-b.ensures, c.layer_count-c.ensures))
