-- Words are of one command at most, and have one place of a fault, or are a command's.
use Rattle.std.proofs.Common.{◌≡◌, ℕ, ◌+◌, ◌<◌, ◌≤◌, ◌^◌, true, false, List, [], ◌∷◌, ◌++◌, length, take, drop, refl, sym, ap, ◌∙◌, subst, arith, take-append-drop, append_assoc, inl, inr}
use Rattle.std.specs.Prelude.{codes, decimal, is_some}
use Rattle.std.proofs.lemmas.Fmt.{decimal_injective}
use Rattle.std.proofs.lemmas.List.{take-take, take_all, append-nil, append_cancel_left}
use Rattle.std.proofs.lemmas.Bool.{cases_lt}
use Rattle.isdbt_base.specs.Plans.{Schedule}
use Rattle.isdbt_cli.specs.CommandLines.{form_words, fix_words, Command, remux, code, receive, show_bts, show_cells, sample, Spells, CanGoOn, IsFaultAt}
use Rattle.setting_words.specs.SettingWords.{Word}
use Rattle.isdbt_cli.proofs.Transmissions.{same_head, same_tail, mode_word-injective, guard_word-injective}
use Rattle.isdbt_cli.proofs.CommandWords.{names_words, code_words, receive_words, reception_words, bts_words, cells_words, remux_spelled, code_spelled, receive_spelled, bts_spelled, cells_spelled, sample_spelled}
use Rattle.isdbt_cli.proofs.PlanLines.{remux_line, code_line, line_of, same_line}
use Rattle.isdbt_cli.proofs.ToldWords.{told_word-injective}
use Rattle.isdbt_cli.proofs.CellsSpelling.{same_form}
use Rattle.isdbt_cli.proofs.ReceiveSpelling.{received, same_reception}
use Rattle.isdbt_cli.proofs.ShowSpelling.{bts_followed, cells_shown}
use Rattle.isdbt_cli.proofs.SampleSpelling.{followed}
use Rattle.isdbt_cli.proofs.Spelling.{same_names}

-- ---- the place is one

-- fewer words can go on too
fewer : (words : List Word) (k m : ℕ) → k ≤ m → CanGoOn (take m words) → CanGoOn (take k words)
fewer words k m le g =
    let parts : take k words ++ drop k (take m words) ≡ take m words = ap (λ xs. xs ++ drop k (take m words)) (sym (take-take k m words le)) ∙ take-append-drop k (take m words) in
    (g.0, drop k (take m words) ++ g.1, subst (λ (ws : List Word). Spells ws g.0) (ap (λ xs. xs ++ g.1) (sym parts) ∙ append_assoc (take k words) (drop k (take m words)) g.1) g.2)

pub one_place : (words : List Word) (p q : ℕ) → IsFaultAt words p → IsFaultAt words q → p ≡ q
one_place words p q f g =
    elim (cases_lt p q) [
      | inl before ↦ absurd (early words p q f g before)
      | inr after ↦ elim (cases_lt q p) [
        | inl before ↦ absurd (early words q p g f before)
        | inr same ↦ omega (arith, after, same)
      ]
    ]
  where
    early : (words : List Word) (p q : ℕ) → IsFaultAt words p → IsFaultAt words q → p < q → ⊥
    early words p q f g less = (let k = g.within in f.fault (omega (arith, less, k)) (fewer words (p + 1) q (omega (arith, less)) g.before))

-- a command's words have no fault
pub no_place : (words : List Word) (c : Command) (p : ℕ) → Spells words c → IsFaultAt words p → ⊥
no_place words c p s f =
    elim (cases_lt p (length words)) [
      | inl less ↦ f.fault less (fewer words (p + 1) (length words) (omega (arith, less)) (
        c,
        [],
        subst (λ (ws : List Word). Spells ws c)
            (sym (append-nil (take (length words) words) ∙ take_all (length words) words (omega arith))) s,
      ))
      | inr past ↦ (let k = f.within in f.short (omega (arith, past, k)) c s)
    ]

-- ---- the command is one

-- the words of the other command are those
moved : (words ws : List Word) (d : Command) → words ≡ ws → Spells words d → Spells ws d
moved words ws d e t = subst (λ (x : List Word). Spells x d) e t

pub one_command : (words : List Word) (c d : Command) → Spells words c → Spells words d → c ≡ d
one_command words (remux p a b c) d s t =
    let k = remux_spelled p a b c words s.spelled in
    let line : List Word = k.0 ++ names_words a b c in
    let l = line_of false line (d, moved words (codes "remux" ∷ line) d k.2 t) in
    let n = l.0.inputs in
    let same = same_line false line (remux_line p a b c k.0 line s.command k.1 refl) l.0 in
    let used_b : is_some b ≡ is_some n.b = s.command.b_used ∙ ap (λ (x : Schedule). is_some x.first.setting.b) same.0 ∙ sym n.b_used in
    let used_c : is_some c ≡ is_some n.c = s.command.c_used ∙ ap (λ (x : Schedule). is_some x.first.setting.c) same.0 ∙ sym n.c_used in
    let names = same_names a n.a b n.b c n.c used_b used_c (same.1 ∙ n.words_are) in
    ap (λ x. remux x a b c) same.0 ∙ ap (λ x. remux l.0.p x b c) names.0 ∙ ap (λ x. remux l.0.p n.a x c) names.1 ∙ ap (λ x. remux l.0.p n.a n.b x) names.2 ∙ sym l.1
one_command words (code p how name) d s t =
    let k = code_spelled p how name words s.spelled in
    let line : List Word = k.0 ++ code_words how name in
    let l = line_of true line (d, moved words (codes "code" ∷ line) d k.2 t) in
    let n = l.0.inputs in
    let same = same_line true line (code_line p how name k.0 line s.command k.1 refl) l.0 in
    let behind = same.1 ∙ n.words_are in
    let versions : how.v2 ≡ n.how.v2 = told_word-injective (codes "v2") how.v2 n.how.v2 (same_tail behind) in
    let names : name ≡ n.name = append_cancel_left (codes "IN=") name n.name (same_head behind) in
    ap (λ x. code x how name) same.0 ∙ ap (λ x. code l.0.p (record { v2 = x }) name) versions ∙ ap (λ x. code l.0.p n.how x) names ∙ sym l.1
one_command words (receive how partial name) d s t =
    let line : List Word = form_words how.form ++ receive_words partial how.fix name in
    let r = received line (d, moved words (codes "receive" ∷ line) d (receive_spelled how partial name words s.spelled) t) in
    let same = same_form how.form r.how.form name r.name (reception_words partial how.fix) (reception_words r.partial r.how.fix) r.words_are in
    let told = same_reception partial how.fix r.partial r.how.fix same.2 in
    ap (λ x. receive (record { form = x; fix = how.fix }) partial name) same.0 ∙ ap (λ x. receive (record { form = r.how.form; fix = x }) partial name) told.1
    ∙ ap (λ x. receive r.how x name) told.0 ∙ ap (λ x. receive r.how r.partial x) same.1 ∙ sym r.is
one_command words (show_bts mode guard name) d s t =
    let line : List Word = bts_words mode guard name in
    let r = bts_followed line (d, moved words (codes "show" ∷ codes "bts" ∷ line) d (bts_spelled mode guard name words s.spelled) t) in
    let modes : mode ≡ r.mode = mode_word-injective mode r.mode (same_head r.words_are) in
    let guards : guard ≡ r.guard = guard_word-injective guard r.guard (same_head (same_tail r.words_are)) in
    let names : name ≡ r.name = append_cancel_left (codes "IN=") name r.name (same_head (same_tail (same_tail r.words_are))) in
    ap (λ x. show_bts x guard name) modes ∙ ap (λ x. show_bts r.mode x name) guards ∙ ap (λ x. show_bts r.mode r.guard x) names ∙ sym r.is
one_command words (show_cells how name) d s t =
    let line : List Word = cells_words how name in
    let r = cells_shown line (d, moved words (codes "show" ∷ codes "cells" ∷ line) d (cells_spelled how name words s.spelled) t) in
    let same = same_form how.form r.how.form name r.name (fix_words how.fix) (fix_words r.how.fix) r.words_are in
    let told = told_word-injective (codes "fix") how.fix r.how.fix same.2 in
    ap (λ x. show_cells (record { form = x; fix = how.fix }) name) same.0 ∙ ap (λ x. show_cells (record { form = r.how.form; fix = x }) name) told ∙ ap (λ x. show_cells r.how x) same.1 ∙ sym r.is
one_command words (sample number) d s t =
    let line : List Word = decimal number ∷ [] in
    let r = followed line (d, moved words (codes "sample" ∷ line) d (sample_spelled number words s.spelled) t) in
    let few : number < 2 ^ 64 = (let h = s.command in omega (arith, h)) in
    let few' : r.number < 2 ^ 64 = (let h = r.few in omega (arith, h)) in
    ap sample (decimal_injective number r.number few few' (same_head r.words_are)) ∙ sym r.is
