-- A setting's word and its parts.
use Rattle.std.proofs.Common.{◌≡◌, Bool, true, false, ◌++◌, None, Some, drop, refl, sym, ap, ◌∙◌, append_assoc, eq-eqb}
use Rattle.std.specs.Prelude.{codes, ◌==◌, ◌&&◌, not, if◌then◌else◌, is_some, is_none}
use Rattle.std.proofs.lemmas.List.{append-nil}
use Rattle.std.specs.Borrow.{Bor}
use Rattle.std.specs.declared.option.Option.{Option}
use Rattle.isdbt_base.specs.declared.kinds.Mode.{Mode}
use Rattle.isdbt_base.specs.declared.setting.SettingFault.{SettingFault}
use Rattle.isdbt_base.specs.declared.setting.SettingFault.TheVariants.{PartialNotOne, LayerGap}
use Rattle.isdbt_base.specs.LayerParameters.{LayerParameters, HasSegments}
use Rattle.isdbt_base.specs.Parameters.{Parameters, layer_sum, HasSegmentsIfUsed, HasNoGap, IsAccepted}
use Rattle.isdbt_base.specs.Refusals.{refusal_of}
use Rattle.setting_words.specs.SettingWords.{Word, layer_text, partial_text, other_layer_text, setting_word}
use Rattle.setting_words.specs.Reading.{Lacks, behind_comma, AreOthers, other_layers_text, IsRead}
use Rattle.setting_words.proofs.Texts.{one_cut, is_behind}
use Rattle.setting_words.proofs.LayerTexts.{first_comma_free, comma_free, behind_both, behind_c, ends_partial, layer_text-injective}

pub others_accepted : (s : Parameters) → IsAccepted s → AreOthers s.b s.c
others_accepted s ok = record { b_segments = ok.b_segments; c_segments = ok.c_segments; no_gap = ok.no_gap }

-- what stands behind "A:"
pub behind_a : (mode : Mode) (layers : Word) (s : Parameters) → codes "A:" ++ layers ≡ setting_word mode s → layers ≡ (layer_text mode s.a ++ partial_text s.partial) ++ other_layers_text mode s.b s.c
behind_a mode layers s e = ap (drop 2) e ∙ append_assoc (layer_text mode s.a ++ partial_text s.partial) (other_layer_text mode (codes "B") s.b) (other_layer_text mode (codes "C") s.c)

-- what stands before the first comma, and the comma with what stands behind it
pub setting_parts : (mode : Mode) (layers first : Word) (others : Option (Bor Word)) (s : Parameters) → IsAccepted s → codes "A:" ++ layers ≡ setting_word mode s → layers ≡ first ++ behind_comma others → Lacks 44 first
    → (first ≡ layer_text mode s.a ++ partial_text s.partial) × (behind_comma others ≡ other_layers_text mode s.b s.c)
setting_parts mode layers first others s ok e whole lacks =
    one_cut 44 first (layer_text mode s.a ++ partial_text s.partial) (behind_comma others) (other_layers_text mode s.b s.c) lacks (first_comma_free mode s.a s.partial ok.a_segments) (is_behind others) (behind_both mode s.b s.c)
    (sym whole ∙ behind_a mode layers s e)

-- the parts make the word
pub parts_joined : (mode : Mode) (word layers first : Word) (others : Option (Bor Word)) (s : Parameters) → word ≡ codes "A:" ++ layers → layers ≡ first ++ behind_comma others → first ≡ layer_text mode s.a ++ partial_text s.partial → behind_comma others ≡ other_layers_text mode s.b s.c
    → word ≡ setting_word mode s
parts_joined mode word layers first others s e whole ea eb =
    let joined : first ++ behind_comma others ≡ (layer_text mode s.a ++ partial_text s.partial) ++ other_layers_text mode s.b s.c = cc in
    e ∙ ap (λ (x : Word). codes "A:" ++ x) (whole ∙ joined ∙ sym (append_assoc (layer_text mode s.a ++ partial_text s.partial) (other_layer_text mode (codes "B") s.b) (other_layer_text mode (codes "C") s.c)))

-- an accepted setting isn't refused
pub accepted-refusal : (s : Parameters) → IsAccepted s → refusal_of s ≡ None
accepted-refusal s ok = rw (eq-eqb (layer_sum (λ l. l.segments) s) 13 ok.segments) (partial_first s.partial refl)
  where
    last : (b c : Option LayerParameters) → HasNoGap b c → (if is_none b && is_some c then Some LayerGap else None) ≡ None
    last (Some b) c gap = refl
    last None None gap = refl
    last None (Some c) gap = absurd gap

    partial_first : (p : Bool) → s.partial ≡ p → (if p && not (s.a.segments == 1) then Some (PartialNotOne s.a.segments) else if is_none s.b && is_some s.c then Some LayerGap else None) ≡ None
    partial_first true set = rw (eq-eqb s.a.segments 1 (ok.partial set)) (last s.b s.c ok.no_gap)
    partial_first false set = last s.b s.c ok.no_gap

pub never_refused : (s asked : Parameters) (fault : SettingFault) → IsAccepted s → asked ≡ s → refusal_of asked ≡ Some fault → ⊥
never_refused s asked fault ok same refused = (let none = accepted-refusal s ok in let bad : None ≡ Some fault = sym none ∙ ap refusal_of (sym same) ∙ refused in cc)

pub alike : (s t : Parameters) → s.partial ≡ t.partial → s.a ≡ t.a → s.b ≡ t.b → s.c ≡ t.c → s ≡ t
alike s t sp sa sb sc =
    ap (λ v. record { partial = v; a = s.a; b = s.b; c = s.c }) sp ∙ ap (λ v. record { partial = t.partial; a = v; b = s.b; c = s.c }) sa ∙ ap (λ v. record { partial = t.partial; a = t.a; b = v; c = s.c }) sb ∙ ap (λ v. record { partial = t.partial; a = t.a; b = t.b; c = v }) sc

pub same_setting : (partial : Bool) (a : LayerParameters) (b c : Option LayerParameters) (s : Parameters) → ◌≡◌ {A = Option (LayerParameters × Bool)} (Some (a, partial)) (Some (s.a, s.partial)) → ◌≡◌ {A = Option (Option LayerParameters × Option LayerParameters)} (Some (b, c)) (Some (s.b, s.c))
    → record { partial = partial; a = a; b = b; c = c } ≡ s
same_setting partial a b c s e f =
    let first : ◌≡◌ {A = LayerParameters × Bool} (a, partial) (s.a, s.partial) = cc in
    let others : ◌≡◌ {A = Option LayerParameters × Option LayerParameters} (b, c) (s.b, s.c) = cc in
    alike (record { partial = partial; a = a; b = b; c = c }) s (ap (λ x. x.1) first) (ap (λ x. x.0) first) (ap (λ x. x.0) others) (ap (λ x. x.1) others)

-- ---- a word is of one setting

same_first : (mode : Mode) (l m : LayerParameters) (p q : Bool) → HasSegments l → HasSegments m → layer_text mode l ++ partial_text p ≡ layer_text mode m ++ partial_text q → (p ≡ q) × (l ≡ m)
same_first mode l m true q okl okm e = (let ends = ends_partial mode m q (layer_text mode l) e in (sym ends.0, layer_text-injective mode l m okl okm ends.1))
same_first mode l m false true okl okm e = (let ends = ends_partial mode l false (layer_text mode m) (sym e) in let bad = ends.0 in absurd (cc))
same_first mode l m false false okl okm e = (refl, layer_text-injective mode l m okl okm (sym (append-nil (layer_text mode l)) ∙ e ∙ append-nil (layer_text mode m)))

same_others : (mode : Mode) (b c d e : Option LayerParameters) → AreOthers b c → AreOthers d e → other_layers_text mode b c ≡ other_layers_text mode d e → (b ≡ d) × (c ≡ e)
same_others mode None (Some l) d e ok ok' f = absurd ok.no_gap
same_others mode b c None (Some l) ok ok' f = absurd ok'.no_gap
same_others mode None None None None ok ok' f = (refl, refl)
same_others mode None None (Some l) e ok ok' f = absurd (cc)
same_others mode (Some l) c None None ok ok' f = absurd (cc)
same_others mode (Some l) c (Some m) e ok ok' f =
    let cut = one_cut 44 (layer_text mode l) (layer_text mode m) (other_layer_text mode (codes "C") c) (other_layer_text mode (codes "C") e) (comma_free mode l ok.b_segments) (comma_free mode m ok'.b_segments) (behind_c mode c) (behind_c mode e) (ap (drop 3) f) in
    (ap Some (layer_text-injective mode l m ok.b_segments ok'.b_segments cut.0), same_third c e ok.c_segments ok'.c_segments cut.1)
  where
    same_third : (x y : Option LayerParameters) → HasSegmentsIfUsed x → HasSegmentsIfUsed y → other_layer_text mode (codes "C") x ≡ other_layer_text mode (codes "C") y → x ≡ y
    same_third None None okx oky g = refl
    same_third None (Some n) okx oky g = absurd (cc)
    same_third (Some k) None okx oky g = absurd (cc)
    same_third (Some k) (Some n) okx oky g = ap Some (layer_text-injective mode k n okx oky (ap (drop 3) g))

pub setting_word-injective : (mode : Mode) (s t : Parameters) → IsAccepted s → IsAccepted t → setting_word mode s ≡ setting_word mode t → s ≡ t
setting_word-injective mode s t oks okt e =
    let parts = one_cut 44 (layer_text mode s.a ++ partial_text s.partial) (layer_text mode t.a ++ partial_text t.partial) (other_layers_text mode s.b s.c) (other_layers_text mode t.b t.c) (first_comma_free mode s.a s.partial oks.a_segments) (first_comma_free mode t.a t.partial okt.a_segments)
    (behind_both mode s.b s.c) (behind_both mode t.b t.c) (sym (behind_a mode (drop 2 (setting_word mode s)) s refl) ∙ behind_a mode (drop 2 (setting_word mode s)) t e) in
    let first = same_first mode s.a t.a s.partial t.partial oks.a_segments okt.a_segments parts.0 in
    let others = same_others mode s.b s.c t.b t.c (others_accepted s oks) (others_accepted t okt) parts.1 in
    alike s t first.0 first.1 others.0 others.1

-- what is read of a word that spells no accepted setting
pub none_read : (mode : Mode) (word : Word) (r : Option Parameters) → r ≡ None → ((s : Parameters) → IsAccepted s → word ≡ setting_word mode s → ⊥) → IsRead mode word r
none_read mode word r none never = rw none (record { spelled = tt; found = λ s ok e. absurd (never s ok e) })
