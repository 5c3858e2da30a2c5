-- The fields of a layer's text, and the layers of a setting's word.
use Rattle.std.proofs.Common.{◌≡◌, ℕ, ◌≤◌, ◌<◌, Bool, true, false, [], ◌∷◌, ◌++◌, drop, None, Some, MatchOption, IfSome, refl, sym, ap, ◌∙◌, subst, arith, append_assoc, inl, inr}
use Rattle.std.specs.Prelude.{◌⊎◌, codes, decimal, if◌then◌else◌}
use Rattle.std.specs.Fmt.{digits}
use Rattle.std.specs.Str.{bytes_eq}
use Rattle.std.proofs.lemmas.Fmt.{decimal_injective}
use Rattle.std.specs.Borrow.{Bor}
use Rattle.std.specs.declared.option.Option.{Option}
use Rattle.std.proofs.lemmas.List.{append-nil, append_cancel_right}
use Rattle.isdbt_base.specs.declared.kinds.Mode.{Mode}
use Rattle.isdbt_base.specs.declared.kinds.Mode.TheVariants.{M1, M2, M3}
use Rattle.isdbt_base.specs.declared.kinds.Modulation.{Modulation}
use Rattle.isdbt_base.specs.declared.kinds.Modulation.TheVariants.{Qpsk, Qam16, Qam64}
use Rattle.isdbt_base.specs.declared.kinds.Rate.{Rate}
use Rattle.isdbt_base.specs.declared.kinds.Rate.TheVariants.{R12, R23, R34, R56, R78}
use Rattle.isdbt_base.specs.declared.kinds.DepthCode.{DepthCode}
use Rattle.isdbt_base.specs.declared.kinds.DepthCode.TheVariants.{D0, D1, D2, D3}
use Rattle.isdbt_base.specs.LayerParameters.{LayerParameters, HasSegments}
use Rattle.isdbt_base.specs.Parameters.{HasSegmentsIfUsed}
use Rattle.setting_words.specs.SettingWords.{Word, modulation_text, rate_text, depth_text, layer_text, partial_text, other_layer_text}
use Rattle.setting_words.specs.Reading.{Lacks, behind_comma, AreOthers, other_layers_text}
use Rattle.setting_words.proofs.Numbers.{each_count, depth_text-injective}
use Rattle.setting_words.proofs.Texts.{is_plain, no_comma, no_colon, lacks_more, lacks_none, lacks_both, IsBehind, is_behind, one_cut, other_end}

-- ---- the fields have no comma and no colon

plain_segments : (n : ℕ) → 1 ≤ n → n ≤ 13 → is_plain (decimal n) ≡ true
unfolding digits
plain_segments n low high = each_count (λ m. is_plain (decimal m) ≡ true) refl refl refl refl refl refl refl refl refl refl refl refl refl n low high

plain_modulation : (m : Modulation) → is_plain (modulation_text m) ≡ true
plain_modulation Qpsk = refl
plain_modulation Qam16 = refl
plain_modulation Qam64 = refl

plain_rate : (r : Rate) → is_plain (rate_text r) ≡ true
plain_rate R12 = refl
plain_rate R23 = refl
plain_rate R34 = refl
plain_rate R56 = refl
plain_rate R78 = refl

plain_depth : (mode : Mode) (d : DepthCode) → is_plain (depth_text mode d) ≡ true
unfolding digits
plain_depth M1 D0 = refl
plain_depth M1 D1 = refl
plain_depth M1 D2 = refl
plain_depth M1 D3 = refl
plain_depth M2 D0 = refl
plain_depth M2 D1 = refl
plain_depth M2 D2 = refl
plain_depth M2 D3 = refl
plain_depth M3 D0 = refl
plain_depth M3 D1 = refl
plain_depth M3 D2 = refl
plain_depth M3 D3 = refl

pub segments_lack : (l : LayerParameters) → HasSegments l → Lacks 58 (decimal l.segments)
segments_lack l ok = no_colon (decimal l.segments) (plain_segments l.segments ok.0 ok.1)

pub modulation_lacks : (l : LayerParameters) → Lacks 58 (modulation_text l.modulation)
modulation_lacks l = no_colon (modulation_text l.modulation) (plain_modulation l.modulation)

pub rate_lacks : (l : LayerParameters) → Lacks 58 (rate_text l.rate)
rate_lacks l = no_colon (rate_text l.rate) (plain_rate l.rate)

-- ---- what stands behind a field

abbrev pub behind_rate : Mode → LayerParameters → Word
behind_rate mode l = depth_text mode l.depth

abbrev pub behind_modulation : Mode → LayerParameters → Word
behind_modulation mode l = rate_text l.rate ++ (58 ∷ behind_rate mode l)

abbrev pub behind_segments : Mode → LayerParameters → Word
behind_segments mode l = modulation_text l.modulation ++ (58 ∷ behind_modulation mode l)

pub layer_fields : (mode : Mode) (l : LayerParameters) → layer_text mode l ≡ decimal l.segments ++ (58 ∷ behind_segments mode l)
layer_fields mode l = simp append_assoc

pub comma_free : (mode : Mode) (l : LayerParameters) → HasSegments l → Lacks 44 (layer_text mode l)
comma_free mode l ok =
    let colon : Lacks 44 (codes ":") = lacks_more 44 58 [] (λ e. absurd (omega (arith, e))) (lacks_none 44) in
    lacks_both 44 _ (depth_text mode l.depth) (lacks_both 44 _ (codes ":") (lacks_both 44 _ (rate_text l.rate) (lacks_both 44 _ (codes ":") (lacks_both 44 _ (modulation_text l.modulation) (lacks_both 44 (decimal l.segments) (codes ":")
    (no_comma (decimal l.segments) (plain_segments l.segments ok.0 ok.1)) colon) (no_comma (modulation_text l.modulation) (plain_modulation l.modulation))) colon) (no_comma (rate_text l.rate) (plain_rate l.rate))) colon) (no_comma (depth_text mode l.depth) (plain_depth mode l.depth))

pub first_comma_free : (mode : Mode) (l : LayerParameters) (partial : Bool) → HasSegments l → Lacks 44 (layer_text mode l ++ partial_text partial)
first_comma_free mode l true ok = lacks_both 44 (layer_text mode l) (codes ":partial") (comma_free mode l ok) (lacks_more 44 58 (codes "partial") (λ e. absurd (omega (arith, e))) (no_comma (codes "partial") refl))
first_comma_free mode l false ok = lacks_both 44 (layer_text mode l) [] (comma_free mode l ok) (lacks_none 44)

-- the fields' texts make the layer's
pub layer_joins : (mode : Mode) (text a b c d x y : Word) (l : LayerParameters) → text ≡ a ++ (58 ∷ x) → x ≡ b ++ (58 ∷ y) → y ≡ c ++ (58 ∷ d) → a ≡ decimal l.segments → b ≡ modulation_text l.modulation → c ≡ rate_text l.rate → d ≡ depth_text mode l.depth
    → text ≡ layer_text mode l
layer_joins mode text a b c d x y l e f g ea eb ec ed =
    let whole : a ++ (58 ∷ x) ≡ decimal l.segments ++ (58 ∷ behind_segments mode l) = cc in
    e ∙ whole ∙ sym (layer_fields mode l)

-- what LayerSetting::new answers at the numbers of a layer
pub makes_layer : (r : Option LayerParameters) (n : ℕ) (m : Modulation) (rate : Rate) (d : DepthCode) (l : LayerParameters) → HasSegments l → Some n ≡ Some l.segments → Some m ≡ Some l.modulation → Some rate ≡ Some l.rate → Some d ≡ Some l.depth
    → MatchOption r ((n ≡ 0) ⊎ (13 < n)) (λ x. (1 ≤ n) × (n ≤ 13) × (x ≡ record { segments = n; modulation = m; rate = rate; depth = d })) → r ≡ Some l
makes_layer None n m rate d l ok en em er ed says =
    let same : n ≡ l.segments = cc in
    let low = ok.0 in
    let high = ok.1 in
    absurd (elim says [ inl none ↦ omega (arith, same, low, none) | inr many ↦ omega (arith, same, high, many) ])
makes_layer (Some x) n m rate d l ok en em er ed says =
    let sn : n ≡ l.segments = cc in
    let sm : m ≡ l.modulation = cc in
    let sr : rate ≡ l.rate = cc in
    let sd : d ≡ l.depth = cc in
    ap Some (says.2 ∙ ap (λ v. record { segments = v; modulation = m; rate = rate; depth = d }) sn ∙ ap (λ v. record { segments = l.segments; modulation = v; rate = rate; depth = d }) sm
    ∙ ap (λ v. record { segments = l.segments; modulation = l.modulation; rate = v; depth = d }) sr ∙ ap (λ v. record { segments = l.segments; modulation = l.modulation; rate = l.rate; depth = v }) sd)

-- ---- no layer's text ends as that of partial reception

depth_end : (mode : Mode) (d : DepthCode) (a f : Word) → a ++ codes ":partial" ≡ f ++ depth_text mode d → ⊥
unfolding digits
depth_end M1 D0 a f e = other_end a f 58 48 (codes "partial") [] (λ same. omega (arith, same)) e
depth_end M1 D1 a f e = other_end a f 58 52 (codes "partial") [] (λ same. omega (arith, same)) e
depth_end M1 D2 a f e = other_end a f 58 56 (codes "partial") [] (λ same. omega (arith, same)) e
depth_end M1 D3 a f e = other_end a f 58 49 (codes "partial") (54 ∷ []) (λ same. omega (arith, same)) e
depth_end M2 D0 a f e = other_end a f 58 48 (codes "partial") [] (λ same. omega (arith, same)) e
depth_end M2 D1 a f e = other_end a f 58 50 (codes "partial") [] (λ same. omega (arith, same)) e
depth_end M2 D2 a f e = other_end a f 58 52 (codes "partial") [] (λ same. omega (arith, same)) e
depth_end M2 D3 a f e = other_end a f 58 56 (codes "partial") [] (λ same. omega (arith, same)) e
depth_end M3 D0 a f e = other_end a f 58 48 (codes "partial") [] (λ same. omega (arith, same)) e
depth_end M3 D1 a f e = other_end a f 58 49 (codes "partial") [] (λ same. omega (arith, same)) e
depth_end M3 D2 a f e = other_end a f 58 50 (codes "partial") [] (λ same. omega (arith, same)) e
depth_end M3 D3 a f e = other_end a f 58 52 (codes "partial") [] (λ same. omega (arith, same)) e

pub layer_end : (mode : Mode) (l : LayerParameters) (front : Word) → front ++ codes ":partial" ≡ layer_text mode l → ⊥
layer_end mode l front e = depth_end mode l.depth front (decimal l.segments ++ codes ":" ++ modulation_text l.modulation ++ codes ":" ++ rate_text l.rate ++ codes ":") e

-- a text that ends as that of partial reception is of a layer with it
pub ends_partial : (mode : Mode) (l : LayerParameters) (partial : Bool) (front : Word) → front ++ codes ":partial" ≡ layer_text mode l ++ partial_text partial → (partial ≡ true) × (front ≡ layer_text mode l)
ends_partial mode l true front e = (refl, append_cancel_right front (layer_text mode l) (codes ":partial") e)
ends_partial mode l false front e = absurd (layer_end mode l front (e ∙ append-nil (layer_text mode l)))

-- ---- layers B and C

pub behind_b : (mode : Mode) (b : Option LayerParameters) → IsBehind 44 (other_layer_text mode (codes "B") b)
behind_b mode None = inl refl
behind_b mode (Some l) = inr (66 ∷ 58 ∷ layer_text mode l, refl)

pub behind_c : (mode : Mode) (c : Option LayerParameters) → IsBehind 44 (other_layer_text mode (codes "C") c)
behind_c mode None = inl refl
behind_c mode (Some l) = inr (67 ∷ 58 ∷ layer_text mode l, refl)

pub behind_both : (mode : Mode) (b c : Option LayerParameters) → IsBehind 44 (other_layers_text mode b c)
behind_both mode None c = behind_c mode c
behind_both mode (Some l) c = inr ((66 ∷ 58 ∷ layer_text mode l) ++ other_layer_text mode (codes "C") c, refl)

-- where a comma follows, layer B is used: its text stands before the next comma
pub second_is : (mode : Mode) (text second : Word) (others : Option (Bor Word)) (b c : Option LayerParameters) → AreOthers b c → codes "," ++ text ≡ other_layers_text mode b c → text ≡ second ++ behind_comma others → Lacks 44 second
    → (l : LayerParameters) × HasSegments l × (b ≡ Some l) × (second ≡ codes "B:" ++ layer_text mode l) × (behind_comma others ≡ other_layer_text mode (codes "C") c)
second_is mode text second others None None ok e whole lacks = absurd (cc)
second_is mode text second others None (Some m) ok e whole lacks = absurd ok.no_gap
second_is mode text second others (Some l) c ok e whole lacks =
    let inner : text ≡ (66 ∷ 58 ∷ layer_text mode l) ++ other_layer_text mode (codes "C") c = ap (drop 1) e in
    let free : Lacks 44 (66 ∷ 58 ∷ layer_text mode l) = lacks_more 44 66 (58 ∷ layer_text mode l) (λ bad. absurd (omega (arith, bad))) (lacks_more 44 58 (layer_text mode l) (λ bad. absurd (omega (arith, bad))) (comma_free mode l ok.b_segments)) in
    let cut = one_cut 44 second (66 ∷ 58 ∷ layer_text mode l) (behind_comma others) (other_layer_text mode (codes "C") c) lacks free (is_behind others) (behind_c mode c) (sym whole ∙ inner) in
    (l, ok.b_segments, refl, cut.0, cut.1)

pub no_third : (mode : Mode) (c : Option LayerParameters) → [] ≡ other_layer_text mode (codes "C") c → c ≡ None
no_third mode None e = refl
no_third mode (Some l) e = absurd (cc)

pub third_is : (mode : Mode) (third : Word) (c : Option LayerParameters) → HasSegmentsIfUsed c → codes "," ++ third ≡ other_layer_text mode (codes "C") c → (l : LayerParameters) × HasSegments l × (c ≡ Some l) × (third ≡ codes "C:" ++ layer_text mode l)
third_is mode third None ok e = absurd (cc)
third_is mode third (Some l) ok e = (l, ok, refl, ap (drop 1) e)

-- what LayerSetting::new answers at the numbers of a text
pub made_layer : (mode : Mode) (text : Word) (r : Option LayerParameters) (n : ℕ) (m : Modulation) (rate : Rate) (d : DepthCode) → text ≡ layer_text mode (record { segments = n; modulation = m; rate = rate; depth = d })
    → MatchOption r ((n ≡ 0) ⊎ (13 < n)) (λ x. (1 ≤ n) × (n ≤ 13) × (x ≡ record { segments = n; modulation = m; rate = rate; depth = d })) → IfSome r (λ l. HasSegments l × (text ≡ layer_text mode l))
made_layer mode text None n m rate d e says = tt
made_layer mode text (Some x) n m rate d e says = subst (λ (l : LayerParameters). HasSegments l × (text ≡ layer_text mode l)) (sym says.2) ((says.0, says.1), e)

-- ---- a text is of one layer, and of one choice

modulation_from : Word → Modulation
modulation_from text = if bytes_eq text (codes "qpsk") then Qpsk else if bytes_eq text (codes "16qam") then Qam16 else Qam64

modulation_from-text : (m : Modulation) → modulation_from (modulation_text m) ≡ m
unfolding modulation_from
modulation_from-text Qpsk = refl
modulation_from-text Qam16 = refl
modulation_from-text Qam64 = refl

rate_from : Word → Rate
rate_from text = if bytes_eq text (codes "1/2") then R12 else if bytes_eq text (codes "2/3") then R23 else if bytes_eq text (codes "3/4") then R34 else if bytes_eq text (codes "5/6") then R56 else R78

rate_from-text : (r : Rate) → rate_from (rate_text r) ≡ r
unfolding rate_from
rate_from-text R12 = refl
rate_from-text R23 = refl
rate_from-text R34 = refl
rate_from-text R56 = refl
rate_from-text R78 = refl

same_layer : (l m : LayerParameters) → l.segments ≡ m.segments → l.modulation ≡ m.modulation → l.rate ≡ m.rate → l.depth ≡ m.depth → l ≡ m
same_layer l m es em er ed =
    ap (λ v. record { segments = v; modulation = l.modulation; rate = l.rate; depth = l.depth }) es ∙ ap (λ v. record { segments = m.segments; modulation = v; rate = l.rate; depth = l.depth }) em
    ∙ ap (λ v. record { segments = m.segments; modulation = m.modulation; rate = v; depth = l.depth }) er ∙ ap (λ v. record { segments = m.segments; modulation = m.modulation; rate = m.rate; depth = v }) ed

pub layer_text-injective : (mode : Mode) (l m : LayerParameters) → HasSegments l → HasSegments m → layer_text mode l ≡ layer_text mode m → l ≡ m
layer_text-injective mode l m okl okm e =
    let first = one_cut 58 (decimal l.segments) (decimal m.segments) (58 ∷ behind_segments mode l) (58 ∷ behind_segments mode m) (segments_lack l okl) (segments_lack m okm) (inr (behind_segments mode l, refl)) (inr (behind_segments mode m, refl)) (sym (layer_fields mode l) ∙ e ∙ layer_fields mode m) in
    let second = one_cut 58 (modulation_text l.modulation) (modulation_text m.modulation) (58 ∷ behind_modulation mode l) (58 ∷ behind_modulation mode m) (modulation_lacks l) (modulation_lacks m) (inr (behind_modulation mode l, refl)) (inr (behind_modulation mode m, refl)) (ap (drop 1) first.1) in
    let third = one_cut 58 (rate_text l.rate) (rate_text m.rate) (58 ∷ behind_rate mode l) (58 ∷ behind_rate mode m) (rate_lacks l) (rate_lacks m) (inr (behind_rate mode l, refl)) (inr (behind_rate mode m, refl)) (ap (drop 1) second.1) in
    let high_l = okl.1 in
    let high_m = okm.1 in
    same_layer l m (decimal_injective l.segments m.segments (omega (arith, high_l)) (omega (arith, high_m)) first.0) (sym (modulation_from-text l.modulation) ∙ ap modulation_from second.0 ∙ modulation_from-text m.modulation)
    (sym (rate_from-text l.rate) ∙ ap rate_from third.0 ∙ rate_from-text m.rate) (depth_text-injective mode l.depth m.depth (ap (drop 1) third.1))
