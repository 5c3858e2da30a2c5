-- The words of one transmission: mode, guard interval and setting.
use Rattle.std.proofs.Common.{◌≡◌, false, List, [], ◌∷◌, ◌++◌, None, refl, sym, ap, ◌∙◌, arith, lit≤}
use Rattle.std.specs.Prelude.{codes, if◌then◌else◌}
use Rattle.std.specs.Str.{bytes_eq}
use Rattle.isdbt_base.specs.declared.kinds.Mode.{Mode}
use Rattle.isdbt_base.specs.declared.kinds.Mode.TheVariants.{M1, M2, M3}
use Rattle.isdbt_base.specs.declared.kinds.Guard.{Guard}
use Rattle.isdbt_base.specs.declared.kinds.Guard.TheVariants.{G4, G8, G16, G32}
use Rattle.isdbt_base.specs.declared.kinds.Modulation.TheVariants.{Qpsk}
use Rattle.isdbt_base.specs.declared.kinds.Rate.TheVariants.{R12}
use Rattle.isdbt_base.specs.declared.kinds.DepthCode.TheVariants.{D0}
use Rattle.isdbt_base.specs.Parameters.{Parameters, IsAccepted}
use Rattle.isdbt_base.specs.Plans.{Transmission}
use Rattle.isdbt_cli.specs.CommandLines.{transmission_words, IsName}
use Rattle.setting_words.specs.SettingWords.{Word, mode_word, guard_word, setting_word}
use Rattle.isdbt_cli.specs.Parsing.{BeginsWith, IsAny}
use Rattle.setting_words.proofs.SettingWords.{setting_word-injective}

-- ---- a word is of one mode, of one guard interval

mode_from : Word → Mode
mode_from word = if bytes_eq word (codes "1") then M1 else if bytes_eq word (codes "2") then M2 else M3

mode_from-word : (m : Mode) → mode_from (mode_word m) ≡ m
unfolding mode_from
mode_from-word M1 = refl
mode_from-word M2 = refl
mode_from-word M3 = refl

pub mode_word-injective : (m n : Mode) → mode_word m ≡ mode_word n → m ≡ n
mode_word-injective m n e = sym (mode_from-word m) ∙ ap mode_from e ∙ mode_from-word n

guard_from : Word → Guard
guard_from word = if bytes_eq word (codes "1/4") then G4 else if bytes_eq word (codes "1/8") then G8 else if bytes_eq word (codes "1/16") then G16 else G32

guard_from-word : (g : Guard) → guard_from (guard_word g) ≡ g
unfolding guard_from
guard_from-word G4 = refl
guard_from-word G8 = refl
guard_from-word G16 = refl
guard_from-word G32 = refl

pub guard_word-injective : (g h : Guard) → guard_word g ≡ guard_word h → g ≡ h
guard_word-injective g h e = sym (guard_from-word g) ∙ ap guard_from e ∙ guard_from-word h

-- ---- an accepted setting, and a name

pub some_setting : Parameters
some_setting = record { partial = false; a = record { segments = 13; modulation = Qpsk; rate = R12; depth = D0 }; b = None; c = None }

pub some_accepted : IsAccepted some_setting
unfolding some_setting
some_accepted = record {
  a_segments = (lit≤ tt, lit≤ tt);
  b_segments = tt;
  c_segments = tt;
  segments = refl;
  no_gap = tt;
  partial = λ bad. absurd (cc);
}

pub some_name : IsName (codes "a")
some_name = omega arith

-- ---- mode, guard interval and setting

pub same_head : {x y : Word} {xs ys : List Word} → x ∷ xs ≡ y ∷ ys → x ≡ y
same_head e = cc

pub same_tail : {x y : Word} {xs ys : List Word} → x ∷ xs ≡ y ∷ ys → xs ≡ ys
same_tail e = cc

-- what frame 0 sends, and anything behind it
abbrev pub Sent : List Word → Type 0
Sent = BeginsWith (λ t. IsAccepted t.setting) transmission_words

pub sent_mode : (m : Mode) → IsAny m → (more : List Word) × Sent ([] ++ (mode_word m ∷ [] ++ more))
sent_mode m any = (guard_word G4 ∷ setting_word m some_setting ∷ [], (record { mode = m; guard = G4; setting = some_setting }, some_accepted, [], refl))

pub mode_sent : (ws : List Word) → Sent ([] ++ ws) → BeginsWith IsAny (λ m. mode_word m ∷ []) ws
mode_sent ws s = (s.0.mode, tt, guard_word s.0.guard ∷ setting_word s.0.mode s.0.setting ∷ s.2, s.3)

pub sent_guard : (m : Mode) (g : Guard) → IsAny g → (more : List Word) × Sent ((mode_word m ∷ []) ++ (guard_word g ∷ [] ++ more))
sent_guard m g any = (setting_word m some_setting ∷ [], (record { mode = m; guard = g; setting = some_setting }, some_accepted, [], refl))

pub guard_sent : (m : Mode) (ws : List Word) → Sent ((mode_word m ∷ []) ++ ws) → BeginsWith IsAny (λ g. guard_word g ∷ []) ws
guard_sent m ws s = (s.0.guard, tt, setting_word s.0.mode s.0.setting ∷ s.2, same_tail s.3)

pub sent_setting : (m : Mode) (g : Guard) (p : Parameters) → IsAccepted p → (more : List Word) × Sent ((mode_word m ∷ [] ++ guard_word g ∷ []) ++ (setting_word m p ∷ [] ++ more))
sent_setting m g p ok = ([], (record { mode = m; guard = g; setting = p }, ok, [], refl))

pub setting_sent : (m : Mode) (g : Guard) (ws : List Word) → Sent ((mode_word m ∷ [] ++ guard_word g ∷ []) ++ ws) → BeginsWith IsAccepted (λ p. setting_word m p ∷ []) ws
setting_sent m g ws s =
    let mode : m ≡ s.0.mode = mode_word-injective m s.0.mode (same_head s.3) in
    (s.0.setting, s.1, s.2, same_tail (same_tail s.3) ∙ ap (λ n. setting_word n s.0.setting ∷ s.2) (sym mode))

pub same_transmission : (t u : Transmission) (xs ys : List Word) → IsAccepted t.setting → IsAccepted u.setting → transmission_words t ++ xs ≡ transmission_words u ++ ys → (t ≡ u) × (xs ≡ ys)
same_transmission t u xs ys okt oku e =
    let mode : t.mode ≡ u.mode = mode_word-injective t.mode u.mode (same_head e) in
    let guard : t.guard ≡ u.guard = guard_word-injective t.guard u.guard (same_head (same_tail e)) in
    let word : setting_word t.mode t.setting ≡ setting_word u.mode u.setting = same_head (same_tail (same_tail e)) in
    let setting : t.setting ≡ u.setting = setting_word-injective t.mode t.setting u.setting okt oku (word ∙ ap (λ n. setting_word n u.setting) (sym mode)) in (
      ap (λ v. record { mode = v; guard = t.guard; setting = t.setting }) mode ∙ ap (λ v. record { mode = u.mode; guard = v; setting = t.setting }) guard ∙ ap
          (λ v. record { mode = u.mode; guard = u.guard; setting = v }) setting,
      same_tail (same_tail (same_tail e)),
    )
