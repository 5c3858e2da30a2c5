-- How the word of a setting is read: its parts.
use Rattle.std.specs.Prelude.{◌≡◌, ◌≢◌, ℕ, EachIndex, slice_index, Option, Some, None, IfSome, [], ◌++◌, codes}
use Rattle.std.specs.Borrow.{Bor}
use Rattle.isdbt_base.specs.declared.kinds.Mode.{Mode}
use Rattle.isdbt_base.specs.LayerParameters.{LayerParameters}
use Rattle.isdbt_base.specs.Parameters.{Parameters, HasSegmentsIfUsed, HasNoGap, IsAccepted}
use Rattle.setting_words.specs.SettingWords.{Word, other_layer_text, setting_word}

abbrev pub comma : ℕ
comma = 44

-- no byte of the text is this one
abbrev pub Lacks : ℕ → Word → Type 0
Lacks byte text = EachIndex text (λ i. slice_index text i ≢ byte)

-- a comma and what stands behind it, if there is one
abbrev pub behind_comma : Option (Bor Word) → Word
behind_comma None = []
behind_comma (Some text) = codes "," ++ text.now

-- layers B and C as they stand behind layer A
abbrev pub other_layers_text : Mode → Option LayerParameters → Option LayerParameters → Word
other_layers_text mode b c = other_layer_text mode (codes "B") b ++ other_layer_text mode (codes "C") c

-- layers B and C may be so
pub record AreOthers (b c : Option LayerParameters) : Type 0 where
  pub b_segments : HasSegmentsIfUsed b
  pub c_segments : HasSegmentsIfUsed c
  pub no_gap : HasNoGap b c

-- this is read of a word: the setting that it spells, and None exactly where it spells no accepted setting
pub record IsRead (mode : Mode) (word : Word) (s : Option Parameters) : Type 0 where
  pub spelled : IfSome s (λ t. word ≡ setting_word mode t)
  pub found : (t : Parameters) → IsAccepted t → word ≡ setting_word mode t → s ≡ Some t
