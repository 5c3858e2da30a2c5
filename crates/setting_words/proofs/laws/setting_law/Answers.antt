use Rattle.setting_words.proofs.SettingWords.{setting_word-injective}
use Rattle.setting_words.proofs.laws.setting_law.Goals as goal

pub returns-clause-one : goal.returns-clause-one
returns-clause-one c = setting_word-injective
