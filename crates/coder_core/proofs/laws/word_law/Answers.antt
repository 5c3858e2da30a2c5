use Rattle.coder_core.proofs.PlanWords.{read-plan_word}
use Rattle.coder_core.proofs.laws.word_law.Goals as goal

pub returns : goal.returns
returns c = read-plan_word
