-- The words of a plan read back.
use Rattle.std.proofs.Common.{◌≡◌, ℕ, ◌%◌, arith, Ok}
use Rattle.std.specs.Prelude.{◌==◌}
use Rattle.isdbt_base.specs.Plans.{Schedule, IsPlan}
use Rattle.tmcc_word.specs.Reading.{read}
use Rattle.tmcc_word.proofs.ReadBack.{read-word_of}
use Rattle.coder_core.specs.SentCells.{plan_word, plan_info}
use Rattle.isdbt_base.proofs.PlanEpochs.{at_countdown-le, setting_accepted}
use Rattle.coder_core.proofs.NextEpoch.{next_accepted}

-- the word of a frame of a plan reads as the plan has it
pub read-plan_word : (p : Schedule) (f : ℕ) → IsPlan p → read (plan_word p f) ≡ Ok (plan_info p f, f % 2 == 1)
read-plan_word p f h =
    read-word_of (plan_info p f) (f % 2 == 1) (record {
      countdown = (let k = at_countdown-le p f in omega (arith, k));
      now = setting_accepted p f h;
      next = next_accepted p f h;
    })
