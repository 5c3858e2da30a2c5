use Rattle.std.proofs.Common.{◌≡◌, ℕ, ◌+◌, ◌-◌, ◌⊎◌, inl, inr, length, min, sym, ◌∙◌, arith}
use Rattle.std.proofs.lemmas.Bool.{cases_lt}
use Rattle.delay_line.proofs.Turns.{turns-of}
use Rattle.delay_line.proofs.PathLaws.{path-held, path-others}
use Rattle.delay_line.proofs.line.Line.feed_path.Goals as goal

-- all that is held goes out, or no turn passes
count-cases : (count delay turns : ℕ) → count ≡ min delay turns → (count ≡ delay) ⊎ (turns - count ≡ 0)
count-cases count delay turns is = elim (cases_lt delay turns) [ inl below ↦ inl (omega arith) | inr above ↦ inr (omega arith) ]

pub returns-clause-held : goal.returns-clause-held
returns-clause-held g c = λ d.
    path-held c.args.paths c.args.path c.min-count.result c.args.turns c.args.self.now c.exchange_path.new.self c.args.input.now c.exchange_path.new.output d (sym (turns-of c.args.paths c.args.turns (length c.args.input.now) c.requires.input (omega arith))) (sym (turns-of c.args.paths c.args.turns (length c.exchange_path.new.output) (omega (arith, c.requires.output, c.pass_path.auto.output, c.exchange_path.auto.output)) (omega arith))) (omega (arith, c.min-count.ensures)) (count-cases c.min-count.result (length c.args.self.now) c.args.turns (omega (arith, c.min-count.ensures, c.delay.ensures))) (c.exchange_path.ensures.held d)
    (λ k before. c.exchange_path.ensures.later (c.min-count.result + k) d (omega arith) ∙ c.pass_path.ensures.passed k d before)

pub returns-clause-others : goal.returns-clause-others
returns-clause-others g c = λ p d path other.
    path-others c.args.paths c.args.path p c.exchange_path.new.output c.pass_path.new.output c.args.output.now d path other (omega (arith, c.pass_path.auto.output, c.exchange_path.auto.output)) c.pass_path.ensures.others c.exchange_path.ensures.others
