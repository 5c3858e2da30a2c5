use Rattle.sample.specs.Inputs.{number_of}
use Rattle.sample.proofs.running.run_sending.Goals as goal

pub run_epochs-requires-clause-none : goal.run_epochs-requires-clause-none
run_epochs-requires-clause-none c = c.no_counts-counts.ensures.counted (number_of c.args.sending.inputs.now)
