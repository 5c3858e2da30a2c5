use Rattle.isdbt_base.specs.declared.kinds.Layer.TheVariants.{A, B}
use Rattle.sample.proofs.FrameCounts.{counted-none}
use Rattle.sample.proofs.running.no_counts.Goals as goal

pub returns-clause-counted : goal.returns-clause-counted
returns-clause-counted c = λ number. record {
  a = counted-none number A c.none-none.result c.none-none.ensures.given c.none-none.ensures.tally;
  b = counted-none number B c.none-none.result c.none-none.ensures.given c.none-none.ensures.tally;
}
