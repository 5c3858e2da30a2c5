use Rattle.std.proofs.Common.{◌<◌}
use Rattle.sample.specs.SamplePlan.{sample_plan}
use Rattle.sample.specs.Inputs.{number_of}
use Rattle.sample.specs.Tallies.{sample_sent}
use Rattle.sample.specs.Chain.{IsOfFrame, StandsAt, HasRoom}
use Rattle.sample.specs.Counts.{AreBounded, AreCounted}
use Rattle.sample.proofs.running.run_frames.Given as goal

abbrev pub invariant-loop-frame : goal.invariant-loop-frame
invariant-loop-frame l = record {
  of : l.frame < l.fn.span.end → IsOfFrame sample_plan l.frame l.chain;
  stands : l.frame < l.fn.span.end → StandsAt sample_plan (sample_sent (number_of l.fn.sending.inputs.now)) l.frame l.chain;
  room : HasRoom l.buffers;
  bounds : AreBounded l.frame l.counts;
  counted : AreCounted (number_of l.fn.sending.inputs.now) l.fn.span.start l.initial.counts → AreCounted (number_of l.fn.sending.inputs.now) l.frame l.counts;
}
