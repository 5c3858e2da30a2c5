use Rattle.std.proofs.Common.{◌*◌, arith, refl, subst}
use Rattle.viterbi_hard.specs.declared.maps.TheConstants.{OWN_LANES}
use Rattle.viterbi_hard.specs.Blocks.{Leads}
use Rattle.viterbi_hard.specs.States.{path_at}
use Rattle.viterbi_hard.proofs.BlockLaws.{kept_read, maps_same}
use Rattle.viterbi_hard.proofs.blocks.Blocks.search.Goals as goal

pub returns-then-self-gt0 : goal.returns-then-self-gt0
returns-then-self-gt0 c = record { traced = λ rs maps kept short. c.read_kept.ensures.traced rs maps kept (omega (arith, c.if-self-gt0.true)) short }

pub returns-then-back-lt16 : goal.returns-then-back-lt16
returns-then-back-lt16 c = record {
  traced = λ rs maps kept short.
      c.trace.ensures.traced rs
      (maps_same c.args.self.now c.meet-back.new.self rs c.meet-back.ensures.maps c.meet-back.ensures.oldest maps)
      (λ n h. subst (λ v. Leads v (8 * c.meet-back.result.1) (path_at rs n)) (c.meet-back.ensures.met c.if-back-lt16.true n h) (c.meet-back.ensures.lead rs maps n h));
}

pub returns : goal.returns
returns c = record {
  traced = λ rs maps kept short.
      c.read_kept-2.ensures.traced rs
      (maps_same c.args.self.now c.meet-back.new.self rs c.meet-back.ensures.maps c.meet-back.ensures.oldest maps)
      (kept_read c.args.self.now (record c.meet-back.new.self { kept = record c.meet-back.new.self.kept { front = OWN_LANES; left = 16 } }) rs (λ b h. c.meet-back.ensures.kept rs maps b (omega (arith, c.if-back-lt16.false))) c.meet-back.ensures.oldest refl)
      (omega arith) (omega arith);
}
