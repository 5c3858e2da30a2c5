use Rattle.isdbt_base.specs.declared.kinds.Layer.TheVariants.{A, B, C}
use Rattle.isdbt_base.specs.Numbers.{first_segment}
use Rattle.seg_receiver.proofs.receiver.Receiver.open.Goals as goal

pub returns-clause-state : goal.returns-clause-state
returns-clause-state c = λ cell start.
    let s = c.args.setting.now in
    record {
      a_stands = (c.in_ok-a.ensures {u = tt}).state cell start (first_segment s A);
      b_stands = (c.in_ok-b.ensures {u = tt}).state cell start (first_segment s B);
      c_stands = (c.in_ok-c.ensures {u = tt}).state cell start (first_segment s C);
    }
