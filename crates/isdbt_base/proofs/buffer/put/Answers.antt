use Rattle.std.proofs.Common.{◌≡◌, ◌+◌, ◌-◌, ap, arith, length}
use Rattle.std.proofs.lemmas.Slice.{drop-put_mid}
use Rattle.isdbt_base.proofs.buffer.put.Goals as goal

pub returns-clause-rest : goal.returns-clause-rest
returns-clause-rest g c =
    let end = c.args.at + length c.args.part.now in
    let all : length c.copy_from_slice.new.self ≡ length c.args.part.now = ap length c.copy_from_slice.ensures.after in
    drop-put_mid c.args.at (end - c.args.at) c.args.out.now c.copy_from_slice.new.self end
    (omega arith) (omega (arith, c.requires)) (omega (arith, all))
