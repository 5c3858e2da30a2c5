use Rattle.std.proofs.Common.{◌<◌}
use Rattle.cell_map.proofs.TableLaws.{qpsk-sent, qam16-sent, qam64-sent}
use Rattle.cell_map.proofs.mapping.cell_of.Goals as goal

pub returns-in-Qpsk : goal.returns-in-Qpsk
returns-in-Qpsk c =
    let few : c.args.bits < 4 = rw c.in-Qpsk.is at c.requires in
    rw c.in-Qpsk.is (qpsk-sent _ _ few c.qpsk_cell.ensures.i c.qpsk_cell.ensures.q)

pub returns-in-Qam16 : goal.returns-in-Qam16
returns-in-Qam16 c =
    let few : c.args.bits < 16 = rw c.in-Qam16.is at c.requires in
    rw c.in-Qam16.is (qam16-sent _ _ few c.qam16_cell.ensures.i c.qam16_cell.ensures.q)

pub returns-in-Qam64 : goal.returns-in-Qam64
returns-in-Qam64 c =
    let few : c.args.bits < 64 = rw c.in-Qam64.is at c.requires in
    rw c.in-Qam64.is (qam64-sent _ _ few c.qam64_cell.ensures.i c.qam64_cell.ensures.q)
