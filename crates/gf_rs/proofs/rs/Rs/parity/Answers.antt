use Rattle.std.proofs.Common.{◌<◌, ◌++◌, arith}
use Rattle.std.proofs.lemmas.List.Elements.{All-from_get_or}
use Rattle.gf_rs.specs.Codewords.{IsCodeword, IsBytes}
use Rattle.gf_rs.proofs.Steps.{codeword-append}
use Rattle.gf_rs.proofs.Systematic.{codeword-only}
use Rattle.gf_rs.proofs.rs.Rs.parity.Given.{Over}
use Rattle.gf_rs.proofs.rs.Rs.parity.Goals as goal

code : (g : Over) (c : goal.After-slice_known-2-1 g) → IsCodeword g.row.ROOTS (c.args.message.now ++ c.put_parity.new.out)
code g c =
    let out = c.put_parity.new.out in
    codeword-append g.row.ROOTS c.args.message.now out (omega arith) (omega arith) (All-from_get_or (λ b. b < 256) c.args.message.now 0 (λ k h. omega (arith, c.type_inv.message k)))
    (All-from_get_or (λ b. b < 256) out 0 (λ k h. omega (arith, c.type_inv.out k))) c.put_parity.ensures

pub returns-clause-codeword : goal.returns-clause-codeword
returns-clause-codeword g c = code g c

pub returns-clause-value : goal.returns-clause-value
returns-clause-value g c =
    let r = g.row.ROOTS in
    let m = c.args.message.now in
    let bytes : IsBytes m = All-from_get_or (λ b. b < 256) m 0 (λ k h. omega (arith, c.type_inv.message k)) in
    codeword-only r m c.put_parity.new.out (omega arith) (omega arith) bytes (omega arith) (code g c)
