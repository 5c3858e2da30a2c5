use Rattle.std.proofs.Common.{◌<◌, arith}
use Rattle.std.proofs.lemmas.List.Elements.{All-from_get_or}
use Rattle.gf_rs.proofs.Systematic.{codeword-is, codeword-length, codeword-only}
use Rattle.gf_rs.proofs.laws.codeword_law.Goals as goal

pub returns : goal.returns
returns c =
    let bytes = All-from_get_or (λ b. b < 256) c.args.message.now 0 (λ k h. omega (arith, c.type_inv.message k)) in
    record {
      size = codeword-length c.args.roots c.args.message.now c.requires;
      codeword = codeword-is c.args.roots c.args.message.now c.requires bytes;
      only = λ tail size code. codeword-only c.args.roots c.args.message.now tail c.requires (omega arith) bytes size code;
    }
