use Rattle.std.proofs.Common.{◌<◌, arith}
use Rattle.std.proofs.lemmas.List.Elements.{All-from_get_or}
use Rattle.gf_rs.proofs.Roots.{root_count}
use Rattle.gf_rs.proofs.laws.root_count_law.Goals as goal

pub returns : goal.returns
returns c =
    root_count c.args.coefficients.now c.args.roots.now c.requires.degree
    (All-from_get_or (λ b. b < 256) c.args.coefficients.now 0 (λ k h. omega (arith, c.type_inv.coefficients k)))
    (All-from_get_or (λ b. b < 256) c.args.roots.now 0 (λ k h. omega (arith, c.type_inv.roots k)))
    c.requires.different c.requires.vanishes
