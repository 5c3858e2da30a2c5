use Rattle.std.proofs.Common.{get_or, ◌∙◌, arith}
use Rattle.gf_rs.specs.Field.{gf_pow}
use Rattle.gf_rs.specs.Polynomials.{byte_of}
use Rattle.gf_rs.proofs.Generators.{value_to-cong}
use Rattle.gf_rs.proofs.products.put_parity_16.Goals as goal

pub returns : goal.returns
returns c = λ i h.
    value_to-cong (λ j. get_or c.put_bytes.new.out j 0) (byte_of c.register_after.result) 15 (gf_pow 2 i) (λ j k. c.put_bytes.ensures j (omega (arith, k))) ∙ c.register_after.ensures i h
