use Rattle.std.proofs.Common.{◌≡◌, ℕ, ◌-◌, ◌<◌, ap, ◌∙◌, length, length-drop, drop, arith}
use Rattle.std.proofs.lemmas.List.Elements.{All-from_get_or}
use Rattle.gf_rs.specs.Field.{gf_pow}
use Rattle.gf_rs.specs.Codewords.{value_at, added, IsBytes}
use Rattle.gf_rs.proofs.OneCodeword.{rest-of, remainder-value, codeword-from_zeros, zeros-from_codeword}
use Rattle.gf_rs.proofs.rs.Rs.remainder.Goals as goal

pub returns : goal.returns
returns g c =
    let r = g.row.ROOTS in
    let word = c.args.word.now in
    let rest = c.add_all.new.bytes in
    let parity = c.parity.new.out in
    let n = length word - r in
    let size : length (drop n word) ≡ length parity = length-drop n word ∙ (omega arith) in
    let is : rest ≡ added parity (drop n word) = c.add_all.ensures ∙ ap (added parity) (rest-of n word) in
    let values : (i : ℕ) → i < r → value_at rest (gf_pow 2 i) ≡ value_at word (gf_pow 2 i) =
    λ i h. ap (λ l. value_at l (gf_pow 2 i)) is ∙ remainder-value r n word parity size c.parity.ensures.codeword i h in
    let word_bytes : IsBytes word = All-from_get_or (λ b. b < 256) word 0 (λ k h. omega (arith, c.type_inv.word k)) in
    let rest_bytes : IsBytes rest = All-from_get_or (λ b. b < 256) rest 0 (λ k h. omega (arith, c.type_inv.rest k)) in
    record {
      values = values;
      zero = (codeword-from_zeros r word rest word_bytes values, zeros-from_codeword r word rest (omega arith) (omega arith) rest_bytes values);
    }
