use Rattle.std.proofs.Common.{◌≡◌, ℕ, ◌+◌, ◌-◌, ◌<◌, [], ◌∷◌, ◌++◌, length, take, drop, get_or, arith, sym, ap, ◌∙◌, length-drop}
use Rattle.std.specs.Prelude.{bit_xor, replicate}
use Rattle.std.proofs.lemmas.List.{get_or-drop, get_or-take, get_or_append_left, get_or-append-add, length-take-le}
use Rattle.gf_rs.specs.Codewords.{codeword_of}
use Rattle.energy_prbs.specs.Sequence.{sequence_byte}
use Rattle.layer_chain.proofs.UnitLaws.{put_goes_on}
use Rattle.layer_chain.proofs.units.unit_of.Goals as goal

-- before the dispersal, bytes 0 to 202 of the unit are bytes 1 to 203 of the codeword
pub returns-clause-bytes : goal.returns-clause-bytes
returns-clause-bytes c = λ n s a h.
    let bytes = c.bytes-bytes.result.now in
    let parity = c.parity.new.out in
    let part = take (length bytes - 1) (drop 1 bytes) in
    let size : length bytes ≡ 188 = ap length c.bytes-bytes.ensures.value ∙ c.bytes-bytes.ensures.packet.size in
    let part_size : length part ≡ 187 = length-take-le (length bytes - 1) (drop 1 bytes) (let e = length-drop 1 bytes in omega (arith, e)) ∙ (let e : length bytes - 1 ≡ 187 = omega (arith, size) in e) in
    let next : ℕ → ℕ = λ k. get_or (codeword_of 16 c.args.packet.now) (k + 1) 0 in
    let word : bytes ++ parity ≡ codeword_of 16 c.args.packet.now = c.parity.ensures.value ∙ ap (codeword_of 16) c.bytes-bytes.ensures.value in
    let at : c.put-at.result ≡ 187 = omega (arith, c.put-at.ensures.end, part_size) in
    let first : (k : ℕ) → k < c.put-at.result → get_or c.put-at.new.out k 0 ≡ next k =
    put_goes_on next (replicate 204 0) c.put-at.new.out part 0 c.put-at.result c.put-at.ensures.end (omega arith) c.put-at.ensures.items (λ k l. absurd (omega arith))
    (λ k l. get_or-take (length bytes - 1) (drop 1 bytes) k 0 (omega (arith, size, part_size, l)) ∙ get_or-drop 1 bytes k 0 ∙ ap (λ m. get_or bytes m 0) (let e : 1 + k ≡ k + 1 = omega arith in e)
    ∙ sym (get_or_append_left bytes parity 0 (k + 1) (omega (arith, size, part_size, l))) ∙ ap (λ xs. get_or xs (k + 1) 0) word ∙ ap next (let e : k ≡ 0 + k = omega arith in e)) in
    let both : (k : ℕ) → k < c.put-at-2.result → get_or c.put-at-2.new.out k 0 ≡ next k =
    put_goes_on next c.put-at.new.out c.put-at-2.new.out parity c.put-at.result c.put-at-2.result c.put-at-2.ensures.end (omega (arith, at, c.put-at.auto.out)) c.put-at-2.ensures.items first
    (λ k l. sym (get_or-append-add bytes parity k 0) ∙ ap (λ m. get_or (bytes ++ parity) m 0) (let e : length bytes + k ≡ c.put-at.result + k + 1 = omega (arith, size, at) in e) ∙ ap (λ xs. get_or xs (c.put-at.result + k + 1) 0) word) in
    let end : c.put-at-2.result ≡ 203 = omega (arith, c.put-at-2.ensures.end, at, c.parity.auto.out) in
    let kept : get_or c.put.new.out a 0 ≡ get_or c.put-at-2.new.out a 0 =
    sym (get_or-take c.put.result c.put.new.out a 0 (omega (arith, c.put.ensures.end, end, h))) ∙ ap (λ xs. get_or xs a 0) c.put.ensures.items
    ∙ get_or_append_left (take c.put-at-2.result c.put-at-2.new.out) (0x47 ∷ []) 0 a (rw (length-take-le c.put-at-2.result c.put-at-2.new.out (omega (arith, end, c.put-at-2.auto.out, c.put-at.auto.out))) (omega (arith, end, h)))
    ∙ get_or-take c.put-at-2.result c.put-at-2.new.out a 0 (omega (arith, end, h)) in
    c.disperse.ensures.dispersed n s a h ∙ ap (λ b. bit_xor b (sequence_byte (n + a))) (kept ∙ both a (omega (arith, end, h)))
