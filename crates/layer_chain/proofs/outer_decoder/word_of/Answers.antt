use Rattle.std.proofs.Common.{◌≡◌, ◌+◌, length, take, arith, sym, ap, ◌∙◌}
use Rattle.std.proofs.lemmas.List.{get_or-take, length-take-le}
use Rattle.std.specs.Prelude.{slice_index, bit_xor, replicate}
use Rattle.energy_prbs.specs.Sequence.{sequence_byte}
use Rattle.layer_chain.proofs.WordAnswers.{put-byte}
use Rattle.layer_chain.proofs.outer_decoder.word_of.Goals as goal

pub slice_bounds-put-length : goal.slice_bounds-put-length
slice_bounds-put-length c = sym (length-take-le 203 c.disperse.new.unit (omega (arith, c.disperse.auto.unit)))

pub put-requires : goal.put-requires
put-requires c = omega (arith, length-take-le 203 c.disperse.new.unit (omega (arith, c.disperse.auto.unit)))

pub returns-clause-bytes : goal.returns-clause-bytes
returns-clause-bytes c = λ n s a h.
    let size : length (take 203 c.disperse.new.unit) ≡ 203 = length-take-le 203 c.disperse.new.unit (omega (arith, c.disperse.auto.unit)) in
    put-byte (replicate 204 0x47) c.put.new.out (take 203 c.disperse.new.unit) c.put.result a c.put.ensures.end (omega arith) c.put.ensures.items (omega (arith, size, h))
    ∙ get_or-take 203 c.disperse.new.unit a 0 h ∙ c.disperse.ensures.dispersed n s a h
    ∙ ap (λ xs. bit_xor (slice_index xs a) (sequence_byte (n + a))) c.copy_from_slice.ensures.after
