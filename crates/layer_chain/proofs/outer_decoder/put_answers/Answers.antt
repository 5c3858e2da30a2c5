use Rattle.std.proofs.Common.{rules, ◌≡◌, ◌+◌, ◌*◌, ◌/◌, ◌<◌, length, take, get_or, arith, sym, subst, ap, ◌∙◌}
use Rattle.std.specs.Prelude.{bit_xor}
use Rattle.energy_prbs.specs.StandsFor.{StandsFor}
use Rattle.energy_prbs.specs.Sequence.{sequence_byte}
use Rattle.layer_chain.specs.OuterWords.{outer_answer}
use Rattle.layer_chain.specs.UnitWords.{word_in}
use Rattle.layer_chain.proofs.LaidPackets.{AreLaid, laid-none, laid-more, laid-all}
use Rattle.layer_chain.proofs.WordAnswers.{word-is, unit-byte}
use Rattle.layer_chain.proofs.outer_decoder.put_answers.Goals as goal

pub loop-init : goal.loop-init
loop-init c = record {
  room = c.requires;
  unit = omega arith;
  at = omega arith;
  state = search rules;
  laid = laid-none _ _;
}

pub put-at-requires : goal.put-at-requires
put-at-requires c =
    let size : length c.bytes.result.now ≡ 188 = ap length c.bytes.ensures.value ∙ c.bytes.ensures.packet.size in
    omega (arith, size, c.loop.invariant.room, c.loop.invariant.at, c.loop-test.true)

pub loop-preserved : goal.loop-preserved
loop-preserved c =
    let units = c.args.units.now in
    let t = length units / 204 in
    let j = c.loop.counter in
    let low : j < t = c.loop-test.true in
    let part = c.bytes.result.now in
    let wide : length c.word_of.result ≡ 204 = search rules in
    let size : length part ≡ 188 = ap length c.bytes.ensures.value ∙ c.bytes.ensures.packet.size in
    let end : c.put-at.result ≡ c.loop.at + 188 = omega (arith, size, c.put-at.ensures.end) in
    let word : c.word_of.result ≡ word_in t units j = word-is t j units c.word_of.result low wide c.word_of.ensures.sync (λ a h.
    c.word_of.ensures.bytes _ c.loop.invariant.state a h
    ∙ ap (λ b. bit_xor b (sequence_byte (204 * j + a))) (unit-byte units c.loop.unit a (omega arith) ∙ ap (λ n. get_or units (n + a) 0) c.loop.invariant.unit)) in
    record {
      room = omega (arith, c.put-at.auto.out, c.loop.invariant.room);
      unit = omega arith;
      at = omega (arith, end, c.loop.invariant.at);
      state = (let e : 204 * j + 204 ≡ 204 * (j + 1) = omega arith in subst (StandsFor _) e (c.word_of.ensures.state _ c.loop.invariant.state));
      laid = laid-more (λ k. outer_answer (word_in t units k)) c.loop.out c.put-at.new.out part j c.loop.at c.loop.invariant.at (omega (arith, c.loop.invariant.room, c.loop.invariant.at, low)) size
          (ap (λ n. take n c.put-at.new.out) (sym end) ∙ c.put-at.ensures.items)
          (c.bytes.ensures.value ∙ c.answer_of-answer.ensures ∙ ap outer_answer word) c.loop.invariant.laid;
    }

pub returns : goal.returns
returns c =
    let t = length c.args.units.now / 204 in
    let end : c.loop.counter ≡ t = omega arith in
    laid-all _ c.loop.out t c.loop.invariant.room (subst (AreLaid (λ j. outer_answer (word_in t c.args.units.now j)) c.loop.out) end c.loop.invariant.laid)
