use Rattle.std.proofs.Common.{◌≡◌, ℕ, ◌+◌, ◌-◌, ◌*◌, ◌/◌, ◌%◌, List, ◌++◌, length, refl, ap, sym, ◌∙◌, subst, arith}
use Rattle.std.specs.Prelude.{slice_index}
use Rattle.std.proofs.Math.Nat.{mul-le-mul_left}
use Rattle.std.proofs.lemmas.List.{length-append}
use Rattle.isdbt_base.specs.Numbers.{rate_steps, rate_bits}
use Rattle.conv_punct.specs.CodedBits.{bit_of, earlier_bit}
use Rattle.conv_punct.specs.MotherCode.{word_bit, AreNewest, AreMotherBits, AreCoded, ChangesOnly}
use Rattle.conv_punct.specs.StandsFor.{StandsFor, BeginsWith, coded_size, bits_of}
use Rattle.conv_punct.proofs.FeedLaws.{unit-within, patterns-within, patterns-all, whole-patterns, whole-sum, length-piece, piece-bits, newest-fed, newest-six, newest-six-lt}
use Rattle.conv_punct.proofs.ListLaws.{AreCoded-more, ChangesOnly-more, ChangesOnly-none}
use Rattle.conv_punct.proofs.encoder.Encoder.feed.Goals as goal

pub loop-index-init : goal.loop-index-init
loop-index-init c =
    let none : 0 ≡ rate_bits c.args.self.now.rate * (c.unit_of-unit.result.1 * 0) = omega arith in
    record {
      place = none;
      newest = λ fed stream stands begins. (let e : 8 * length fed ≡ 8 * (length fed + c.unit_of-unit.result.0 * 0) = omega arith in
          λ d h. ap (λ w. word_bit w d) c.from-inputs.ensures ∙ newest-fed fed c.args.bytes.now stream c.args.self.now.newest 6 begins stands.newest d h ∙ ap (λ i. earlier_bit (bit_of stream) i (d + 1)) e);
      coded = λ fed stream stands begins j h. absurd (omega arith);
      others = subst (ChangesOnly c.args.out.now c.args.out.now 0) none (ChangesOnly-none c.args.out.now 0);
    }

pub put_coded-at-requires-clause-room : goal.put_coded-at-requires-clause-room
put_coded-at-requires-clause-room c =
    let n = rate_bits c.args.self.now.rate in
    let within = patterns-within c.args.self.now.rate c.unit_of-unit.result.0 c.unit_of-unit.result.1 (length c.args.bytes.now) c.loop-index.index c.unit_of-unit.ensures.patterns c.unit_of-unit.ensures.few.0 c.loop-index-test.true in
    let all = mul-le-mul_left n within in
    omega (arith, all, c.loop-index.invariant.place, c.requires.room)

pub loop-index-preserved : goal.loop-index-preserved
loop-index-preserved c =
    let rate = c.args.self.now.rate in
    let k = rate_steps rate in
    let n = rate_bits rate in
    let size = c.unit_of-unit.result.0 in
    let patterns = c.unit_of-unit.result.1 in
    let m = c.loop-index.index in
    let bytes = c.args.bytes.now in
    let whole = c.unit_of-unit.ensures.patterns in
    let new = c.put_coded-at.new.out in
    let within = unit-within size (length bytes) m c.unit_of-unit.ensures.few.0 c.loop-index-test.true in
    let start : m * size ≡ size * m = omega arith in
    let piece : m * size + size - m * size ≡ size = omega arith in
    let count : n * (patterns * m) + n * patterns ≡ n * (patterns * (m + 1)) = omega arith in
    let place : c.loop-index.at ≡ 0 + n * (patterns * m) = c.loop-index.invariant.place ∙ omega arith in
    let joined : (fed : List ℕ) (stream : ℕ → ℕ) → StandsFor c.args.self.now fed → BeginsWith stream (fed ++ bytes) → AreNewest c.joined-inputs.result (6 + 8 * size) (bit_of stream) (8 * (length fed + size * m) + 8 * size) = λ fed stream stands begins. (
    let i = 8 * (length fed + size * m) in
    let length_of = length-piece bytes (m * size) size (m * size + size - m * size) piece (omega (arith, within, start)) in
    subst (λ s. AreNewest c.joined-inputs.result (6 + 8 * s) (bit_of stream) (i + 8 * s)) length_of
    (c.joined-inputs.ensures (bit_of stream) i (c.loop-index.invariant.newest fed stream stands begins)
    (λ j h. piece-bits fed bytes stream (m * size) size (m * size + size - m * size) piece begins (omega (arith, within, start)) j (omega (arith, h, length_of)) ∙ ap (λ a. bit_of stream (8 * (length fed + a) + j)) start))) in
    record {
      place = omega (arith, c.put_coded-at.ensures.end, c.loop-index.invariant.place);
      newest = λ fed stream stands begins. (let e : 8 * (length fed + size * m) + 8 * size ≡ 8 * (length fed + size * (m + 1)) = omega arith in
          λ d h. joined fed stream stands begins d (omega arith) ∙ ap (λ i. earlier_bit (bit_of stream) i (d + 1)) e);
      coded = λ fed stream stands begins. (
          let u = bit_of stream in
          let before = 8 * length fed / k + patterns * m in
          let i = 8 * (length fed + size * m) + 8 * size in
          let outputs = c.mother_code_of.ensures u (8 * size) i (omega arith) (λ d h. joined fed stream stands begins d (omega arith)) in
          let told : AreMotherBits c.mother_code_of.result (k * patterns) u i = subst (λ n. AreMotherBits c.mother_code_of.result n u i) whole outputs in
          let fed_whole = whole-patterns rate (8 * length fed) stands.step in
          let part : 8 * size * m ≡ k * patterns * m = ap (λ x. x * m) whole in
          let number : n * before ≡ coded_size rate (length fed) + n * (patterns * m) = omega arith in
          subst (λ s. AreCoded rate u (coded_size rate (length fed)) new 0 s) count
          (AreCoded-more rate u (coded_size rate (length fed)) (n * before) c.loop-index.out new 0 (n * (patterns * m)) c.loop-index.at (n * patterns) place number c.put_coded-at.ensures.others
          (c.loop-index.invariant.coded fed stream stands begins)
          (c.put_coded-at.ensures.coded u i before told (omega (arith, fed_whole, part, whole)))));
      others = subst (ChangesOnly c.args.out.now new 0) count (ChangesOnly-more c.args.out.now c.loop-index.out new 0 (n * (patterns * m)) c.loop-index.at (n * patterns) place c.loop-index.invariant.others c.put_coded-at.ensures.others);
    }

pub returns-clause-count : goal.returns-clause-count
returns-clause-count c =
    let rate = c.args.self.now.rate in
    let size = c.unit_of-unit.result.0 in
    let bytes = c.args.bytes.now in
    let whole = c.unit_of-unit.ensures.bytes (length bytes) c.requires.whole in
    let all = patterns-all rate size c.unit_of-unit.result.1 (length bytes) c.unit_of-unit.ensures.patterns c.unit_of-unit.ensures.few.0 whole in
    let last : c.loop-index.index ≡ length bytes / size = omega arith in
    c.loop-index.invariant.place ∙ ap (λ m. rate_bits rate * (c.unit_of-unit.result.1 * m)) last ∙ ap (λ m. rate_bits rate * m) (sym all)

pub returns-clause-state : goal.returns-clause-state
returns-clause-state c = λ fed stands.
    let size = c.unit_of-unit.result.0 in
    let bytes = c.args.bytes.now in
    let len = length bytes in
    let whole = c.unit_of-unit.ensures.bytes len c.requires.whole in
    let last : c.loop-index.index ≡ len / size = omega arith in
    let small = c.unit_of-unit.ensures.few.0 in
    let all : size * (len / size) ≡ len = omega arith in
    let count = length-append fed bytes in
    let place : 8 * (length fed + size * c.loop-index.index) ≡ 8 * length (fed ++ bytes) = (let e : size * c.loop-index.index ≡ len = ap (λ m. size * m) last ∙ all in omega (arith, e, count)) in
    record {
      step = (let e : 8 * length fed + 8 * len ≡ 8 * length (fed ++ bytes) = omega (arith, count) in subst (λ m. m % rate_steps c.args.self.now.rate ≡ 0) e (whole-sum c.args.self.now.rate (8 * length fed) (8 * len) stands.step c.requires.whole));
      newest = newest-six c.loop-index.inputs (bits_of (fed ++ bytes)) (8 * length (fed ++ bytes)) (subst (AreNewest c.loop-index.inputs 6 (bit_of (λ k. slice_index (fed ++ bytes) k))) place (c.loop-index.invariant.newest fed (λ k. slice_index (fed ++ bytes) k) stands (λ k h. refl)));
      only = newest-six-lt c.loop-index.inputs;
    }
