use Rattle.std.proofs.Common.{◌≡◌, ℕ, ◌+◌, ◌-◌, ◌*◌, ◌/◌, ◌<◌, cond, [], length, take, get_or, sum, count_by, arith, ap, sym, ◌∙◌, subst}
use Rattle.std.specs.Prelude.{sum_by}
use Rattle.std.specs.List.{range_with_len}
use Rattle.std.proofs.lemmas.List.{length-take-le}
use Rattle.coder_core.specs.InputFrames.{packet_in}
use Rattle.sample.specs.Generator.{made_packet}
use Rattle.sample.specs.SampleInputs.{sample_input, input_packets, seed_of}
use Rattle.sample.specs.Counting.{AreCompared}
use Rattle.sample.specs.declared.places.Share.{Share}
use Rattle.sample.specs.Places.{sample_share, due_in, given_before}
use Rattle.sample.specs.Tallies.{sample_received, is_met}
use Rattle.sample.specs.LayerCounts.{IsCounted}
use Rattle.sample.proofs.InputLaws.{length-input}
use Rattle.sample.proofs.PlaceLaws.{due_of, given-more}
use Rattle.sample.proofs.TallyLaws.{tally-met, tally-sum, tally-more, compared, marked-are}
use Rattle.sample.proofs.layer_counts.count_layer.Goals as goal

-- as many packets as the layer has
size-is : (c : goal.After-count-2-1) → length c.gather.new.packets ≡ c.args.of.share.packets
size-is c = c.gather.auto.packets ∙ length-take-le c.args.of.share.packets c.args.packets.now c.requires.room

due-size : (c : goal.After-count-2-1) → length (take c.due_packets-due.result c.gather.new.packets) ≡ c.due_packets-due.result
due-size c = length-take-le c.due_packets-due.result c.gather.new.packets (let size = size-is c in let most = c.due_packets-due.ensures.packets in omega (arith, size, most))

pub returns-clause-bounds : goal.returns-clause-bounds
returns-clause-bounds c =
    let old = c.requires.bounds in
    let size = size-is c in
    let due = due-size c in
    let left = c.due_packets-due.ensures.left in
    record {
      given = (let given = old.given in omega (arith, given, left));
      met = (let most = c.count_met.ensures.met_most in omega (arith, most, due));
      sum = (let most = c.count_met.ensures.sum_most in omega (arith, most, due));
      marked = (let so_far = old.marked in let same = c.count_met.ensures.marked in let most = c.marked_count.ensures.most in let few = c.requires.few in omega (arith, so_far, same, most, size, few));
    }

module _ (c : goal.After-count-2-1) (number : ℕ) (is_input : c.args.of.input.now ≡ sample_input number c.args.of.layer) (is_share : c.args.of.share ≡ sample_share c.args.of.layer c.args.of.frame) (less : c.args.of.frame < 15)
    (got : (j : ℕ) → j < c.args.of.share.packets → packet_in c.args.of.out.now c.args.of.layer j ≡ sample_received number c.args.of.frame c.args.of.layer j)
    (counted : IsCounted number c.args.of.layer c.args.of.frame c.args.count.now) where
  -- as many are due as the frame gives out
  due-is : c.due_packets-due.result ≡ due_of c.args.of.layer c.args.of.frame
  due-is =
      let size : length c.args.of.input.now ≡ 188 * input_packets c.args.of.layer = ap length is_input ∙ length-input number c.args.of.layer in
      let given = counted.given in
      let left : length c.args.of.input.now / 188 - c.args.count.now.given ≡ input_packets c.args.of.layer - given_before c.args.of.layer c.args.of.frame = omega (arith, size, given) in
      c.due_packets-due.ensures.value ∙ ap (λ s. due_in s c.args.of.frame (length c.args.of.input.now / 188 - c.args.count.now.given)) is_share
      ∙ ap (due_in (sample_share c.args.of.layer c.args.of.frame) c.args.of.frame) left

  given-is : c.args.count.now.given + c.due_packets-due.result ≡ given_before c.args.of.layer (c.args.of.frame + 1)
  given-is = (let given = counted.given in let due = due-is in let more = given-more c.args.of.layer c.args.of.frame less in omega (arith, given, due, more))

  received : (j : ℕ) → j < c.args.of.share.packets → get_or c.gather.new.packets j [] ≡ sample_received number c.args.of.frame c.args.of.layer j
  received j l = c.gather.ensures j (let size = size-is c in omega (arith, size, l)) ∙ got j l

  are : AreCompared (is_met number c.args.of.layer) (made_packet (seed_of number c.args.of.layer)) c.args.of.input.now c.args.count.now.given (take c.due_packets-due.result c.gather.new.packets)
  are =
      subst (λ n. AreCompared (is_met number c.args.of.layer) (made_packet (seed_of number c.args.of.layer)) c.args.of.input.now n (take c.due_packets-due.result c.gather.new.packets)) (sym counted.given)
      (compared number c.args.of.layer c.args.of.frame c.args.of.share.packets c.gather.new.packets less (size-is c) received c.due_packets-due.result c.args.of.input.now is_input due-is c.due_packets-due.ensures.packets)

  -- where the counting ends
  end-is : c.args.count.now.given + length (take c.due_packets-due.result c.gather.new.packets) ≡ given_before c.args.of.layer (c.args.of.frame + 1)
  end-is = ap (λ n. c.args.count.now.given + n) (due-size c) ∙ given-is

  share-packets : c.args.of.share.packets ≡ (sample_share c.args.of.layer c.args.of.frame).packets
  share-packets = ap (λ (s : Share). s.packets) is_share

  all : IsCounted number c.args.of.layer (c.args.of.frame + 1) (record {
    given = c.args.count.now.given + c.due_packets-due.result;
    tally = record { met = c.count_met.new.tally.met; marked = c.count_met.new.tally.marked + c.marked_count.result; sum = c.count_met.new.tally.sum };
  })
  all =
      let x = c.args.of.layer in
      let f = c.args.of.frame in
      let first = c.args.count.now.given in
      let met = is_met number x in
      let packet = made_packet (seed_of number x) in
      record {
        given = given-is;
        tally = tally-more number x (given_before x f) (given_before x (f + 1)) f c.marked_count.result c.args.count.now.tally _ counted.tally
            (c.count_met.ensures.met met packet are (tally-met number x (given_before x f) f c.args.count.now.tally counted.tally ∙ ap (λ n. count_by met (range_with_len 0 n)) (sym counted.given))
            ∙ ap (λ n. count_by met (range_with_len 0 n)) end-is)
            (c.count_met.ensures.sum met packet are (tally-sum number x (given_before x f) f c.args.count.now.tally counted.tally ∙ ap (λ n. sum_by (λ i. cond (met i) (sum (packet i)) 0) (range_with_len 0 n)) (sym counted.given))
            ∙ ap (λ n. sum_by (λ i. cond (met i) (sum (packet i)) 0) (range_with_len 0 n)) end-is)
            (ap (λ n. n + c.marked_count.result) c.count_met.ensures.marked)
            (c.marked_count.ensures.value ∙ marked-are number x f c.args.of.share.packets c.gather.new.packets less (size-is c) received share-packets);
      }

pub returns-clause-counted : goal.returns-clause-counted
returns-clause-counted c = λ number is_input is_share less got counted. all c number is_input is_share less got counted
