use Rattle.std.proofs.Common.{◌≡◌, ◌+◌, ◌-◌, ◌*◌, [], take, drop, get_or, sum, true, false, arith, ap, sym, ◌∙◌}
use Rattle.std.specs.Str.{bytes_eq}
use Rattle.std.proofs.lemmas.List.{get_or_default, length-take}
use Rattle.ts_packet.specs.Packets.{piece}
use Rattle.sample.specs.declared.counting.Tally.{Tally}
use Rattle.sample.proofs.Counted.{met-step, sum-step}
use Rattle.sample.proofs.counting.count_met.Goals as goal
use Rattle.sample.proofs.counting.count_met.Goals.{then-is_same, else-is_same}

-- the part of the input is its packet
part-is : (c : goal.Joined-is_same) → take (188 * (c.args.first + c.loop-j.j) + 188 - 188 * (c.args.first + c.loop-j.j)) (drop (188 * (c.args.first + c.loop-j.j)) c.args.input.now) ≡ piece 188 c.args.input.now (c.args.first + c.loop-j.j)
part-is c = ap (λ n. take n (drop (188 * (c.args.first + c.loop-j.j)) c.args.input.now)) (let e : 188 * (c.args.first + c.loop-j.j) + 188 - 188 * (c.args.first + c.loop-j.j) ≡ 188 = omega arith in e)

test-is : (c : goal.Joined-is_same) → c.is_same.result ≡ bytes_eq (get_or c.args.packets.now c.loop-j.j []) (piece 188 c.args.input.now (c.args.first + c.loop-j.j))
test-is c =
    c.is_same.ensures
    ∙ ap (λ xs. bytes_eq xs (take (188 * (c.args.first + c.loop-j.j) + 188 - 188 * (c.args.first + c.loop-j.j)) (drop (188 * (c.args.first + c.loop-j.j)) c.args.input.now)))
    (c.index-packets-j.is ∙ get_or_default c.args.packets.now c.loop-j.j c.index-packets-j.result [] c.loop-j-test.true)
    ∙ ap (bytes_eq (get_or c.args.packets.now c.loop-j.j [])) (part-is c)

pub loop-j-preserved : goal.loop-j-preserved
loop-j-preserved c =
    let now = c.loop-j.invariant in
    let first = c.args.first in
    let j = c.loop-j.j in
    elim c.if-is_same.branch [
      | then-is_same w ↦ (
          let yes : true ≡ bytes_eq (get_or c.args.packets.now j []) (piece 188 c.args.input.now (first + j)) = sym w.if-is_same.true ∙ test-is c in
          let met = ap (λ (t : Tally). t.met) w.tally-is in
          let bytes = ap (λ (t : Tally). t.sum) w.tally-is in
          let size = length-take (188 * (first + j) + 188 - 188 * (first + j)) (drop (188 * (first + j)) c.args.input.now) in
          let most = w.byte_sum.ensures.most in
          record {
            met_most = (let so_far = now.met_most in omega (arith, so_far, met));
            sum_most = (let so_far = now.sum_most in omega (arith, so_far, bytes, size, most));
            marked = ap (λ (t : Tally). t.marked) w.tally-is ∙ now.marked;
            met = λ met' packet are start. met-step met' packet c.args.input.now first c.args.packets.now are j c.loop-j-test.true true yes c.loop-j.tally.met c.if-is_same.tally.met met (now.met met' packet are start);
            sum = λ met' packet are start. sum-step met' packet c.args.input.now first c.args.packets.now are j c.loop-j-test.true true yes c.loop-j.tally.sum c.if-is_same.tally.sum
                (bytes ∙ ap (λ n. c.loop-j.tally.sum + n) (w.byte_sum.ensures.value ∙ ap sum (part-is c))) (now.sum met' packet are start);
          })
      | else-is_same w ↦ (
          let no : false ≡ bytes_eq (get_or c.args.packets.now j []) (piece 188 c.args.input.now (first + j)) = sym w.if-is_same.false ∙ test-is c in
          let met = ap (λ (t : Tally). t.met) w.tally-is in
          let bytes = ap (λ (t : Tally). t.sum) w.tally-is in
          record {
            met_most = (let so_far = now.met_most in omega (arith, so_far, met));
            sum_most = (let so_far = now.sum_most in omega (arith, so_far, bytes));
            marked = ap (λ (t : Tally). t.marked) w.tally-is ∙ now.marked;
            met = λ met' packet are start. met-step met' packet c.args.input.now first c.args.packets.now are j c.loop-j-test.true false no c.loop-j.tally.met c.if-is_same.tally.met
                (let e : c.if-is_same.tally.met ≡ c.loop-j.tally.met + 0 = omega (arith, met) in e) (now.met met' packet are start);
            sum = λ met' packet are start. sum-step met' packet c.args.input.now first c.args.packets.now are j c.loop-j-test.true false no c.loop-j.tally.sum c.if-is_same.tally.sum
                (let e : c.if-is_same.tally.sum ≡ c.loop-j.tally.sum + 0 = omega (arith, bytes) in e) (now.sum met' packet are start);
          })
    ]
