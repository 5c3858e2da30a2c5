use Rattle.std.proofs.Common.{◌≡◌, ℕ, ◌+◌, ◌≤◌, Bool, [], nat_le, get_or, count_by, true, false, refl, arith, ap, sym, ◌∙◌, inl, inr}
use Rattle.std.specs.Prelude.{slice_index, IsTrue, ◌↔◌}
use Rattle.std.specs.List.{range_with_len}
use Rattle.std.proofs.lemmas.Bool.{le-leb, lt-leb, cases_lt}
use Rattle.std.proofs.lemmas.List.{get_or_default}
use Rattle.sample.proofs.Counted.{count-more}
use Rattle.sample.proofs.counting.marked_count.Goals as goal
use Rattle.sample.proofs.counting.marked_count.Goals.{then-error_mark, else-error_mark}

packet-is : (c : goal.Joined-error_mark) → c.index-packets-j.result ≡ get_or c.args.packets.now c.loop-j.j []
packet-is c = c.index-packets-j.is ∙ get_or_default c.args.packets.now c.loop-j.j c.index-packets-j.result [] c.loop-j-test.true

marked_is : (r : Bool) (x : ℕ) → IsTrue r ↔ (128 ≤ x) → nat_le 128 x ≡ r
marked_is true x h = le-leb 128 x (h.0 refl)
marked_is false x h = elim (cases_lt x 128) [ inl below ↦ lt-leb 128 x below | inr above ↦ absurd (let e = h.1 above in cc) ]

marked-at : (c : goal.Joined-error_mark) → nat_le 128 (slice_index (get_or c.args.packets.now c.loop-j.j []) 1) ≡ c.error_mark.result
marked-at c = ap (λ xs. nat_le 128 (slice_index xs 1)) (sym (packet-is c)) ∙ marked_is c.error_mark.result (slice_index c.index-packets-j.result 1) c.error_mark.ensures

pub loop-j-preserved : goal.loop-j-preserved
loop-j-preserved c =
    let now = c.loop-j.invariant in
    let j = c.loop-j.j in
    let marked : ℕ → Bool = λ k. nat_le 128 (slice_index (get_or c.args.packets.now k []) 1) in
    let value = now.value in
    let most = now.most in
    elim c.if-error_mark.branch [
      | then-error_mark w ↦ (let one = w.count-is in record {
        value = one ∙ ap (λ n. n + 1) value ∙ sym (count-more marked j (j + 1) true refl (marked-at c ∙ w.if-error_mark.true));
        most = omega (arith, one, most);
      })
      | else-error_mark w ↦ (let same = w.count-is in record {
        value = same ∙ value ∙ (let e : count_by marked (range_with_len 0 j) ≡ count_by marked (range_with_len 0 j) + 0 = omega arith in e) ∙ sym (count-more marked j (j + 1) false refl (marked-at c ∙ w.if-error_mark.false));
        most = omega (arith, same, most);
      })
    ]
