use Rattle.std.proofs.Common.{◌≡◌, ℕ, ◌+◌, ◌-◌, ◌*◌, List, [], length, get_or, refl, ap, ◌∙◌, arith}
use Rattle.std.specs.Int.{bit_at}
use Rattle.std.proofs.lemmas.List.{with_items_is, get_or_read}
use Rattle.layer_chain.proofs.BitPathLaws.{FedLines-none, FedLines-more, all-bits}
use Rattle.layer_chain.proofs.bit_paths.BitPaths.feed.Goals as goal

pub loop-bit-init : goal.loop-bit-init
loop-bit-init c = record { room = refl; fed = FedLines-none c.args.self.now.lines.items c.args.input.now c.clear.new.numbers c.clear.ensures }

pub loop-bit-preserved : goal.loop-bit-preserved
loop-bit-preserved c =
    let lines0 : List (List ℕ) = c.args.self.now.lines.items in
    let lines : List (List ℕ) = c.loop-bit.self.lines.items in
    let bit = c.loop-bit.bit in
    let late = c.feed.new.output in
    let size : length late ≡ length c.args.input.now = omega arith in
    let read : c.deref.result.now ≡ late = c.deref.ensures.value ∙ with_items_is c.loop-bit.self.late late (omega arith) in
    let place : c.len-width.result - 1 - bit ≡ length lines0 - 1 - bit = omega arith in
    let line : c.index_mut.result.now ≡ get_or lines bit [] = get_or_read lines bit c.index_mut.result.now (omega arith) c.index_mut.ensures.value [] in
    record {
      room = omega arith;
      fed = FedLines-more lines0 lines c.args.input.now late c.loop-bit.output c.add_bits.new.numbers c.index_mut.result.now c.feed.new.self bit (omega arith) line size c.feed.ensures.held
          (λ k h. c.add_bits.ensures k (omega (arith, h)) ∙ ap (λ xs. 2 * get_or c.loop-bit.output k 0 + bit_at (get_or xs k 0) (c.len-width.result - 1 - bit)) read
          ∙ ap (λ n. 2 * get_or c.loop-bit.output k 0 + bit_at (get_or late k 0) n) place) c.loop-bit.invariant.fed;
    }

pub returns-clause-given : goal.returns-clause-given
returns-clause-given c = λ delay h stands k inside.
    let end : c.loop-bit.bit ≡ length c.args.self.now.lines.items = omega arith in
    c.loop-bit.invariant.fed.given delay h stands k inside ∙ all-bits (length c.args.self.now.lines.items) c.loop-bit.bit end delay h c.args.input.now k
