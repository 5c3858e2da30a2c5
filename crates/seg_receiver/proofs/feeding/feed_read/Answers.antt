use Rattle.std.proofs.Common.{◌≡◌, ◌+◌, ◌-◌, ◌*◌, ◌≤◌, ℕ, List, length, take, drop, ap, sym, ◌∙◌, subst, arith, refl, length-drop}
use Rattle.std.proofs.lemmas.List.{length-take-le}
use borrow.Rule.Slice.PartMut.{put_mid, mid_of, same_len_mid}
use Rattle.isdbt_base.specs.Numbers.{carriers}
use Rattle.edge_io.specs.declared.shelf.Seat.TheVariants as seats
use Rattle.seg_receiver.specs.CellStream.{symbol_size}
use Rattle.seg_receiver.specs.Receiver.{IsSymbolOf}
use Rattle.seg_receiver.specs.EpochReceiver.{mode_of, segments_of, symbols_of}
use Rattle.seg_receiver.proofs.FrameParts.{Holds, holds-none, holds-more, came-short, came-whole, stopped-in, full-part}
use Rattle.seg_receiver.proofs.SymbolPlaces.{is-symbol}
use Rattle.seg_receiver.proofs.feeding.feed_read.Goals as goal

pub loop-k-init : goal.loop-k-init
loop-k-init g c = record {
  symbols = c.requires.fresh;
  mode = refl;
  segments = refl;
  receiver_kept = λ partial m g s is. is;
  is_open = c.requires.is_open;
  still_open = refl;
  kept = refl;
  told = λ rest told. subst (Holds c.args.frame.now rest (g.H.Shelf.left c.args.shelf.now seats.In)) (let e : 0 ≡ 0 * c.symbol_size-size.result = omega arith in e) (holds-none c.args.frame.now rest _ told);
  stands = λ rest told cell start h stands shows. stands;
}

-- the part of a frame from byte `from` on has so many bytes
part-size : (frame part : List ℕ) (from size : ℕ) → from + size ≤ length frame → length part ≡ length (mid_of from (from + size - from) frame) → length part ≡ size
part-size frame part from size fits same =
    let rest = length-drop from frame in
    same ∙ length-take-le (from + size - from) (drop from frame) (omega (arith, rest, fits)) ∙ (let e : from + size - from ≡ size = omega arith in e)

-- its end is within the frame
fits-in : (frame : List ℕ) (from size n : ℕ) → from + size ≤ 204 * size → size ≡ n → length frame ≡ 204 * n → from + size ≤ length frame
fits-in frame from size n end is all = (let e = ap (λ m. 204 * m) is in omega (arith, end, e, all))

pub loop-k-preserved : goal.loop-k-preserved
loop-k-preserved g c =
    let frame = c.loop-k.frame in
    let part = c.read_symbol.new.symbol in
    let from = c.symbol_start-from.result in
    let size = c.symbol_size-size.result in
    let value = c.symbol_size-size.ensures.value in
    let fits : from + size ≤ length frame = fits-in frame from size (symbol_size c.args.mode) c.symbol_start-from.ensures.end value (c.loop-k.auto.frame ∙ c.requires.size) in
    let sized : length part ≡ size = part-size frame part from size fits c.read_symbol.auto.symbol in
    let full : c.in-Ok.count ≡ length part = (let most = c.in-Ok.ensures.most in let least = c.if-count-size.false in omega (arith, most, least, sized)) in
    let start : from ≡ c.loop-k.k * size = c.symbol_start-from.ensures.value in
    record {
      symbols = c.take_symbol.ensures.symbols ∙ ap (λ n. n + 1) c.loop-k.invariant.symbols;
      mode = c.take_symbol.ensures.mode ∙ c.loop-k.invariant.mode;
      segments = c.take_symbol.ensures.segments ∙ c.loop-k.invariant.segments;
      receiver_kept = λ partial m g s is. c.take_symbol.ensures.kept partial m g s (c.loop-k.invariant.receiver_kept partial m g s is);
      is_open = ap (λ f. f seats.In) c.read_symbol.ensures.still_open ∙ c.loop-k.invariant.is_open;
      still_open = c.read_symbol.ensures.still_open ∙ c.loop-k.invariant.still_open;
      kept = c.in-Ok.ensures.cause.kept ∙ c.loop-k.invariant.kept;
      told = λ rest told. (
          let so_far = subst (Holds frame rest (g.H.Shelf.left c.loop-k.shelf seats.In)) (sym start) (c.loop-k.invariant.told rest told) in
          let came = c.in-Ok.ensures.answer _ so_far.left_is in
          let more = holds-more frame part rest _ _ from c.in-Ok.count (from + size - from) (omega (arith, fits)) full so_far came in
          subst (Holds (put_mid from (from + size - from) frame part) rest (g.H.Shelf.left c.read_symbol.new.shelf seats.In)) (let e : from + c.in-Ok.count ≡ (c.loop-k.k + 1) * size = omega (arith, start, full, sized) in e) more);
      stands = λ rest told cell start_frame h stands shows. (
          let mode = c.loop-k.invariant.mode ∙ c.requires.mode in
          let so_far = subst (Holds frame rest (g.H.Shelf.left c.loop-k.shelf seats.In)) (sym start) (c.loop-k.invariant.told rest told) in
          let came = c.in-Ok.ensures.answer _ so_far.left_is in
          let piece = full-part part rest _ from c.in-Ok.count full came in
          let place : part ≡ take (symbol_size c.args.mode) (drop (c.loop-k.k * symbol_size c.args.mode) rest) =
          piece ∙ ap (λ n. take n (drop from rest)) (full ∙ sized ∙ value) ∙ ap (λ n. take (symbol_size c.args.mode) (drop n rest)) (start ∙ ap (λ n. c.loop-k.k * n) value) in
          let room : length c.read_symbol.new.cells ≡ segments_of c.args.receiver.now * carriers c.args.mode = c.read_symbol.auto.cells ∙ c.loop-k.auto.cells ∙ c.requires.room in
          let is = is-symbol (segments_of c.args.receiver.now) c.args.mode cell (start_frame + h) c.loop-k.k rest part c.read_symbol.new.cells c.requires.segments c.loop-k-test.true room place (c.in-Ok.ensures.cells full) shows in
          c.take_symbol.ensures.state cell start_frame h (c.loop-k.invariant.stands rest told cell start_frame h stands shows)
          (subst (λ m. IsSymbolOf m (mode_of c.loop-k.receiver) cell (start_frame + h) (symbols_of c.loop-k.receiver) c.read_symbol.new.cells) (sym c.loop-k.invariant.segments)
          (subst (λ n. IsSymbolOf (segments_of c.args.receiver.now) (mode_of c.loop-k.receiver) cell (start_frame + h) n c.read_symbol.new.cells) (sym c.loop-k.invariant.symbols)
          (subst (λ m. IsSymbolOf (segments_of c.args.receiver.now) m cell (start_frame + h) c.loop-k.k c.read_symbol.new.cells) (sym mode) is))));
    }

pub returns-in-Err-clause-answer : goal.returns-in-Err-clause-answer
returns-in-Err-clause-answer g c = λ rest told.
    let frame = c.loop-k.frame in
    let part = c.read_symbol.new.symbol in
    let from = c.symbol_start-from.result in
    let size = c.symbol_size-size.result in
    let fits : from + size ≤ length frame = fits-in frame from size (symbol_size c.args.mode) c.symbol_start-from.ensures.end c.symbol_size-size.ensures.value (c.loop-k.auto.frame ∙ c.requires.size) in
    let sized : length part ≡ size = part-size frame part from size fits c.read_symbol.auto.symbol in
    let same : length (put_mid from (from + size - from) frame part) ≡ length frame = same_len_mid from (from + size - from) frame part c.read_symbol.auto.symbol in
    let so_far = subst (Holds frame rest (g.H.Shelf.left c.loop-k.shelf seats.In)) (sym c.symbol_start-from.ensures.value) (c.loop-k.invariant.told rest told) in
    stopped-in frame part (put_mid from (from + size - from) frame part) rest _ _ from (omega (arith, fits, sized, same)) so_far (c.in-Err.ensures.answer _ so_far.left_is)

pub returns-then-count-size-clause-answer : goal.returns-then-count-size-clause-answer
returns-then-count-size-clause-answer g c = λ rest told.
    let frame = c.loop-k.frame in
    let part = c.read_symbol.new.symbol in
    let from = c.symbol_start-from.result in
    let size = c.symbol_size-size.result in
    let fits : from + size ≤ length frame = fits-in frame from size (symbol_size c.args.mode) c.symbol_start-from.ensures.end c.symbol_size-size.ensures.value (c.loop-k.auto.frame ∙ c.requires.size) in
    let sized : length part ≡ size = part-size frame part from size fits c.read_symbol.auto.symbol in
    let same : length (put_mid from (from + size - from) frame part) ≡ length frame = same_len_mid from (from + size - from) frame part c.read_symbol.auto.symbol in
    let so_far = subst (Holds frame rest (g.H.Shelf.left c.loop-k.shelf seats.In)) (sym c.symbol_start-from.ensures.value) (c.loop-k.invariant.told rest told) in
    let short = c.if-count-size.true in
    came-short frame part rest _ _ from c.in-Ok.count (from + size - from) (omega (arith, fits, sized)) same (omega (arith, short, sized)) so_far (c.in-Ok.ensures.answer _ so_far.left_is)

pub returns-clause-answer : goal.returns-clause-answer
returns-clause-answer g c = λ rest told.
    let size = c.symbol_size-size.result in
    let all : 204 * size ≡ length c.loop-k.frame = (let value = ap (λ n. 204 * n) c.symbol_size-size.ensures.value in let long = c.loop-k.auto.frame ∙ c.requires.size in omega (arith, value, long)) in
    let end : c.loop-k.k * size ≡ 204 * size = ap (λ k. k * size) (let last : c.loop-k.k ≡ 204 = omega arith in last) in
    came-whole c.loop-k.frame rest _ (204 * size) (204 * size) all refl (subst (Holds c.loop-k.frame rest (g.H.Shelf.left c.loop-k.shelf seats.In)) end (c.loop-k.invariant.told rest told))
