use Rattle.std.proofs.Common.{◌≡◌, ◌+◌, ◌*◌, ◌%◌, ◌<◌, ℕ, Bool, false, List, set, length, length-set, ap, ◌∙◌, arith, get_or, refl}
use Rattle.std.specs.Prelude.{slice_index, ◌==◌}
use Rattle.std.proofs.lemmas.List.Edits.{fill_by_more}
use Rattle.std.proofs.lemmas.List.FromFn.{fill_by_all}
use Rattle.seg_receiver.specs.CellStream.{tmcc_bit, symbol_size, symbol_start, stream_word}
use Rattle.seg_receiver.proofs.symbols.word_in.Goals as goal

one-more : (f : ℕ → Bool) (xs : List Bool) (i : ℕ) (y : Bool) → y ≡ f i → i < length xs → ((k : ℕ) → k < i → get_or xs k false ≡ f k) → (k : ℕ) → k < i + 1 → get_or (set xs i y) k false ≡ f k
one-more f xs i y is less before k below = ap (λ z. get_or (set xs i z) k false) is ∙ fill_by_more f xs i false less before k below

pub loop-k-init : goal.loop-k-init
loop-k-init c = record { size = refl; bits = λ m less. absurd (omega (arith, less)) }

pub loop-k-preserved : goal.loop-k-preserved
loop-k-preserved c =
    let frame = c.args.frame.now in
    let mode = c.args.mode in
    let size = c.symbol_size-size.ensures.value in
    let at : c.symbol_start.result ≡ symbol_start mode 0 c.loop-k.k = c.symbol_start.ensures.value ∙ ap (λ n. c.loop-k.k * n) size ∙ (let e : c.loop-k.k * symbol_size mode ≡ symbol_start mode 0 c.loop-k.k = omega arith in e) in
    let sized = c.loop-k.invariant.size in
    record {
      size = length-set c.loop-k.word c.loop-k.k _ ∙ c.loop-k.invariant.size;
      bits = one-more (tmcc_bit mode frame 0) c.loop-k.word c.loop-k.k _ (ap (λ n. slice_index frame n % 2 == 1) at) (omega arith) c.loop-k.invariant.bits;
    }

pub returns : goal.returns
unfolding stream_word
returns c = fill_by_all (tmcc_bit c.args.mode c.args.frame.now 0) c.loop-k.word 204 false c.loop-k.invariant.size (λ k less. c.loop-k.invariant.bits k (omega (arith, less)))
