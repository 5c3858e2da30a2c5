use Rattle.std.proofs.Common.{◌≡◌, ℕ, ◌+◌, ◌-◌, ◌*◌, ◌/◌, ◌%◌, ◌<◌, ◌≤◌, Bool, false, length, get_or, arith, sym, ap, subst, ◌∙◌}
use Rattle.viterbi_hard.specs.LeastPath.{decided_bit}
use Rattle.viterbi_hard.specs.StandsFor.{GoesOn, steps_in}
use Rattle.viterbi_hard.specs.StandsFor as inner
use Rattle.layer_chain.specs.DecidedBytes.{rate_of, steps_of_symbol, frame_of, decided_byte, StandsFor}
use Rattle.layer_chain.proofs.DecidedLaws.{lent, packed-byte, room-for-all}
use Rattle.layer_chain.proofs.decided_bytes.DecidedBytes.symbol.Goals as goal

-- at most as many bits are decided as a symbol has steps
most : (c : goal.After-self-3-1) → c.feed-count.result ≤ steps_in c.args.self.now.decoder.rate c.args.self.now.symbol_bits
most c = subst (λ n. c.feed-count.result ≤ steps_in c.args.self.now.decoder.rate n) c.requires c.feed-count.ensures.most

-- the bits that wait and those that are decided behind them
bits-held : (c : goal.After-self-3-1) (read : ℕ → Bool) (steps first : ℕ) → StandsFor c.args.self.now read steps first → GoesOn (rate_of c.args.self.now) read steps c.args.read.now
    → (i : ℕ) → i < c.args.self.now.pending + c.feed-count.result → get_or c.deref.result.now i false ≡ decided_bit (rate_of c.args.self.now) read (8 * (first + c.args.self.now.filled) + i)
bits-held c read steps first stands goes i h =
    let s = c.args.self.now in
    let old = c.deref_mut.result.now in
    let few = most c in
    let size : length old ≡ s.bits.len = omega (arith, c.deref_mut.ensures.len) in
    ap (λ xs. get_or xs i false) c.deref.ensures.value
    ∙ lent false (λ k. decided_bit (rate_of s) read (8 * (first + s.filled) + k)) _ s.pending c.feed-count.result old c.feed-count.new.out _ _
    (omega (arith, size, s.bit_room, s.few_pending)) (omega (arith, few, size, s.bit_room, s.few_pending, c.feed-count.auto.out)) (omega (arith, few, s.bit_room, s.few_pending))
    (λ k m. ap (λ xs. get_or xs k false) c.deref_mut.ensures.value ∙ stands.bits_are k m)
    (λ k m. c.feed-count.ensures.decided read steps stands.decoder_stands goes k m ∙ ap (decided_bit (rate_of s) read) (let e = stands.count in omega (arith, e)))
    i h

-- as many bits are decided as the steps go on
counted : (c : goal.After-self-3-1) (read : ℕ → Bool) (steps first : ℕ) → StandsFor c.args.self.now read steps first
    → 8 * (first + c.args.self.now.filled) + (c.args.self.now.pending + c.feed-count.result) ≡ steps + steps_of_symbol c.args.self.now - 127
counted c read steps first stands =
    let s = c.args.self.now in
    let count : c.feed-count.result + (steps - 127) ≡ steps + steps_of_symbol s - 127 =
    subst (λ n. c.feed-count.result + (steps - 127) ≡ steps + steps_in (rate_of s) n - 127) c.requires (c.feed-count.ensures.count read steps stands.decoder_stands) in
    let before = stands.count in
    omega (arith, count, before)

-- where there is room, all whole bytes find it
whole-bytes : (c : goal.After-self-3-1) (read : ℕ → Bool) (steps first : ℕ) → StandsFor c.args.self.now read steps first
    → steps + steps_of_symbol c.args.self.now ≤ 8 * (first + 2 * frame_of c.args.self.now) + 127 → c.min-whole.result ≡ (c.args.self.now.pending + c.feed-count.result) / 8
whole-bytes c read steps first stands room =
    let s = c.args.self.now in
    room-for-all first s.filled s.pending c.feed-count.result c.len.result (2 * s.frame) (steps + steps_of_symbol s) c.min-whole.result (omega (arith, s.byte_room)) (counted c read steps first stands) room c.min-whole.ensures

pub returns-clause-state : goal.returns-clause-state
returns-clause-state c = λ bits steps first stands goes room.
    let s = c.args.self.now in
    let rate : c.feed-count.new.self.rate ≡ rate_of s = c.feed-count.ensures.rate in
    let whole = whole-bytes c bits steps first stands room in
    let held = bits-held c bits steps first stands goes in
    let count = counted c bits steps first stands in
    let size : length c.deref_mut-2.result.now ≡ s.bytes.len = omega (arith, c.deref_mut-2.ensures.len) in
    let packed : length c.pack.new.bytes ≡ c.min-whole.result = omega (arith, c.pack.auto.bytes) in
    let within : s.filled + c.min-whole.result ≤ s.bytes.len = omega (arith, c.min-whole.ensures, c.len.ensures, s.few_filled, s.byte_room) in
    record {
      decoder_stands = subst (λ n. inner.StandsFor c.feed-count.new.self bits (steps + steps_in (rate_of s) n)) c.requires (c.feed-count.ensures.state bits steps stands.decoder_stands goes);
      count = omega (arith, count, whole);
      bytes_are = λ i h. lent 0 (λ k. decided_byte c.feed-count.new.self.rate bits (first + k)) _ s.filled c.min-whole.result c.deref_mut-2.result.now c.pack.new.bytes _ _
          (omega (arith, size, within)) (omega (arith, packed)) within
          (λ k m. ap (λ xs. get_or xs k 0) c.deref_mut-2.ensures.value ∙ stands.bytes_are k m ∙ ap (λ r. decided_byte r bits (first + k)) (sym rate))
          (λ k m. c.pack.ensures k (omega (arith, packed, m)) ∙ packed-byte (rate_of s) bits c.deref.result.now (first + s.filled) c.min-whole.result k m (λ j n. held j (omega (arith, n, whole)))
          ∙ ap (λ r. decided_byte r bits (first + s.filled + k)) (sym rate) ∙ ap (decided_byte c.feed-count.new.self.rate bits) (let e : first + s.filled + k ≡ first + (s.filled + k) = omega arith in e))
          i h;
      bits_are = λ i h.
          let place = s.pending + c.feed-count.result - (s.pending + c.feed-count.result) % 8 + (i - 0) in
          let low : place < s.pending + c.feed-count.result = omega (arith, h) in
          let there : 8 * (first + s.filled) + place ≡ 8 * (first + (s.filled + c.min-whole.result)) + i = omega (arith, whole) in
          c.copy_within.ensures.by_index.0 i false (omega arith) (omega (arith, h)) ∙ ap (λ xs. get_or xs place false) (sym c.deref.ensures.value)
          ∙ held place low ∙ ap (λ r. decided_bit r bits (8 * (first + s.filled) + place)) (sym rate) ∙ ap (decided_bit c.feed-count.new.self.rate bits) there;
    }
