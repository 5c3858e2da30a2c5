use Rattle.std.proofs.Common.{◌≡◌, ℕ, ◌+◌, ◌-◌, ◌*◌, ◌<◌, ◌≤◌, Bool, true, false, length, get_or, refl, sym, ap, subst, ◌∙◌, inl, inr, arith}
use Rattle.std.proofs.lemmas.Bool.{cases_lt}
use Rattle.std.proofs.lemmas.List.{with_items_is}
use Rattle.conv_punct.specs.CodedBits.{coded_len}
use Rattle.viterbi_hard.specs.StandsFor.{GoesOn, steps_in}
use Rattle.layer_chain.specs.LayerCells.{read_bit}
use Rattle.layer_chain.specs.SymbolReader.{bits_of_symbol, read_delay, IsSymbol}
use Rattle.layer_chain.specs.SymbolReader as reader
use Rattle.layer_chain.specs.DecidedBytes as decided
use Rattle.layer_chain.specs.LayerDecoder.{mode_of, layer_of, symbols_of, steps_after, bytes_after, StandsFor}
use Rattle.layer_chain.proofs.DecoderParts.{decoder_moved}
use Rattle.layer_chain.proofs.DecoderSteps.{coded_len-symbols, symbol-room, steps-more, steps-none}
use Rattle.layer_chain.proofs.layer_decoder.LayerDecoder.symbol.Goals as goal

is_false : (b : Bool) → (b ≡ true → ⊥) → b ≡ false
is_false true never = elim (never refl) [ ]
is_false false never = refl

-- the number of the symbol in its epoch
abbrev number : goal.After-self-2-1 → ℕ → ℕ
number c frames = 204 * frames + symbols_of c.args.self.now

-- what the decided bytes stand for when the symbol was worked on
abbrev Decides : goal.After-self-2-1 → (ℕ → ℕ → ℕ) → ℕ → Type 0
Decides c cell frames =
    decided.StandsFor c.symbol_if.new.self (read_bit (mode_of c.args.self.now) (layer_of c.args.self.now) cell) (steps_after (mode_of c.args.self.now) (layer_of c.args.self.now) (number c frames + 1)) (bytes_after (mode_of c.args.self.now) (layer_of c.args.self.now) frames)

-- the read bits go on where those of the symbols before end
going_on : (c : goal.After-self-2-1) (cell : ℕ → ℕ → ℕ) (frames : ℕ) → StandsFor c.args.self.now cell frames → IsSymbol (layer_of c.args.self.now).modulation cell (number c frames) c.args.cells.now
    → read_delay (mode_of c.args.self.now) (layer_of c.args.self.now) ≤ number c frames
    → GoesOn (decided.rate_of c.args.self.now.decided) (read_bit (mode_of c.args.self.now) (layer_of c.args.self.now) cell) (steps_after (mode_of c.args.self.now) (layer_of c.args.self.now) (number c frames)) c.deref.result.now
going_on c cell frames stands is late = λ i h.
    let s = c.args.self.now in
    let mode = mode_of s in
    let l = layer_of s in
    let past = number c frames - read_delay mode l in
    let split : number c frames ≡ past + read_delay mode l = omega arith in
    let known : c.deref.result.now ≡ c.symbol.new.out = c.deref.ensures.value ∙ with_items_is s.read c.symbol.new.out (omega arith) in
    let place : coded_len (decided.rate_of s.decided) (steps_after mode l (number c frames)) ≡ bits_of_symbol mode l * past = ap (λ r. coded_len r (steps_after mode l (number c frames))) s.same_rate ∙ coded_len-symbols mode l past in
    ap (λ xs. get_or xs i false) known
    ∙ c.symbol.ensures.bits cell past (subst (λ n. reader.StandsFor s.reader cell n) split stands.reader_stands) (subst (λ n. IsSymbol l.modulation cell n c.args.cells.now) split is) i (omega (arith, h, ap length known))
    ∙ ap (λ n. read_bit mode l cell (n + i)) (sym place)

late_symbol : (c : goal.After-self-2-1) (cell : ℕ → ℕ → ℕ) (frames : ℕ) → StandsFor c.args.self.now cell frames → IsSymbol (layer_of c.args.self.now).modulation cell (number c frames) c.args.cells.now
    → read_delay (mode_of c.args.self.now) (layer_of c.args.self.now) ≤ number c frames → Decides c cell frames
late_symbol c cell frames stands is late =
    let s = c.args.self.now in
    let mode = mode_of s in
    let l = layer_of s in
    let read = read_bit mode l cell in
    let steps : decided.steps_of_symbol s.decided ≡ steps_in l.rate (bits_of_symbol mode l) = ap (λ r. steps_in r s.decided.symbol_bits) s.same_rate ∙ ap (steps_in l.rate) s.same_bits in
    let room = symbol-room mode l frames (symbols_of s) late c.requires.few in
    let more = steps-more mode l (number c frames) late in
    subst (λ n. decided.StandsFor c.symbol_if.new.self read n (bytes_after mode l frames)) (ap (λ n. steps_after mode l (number c frames) + n) steps ∙ more)
    (c.symbol_if.ensures.fed ((c.bears_bits-bears_bits.ensures frames stands.counted).1 late) read (steps_after mode l (number c frames)) (bytes_after mode l frames) stands.decided_stands (going_on c cell frames stands is late) (omega (arith, room, steps, s.same_frame)))

early_symbol : (c : goal.After-self-2-1) (cell : ℕ → ℕ → ℕ) (frames : ℕ) → StandsFor c.args.self.now cell frames
    → number c frames < read_delay (mode_of c.args.self.now) (layer_of c.args.self.now) → Decides c cell frames
early_symbol c cell frames stands early =
    let s = c.args.self.now in
    let mode = mode_of s in
    let l = layer_of s in
    let read = read_bit mode l cell in
    let none : c.bears_bits-bears_bits.result ≡ false = is_false _ (λ yes. (let late = (c.bears_bits-bears_bits.ensures frames stands.counted).0 yes in omega (arith, late, early))) in
    subst (λ n. decided.StandsFor c.symbol_if.new.self read n (bytes_after mode l frames)) (steps-none mode l (number c frames) early)
    (c.symbol_if.ensures.passed none read (steps_after mode l (number c frames)) (bytes_after mode l frames) stands.decided_stands)

pub returns-clause-state : goal.returns-clause-state
returns-clause-state c = λ cell frames stands is.
    let s = c.args.self.now in
    let mode = mode_of s in
    let l = layer_of s in
    let next : number c frames + 1 ≡ 204 * frames + (symbols_of s + 1) = omega arith in
    let decides : Decides c cell frames = elim (cases_lt (number c frames) (read_delay mode l)) [
      | inl early ↦ early_symbol c cell frames stands early
      | inr late ↦ late_symbol c cell frames stands is late
    ] in
    decoder_moved _ cell frames mode l c.symbol.ensures.mode c.symbol.ensures.layer record {
      counted = stands.counted;
      reader_stands = subst (λ n. reader.StandsFor c.symbol.new.self cell n) next (c.symbol.ensures.state cell (number c frames) stands.reader_stands is);
      decided_stands = subst (λ n. decided.StandsFor c.symbol_if.new.self (read_bit mode l cell) (steps_after mode l n) (bytes_after mode l frames)) next decides;
      bytes_stand = stands.bytes_stand;
    }
