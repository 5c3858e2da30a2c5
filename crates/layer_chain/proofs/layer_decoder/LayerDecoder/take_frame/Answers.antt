use Rattle.std.proofs.Common.{◌≡◌, ℕ, ◌+◌, ◌*◌, ◌/◌, ◌≤◌, [], length, get_or, refl, sym, ap, subst, ◌∙◌, arith}
use Rattle.std.proofs.lemmas.List.{with_items_is}
use Rattle.isdbt_base.specs.Numbers.{packets_per_frame, frames_over}
use Rattle.delay_line.specs.Stages.{StandsFor as StageStandsFor, stage_item}
use Rattle.byte_inter.specs.Layouts.{deinter_layout}
use Rattle.layer_chain.specs.Streams.{first_of}
use Rattle.layer_chain.specs.LayerCells.{read_bit}
use Rattle.layer_chain.specs.OuterWords.{outer_answer}
use Rattle.layer_chain.specs.UnitWords.{word_in}
use Rattle.layer_chain.specs.DecidedBytes as decided
use Rattle.layer_chain.specs.DecidedBytes.{decided_byte, Taken, TakesFrame, frame_of, rate_of}
use Rattle.layer_chain.specs.LayerDecoder.{mode_of, layer_of, steps_after, bytes_after, StandsFor}
use Rattle.layer_chain.specs.declared.decided_bytes.DecidedBytes.{DecidedBytes}
use Rattle.layer_chain.specs.declared.layer_decoder.LayerDecoder.{LayerDecoder}
use Rattle.layer_chain.proofs.DecoderParts.{decoder_moved}
use Rattle.layer_chain.proofs.DecoderSteps.{frame-there, bytes-more, bytes-none}
use Rattle.layer_chain.proofs.DecoderFrames.{early-count, middle-count, late-count, reader_next, decided_next, bytes-turns, given-early, given-units}
use Rattle.layer_chain.proofs.layer_decoder.LayerDecoder.take_frame.Goals as goal

-- a frame of decided bytes is taken where there is one
taken_of : (s : LayerDecoder) (t : DecidedBytes) (d units : _) (cell : ℕ → ℕ → ℕ) (frames : ℕ) → StandsFor s cell frames → s.symbols ≡ 204 → frames_over (mode_of s) (layer_of s).depth + 1 ≤ frames
    → TakesFrame s.decided s.deinterleaver t d units
    → Taken t (read_bit (mode_of s) (layer_of s) cell) (steps_after (mode_of s) (layer_of s) (204 * frames + s.symbols)) (bytes_after (mode_of s) (layer_of s) frames) (frame_of s.decided) d units
taken_of s t d units cell frames stands whole late takes =
    let mode = mode_of s in
    let l = layer_of s in
    let read = read_bit mode l cell in
    let there = frame-there mode l frames s.some_packets late in
    takes read (steps_after mode l (204 * frames + s.symbols)) (bytes_after mode l frames) stands.decided_stands
    (rw (whole, s.same_frame) there) (bytes-turns mode l frames)
    (subst (λ r. StageStandsFor (deinter_layout 12 17) (λ p. get_or s.deinterleaver p []) (first_of (decided_byte r read) (bytes_after mode l frames))) (sym s.same_rate) stands.bytes_stand)

pub returns-then-self-clause-packets : goal.returns-then-self-clause-packets
returns-then-self-clause-packets c = λ cell frames stands j h.
    let s = c.args.self.now in
    let counted = early-count frames (frames_over (mode_of s) (layer_of s).depth) s.frames stands.counted (omega arith) in
    c.put_nulls.ensures j ∙ sym (given-early (mode_of s) (layer_of s) cell frames j (omega (arith, counted.0)))

pub returns-then-self-clause-state : goal.returns-then-self-clause-state
returns-then-self-clause-state c = λ cell frames stands.
    let s = c.args.self.now in
    let mode = mode_of s in
    let l = layer_of s in
    let read = read_bit mode l cell in
    let counted = early-count frames (frames_over mode l.depth) s.frames stands.counted (omega arith) in
    let none = bytes-none mode l frames counted.0 in
    decoder_moved _ cell (frames + 1) mode l refl refl record {
      counted = counted.1;
      reader_stands = reader_next s.reader cell frames s.symbols c.requires.whole stands.reader_stands;
      decided_stands = decided_next mode l s.decided read frames s.symbols (bytes_after mode l frames) c.requires.whole none stands.decided_stands;
      bytes_stand = subst (λ n. StageStandsFor (deinter_layout 12 17) (λ p. get_or s.deinterleaver p []) (first_of (decided_byte l.rate read) n)) none stands.bytes_stand;
    }

pub returns-then-self-2-clause-packets : goal.returns-then-self-2-clause-packets
returns-then-self-2-clause-packets c = λ cell frames stands j h.
    let s = c.args.self.now in
    let counted = middle-count frames (frames_over (mode_of s) (layer_of s).depth) s.frames stands.counted (omega arith) (omega arith) in
    c.put_nulls-then-self-2.ensures j ∙ sym (given-early (mode_of s) (layer_of s) cell frames j (omega (arith, counted.0)))

-- the parts after a frame of decided bytes was taken
taken_state : (s : LayerDecoder) (t : DecidedBytes) (d units : _) (cell : ℕ → ℕ → ℕ) (frames : ℕ) → StandsFor s cell frames → s.symbols ≡ 204 → frames_over (mode_of s) (layer_of s).depth + 1 ≤ frames
    → rate_of t ≡ rate_of s.decided → TakesFrame s.decided s.deinterleaver t d units
    → decided.StandsFor t (read_bit (mode_of s) (layer_of s) cell) (steps_after (mode_of s) (layer_of s) (204 * (frames + 1) + 0)) (bytes_after (mode_of s) (layer_of s) (frames + 1))
    × StageStandsFor (deinter_layout 12 17) (λ p. get_or d p []) (first_of (decided_byte (layer_of s).rate (read_bit (mode_of s) (layer_of s) cell)) (bytes_after (mode_of s) (layer_of s) (frames + 1)))
taken_state s t d units cell frames stands whole late rate takes =
    let mode = mode_of s in
    let l = layer_of s in
    let read = read_bit mode l cell in
    let taken = taken_of s t d units cell frames stands whole late takes in
    let more : bytes_after mode l frames + frame_of s.decided ≡ bytes_after mode l (frames + 1) = ap (λ n. bytes_after mode l frames + n) s.same_frame ∙ bytes-more mode l frames late in (
      decided_next mode l t read frames s.symbols (bytes_after mode l frames + frame_of s.decided) whole more taken.decided_stands,
      subst (λ r. StageStandsFor (deinter_layout 12 17) (λ p. get_or d p []) (first_of (decided_byte r read) (bytes_after mode l (frames + 1)))) (rate ∙ s.same_rate)
          (subst (λ n. StageStandsFor (deinter_layout 12 17) (λ p. get_or d p []) (first_of (decided_byte (rate_of t) read) n)) more taken.bytes_stand),
    )

pub returns-then-self-2-clause-state : goal.returns-then-self-2-clause-state
returns-then-self-2-clause-state c = λ cell frames stands.
    let s = c.args.self.now in
    let mode = mode_of s in
    let l = layer_of s in
    let counted = middle-count frames (frames_over mode l.depth) s.frames stands.counted (omega arith) (omega arith) in
    let parts = taken_state s c.deinterleave.new.decided c.deinterleave.new.deinterleaver c.deinterleave.new.units cell frames stands c.requires.whole (omega (arith, counted.0)) c.deinterleave.ensures.rate c.deinterleave.ensures.taken in
    decoder_moved _ cell (frames + 1) mode l refl refl record {
      counted = counted.1;
      reader_stands = reader_next s.reader cell frames s.symbols c.requires.whole stands.reader_stands;
      decided_stands = parts.0;
      bytes_stand = parts.1;
    }

pub returns-else-self-2-clause-packets : goal.returns-else-self-2-clause-packets
returns-else-self-2-clause-packets c = λ cell frames stands j h.
    let s = c.args.self.now in
    let mode = mode_of s in
    let l = layer_of s in
    let t = packets_per_frame mode l in
    let read = read_bit mode l cell in
    let counted = late-count frames (frames_over mode l.depth) s.frames stands.counted (omega arith) in
    let units = c.deinterleave-else-self-2.new.units in
    let taken = taken_of s c.deinterleave-else-self-2.new.decided c.deinterleave-else-self-2.new.deinterleaver units cell frames stands c.requires.whole (omega (arith, counted.0)) c.deinterleave-else-self-2.ensures.taken in
    let known : c.deref.result.now ≡ units = c.deref.ensures.value ∙ with_items_is s.units units (omega arith) in
    let count : length c.deref.result.now / 204 ≡ t = omega (arith, ap length known, s.unit_room, c.deinterleave-else-self-2.auto.units) in
    c.put_answers.ensures j (omega (arith, count, h))
    ∙ ap (λ n. outer_answer (word_in n c.deref.result.now j)) count
    ∙ ap (λ xs. outer_answer (word_in t xs j)) known
    ∙ given-units mode l cell frames j units s.some_packets counted.0 h (λ n k.
    taken.units_are n (omega (arith, k, s.same_frame)) ∙ ap (λ r. stage_item (deinter_layout 12 17) (decided_byte r read) (bytes_after mode l frames + n)) (c.deinterleave-else-self-2.ensures.rate ∙ s.same_rate))

pub returns-else-self-2-clause-state : goal.returns-else-self-2-clause-state
returns-else-self-2-clause-state c = λ cell frames stands.
    let s = c.args.self.now in
    let mode = mode_of s in
    let l = layer_of s in
    let counted = late-count frames (frames_over mode l.depth) s.frames stands.counted (omega arith) in
    let parts = taken_state s c.deinterleave-else-self-2.new.decided c.deinterleave-else-self-2.new.deinterleaver c.deinterleave-else-self-2.new.units cell frames stands c.requires.whole (omega (arith, counted.0)) c.deinterleave-else-self-2.ensures.rate c.deinterleave-else-self-2.ensures.taken in
    decoder_moved _ cell (frames + 1) mode l refl refl record {
      counted = counted.1;
      reader_stands = reader_next s.reader cell frames s.symbols c.requires.whole stands.reader_stands;
      decided_stands = parts.0;
      bytes_stand = parts.1;
    }
