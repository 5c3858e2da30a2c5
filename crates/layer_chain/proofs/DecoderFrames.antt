-- One frame more of a layer's decoder.
use Rattle.std.proofs.Common.{◌≡◌, ℕ, ◌+◌, ◌-◌, ◌*◌, ◌%◌, ◌<◌, ◌≤◌, Bool, List, min, refl, sym, ap, subst, ◌∙◌, arith}
use Rattle.std.specs.Prelude.{slice_index}
use Rattle.std.proofs.lemmas.Bool.{le-leb, lt-leb}
use Rattle.isdbt_base.specs.declared.kinds.Mode.{Mode}
use Rattle.isdbt_base.specs.LayerParameters.{LayerParameters}
use Rattle.isdbt_base.specs.Numbers.{packets_per_frame, layer_delay, frames_over}
use Rattle.ts_packet.specs.Packets.{null_packet}
use Rattle.delay_line.specs.Stages.{stage_item}
use Rattle.byte_inter.specs.Layouts.{deinter_layout}
use Rattle.byte_inter.proofs.SenderLaws.{stage_item-deinter}
use Rattle.viterbi_hard.specs.LeastPath.{decided_bit}
use Rattle.layer_chain.specs.LayerCells.{read_bit}
use Rattle.layer_chain.specs.OuterWords.{outer_answer, outer_word, unit_answer, given_out}
use Rattle.layer_chain.specs.SymbolReader as reader
use Rattle.layer_chain.specs.DecidedBytes.{decided_byte}
use Rattle.layer_chain.specs.DecidedBytes as decided
use Rattle.layer_chain.specs.UnitWords.{word_in}
use Rattle.layer_chain.specs.LayerDecoder.{steps_after, bytes_after}
use Rattle.layer_chain.specs.declared.symbol_reader.SymbolReader.{SymbolReader}
use Rattle.layer_chain.specs.declared.decided_bytes.DecidedBytes.{DecidedBytes}
use Rattle.layer_chain.proofs.UnitWords.{unit-word}

-- ---- the frames that were taken, counted up to the delay

pub early-count : (f k n : ℕ) → n ≡ min f (k + 2) → n + 1 < k + 2 → (f < k + 1) × (n + 1 ≡ min (f + 1) (k + 2))
early-count f k n is early = (omega (arith, is, early), omega (arith, is, early))

pub middle-count : (f k n : ℕ) → n ≡ min f (k + 2) → k + 2 ≤ n + 1 → n < k + 2 → (f ≡ k + 1) × (n + 1 ≡ min (f + 1) (k + 2))
middle-count f k n is late early = (omega (arith, is, late, early), omega (arith, is, late, early))

pub late-count : (f k n : ℕ) → n ≡ min f (k + 2) → k + 2 ≤ n → (k + 2 ≤ f) × (n ≡ min (f + 1) (k + 2))
late-count f k n is late = (omega (arith, is, late), omega (arith, is, late))

-- ---- the parts

next_frame : (frames symbols : ℕ) → symbols ≡ 204 → 204 * frames + symbols ≡ 204 * (frames + 1) + 0
next_frame frames symbols whole = omega arith

pub reader_next : (s : SymbolReader) (cell : ℕ → ℕ → ℕ) (frames symbols : ℕ) → symbols ≡ 204 → reader.StandsFor s cell (204 * frames + symbols) → reader.StandsFor s cell (204 * (frames + 1) + 0)
reader_next s cell frames symbols whole stands = subst (λ n. reader.StandsFor s cell n) (next_frame frames symbols whole) stands

pub decided_next : (mode : Mode) (l : LayerParameters) (s : DecidedBytes) (read : ℕ → Bool) (frames symbols first : ℕ) → symbols ≡ 204 → first ≡ bytes_after mode l (frames + 1)
    → decided.StandsFor s read (steps_after mode l (204 * frames + symbols)) first → decided.StandsFor s read (steps_after mode l (204 * (frames + 1) + 0)) (bytes_after mode l (frames + 1))
decided_next mode l s read frames symbols first whole bytes stands =
    subst (λ n. decided.StandsFor s read (steps_after mode l n) (bytes_after mode l (frames + 1))) (next_frame frames symbols whole)
    (subst (λ n. decided.StandsFor s read (steps_after mode l (204 * frames + symbols)) n) bytes stands)

pub bytes-turns : (mode : Mode) (l : LayerParameters) (frames : ℕ) → bytes_after mode l frames % 12 ≡ 0
bytes-turns mode l frames =
    let e : bytes_after mode l frames ≡ 12 * (17 * packets_per_frame mode l * (frames - (frames_over mode l.depth + 1))) = omega arith in
    omega (arith, e)

-- ---- what is given out

pub given-early : (mode : Mode) (l : LayerParameters) (cell : ℕ → ℕ → ℕ) (frames j : ℕ) → frames < layer_delay mode l → given_out mode l cell frames j ≡ null_packet
unfolding given_out
given-early mode l cell frames j early = rw (lt-leb (layer_delay mode l) frames early) refl

given-late : (mode : Mode) (l : LayerParameters) (cell : ℕ → ℕ → ℕ) (frames j : ℕ) → layer_delay mode l ≤ frames
    → given_out mode l cell frames j ≡ outer_answer (outer_word (packets_per_frame mode l) (decided_bit l.rate (read_bit mode l cell)) ((frames - layer_delay mode l) * packets_per_frame mode l + j))
unfolding given_out unit_answer
given-late mode l cell frames j late = rw (le-leb (layer_delay mode l) frames late) refl

-- where the units are what byte deinterleaving gives for the frame, their answers are given out
pub given-units : (mode : Mode) (l : LayerParameters) (cell : ℕ → ℕ → ℕ) (frames j : ℕ) (units : List ℕ) → 12 ≤ packets_per_frame mode l → layer_delay mode l ≤ frames → j < packets_per_frame mode l
    → ((n : ℕ) → n < 204 * packets_per_frame mode l → slice_index units n ≡ stage_item (deinter_layout 12 17) (decided_byte l.rate (read_bit mode l cell)) (bytes_after mode l frames + n))
    → outer_answer (word_in (packets_per_frame mode l) units j) ≡ given_out mode l cell frames j
given-units mode l cell frames j units some late h bytes =
    let t = packets_per_frame mode l in
    let g = frames - layer_delay mode l in
    let stream = decided_byte l.rate (read_bit mode l cell) in
    let back : frames - (frames_over mode l.depth + 1) ≡ g + 1 = omega arith in
    let first : bytes_after mode l frames ≡ 204 * t * (g + 1) = ap (λ k. 204 * t * k) back in
    ap outer_answer (unit-word t g j (decided_bit l.rate (read_bit mode l cell)) units h (λ n k.
    let place : bytes_after mode l frames + n ≡ 204 * t * g + n + 204 * t = omega (arith, first) in
    bytes n k ∙ ap (stage_item (deinter_layout 12 17) stream) place ∙ stage_item-deinter t (omega (arith, some)) stream (204 * t * g + n)))
    ∙ sym (given-late mode l cell frames j late)
