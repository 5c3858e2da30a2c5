-- What a decoder keeps of the bits that it read.
use Rattle.std.specs.Prelude.{◌≡◌, ℕ, ◌+◌, ◌-◌, ◌*◌, ◌/◌, ◌%◌, ◌<◌, ◌≤◌, drop, min, Bool, false, List, length, slice_index_or}
use Rattle.isdbt_base.specs.declared.kinds.Rate.{Rate}
use Rattle.isdbt_base.specs.Numbers.{rate_steps, rate_bits}
use Rattle.conv_punct.specs.CodedBits.{coded_len}
use Rattle.viterbi_hard.specs.declared.received.Received.{Received}
use Rattle.viterbi_hard.specs.declared.decoder.Decoder.{Decoder}
use Rattle.viterbi_hard.specs.LeastPath.{decided_bit}
use Rattle.viterbi_hard.specs.Steps.{received_at, received_steps, step_at}
use Rattle.viterbi_hard.specs.Trellis.{IsChosen}
use Rattle.viterbi_hard.specs.States.{AreTags, Holds, IsLabel, path_at, state_of}
use Rattle.viterbi_hard.specs.Blocks.{Traced}

-- the rate that a decoder is for
abbrev pub rate_of : Decoder → Rate
rate_of decoder = decoder.rate

-- the lanes and the blocks are those that the steps rs leave, the newest first
pub record Keeps (decoder : Decoder) (rs : List Received) : Type 0 where
  pub young : decoder.age < 8
  pub few : decoder.high < 8
  pub holds : Holds decoder.metrics (decoder.age + 8 * decoder.high) rs
  pub tags : AreTags decoder.tags decoder.age rs
  pub traced : Traced decoder.traceback (drop decoder.age rs)

-- so are they at the end of a block, before the block is put to the others
pub record EndsBlock (decoder : Decoder) (rs : List Received) : Type 0 where
  pub few : decoder.high < 8
  pub holds : Holds decoder.metrics (8 + 8 * decoder.high) rs
  pub tags : AreTags decoder.tags 8 rs
  pub traced : Traced decoder.traceback (drop 8 rs)

-- a label of the oldest block on the best of the survivors
pub record HasLabel (label age : ℕ) (rs : List Received) : Type 0 where
  pub lane : ℕ
  pub chosen : IsChosen rs (state_of lane)
  pub is : IsLabel label (drop (age + 120) (path_at rs lane))

-- so is the count of steps
pub record Stands (decoder : Decoder) (rs : List Received) : Type 0 where
  pub keeps : Keeps decoder rs
  pub steps : decoder.steps ≡ min 127 (length rs)

-- a decoder has read the bits of these first steps, whole puncturing patterns
pub record StandsFor (decoder : Decoder) (read : ℕ → Bool) (steps : ℕ) : Type 0 where
  pub whole : steps % rate_steps decoder.rate ≡ 0
  pub stands : Stands decoder (received_steps decoder.rate read steps)

-- a list goes on where the bits of so many steps end
abbrev pub GoesOn : Rate → (ℕ → Bool) → ℕ → List Bool → Type 0
GoesOn rate read steps bits = (i : ℕ) → i < length bits → slice_index_or bits i false ≡ read (coded_len rate steps + i)

-- the steps of which so many bits, whole patterns, are sent
abbrev pub steps_in : Rate → ℕ → ℕ
steps_in rate bits = rate_steps rate * (bits / rate_bits rate)

-- so many bits on, whole patterns behind the start, stand so many steps on
abbrev pub IsPlace : Rate → ℕ → ℕ → Type 0
IsPlace rate at done = (n : ℕ) → n % rate_steps rate ≡ 0 → coded_len rate n + at ≡ coded_len rate (n + done)

-- the steps of a list are those of the stream, from so many steps behind the start on
abbrev pub AreSteps : Decoder → List Bool → List ℕ → ℕ → Type 0
AreSteps start bits steps done = (read : ℕ → Bool) (n : ℕ) → StandsFor start read n → GoesOn start.rate read n bits → (i : ℕ) → i < length steps → step_at steps i ≡ received_at start.rate read (n + (done + i))

-- from one state of a decoder to another, over the first `done` steps of the fed bits: `count` bits were decided and put to
-- the front of the output
pub record FeedsTo (start end : Decoder) (bits before out : List Bool) (count done : ℕ) : Type 0 where
  pub rate : end.rate ≡ start.rate
  pub steps : (n : ℕ) → start.steps ≡ min 127 n → end.steps ≡ min 127 (n + done)
  pub counted : (n : ℕ) → start.steps ≡ min 127 n → count + (n - 127) ≡ n + done - 127
  pub keeps : (read : ℕ → Bool) (n : ℕ) → StandsFor start read n → GoesOn start.rate read n bits → Keeps end (received_steps start.rate read (n + done))
  pub decided : (read : ℕ → Bool) (n : ℕ) → StandsFor start read n → GoesOn start.rate read n bits → (i : ℕ) → i < count → slice_index_or out i false ≡ decided_bit start.rate read (n - 127 + i)
  pub rest : (i : ℕ) → count ≤ i → slice_index_or out i false ≡ slice_index_or before i false
