-- Streams, and their first items as a list.
use Rattle.std.specs.Prelude.{◌≡◌, ℕ, ◌+◌, ◌*◌, ◌%◌, ◌<◌, List, map, length, slice_index_or}
use Rattle.std.specs.List.{range_with_len}
use Rattle.delay_line.specs.Lines.{delayed}
use Rattle.delay_line.specs.Stages.{Layout}

-- the first n items of a stream
unfoldable pub first_of : {X : Type 0} → (ℕ → X) → ℕ → List X
first_of stream n = map stream (range_with_len 0 n)

-- the items of a list are those of a stream from a place on
pub record AreItems {X : Type 0} (d : X) (stream : ℕ → X) (from count : ℕ) (items : List X) : Type 0 where
  pub size : length items ≡ count
  pub each : (i : ℕ) → i < count → slice_index_or items i d ≡ stream (from + i)

-- item q that a line with so many items' adjustment and the stage behind it give for a stream
abbrev pub adjusted_item : {X : Type 0} → Layout X → ℕ → (ℕ → X) → ℕ → X
adjusted_item l adjustment stream q = delayed (adjustment + l.paths * l.path_delay (q % l.paths)) l.zero stream q
