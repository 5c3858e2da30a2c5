-- Delay lines: what is held and what has gone out after a list of items.
use Rattle.std.specs.Prelude.{ℕ, ◌-◌, List, ◌++◌, length, take, drop, replicate, slice_index_or, nat_le, if◌then◌else◌}

module _ {X : Type 0} where
  -- the fills, and then what came in
  abbrev pub fed : ℕ → X → List X → List X
  fed delay fill h = replicate delay fill ++ h

  -- what a line holds after h: the last so many of the fills and h
  unfoldable pub held_after : ℕ → X → List X → List X
  held_after delay fill h = drop (length h) (fed delay fill h)

  -- what has gone out of a line for h: the first of the fills and h, as many as h has
  unfoldable pub given_for : ℕ → X → List X → List X
  given_for delay fill h = take (length h) (fed delay fill h)

  -- the items of a list, and fills behind them
  abbrev pub item_of : X → List X → ℕ → X
  item_of fill h n = slice_index_or h n fill

  -- item n of a stream put off by so many places, with fills before it
  unfoldable pub delayed : ℕ → X → (ℕ → X) → ℕ → X
  delayed places fill stream n = if nat_le places n then stream (n - places) else fill
