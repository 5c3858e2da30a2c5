-- A stage behind a line, which is its delay adjustment.
use Rattle.std.specs.Prelude.{◌≡◌, ℕ, ◌%◌, List, ◌++◌, length}
use Rattle.delay_line.specs.Lines.{held_after, given_for}
use Rattle.delay_line.specs.Stages.{Layout, PassesOn, StandsFor}

module _ {X : Type 0} where
  -- a line with so many items' adjustment and the stage behind it stand for h, whole turns
  pub record AdjustedStandsFor (l : Layout X) (adjustment : ℕ) (line : List X) (held : ℕ → List X) (h : List X) : Type 0 where
    pub turns : length h % l.paths ≡ 0
    pub line_stands : line ≡ held_after adjustment l.zero h
    pub stage_stands : StandsFor l held (given_for adjustment l.zero h)

  -- they are fed x, whole turns: the line gives middle, and the stage output
  pub record AdjustedFeeds (l : Layout X) (line : List X) (held : ℕ → List X) (x middle output line' : List X) (held' : ℕ → List X) : Type 0 where
    pub turns : length x % l.paths ≡ 0
    pub middle_length : length middle ≡ length x
    pub output_length : length output ≡ length x
    pub line_feeds : line ++ x ≡ middle ++ line'
    pub stage_feeds : PassesOn l held middle output held'
