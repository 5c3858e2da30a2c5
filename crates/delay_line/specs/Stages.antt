-- Stages: paths side by side, each a delay line. Item n of a stream belongs to path n mod paths.
use Rattle.std.specs.Prelude.{◌≡◌, ℕ, ◌+◌, ◌*◌, ◌/◌, ◌%◌, ◌<◌, List, [], ◌++◌, length, map, replicate, slice_index_or}
use Rattle.std.specs.List.{range_with_len}
use Rattle.delay_line.specs.Lines.{held_after, item_of, delayed}

-- what stays for a stage's life: DELAY in turns, ZERO, the paths, and the delay of each path in turns
pub record Layout (X : Type 0) : Type 0 where
  pub delay : ℕ
  pub zero : X
  pub paths : ℕ
  pub path_delay : ℕ → ℕ

module _ {X : Type 0} where
  -- the items of so many turns on one path, from a first turn on
  unfoldable pub turn_items : ℕ → X → List X → ℕ → ℕ → ℕ → List X
  turn_items paths zero h p first count = map (λ turn. item_of zero h (paths * turn + p)) (range_with_len first count)

  -- the items of whole turns on one path
  unfoldable pub path_items : ℕ → X → List X → ℕ → List X
  path_items paths zero h p = turn_items paths zero h p 0 (length h / paths)

  -- on each path, what was held followed by what came in is what went out followed by what is held
  abbrev pub PassesOn : Layout X → (ℕ → List X) → List X → List X → (ℕ → List X) → Type 0
  PassesOn layout old input output new =
      (p : ℕ) → p < layout.paths → old p ++ path_items layout.paths layout.zero input p ≡ path_items layout.paths layout.zero output p ++ new p

  -- a stage stands for h: each path holds what a line of its delay holds after the items of h on it
  abbrev pub StandsFor : Layout X → (ℕ → List X) → List X → Type 0
  StandsFor layout held h =
      (p : ℕ) → p < layout.paths → held p ≡ held_after (layout.path_delay p) layout.zero (path_items layout.paths layout.zero h p)

  -- item n that a stage gives for a stream
  abbrev pub stage_item : Layout X → (ℕ → X) → ℕ → X
  stage_item layout stream n = delayed (layout.paths * layout.path_delay (n % layout.paths)) layout.zero stream n

  -- what a stage has given for h
  unfoldable pub stage_given : Layout X → List X → List X
  stage_given layout h = map (stage_item layout (item_of layout.zero h)) (range_with_len 0 (length h))

  -- partners: the same DELAY, ZERO and paths, and on each path the delays add up to DELAY
  pub record ArePartners (l m : Layout X) : Type 0 where
    pub delay : m.delay ≡ l.delay
    pub zero : m.zero ≡ l.zero
    pub paths : m.paths ≡ l.paths
    pub sums : (p : ℕ) → p < l.paths → l.path_delay p + m.path_delay p ≡ l.delay

  -- h is whole turns, the first of two stages stands for h, and the second for what the first has given for h
  pub record PairStandsFor (l : Layout X) (held_l : ℕ → List X) (m : Layout X) (held_m : ℕ → List X) (h : List X) : Type 0 where
    pub turns : length h % l.paths ≡ 0
    pub first : StandsFor l held_l h
    pub second : StandsFor m held_m (stage_given l h)

  -- a bank of lines with the layout's delays
  pub record IsBankOf (layout : Layout X) (bank : List (List X)) : Type 0 where
    pub paths : length bank ≡ layout.paths
    pub delays : (p : ℕ) → p < layout.paths → length (slice_index_or bank p []) ≡ layout.path_delay p

  -- such a bank at first: each line holds zeros
  unfoldable pub new_bank : Layout X → List (List X)
  new_bank layout = map (λ p. replicate (layout.path_delay p) layout.zero) (range_with_len 0 layout.paths)
