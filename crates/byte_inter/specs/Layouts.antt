-- The stages of byte interleaving: the delays of the paths.
use Rattle.std.specs.Prelude.{ℕ, ◌-◌, ◌*◌, ◌≤◌}
use Rattle.delay_line.specs.Stages.{Layout}

-- at the sending side path p is late by unit * p turns
abbrev pub inter_layout : ℕ → ℕ → Layout ℕ
inter_layout paths unit = record {
  delay = unit * (paths - 1);
  zero = 0;
  paths = paths;
  path_delay = λ p. unit * p;
}

-- at the receiving side by what is left of unit * (paths - 1)
abbrev pub deinter_layout : ℕ → ℕ → Layout ℕ
deinter_layout paths unit = record {
  delay = unit * (paths - 1);
  zero = 0;
  paths = paths;
  path_delay = λ p. unit * (paths - 1 - p);
}

-- the sizes that are built: 1 to 255 paths, and a unit of at most 255 turns
pub record AreSizes (paths unit : ℕ) : Type 0 where
  pub least_paths : 1 ≤ paths
  pub most_paths : paths ≤ 255
  pub most_unit : unit ≤ 255
