-- The stages of bit interleaving: one path for each bit of a cell.
use Rattle.std.specs.Prelude.{◌≡◌, ℕ, ◌-◌, ◌%◌, ◌≤◌, Bool, false}
use Rattle.delay_line.specs.Stages.{Layout}
use Rattle.bit_inter.specs.BitPlaces.{bit_delay}

-- at the sending side path r is late by the delay of bit r of a cell of v bits
abbrev pub inter_layout : ℕ → Layout Bool
inter_layout v = record {
  delay = 120;
  zero = false;
  paths = v;
  path_delay = bit_delay v;
}

-- at the receiving side by what is left of 120
abbrev pub deinter_layout : ℕ → Layout Bool
deinter_layout v = record {
  delay = 120;
  zero = false;
  paths = v;
  path_delay = λ r. 120 - bit_delay v r;
}

-- the bits of a cell: 2, 4 or 6
pub record IsCellWidth (v : ℕ) : Type 0 where
  pub least : 2 ≤ v
  pub most : v ≤ 6
  pub even : v % 2 ≡ 0
