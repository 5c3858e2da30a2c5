-- The stages of time interleaving: one path for each carrier of a segment.
use Rattle.std.specs.Prelude.{ℕ, ◌-◌, ◌*◌, ◌%◌, ◌≤◌}
use Rattle.delay_line.specs.Stages.{Layout}
use Rattle.time_inter.specs.CellPlaces.{carrier_delay}

-- at the sending side carrier i is late by its delay times the length, in symbols
abbrev pub inter_layout : ℕ → ℕ → Layout ℕ
inter_layout length carriers = record {
  delay = length * 95;
  zero = 0;
  paths = carriers;
  path_delay = λ i. length * carrier_delay i;
}

-- at the receiving side by what is left of 95 times the length
abbrev pub deinter_layout : ℕ → ℕ → Layout ℕ
deinter_layout length carriers = record {
  delay = length * 95;
  zero = 0;
  paths = carriers;
  path_delay = λ i. length * (95 - carrier_delay i);
}

-- the sizes that are built: a length of at most 16 symbols, and the carriers of a segment in some mode
pub record IsSegmentStage (length carriers : ℕ) : Type 0 where
  pub most_length : length ≤ 16
  pub least_carriers : 1 ≤ carriers
  pub most_carriers : carriers ≤ 384

-- a layer's segments side by side: the cells of its symbol are the paths, late as the carriers of their segment
abbrev pub layer_layout : ℕ → ℕ → ℕ → Layout ℕ
layer_layout length carriers segments = record {
  delay = length * 95;
  zero = 0;
  paths = segments * carriers;
  path_delay = λ w. length * carrier_delay (w % carriers);
}

-- the partner at the receiving side: each cell late by what is left of 95 times the length
abbrev pub layer_deinter_layout : ℕ → ℕ → ℕ → Layout ℕ
layer_deinter_layout length carriers segments = record {
  delay = length * 95;
  zero = 0;
  paths = segments * carriers;
  path_delay = λ w. length * (95 - carrier_delay (w % carriers));
}
