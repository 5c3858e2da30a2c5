-- Moving the cells of a symbol one by one.
use Rattle.std.proofs.Common.{◌≡◌, ◌≢◌, ℕ, ◌+◌, ◌-◌, ◌*◌, ◌/◌, ◌%◌, ◌<◌, Bool, List, length, set, ap, sym, ◌∙◌, arith, below_more}
use Rattle.std.proofs.lemmas.List.{get_or-set_other, get_or-set_same}
use Rattle.std.proofs.lemmas.List.FromFn.{fill_by_all}
use Rattle.isdbt_base.specs.declared.kinds.Mode.{Mode}
use Rattle.isdbt_base.specs.declared.kinds.Mode.TheVariants.{M1, M2, M3}
use Rattle.isdbt_base.specs.Numbers.{carriers}
use Rattle.cell_map.specs.declared.cell.Cell.{Cell}
use Rattle.time_inter.specs.declared.cell_place.CellPlace.{CellPlace}
use Rattle.segment_spread.specs.Places.{section_of, gathered_place, number_dealt, dealt_before}
use Rattle.segment_spread.specs.Spreading.{symbol_cells, cell_number, place_at, spread_number, gathered_number, no_cell, cell_at, spread_cells, gathered_cells, AreSpread, AreGathered}
use Rattle.segment_spread.proofs.PlaceLaws.{place-same, segment-again, carrier-again}
use Rattle.segment_spread.proofs.NumberLaws.{spread_number-lt, gathered_number-lt, gathered-spread_number, spread-gathered_number}

number-split : (mode : Mode) (first x : ℕ) → (first + x / carriers mode) * carriers mode + x % carriers mode ≡ first * carriers mode + x
number-split M1 first x = omega arith
number-split M2 first x = omega arith
number-split M3 first x = omega arith

pub gathered_number-at : (partial : Bool) (mode : Mode) (s k : ℕ) → k < carriers mode
    → gathered_number partial mode (s * carriers mode + k) ≡ (section_of partial s).first * carriers mode + number_dealt (section_of partial s) s ((k + (carriers mode - s)) % carriers mode)
unfolding gathered_number gathered_place
gathered_number-at partial mode s k h =
    let place : CellPlace = record { segment = s; carrier = k } in
    let section = section_of partial s in
    ap (λ p. cell_number mode (gathered_place partial mode p))
    (place-same (place_at mode (s * carriers mode + k)) place (segment-again mode s k h) (carrier-again mode s k h))
    ∙ number-split mode section.first (number_dealt section s (dealt_before mode place))

pub spread-more : (partial : Bool) (mode : Mode) (cells out : List Cell) (at end : ℕ) → at < symbol_cells mode → length out ≡ symbol_cells mode → end ≡ at + 1
    → AreSpread partial mode cells out at → AreSpread partial mode cells (set out at (cell_at cells (gathered_number partial mode at))) end
spread-more partial mode cells out at end h size e before n below =
    let v = cell_at cells (gathered_number partial mode at) in
    below_more (λ k. cell_at (set out at v) k ≡ cell_at cells (gathered_number partial mode k)) at
    (λ k g. let ne : k ≢ at = omega arith in get_or-set_other out at k v no_cell ne ∙ before k g)
    (get_or-set_same out at v no_cell (omega arith))
    n (omega arith)

-- no cell comes to two numbers
apart : (partial : Bool) (mode : Mode) (m n : ℕ) → m < n → n < symbol_cells mode → gathered_number partial mode m ≢ gathered_number partial mode n
apart partial mode m n h g e =
    let same : m ≡ n = sym (spread-gathered_number partial mode m (omega arith)) ∙ ap (spread_number partial mode) e ∙ spread-gathered_number partial mode n g in
    omega arith

pub gathered-more : (partial : Bool) (mode : Mode) (cells out : List Cell) (at end : ℕ) → at < symbol_cells mode → length out ≡ symbol_cells mode → end ≡ at + 1
    → AreGathered partial mode cells out at → AreGathered partial mode cells (set out (gathered_number partial mode at) (cell_at cells at)) end
gathered-more partial mode cells out at end h size e before n below =
    let v = cell_at cells at in
    let to = gathered_number partial mode at in
    let fits : to < length out = omega (arith, gathered_number-lt partial mode at h) in
    below_more (λ k. cell_at (set out to v) (gathered_number partial mode k) ≡ cell_at cells k) at
    (λ k g. get_or-set_other out to (gathered_number partial mode k) v no_cell (apart partial mode k at g h) ∙ before k g)
    (get_or-set_same out to v no_cell fits)
    n (omega arith)

pub spread-all : (partial : Bool) (mode : Mode) (cells out : List Cell) → length out ≡ symbol_cells mode → AreSpread partial mode cells out (symbol_cells mode) → out ≡ spread_cells partial mode cells
unfolding spread_cells
spread-all partial mode cells out size all = fill_by_all (λ n. cell_at cells (gathered_number partial mode n)) out (symbol_cells mode) no_cell size all

pub gathered-all : (partial : Bool) (mode : Mode) (cells out : List Cell) → length out ≡ symbol_cells mode → AreGathered partial mode cells out (symbol_cells mode) → out ≡ gathered_cells partial mode cells
unfolding gathered_cells
gathered-all partial mode cells out size all =
    fill_by_all (λ n. cell_at cells (spread_number partial mode n)) out (symbol_cells mode) no_cell size
    (λ n h. sym (ap (cell_at out) (gathered-spread_number partial mode n h)) ∙ all (spread_number partial mode n) (spread_number-lt partial mode n h))
