-- Spreading and gathering of whole symbols are inverse.
use Rattle.std.proofs.Common.{◌≡◌, ℕ, ◌+◌, ◌*◌, ◌/◌, ◌<◌, Bool, List, length, ap, sym, ◌∙◌, arith}
use Rattle.std.proofs.lemmas.List.FromFn.{get_or-map-range_with_len, fill_by_all}
use Rattle.isdbt_base.specs.declared.kinds.Mode.{Mode}
use Rattle.isdbt_base.specs.declared.kinds.Mode.TheVariants.{M1, M2, M3}
use Rattle.isdbt_base.specs.Numbers.{carriers}
use Rattle.cell_map.specs.declared.cell.Cell.{Cell}
use Rattle.time_inter.specs.declared.cell_place.CellPlace.{CellPlace}
use Rattle.segment_spread.specs.Places.{IsPlace, spread_place, gathered_place}
use Rattle.segment_spread.specs.Spreading.{symbol_cells, cell_number, place_at, spread_number, gathered_number, no_cell, cell_at, spread_cells, gathered_cells}
use Rattle.segment_spread.proofs.PlaceLaws.{place-same, segment-again, carrier-again, carrier-lt, spread-within, gathered-within, gathered-spread, spread-gathered}

pub number-lt : (mode : Mode) (s k : ℕ) → s < 13 → k < carriers mode → s * carriers mode + k < symbol_cells mode
number-lt M1 s k h g = omega arith
number-lt M2 s k h g = omega arith
number-lt M3 s k h g = omega arith

pub cell_number-place_at : (mode : Mode) (n : ℕ) → cell_number mode (place_at mode n) ≡ n
cell_number-place_at M1 n = omega arith
cell_number-place_at M2 n = omega arith
cell_number-place_at M3 n = omega arith

segment-lt : (mode : Mode) (n : ℕ) → n < symbol_cells mode → n / carriers mode < 13
segment-lt M1 n h = omega arith
segment-lt M2 n h = omega arith
segment-lt M3 n h = omega arith

pub place_at-within : (mode : Mode) (n : ℕ) → n < symbol_cells mode → IsPlace mode (place_at mode n)
place_at-within mode n h = record { segment = segment-lt mode n h; carrier = carrier-lt mode n }

pub place_at-cell_number : (mode : Mode) (place : CellPlace) → IsPlace mode place → place_at mode (cell_number mode place) ≡ place
place_at-cell_number mode place h = place-same (place_at mode (cell_number mode place)) place
    (segment-again mode place.segment place.carrier h.carrier) (carrier-again mode place.segment place.carrier h.carrier)

pub spread_number-lt : (partial : Bool) (mode : Mode) (n : ℕ) → n < symbol_cells mode → spread_number partial mode n < symbol_cells mode
unfolding spread_number
spread_number-lt partial mode n h =
    let to = spread_place partial mode (place_at mode n) in
    let within = spread-within partial mode (place_at mode n) in
    number-lt mode to.segment to.carrier within.segment within.carrier

pub gathered_number-lt : (partial : Bool) (mode : Mode) (n : ℕ) → n < symbol_cells mode → gathered_number partial mode n < symbol_cells mode
unfolding gathered_number
gathered_number-lt partial mode n h =
    let from = gathered_place partial mode (place_at mode n) in
    let within = gathered-within partial mode (place_at mode n) (place_at-within mode n h) in
    number-lt mode from.segment from.carrier within.segment within.carrier

pub gathered-spread_number : (partial : Bool) (mode : Mode) (n : ℕ) → n < symbol_cells mode → gathered_number partial mode (spread_number partial mode n) ≡ n
unfolding spread_number gathered_number
gathered-spread_number partial mode n h =
    let place = place_at mode n in
    ap (λ p. cell_number mode (gathered_place partial mode p)) (place_at-cell_number mode (spread_place partial mode place) (spread-within partial mode place))
    ∙ ap (cell_number mode) (gathered-spread partial mode place (place_at-within mode n h))
    ∙ cell_number-place_at mode n

pub spread-gathered_number : (partial : Bool) (mode : Mode) (n : ℕ) → n < symbol_cells mode → spread_number partial mode (gathered_number partial mode n) ≡ n
unfolding spread_number gathered_number
spread-gathered_number partial mode n h =
    let place = place_at mode n in
    let within = place_at-within mode n h in
    ap (λ p. cell_number mode (spread_place partial mode p)) (place_at-cell_number mode (gathered_place partial mode place) (gathered-within partial mode place within))
    ∙ ap (cell_number mode) (spread-gathered partial mode place within)
    ∙ cell_number-place_at mode n

-- ---- whole symbols

pub cell_at-spread : (partial : Bool) (mode : Mode) (cells : List Cell) (n : ℕ) → n < symbol_cells mode → cell_at (spread_cells partial mode cells) n ≡ cell_at cells (gathered_number partial mode n)
unfolding spread_cells
cell_at-spread partial mode cells n h = get_or-map-range_with_len (λ k. cell_at cells (gathered_number partial mode k)) 0 (symbol_cells mode) n n no_cell h (omega arith)

pub cell_at-gathered : (partial : Bool) (mode : Mode) (cells : List Cell) (n : ℕ) → n < symbol_cells mode → cell_at (gathered_cells partial mode cells) n ≡ cell_at cells (spread_number partial mode n)
unfolding gathered_cells
cell_at-gathered partial mode cells n h = get_or-map-range_with_len (λ k. cell_at cells (spread_number partial mode k)) 0 (symbol_cells mode) n n no_cell h (omega arith)

pub moved : (partial : Bool) (mode : Mode) (cells : List Cell) (n : ℕ) → n < symbol_cells mode → cell_at (spread_cells partial mode cells) (spread_number partial mode n) ≡ cell_at cells n
moved partial mode cells n h =
    cell_at-spread partial mode cells (spread_number partial mode n) (spread_number-lt partial mode n h)
    ∙ ap (cell_at cells) (gathered-spread_number partial mode n h)

moved_back : (partial : Bool) (mode : Mode) (cells : List Cell) (n : ℕ) → n < symbol_cells mode → cell_at (gathered_cells partial mode cells) (gathered_number partial mode n) ≡ cell_at cells n
moved_back partial mode cells n h =
    cell_at-gathered partial mode cells (gathered_number partial mode n) (gathered_number-lt partial mode n h)
    ∙ ap (cell_at cells) (spread-gathered_number partial mode n h)

pub undone : (partial : Bool) (mode : Mode) (cells : List Cell) → length cells ≡ symbol_cells mode → gathered_cells partial mode (spread_cells partial mode cells) ≡ cells
unfolding gathered_cells
undone partial mode cells h =
    sym (fill_by_all (λ n. cell_at (spread_cells partial mode cells) (spread_number partial mode n)) cells (symbol_cells mode) no_cell h (λ n g. sym (moved partial mode cells n g)))

pub redone : (partial : Bool) (mode : Mode) (cells : List Cell) → length cells ≡ symbol_cells mode → spread_cells partial mode (gathered_cells partial mode cells) ≡ cells
unfolding spread_cells
redone partial mode cells h =
    sym (fill_by_all (λ n. cell_at (gathered_cells partial mode cells) (gathered_number partial mode n)) cells (symbol_cells mode) no_cell h (λ n g. sym (moved_back partial mode cells n g)))
