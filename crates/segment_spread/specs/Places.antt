-- Where the cells of a symbol go that are spread over its segments: a profile of this project's own, after the standard's
-- frequency interleaving (ARIB STD-B31 chapter 3), without its randomising.
use Rattle.std.specs.Prelude.{ℕ, zero, suc, ◌+◌, ◌-◌, ◌*◌, ◌/◌, ◌%◌, ◌<◌, Bool, true, false}
use Rattle.isdbt_base.specs.declared.kinds.Mode.{Mode}
use Rattle.isdbt_base.specs.Numbers.{carriers}
use Rattle.time_inter.specs.declared.cell_place.CellPlace.{CellPlace}
use Rattle.segment_spread.specs.declared.section.Section.{Section}

-- the section of a segment: with partial reception segment 0 is one by itself and segments 1 to 12 are one, else all 13
abbrev pub section_of : Bool → ℕ → Section
section_of false segment = record { first = 0; segments = 13 }
section_of true zero = record { first = 0; segments = 1 }
section_of true (suc n) = record { first = 1; segments = 12 }

-- a place of a symbol: one of 13 segments and of its carriers
pub record IsPlace (mode : Mode) (place : CellPlace) : Type 0 where
  pub segment : place.segment < 13
  pub carrier : place.carrier < carriers mode

-- the number of a place in its section, segment after segment, and in it carrier after carrier; and the place of a number
abbrev pub number_in : Section → Mode → CellPlace → ℕ
number_in section mode place = (place.segment - section.first) * carriers mode + place.carrier

abbrev pub place_in : Section → Mode → ℕ → CellPlace
place_in section mode x = record { segment = section.first + x / carriers mode; carrier = x % carriers mode }

-- cell x of a section is dealt to segment p = first + x mod M of its M segments, carrier (x div M + p) mod the carriers
abbrev pub place_dealt : Section → Mode → ℕ → CellPlace
place_dealt section mode x = record {
  segment = section.first + x % section.segments;
  carrier = (x / section.segments + (section.first + x % section.segments)) % carriers mode;
}

-- where the cell of a place goes
unfoldable pub spread_place : Bool → Mode → CellPlace → CellPlace
spread_place partial mode place = let section = section_of partial place.segment in place_dealt section mode (number_in section mode place)

-- how many cells are dealt to a segment before the one that its carrier takes
abbrev pub dealt_before : Mode → CellPlace → ℕ
dealt_before mode place = (place.carrier + (carriers mode - place.segment)) % carriers mode

-- the number in its section of the cell that is dealt to segment p behind so many others
abbrev pub number_dealt : Section → ℕ → ℕ → ℕ
number_dealt section p before = before * section.segments + (p - section.first)

-- where the cell comes from that a place takes
unfoldable pub gathered_place : Bool → Mode → CellPlace → CellPlace
gathered_place partial mode place =
    let section = section_of partial place.segment in
    place_in section mode (number_dealt section place.segment (dealt_before mode place))
