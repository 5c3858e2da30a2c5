-- Modes and guard intervals as bytes, and the head of a frame of cells of version 2: this project's own layout.
use Rattle.std.specs.Prelude.{ℕ, not, if◌then◌else◌, ◌==◌, Option, Some, None, Result, Ok, Err, List, [], ◌∷◌, slice_index}
use Rattle.isdbt_base.specs.declared.kinds.Mode.{Mode}
use Rattle.isdbt_base.specs.declared.kinds.Mode.TheVariants.{M1, M2, M3}
use Rattle.isdbt_base.specs.declared.kinds.Guard.{Guard}
use Rattle.isdbt_base.specs.declared.kinds.Guard.TheVariants.{G4, G8, G16, G32}
use Rattle.isdbt_base.specs.declared.head.HeadFault.{HeadFault}

-- the byte of a mode, and that of a guard interval: its part of the symbol
abbrev pub mode_byte : Mode → ℕ
mode_byte M1 = 0x01
mode_byte M2 = 0x02
mode_byte M3 = 0x03

abbrev pub guard_byte : Guard → ℕ
guard_byte G4 = 0x04
guard_byte G8 = 0x08
guard_byte G16 = 0x10
guard_byte G32 = 0x20

-- the mode of a byte, and the guard interval of a byte, if it has a meaning
abbrev pub mode_in : ℕ → Option Mode
mode_in n = if n == 0x01 then Some M1 else if n == 0x02 then Some M2 else if n == 0x03 then Some M3 else None

abbrev pub guard_in : ℕ → Option Guard
guard_in n = if n == 0x04 then Some G4 else if n == 0x08 then Some G8 else if n == 0x10 then Some G16 else if n == 0x20 then Some G32 else None

-- bytes of a head
abbrev pub head_size : ℕ
head_size = 8

-- the head: four fixed bytes, mode, guard interval, and two bytes that are not read
abbrev pub head_bytes : Mode → Guard → List ℕ
head_bytes mode guard = 0x49 ∷ 0x53 ∷ 0x43 ∷ 0x32 ∷ mode_byte mode ∷ guard_byte guard ∷ 0 ∷ 0 ∷ []

abbrev pub at_byte : ℕ → HeadFault
at_byte n = record { byte = n }

-- a mode and a guard interval, if both have a meaning
abbrev pub both_read : Option Mode → Option Guard → Result (Mode × Guard) HeadFault
both_read None guard = Err (at_byte 4)
both_read (Some mode) None = Err (at_byte 5)
both_read (Some mode) (Some guard) = Ok (mode, guard)

-- what a head says, or the least of its bytes that is not allowed
unfoldable pub head_read : List ℕ → Result (Mode × Guard) HeadFault
head_read h =
    if not (slice_index h 0 == 0x49) then Err (at_byte 0)
    else if not (slice_index h 1 == 0x53) then Err (at_byte 1)
    else if not (slice_index h 2 == 0x43) then Err (at_byte 2)
    else if not (slice_index h 3 == 0x32) then Err (at_byte 3)
    else both_read (mode_in (slice_index h 4)) (guard_in (slice_index h 5))
