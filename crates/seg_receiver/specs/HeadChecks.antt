-- At which byte the head of a frame is refused.
use Rattle.std.specs.Prelude.{ℕ, not, if◌then◌else◌, ◌==◌, min, Option, Some, None, Result, Ok, Err, List, slice_index}
use Rattle.isdbt_base.specs.declared.kinds.Mode.{Mode}
use Rattle.isdbt_base.specs.declared.kinds.Guard.{Guard}
use Rattle.isdbt_base.specs.declared.head.HeadFault.{HeadFault}
use Rattle.isdbt_base.specs.Heads.{mode_byte, guard_byte, head_read}

-- the byte at which a head can't be read, if there is one
abbrev pub unread_byte : Result (Mode × Guard) HeadFault → Option ℕ
unread_byte (Ok said) = None
unread_byte (Err fault) = Some fault.byte

-- the least of bytes 4 and 5 by which a head says another mode or guard interval than it must repeat, if it must repeat any
abbrev pub other_byte : Option (Mode × Guard) → List ℕ → Option ℕ
other_byte None head = None
other_byte (Some due) head =
    if not (slice_index head 4 == mode_byte due.0) then Some 4
    else if not (slice_index head 5 == guard_byte due.1) then Some 5
    else None

-- the lesser of two places, where both are there
abbrev pub least : Option ℕ → Option ℕ → Option ℕ
least None b = b
least (Some a) None = Some a
least (Some a) (Some b) = Some (min a b)

-- the least byte at which a head is refused, by what it must repeat
unfoldable pub bad_byte : Option (Mode × Guard) → List ℕ → Option ℕ
bad_byte due head = least (unread_byte (head_read head)) (other_byte due head)
