-- What the bytes of some packets are.
use Rattle.std.specs.Prelude.{◌≡◌, ◌≢◌, ℕ, ◌*◌, ◌%◌, ◌<◌, List, length, slice_index}
use Rattle.ts_packet.specs.Packets.{sync_byte}
use Rattle.remux_core.specs.declared.packets.Part.{Part}
use Rattle.remux_core.specs.declared.packets.Part.TheVariants.{Good, NoSync, Cut}

-- packet i begins with the sync byte
abbrev pub HasSync : List ℕ → ℕ → Type 0
HasSync bytes i = slice_index bytes (188 * i) ≡ sync_byte

-- each packet is whole
abbrev pub IsWhole : List ℕ → Type 0
IsWhole bytes = length bytes % 188 ≡ 0

-- each packet is whole and begins with the sync byte
pub record IsGood (bytes : List ℕ) : Type 0 where
  pub whole : IsWhole bytes
  pub sync : (i : ℕ) → 188 * i < length bytes → HasSync bytes i

-- each packet is whole, and packet i is the first that doesn't begin with the sync byte
pub record FirstBad (bytes : List ℕ) (i : ℕ) : Type 0 where
  pub whole : IsWhole bytes
  pub within : 188 * i < length bytes
  pub bad : slice_index bytes (188 * i) ≢ sync_byte
  pub before : (k : ℕ) → k < i → HasSync bytes k

-- so many bytes of an unfinished packet stand at the end
pub record IsCut (bytes : List ℕ) (over : ℕ) : Type 0 where
  pub over_is : over ≡ length bytes % 188
  pub some : 0 < over

abbrev pub Says : List ℕ → Part → Type 0
Says bytes Good = IsGood bytes
Says bytes (NoSync i) = FirstBad bytes i
Says bytes (Cut over) = IsCut bytes over
