-- What was read behind the first bytes of a buffer, and whether an input has ended.
use Rattle.std.specs.Prelude.{◌≡◌, ℕ, ◌+◌, ◌-◌, ◌≤◌, ◌<◌, Bool, true, false, List, [], ◌++◌, length, take, drop, min, Some, Ok, Err}
use Rattle.std.specs.declared.option.Option.{Option}
use Rattle.std.specs.declared.result.Result.{Result}
use Rattle.edge_io.specs.declared.shelf.Failed.{Failed}

-- the buffer was filled up to n bytes, all of it or all that was left
pub record FilledTo (held : ℕ) (old new bytes : List ℕ) (left : Option (List ℕ)) (n : ℕ) : Type 0 where
  pub count : n ≡ held + min (length new - held) (length bytes)
  pub front : take n new ≡ take held old ++ take (n - held) bytes
  pub left_is : left ≡ Some (drop (n - held) bytes)

-- a read failed before the buffer was full
pub record StoppedBelow (held : ℕ) (new bytes : List ℕ) (left : Option (List ℕ)) : Type 0 where
  pub taken : ℕ
  pub below : held + taken < length new
  pub within : taken ≤ length bytes
  pub left_is : left ≡ Some (drop taken bytes)

abbrev pub FillAnswer : ℕ → List ℕ → List ℕ → List ℕ → Option (List ℕ) → Result ℕ Failed → Type 0
FillAnswer held old new bytes left (Ok n) = FilledTo held old new bytes left n
FillAnswer held old new bytes left (Err failed) = StoppedBelow held new bytes left

-- nothing was left; or there was more, and one byte of it was taken; or the read failed and took nothing
abbrev pub EndsAnswer : List ℕ → Option (List ℕ) → Result Bool Failed → Type 0
EndsAnswer bytes left (Ok true) = (bytes ≡ []) × (left ≡ Some [])
EndsAnswer bytes left (Ok false) = (0 < length bytes) × (left ≡ Some (drop 1 bytes))
EndsAnswer bytes left (Err failed) = left ≡ Some bytes
