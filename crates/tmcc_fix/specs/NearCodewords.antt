-- Codewords near 184 bits: those of a TMCC word from B20 on (ARIB STD-B31 chapter 3).
use Rattle.std.specs.Prelude.{◌≡◌, ℕ, zero, suc, ◌+◌, ◌≤◌, Bool, true, false, List, [], ◌∷◌, ◌++◌, length, Option, Some, None, if◌then◌else◌, nat_le}
use Rattle.std.specs.Int.{from_bool}
use Rattle.isdbt_base.specs.Bits.{◌⊕◌}
use Rattle.isdbt_base.specs.Outcome.{first_some}
use Rattle.tmcc_word.specs.CyclicCode.{IsCodeword, parity_of}

-- at how many places two lists of bits differ
unfoldable pub differing : List Bool → List Bool → ℕ
differing [] ys = 0
differing (x ∷ xs) [] = 0
differing (x ∷ xs) (y ∷ ys) = from_bool (x ⊕ y) + differing xs ys

-- near is a codeword as long as the bits, and differs from them in at most eight places
pub record IsNear (bits near : List Bool) : Type 0 where
  pub codeword : IsCodeword near
  pub size : length near ≡ length bits
  pub close : differing bits near ≤ 8

-- the first codeword near the bits, if any, among those that begin with these bits and so many more before the parity
unfoldable pub near_from : ℕ → List Bool → List Bool → Option (List Bool)
near_from zero info bits = if nat_le (differing bits (info ++ parity_of info)) 8 then Some (info ++ parity_of info) else None
near_from (suc more) info bits = first_some (near_from more (info ++ false ∷ []) bits ∷ near_from more (info ++ true ∷ []) bits ∷ [])

-- the codeword near 184 bits, if there is one: a search of all of them, of which no two are near
abbrev pub near_codeword : List Bool → Option (List Bool)
near_codeword bits = near_from 102 [] bits
