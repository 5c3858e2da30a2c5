-- The sixty-four states as lanes, and what the decoder keeps of each.
use Rattle.std.specs.Prelude.{◌≡◌, ℕ, ◌+◌, ◌-◌, ◌*◌, ◌^◌, ◌/◌, ◌%◌, ◌<◌, ◌≤◌, Bool, true, false, cond, List, drop, get_or, nat_eq, nat_lt}
use Rattle.viterbi_hard.specs.declared.received.Received.{Received}
use Rattle.viterbi_hard.specs.declared.received.Decision.{Decision}
use Rattle.viterbi_hard.specs.declared.received.Decision.TheVariants.{Punctured, Zero, One}
use Rattle.viterbi_hard.specs.Trellis.{TrellisState, bit, branch_metric, newest_state, path_metric, path_of, survivor}

-- the lowest bit of a number
abbrev pub odd : ℕ → Bool
odd n = nat_eq (n % 2) 1

-- the state of lane n: its bits are the six lowest of n, the newest lowest
abbrev pub state_of : ℕ → TrellisState
state_of n = record { u1 = odd n; u2 = odd (n / 2); u3 = odd (n / 4); u4 = odd (n / 8); u5 = odd (n / 16); u6 = odd (n / 32) }

-- the same bits as a number in natural order, the newest highest
abbrev pub natural_of : ℕ → ℕ
natural_of n = 32 * (n % 2) + 16 * (n / 2 % 2) + 8 * (n / 4 % 2) + 4 * (n / 8 % 2) + 2 * (n / 16 % 2) + n / 32 % 2

-- the survivor of lane n's state, with the state's six bits
abbrev pub path_at : List Received → ℕ → List Bool
path_at rs n = path_of (state_of n) (survivor rs (state_of n))

-- what was read in a place as a number
abbrev pub place_of : Decision → ℕ
place_of Punctured = 0
place_of Zero = 1
place_of One = 2

-- the branch metric into lane n, where g was the oldest bit of the state before
abbrev pub branch_metric_at : Received → ℕ → Bool → ℕ
branch_metric_at r n g = branch_metric r (state_of n).u1 (state_of n).u2 (state_of n).u3 (state_of n).u4 (state_of n).u5 (state_of n).u6 g

-- the metric of lane n through its even or its odd state before
abbrev pub even_metric : Received → List ℕ → ℕ → ℕ
even_metric r metrics n = get_or metrics (n / 2) 0 + branch_metric_at r n false

abbrev pub odd_metric : Received → List ℕ → ℕ → ℕ
odd_metric r metrics n = get_or metrics (32 + n / 2) 0 + branch_metric_at r n true

-- whether the survivor comes from the odd state, and its metric and tag
abbrev pub takes_odd : Received → List ℕ → ℕ → Bool
takes_odd r metrics n = nat_lt (odd_metric r metrics n) (even_metric r metrics n)

abbrev pub next_metric : Received → List ℕ → ℕ → ℕ
next_metric r metrics n = cond (takes_odd r metrics n) (odd_metric r metrics n) (even_metric r metrics n)

abbrev pub next_tag : Received → List ℕ → List ℕ → ℕ → ℕ
next_tag r metrics tags n = cond (takes_odd r metrics n) (get_or tags (32 + n / 2) 0) (get_or tags (n / 2) 0)

-- low enough to be added to
abbrev pub AreLow : List ℕ → Type 0
AreLow metrics = (n : ℕ) → n < 64 → get_or metrics n 0 < 200

-- a tag of a path, so many steps behind a boundary: its six lowest bits are the lane of the path's state at the boundary, and
-- from the second step on its other two are the first two bits behind the boundary, the first of them highest
pub record IsTag (tag age : ℕ) (path : List Bool) : Type 0 where
  pub state : state_of tag ≡ newest_state (drop age path)
  pub first : 2 ≤ age → odd (tag / 128) ≡ bit path (age - 1)
  pub second : 2 ≤ age → odd (tag / 64) ≡ bit path (age - 2)
  pub young : age < 2 → tag < 64

abbrev pub AreTags : List ℕ → ℕ → List Received → Type 0
AreTags tags age rs = (n : ℕ) → n < 64 → IsTag (get_or tags n 0) age (path_at rs n)

-- a label: the eight newest bits of a list, the newest lowest
abbrev pub IsLabel : ℕ → List Bool → Type 0
IsLabel label bits = (j : ℕ) → j < 8 → odd (label / 2 ^ j) ≡ bit bits j

-- what the lanes hold after the steps rs: the path metric of each state's survivor, less a number that all lanes share, where
-- they were last lowered so many steps ago
pub record Holds (metrics : List ℕ) (since : ℕ) (rs : List Received) : Type 0 where
  pub base : ℕ
  pub metric_of : (n : ℕ) → n < 64 → get_or metrics n 0 + base ≡ path_metric rs (state_of n) (survivor rs (state_of n))
  pub low : (n : ℕ) → n < 64 → get_or metrics n 0 ≤ 28 + 2 * since
