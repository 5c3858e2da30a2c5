-- What the last sixteen blocks keep of the steps up to a boundary.
use Rattle.std.specs.Prelude.{◌≡◌, ℕ, ◌+◌, ◌-◌, ◌*◌, ◌%◌, ◌<◌, ◌≤◌, Bool, List, [], drop, get_or}
use Rattle.viterbi_hard.specs.declared.received.Received.{Received}
use Rattle.viterbi_hard.specs.declared.blocks.Blocks.{Blocks}
use Rattle.viterbi_hard.specs.Trellis.{newest_state}
use Rattle.viterbi_hard.specs.States.{AreTags, IsLabel, path_at, state_of}

-- the place of a block, so many before the newest, by the place of the oldest
abbrev pub place_back : ℕ → ℕ → ℕ
place_back oldest back = (oldest % 16 + 15 - back) % 16

-- of each block its tags at its end
abbrev pub HasMaps : Blocks → List Received → Type 0
HasMaps blocks rs = (b : ℕ) → b < 16 → AreTags (get_or blocks.maps (place_back blocks.oldest b) []) 8 (drop (8 * b) rs)

-- a lane is that of a path's state so many steps ago
pub record Leads (lane m : ℕ) (path : List Bool) : Type 0 where
  pub low : lane < 64
  pub state : state_of lane ≡ newest_state (drop m path)

-- of each lane, and of all lanes
abbrev pub Lead : List ℕ → ℕ → List Received → Type 0
Lead lanes m rs = (n : ℕ) → n < 64 → Leads (get_or lanes n 0) m (path_at rs n)

abbrev pub AllLead : ℕ → ℕ → List Received → Type 0
AllLead lane m rs = (n : ℕ) → n < 64 → Leads lane m (path_at rs n)

-- of all survivors this is the label so many blocks back
abbrev pub AreKnown : ℕ → ℕ → List Received → Type 0
AreKnown label b rs = (n : ℕ) → n < 64 → IsLabel label (drop (8 * b) (path_at rs n))

-- of each survivor this is its label so many blocks back
abbrev pub AreLabels : List ℕ → ℕ → List Received → Type 0
AreLabels labels b rs = (n : ℕ) → n < 64 → IsLabel (get_or labels n 0) (drop (8 * b) (path_at rs n))

-- the labels that are kept, found by the lane in front
abbrev pub HasKept : Blocks → List Received → Type 0
HasKept blocks rs = (b : ℕ) → b < 16 → 16 ≤ b + blocks.kept.left → (n : ℕ) → n < 64 → IsLabel (get_or (get_or blocks.kept.labels (place_back blocks.oldest b) []) (get_or blocks.kept.front n 0 % 64) 0) (drop (8 * b) (path_at rs n))

-- the blocks are those that the steps rs leave, the newest first
pub record Traced (blocks : Blocks) (rs : List Received) : Type 0 where
  pub maps : HasMaps blocks rs
  pub few : blocks.known ≤ 16
  pub labels : (b : ℕ) → b < 16 → 16 ≤ b + blocks.known → AreKnown (get_or blocks.labels (place_back blocks.oldest b) 0) b rs
  pub table : blocks.known ≡ 0 → AreLabels blocks.table 15 rs
  pub short : blocks.kept.left ≤ 16
  pub kept : HasKept blocks rs
