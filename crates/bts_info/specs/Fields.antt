-- The fields of the information of a broadcast packet, and what a frame's packets bear alike.
use Rattle.std.specs.Prelude.{ℕ, ◌<◌, ◌^◌, Bool}

-- the fields in their order
pub record Fields : Type 0 where
  pub identifier : ℕ
  pub reserved : Bool
  pub buffer_reset : Bool
  pub start_up : Bool
  pub first : Bool
  pub head : Bool
  pub odd : Bool
  pub layer : ℕ
  pub countdown : ℕ
  pub ac_invalid : Bool
  pub ac_effective : ℕ
  pub counter : ℕ
  pub ac : ℕ

-- each field is within its bits
pub record FitsFields (i : Fields) : Type 0 where
  pub identifier : i.identifier < 4
  pub layer : i.layer < 16
  pub countdown : i.countdown < 16
  pub ac_effective : i.ac_effective < 4
  pub counter : i.counter < 8192
  pub ac : i.ac < 2 ^ 32

-- what is alike in all packets of a frame
pub record Tag : Type 0 where
  pub odd : Bool
  pub first : Bool
  pub start_up : Bool
  pub countdown : ℕ
