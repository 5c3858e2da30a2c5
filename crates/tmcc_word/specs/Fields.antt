-- What a TMCC word says (ARIB STD-B31 chapter 3).
use Rattle.std.specs.Prelude.{ℕ, ◌<◌, Bool, Option, Some, None}
use Rattle.isdbt_base.specs.Parameters.{Parameters, IsAccepted}

-- emergency switch-on, countdown, the setting of the frame, and the setting after the next switch
pub record TmccFields : Type 0 where
  pub start_up : Bool
  pub countdown : ℕ
  pub now : Parameters
  pub next : Option Parameters

-- a setting that is there is accepted
abbrev pub IsAcceptedIfAny : Option Parameters → Type 0
IsAcceptedIfAny None = Unit {0}
IsAcceptedIfAny (Some s) = IsAccepted s

-- a word can bear the record: the countdown has 4 bits, and the settings are accepted
pub record FitsWord (i : TmccFields) : Type 0 where
  pub countdown : i.countdown < 16
  pub now : IsAccepted i.now
  pub next : IsAcceptedIfAny i.next
