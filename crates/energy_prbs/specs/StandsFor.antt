-- What a generator keeps of the sequence.
use Rattle.std.specs.Prelude.{◌≡◌, ℕ, ◌+◌, ◌*◌, ◌^◌, ◌<◌, ◌==◌}
use Rattle.std.specs.Int.{bit_at}
use Rattle.energy_prbs.specs.declared.prbs.Prbs.{Prbs}
use Rattle.energy_prbs.specs.Sequence.{earlier_bit}

-- a generator that has given so many bytes: its register has the fifteen bits before the next, the newest lowest
pub record StandsFor (state : Prbs) (given : ℕ) : Type 0 where
  pub bits : (d : ℕ) → d < 15 → (bit_at state.register d == 1) ≡ earlier_bit (8 * given) (d + 1)
  pub only : state.register < 2 ^ 15
