-- Where the epochs of a stream of cells begin, by the TMCC words of its frames, and what the head of a frame must repeat.
use Rattle.std.specs.Prelude.{ℕ, zero, suc, Bool, if◌then◌else◌, ◌==◌, Option, Some, None, Result, Ok, Err, List}
use Rattle.isdbt_base.specs.declared.kinds.Mode.{Mode}
use Rattle.isdbt_base.specs.declared.kinds.Guard.{Guard}
use Rattle.tmcc_word.specs.declared.fault.TmccFault.{TmccFault}
use Rattle.tmcc_word.specs.Fields.{TmccFields}
use Rattle.tmcc_word.specs.Reading.{read}

-- the countdown that a word says; a word that is refused says none, as where no switch is near
abbrev pub countdown_read : Result (TmccFields × Bool) TmccFault → ℕ
countdown_read (Ok i) = i.0.countdown
countdown_read (Err e) = 15

-- the first frame of the epoch of a frame: an epoch begins after each frame whose countdown is 0
unfoldable pub epoch_start : (ℕ → List Bool) → ℕ → ℕ
epoch_start words zero = zero
epoch_start words (suc f) = if countdown_read (read (words f)) == 0 then suc f else epoch_start words f

-- what the head of a frame must repeat behind a frame of this mode and guard interval, by the countdown of that one's word
abbrev pub due_behind : Mode × Guard → TmccFields × Bool → Option (Mode × Guard)
due_behind said word = if word.0.countdown == 0 then None else Some said

-- the mode and the guard interval that the head of a frame must repeat, by those of the frames: those of the frame before, and none where the frame begins an epoch
unfoldable pub epoch_head : (ℕ → List Bool) → (ℕ → Mode) → (ℕ → Guard) → ℕ → Option (Mode × Guard)
epoch_head words mode guard zero = None
epoch_head words mode guard (suc f) = if epoch_start words (suc f) == suc f then None else Some (mode f, guard f)
