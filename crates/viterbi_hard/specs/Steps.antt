-- What was read of each step of the mother code: the steps' places among the read bits.
use Rattle.std.specs.Prelude.{ℕ, zero, suc, ◌+◌, ◌/◌, ◌%◌, ◌==◌, Bool, true, false, cond, List, [], ◌∷◌, slice_index}
use Rattle.std.specs.List.{list_any}
use Rattle.isdbt_base.specs.declared.kinds.Rate.{Rate}
use Rattle.isdbt_base.specs.Numbers.{rate_steps}
use Rattle.conv_punct.specs.CodedBits.{Output, x_of, y_of, coded_len, pattern}
use Rattle.viterbi_hard.specs.declared.received.Decision.{Decision}
use Rattle.viterbi_hard.specs.declared.received.Decision.TheVariants.{Punctured, Zero, One}
use Rattle.viterbi_hard.specs.declared.received.Received.{Received}

-- whether an output is X, or Y, of step j
abbrev pub is_x : ℕ → Output → Bool
is_x j (x_of a) = j == a
is_x j (y_of a) = false

abbrev pub is_y : ℕ → Output → Bool
is_y j (x_of a) = false
is_y j (y_of a) = j == a

-- whether X and Y of step j of a puncturing pattern are sent
abbrev pub sends_x : Rate → ℕ → Bool
sends_x rate j = list_any (is_x j) (pattern rate)

abbrev pub sends_y : Rate → ℕ → Bool
sends_y rate j = list_any (is_y j) (pattern rate)

-- the bits that are sent of step j of a pattern, and of the steps before it
abbrev pub used_at : Rate → ℕ → ℕ
used_at rate j = cond (sends_x rate j) 1 0 + cond (sends_y rate j) 1 0

abbrev pub sent_before : Rate → ℕ → ℕ
sent_before rate zero = 0
sent_before rate (suc j) = sent_before rate j + used_at rate j

-- a read bit as a decision
abbrev pub decision_of : Bool → Decision
decision_of false = Zero
decision_of true = One

-- what was read of step j of a pattern, whose bits begin at a place
abbrev pub received_from : Rate → (ℕ → Bool) → ℕ → ℕ → Received
received_from rate read place j = record {
  x = cond (sends_x rate j) (decision_of (read place)) Punctured;
  y = cond (sends_y rate j) (decision_of (read (place + cond (sends_x rate j) 1 0))) Punctured;
}

-- what was read of step i
abbrev pub received_at : Rate → (ℕ → Bool) → ℕ → Received
received_at rate read i = received_from rate read (coded_len rate i) (i % rate_steps rate)

-- what was read of the first n steps, the newest first
abbrev pub received_steps : Rate → (ℕ → Bool) → ℕ → List Received
received_steps rate read zero = []
received_steps rate read (suc n) = received_at rate read n ∷ received_steps rate read n

-- what was read of a step by its number: four times what was read in the place of X, and what was in that of Y, each 1 for
-- a 0 and 2 for a 1
abbrev pub decision_at : ℕ → Decision
decision_at n = cond (n == 1) Zero (cond (n == 2) One Punctured)

abbrev pub read_of : ℕ → Received
read_of n = record { x = decision_at (n / 4 % 4); y = decision_at (n % 4) }

-- step i of a list of such numbers
abbrev pub step_at : List ℕ → ℕ → Received
step_at steps i = read_of (slice_index steps i)

-- so many steps of a list from a place on, the newest first, behind those before
abbrev pub pushed : List ℕ → ℕ → ℕ → List Received → List Received
pushed steps at zero rs = rs
pushed steps at (suc k) rs = step_at steps (at + k) ∷ pushed steps at k rs
