-- The delay adjustment and the interleaver behind it, and the deinterleaver.
use Rattle.std.proofs.Common.{◌≡◌, ℕ, ◌+◌, ◌*◌, ◌-◌, ◌%◌, ◌<◌, ◌≤◌, List, ◌++◌, length, get_or, refl, sym, ◌∙◌, arith, ap}
use Rattle.std.proofs.Math.Nat.{mul-add}
use Rattle.delay_line.specs.Lines.{item_of, delayed}
use Rattle.delay_line.specs.Stages.{ArePartners, stage_item}
use Rattle.delay_line.specs.Adjusted.{AdjustedStandsFor, AdjustedFeeds}
use Rattle.delay_line.proofs.LineLaws.{delayed-late}
use Rattle.delay_line.proofs.AdjustedLaws.{get_or-adjusted_output}
use Rattle.byte_inter.specs.BytePlaces.{byte_adjustment, byte_place, interleaved}
use Rattle.byte_inter.specs.Layouts.{inter_layout, deinter_layout}
use Rattle.byte_inter.proofs.PlaceLaws.{interleaved-delayed}

pub get_or-sender_output : (t : ℕ) (h x middle output line line' : List ℕ) (held held' : ℕ → List ℕ) → AdjustedStandsFor (inter_layout 12 17) (byte_adjustment t) line held h → AdjustedFeeds (inter_layout 12 17) line held x middle output line' held' → (n : ℕ) → n < length x → get_or output n 0 ≡ interleaved (item_of 0 (h ++ x)) t (length h + n)
get_or-sender_output t h x middle output line line' held held' stands feeds n inside =
    get_or-adjusted_output (inter_layout 12 17) (byte_adjustment t) h x middle output line line' held held' stands feeds n inside
    ∙ ap (λ d. delayed d 0 (item_of 0 (h ++ x)) (length h + n)) (omega arith)
    ∙ sym (interleaved-delayed (item_of 0 (h ++ x)) t (length h + n))

pub stage_item-deinter : (t : ℕ) → 11 ≤ t → (stream : ℕ → ℕ) (n : ℕ) → stage_item (deinter_layout 12 17) stream (n + 204 * t) ≡ stream (byte_place t n)
stage_item-deinter t least stream n =
    delayed-late (12 * (17 * (12 - 1 - (n + 204 * t) % 12))) 0 stream (n + 204 * t) (omega arith) ∙ ap stream (omega arith)

-- what is left of the delay
left-sums : (unit paths p : ℕ) → p < paths → unit * p + unit * (paths - 1 - p) ≡ unit * (paths - 1)
left-sums unit paths p path = sym (mul-add unit p (paths - 1 - p)) ∙ ap (λ n. unit * n) (omega arith)

pub ArePartners-inter : (paths unit : ℕ) → ArePartners (inter_layout paths unit) (deinter_layout paths unit)
ArePartners-inter paths unit = record {
  delay = refl;
  zero = refl;
  paths = refl;
  sums = left-sums unit paths;
}

pub ArePartners-deinter : (paths unit : ℕ) → ArePartners (deinter_layout paths unit) (inter_layout paths unit)
ArePartners-deinter paths unit = record {
  delay = refl;
  zero = refl;
  paths = refl;
  sums = λ p path. omega (arith, left-sums unit paths p path);
}
