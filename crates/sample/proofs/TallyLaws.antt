-- What is counted of a layer with one frame more.
use Rattle.std.proofs.Common.{◌≡◌, ℕ, ◌+◌, ◌<◌, ◌≤◌, cond, List, [], length, take, get_or, sum, count_by, refl, arith, ap, sym, ◌∙◌}
use Rattle.std.specs.Prelude.{sum_by, slice_index, nat_le}
use Rattle.std.specs.List.{range_with_len}
use Rattle.std.specs.Str.{bytes_eq}
use Rattle.std.proofs.lemmas.List.{get_or-take, length-take}
use Rattle.isdbt_base.specs.declared.kinds.Layer.{Layer}
use Rattle.isdbt_base.proofs.RangeLaws.{count-same}
use Rattle.ts_packet.specs.Packets.{piece}
use Rattle.sample.specs.declared.counting.Tally.{Tally}
use Rattle.sample.specs.Generator.{made_packet}
use Rattle.sample.specs.SampleInputs.{sample_input, seed_of}
use Rattle.sample.specs.Counting.{AreCompared}
use Rattle.sample.specs.Places.{Place, place_of, given_before, sample_share}
use Rattle.sample.specs.Tallies.{sample_received, is_met, is_marked, tally_of}
use Rattle.sample.proofs.Counted.{sum-more}
use Rattle.sample.proofs.InputLaws.{piece-input}
use Rattle.sample.proofs.PlaceLaws.{due_of, given-more, given-place, given-most}

-- nothing counted
pub tally-none : (number : ℕ) (x : Layer) → ◌≡◌ {A = Tally} (record { met = 0; marked = 0; sum = 0 }) (tally_of number x 0 0)
unfolding tally_of
tally-none number x = refl

-- ---- the parts of a tally

pub tally-met : (number : ℕ) (x : Layer) (packets frames : ℕ) (t : Tally) → t ≡ tally_of number x packets frames → t.met ≡ count_by (is_met number x) (range_with_len 0 packets)
unfolding tally_of
tally-met number x packets frames t is = ap (λ (u : Tally). u.met) is

pub tally-sum : (number : ℕ) (x : Layer) (packets frames : ℕ) (t : Tally) → t ≡ tally_of number x packets frames
    → t.sum ≡ sum_by (λ i. cond (is_met number x i) (sum (made_packet (seed_of number x) i)) 0) (range_with_len 0 packets)
unfolding tally_of
tally-sum number x packets frames t is = ap (λ (u : Tally). u.sum) is

same-tally : (t : Tally) (a b d : ℕ) → t.met ≡ a → t.marked ≡ b → t.sum ≡ d → t ≡ record { met = a; marked = b; sum = d }
same-tally t a b d met_is marked_is sum_is =
    ap (λ n. record { met = n; marked = t.marked; sum = t.sum }) met_is ∙ ap (λ n. record { met = a; marked = n; sum = t.sum }) marked_is ∙ ap (λ n. record { met = a; marked = b; sum = n }) sum_is

-- a tally with more packets, and one frame more
pub tally-more : (number : ℕ) (x : Layer) (packets more f n : ℕ) (old new : Tally) → old ≡ tally_of number x packets f
    → new.met ≡ count_by (is_met number x) (range_with_len 0 more)
    → new.sum ≡ sum_by (λ i. cond (is_met number x i) (sum (made_packet (seed_of number x) i)) 0) (range_with_len 0 more)
    → new.marked ≡ old.marked + n → n ≡ count_by (is_marked number x f) (range_with_len 0 (sample_share x f).packets) → new ≡ tally_of number x more (f + 1)
unfolding tally_of
tally-more number x packets more f n old new is met_is sum_is marked_is count =
    let marks : ℕ → ℕ = λ g. count_by (is_marked number x g) (range_with_len 0 (sample_share x g).packets) in
    same-tally new _ _ _ met_is
    (marked_is ∙ ap (λ (u : Tally). u.marked + n) is ∙ ap (λ m. sum_by marks (range_with_len 0 f) + m) count ∙ sym (sum-more marks f (f + 1) refl)) sum_is

-- ---- the packets of a frame

module _ (number : ℕ) (x : Layer) (f t : ℕ) (packets : List (List ℕ)) (less : f < 15) (size : length packets ≡ t) (got : (j : ℕ) → j < t → get_or packets j [] ≡ sample_received number f x j) where
  -- those that are due are compared with the input
  pub compared : (due : ℕ) (input : List ℕ) → input ≡ sample_input number x → due ≡ due_of x f → due ≤ t → AreCompared (is_met number x) (made_packet (seed_of number x)) input (given_before x f) (take due packets)
  unfolding is_met
  compared due input is is_due most = record { sent = sent; compared = met }
    where
      within : (j : ℕ) → j < length (take due packets) → j < due
      within j l = (let size = length-take due packets in omega (arith, l, size))

      sent : (j : ℕ) → j < length (take due packets) → piece 188 input (given_before x f + j) ≡ made_packet (seed_of number x) (given_before x f + j)
      sent j l =
          ap (λ xs. piece 188 xs (given_before x f + j)) is
          ∙ piece-input number x (given_before x f + j) (let d = within j l in let more = given-more x f less in let all = given-most x (f + 1) in omega (arith, d, is_due, more, all))

      met : (j : ℕ) → j < length (take due packets) → bytes_eq (get_or (take due packets) j []) (made_packet (seed_of number x) (given_before x f + j)) ≡ is_met number x (given_before x f + j)
      met j l =
          let d = within j l in
          let here : place_of x (given_before x f + j) ≡ record { frame = f; index = j } = given-place x f j (omega (arith, d, is_due)) in
          ap (λ xs. bytes_eq xs (made_packet (seed_of number x) (given_before x f + j))) (get_or-take due packets j [] d ∙ got j (omega (arith, d, most)))
          ∙ ap (λ (q : Place). bytes_eq (sample_received number q.frame x q.index) (made_packet (seed_of number x) (given_before x f + j))) (sym here)

  -- those that are marked
  pub marked-are : t ≡ (sample_share x f).packets → count_by (λ j. nat_le 128 (slice_index (get_or packets j []) 1)) (range_with_len 0 (length packets)) ≡ count_by (is_marked number x f) (range_with_len 0 (sample_share x f).packets)
  unfolding is_marked
  marked-are is =
      ap (λ n. count_by (λ j. nat_le 128 (slice_index (get_or packets j []) 1)) (range_with_len 0 n)) size
      ∙ count-same (λ j. nat_le 128 (slice_index (get_or packets j []) 1)) (is_marked number x f) 0 t (λ k a b. ap (λ xs. nat_le 128 (slice_index xs 1)) (got k (omega (arith, b))))
      ∙ ap (λ n. count_by (is_marked number x f) (range_with_len 0 n)) is
