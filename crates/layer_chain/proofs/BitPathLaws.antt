-- The lines of the bits of cells, one after the other.
use Rattle.std.proofs.Common.{◌≡◌, ℕ, zero, suc, ◌+◌, ◌-◌, ◌*◌, ◌^◌, ◌<◌, ◌≤◌, Bool, List, [], ◌∷◌, ◌++◌, length, get_or, set, length-set, inl, inr, refl, sym, ap, ◌∙◌, arith}
use Rattle.std.specs.Prelude.{◌==◌, replicate, map}
use Rattle.std.specs.List.{range_with_len}
use Rattle.std.specs.Int.{bit_at, from_bool}
use Rattle.std.proofs.lemmas.Nat.Bits.{bit_at-lt}
use Rattle.std.proofs.lemmas.Bool.{cases_lt}
use Rattle.std.proofs.lemmas.List.{get_or-set_other, get_or-set_same}
use Rattle.std.proofs.lemmas.List.FromFn.{length-map-range_with_len, get_or-map-range_with_len, map-range_with_len_more}
use Rattle.delay_line.specs.Lines.{held_after, item_of, delayed}
use Rattle.delay_line.proofs.LineLaws.{held_after-nil, held_after-append, get_or-output}
use Rattle.layer_chain.specs.LayerCells.{cell_number, bit_of_number}
use Rattle.layer_chain.specs.BitPaths.{StandsFor, late_number}
use Rattle.layer_chain.proofs.CellNumbers.{cell_number-more, small-more}

-- a bit is the number of whether it is one
bit_by : (x : ℕ) → x < 2 → x ≡ from_bool (x == 1)
bit_by zero h = refl
bit_by (suc zero) h = refl
bit_by (suc (suc x)) h = absurd (omega arith)

pub bit-from_bool : (v n r : ℕ) → bit_at n (v - 1 - r) ≡ from_bool (bit_of_number v n r)
bit-from_bool v n r = bit_by (bit_at n (v - 1 - r)) (bit_at-lt n (v - 1 - r))

-- ---- the numbers that go out

-- no bit
pub no_bits : (b : ℕ → Bool) → cell_number 0 b ≡ 0
unfolding cell_number
no_bits b = refl

-- the lines of so many bits have been fed
pub record FedLines (lines0 lines : List (List ℕ)) (input output : List ℕ) (bit : ℕ) : Type 0 where
  pub count : length lines ≡ length lines0
  pub left : (r : ℕ) → bit ≤ r → get_or lines r [] ≡ get_or lines0 r []
  pub held : (delay : ℕ → ℕ) (h : List ℕ) → StandsFor delay lines0 h → (r : ℕ) → r < bit → get_or lines r [] ≡ held_after (delay r) 0 (h ++ input)
  pub given : (delay : ℕ → ℕ) (h : List ℕ) → StandsFor delay lines0 h
      → (k : ℕ) → k < length input → get_or output k 0 ≡ cell_number bit (λ r. bit_of_number (length lines0) (delayed (delay r) 0 (item_of 0 (h ++ input)) (length h + k)) r)
  pub small : (k : ℕ) → k < length input → get_or output k 0 < 2 ^ bit

pub FedLines-none : (lines : List (List ℕ)) (input output : List ℕ) → ((k : ℕ) → get_or output k 0 ≡ 0) → FedLines lines lines input output 0
FedLines-none lines input output zeros = record {
  count = refl;
  left = λ r h. refl;
  held = λ delay h stands r early. absurd (omega arith);
  given = λ delay h stands k inside. zeros k ∙ sym (no_bits (λ r. bit_of_number (length lines) (delayed (delay r) 0 (item_of 0 (h ++ input)) (length h + k)) r));
  small = λ k inside. let z = zeros k in omega (arith, z);
}

-- one line more
pub FedLines-more : (lines0 lines : List (List ℕ)) (input late output output' : List ℕ) (line line' : List ℕ) (bit : ℕ)
    → bit < length lines0 → line ≡ get_or lines bit [] → length late ≡ length input → line ++ input ≡ late ++ line'
    → ((k : ℕ) → k < length input → get_or output' k 0 ≡ 2 * get_or output k 0 + bit_at (get_or late k 0) (length lines0 - 1 - bit))
    → FedLines lines0 lines input output bit → FedLines lines0 (set lines bit line') input output' (bit + 1)
FedLines-more lines0 lines input late output output' line line' bit inside is same fed added so_far =
    let v = length lines0 in
    let room : bit < length lines = omega (arith, so_far.count, inside) in
    let was : line ≡ get_or lines0 bit [] = is ∙ so_far.left bit (omega arith) in
    record {
      count = length-set lines bit line' ∙ so_far.count;
      left = λ r behind. get_or-set_other lines bit r line' [] (omega (arith, behind)) ∙ so_far.left r (omega (arith, behind));
      held = λ delay h stands r before. elim (cases_lt r bit) [
        | inl early ↦ get_or-set_other lines bit r line' [] (omega (arith, early)) ∙ so_far.held delay h stands r early
        | inr last ↦
            let here : r ≡ bit = omega (arith, before, last) in
            ap (λ n. get_or (set lines bit line') n []) here ∙ get_or-set_same lines bit line' [] room
            ∙ held_after-append (delay bit) 0 h input late line line' (was ∙ stands bit inside) same fed ∙ ap (λ n. held_after (delay n) 0 (h ++ input)) (sym here)
      ];
      given = λ delay h stands k below.
          let bits = λ (r : ℕ). bit_of_number v (delayed (delay r) 0 (item_of 0 (h ++ input)) (length h + k)) r in
          let item = get_or-output (delay bit) 0 h input late line line' (was ∙ stands bit inside) same fed k below in
          added k below
          ∙ cell_number-more bit (get_or output k 0) (bit_at (get_or late k 0) (v - 1 - bit)) bits (so_far.given delay h stands k below)
          (ap (λ n. bit_at n (v - 1 - bit)) item ∙ bit-from_bool v (delayed (delay bit) 0 (item_of 0 (h ++ input)) (length h + k)) bit);
      small = λ k below.
          let bit_less = bit_at-lt (get_or late k 0) (v - 1 - bit) in
          rw (added k below) (small-more bit (get_or output k 0) (bit_at (get_or late k 0) (v - 1 - bit)) (so_far.small k below) (omega (arith, bit_less)));
    }

-- all bits of a number
pub all-bits : (v bit : ℕ) → bit ≡ v → (delay : ℕ → ℕ) (h input : List ℕ) (k : ℕ)
    → cell_number bit (λ r. bit_of_number v (delayed (delay r) 0 (item_of 0 (h ++ input)) (length h + k)) r) ≡ late_number v delay (item_of 0 (h ++ input)) (length h + k)
all-bits v bit is delay h input k = ap (λ n. cell_number n (λ r. bit_of_number v (delayed (delay r) 0 (item_of 0 (h ++ input)) (length h + k)) r)) is

-- ---- new lines

-- lines that hold zeros
unfoldable pub new_lines : (ℕ → ℕ) → ℕ → List (List ℕ)
new_lines delay n = map (λ r. replicate (delay r) 0) (range_with_len 0 n)

pub new_lines-none : (delay : ℕ → ℕ) → [] ≡ new_lines delay 0
unfolding new_lines
new_lines-none delay = refl

pub new_lines-more : (delay : ℕ → ℕ) (n : ℕ) (lines : List (List ℕ)) (line : List ℕ) → lines ≡ new_lines delay n → line ≡ replicate (delay n) 0 → lines ++ line ∷ [] ≡ new_lines delay (n + 1)
unfolding new_lines
new_lines-more delay n lines line are is =
    ap (λ xs. xs ++ line ∷ []) are ∙ ap (λ x. map (λ r. replicate (delay r) 0) (range_with_len 0 n) ++ x ∷ []) is
    ∙ sym (map-range_with_len_more (λ r. replicate (delay r) 0) 0 n n (omega arith))

pub length-new_lines : (delay : ℕ → ℕ) (n : ℕ) → length (new_lines delay n) ≡ n
unfolding new_lines
length-new_lines delay n = length-map-range_with_len (λ k. replicate (delay k) 0) 0 n

pub StandsFor-new : (delay : ℕ → ℕ) (lines : List (List ℕ)) (n : ℕ) → lines ≡ new_lines delay n → StandsFor delay lines []
unfolding new_lines
StandsFor-new delay lines n are r h =
    let size : length lines ≡ n = ap length are ∙ length-new_lines delay n in
    ap (λ xs. get_or xs r []) are ∙ get_or-map-range_with_len (λ k. replicate (delay k) 0) 0 n r r [] (omega (arith, size, h)) (omega arith) ∙ sym (held_after-nil (delay r) 0)
