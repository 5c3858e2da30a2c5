-- Bits that stand in a word at a place, and the fields that are read there.
use Rattle.std.proofs.Common.{◌≡◌, ℕ, ◌+◌, ◌-◌, ◌^◌, ◌<◌, Bool, false, refl, arith, ap, sym, ◌∙◌, List, [], ◌∷◌, ◌++◌, length, take, drop, set, map, append_assoc, add-zero}
use Rattle.std.specs.Prelude.{slice_index_or}
use Rattle.std.proofs.lemmas.List.{drop-drop, drop_at, take_at, get_or-drop, take_more_set}
use Rattle.std.proofs.lemmas.List.FromFn.{map-range_with_len_more}
use Rattle.std.specs.List.{range_with_len}
use Rattle.isdbt_base.specs.Bits.{number_bits, bits_number}
use Rattle.isdbt_base.proofs.BitLaws.{bits_number-bits, length-number_bits}
use Rattle.tmcc_word.specs.Reading.{field, flag}

-- the word goes on from a place with these bits
pub record Stands (word : List Bool) (at : ℕ) (bits : List Bool) : Type 0 where
  pub rest : List Bool
  pub here : drop at word ≡ bits ++ rest

pub stands-front : (word : List Bool) (at : ℕ) (xs ys : List Bool) → Stands word at (xs ++ ys) → Stands word at xs
stands-front word at xs ys s = record { rest = ys ++ s.rest; here = s.here ∙ append_assoc xs ys s.rest }

pub stands-back : (word : List Bool) (at next : ℕ) (xs ys : List Bool) → at + length xs ≡ next → Stands word at (xs ++ ys) → Stands word next ys
stands-back word at next xs ys e s = record {
  rest = s.rest;
  here = ap (λ n. drop n word) (sym e) ∙ sym (drop-drop (length xs) at word) ∙ ap (drop (length xs)) (s.here ∙ append_assoc xs ys s.rest) ∙ drop_at xs (ys ++ s.rest) (length xs) refl;
}

pub field-stands : (word : List Bool) (at width : ℕ) (xs : List Bool) → length xs ≡ width → Stands word at xs → field word at width ≡ bits_number xs
field-stands word at width xs e s =
    let n : at + width - at ≡ width = omega arith in
    ap (λ w. bits_number (take w (drop at word))) n ∙ ap (λ bits. bits_number (take width bits)) s.here ∙ ap bits_number (take_at xs s.rest width e)

pub flag-stands : (word : List Bool) (at : ℕ) (b : Bool) (xs : List Bool) → Stands word at (b ∷ xs) → flag word at ≡ b
flag-stands word at b xs s = ap (λ n. slice_index_or word n false) (sym (add-zero at)) ∙ sym (get_or-drop at word 0 false) ∙ ap (λ bits. slice_index_or bits 0 false) s.here

-- a number's bits that stand there
pub field-number : (word : List Bool) (at width n : ℕ) → n < 2 ^ width → Stands word at (number_bits width n) → field word at width ≡ n
field-number word at width n h s = field-stands word at width (number_bits width n) (length-number_bits width n) s ∙ bits_number-bits width n h

-- one bit more is put behind the bits that a function gives
pub put-more : (f : ℕ → Bool) (word start : List Bool) (at k : ℕ) (b : Bool) → at + k < length word → take (at + k) word ≡ take at start ++ map f (range_with_len 0 k) → b ≡ f k →
    take (at + (k + 1)) (set word (at + k) b) ≡ take at start ++ map f (range_with_len 0 (k + 1))
put-more f word start at k b h e is =
    let place : at + (k + 1) ≡ at + k + 1 = omega arith in
    ap (λ n. take n (set word (at + k) b)) place
    ∙ take_more_set word (at + k) b h
    ∙ ap (λ xs. xs ++ b ∷ []) e
    ∙ append_assoc (take at start) (map f (range_with_len 0 k)) (b ∷ [])
    ∙ ap (λ d. take at start ++ (map f (range_with_len 0 k) ++ d ∷ [])) is
    ∙ ap (λ xs. take at start ++ xs) (sym (map-range_with_len_more f 0 k k (omega arith)))

-- the parts of the information bits, put one behind the other
pub information-parts : (a b d e f g number setting next ones : List Bool) (start_up : Bool) → a ≡ false ∷ false ∷ [] → b ≡ a ++ number → d ≡ b ++ start_up ∷ [] → e ≡ d ++ setting → f ≡ e ++ next → g ≡ f ++ ones →
    g ≡ false ∷ false ∷ number ++ start_up ∷ setting ++ next ++ ones
information-parts a b d e f g number setting next ones start_up is-a is-b is-d is-e is-f is-g =
    is-g ∙ ap (λ xs. xs ++ ones) (is-f ∙ ap (λ xs. xs ++ next) (is-e ∙ ap (λ xs. xs ++ setting) (is-d ∙ ap (λ xs. xs ++ start_up ∷ []) (is-b ∙ ap (λ xs. xs ++ number) is-a))
    ∙ append_assoc (false ∷ false ∷ number) (start_up ∷ []) setting))

-- the parts of a word, put one behind the other behind a first zero
pub word-parts : (a b d e number kind info parity : List Bool) → a ≡ false ∷ number → b ≡ a ++ kind → d ≡ b ++ info → e ≡ d ++ parity → e ≡ false ∷ number ++ kind ++ info ++ parity
word-parts a b d e number kind info parity is-a is-b is-d is-e =
    is-e ∙ ap (λ xs. xs ++ parity) (is-d ∙ ap (λ xs. xs ++ info) (is-b ∙ ap (λ xs. xs ++ kind) is-a))
