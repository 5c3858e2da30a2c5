-- The cells of a symbol of mode 1 with those negated that are spoiled.
use Rattle.std.proofs.Common.{◌≡◌, ◌≢◌, ℕ, ◌+◌, ◌*◌, ◌%◌, ◌<◌, Bool, true, false, List, length, get_or, Some, refl, arith, ap, sym, ◌∙◌, subst, inl, inr}
use Rattle.std.specs.Prelude.{slice_get, ◌==◌, ◌&&◌, ◌||◌}
use Rattle.std.proofs.Math.ListN.{set, length-set}
use Rattle.std.proofs.lemmas.Bool.{eq-eqb, ne_eqb}
use Rattle.std.proofs.lemmas.Bool.Decides.{eqb_tells}
use Rattle.std.proofs.lemmas.List.{get_or-set_other, get_or-set_same}
use Rattle.std.proofs.lemmas.Option.{slice_get-get_or, get_or_from_slice_get}
use Rattle.isdbt_base.specs.declared.kinds.Mode.TheVariants.{M1}
use Rattle.cell_map.specs.declared.cell.Cell.{Cell}
use Rattle.seg_receiver.specs.CellStream.{FrameCells}
use Rattle.seg_receiver.specs.Receiver.{IsSymbolOf}
use Rattle.sample.specs.SpoiledCells.{is_spoiled, negated, spoiled, HasNegation}

-- ---- which cells are spoiled

pub unspoiled : (cell : FrameCells) (f k segment carrier : ℕ) → is_spoiled f k segment carrier ≡ false → spoiled cell f k segment carrier ≡ cell f k segment carrier
unfolding spoiled
unspoiled cell f k segment carrier e = rw e refl

is-spoiled : (cell : FrameCells) (f k segment carrier : ℕ) → is_spoiled f k segment carrier ≡ true → spoiled cell f k segment carrier ≡ negated (cell f k segment carrier)
unfolding spoiled
is-spoiled cell f k segment carrier e = rw e refl

both-true : (a b c : Bool) → a ≡ true → b ≡ true → c ≡ true → (a && b && c) ≡ true
both-true a b c ha hb hc = rw (ha, hb, hc) refl

first-false : (a b c : Bool) → a ≡ false → (a && b && c) ≡ false
first-false a b c h = rw h refl

second-false : (a b c : Bool) → b ≡ false → (a && b && c) ≡ false
second-false true b c h = rw h refl
second-false false b c h = refl

third-false : (a b c : Bool) → c ≡ false → (a && b && c) ≡ false
third-false true true c h = h
third-false true false c h = refl
third-false false b c h = refl

-- ---- a list with one more element set

set-other : (xs : List Cell) (i n : ℕ) (a : Cell) → n < length xs → n ≢ i → slice_get (set xs i a) n ≡ slice_get xs n
set-other xs i n a within other =
    slice_get-get_or (set xs i a) n a (let e = length-set xs i a in omega (arith, e, within)) ∙ ap Some (get_or-set_other xs i n a a other) ∙ sym (slice_get-get_or xs n a within)

set-same : (xs : List Cell) (i n : ℕ) (a : Cell) → i < length xs → n ≡ i → slice_get (set xs i a) n ≡ Some a
set-same xs i n a within same =
    ap (slice_get (set xs i a)) same ∙ slice_get-get_or (set xs i a) i a (let e = length-set xs i a in omega (arith, e, within)) ∙ ap Some (get_or-set_same xs i a a within)

-- ---- the symbol

-- another symbol stays
pub other-symbol : (cell : FrameCells) (f k : ℕ) (xs : List Cell) → k ≢ 7 * f % 204 → IsSymbolOf 13 M1 cell f k xs → IsSymbolOf 13 M1 (spoiled cell) f k xs
other-symbol cell f k xs other is = record {
  each = λ segment carrier s c. is.each segment carrier s c
      ∙ ap Some (sym (unspoiled cell f k segment carrier (first-false (k == 7 * f % 204) (carrier == f % 96) ((segment == 0) || (segment == 5)) (ne_eqb k (7 * f % 204) other))));
}

-- in that symbol two cells are negated
pub spoiled-symbol : (cell : FrameCells) (f k r : ℕ) (xs : List Cell) (a b : Cell) → length xs ≡ 1248 → k ≡ 7 * f % 204 → r ≡ f % 96 → a ≡ negated (cell f k 0 r) → b ≡ negated (cell f k 5 r)
    → IsSymbolOf 13 M1 cell f k xs → IsSymbolOf 13 M1 (spoiled cell) f k (set (set xs r a) (480 + r) b)
spoiled-symbol cell f k r xs a b size this at is_a is_b is = record { each = each }
  where
    first : List Cell
    first = set xs r a

    size-first : length first ≡ 1248
    size-first = length-set xs r a ∙ size

    few : r < 96
    few = omega (arith, at)

    -- a cell at the carrier in a spoiled segment
    here : (segment : ℕ) → ((segment == 0) || (segment == 5)) ≡ true → spoiled cell f k segment r ≡ negated (cell f k segment r)
    here segment e = is-spoiled cell f k segment r (both-true (k == 7 * f % 204) (r == f % 96) ((segment == 0) || (segment == 5)) (eq-eqb k (7 * f % 204) this) (eq-eqb r (f % 96) at) e)

    -- a cell elsewhere
    stays : (segment carrier : ℕ) → segment < 13 → carrier < 96 → segment * 96 + carrier ≢ r → segment * 96 + carrier ≢ 480 + r → is_spoiled f k segment carrier ≡ false
        → slice_get (set first (480 + r) b) (segment * 96 + carrier) ≡ Some (spoiled cell f k segment carrier)
    stays segment carrier s c ne_a ne_b kept =
        set-other first (480 + r) (segment * 96 + carrier) b (omega (arith, size-first, s, c)) ne_b ∙ set-other xs r (segment * 96 + carrier) a (omega (arith, size, s, c)) ne_a
        ∙ is.each segment carrier s c ∙ ap Some (sym (unspoiled cell f k segment carrier kept))

    each : (segment carrier : ℕ) → segment < 13 → carrier < 96 → slice_get (set first (480 + r) b) (segment * 96 + carrier) ≡ Some (spoiled cell f k segment carrier)
    each segment carrier s c =
        elim (eqb_tells carrier r) [
          | inr other ↦ stays segment carrier s c (λ e. other.1 (omega (arith, e, c, few))) (λ e. other.1 (omega (arith, e, c, few)))
              (second-false (k == 7 * f % 204) (carrier == f % 96) ((segment == 0) || (segment == 5)) (ne_eqb carrier (f % 96) (λ e. other.1 (e ∙ sym at))))
          | inl same ↦ subst (λ n. slice_get (set first (480 + r) b) (segment * 96 + n) ≡ Some (spoiled cell f k segment n)) (sym same.1)
              (elim (eqb_tells segment 0) [
                | inl zero_is ↦ subst (λ n. slice_get (set first (480 + r) b) (n * 96 + r) ≡ Some (spoiled cell f k n r)) (sym zero_is.1)
                    (set-other first (480 + r) (0 * 96 + r) b (omega (arith, size-first, few)) (λ e. omega (arith, e)) ∙ set-same xs r (0 * 96 + r) a (omega (arith, size, few)) (omega arith) ∙ ap Some (is_a ∙ sym (here 0 refl)))
                | inr not_zero ↦ elim (eqb_tells segment 5) [
                  | inl five_is ↦ subst (λ n. slice_get (set first (480 + r) b) (n * 96 + r) ≡ Some (spoiled cell f k n r)) (sym five_is.1)
                      (set-same first (480 + r) (5 * 96 + r) b (omega (arith, size-first, few)) (omega arith) ∙ ap Some (is_b ∙ sym (here 5 refl)))
                  | inr not_five ↦ stays segment r s few (λ e. not_zero.1 (omega (arith, e))) (λ e. not_five.1 (omega (arith, e)))
                      (third-false (k == 7 * f % 204) (r == f % 96) ((segment == 0) || (segment == 5)) (rw (not_zero.0, not_five.0) refl))
                ]
              ])
        ]

-- ---- what is read of a symbol

pub read-at : (cell : FrameCells) (f k segment r n : ℕ) (xs : List Cell) (d : Cell) → n ≡ segment * 96 + r → segment < 13 → r < 96 → IsSymbolOf 13 M1 cell f k xs → get_or xs n d ≡ cell f k segment r
read-at cell f k segment r n xs d at s few is = get_or_from_slice_get xs n (cell f k segment r) d (ap (slice_get xs) at ∙ is.each segment r s few)

pub negated-is : (read known result : Cell) → read ≡ known → HasNegation known → (HasNegation read → result ≡ negated read) → result ≡ negated known
negated-is read known result same turns says = says (subst HasNegation (sym same) turns) ∙ ap negated same
