-- Reading takes the nearest level, and of two as near the higher.
use Rattle.std.proofs.Common.{◌≡◌, ℕ, ◌<◌, ◌≤◌, refl, arith, Bool, true, false, sym, subst, inl, inr, ◌∙◌}
use Rattle.std.proofs.lemmas.Bool.{ltb-true, ltb-false}
use Rattle.std.proofs.Math.Nat.{eq-or-lt_of_le}
use Rattle.std.proofs.lemmas.Int.{ints}
use Rattle.std.specs.Prelude.{nat_lt, ℤ, List, [], ◌∷◌, if◌then◌else◌, ◌≤ℤ◌}
use Rattle.std.specs.List.{AllByRecursion}
use Rattle.isdbt_base.specs.declared.kinds.Modulation.{Modulation}
use Rattle.isdbt_base.specs.declared.kinds.Modulation.TheVariants.{Qpsk, Qam16, Qam64}
use Rattle.cell_map.specs.declared.cell.Cell.{Cell}
use Rattle.cell_map.specs.Levels.{cell_of, bits_of, Level, highest, lower, level_of, nearest, distance, axis_bits_of, i_bits, q_bits, IsTakenBefore}
use Rattle.cell_map.proofs.LevelLaws.{level_in-of, level-nearest, axis_bits-lt-eight, joined-parts}

-- none of these levels is above the one before it
abbrev Falling : Level → List Level → Type 0
Falling best [] = Unit {0}
Falling best (l ∷ ls) = (l.level ≤ℤ best.level) × Falling l ls

falling-from : (best l : Level) (ls : List Level) → l.level ≤ℤ best.level → Falling l ls → Falling best ls
falling-from best l [] h f = tt
falling-from best l (k ∷ ls) h f = let below : k.level ≤ℤ l.level = f.0 in (omega (arith, ints), f.1)

-- a level is taken before another, and before each of a list
record IsFirst (x : ℤ) (taken best : Level) (ls : List Level) : Type 0 where
  before : IsTakenBefore x taken.level best.level
  each : AllByRecursion (λ l. IsTakenBefore x taken.level l.level) ls

before-farther : (x taken l best : ℤ) → IsTakenBefore x taken l → distance x l < distance x best → IsTakenBefore x taken best
before-farther x taken l best (inl near) h = inl (omega arith)
before-farther x taken l best (inr tie) h = let e = tie.0 in inl (omega arith)

before-lower : (x taken l best : ℤ) → IsTakenBefore x taken best → distance x best ≤ distance x l → l ≤ℤ best → IsTakenBefore x taken l
before-lower x taken l best (inl near) h below = inl (omega arith)
before-lower x taken l best (inr tie) h below =
    let e : distance x taken ≡ distance x best = tie.0 in
    let above : best ≤ℤ taken = tie.1 in
    elim (eq-or-lt_of_le h) [
      | inl same ↦ inr (e ∙ same, omega (arith, ints))
      | inr less ↦ inl (omega arith)
    ]

chosen : (x : ℤ) (best l : Level) (ls : List Level) (b : Bool) → nat_lt (distance x l.level) (distance x best.level) ≡ b → l.level ≤ℤ best.level → IsFirst x (nearest x l ls) l ls → IsFirst x (nearest x best ls) best ls → IsFirst x (nearest x (if b then l else best) ls) best (l ∷ ls)
chosen x best l ls true e below with_l with_best =
    record { before = before-farther x _ l.level best.level with_l.before (ltb-true _ _ e); each = (with_l.before, with_l.each) }
chosen x best l ls false e below with_l with_best =
    record { before = with_best.before; each = (before-lower x _ l.level best.level with_best.before (ltb-false _ _ e) below, with_best.each) }

nearest-first : (x : ℤ) (best : Level) (ls : List Level) → Falling best ls → IsFirst x (nearest x best ls) best ls
unfolding nearest
nearest-first x best [] f = record { before = inr (refl, omega (arith, ints)); each = tt }
nearest-first x best (l ∷ ls) f =
    chosen x best l ls (nat_lt (distance x l.level) (distance x best.level)) refl f.0 (nearest-first x l ls f.1) (nearest-first x best ls (falling-from best l ls f.0 f.1))

levels_fall : (m : Modulation) → Falling (highest m) (lower m)
levels_fall Qpsk = (omega (arith, ints), tt)
levels_fall Qam16 = (omega (arith, ints), (omega (arith, ints), (omega (arith, ints), tt)))
levels_fall Qam64 = (omega (arith, ints), (omega (arith, ints), (omega (arith, ints), (omega (arith, ints), (omega (arith, ints), (omega (arith, ints), (omega (arith, ints), tt)))))))

pub axis-nearest : (m : Modulation) (x : ℤ) (b : ℕ) → IsTakenBefore x (level_of m (axis_bits_of m x)) (level_of m b)
axis-nearest m x b =
    let first = nearest-first x (highest m) (lower m) (levels_fall m) in
    subst (λ z. IsTakenBefore x z (level_of m b)) (sym (level-nearest m x)) (level_in-of (IsTakenBefore x (nearest x (highest m) (lower m)).level) b (highest m) (lower m) first.before first.each)

pub i-nearest : (m : Modulation) (c : Cell) (b : ℕ) → IsTakenBefore c.i (cell_of m (bits_of m c)).i (cell_of m b).i
unfolding cell_of bits_of
i-nearest m c b =
    let e = (joined-parts (axis_bits_of m c.i) (axis_bits_of m c.q) (axis_bits-lt-eight m c.i) (axis_bits-lt-eight m c.q)).0 in
    subst (λ n. IsTakenBefore c.i (level_of m n) (level_of m (i_bits b))) (sym e) (axis-nearest m c.i (i_bits b))

pub q-nearest : (m : Modulation) (c : Cell) (b : ℕ) → IsTakenBefore c.q (cell_of m (bits_of m c)).q (cell_of m b).q
unfolding cell_of bits_of
q-nearest m c b =
    let e = (joined-parts (axis_bits_of m c.i) (axis_bits_of m c.q) (axis_bits-lt-eight m c.i) (axis_bits-lt-eight m c.q)).1 in
    subst (λ n. IsTakenBefore c.q (level_of m n) (level_of m (q_bits b))) (sym e) (axis-nearest m c.q (q_bits b))
