-- The frames give out the packets of an input one after another.
use Rattle.std.proofs.Common.{◌≡◌, ℕ, ◌+◌, ◌-◌, ◌≤◌, ◌<◌, refl, arith, ap, ◌∙◌, inl, inr}
use Rattle.std.proofs.lemmas.Bool.{cases_lt, lt-ltb, le-ltb}
use Rattle.isdbt_base.specs.declared.kinds.Layer.{Layer}
use Rattle.isdbt_base.specs.declared.kinds.Layer.TheVariants.{A, B, C}
use Rattle.sample.specs.SampleInputs.{input_packets}
use Rattle.sample.specs.Places.{Place, sample_share, place_of, due_in, given_before}

pub given-none : (x : Layer) → given_before x 0 ≡ 0
given-none A = refl
given-none B = refl
given-none C = refl

pub given-all : (x : Layer) → given_before x 15 ≡ input_packets x
given-all A = refl
given-all B = refl
given-all C = refl

pub given-most : (x : Layer) (f : ℕ) → given_before x f ≤ input_packets x
given-most A f = omega arith
given-most B f = omega arith
given-most C f = omega arith

-- how many input packets frame f gives out
abbrev pub due_of : Layer → ℕ → ℕ
due_of x f = due_in (sample_share x f) f (input_packets x - given_before x f)

-- one frame more
pub given-more : (x : Layer) (f : ℕ) → f < 15 → given_before x (f + 1) ≡ given_before x f + due_of x f
given-more A f h =
    elim (cases_lt f 8) [
      | inl early ↦ elim (cases_lt f 4) [ inl none ↦ rw (lt-ltb f 8 early, lt-ltb f 4 none) (omega arith) | inr some ↦ rw (lt-ltb f 8 early, le-ltb f 4 some) (omega arith) ]
      | inr late ↦ elim (cases_lt f 10) [ inl none ↦ rw (le-ltb f 8 late, lt-ltb f 10 none) (omega arith) | inr some ↦ rw (le-ltb f 8 late, le-ltb f 10 some) (omega arith) ]
    ]
given-more B f h =
    elim (cases_lt f 8) [
      | inl early ↦ elim (cases_lt f 2) [ inl none ↦ rw (lt-ltb f 8 early, lt-ltb f 2 none) (omega arith) | inr some ↦ rw (lt-ltb f 8 early, le-ltb f 2 some) (omega arith) ]
      | inr late ↦ elim (cases_lt f 12) [ inl none ↦ rw (le-ltb f 8 late, lt-ltb f 12 none) (omega arith) | inr some ↦ rw (le-ltb f 8 late, le-ltb f 12 some) (omega arith) ]
    ]
given-more C f h =
    elim (cases_lt f 8) [
      | inl early ↦ rw (lt-ltb f 8 early) (rw (le-ltb f 0 (omega arith)) (omega arith))
      | inr late ↦ rw (le-ltb f 8 late) (rw (le-ltb f 8 late) (omega arith))
    ]

same-place : (a b f j : ℕ) → a ≡ f → b ≡ j → ◌≡◌ {A = Place} (record { frame = a; index = b }) (record { frame = f; index = j })
same-place a b f j is_frame is_index = ap (λ n. record { frame = n; index = b }) is_frame ∙ ap (λ n. record { frame = f; index = n }) is_index

-- and the packets of frame f are given out there, in their order
pub given-place : (x : Layer) (f j : ℕ) → j < due_of x f → place_of x (given_before x f + j) ≡ record { frame = f; index = j }
given-place A f j less =
    elim (cases_lt f 8) [
      | inl early ↦ elim (cases_lt f 4) [
        | inl none ↦ absurd (let no = rw (lt-ltb f 8 early, lt-ltb f 4 none) at less in omega (arith, no))
        | inr some ↦ (let due = rw (lt-ltb f 8 early, le-ltb f 4 some) at less in
            rw (lt-ltb (given_before A f + j) 64 (omega (arith, due, early, some))) (same-place _ _ f j (omega (arith, due, early, some)) (omega (arith, due, early, some))))
      ]
      | inr late ↦ elim (cases_lt f 10) [
        | inl none ↦ absurd (let no = rw (le-ltb f 8 late, lt-ltb f 10 none) at less in omega (arith, no))
        | inr some ↦ (let due = rw (le-ltb f 8 late, le-ltb f 10 some) at less in
            rw (le-ltb (given_before A f + j) 64 (omega (arith, due, some))) (same-place _ _ f j (omega (arith, due, some)) (omega (arith, due, some))))
      ]
    ]
given-place B f j less =
    elim (cases_lt f 8) [
      | inl early ↦ elim (cases_lt f 2) [
        | inl none ↦ absurd (let no = rw (lt-ltb f 8 early, lt-ltb f 2 none) at less in omega (arith, no))
        | inr some ↦ (let due = rw (lt-ltb f 8 early, le-ltb f 2 some) at less in
            rw (lt-ltb (given_before B f + j) 1728 (omega (arith, due, early, some))) (same-place _ _ f j (omega (arith, due, early, some)) (omega (arith, due, early, some))))
      ]
      | inr late ↦ elim (cases_lt f 12) [
        | inl none ↦ absurd (let no = rw (le-ltb f 8 late, lt-ltb f 12 none) at less in omega (arith, no))
        | inr some ↦ (let due = rw (le-ltb f 8 late, le-ltb f 12 some) at less in
            rw (le-ltb (given_before B f + j) 1728 (omega (arith, due, some))) (same-place _ _ f j (omega (arith, due, some)) (omega (arith, due, some))))
      ]
    ]
given-place C f j less =
    elim (cases_lt f 8) [
      | inl early ↦ absurd (let no = rw (lt-ltb f 8 early) at less in let none = rw (le-ltb f 0 (omega arith)) at no in omega (arith, none))
      | inr late ↦ absurd (let no = rw (le-ltb f 8 late) at less in let none = rw (le-ltb f 8 late) at no in omega (arith, none))
    ]
