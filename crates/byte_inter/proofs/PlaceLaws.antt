-- The place of a byte keeps its path, so each place has at most one byte.
use Rattle.std.proofs.Common.{◌≡◌, ◌≢◌, ℕ, ◌+◌, ◌*◌, ◌-◌, ◌%◌, ◌<◌, ◌≤◌, ◌⊎◌, inl, inr, refl, sym, ◌∙◌, arith, ap}
use Rattle.std.proofs.lemmas.Bool.{cases_lt}
use Rattle.delay_line.specs.Lines.{delayed}
use Rattle.delay_line.proofs.LineLaws.{delayed-early, delayed-late, delayed-agree}
use Rattle.byte_inter.specs.BytePlaces.{byte_place, byte_shift, interleaved}

pub place-path : (t n : ℕ) → byte_place t n % 12 ≡ n % 12
place-path t n = omega arith

pub shift-place : (t n : ℕ) → byte_shift t (byte_place t n) ≡ byte_shift t n
shift-place t n = ap (λ p. 204 * (t - 11) + 204 * p) (place-path t n)

-- the bytes at the places are the sent bytes, put off path by path
pub interleaved-delayed : (sent : ℕ → ℕ) (t q : ℕ) → interleaved sent t q ≡ delayed (byte_shift t q) 0 sent q
unfolding interleaved delayed
interleaved-delayed sent t q = refl

pub interleaved-place : (sent : ℕ → ℕ) (t n : ℕ) → interleaved sent t (byte_place t n) ≡ sent n
interleaved-place sent t n =
    interleaved-delayed sent t (byte_place t n)
    ∙ delayed-late (byte_shift t (byte_place t n)) 0 sent (byte_place t n) (omega (arith, shift-place t n))
    ∙ ap sent (omega (arith, shift-place t n))

pub place-one : (t m n : ℕ) → byte_place t m ≡ byte_place t n → m ≡ n
place-one t m n same =
    let path : m % 12 ≡ n % 12 = sym (place-path t m) ∙ ap (λ q. q % 12) same ∙ place-path t n in
    omega arith

-- the byte that a place takes
place-back : (t q : ℕ) → byte_shift t q ≤ q → byte_place t (q - byte_shift t q) ≡ q
place-back t q late = omega arith

none-by : (sent : ℕ → ℕ) (t q : ℕ) → ((n : ℕ) → byte_place t n ≢ q) → (q < byte_shift t q) ⊎ (byte_shift t q ≤ q) → interleaved sent t q ≡ 0
none-by sent t q none (inl early) = interleaved-delayed sent t q ∙ delayed-early (byte_shift t q) 0 sent q early
none-by sent t q none (inr late) = absurd (none (q - byte_shift t q) (place-back t q late))

pub interleaved-none : (sent : ℕ → ℕ) (t q : ℕ) → ((n : ℕ) → byte_place t n ≢ q) → interleaved sent t q ≡ 0
interleaved-none sent t q none = none-by sent t q none (cases_lt q (byte_shift t q))

pub interleaved-agree : (sent other : ℕ → ℕ) (t q : ℕ) → ((n : ℕ) → n ≤ q → sent n ≡ other n) → interleaved sent t q ≡ interleaved other t q
interleaved-agree sent other t q agree =
    interleaved-delayed sent t q ∙ delayed-agree (byte_shift t q) 0 sent other q agree ∙ sym (interleaved-delayed other t q)
