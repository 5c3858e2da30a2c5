-- Whole turns: places by turn and path.
use Rattle.std.proofs.Common.{◌≡◌, ◌≢◌, ℕ, zero, suc, ◌+◌, ◌-◌, ◌*◌, ◌/◌, ◌%◌, ◌<◌, ◌≤◌, sym, ◌∙◌, ap, Fits, w64, ◌^◌, arith}
use Rattle.std.proofs.Math.Nat.{div-add-mod, mul-add-mod_self_left, mul-add-div, mul-add, mod_self, mul-lt-mul_of_pos_left, mul-div_cancel_left}
use Rattle.std.proofs.lemmas.Nat.{mul-add-lt, div_below, mul-le}

-- whole turns are so many times a turn
pub whole-turns : (w n : ℕ) → n % w ≡ 0 → w * (n / w) ≡ n
whole-turns w n whole = omega (arith, div-add-mod n w)

pub place-split : (w n : ℕ) → w * (n / w) + n % w ≡ n
place-split w n = div-add-mod n w

-- the place of a path in a turn lies before the end of the turns
pub place-below : (w k turns p : ℕ) → k < turns → p < w → w * k + p < w * turns
place-below w k turns p inside path = omega (arith, mul-add-lt k w p turns inside path)

-- the turn of a place lies before the end of the turns
pub turn-below : (w n m : ℕ) → 0 < w → m % w ≡ 0 → n < m → n / w < m / w
turn-below w n m some whole below = div_below n w (m / w) some (omega (arith, whole-turns w m whole))

-- turns behind whole turns
pub turns-behind : (w n m : ℕ) → 0 < w → n % w ≡ 0 → (n + m) / w ≡ n / w + m / w
turns-behind w n m some whole = ap (λ k. (k + m) / w) (sym (whole-turns w n whole)) ∙ mul-add-div some (n / w) m

-- the path of a place behind whole turns
pub path-behind : (w n m : ℕ) → n % w ≡ 0 → (n + m) % w ≡ m % w
path-behind w n m whole = ap (λ k. (k + m) % w) (sym (whole-turns w n whole)) ∙ mul-add-mod_self_left w (n / w) m

-- turns that hold a place have a path
pub some-paths : (w n m : ℕ) → m % w ≡ 0 → n < m → 0 < w
some-paths zero n m whole below = absurd (omega (arith, whole-turns 0 m whole))
some-paths (suc w) n m whole below = omega arith

-- turns less turns
pub turns-less : (w d k : ℕ) → d ≤ k → w * d + w * (k - d) ≡ w * k
turns-less w d k late = sym (mul-add w d (k - d)) ∙ ap (λ m. w * m) (omega arith)

pub one-turn : (w n : ℕ) → n ≡ w → n % w ≡ 0
one-turn w n e = rw e (mod_self w)

pub turns-together : (w n m : ℕ) → n % w ≡ 0 → m % w ≡ 0 → (n + m) % w ≡ 0
turns-together w n m first second = path-behind w n m first ∙ second

-- places of one path in different turns differ
pub before-place : (w k turn p : ℕ) → k < turn → 0 < w → w * k + p ≢ w * turn + p
before-place w k turn p before some = λ e. absurd (omega (arith, mul-lt-mul_of_pos_left {m = k} {n = turn} {k = w} before some, e))

-- a place in one of the turns lies in the list
pub place-inside : (w k turns n p : ℕ) → n ≡ w * turns → k < turns → p < w → w * k + p < n
place-inside w k turns n p whole before path = omega (arith, place-below w k turns p before path)

-- the turns of a list
pub turns-of : (w turns n : ℕ) → n ≡ w * turns → 0 < w → n / w ≡ turns
turns-of w turns n whole some = ap (λ k. k / w) whole ∙ mul-div_cancel_left turns some

-- an item of a list lies at an offset that fits
pub offset-fits : (n size m : ℕ) → m * size < 2 ^ 64 → n < m → Fits w64 (n * size)
offset-fits n size m long before = omega (arith, mul-le n size m size (omega arith) (omega arith))
