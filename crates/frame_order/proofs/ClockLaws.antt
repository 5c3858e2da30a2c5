-- The clocks of the packets of a frame: they rise within a layer, and no two are the same.
use Rattle.std.proofs.Common.{◌≡◌, ℕ, suc, ◌+◌, ◌-◌, ◌*◌, ◌/◌, ◌%◌, ◌≤◌, ◌<◌, Bool, Option, Some, None, refl, arith, rules, ap, sym, ◌∙◌, inl, inr}
use Rattle.std.proofs.Math.Nat.{mul-le-mul, mul-le-mul_left, div-add-mod}
use Rattle.std.proofs.lemmas.Nat.{div-mul-add}
use Rattle.std.proofs.lemmas.Bool.Decides.{leb_tells}
use Rattle.isdbt_base.specs.declared.kinds.Mode.{Mode}
use Rattle.isdbt_base.specs.declared.kinds.Guard.{Guard}
use Rattle.isdbt_base.specs.declared.kinds.Modulation.{Modulation}
use Rattle.isdbt_base.specs.declared.kinds.Modulation.TheVariants.{Qpsk, Qam16, Qam64}
use Rattle.isdbt_base.specs.declared.kinds.Rate.{Rate}
use Rattle.isdbt_base.specs.declared.kinds.Rate.TheVariants.{R12, R23, R34, R56, R78}
use Rattle.isdbt_base.specs.declared.kinds.Layer.{Layer}
use Rattle.isdbt_base.specs.declared.kinds.Layer.TheVariants.{A, B, C}
use Rattle.std.specs.Int.{div_ceil}
use Rattle.isdbt_base.specs.LayerParameters.{LayerParameters, HasSegments}
use Rattle.isdbt_base.specs.Parameters.{Parameters, IsAccepted, layer_of, number_of, layer_sum, sum_before}
use Rattle.isdbt_base.specs.Numbers.{carriers, symbol_clocks, cell_bits, rate_steps, rate_bits, layer_cells, packets_per_frame}
use Rattle.frame_order.specs.declared.mark.Mark.{Mark}
use Rattle.frame_order.specs.Order.{last_cell, cell_clock, clock_of}
use Rattle.frame_order.specs.Places.{IsInFrame}

-- the last cell of a later packet is later
cell-rises : (m : Modulation) (r : Rate) (j k : ℕ) → j < k →
    div_ceil ((j + 1) * 1632 * rate_bits r) (cell_bits m * rate_steps r) < div_ceil ((k + 1) * 1632 * rate_bits r) (cell_bits m * rate_steps r)
cell-rises Qpsk R12 j k h = omega arith
cell-rises Qpsk R23 j k h = omega arith
cell-rises Qpsk R34 j k h = omega arith
cell-rises Qpsk R56 j k h = omega arith
cell-rises Qpsk R78 j k h = omega arith
cell-rises Qam16 R12 j k h = omega arith
cell-rises Qam16 R23 j k h = omega arith
cell-rises Qam16 R34 j k h = omega arith
cell-rises Qam16 R56 j k h = omega arith
cell-rises Qam16 R78 j k h = omega arith
cell-rises Qam64 R12 j k h = omega arith
cell-rises Qam64 R23 j k h = omega arith
cell-rises Qam64 R34 j k h = omega arith
cell-rises Qam64 R56 j k h = omega arith
cell-rises Qam64 R78 j k h = omega arith

-- cells are counted from 1, and there are at most 1632 for each packet
cell-positive : (m : Modulation) (r : Rate) (j : ℕ) → 0 < div_ceil ((j + 1) * 1632 * rate_bits r) (cell_bits m * rate_steps r)
cell-positive Qpsk R12 j = omega arith
cell-positive Qpsk R23 j = omega arith
cell-positive Qpsk R34 j = omega arith
cell-positive Qpsk R56 j = omega arith
cell-positive Qpsk R78 j = omega arith
cell-positive Qam16 R12 j = omega arith
cell-positive Qam16 R23 j = omega arith
cell-positive Qam16 R34 j = omega arith
cell-positive Qam16 R56 j = omega arith
cell-positive Qam16 R78 j = omega arith
cell-positive Qam64 R12 j = omega arith
cell-positive Qam64 R23 j = omega arith
cell-positive Qam64 R34 j = omega arith
cell-positive Qam64 R56 j = omega arith
cell-positive Qam64 R78 j = omega arith

pub cell-most : (m : Modulation) (r : Rate) (j : ℕ) → div_ceil ((j + 1) * 1632 * rate_bits r) (cell_bits m * rate_steps r) ≤ (j + 1) * 1632
cell-most Qpsk R12 j = omega arith
cell-most Qpsk R23 j = omega arith
cell-most Qpsk R34 j = omega arith
cell-most Qpsk R56 j = omega arith
cell-most Qpsk R78 j = omega arith
cell-most Qam16 R12 j = omega arith
cell-most Qam16 R23 j = omega arith
cell-most Qam16 R34 j = omega arith
cell-most Qam16 R56 j = omega arith
cell-most Qam16 R78 j = omega arith
cell-most Qam64 R12 j = omega arith
cell-most Qam64 R23 j = omega arith
cell-most Qam64 R34 j = omega arith
cell-most Qam64 R56 j = omega arith
cell-most Qam64 R78 j = omega arith

pub last_cell-positive : (l : LayerParameters) (j : ℕ) → 0 < last_cell l j
last_cell-positive l j = cell-positive l.modulation l.rate j

pub last_cell-most : (l : LayerParameters) (j : ℕ) → last_cell l j ≤ (j + 1) * 1632
last_cell-most l j = cell-most l.modulation l.rate j

last_cell-rises : (l : LayerParameters) (j k : ℕ) → j < k → last_cell l j < last_cell l k
last_cell-rises l j k h = cell-rises l.modulation l.rate j k h

-- where the first rise, the second do
same-by : (x y j k : ℕ) → (j < k → x < y) → (k < j → y < x) → x ≡ y → j ≡ k
same-by x y j k up down e =
    elim (leb_tells (suc j) k) [
      | inl less ↦ let u = up less.1 in absurd (omega arith)
      | inr not_less ↦ elim (leb_tells (suc k) j) [ inl more ↦ let d = down more.1 in absurd (omega arith) | inr not_more ↦ omega (arith, not_less.1, not_more.1) ]
    ]

-- packets of a layer with one last cell are one packet
last_cell-same : (l : LayerParameters) (j k : ℕ) → last_cell l j ≡ last_cell l k → j ≡ k
last_cell-same l j k e = same-by (last_cell l j) (last_cell l k) j k (last_cell-rises l j k) (last_cell-rises l k j) e

-- ---- symbol and carrier of a clock

-- the numbers s * a + b with b below s have one a and one b
parts-same : (s a b c d : ℕ) → b < s → d < s → s * a + b ≡ s * c + d → (a ≡ c) × (b ≡ d)
parts-same s a b c d low low' e =
    let f : (a * s + b) / s ≡ (c * s + d) / s = ap (λ n. n / s) (omega arith) in
    let q : a ≡ c = sym (div-mul-add a s b low) ∙ f ∙ div-mul-add c s d low' in
    let p : s * a ≡ s * c = ap (λ n. s * n) q in
    (q, omega arith)

rem-below : (x c : ℕ) → 0 < c → x % c < c
rem-below x c h = omega arith

-- one layer: cells with one clock are one cell
cell-same : (s before c x y : ℕ) → 0 < c → before + c ≤ s → s * (x / c) + before + x % c ≡ s * (y / c) + before + y % c → x ≡ y
cell-same s before c x y pos room e =
    let rx = rem-below x c pos in
    let ry = rem-below y c pos in
    let p = parts-same s (x / c) (before + x % c) (y / c) (before + y % c) (omega arith) (omega arith) (omega arith) in
    let q : c * (x / c) ≡ c * (y / c) = ap (λ n. c * n) p.0 in
    let r : before + x % c ≡ before + y % c = p.1 in
    let dx = div-add-mod x c in
    let dy = div-add-mod y c in
    omega arith

-- two layers: no clock is of both
cell-other : (s o c x o' c' y : ℕ) → 0 < c → 0 < c' → o + c ≤ o' → o' + c' ≤ s → s * (x / c) + o + x % c ≡ s * (y / c') + o' + y % c' → ⊥
cell-other s o c x o' c' y pos pos' apart room e =
    let rx = rem-below x c pos in
    let ry = rem-below y c' pos' in
    let p = parts-same s (x / c) (o + x % c) (y / c') (o' + y % c') (omega arith) (omega arith) (omega arith) in
    let r : o + x % c ≡ o' + y % c' = p.1 in
    omega arith

-- all cells of a symbol are fewer than its clocks
cells-room : (mode : Mode) (guard : Guard) → 13 * carriers mode ≤ symbol_clocks mode guard
cells-room mode guard = search rules

cells-positive : (mode : Mode) (l : LayerParameters) → HasSegments l → 0 < layer_cells mode l
cells-positive mode l h = grind (arith, mul-le-mul h.0 (carriers-least mode))
  where
    carriers-least : (mode : Mode) → 96 ≤ carriers mode
    carriers-least mode = search rules

used-cells : (mode : Mode) (o : Option LayerParameters) → number_of (layer_cells mode) o ≡ number_of (λ l. l.segments) o * carriers mode
used-cells mode None = omega arith
used-cells mode (Some l) = refl

-- the cells of all layers
cells-sum : (mode : Mode) (guard : Guard) (s : Parameters) → IsAccepted s → layer_cells mode s.a + number_of (layer_cells mode) s.b + number_of (layer_cells mode) s.c ≤ symbol_clocks mode guard
cells-sum mode guard s h =
    let b = used-cells mode s.b in
    let c = used-cells mode s.c in
    let e : layer_sum (λ l. l.segments) s * carriers mode ≡ 13 * carriers mode = ap (λ n. n * carriers mode) h.segments in
    let room = cells-room mode guard in
    omega arith

-- two layers: no clock is of both
other-clock : (mode : Mode) (guard : Guard) (l k : LayerParameters) (o o' : ℕ) (i j : ℕ) → HasSegments l → HasSegments k → o + layer_cells mode l ≤ o' → o' + layer_cells mode k ≤ symbol_clocks mode guard →
    cell_clock mode guard l o (last_cell l i) ≡ cell_clock mode guard k o' (last_cell k j) → ⊥
other-clock mode guard l k o o' i j hl hk apart room e =
    cell-other (symbol_clocks mode guard) o (layer_cells mode l) (last_cell l i - 1) o' (layer_cells mode k) (last_cell k j - 1) (cells-positive mode l hl) (cells-positive mode k hk) apart room (less-one _ _ e)
  where
    less-one : (a b : ℕ) → a + 1 ≡ b + 1 → a ≡ b
    less-one a b e = omega arith

-- one layer: packets with one clock are one packet
same-clock : (mode : Mode) (guard : Guard) (l : LayerParameters) (o : ℕ) (i j : ℕ) → HasSegments l → o + layer_cells mode l ≤ symbol_clocks mode guard →
    cell_clock mode guard l o (last_cell l i) ≡ cell_clock mode guard l o (last_cell l j) → i ≡ j
same-clock mode guard l o i j hl room e =
    let f = cell-same (symbol_clocks mode guard) o (layer_cells mode l) (last_cell l i - 1) (last_cell l j - 1) (cells-positive mode l hl) room (less-one _ _ e) in
    last_cell-same l i j (from-less (last_cell l i) (last_cell l j) (last_cell-positive l i) (last_cell-positive l j) f)
  where
    less-one : (a b : ℕ) → a + 1 ≡ b + 1 → a ≡ b
    less-one a b e = omega arith

    from-less : (a b : ℕ) → 0 < a → 0 < b → a - 1 ≡ b - 1 → a ≡ b
    from-less a b p q e = omega arith

-- one layer: clocks rise
layer-rises : (s before c x y : ℕ) → 0 < c → before + c ≤ s → x < y → s * (x / c) + before + x % c < s * (y / c) + before + y % c
layer-rises s before c x y pos room h =
    let rx = rem-below x c pos in
    let dx = div-add-mod x c in
    let dy = div-add-mod y c in
    elim (leb_tells (suc (x / c)) (y / c)) [
      | inl has ↦ let m = mul-le-mul_left s has.1 in step s before c (x / c) (y / c) (x % c) (y % c) rx room m
      | inr hasnt ↦ elim (leb_tells (suc (y / c)) (x / c)) [
        | inl less ↦ let m = mul-le-mul_left c less.1 in absurd (back c (x / c) (y / c) (x % c) (y % c) x y dx dy (rem-below y c pos) m h)
        | inr not_less ↦ let q : x / c ≡ y / c = omega (arith, hasnt.1, not_less.1) in
            let m : s * (x / c) ≡ s * (y / c) = ap (λ n. s * n) q in
            let n : c * (x / c) ≡ c * (y / c) = ap (λ n. c * n) q in omega arith
      ]
    ]
  where
    step : (s o c a b r r' : ℕ) → r < c → o + c ≤ s → s * suc a ≤ s * b → s * a + o + r < s * b + o + r'
    step s o c a b r r' h room m = omega arith

    back : (c a b r r' x y : ℕ) → c * a + r ≡ x → c * b + r' ≡ y → r' < c → c * suc b ≤ c * a → x < y → ⊥
    back c a b r r' x y dx dy h m lt = omega arith

-- clocks within a layer
clock-rises : (mode : Mode) (guard : Guard) (l : LayerParameters) (o : ℕ) (i j : ℕ) → HasSegments l → o + layer_cells mode l ≤ symbol_clocks mode guard → i < j →
    cell_clock mode guard l o (last_cell l i) < cell_clock mode guard l o (last_cell l j)
clock-rises mode guard l o i j hl room h =
    more-one _ _ (layer-rises (symbol_clocks mode guard) o (layer_cells mode l) (last_cell l i - 1) (last_cell l j - 1) (cells-positive mode l hl) room (from-less (last_cell l i) (last_cell l j) (last_cell-positive l i) (last_cell-rises l i j h)))
  where
    more-one : (a b : ℕ) → a < b → a + 1 < b + 1
    more-one a b e = omega arith

    from-less : (a b : ℕ) → 0 < a → a < b → a - 1 < b - 1
    from-less a b p q = omega arith

-- ---- the layers of a frame

abbrev frame_of : Bool → LayerParameters → Option LayerParameters → Option LayerParameters → Parameters
frame_of partial a b c = record { partial = partial; a = a; b = b; c = c }

abbrev mark : Layer → ℕ → Mark
mark x i = record { layer = x; index = i }

same-a : (mode : Mode) (guard : Guard) (p : Bool) (a : LayerParameters) (b c : Option LayerParameters) → IsAccepted (frame_of p a b c) → (i j : ℕ) →
    clock_of mode guard (frame_of p a b c) (mark A i) ≡ clock_of mode guard (frame_of p a b c) (mark A j) → i ≡ j
same-a mode guard p a b c h i j e = let room = cells-sum mode guard (frame_of p a b c) h in same-clock mode guard a 0 i j h.a_segments (omega arith) e

same-b : (mode : Mode) (guard : Guard) (p : Bool) (a : LayerParameters) (b c : Option LayerParameters) → IsAccepted (frame_of p a b c) → (i j : ℕ) → IsInFrame mode (frame_of p a b c) (mark B i) →
    clock_of mode guard (frame_of p a b c) (mark B i) ≡ clock_of mode guard (frame_of p a b c) (mark B j) → i ≡ j
same-b mode guard p a None c h i j in_i e = absurd (omega arith)
same-b mode guard p a (Some b) c h i j in_i e = let room = cells-sum mode guard (frame_of p a (Some b) c) h in same-clock mode guard b (layer_cells mode a) i j h.b_segments (omega arith) e

same-c : (mode : Mode) (guard : Guard) (p : Bool) (a : LayerParameters) (b c : Option LayerParameters) → IsAccepted (frame_of p a b c) → (i j : ℕ) → IsInFrame mode (frame_of p a b c) (mark C i) →
    clock_of mode guard (frame_of p a b c) (mark C i) ≡ clock_of mode guard (frame_of p a b c) (mark C j) → i ≡ j
same-c mode guard p a b None h i j in_i e = absurd (omega arith)
same-c mode guard p a b (Some c) h i j in_i e = let room = cells-sum mode guard (frame_of p a b (Some c)) h in same-clock mode guard c (layer_cells mode a + number_of (layer_cells mode) b) i j h.c_segments (omega arith) e

apart-ab : (mode : Mode) (guard : Guard) (p : Bool) (a : LayerParameters) (b c : Option LayerParameters) → IsAccepted (frame_of p a b c) → (i j : ℕ) → IsInFrame mode (frame_of p a b c) (mark B j) →
    clock_of mode guard (frame_of p a b c) (mark A i) ≡ clock_of mode guard (frame_of p a b c) (mark B j) → ⊥
apart-ab mode guard p a None c h i j in_j e = absurd (omega arith)
apart-ab mode guard p a (Some b) c h i j in_j e = let room = cells-sum mode guard (frame_of p a (Some b) c) h in other-clock mode guard a b 0 (layer_cells mode a) i j h.a_segments h.b_segments (omega arith) (omega arith) e

apart-ac : (mode : Mode) (guard : Guard) (p : Bool) (a : LayerParameters) (b c : Option LayerParameters) → IsAccepted (frame_of p a b c) → (i j : ℕ) → IsInFrame mode (frame_of p a b c) (mark C j) →
    clock_of mode guard (frame_of p a b c) (mark A i) ≡ clock_of mode guard (frame_of p a b c) (mark C j) → ⊥
apart-ac mode guard p a b None h i j in_j e = absurd (omega arith)
apart-ac mode guard p a b (Some c) h i j in_j e = let room = cells-sum mode guard (frame_of p a b (Some c)) h in other-clock mode guard a c 0 (layer_cells mode a + number_of (layer_cells mode) b) i j h.a_segments h.c_segments (omega arith) (omega arith) e

apart-bc : (mode : Mode) (guard : Guard) (p : Bool) (a : LayerParameters) (b c : Option LayerParameters) → IsAccepted (frame_of p a b c) → (i j : ℕ) → IsInFrame mode (frame_of p a b c) (mark B i) → IsInFrame mode (frame_of p a b c) (mark C j) →
    clock_of mode guard (frame_of p a b c) (mark B i) ≡ clock_of mode guard (frame_of p a b c) (mark C j) → ⊥
apart-bc mode guard p a None c h i j in_i in_j e = absurd (omega arith)
apart-bc mode guard p a (Some b) None h i j in_i in_j e = absurd (omega arith)
apart-bc mode guard p a (Some b) (Some c) h i j in_i in_j e = let room = cells-sum mode guard (frame_of p a (Some b) (Some c)) h in other-clock mode guard b c (layer_cells mode a) (layer_cells mode a + layer_cells mode b) i j h.b_segments h.c_segments (omega arith) (omega arith) e

one-mark : (mode : Mode) (guard : Guard) (s : Parameters) → IsAccepted s → (x y : Layer) (i j : ℕ) → IsInFrame mode s (mark x i) → IsInFrame mode s (mark y j) →
    clock_of mode guard s (mark x i) ≡ clock_of mode guard s (mark y j) → mark x i ≡ mark y j
one-mark mode guard s h A A i j p q e = ap (mark A) (same-a mode guard s.partial s.a s.b s.c h i j e)
one-mark mode guard s h B B i j p q e = ap (mark B) (same-b mode guard s.partial s.a s.b s.c h i j p e)
one-mark mode guard s h C C i j p q e = ap (mark C) (same-c mode guard s.partial s.a s.b s.c h i j p e)
one-mark mode guard s h A B i j p q e = absurd (apart-ab mode guard s.partial s.a s.b s.c h i j q e)
one-mark mode guard s h A C i j p q e = absurd (apart-ac mode guard s.partial s.a s.b s.c h i j q e)
one-mark mode guard s h B C i j p q e = absurd (apart-bc mode guard s.partial s.a s.b s.c h i j p q e)
one-mark mode guard s h B A i j p q e = absurd (apart-ab mode guard s.partial s.a s.b s.c h j i p (sym e))
one-mark mode guard s h C A i j p q e = absurd (apart-ac mode guard s.partial s.a s.b s.c h j i p (sym e))
one-mark mode guard s h C B i j p q e = absurd (apart-bc mode guard s.partial s.a s.b s.c h j i q p (sym e))

-- packets of a frame with one clock are one packet
pub clock_of-same : (mode : Mode) (guard : Guard) (s : Parameters) → IsAccepted s → (m n : Mark) → IsInFrame mode s m → IsInFrame mode s n → clock_of mode guard s m ≡ clock_of mode guard s n → m ≡ n
clock_of-same mode guard s h m n p q e = one-mark mode guard s h m.layer n.layer m.index n.index p q e

-- a later packet of a layer has a later clock
rises-in : (mode : Mode) (guard : Guard) (p : Bool) (a : LayerParameters) (b c : Option LayerParameters) → IsAccepted (frame_of p a b c) → (x : Layer) (i j : ℕ) → IsInFrame mode (frame_of p a b c) (mark x i) → i < j →
    clock_of mode guard (frame_of p a b c) (mark x i) < clock_of mode guard (frame_of p a b c) (mark x j)
rises-in mode guard p a b c h A i j in_i lt = let room = cells-sum mode guard (frame_of p a b c) h in clock-rises mode guard a 0 i j h.a_segments (omega arith) lt
rises-in mode guard p a None c h B i j in_i lt = absurd (omega arith)
rises-in mode guard p a (Some b) c h B i j in_i lt = let room = cells-sum mode guard (frame_of p a (Some b) c) h in clock-rises mode guard b (layer_cells mode a) i j h.b_segments (omega arith) lt
rises-in mode guard p a b None h C i j in_i lt = absurd (omega arith)
rises-in mode guard p a b (Some c) h C i j in_i lt = let room = cells-sum mode guard (frame_of p a b (Some c)) h in clock-rises mode guard c (layer_cells mode a + number_of (layer_cells mode) b) i j h.c_segments (omega arith) lt

pub clock_of-rises : (mode : Mode) (guard : Guard) (s : Parameters) → IsAccepted s → (x : Layer) (i j : ℕ) → IsInFrame mode s (mark x i) → i < j → clock_of mode guard s (mark x i) < clock_of mode guard s (mark x j)
clock_of-rises mode guard s h x i j in_i lt = rises-in mode guard s.partial s.a s.b s.c h x i j in_i lt

-- clocks are counted from 1
positive-in : (mode : Mode) (guard : Guard) (s : Parameters) (x : Layer) (o : Option LayerParameters) (i before : ℕ) → i < number_of (packets_per_frame mode) o → 0 < number_of (λ l. cell_clock mode guard l before (last_cell l i)) o
positive-in mode guard s x None i before h = absurd (omega arith)
positive-in mode guard s x (Some l) i before h = more _
  where
    more : (n : ℕ) → 0 < n + 1
    more n = omega arith

pub clock_of-positive : (mode : Mode) (guard : Guard) (s : Parameters) (m : Mark) → IsInFrame mode s m → 0 < clock_of mode guard s m
clock_of-positive mode guard s m h = positive-in mode guard s m.layer (layer_of s m.layer) m.index (sum_before (layer_cells mode) s m.layer) h
