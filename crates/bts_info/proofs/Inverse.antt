-- Fields and their eight bytes are inverse to each other.
use Rattle.std.proofs.Common.{◌≡◌, ℕ, zero, suc, ◌+◌, ◌*◌, ◌/◌, ◌%◌, ◌^◌, ◌≤◌, ◌<◌, Bool, true, false, List, [], ◌∷◌, length, refl, arith}
use Rattle.std.specs.Prelude.{slice_index, ◌==◌}
use Rattle.std.specs.Int.{from_bool}
use Rattle.std.proofs.lemmas.Bool.{eq-eqb}
use Rattle.bts_info.specs.Fields.{Fields, FitsFields}
use Rattle.bts_info.specs.Information.{information, fields_of}

-- a bit and its number
flag : (b : Bool) (n : ℕ) → n ≡ from_bool b → (n == 1) ≡ b
flag true n e = eq-eqb n 1 e
flag false n e = rw e refl

bit-most : (b : Bool) → from_bool b ≤ 1
bit-most true = omega arith
bit-most false = omega arith

number : (n : ℕ) → n < 2 → from_bool (n == 1) ≡ n
number zero h = refl
number (suc zero) h = refl
number (suc (suc n)) h = absurd (omega arith)

-- the byte of two bits and six
top-0 : (n a b c d e f : ℕ) → a ≤ 1 → b ≤ 1 → c ≤ 1 → d ≤ 1 → e ≤ 1 → f ≤ 1 → (64 * n + 32 * a + 16 * b + 8 * c + 4 * d + 2 * e + f) / 64 ≡ n
top-0 n a b c d e f ha hb hc hd he hf = omega arith

top-1 : (n a b c d e f : ℕ) → a ≤ 1 → b ≤ 1 → c ≤ 1 → d ≤ 1 → e ≤ 1 → f ≤ 1 → (64 * n + 32 * a + 16 * b + 8 * c + 4 * d + 2 * e + f) / 32 % 2 ≡ a
top-1 n a b c d e f ha hb hc hd he hf = omega arith

top-2 : (n a b c d e f : ℕ) → a ≤ 1 → b ≤ 1 → c ≤ 1 → d ≤ 1 → e ≤ 1 → f ≤ 1 → (64 * n + 32 * a + 16 * b + 8 * c + 4 * d + 2 * e + f) / 16 % 2 ≡ b
top-2 n a b c d e f ha hb hc hd he hf = omega arith

top-3 : (n a b c d e f : ℕ) → a ≤ 1 → b ≤ 1 → c ≤ 1 → d ≤ 1 → e ≤ 1 → f ≤ 1 → (64 * n + 32 * a + 16 * b + 8 * c + 4 * d + 2 * e + f) / 8 % 2 ≡ c
top-3 n a b c d e f ha hb hc hd he hf = omega arith

top-4 : (n a b c d e f : ℕ) → a ≤ 1 → b ≤ 1 → c ≤ 1 → d ≤ 1 → e ≤ 1 → f ≤ 1 → (64 * n + 32 * a + 16 * b + 8 * c + 4 * d + 2 * e + f) / 4 % 2 ≡ d
top-4 n a b c d e f ha hb hc hd he hf = omega arith

top-5 : (n a b c d e f : ℕ) → a ≤ 1 → b ≤ 1 → c ≤ 1 → d ≤ 1 → e ≤ 1 → f ≤ 1 → (64 * n + 32 * a + 16 * b + 8 * c + 4 * d + 2 * e + f) / 2 % 2 ≡ e
top-5 n a b c d e f ha hb hc hd he hf = omega arith

top-6 : (n a b c d e f : ℕ) → a ≤ 1 → b ≤ 1 → c ≤ 1 → d ≤ 1 → e ≤ 1 → f ≤ 1 → (64 * n + 32 * a + 16 * b + 8 * c + 4 * d + 2 * e + f) % 2 ≡ f
top-6 n a b c d e f ha hb hc hd he hf = omega arith

-- the two bytes of a bit, two bits and the counter
half-0 : (a e n : ℕ) → a ≤ 1 → e < 4 → n < 8192 → (32768 * a + 8192 * e + n) / 256 % 256 / 128 ≡ a
half-0 a e n ha he hn = omega arith

half-1 : (a e n : ℕ) → a ≤ 1 → e < 4 → n < 8192 → (32768 * a + 8192 * e + n) / 256 % 256 / 32 % 4 ≡ e
half-1 a e n ha he hn = omega arith

half-2 : (a e n : ℕ) → a ≤ 1 → e < 4 → n < 8192 → 256 * ((32768 * a + 8192 * e + n) / 256 % 256 % 32) + (32768 * a + 8192 * e + n) % 256 ≡ n
half-2 a e n ha he hn = omega arith

word : (n : ℕ) → n < 2 ^ 32 → 16777216 * (n / 16777216 % 256) + 65536 * (n / 65536 % 256) + 256 * (n / 256 % 256) + n % 256 ≡ n
word n h = omega arith

pub fields_of-information : (i : Fields) → FitsFields i → fields_of (information i) ≡ i
fields_of-information i h =
    let a = bit-most i.reserved in
    let b = bit-most i.buffer_reset in
    let c = bit-most i.start_up in
    let d = bit-most i.first in
    let e = bit-most i.head in
    let f = bit-most i.odd in
    let g = bit-most i.ac_invalid in
    same
    (top-0 i.identifier (from_bool i.reserved) (from_bool i.buffer_reset) (from_bool i.start_up) (from_bool i.first) (from_bool i.head) (from_bool i.odd) a b c d e f)
    (flag i.reserved _ (top-1 i.identifier (from_bool i.reserved) (from_bool i.buffer_reset) (from_bool i.start_up) (from_bool i.first) (from_bool i.head) (from_bool i.odd) a b c d e f))
    (flag i.buffer_reset _ (top-2 i.identifier (from_bool i.reserved) (from_bool i.buffer_reset) (from_bool i.start_up) (from_bool i.first) (from_bool i.head) (from_bool i.odd) a b c d e f))
    (flag i.start_up _ (top-3 i.identifier (from_bool i.reserved) (from_bool i.buffer_reset) (from_bool i.start_up) (from_bool i.first) (from_bool i.head) (from_bool i.odd) a b c d e f))
    (flag i.first _ (top-4 i.identifier (from_bool i.reserved) (from_bool i.buffer_reset) (from_bool i.start_up) (from_bool i.first) (from_bool i.head) (from_bool i.odd) a b c d e f))
    (flag i.head _ (top-5 i.identifier (from_bool i.reserved) (from_bool i.buffer_reset) (from_bool i.start_up) (from_bool i.first) (from_bool i.head) (from_bool i.odd) a b c d e f))
    (flag i.odd _ (top-6 i.identifier (from_bool i.reserved) (from_bool i.buffer_reset) (from_bool i.start_up) (from_bool i.first) (from_bool i.head) (from_bool i.odd) a b c d e f))
    (omega (arith, h.countdown)) (omega (arith, h.countdown))
    (flag i.ac_invalid _ (half-0 (from_bool i.ac_invalid) i.ac_effective i.counter g h.ac_effective h.counter))
    (half-1 (from_bool i.ac_invalid) i.ac_effective i.counter g h.ac_effective h.counter)
    (half-2 (from_bool i.ac_invalid) i.ac_effective i.counter g h.ac_effective h.counter)
    (word i.ac h.ac)
  where
    same : {n l k e c w : ℕ} {a b s f h o v : Bool} → n ≡ i.identifier → a ≡ i.reserved → b ≡ i.buffer_reset → s ≡ i.start_up → f ≡ i.first → h ≡ i.head → o ≡ i.odd → l ≡ i.layer → k ≡ i.countdown → v ≡ i.ac_invalid → e ≡ i.ac_effective → c ≡ i.counter → w ≡ i.ac →
        ◌≡◌ {A = Fields} (record { identifier = n; reserved = a; buffer_reset = b; start_up = s; first = f; head = h; odd = o; layer = l; countdown = k; ac_invalid = v; ac_effective = e; counter = c; ac = w })
        (record { identifier = i.identifier; reserved = i.reserved; buffer_reset = i.buffer_reset; start_up = i.start_up; first = i.first; head = i.head; odd = i.odd; layer = i.layer; countdown = i.countdown; ac_invalid = i.ac_invalid; ac_effective = i.ac_effective; counter = i.counter; ac = i.ac })
    same p1 p2 p3 p4 p5 p6 p7 p8 p9 p10 p11 p12 p13 = cc

-- ---- and back

flags : (b : ℕ) → b < 256 → 64 * (b / 64) + 32 * from_bool (b / 32 % 2 == 1) + 16 * from_bool (b / 16 % 2 == 1) + 8 * from_bool (b / 8 % 2 == 1) + 4 * from_bool (b / 4 % 2 == 1) + 2 * from_bool (b / 2 % 2 == 1) + from_bool (b % 2 == 1) ≡ b
flags b h =
    let n5 = number (b / 32 % 2) (omega arith) in
    let n4 = number (b / 16 % 2) (omega arith) in
    let n3 = number (b / 8 % 2) (omega arith) in
    let n2 = number (b / 4 % 2) (omega arith) in
    let n1 = number (b / 2 % 2) (omega arith) in
    let n0 = number (b % 2) (omega arith) in
    omega arith

high : (b c : ℕ) → b < 256 → c < 256 → (32768 * from_bool (b / 128 == 1) + 8192 * (b / 32 % 4) + (256 * (b % 32) + c)) / 256 % 256 ≡ b
high b c h k = let n = number (b / 128) (omega arith) in omega arith

low : (b c : ℕ) → b < 256 → c < 256 → (32768 * from_bool (b / 128 == 1) + 8192 * (b / 32 % 4) + (256 * (b % 32) + c)) % 256 ≡ c
low b c h k = let n = number (b / 128) (omega arith) in omega arith

byte-0 : (a b c d : ℕ) → a < 256 → b < 256 → c < 256 → d < 256 → (16777216 * a + 65536 * b + 256 * c + d) / 16777216 % 256 ≡ a
byte-0 a b c d ha hb hc hd = omega arith

byte-1 : (a b c d : ℕ) → a < 256 → b < 256 → c < 256 → d < 256 → (16777216 * a + 65536 * b + 256 * c + d) / 65536 % 256 ≡ b
byte-1 a b c d ha hb hc hd = omega arith

byte-2 : (a b c d : ℕ) → a < 256 → b < 256 → c < 256 → d < 256 → (16777216 * a + 65536 * b + 256 * c + d) / 256 % 256 ≡ c
byte-2 a b c d ha hb hc hd = omega arith

byte-3 : (a b c d : ℕ) → a < 256 → b < 256 → c < 256 → d < 256 → (16777216 * a + 65536 * b + 256 * c + d) % 256 ≡ d
byte-3 a b c d ha hb hc hd = omega arith

pub information-fields_of : (bytes : List ℕ) → length bytes ≡ 8 → ((k : ℕ) → slice_index bytes k < 256) → information (fields_of bytes) ≡ bytes
information-fields_of (b0 ∷ b1 ∷ b2 ∷ b3 ∷ b4 ∷ b5 ∷ b6 ∷ b7 ∷ []) e h =
    same (flags b0 (h 0)) (omega (arith, h 1)) (high b2 b3 (h 2) (h 3)) (low b2 b3 (h 2) (h 3))
    (byte-0 b4 b5 b6 b7 (h 4) (h 5) (h 6) (h 7)) (byte-1 b4 b5 b6 b7 (h 4) (h 5) (h 6) (h 7)) (byte-2 b4 b5 b6 b7 (h 4) (h 5) (h 6) (h 7)) (byte-3 b4 b5 b6 b7 (h 4) (h 5) (h 6) (h 7))
  where
    same : {c0 c1 c2 c3 c4 c5 c6 c7 : ℕ} → c0 ≡ b0 → c1 ≡ b1 → c2 ≡ b2 → c3 ≡ b3 → c4 ≡ b4 → c5 ≡ b5 → c6 ≡ b6 → c7 ≡ b7 → (c0 ∷ c1 ∷ c2 ∷ c3 ∷ c4 ∷ c5 ∷ c6 ∷ c7 ∷ []) ≡ (b0 ∷ b1 ∷ b2 ∷ b3 ∷ b4 ∷ b5 ∷ b6 ∷ b7 ∷ [])
    same p0 p1 p2 p3 p4 p5 p6 p7 = cc
information-fields_of bytes e h = absurd (omega arith)
