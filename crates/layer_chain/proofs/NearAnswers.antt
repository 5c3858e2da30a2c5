-- The answer for a word: the packet of the codeword near it, or else the word's first bytes, marked.
use Rattle.std.proofs.Common.{◌≡◌, ℕ, zero, suc, ◌+◌, ◌-◌, ◌*◌, ◌≤◌, ◌<◌, Bool, true, false, cond, refl, ap, arith, sym, ◌∙◌, subst, List, [], ◌∷◌, ◌++◌, length, take, Option, Some, None, map, flat_map, inl, inr}
use Rattle.std.specs.Prelude.{◌≢◌, slice_index, slice_index_or, bit_xor, ◌==◌, ◌&&◌, if◌then◌else◌, nat_le, Contains}
use Rattle.std.specs.List.{range_with_len, list_all, find, AllByRecursion}
use Rattle.std.proofs.Math.ListN.{get_or-map}
use Rattle.std.proofs.lemmas.List.{take_at, length-map, length-take-le}
use Rattle.std.proofs.lemmas.List.Elements.{Contains-append_left, Contains-append_right}
use Rattle.std.proofs.lemmas.List.FromFn.{get_or-range_with_len, length-range_with_len, length-map-range_with_len}
use Rattle.std.proofs.lemmas.Bool.{le-leb, leb-true, eqb-true, ne_eqb, eq-eqb, and_parts, and_from, cases_Bool, cases_eq, cond-true, cond-false}
use Rattle.isdbt_base.specs.declared.kinds.Mode.{Mode}
use Rattle.isdbt_base.specs.LayerParameters.{LayerParameters}
use Rattle.ts_packet.specs.Packets.{IsPacket, marked, null_packet}
use Rattle.isdbt_base.specs.Numbers.{packets_per_frame, layer_delay}
use Rattle.gf_rs.specs.Field.{gf_pow}
use Rattle.gf_rs.specs.Codewords.{codeword_of, parity_of, differing, value_at, IsBytes, IsNear, IsCodeword}
use Rattle.gf_rs.proofs.Roots.{AreBytes, bytes-from_all}
use Rattle.gf_rs.proofs.OneNear.{one_near}
use Rattle.gf_rs.proofs.Systematic.{codeword-is, codeword-length}
use Rattle.viterbi_hard.specs.LeastPath.{decided_bit}
use Rattle.energy_prbs.specs.Sequence.{byte_of_bits}
use Rattle.byte_inter.specs.BytePlaces.{byte_place}
use Rattle.layer_chain.specs.SentBytes.{dispersal_byte}
use Rattle.layer_chain.specs.CodedBits.{layer_coded_bit}
use Rattle.layer_chain.specs.LayerCells.{cell_bits_at, read_bit}
use Rattle.layer_chain.specs.OuterWords.{outer_word, byte_lists, vanishes, near_codeword, answer_from, outer_answer, unit_answer, given_out}
use Rattle.layer_chain.proofs.CleanWords.{clean_word}

-- ---- all lists of bytes of a length

all-append : (P : List ℕ → Type 0) (xs ys : List (List ℕ)) → AllByRecursion P xs → AllByRecursion P ys → AllByRecursion P (xs ++ ys)
all-append P [] ys h k = k
all-append P (x ∷ xs) ys h k = (h.0, all-append P xs ys h.1 k)

-- a list of a length, of bytes
abbrev AreBytesOf : ℕ → List ℕ → Type 0
AreBytesOf n ys = (length ys ≡ n) × AllByRecursion (λ b. b < 256) ys

all-longer : (x n : ℕ) (yss : List (List ℕ)) → x < 256 → AllByRecursion (AreBytesOf n) yss → AllByRecursion (AreBytesOf (suc n)) (map (λ ys. x ∷ ys) yss)
all-longer x n [] q h = tt
all-longer x n (ys ∷ yss) q h = ((ap suc h.0.0, (q, h.0.1)), all-longer x n yss q h.1)

all-fronts : (n : ℕ) (yss : List (List ℕ)) (xs : List ℕ) → AllByRecursion (λ b. b < 256) xs → AllByRecursion (AreBytesOf n) yss → AllByRecursion (AreBytesOf (suc n)) (flat_map (λ x. map (λ ys. x ∷ ys) yss) xs)
all-fronts n yss [] q h = tt
all-fronts n yss (x ∷ xs) q h = all-append (AreBytesOf (suc n)) (map (λ ys. x ∷ ys) yss) (flat_map (λ x. map (λ ys. x ∷ ys) yss) xs) (all-longer x n yss q.0 h) (all-fronts n yss xs q.1 h)

bytes_below : (a n : ℕ) → a + n ≤ 256 → AllByRecursion (λ b. b < 256) (range_with_len a n)
bytes_below a zero h = tt
bytes_below a (suc n) h = (let e : a < 256 = omega arith in e, bytes_below (a + 1) n (omega arith))

byte_lists-of : (n : ℕ) → AllByRecursion (AreBytesOf n) (byte_lists n)
unfolding byte_lists
byte_lists-of zero = ((refl, tt), tt)
byte_lists-of (suc n) = all-fronts n (byte_lists n) (range_with_len 0 256) (bytes_below 0 256 (omega arith)) (byte_lists-of n)

-- each list of bytes is among them
Contains-map : (x : ℕ) (xss : List (List ℕ)) (xs : List ℕ) → Contains xss xs → Contains (map (λ ys. x ∷ ys) xss) (x ∷ xs)
Contains-map x xss xs c = (c.0, rw length-map c.1, get_or-map (λ ys. x ∷ ys) xss c.0 xs ∙ ap (λ ys. x ∷ ys) c.2)

flat_map-at : (f : ℕ → List (List ℕ)) (xs : List ℕ) (x : ℕ) (y : List ℕ) (k : ℕ) → k < length xs → slice_index_or xs k x ≡ x → Contains (f x) y → Contains (flat_map f xs) y
flat_map-at f [] x y k h e c = absurd (omega arith)
flat_map-at f (z ∷ zs) x y zero h e c = Contains-append_left (f z) (flat_map f zs) y (subst (λ w. Contains (f w) y) (sym e) c)
flat_map-at f (z ∷ zs) x y (suc k) h e c = Contains-append_right (f z) (flat_map f zs) y (flat_map-at f zs x y k (omega arith) e c)

byte_listed : (b : ℕ) → b < 256 → Contains (range_with_len 0 256) b
byte_listed b h = (b, (let e = length-range_with_len 0 256 in omega (arith, e, h)), get_or-range_with_len 0 256 b b h ∙ omega arith)

listed : (ys : List ℕ) → AllByRecursion (λ b. b < 256) ys → Contains (byte_lists (length ys)) ys
unfolding byte_lists
listed [] h = (0, omega arith, refl)
listed (y ∷ ys) h =
    let c = byte_listed y h.0 in
    flat_map-at (λ x. map (λ xs. x ∷ xs) (byte_lists (length ys))) (range_with_len 0 256) y (y ∷ ys) c.0 c.1 c.2 (Contains-map y (byte_lists (length ys)) ys (listed ys h.1))

bytes_from_recursion : (xs : List ℕ) → AllByRecursion (λ b. b < 256) xs → IsBytes xs
bytes_from_recursion [] h k d l = absurd (omega arith)
bytes_from_recursion (x ∷ xs) h zero d l = h.0
bytes_from_recursion (x ∷ xs) h (suc k) d l = bytes_from_recursion xs h.1 k d (omega arith)

recursion_from_bytes : (xs : List ℕ) → AreBytes xs → AllByRecursion (λ b. b < 256) xs
recursion_from_bytes [] h = tt
recursion_from_bytes (x ∷ xs) h = (h.0, recursion_from_bytes xs h.1)

-- ---- what is found

-- what passes a test is found where it is the only one of its kind that does
find-at : {X : Type 0} (P : X → Type 0) (test : X → Bool) (y : X) → ((x : X) → P x → test x ≡ true → x ≡ y) → test y ≡ true → (xs : List X) → AllByRecursion P xs → (k : ℕ) → k < length xs → slice_index_or xs k y ≡ y → find test xs ≡ Some y
find-at P test y only passes [] h k l e = absurd (omega arith)
find-at P test y only passes (x ∷ xs) h zero l e = ap (λ z. cond (test z) (Some z) (find test xs)) e ∙ cond-true (test y) (Some y) (find test xs) passes
find-at P test y only passes (x ∷ xs) h (suc k) l e =
    elim (cases_Bool (test x)) [
      | inl true_here ↦ cond-true (test x) (Some x) (find test xs) true_here ∙ ap Some (only x h.0 true_here)
      | inr false_here ↦ cond-false (test x) (Some x) (find test xs) false_here ∙ find-at P test y only passes xs h.1 k (omega arith) e
    ]

-- what is found is of the kind, and passes
find-has : {X : Type 0} (P : X → Type 0) (test : X → Bool) (xs : List X) → AllByRecursion P xs → (y : X) → find test xs ≡ Some y → P y × (test y ≡ true)
find-has P test [] h y e = cc
find-has P test (x ∷ xs) h y e =
    elim (cases_Bool (test x)) [
      | inl true_here ↦ (let same : x ≡ y = some-same (sym (cond-true (test x) (Some x) (find test xs) true_here) ∙ e) in (subst P same h.0, subst (λ z. test z ≡ true) same true_here))
      | inr false_here ↦ find-has P test xs h.1 y (sym (cond-false (test x) (Some x) (find test xs) false_here) ∙ e)
    ]
  where
    some-same : {X : Type 0} {x y : X} → Some x ≡ Some y → x ≡ y
    some-same e = cc

test_each : (test : ℕ → Bool) (a n : ℕ) → ((i : ℕ) → i < a + n → test i ≡ true) → list_all test (range_with_len a n) ≡ true
test_each test a zero h = refl
test_each test a (suc n) h = and_from (test a) (list_all test (range_with_len (a + 1) n)) (h a (omega arith)) (test_each test (a + 1) n (λ i l. h i (omega arith)))

each_test : (test : ℕ → Bool) (a n : ℕ) → list_all test (range_with_len a n) ≡ true → (i : ℕ) → a ≤ i → i < a + n → test i ≡ true
each_test test a zero h i l m = absurd (omega arith)
each_test test a (suc n) h i l m =
    let parts = and_parts (test a) (list_all test (range_with_len (a + 1) n)) h in
    elim (cases_eq a i) [
      | inl same ↦ subst (λ k. test k ≡ true) same parts.0
      | inr other ↦ each_test test (a + 1) n parts.1 i (omega (arith, other)) (omega arith)
    ]

-- ---- near codewords
codeword_passes : (c : List ℕ) → IsCodeword 16 c → vanishes c ≡ true
unfolding vanishes
codeword_passes c h = test_each (λ i. value_at c (gf_pow 2 i) == 0) 0 16 (λ i l. eq-eqb _ _ (h.vanishes i (omega arith)))

passes_codeword : (c : List ℕ) → IsBytes c → vanishes c ≡ true → IsCodeword 16 c
unfolding vanishes
passes_codeword c b h = record { bytes = b; vanishes = λ i l. eqb-true _ _ (each_test (λ i. value_at c (gf_pow 2 i) == 0) 0 16 h i (omega arith) (omega arith)) }

-- whether a list is near a word, for lists of bytes of the word's length
abbrev near_test : List ℕ → List ℕ → Bool
near_test word c = vanishes c && nat_le (differing word c) 8

near_passes : (word near : List ℕ) → IsNear 16 word near → near_test word near ≡ true
near_passes word near h = and_from (vanishes near) (nat_le (differing word near) 8) (codeword_passes near h.codeword) (le-leb (differing word near) 8 (let k = h.close in omega (arith, k)))

passes_near : (word c : List ℕ) → AreBytesOf (length word) c → near_test word c ≡ true → IsNear 16 word c
passes_near word c is t =
    let parts = and_parts (vanishes c) (nat_le (differing word c) 8) t in
    let few = leb-true (differing word c) 8 parts.1 in
    record { codeword = passes_codeword c (bytes_from_recursion c is.1) parts.0; size = is.0; close = omega (arith, few) }

pub near_codeword-is : (word near : List ℕ) → near_codeword word ≡ Some near → IsNear 16 word near
unfolding near_codeword
near_codeword-is word near e =
    let found = find-has (AreBytesOf (length word)) (near_test word) (byte_lists (length word)) (byte_lists-of (length word)) near e in
    passes_near word near found.0 found.1

pub near_codeword-one : (word near : List ℕ) → length word ≤ 255 → IsNear 16 word near → near_codeword word ≡ Some near
unfolding near_codeword
near_codeword-one word near e h =
    let place : Contains (byte_lists (length word)) near = subst (λ n. Contains (byte_lists n) near) h.size (listed near (recursion_from_bytes near (bytes-from_all near h.codeword.bytes))) in
    find-at (AreBytesOf (length word)) (near_test word) near
    (λ c is t. one_near 16 word c near e (passes_near word c is t) h)
    (near_passes word near h) (byte_lists (length word)) (byte_lists-of (length word)) place.0 place.1 place.2

-- ---- answers

first-append : (xs ys : List ℕ) → 0 < length xs → slice_index (xs ++ ys) 0 ≡ slice_index xs 0
first-append [] ys h = absurd (omega arith)
first-append (x ∷ xs) ys h = refl

pub answer-near : (word near : List ℕ) → length word ≡ 204 → IsNear 16 word near → slice_index near 0 ≡ 0x47 → outer_answer word ≡ take 188 near
unfolding outer_answer
answer-near word near size h sync = ap (answer_from word) (near_codeword-one word near (omega (arith, size)) h) ∙ ap (λ b. if b == 0x47 then take 188 near else marked (take 188 word)) sync

pub answer-foreign : (word near : List ℕ) → length word ≡ 204 → IsNear 16 word near → slice_index near 0 ≢ 0x47 → outer_answer word ≡ marked (take 188 word)
unfolding outer_answer
answer-foreign word near size h other =
    ap (answer_from word) (near_codeword-one word near (omega (arith, size)) h) ∙ ap (λ b. if b then take 188 near else marked (take 188 word)) (ne_eqb (slice_index near 0) 0x47 other)

pub answer-far : (word : List ℕ) → ((near : List ℕ) → IsNear 16 word near → ⊥) → outer_answer word ≡ marked (take 188 word)
unfolding outer_answer
answer-far word none = of (near_codeword word) (near_codeword-is word)
  where
    of : (found : Option (List ℕ)) → ((near : List ℕ) → found ≡ Some near → IsNear 16 word near) → answer_from word found ≡ marked (take 188 word)
    of None h = refl
    of (Some c) h = absurd (none c (h c refl))

pub near_answer : (word packet : List ℕ) → length word ≡ 204 → IsPacket packet → IsBytes packet → differing word (codeword_of 16 packet) ≤ 8 → outer_answer word ≡ packet
near_answer word packet size is_packet bytes close =
    let near : IsNear 16 word (codeword_of 16 packet) = record {
      codeword = codeword-is 16 packet (omega arith) bytes;
      size = codeword-length 16 packet (omega arith) ∙ (let e = is_packet.size in omega (arith, e, size));
      close = omega (arith, close);
    } in
    let sync : slice_index (codeword_of 16 packet) 0 ≡ 0x47 = first-append packet (parity_of 16 packet) (let e = is_packet.size in omega (arith, e)) ∙ is_packet.sync in
    answer-near word (codeword_of 16 packet) size near sync ∙ take_at packet (parity_of 16 packet) 188 is_packet.size

differing-self : (xs : List ℕ) → differing xs xs ≡ 0
unfolding differing
differing-self [] = refl
differing-self (x ∷ xs) = rw (eq-eqb x x refl) (differing-self xs)

-- a codeword of a packet has this packet as its answer
pub own_answer : (packet : List ℕ) → IsPacket packet → IsBytes packet → outer_answer (codeword_of 16 packet) ≡ packet
own_answer packet is_packet bytes =
    near_answer (codeword_of 16 packet) packet (codeword-length 16 packet (omega arith) ∙ (let e = is_packet.size in omega (arith, e))) is_packet bytes (let e = differing-self (codeword_of 16 packet) in omega (arith, e))

-- received without errors, the answer of unit m is packet m
pub clean_answer : (mode : Mode) (l : LayerParameters) (packet : ℕ → List ℕ) (m : ℕ) → IsPacket (packet m) → IsBytes (packet m) →
    unit_answer mode l (cell_bits_at mode l (layer_coded_bit mode l packet)) m ≡ packet m
unfolding unit_answer
clean_answer mode l packet m is_packet bytes = ap outer_answer (clean_word mode l packet m is_packet bytes) ∙ own_answer (packet m) is_packet bytes

-- the first bytes of a word that begins with the sync byte
cut_packet : (word : List ℕ) → length word ≡ 204 → slice_index word 0 ≡ 0x47 → IsPacket (take 188 word)
cut_packet [] size sync = absurd (omega arith)
cut_packet (x ∷ xs) size sync = record { size = length-take-le 188 (x ∷ xs) (omega (arith, size)); sync = sync }

marked_packet : (p : List ℕ) → IsPacket p → IsPacket (marked p)
marked_packet [] h = absurd (let e = h.size in omega (arith, e))
marked_packet (x ∷ []) h = absurd (let e = h.size in omega (arith, e))
marked_packet (x ∷ y ∷ xs) h = record { size = h.size; sync = h.sync }

pub answer-packet : (word : List ℕ) → length word ≡ 204 → slice_index word 0 ≡ 0x47 → IsPacket (outer_answer word)
unfolding outer_answer
answer-packet word size sync = of (near_codeword word) (near_codeword-is word)
  where
    choice : (c : List ℕ) → length c ≡ 204 → (b : Bool) → (slice_index c 0 == 0x47) ≡ b → IsPacket (if b then take 188 c else marked (take 188 word))
    choice c long true e = cut_packet c long (eqb-true _ _ e)
    choice c long false e = marked_packet (take 188 word) (cut_packet word size sync)

    of : (found : Option (List ℕ)) → ((near : List ℕ) → found ≡ Some near → IsNear 16 word near) → IsPacket (answer_from word found)
    of None h = marked_packet (take 188 word) (cut_packet word size sync)
    of (Some c) h = choice c ((h c refl).size ∙ size) (slice_index c 0 == 0x47) refl

-- ---- what is given out

length-outer_word : (t : ℕ) (decided : ℕ → Bool) (m : ℕ) → length (outer_word t decided m) ≡ 204
unfolding outer_word
length-outer_word t decided m = ap suc (length-map-range_with_len (λ a. bit_xor (byte_of_bits (λ i. decided (8 * byte_place t (204 * m + a) + i))) (dispersal_byte t (204 * m + a))) 0 203)

first-outer_word : (t : ℕ) (decided : ℕ → Bool) (m : ℕ) → slice_index (outer_word t decided m) 0 ≡ 0x47
unfolding outer_word
first-outer_word t decided m = refl

null_is_packet : IsPacket null_packet
unfolding null_packet
null_is_packet = record { size = refl; sync = refl }

pub given_out-packet : (mode : Mode) (l : LayerParameters) (cells : ℕ → ℕ → ℕ) (h j : ℕ) → IsPacket (given_out mode l cells h j)
unfolding given_out unit_answer
given_out-packet mode l cells h j = of (nat_le (layer_delay mode l) h)
  where
    t : ℕ
    t = packets_per_frame mode l

    decided : ℕ → Bool
    decided = decided_bit l.rate (read_bit mode l cells)

    m : ℕ
    m = (h - layer_delay mode l) * t + j

    of : (late : Bool) → IsPacket (if late then outer_answer (outer_word t decided m) else null_packet)
    of true = answer-packet (outer_word t decided m) (length-outer_word t decided m) (first-outer_word t decided m)
    of false = null_is_packet
