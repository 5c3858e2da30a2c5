-- The packets of a layer in a frame, and why a frame is refused for them.
use Rattle.std.proofs.Common.{◌≡◌, ◌≢◌, ◌⊎◌, ℕ, ◌+◌, ◌-◌, ◌*◌, ◌%◌, ◌≤◌, ◌<◌, min, Bool, true, false, List, length, take, drop, get_or, None, Some, refl, sym, ap, ◌∙◌, arith, inl, inr, length-take, length-drop, drop-drop}
use Rattle.std.specs.Prelude.{◌&&◌, not, ◌==◌, nat_lt, nat_le, if◌then◌else◌}
use Rattle.std.specs.Option.{option_map}
use Rattle.std.proofs.lemmas.List.{drop-take, take-take, get_or-take, get_or-drop}
use Rattle.std.proofs.lemmas.Bool.{cases_lt, ne_eqb, eq-eqb, lt-ltb, le-ltb, le-leb, lt-leb}
use Rattle.std.proofs.lemmas.Bool.Decides.{eqb_tells}
use Rattle.isdbt_base.specs.declared.kinds.Layer.{Layer}
use Rattle.isdbt_base.specs.Plans.{Schedule}
use Rattle.ts_packet.specs.Packets.{piece, piece_count, piece_or_null, sync_byte}
use Rattle.remux_core.specs.declared.fault.RemuxFault.{RemuxFault}
use Rattle.remux_core.specs.declared.fault.RemuxFault.TheVariants.{BadSync, Truncated}
use Rattle.remux_core.specs.Multiplex.{filled, placed_before, packet_count}
use Rattle.remux_core.specs.Refusals.{seat_of, places, truncated_in, places_bad_sync, bad_sync_in}
use Rattle.remux_core.specs.Parts.{HasSync}
use Rattle.remux_core.specs.Reading.{part_of}
use Rattle.isdbt_base.proofs.Finding.{find-none, find-first}

-- a part of the front of a list is that part of the list
pub window : {X : Type 0} (k i m : ℕ) (xs : List X) → i + k ≤ m → take k (drop i (take m xs)) ≡ take k (drop i xs)
window k i m xs fits =
    let parts : m ≡ i + (m - i) = omega arith in
    let room : k ≤ m - i = omega arith in
    ap (λ n. take k (drop i (take n xs))) parts ∙ ap (take k) (drop-take i (m - i) xs) ∙ take-take k (m - i) (drop i xs) room

pub length-part_of : (bytes : List ℕ) (first t : ℕ) → length (part_of bytes first t) ≡ min (188 * t) (length bytes - 188 * first)
length-part_of bytes first t = length-take (188 * t) (drop (188 * first) bytes) ∙ ap (min (188 * t)) (length-drop (188 * first) bytes)

-- packet j of that part
pub part-packet : (bytes : List ℕ) (first t j : ℕ) → j < t → piece_or_null (part_of bytes first t) j ≡ piece_or_null bytes (first + j)
part-packet bytes first t j within =
    let len = length-part_of bytes first t in
    let at : 188 * j + 188 ≤ 188 * t = omega arith in
    let there : 188 * first + 188 * j ≡ 188 * (first + j) = omega arith in
    let same : piece 188 (part_of bytes first t) j ≡ piece 188 bytes (first + j) =
    window 188 (188 * j) (188 * t) (drop (188 * first) bytes) at ∙ ap (take 188) (drop-drop (188 * j) (188 * first) bytes ∙ ap (λ n. drop n bytes) there) in
    elim (cases_lt (first + j) (piece_count 188 bytes)) [
      | inl below ↦ rw (lt-ltb (first + j) (piece_count 188 bytes) below, lt-ltb j (piece_count 188 (part_of bytes first t)) (omega (arith, len, below, within))) same
      | inr past ↦ rw (le-ltb (first + j) (piece_count 188 bytes) past, le-ltb j (piece_count 188 (part_of bytes first t)) (omega (arith, len, past, within))) refl
    ]

-- the first byte of a packet
pub first_byte : (bytes : List ℕ) (i : ℕ) → get_or (piece 188 bytes i) 0 0 ≡ get_or bytes (188 * i) 0
first_byte bytes i =
    get_or-take 188 (drop (188 * i) bytes) 0 0 (omega arith) ∙ get_or-drop (188 * i) bytes 0 0
    ∙ ap (λ n. get_or bytes n 0) (let e : 188 * i + 0 ≡ 188 * i = omega arith in e)

-- ---- tests of three parts

last_fails : (a b c : Bool) → c ≡ false → (a && b && c) ≡ false
last_fails false b c h = refl
last_fails true false c h = refl
last_fails true true c h = h

middle_fails : (a b c : Bool) → b ≡ false → (a && b && c) ≡ false
middle_fails false b c h = refl
middle_fails true b c h = rw h refl

first_fails : (a b c : Bool) → a ≡ false → (a && b && c) ≡ false
first_fails a b c h = rw h refl

all_pass : (a b c : Bool) → a ≡ true → b ≡ true → c ≡ true → (a && b && c) ≡ true
all_pass a b c x y z = rw (x, y, z) refl

-- ---- which packets a frame places

pub places-not_yet : (p : Schedule) (input : Layer → List ℕ) (x : Layer) (f i : ℕ) → placed_before p x f + filled p x f ≤ i → places p input x f i ≡ false
places-not_yet p input x f i h = middle_fails _ _ _ (le-ltb i (placed_before p x f + filled p x f) h)

pub places-before : (p : Schedule) (input : Layer → List ℕ) (x : Layer) (f i : ℕ) → i < placed_before p x f → places p input x f i ≡ false
places-before p input x f i h = first_fails _ _ _ (lt-leb (placed_before p x f) i h)

pub places-none : (p : Schedule) (input : Layer → List ℕ) (x : Layer) (f i : ℕ) → packet_count input x ≤ i → places p input x f i ≡ false
places-none p input x f i h = last_fails (nat_le (placed_before p x f) i) (nat_lt i (placed_before p x f + filled p x f)) _ (le-ltb i (packet_count input x) h)

pub places-one : (p : Schedule) (input : Layer → List ℕ) (x : Layer) (f i : ℕ) → placed_before p x f ≤ i → i < placed_before p x f + filled p x f → i < packet_count input x →
    places p input x f i ≡ true
places-one p input x f i from below there = all_pass _ _ _ (le-leb (placed_before p x f) i from) (lt-ltb i (placed_before p x f + filled p x f) below) (lt-ltb i (packet_count input x) there)

-- ---- an unfinished packet

no_fault : (whole placed : Bool) (fault : RemuxFault) → (whole ≡ true) ⊎ (placed ≡ false) → (if not whole && placed then Some fault else None) ≡ None
no_fault whole placed fault (inl e) = rw e refl
no_fault true placed fault (inr e) = refl
no_fault false placed fault (inr e) = rw e refl

a_fault : (whole placed : Bool) (fault : RemuxFault) → whole ≡ false → placed ≡ true → (if not whole && placed then Some fault else None) ≡ Some fault
a_fault whole placed fault e k = rw (e, k) refl

-- all packets are whole
pub truncated-whole : (p : Schedule) (input : Layer → List ℕ) (f : ℕ) (x : Layer) → length (input x) % 188 ≡ 0 → truncated_in p input f x ≡ None
truncated-whole p input f x whole = no_fault _ _ _ (inl (eq-eqb (length (input x) % 188) 0 whole))

-- the frame's packets came whole
pub truncated-full : (p : Schedule) (input : Layer → List ℕ) (f : ℕ) (x : Layer) → 188 * (placed_before p x f + filled p x f) ≤ length (input x) → truncated_in p input f x ≡ None
truncated-full p input f x full =
    elim (eqb_tells (length (input x) % 188) 0) [
      | inl whole ↦ no_fault _ _ _ (inl whole.0)
      | inr over ↦ (let ne = over.1 in no_fault _ _ _ (inr (places-not_yet p input x f (packet_count input x - 1) (omega (arith, full, ne)))))
    ]

-- the input ended before
pub truncated-ended : (p : Schedule) (input : Layer → List ℕ) (f : ℕ) (x : Layer) → length (input x) ≤ 188 * placed_before p x f → truncated_in p input f x ≡ None
truncated-ended p input f x ended =
    elim (eqb_tells (length (input x) % 188) 0) [
      | inl whole ↦ no_fault _ _ _ (inl whole.0)
      | inr over ↦ (let ne = over.1 in no_fault _ _ _ (inr (places-before p input x f (packet_count input x - 1) (omega (arith, ended, ne)))))
    ]

-- the input ends inside a packet of the frame
pub truncated-cut : (p : Schedule) (input : Layer → List ℕ) (f : ℕ) (x : Layer) → length (input x) % 188 ≢ 0 → 188 * placed_before p x f ≤ length (input x) →
    length (input x) < 188 * (placed_before p x f + filled p x f) →
    truncated_in p input f x ≡ Some (Truncated (seat_of x) (length (input x) % 188))
truncated-cut p input f x over from below =
    a_fault _ _ _ (ne_eqb (length (input x) % 188) 0 over)
    (places-one p input x f (packet_count input x - 1) (omega (arith, from, over)) (omega (arith, below, over)) (omega (arith, over)))

-- ---- packets without sync byte

and_fails : (a b : Bool) → a ≡ false → (a && b) ≡ false
and_fails a b h = rw h refl

good_byte : (a : Bool) (byte : ℕ) → byte ≡ sync_byte → (a && not (byte == sync_byte)) ≡ false
good_byte false byte e = refl
good_byte true byte e = rw (eq-eqb byte sync_byte e) refl

bad_byte : (a : Bool) (byte : ℕ) → a ≡ true → byte ≢ sync_byte → (a && not (byte == sync_byte)) ≡ true
bad_byte a byte e ne = rw (e, ne_eqb byte sync_byte ne) refl

-- packet i is not both in the frame and without sync byte
fine : (p : Schedule) (input : Layer → List ℕ) (f : ℕ) (x : Layer) (i : ℕ) → (i < packet_count input x → HasSync (input x) i) → places_bad_sync p input x f i ≡ false
fine p input f x i sync =
    elim (cases_lt i (packet_count input x)) [
      | inl there ↦ good_byte (places p input x f i) (get_or (piece 188 (input x) i) 0 0) (first_byte (input x) i ∙ sync there)
      | inr past ↦ and_fails _ _ (places-none p input x f i past)
    ]

pub bad_sync-none : (p : Schedule) (input : Layer → List ℕ) (f : ℕ) (x : Layer) →
    ((i : ℕ) → placed_before p x f ≤ i → i < placed_before p x f + filled p x f → i < packet_count input x → HasSync (input x) i) → bad_sync_in p input f x ≡ None
bad_sync-none p input f x sync =
    ap (option_map (λ i. BadSync (seat_of x) i)) (find-none (places_bad_sync p input x f) (placed_before p x f) (filled p x f)
    (λ k less. fine p input f x (placed_before p x f + k) (λ there. sync (placed_before p x f + k) (omega arith) (omega arith) there)))

pub bad_sync-first : (p : Schedule) (input : Layer → List ℕ) (f : ℕ) (x : Layer) (k : ℕ) → k < filled p x f → placed_before p x f + k < packet_count input x →
    (get_or (input x) (188 * (placed_before p x f + k)) 0 ≢ sync_byte) →
    ((i : ℕ) → placed_before p x f ≤ i → i < placed_before p x f + k → HasSync (input x) i) → bad_sync_in p input f x ≡ Some (BadSync (seat_of x) (placed_before p x f + k))
bad_sync-first p input f x k less there bad before =
    ap (option_map (λ i. BadSync (seat_of x) i)) (find-first (places_bad_sync p input x f) (placed_before p x f) (filled p x f) k less
    (bad_byte (places p input x f (placed_before p x f + k)) (get_or (piece 188 (input x) (placed_before p x f + k)) 0 0) (places-one p input x f (placed_before p x f + k) (omega arith) (omega arith) there) (λ e. bad (sym (first_byte (input x) (placed_before p x f + k)) ∙ e)))
    (λ j lt. fine p input f x (placed_before p x f + j) (λ _. before (placed_before p x f + j) (omega arith) (omega arith))))
