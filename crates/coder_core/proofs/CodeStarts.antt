-- The bytes that are taken before a frame.
use Rattle.std.proofs.Common.{◌≡◌, ℕ, ◌+◌, ◌*◌, ◌≤◌, ◌<◌, Bool, false, List, length, refl, ap, ◌∙◌, arith, inl, inr}
use Rattle.std.specs.Prelude.{Some, None, ◌||◌, is_some, unwrap_or, find}
use Rattle.std.specs.declared.option.Option.{Option}
use Rattle.std.specs.List.{range_with_len}
use Rattle.std.proofs.lemmas.Bool.{cases_lt, ne_eqb}
use Rattle.ts_packet.specs.Packets.{piece, piece_count}
use Rattle.coder_core.specs.declared.fault.CodeFault.{CodeFault}
use Rattle.coder_core.specs.InputFrames.{first_head, bears_head, frame_start}
use Rattle.coder_core.specs.CodeRefusals.{packet_refusal, ends_search, search_stop, search_end, search_refusal, starts_from, stream_starts}
use Rattle.isdbt_base.proofs.Finding.{find-passes}

-- ---- where the first head was found

pub starts-found : (slots : ℕ → ℕ) (input : List ℕ) (head f : ℕ) → first_head input ≡ Some head → search_refusal input ≡ None → 0 < f → stream_starts slots input f ≡ frame_start slots head f
unfolding stream_starts
starts-found slots input head f found searched some = rw (ne_eqb f 0 (λ e. omega (arith, e, some)), searched, found) refl

pub starts-next : (slots : ℕ → ℕ) (input : List ℕ) (head f : ℕ) → first_head input ≡ Some head → search_refusal input ≡ None → stream_starts slots input (f + 1) ≡ frame_start slots head (f + 1)
starts-next slots input head f found searched = starts-found slots input head (f + 1) found searched (omega arith)

pub starts-zero : (slots : ℕ → ℕ) (input : List ℕ) → stream_starts slots input 0 ≡ 0
unfolding stream_starts
starts-zero slots input = refl

pub starts-within : (slots : ℕ → ℕ) (input : List ℕ) (head f : ℕ) → first_head input ≡ Some head → search_refusal input ≡ None → stream_starts slots input f ≤ frame_start slots head f
starts-within slots input head f found searched =
    elim (cases_lt 0 f) [
      | inl some ↦ (let e = starts-found slots input head f found searched some in omega (arith, e))
      | inr none ↦ (let zero : f ≡ 0 = omega (arith, none) in let e = ap (stream_starts slots input) zero ∙ starts-zero slots input in omega (arith, e))
    ]

-- ---- where the search was refused, or found none

starts_without : (slots : ℕ → ℕ) (input : List ℕ) (f : ℕ) (fault : CodeFault) (o : Option ℕ) → starts_from slots input f (Some fault) o ≡ search_end input
starts_without slots input f fault None = refl
starts_without slots input f fault (Some head) = refl

pub starts-refused : (slots : ℕ → ℕ) (input : List ℕ) (f : ℕ) (fault : CodeFault) → search_refusal input ≡ Some fault → 0 < f → stream_starts slots input f ≡ search_end input
unfolding stream_starts
starts-refused slots input f fault why some = rw (ne_eqb f 0 (λ e. omega (arith, e, some)), why) (starts_without slots input f fault (first_head input))

pub starts-none : (slots : ℕ → ℕ) (input : List ℕ) (f : ℕ) (r : Option CodeFault) → search_refusal input ≡ r → first_head input ≡ None → 0 < f → stream_starts slots input f ≡ search_end input
unfolding stream_starts
starts-none slots input f None why none some = rw (ne_eqb f 0 (λ e. omega (arith, e, some)), why, none) refl
starts-none slots input f (Some fault) why none some = starts-refused slots input f fault why some

-- ---- the packet at which the search ends

neither : (r : Option CodeFault) (b : Bool) → r ≡ None → b ≡ false → (is_some r || b) ≡ false
neither r b none clear = rw (none, clear) refl

stop-least : (input : List ℕ) (i : ℕ) (o : Option ℕ) → find (ends_search input) (range_with_len 0 (piece_count 204 input)) ≡ o → ((k : ℕ) → k < i → packet_refusal input k ≡ None) → ((k : ℕ) → k < i → bears_head (piece 204 input k) ≡ false) → 204 * i ≤ length input
    → i ≤ unwrap_or o (piece_count 204 input)
stop-least input i None is good none whole = omega (arith, whole)
stop-least input i (Some h) is good none whole =
    elim (cases_lt h i) [
      | inr le ↦ le
      | inl less ↦ absurd (let clear = neither (packet_refusal input h) (bears_head (piece 204 input h)) (good h less) (none h less) in let set = find-passes (ends_search input) 0 (piece_count 204 input) h is in cc)
    ]

pub search_stop-least : (input : List ℕ) (i : ℕ) → ((k : ℕ) → k < i → packet_refusal input k ≡ None) → ((k : ℕ) → k < i → bears_head (piece 204 input k) ≡ false) → 204 * i ≤ length input → i ≤ search_stop input
unfolding search_stop
search_stop-least input i good none whole = stop-least input i (find (ends_search input) (range_with_len 0 (piece_count 204 input))) refl good none whole
