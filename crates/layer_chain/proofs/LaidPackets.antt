-- Packets that are laid one behind the other, and the pieces of their bytes.
use Rattle.std.proofs.Common.{◌≡◌, ℕ, ◌+◌, ◌-◌, ◌*◌, ◌<◌, ◌≤◌, List, ◌++◌, length, take, drop, sym, ap, ◌∙◌, arith, inl, inr, length-take}
use Rattle.std.proofs.lemmas.Bool.{cases_lt}
use Rattle.std.proofs.lemmas.List.{take_at, drop_at, drop-take, take-take}
use Rattle.ts_packet.specs.Packets.{piece, piece_or_null, null_packet}
use Rattle.ts_packet.proofs.PieceLaws.{piece_or_null-piece, piece_or_null-null}

-- the first pieces are these packets
pub record AreLaid (packet : ℕ → List ℕ) (bytes : List ℕ) (n : ℕ) : Type 0 where
  pub each : (j : ℕ) → j < n → piece 188 bytes j ≡ packet j

pub laid-none : (packet : ℕ → List ℕ) (bytes : List ℕ) → AreLaid packet bytes 0
laid-none packet bytes = record { each = λ j h. absurd (omega arith) }

-- a piece of the front is one of the whole
piece-front : (bytes : List ℕ) (at j : ℕ) → 188 * j + 188 ≤ at → piece 188 (take at bytes) j ≡ piece 188 bytes j
piece-front bytes at j fits =
    let parts : at ≡ 188 * j + (at - 188 * j) = omega arith in
    ap (λ n. take 188 (drop (188 * j) (take n bytes))) parts ∙ ap (take 188) (drop-take (188 * j) (at - 188 * j) bytes)
    ∙ take-take 188 (at - 188 * j) (drop (188 * j) bytes) (omega arith)

-- one packet more behind the others
pub laid-more : (packet : ℕ → List ℕ) (before after part : List ℕ) (n at : ℕ) → at ≡ 188 * n → at ≤ length before → length part ≡ 188 → take (at + 188) after ≡ take at before ++ part → part ≡ packet n
    → AreLaid packet before n → AreLaid packet after (n + 1)
laid-more packet before after part n at e room size put is laid = record { each = each }
  where
    start : length (take at before) ≡ at
    start = let l = length-take at before in omega (arith, l, room)

    front : take at after ≡ take at before
    front = sym (take-take at (at + 188) after (omega arith)) ∙ ap (take at) put ∙ take_at (take at before) part at start

    last : take 188 (drop at after) ≡ part
    last = sym (drop-take at 188 after) ∙ ap (drop at) put ∙ drop_at (take at before) part at start

    each : (j : ℕ) → j < n + 1 → piece 188 after j ≡ packet j
    each j h =
        elim (cases_lt j n) [
          | inl below ↦ sym (piece-front after at j (omega (arith, e, below))) ∙ ap (λ xs. piece 188 xs j) front ∙ piece-front before at j (omega (arith, e, below)) ∙ laid.each j below
          | inr past ↦ (let same : j ≡ n = omega arith in
              ap (λ k. take 188 (drop k after)) (ap (λ k. 188 * k) same ∙ sym e) ∙ last ∙ is ∙ ap packet (sym same))
        ]

-- packets that are laid are those that the bytes have
pub laid-all : (packet : ℕ → List ℕ) (bytes : List ℕ) (n : ℕ) → length bytes ≡ 188 * n → AreLaid packet bytes n → (j : ℕ) → j < n → piece_or_null bytes j ≡ packet j
laid-all packet bytes n size laid j h = piece_or_null-piece bytes j (omega (arith, size, h)) ∙ laid.each j h

-- where all that are laid are null packets, there is nothing but null packets
pub laid-nulls : (bytes : List ℕ) (n : ℕ) → length bytes ≡ 188 * n → AreLaid (λ _. null_packet) bytes n → (j : ℕ) → piece_or_null bytes j ≡ null_packet
laid-nulls bytes n size laid j =
    elim (cases_lt j n) [
      | inl below ↦ laid-all (λ _. null_packet) bytes n size laid j below
      | inr past ↦ piece_or_null-null bytes j (omega (arith, size, past))
    ]
