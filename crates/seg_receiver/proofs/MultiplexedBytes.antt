-- The packets of a multiplex of good inputs are packets of bytes.
use Rattle.std.proofs.Common.{◌≡◌, ℕ, ◌+◌, ◌*◌, ◌<◌, List, ◌∷◌, length, drop, replicate, refl, arith, ap, sym, ◌∙◌, subst, inl, inr}
use Rattle.std.proofs.lemmas.Bool.{cases_lt, lt-ltb, le-ltb}
use Rattle.std.proofs.lemmas.List.Elements.{All-take, All-drop, All-cons, All-replicate}
use Rattle.isdbt_base.specs.declared.kinds.Layer.{Layer}
use Rattle.isdbt_base.specs.declared.stream.Reading.{Reading}
use Rattle.isdbt_base.specs.Plans.{Schedule, IsPlan}
use Rattle.isdbt_base.specs.Outcome.{product}
use Rattle.ts_packet.specs.Packets.{null_packet, piece, piece_count, piece_or_null, IsPacket}
use Rattle.ts_packet.proofs.PieceLaws.{length-piece_or_null, piece_or_null-piece, piece_or_null-null}
use Rattle.gf_rs.specs.Codewords.{IsBytes}
use Rattle.coder_core.specs.CodeRefusals.{coded_frame}
use Rattle.remux_core.specs.Multiplex.{filled, placed_before, multiplexed, written_frame}
use Rattle.remux_core.specs.Parts.{IsGood}
use Rattle.remux_core.proofs.Parts.{first_byte}
use Rattle.seg_receiver.specs.CellStream.{view_of, writing_of}
use Rattle.seg_receiver.specs.Received.{received}
use Rattle.seg_receiver.specs.Delivered.{CanCarry, delivered, ArePackets}
use Rattle.seg_receiver.proofs.FoundFrames.{received-broadcast}

pub null-packet : IsPacket null_packet
unfolding null_packet
null-packet = record { size = refl; sync = refl }

byte-before : (b : ℕ) (bytes : List ℕ) → b < 256 → IsBytes bytes → IsBytes (b ∷ bytes)
byte-before b bytes lt all = All-cons (λ b. b < 256) b bytes lt all

null-bytes : IsBytes null_packet
unfolding null_packet
null-bytes =
    let ends : List ℕ = replicate 184 0xFF in
    byte-before 0x47 (0x1F ∷ 0xFF ∷ 0x10 ∷ ends) (omega arith)
    (byte-before 0x1F (0xFF ∷ 0x10 ∷ ends) (omega arith)
    (byte-before 0xFF (0x10 ∷ ends) (omega arith)
    (byte-before 0x10 ends (omega arith) (All-replicate (λ b. b < 256) 184 0xFF (omega arith)))))

abbrev pub IsBytePacket : List ℕ → Type 0
IsBytePacket bytes = IsPacket bytes × IsBytes bytes

piece-packet : (bytes : List ℕ) (i : ℕ) → IsGood bytes → IsBytes bytes → i < piece_count 188 bytes → IsBytePacket (piece 188 bytes i)
piece-packet bytes i good all h = (
  record {
    size = ap length (sym (piece_or_null-piece bytes i h)) ∙ length-piece_or_null bytes i good.whole;
    sync = first_byte bytes i ∙ good.sync i (omega arith);
  },
  All-take (λ b. b < 256) 188 (drop (188 * i) bytes) (All-drop (λ b. b < 256) (188 * i) bytes all),
)

piece_or_null-packet : (bytes : List ℕ) (i : ℕ) → IsGood bytes → IsBytes bytes → IsBytePacket (piece_or_null bytes i)
piece_or_null-packet bytes i good all =
    elim (cases_lt i (piece_count 188 bytes)) [
      | inl there ↦ subst IsBytePacket (sym (piece_or_null-piece bytes i there)) (piece-packet bytes i good all there)
      | inr past ↦ subst IsBytePacket (sym (piece_or_null-null bytes i past)) (null-packet, null-bytes)
    ]

pub multiplexed-packet : (p : Schedule) (input : Layer → List ℕ) → ((x : Layer) → IsGood (input x)) → ((x : Layer) → IsBytes (input x)) → (f : ℕ) (x : Layer) (j : ℕ) → IsPacket (multiplexed p input f x j) × IsBytes (multiplexed p input f x j)
unfolding multiplexed
multiplexed-packet p input good all f x j =
    elim (cases_lt j (filled p x f)) [
      | inl there ↦ rw (lt-ltb j (filled p x f) there) (piece_or_null-packet (input x) (placed_before p x f + j) (good x) (all x))
      | inr past ↦ rw (le-ltb j (filled p x f) past) (null-packet, null-bytes)
    ]

pub multiplexed-packets : (p : Schedule) (input : Layer → List ℕ) (count : ℕ) → ((x : Layer) → IsGood (input x)) → ((x : Layer) → IsBytes (input x)) → ArePackets p (multiplexed p input) count
multiplexed-packets p input count good all = λ f j x l h used k. multiplexed-packet p input good all f x j

pub received-chain : (how : Reading) (p : Schedule) (input : Layer → List ℕ) (count : ℕ) → IsPlan p → CanCarry how.form p count → ((x : Layer) → IsGood (input x)) → ((x : Layer) → IsBytes (input x))
    → received (view_of how (product (coded_frame (writing_of how.form) p (product (written_frame p input) count)) count)) count ≡ delivered p (multiplexed p input) count
received-chain how p input count plan carries good all =
    received-broadcast how p (multiplexed p input) count plan carries (multiplexed-packets p input count good all)
