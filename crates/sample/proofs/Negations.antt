-- The numbers of the cells that are sent can be negated within 8 bits.
use Rattle.std.proofs.Common.{◌≡◌, ℕ, List, refl, sym, ap, subst, ◌-◌, ◌+◌, ◌*◌, inl, inr}
use Rattle.std.specs.Prelude.{ℤ, pos, neg_ℤ}
use Rattle.std.specs.Int.{w8, int_wrapping_neg}
use Rattle.isdbt_base.specs.declared.kinds.Mode.{Mode}
use Rattle.isdbt_base.specs.declared.kinds.Modulation.{Modulation}
use Rattle.isdbt_base.specs.declared.kinds.Modulation.TheVariants.{Qpsk, Qam16, Qam64}
use Rattle.isdbt_base.specs.LayerParameters.{LayerParameters}
use Rattle.isdbt_base.specs.Parameters.{Parameters, layer_of}
use Rattle.isdbt_base.specs.Numbers.{carriers, first_segment}
use Rattle.isdbt_base.specs.Plans.{Schedule, at_frame}
use Rattle.isdbt_base.specs.Frames.{FramePackets}
use Rattle.isdbt_base.proofs.OptionLaws.{option_cases}
use Rattle.cell_map.specs.Levels.{highest, lower, level_of, i_bits, q_bits, cell_of}
use Rattle.cell_map.proofs.LevelLaws.{level_in-of}
use Rattle.layer_chain.specs.CodedBits.{layer_coded_bit}
use Rattle.layer_chain.specs.LayerCells.{cell_bits_at}
use Rattle.coder_core.specs.SentCells.{epoch_packet, layer_cell_at, segment_layer, cell_in, epoch_cell}
use Rattle.sample.specs.SpoiledCells.{HasNegation, sent_cells}

abbrev Turns : ℤ → Type 0
Turns x = int_wrapping_neg w8 x ≡ neg_ℤ x

level-turns : (m : Modulation) (b : ℕ) → Turns (level_of m b)
level-turns Qpsk b = level_in-of Turns b (highest Qpsk) (lower Qpsk) refl (refl, tt)
level-turns Qam16 b = level_in-of Turns b (highest Qam16) (lower Qam16) refl (refl, (refl, (refl, tt)))
level-turns Qam64 b = level_in-of Turns b (highest Qam64) (lower Qam64) refl (refl, (refl, (refl, (refl, (refl, (refl, (refl, tt)))))))

cell_of-negation : (m : Modulation) (b : ℕ) → HasNegation (cell_of m b)
unfolding cell_of
cell_of-negation m b = record { i = level-turns m (i_bits b); q = level-turns m (q_bits b) }

layer_cell_at-negation : (mode : Mode) (l : LayerParameters) (packet : ℕ → List ℕ) (y w : ℕ) → HasNegation (layer_cell_at mode l packet y w)
unfolding layer_cell_at
layer_cell_at-negation mode l packet y w = cell_of-negation l.modulation (cell_bits_at mode l (layer_coded_bit mode l packet) y w)

zero-negation : HasNegation (record { i = pos 0; q = pos 0 })
zero-negation = record { i = refl; q = refl }

epoch_cell-negation : (mode : Mode) (s : Parameters) (frames : FramePackets) (start y segment carrier : ℕ) → HasNegation (epoch_cell mode s frames start y segment carrier)
epoch_cell-negation mode s frames start y segment carrier =
    let x = segment_layer s segment in
    elim (option_cases (layer_of s x)) [
      | inl none ↦ subst HasNegation (sym (ap (cell_in mode s frames start y segment carrier x) none)) zero-negation
      | inr used ↦ subst HasNegation (sym (ap (cell_in mode s frames start y segment carrier x) used.1))
          (layer_cell_at-negation mode used.0 (epoch_packet mode used.0 frames start x) y ((segment - first_segment s x) * carriers mode + carrier))
    ]

pub sent-negation : (p : Schedule) (frames : FramePackets) (f k segment carrier : ℕ) → HasNegation (sent_cells p frames f k segment carrier)
sent-negation p frames f k segment carrier =
    epoch_cell-negation (at_frame p f).mode (at_frame p f).setting frames (at_frame p f).start (204 * (f - (at_frame p f).start) + k) segment carrier
