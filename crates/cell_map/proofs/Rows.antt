-- Worked cells.
use Rattle.std.proofs.Common.{◌≡◌, refl, pos, negsuc}
use Rattle.isdbt_base.specs.declared.kinds.Modulation.TheVariants.{Qpsk, Qam16, Qam64}
use Rattle.cell_map.specs.Levels.{cell_of, bits_of, nearest, level_in}

zeros_64 : cell_of Qam64 0b000000 ≡ record { i = pos 7; q = pos 7 }
unfolding cell_of level_in
zeros_64 = refl

first_64 : cell_of Qam64 0b100000 ≡ record { i = negsuc 6; q = pos 7 }
unfolding cell_of level_in
first_64 = refl

middle_64 : bits_of Qam64 (record { i = pos 0; q = pos 0 }) ≡ 0b001100
unfolding bits_of nearest
middle_64 = refl

far_64 : bits_of Qam64 (record { i = negsuc 127; q = pos 127 }) ≡ 0b100000
unfolding bits_of nearest
far_64 = refl

middle_16 : bits_of Qam16 (record { i = pos 0; q = pos 0 }) ≡ 0b0011
unfolding bits_of nearest
middle_16 = refl

middle_4 : bits_of Qpsk (record { i = pos 0; q = pos 0 }) ≡ 0b00
unfolding bits_of nearest
middle_4 = refl
