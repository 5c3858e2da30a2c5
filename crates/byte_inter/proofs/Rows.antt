-- Worked places.
use Rattle.std.proofs.Common.{◌≡◌, refl}
use Rattle.byte_inter.specs.BytePlaces.{byte_place, interleaved}

byte_13 : byte_place 12 13 ≡ 421
byte_13 = refl

byte_at_421 : interleaved (λ n. n) 12 421 ≡ 13
unfolding interleaved
byte_at_421 = refl
