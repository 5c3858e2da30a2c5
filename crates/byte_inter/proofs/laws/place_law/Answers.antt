use Rattle.std.proofs.Common.{arith}
use Rattle.byte_inter.proofs.PlaceLaws.{place-path, interleaved-place, place-one, interleaved-none, interleaved-agree}
use Rattle.byte_inter.proofs.laws.place_law.Goals as goal

pub returns : goal.returns
returns c = record {
  at = λ sent n. interleaved-place sent c.args.t n;
  line = λ n. place-path c.args.t n;
  within = λ n. (omega arith, omega (arith, c.requires));
  one = λ m n same. place-one c.args.t m n same;
  none = λ sent q none. interleaved-none sent c.args.t q none;
  prefix = λ sent other q agree. interleaved-agree sent other c.args.t q agree;
}
