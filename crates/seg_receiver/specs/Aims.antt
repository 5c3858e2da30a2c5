-- What is asked of a stream of cells: all layers, layer A alone, or lines that list its frames.
use Rattle.std.specs.Prelude.{Bool, true, false}
use Rattle.seg_receiver.specs.declared.aim.Aim.{Aim}
use Rattle.seg_receiver.specs.declared.aim.Aim.TheVariants.{Full, Partial}

-- the aim of a reception, in full or partial
abbrev pub aim_of : Bool → Aim
aim_of true = Partial
aim_of false = Full
