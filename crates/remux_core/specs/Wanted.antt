-- The packets that a frame wants of each layer.
use Rattle.std.specs.Prelude.{ℕ}
use Rattle.isdbt_base.specs.declared.kinds.Layer.{Layer}
use Rattle.isdbt_base.specs.declared.kinds.Layer.TheVariants.{A, B, C}
use Rattle.remux_core.specs.declared.wanted.Wanted.{Wanted}

-- those of a layer
abbrev pub wanted_of : Wanted → Layer → ℕ
wanted_of w A = w.a
wanted_of w B = w.b
wanted_of w C = w.c
