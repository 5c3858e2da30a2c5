use Rattle.std.proofs.Common.{sym, subst}
use Rattle.isdbt_base.specs.declared.kinds.Layer.TheVariants.{A, B, C}
use Rattle.remux_core.specs.Parts.{IsWhole}
use Rattle.remux_core.proofs.frame.packets_of.Goals as goal

pub returns-clause-whole : goal.returns-clause-whole
returns-clause-whole c = record {
  a = subst IsWhole (sym c.part.ensures.value) (c.requires A).whole;
  b = subst IsWhole (sym c.part-2.ensures.value) (c.requires B).whole;
  c = subst IsWhole (sym c.part-3.ensures.value) (c.requires C).whole;
}
