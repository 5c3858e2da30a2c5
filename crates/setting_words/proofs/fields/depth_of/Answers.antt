use Rattle.std.specs.Fmt.{digits}
use Rattle.isdbt_base.specs.declared.kinds.Mode.TheVariants.{M1, M2, M3}
use Rattle.isdbt_base.specs.declared.kinds.DepthCode.TheVariants.{D0, D1, D2, D3}
use Rattle.setting_words.proofs.Numbers.{spells_depth, same_depth, no_depth}
use Rattle.setting_words.proofs.fields.depth_of.Goals as goal

pub returns-in-text-clause-spelled : goal.returns-in-text-clause-spelled
unfolding digits
returns-in-text-clause-spelled c = spells_depth c.args.mode M1 D0 c.args.text.now c.in-M1.is c.in-text.is

pub returns-in-text-clause-found : goal.returns-in-text-clause-found
unfolding digits
returns-in-text-clause-found c = λ d e. same_depth c.args.mode M1 D0 d c.args.text.now c.in-M1.is c.in-text.is e

pub returns-in-text-2-clause-spelled : goal.returns-in-text-2-clause-spelled
unfolding digits
returns-in-text-2-clause-spelled c = spells_depth c.args.mode M1 D1 c.args.text.now c.in-M1.is c.in-text-2.is

pub returns-in-text-2-clause-found : goal.returns-in-text-2-clause-found
unfolding digits
returns-in-text-2-clause-found c = λ d e. same_depth c.args.mode M1 D1 d c.args.text.now c.in-M1.is c.in-text-2.is e

pub returns-in-text-3-clause-spelled : goal.returns-in-text-3-clause-spelled
unfolding digits
returns-in-text-3-clause-spelled c = spells_depth c.args.mode M1 D2 c.args.text.now c.in-M1.is c.in-text-3.is

pub returns-in-text-3-clause-found : goal.returns-in-text-3-clause-found
unfolding digits
returns-in-text-3-clause-found c = λ d e. same_depth c.args.mode M1 D2 d c.args.text.now c.in-M1.is c.in-text-3.is e

pub returns-in-text-4-clause-spelled : goal.returns-in-text-4-clause-spelled
unfolding digits
returns-in-text-4-clause-spelled c = spells_depth c.args.mode M1 D3 c.args.text.now c.in-M1.is c.in-text-4.is

pub returns-in-text-4-clause-found : goal.returns-in-text-4-clause-found
unfolding digits
returns-in-text-4-clause-found c = λ d e. same_depth c.args.mode M1 D3 d c.args.text.now c.in-M1.is c.in-text-4.is e

pub returns-in_default-clause-found : goal.returns-in_default-clause-found
unfolding digits
returns-in_default-clause-found c = no_depth c.args.mode M1 c.args.text.now c.in-M1.is c.in_default.not-text c.in_default.not-text-2 c.in_default.not-text-3 c.in_default.not-text-4

pub returns-in-text-text-clause-spelled : goal.returns-in-text-text-clause-spelled
unfolding digits
returns-in-text-text-clause-spelled c = spells_depth c.args.mode M2 D0 c.args.text.now c.in-M2.is c.in-text-text.is

pub returns-in-text-text-clause-found : goal.returns-in-text-text-clause-found
unfolding digits
returns-in-text-text-clause-found c = λ d e. same_depth c.args.mode M2 D0 d c.args.text.now c.in-M2.is c.in-text-text.is e

pub returns-in-text-2-text-clause-spelled : goal.returns-in-text-2-text-clause-spelled
unfolding digits
returns-in-text-2-text-clause-spelled c = spells_depth c.args.mode M2 D1 c.args.text.now c.in-M2.is c.in-text-2-text.is

pub returns-in-text-2-text-clause-found : goal.returns-in-text-2-text-clause-found
unfolding digits
returns-in-text-2-text-clause-found c = λ d e. same_depth c.args.mode M2 D1 d c.args.text.now c.in-M2.is c.in-text-2-text.is e

pub returns-in-text-3-text-clause-spelled : goal.returns-in-text-3-text-clause-spelled
unfolding digits
returns-in-text-3-text-clause-spelled c = spells_depth c.args.mode M2 D2 c.args.text.now c.in-M2.is c.in-text-3-text.is

pub returns-in-text-3-text-clause-found : goal.returns-in-text-3-text-clause-found
unfolding digits
returns-in-text-3-text-clause-found c = λ d e. same_depth c.args.mode M2 D2 d c.args.text.now c.in-M2.is c.in-text-3-text.is e

pub returns-in-text-4-text-clause-spelled : goal.returns-in-text-4-text-clause-spelled
unfolding digits
returns-in-text-4-text-clause-spelled c = spells_depth c.args.mode M2 D3 c.args.text.now c.in-M2.is c.in-text-4-text.is

pub returns-in-text-4-text-clause-found : goal.returns-in-text-4-text-clause-found
unfolding digits
returns-in-text-4-text-clause-found c = λ d e. same_depth c.args.mode M2 D3 d c.args.text.now c.in-M2.is c.in-text-4-text.is e

pub returns-in_default-text-clause-found : goal.returns-in_default-text-clause-found
unfolding digits
returns-in_default-text-clause-found c = no_depth c.args.mode M2 c.args.text.now c.in-M2.is c.in_default-text.not-text c.in_default-text.not-text-2 c.in_default-text.not-text-3 c.in_default-text.not-text-4

pub returns-in-text-text-2-clause-spelled : goal.returns-in-text-text-2-clause-spelled
unfolding digits
returns-in-text-text-2-clause-spelled c = spells_depth c.args.mode M3 D0 c.args.text.now c.in-M3.is c.in-text-text-2.is

pub returns-in-text-text-2-clause-found : goal.returns-in-text-text-2-clause-found
unfolding digits
returns-in-text-text-2-clause-found c = λ d e. same_depth c.args.mode M3 D0 d c.args.text.now c.in-M3.is c.in-text-text-2.is e

pub returns-in-text-2-text-2-clause-spelled : goal.returns-in-text-2-text-2-clause-spelled
unfolding digits
returns-in-text-2-text-2-clause-spelled c = spells_depth c.args.mode M3 D1 c.args.text.now c.in-M3.is c.in-text-2-text-2.is

pub returns-in-text-2-text-2-clause-found : goal.returns-in-text-2-text-2-clause-found
unfolding digits
returns-in-text-2-text-2-clause-found c = λ d e. same_depth c.args.mode M3 D1 d c.args.text.now c.in-M3.is c.in-text-2-text-2.is e

pub returns-in-text-3-text-2-clause-spelled : goal.returns-in-text-3-text-2-clause-spelled
unfolding digits
returns-in-text-3-text-2-clause-spelled c = spells_depth c.args.mode M3 D2 c.args.text.now c.in-M3.is c.in-text-3-text-2.is

pub returns-in-text-3-text-2-clause-found : goal.returns-in-text-3-text-2-clause-found
unfolding digits
returns-in-text-3-text-2-clause-found c = λ d e. same_depth c.args.mode M3 D2 d c.args.text.now c.in-M3.is c.in-text-3-text-2.is e

pub returns-in-text-4-text-2-clause-spelled : goal.returns-in-text-4-text-2-clause-spelled
unfolding digits
returns-in-text-4-text-2-clause-spelled c = spells_depth c.args.mode M3 D3 c.args.text.now c.in-M3.is c.in-text-4-text-2.is

pub returns-in-text-4-text-2-clause-found : goal.returns-in-text-4-text-2-clause-found
unfolding digits
returns-in-text-4-text-2-clause-found c = λ d e. same_depth c.args.mode M3 D3 d c.args.text.now c.in-M3.is c.in-text-4-text-2.is e

pub returns-in_default-text-2-clause-found : goal.returns-in_default-text-2-clause-found
unfolding digits
returns-in_default-text-2-clause-found c = no_depth c.args.mode M3 c.args.text.now c.in-M3.is c.in_default-text-2.not-text c.in_default-text-2.not-text-2 c.in_default-text-2.not-text-3 c.in_default-text-2.not-text-4
