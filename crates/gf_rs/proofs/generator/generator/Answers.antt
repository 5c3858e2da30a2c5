use Rattle.gf_rs.proofs.Generators.{generator-length, generator_exponents, generator_roots}
use Rattle.gf_rs.proofs.generator.generator.Goals as goal

pub returns-clause-size : goal.returns-clause-size
returns-clause-size c = generator-length c.args.roots c.requires.even c.requires.least c.requires.most

pub returns-clause-exponents : goal.returns-clause-exponents
returns-clause-exponents c k h = generator_exponents c.args.roots k c.requires.even c.requires.least c.requires.most h

pub returns-clause-roots : goal.returns-clause-roots
returns-clause-roots c i h = generator_roots c.args.roots i c.requires.even c.requires.least c.requires.most h
