use Rattle.std.proofs.Common.{◌≡◌, lit≤}
use Rattle.std.specs.Prelude.{decimal}
use Rattle.std.specs.Fmt.{digits}
use Rattle.setting_words.proofs.Numbers.{each_count, same_count}
use Rattle.setting_words.proofs.fields.segments_of.Goals as goal

pub returns-in-text-clause-spelled : goal.returns-in-text-clause-spelled
unfolding digits
returns-in-text-clause-spelled c = c.in-text.is

pub returns-in-text-clause-found : goal.returns-in-text-clause-found
unfolding digits
returns-in-text-clause-found c = λ n low high e. same_count c.args.text.now 1 n (lit≤ tt) high c.in-text.is e

pub returns-in-text-2-clause-spelled : goal.returns-in-text-2-clause-spelled
unfolding digits
returns-in-text-2-clause-spelled c = c.in-text-2.is

pub returns-in-text-2-clause-found : goal.returns-in-text-2-clause-found
unfolding digits
returns-in-text-2-clause-found c = λ n low high e. same_count c.args.text.now 2 n (lit≤ tt) high c.in-text-2.is e

pub returns-in-text-3-clause-spelled : goal.returns-in-text-3-clause-spelled
unfolding digits
returns-in-text-3-clause-spelled c = c.in-text-3.is

pub returns-in-text-3-clause-found : goal.returns-in-text-3-clause-found
unfolding digits
returns-in-text-3-clause-found c = λ n low high e. same_count c.args.text.now 3 n (lit≤ tt) high c.in-text-3.is e

pub returns-in-text-4-clause-spelled : goal.returns-in-text-4-clause-spelled
unfolding digits
returns-in-text-4-clause-spelled c = c.in-text-4.is

pub returns-in-text-4-clause-found : goal.returns-in-text-4-clause-found
unfolding digits
returns-in-text-4-clause-found c = λ n low high e. same_count c.args.text.now 4 n (lit≤ tt) high c.in-text-4.is e

pub returns-in-text-5-clause-spelled : goal.returns-in-text-5-clause-spelled
unfolding digits
returns-in-text-5-clause-spelled c = c.in-text-5.is

pub returns-in-text-5-clause-found : goal.returns-in-text-5-clause-found
unfolding digits
returns-in-text-5-clause-found c = λ n low high e. same_count c.args.text.now 5 n (lit≤ tt) high c.in-text-5.is e

pub returns-in-text-6-clause-spelled : goal.returns-in-text-6-clause-spelled
unfolding digits
returns-in-text-6-clause-spelled c = c.in-text-6.is

pub returns-in-text-6-clause-found : goal.returns-in-text-6-clause-found
unfolding digits
returns-in-text-6-clause-found c = λ n low high e. same_count c.args.text.now 6 n (lit≤ tt) high c.in-text-6.is e

pub returns-in-text-7-clause-spelled : goal.returns-in-text-7-clause-spelled
unfolding digits
returns-in-text-7-clause-spelled c = c.in-text-7.is

pub returns-in-text-7-clause-found : goal.returns-in-text-7-clause-found
unfolding digits
returns-in-text-7-clause-found c = λ n low high e. same_count c.args.text.now 7 n (lit≤ tt) high c.in-text-7.is e

pub returns-in-text-8-clause-spelled : goal.returns-in-text-8-clause-spelled
unfolding digits
returns-in-text-8-clause-spelled c = c.in-text-8.is

pub returns-in-text-8-clause-found : goal.returns-in-text-8-clause-found
unfolding digits
returns-in-text-8-clause-found c = λ n low high e. same_count c.args.text.now 8 n (lit≤ tt) high c.in-text-8.is e

pub returns-in-text-9-clause-spelled : goal.returns-in-text-9-clause-spelled
unfolding digits
returns-in-text-9-clause-spelled c = c.in-text-9.is

pub returns-in-text-9-clause-found : goal.returns-in-text-9-clause-found
unfolding digits
returns-in-text-9-clause-found c = λ n low high e. same_count c.args.text.now 9 n (lit≤ tt) high c.in-text-9.is e

pub returns-in-text-10-clause-spelled : goal.returns-in-text-10-clause-spelled
unfolding digits
returns-in-text-10-clause-spelled c = c.in-text-10.is

pub returns-in-text-10-clause-found : goal.returns-in-text-10-clause-found
unfolding digits
returns-in-text-10-clause-found c = λ n low high e. same_count c.args.text.now 10 n (lit≤ tt) high c.in-text-10.is e

pub returns-in-text-11-clause-spelled : goal.returns-in-text-11-clause-spelled
unfolding digits
returns-in-text-11-clause-spelled c = c.in-text-11.is

pub returns-in-text-11-clause-found : goal.returns-in-text-11-clause-found
unfolding digits
returns-in-text-11-clause-found c = λ n low high e. same_count c.args.text.now 11 n (lit≤ tt) high c.in-text-11.is e

pub returns-in-text-12-clause-spelled : goal.returns-in-text-12-clause-spelled
unfolding digits
returns-in-text-12-clause-spelled c = c.in-text-12.is

pub returns-in-text-12-clause-found : goal.returns-in-text-12-clause-found
unfolding digits
returns-in-text-12-clause-found c = λ n low high e. same_count c.args.text.now 12 n (lit≤ tt) high c.in-text-12.is e

pub returns-in-text-13-clause-spelled : goal.returns-in-text-13-clause-spelled
unfolding digits
returns-in-text-13-clause-spelled c = c.in-text-13.is

pub returns-in-text-13-clause-found : goal.returns-in-text-13-clause-found
unfolding digits
returns-in-text-13-clause-found c = λ n low high e. same_count c.args.text.now 13 n (lit≤ tt) high c.in-text-13.is e

pub returns-in_default-clause-found : goal.returns-in_default-clause-found
unfolding digits
returns-in_default-clause-found c = λ n low high e. absurd (each_count (λ m. c.args.text.now ≡ decimal m → ⊥) c.in_default.not-text c.in_default.not-text-2 c.in_default.not-text-3 c.in_default.not-text-4 c.in_default.not-text-5 c.in_default.not-text-6 c.in_default.not-text-7 c.in_default.not-text-8 c.in_default.not-text-9 c.in_default.not-text-10 c.in_default.not-text-11 c.in_default.not-text-12 c.in_default.not-text-13 n low high e)
