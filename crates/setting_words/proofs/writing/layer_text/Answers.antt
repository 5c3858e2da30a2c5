use Rattle.std.proofs.Common.{arith, ap, length}
use Rattle.setting_words.proofs.Numbers.{two_digits}
use Rattle.setting_words.proofs.writing.layer_text.Goals as goal

pub returns-clause-short : goal.returns-clause-short
returns-clause-short c =
    let count = c.segments.ensures.value in
    let few = c.segments.ensures.range.1 in
    let low = c.depth_of.ensures.most in
    let segments = two_digits c.format.result.now c.segments.result c.format.ensures.text (omega (arith, count, few)) in
    let depth = two_digits c.format-2.result.now c.depth_of.result c.format-2.ensures.text (omega (arith, low)) in
    let modulation = c.modulation_text.ensures.short in
    let rate = c.rate_text.ensures.short in
    let l0 = ap length c.new-text.ensures in
    let l1 = c.push_str.ensures.len in
    let l2 = c.push_str-2.ensures.len in
    let l3 = c.push_str-3.ensures.len in
    let l4 = c.push_str-4.ensures.len in
    let l5 = c.push_str-5.ensures.len in
    let l6 = c.push_str-6.ensures.len in
    let l7 = c.push_str-7.ensures.len in
    omega (arith, segments, depth, modulation, rate, l0, l1, l2, l3, l4, l5, l6, l7)
