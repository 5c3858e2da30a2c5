use Rattle.std.proofs.Common.{◌≡◌, ◌+◌, ◌*◌, ◌<◌, set, ap, sym, ◌∙◌, subst, arith}
use Rattle.isdbt_base.specs.Numbers.{carriers}
use Rattle.segment_spread.specs.Spreading.{gathered_number, cell_at, AreSpread}
use Rattle.segment_spread.proofs.NumberLaws.{number-lt}
use Rattle.segment_spread.proofs.Moving.{spread-more}
use Rattle.segment_spread.proofs.spreading.spread_segment.Goals as goal

pub loop-carrier-preserved : goal.loop-carrier-preserved
loop-carrier-preserved c =
    let partial = c.args.partial in
    let mode = c.args.mode in
    let segment = c.args.segment in
    let cells = c.args.cells.now in
    let out = c.loop-carrier.out in
    let carrier = c.loop-carrier.carrier in
    let size = c.carriers-size.ensures.value in
    let at = segment * carriers mode + carrier in
    let end = segment * carriers mode + (carrier + 1) in
    let within : carrier < carriers mode = subst (λ n. carrier < n) size c.loop-carrier-test.true in
    let below = number-lt mode segment carrier c.requires.segment within in
    let to : segment * c.carriers-size.result + carrier ≡ at = ap (λ n. segment * n + carrier) size in
    let from : c.gathered_number-from.result ≡ gathered_number partial mode at = c.gathered_number-from.ensures.value mode size ∙ ap (gathered_number partial mode) to in
    subst (λ n. AreSpread partial mode cells (set out (segment * c.carriers-size.result + carrier) (cell_at cells n)) end) (sym from)
    (subst (λ n. AreSpread partial mode cells (set out n (cell_at cells (gathered_number partial mode at))) end) (sym to)
    (spread-more partial mode cells out at end below (omega arith) (omega arith) c.loop-carrier.invariant))
