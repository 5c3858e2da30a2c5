use Rattle.std.proofs.Common.{◌≡◌, ◌+◌, ◌*◌, ◌∙◌, ap, arith}
use Rattle.viterbi_hard.specs.States.{place_of}
use Rattle.viterbi_hard.specs.Steps.{read_of}
use Rattle.viterbi_hard.proofs.StateLaws.{read_number}
use Rattle.viterbi_hard.proofs.received.number.Goals as goal

pub returns : goal.returns
returns c =
    let is : 4 * c.place.result + c.place-2.result ≡ 4 * place_of c.args.received.x + place_of c.args.received.y = omega (arith, c.place.ensures.row, c.place-2.ensures.row) in
    ap read_of is ∙ read_number c.args.received
