use Rattle.energy_prbs.proofs.RegisterLaws.{byte_from-sequence, register_after-bits, register_after-lt}
use Rattle.energy_prbs.proofs.prbs.Prbs.next_byte.Goals as goal

pub returns-clause-byte : goal.returns-clause-byte
returns-clause-byte c = λ n state. byte_from-sequence c.args.self.now.register n state.bits

pub returns-clause-state : goal.returns-clause-state
returns-clause-state c = λ n state.
    let r = c.args.self.now.register in
    rw c.from.ensures (record { bits = register_after-bits r n state.bits; only = register_after-lt r })
