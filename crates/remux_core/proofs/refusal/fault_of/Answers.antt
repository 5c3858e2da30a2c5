use Rattle.std.proofs.Common.{◌≡◌, ◌∙◌, List, ℕ, None, subst}
use Rattle.std.specs.Option.{option_or}
use Rattle.isdbt_base.specs.declared.kinds.Layer.TheVariants.{A, B, C}
use Rattle.edge_io.specs.declared.shelf.Seat.TheVariants as seats
use Rattle.remux_core.specs.PacketFaults.{cut_fault, sync_fault}
use Rattle.remux_core.specs.Parts.{Says}
use Rattle.remux_core.proofs.PacketFaults.{of_all}
use Rattle.remux_core.proofs.Refusing.{refusal-read, all_good, all_layers}
use Rattle.remux_core.proofs.refusal.fault_of.Goals as goal

pub returns-clause-refusal : goal.returns-clause-refusal
returns-clause-refusal c = λ p input limit f less first read.
    let chain : c.or-5.result ≡ option_or (option_or (option_or (option_or (option_or (cut_fault seats.A c.check_packets-a.result) (cut_fault seats.B c.check_packets-b.result)) (cut_fault seats.C c.check_packets-c.result)) (sync_fault seats.A c.args.inputs.now.a.first c.check_packets-a.result)) (sync_fault seats.B c.args.inputs.now.b.first c.check_packets-b.result)) (sync_fault seats.C c.args.inputs.now.c.first c.check_packets-c.result) = cc in
    chain
    ∙ refusal-read p input limit f c.args.inputs.now c.check_packets-a.result c.check_packets-b.result c.check_packets-c.result less
    (record { first = first A; read = read A; says = subst (λ (xs : List ℕ). Says xs c.check_packets-a.result) c.part.ensures.value c.check_packets-a.ensures })
    (record { first = first B; read = read B; says = subst (λ (xs : List ℕ). Says xs c.check_packets-b.result) c.part-2.ensures.value c.check_packets-b.ensures })
    (record { first = first C; read = read C; says = subst (λ (xs : List ℕ). Says xs c.check_packets-c.result) c.part-3.ensures.value c.check_packets-c.ensures })

pub returns-clause-kind : goal.returns-clause-kind
returns-clause-kind c = of_all c.check_packets-a.result c.check_packets-b.result c.check_packets-c.result c.args.inputs.now.a.first c.args.inputs.now.b.first c.args.inputs.now.c.first c.or-5.result cc

pub returns-clause-good : goal.returns-clause-good
returns-clause-good c = λ none.
    let chain : option_or (option_or (option_or (option_or (option_or (cut_fault seats.A c.check_packets-a.result) (cut_fault seats.B c.check_packets-b.result)) (cut_fault seats.C c.check_packets-c.result)) (sync_fault seats.A c.args.inputs.now.a.first c.check_packets-a.result)) (sync_fault seats.B c.args.inputs.now.b.first c.check_packets-b.result)) (sync_fault seats.C c.args.inputs.now.c.first c.check_packets-c.result) ≡ None = cc in
    let good = all_good _ _ _ c.check_packets-a.result c.check_packets-b.result c.check_packets-c.result c.args.inputs.now.a.first c.args.inputs.now.b.first c.args.inputs.now.c.first
    (subst (λ (xs : List ℕ). Says xs c.check_packets-a.result) c.part.ensures.value c.check_packets-a.ensures)
    (subst (λ (xs : List ℕ). Says xs c.check_packets-b.result) c.part-2.ensures.value c.check_packets-b.ensures)
    (subst (λ (xs : List ℕ). Says xs c.check_packets-c.result) c.part-3.ensures.value c.check_packets-c.ensures) chain in
    all_layers c.args.inputs.now good.0 good.1 good.2
