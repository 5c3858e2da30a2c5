-- The faults of packets.
use Rattle.std.proofs.Common.{◌≡◌, ℕ, None, Some, IfSome, refl, sym, subst}
use Rattle.std.specs.declared.option.Option.{Option}
use Rattle.std.specs.Option.{option_or}
use Rattle.edge_io.specs.declared.shelf.Seat.{Seat}
use Rattle.edge_io.specs.declared.shelf.Seat.TheVariants as seats
use Rattle.remux_core.specs.declared.fault.RemuxFault.{RemuxFault}
use Rattle.remux_core.specs.declared.packets.Part.{Part}
use Rattle.remux_core.specs.declared.packets.Part.TheVariants.{Good, NoSync, Cut}
use Rattle.remux_core.specs.PacketFaults.{cut_fault, sync_fault, OfPackets}

either : (a b : Option RemuxFault) → IfSome a OfPackets → IfSome b OfPackets → IfSome (option_or a b) OfPackets
either None b ka kb = kb
either (Some fault) b ka kb = ka

of_cut : (seat : Seat) (part : Part) → IfSome (cut_fault seat part) OfPackets
of_cut seat Good = tt
of_cut seat (NoSync i) = tt
of_cut seat (Cut over) = refl

of_sync : (seat : Seat) (first : ℕ) (part : Part) → IfSome (sync_fault seat first part) OfPackets
of_sync seat first Good = tt
of_sync seat first (NoSync i) = refl
of_sync seat first (Cut over) = tt

-- whatever is found first
pub of_all : (pa pb pc : Part) (na nb nc : ℕ) (found : Option RemuxFault) →
    found ≡ option_or (option_or (option_or (option_or (option_or (cut_fault seats.A pa) (cut_fault seats.B pb)) (cut_fault seats.C pc)) (sync_fault seats.A na pa)) (sync_fault seats.B nb pb)) (sync_fault seats.C nc pc) → IfSome found OfPackets
of_all pa pb pc na nb nc found is =
    let a = cut_fault seats.A pa in
    let b = cut_fault seats.B pb in
    let c = cut_fault seats.C pc in
    let d = sync_fault seats.A na pa in
    let e = sync_fault seats.B nb pb in
    let f = sync_fault seats.C nc pc in
    let ab = either a b (of_cut seats.A pa) (of_cut seats.B pb) in
    let abc = either (option_or a b) c ab (of_cut seats.C pc) in
    let abcd = either (option_or (option_or a b) c) d abc (of_sync seats.A na pa) in
    let abcde = either (option_or (option_or (option_or a b) c) d) e abcd (of_sync seats.B nb pb) in
    subst (λ o. IfSome o OfPackets) (sym is) (either (option_or (option_or (option_or (option_or a b) c) d) e) f abcde (of_sync seats.C nc pc))
