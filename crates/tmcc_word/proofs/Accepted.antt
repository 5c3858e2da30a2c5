-- A word that is read has accepted settings.
use Rattle.std.proofs.Common.{◌≡◌, ℕ, ◌+◌, ◌-◌, ◌^◌, ◌≤◌, ◌<◌, Bool, true, false, cond, refl, ap, arith, subst, inl, inr, Option, Some, None, Ok, Err, Result, List, length, take, drop, lit<}
use Rattle.std.specs.Prelude.{not, ◌&&◌, ◌==◌, nat_le}
use Rattle.std.proofs.Math.Nat.{pow-le-pow_right}
use Rattle.std.proofs.lemmas.List.{length-take}
use Rattle.std.proofs.lemmas.Bool.{cases_Bool, and_parts, leb-true, eqb-true, cond_both, not-false}
use Rattle.std.proofs.lemmas.Bool.Decides.{eqb_tells}
use Rattle.isdbt_base.specs.declared.kinds.Modulation.{Modulation}
use Rattle.isdbt_base.specs.declared.kinds.Rate.{Rate}
use Rattle.isdbt_base.specs.declared.kinds.DepthCode.{DepthCode}
use Rattle.isdbt_base.specs.LayerParameters.{LayerParameters, HasSegments}
use Rattle.isdbt_base.specs.Parameters.{Parameters, IsAccepted, HasSegmentsIfUsed, HasNoGap, layer_sum}
use Rattle.isdbt_base.proofs.BitLaws.{bits_number-lt}
use Rattle.tmcc_word.specs.declared.fault.TmccFault.{TmccFault}
use Rattle.tmcc_word.specs.declared.fault.TmccFault.TheVariants as faults
use Rattle.tmcc_word.specs.declared.layer_bits.LayerBits.{LayerBits}
use Rattle.tmcc_word.specs.declared.layer_bits.LayerBits.TheVariants.{Unused, Used, Refused}
use Rattle.tmcc_word.specs.Fields.{TmccFields, FitsWord, IsAcceptedIfAny}
use Rattle.tmcc_word.specs.CyclicCode.{remainder}
use Rattle.tmcc_word.specs.Reading.{field, flag, odd_in, modulation_in, rate_in, depth_in, layer_of_codes, layer_field_at, of_13_segments, setting_with_a, setting_of, setting_at, ok_part, with_now, info_at, with_info, with_sync, read}

-- a layer that is used has segments
IsFine : LayerBits → Type 0
IsFine Unused = Unit {0}
IsFine (Used l) = HasSegments l
IsFine Refused = Unit {0}

layer_of_codes-fine : (n : ℕ) (m : Option Modulation) (r : Option Rate) (d : Option DepthCode) → IsFine (layer_of_codes n m r d)
unfolding IsFine
layer_of_codes-fine n None r d = tt
layer_of_codes-fine n (Some m) None d = tt
layer_of_codes-fine n (Some m) (Some r) None = tt
layer_of_codes-fine n (Some m) (Some r) (Some d) =
    cond_both (nat_le 1 n && nat_le n 13) (Used (record { segments = n; modulation = m; rate = r; depth = d })) Refused IsFine
    (λ e. let parts = and_parts (nat_le 1 n) (nat_le n 13) e in (leb-true 1 n parts.0, leb-true n 13 parts.1)) (λ e. tt)

layer_field_at-fine : (word : List Bool) (at : ℕ) → IsFine (layer_field_at word at)
unfolding IsFine layer_field_at
layer_field_at-fine word at =
    let n = field word (at + 9) 4 in
    let m = modulation_in (field word at 3) in
    let r = rate_in (field word (at + 3) 3) in
    let d = depth_in (field word (at + 6) 3) in
    cond_both (field word at 3 == 7) Unused (layer_of_codes n m r d) IsFine (λ e. tt) (λ e. layer_of_codes-fine n m r d)

of_13_segments-accepted : (u s : Parameters) → HasSegments u.a → HasSegmentsIfUsed u.b → HasSegmentsIfUsed u.c → HasNoGap u.b u.c → (u.partial ≡ true → u.a.segments ≡ 1) → of_13_segments u ≡ Ok s → IsAccepted s
of_13_segments-accepted u s a b c gap partial e =
    elim (eqb_tells (layer_sum (λ l. l.segments) u) 13) [
      | inl is ↦ (let f = rw is.0 at e in let same : u ≡ s = cc in
          subst IsAccepted same (record { a_segments = a; b_segments = b; c_segments = c; segments = is.1; no_gap = gap; partial = partial }))
      | inr isnt ↦ (let f = rw isnt.0 at e in cc)
    ]

setting_with_a-accepted : (partial : Bool) (a : LayerParameters) (b c : LayerBits) (s : Parameters) → HasSegments a → IsFine b → IsFine c → (partial ≡ true → a.segments ≡ 1) → setting_with_a partial a b c ≡ Ok s → IsAccepted s
unfolding IsFine
setting_with_a-accepted partial a Refused c s fa fb fc fit e = cc
setting_with_a-accepted partial a Unused Refused s fa fb fc fit e = cc
setting_with_a-accepted partial a Unused (Used c) s fa fb fc fit e = cc
setting_with_a-accepted partial a Unused Unused s fa fb fc fit e = of_13_segments-accepted (record { partial = partial; a = a; b = None; c = None }) s fa tt tt tt fit e
setting_with_a-accepted partial a (Used b) Refused s fa fb fc fit e = cc
setting_with_a-accepted partial a (Used b) Unused s fa fb fc fit e = of_13_segments-accepted (record { partial = partial; a = a; b = Some b; c = None }) s fa fb tt tt fit e
setting_with_a-accepted partial a (Used b) (Used c) s fa fb fc fit e = of_13_segments-accepted (record { partial = partial; a = a; b = Some b; c = Some c }) s fa fb fc tt fit e

one_fits : (partial : Bool) (n : ℕ) → (partial && not (n == 1)) ≡ false → partial ≡ true → n ≡ 1
one_fits true n e h = eqb-true n 1 (not-false (n == 1) e)
one_fits false n e h = cc

setting_of-accepted : (partial : Bool) (a b c : LayerBits) (s : Parameters) → IsFine a → IsFine b → IsFine c → setting_of partial a b c ≡ Ok s → IsAccepted s
unfolding IsFine
setting_of-accepted partial Refused b c s fa fb fc e = cc
setting_of-accepted partial Unused b c s fa fb fc e = cc
setting_of-accepted partial (Used a) b c s fa fb fc e =
    elim (cases_Bool (partial && not (a.segments == 1))) [
      | inl is ↦ (let f = rw is at e in cc)
      | inr isnt ↦ (let f = rw isnt at e in setting_with_a-accepted partial a b c s fa fb fc (one_fits partial a.segments isnt) f)
    ]

pub setting_at-accepted : (word : List Bool) (at : ℕ) (s : Parameters) → setting_at word at ≡ Ok s → IsAccepted s
unfolding setting_at
setting_at-accepted word at s e = setting_of-accepted (flag word at) (layer_field_at word (at + 1)) (layer_field_at word (at + 14)) (layer_field_at word (at + 27)) s (layer_field_at-fine word (at + 1)) (layer_field_at-fine word (at + 14)) (layer_field_at-fine word (at + 27)) e

ok_part-accepted : (r : Result Parameters TmccFault) → ((s : Parameters) → r ≡ Ok s → IsAccepted s) → IsAcceptedIfAny (ok_part r)
ok_part-accepted (Ok s) h = h s refl
ok_part-accepted (Err e) h = tt

countdown-lt : (word : List Bool) (at : ℕ) → field word at 4 < 16
countdown-lt word at =
    let bits = take (at + 4 - at) (drop at word) in
    let size = length-take (at + 4 - at) (drop at word) in
    let few : length bits ≤ 4 = omega (arith, size) in
    let least : 2 ^ length bits ≤ 2 ^ 4 = pow-le-pow_right (lit< tt) few in
    let most = bits_number-lt (length bits) bits refl in
    omega (arith, least, most)

fields-fit : (word : List Bool) (at : ℕ) (s : Parameters) → IsAccepted s → FitsWord (record { start_up = flag word (at + 6); countdown = field word (at + 2) 4; now = s; next = ok_part (setting_at word (at + 47)) })
fields-fit word at s h = record {
  countdown = countdown-lt word (at + 2);
  now = h;
  next = ok_part-accepted (setting_at word (at + 47)) (setting_at-accepted word (at + 47));
}

not_refused : {X F : Type 0} (b : Bool) (fault : F) (r : Result X F) (x : X) → cond b (Err fault) r ≡ Ok x → r ≡ Ok x
not_refused true fault r x e = cc
not_refused false fault r x e = e

fields_of : TmccFields → Result TmccFields TmccFault → TmccFields
fields_of i (Ok j) = j
fields_of i (Err fault) = i

with_now-fits : (word : List Bool) (at : ℕ) (r : Result Parameters TmccFault) (i : TmccFields) → ((s : Parameters) → r ≡ Ok s → IsAccepted s) → with_now word at r ≡ Ok i → FitsWord i
unfolding fields_of
with_now-fits word at (Err fault) i h e = cc
with_now-fits word at (Ok s) i h e = subst FitsWord (ap (fields_of i) e) (fields-fit word at s (h s refl))

-- what is read of 102 bits of information fits a word
pub info-fits : (word : List Bool) (at : ℕ) (i : TmccFields) → info_at word at ≡ Ok i → FitsWord i
unfolding info_at
info-fits word at i e =
    with_now-fits word at (setting_at word (at + 7)) i (setting_at-accepted word (at + 7)) (not_refused (not (field word at 2 == 0)) faults.System _ i e)

with_info-is : (odd : Bool) (r : Result TmccFields TmccFault) (i : TmccFields × Bool) → with_info odd r ≡ Ok i → r ≡ Ok i.0
with_info-is odd (Err fault) i e = cc
with_info-is odd (Ok j) i e = cc

with_sync-fits : (word : List Bool) (o : Option Bool) (i : TmccFields × Bool) → with_sync word o ≡ Ok i → FitsWord i.0
with_sync-fits word None i e = cc
with_sync-fits word (Some odd) i e =
    info-fits word 20 i.0
    (with_info-is odd (info_at word 20) i
    (not_refused (not (remainder 102 (field word 20 184) == 0)) faults.Parity _ i
    (not_refused (not (field word 17 3 == 0)) faults.SegmentType _ i e)))

-- what is read of a word fits a word
pub read-fits : (word : List Bool) (i : TmccFields × Bool) → read word ≡ Ok i → FitsWord i.0
unfolding read
read-fits word i e = with_sync-fits word (odd_in (field word 1 16)) i e
