-- Reading TMCC words (ARIB STD-B31 chapter 3).
use Rattle.std.specs.Prelude.{ℕ, ◌+◌, Bool, true, false, not, ◌&&◌, if◌then◌else◌, ◌==◌, nat_le, Option, Some, None, Result, Ok, Err, List, slice_range, slice_index_or}
use Rattle.isdbt_base.specs.declared.kinds.Modulation.{Modulation}
use Rattle.isdbt_base.specs.declared.kinds.Modulation.TheVariants.{Qpsk, Qam16, Qam64}
use Rattle.isdbt_base.specs.declared.kinds.Rate.{Rate}
use Rattle.isdbt_base.specs.declared.kinds.Rate.TheVariants.{R12, R23, R34, R56, R78}
use Rattle.isdbt_base.specs.declared.kinds.DepthCode.{DepthCode}
use Rattle.isdbt_base.specs.declared.kinds.DepthCode.TheVariants.{D0, D1, D2, D3}
use Rattle.isdbt_base.specs.declared.kinds.Layer.TheVariants.{A, B, C}
use Rattle.isdbt_base.specs.Bits.{bits_number}
use Rattle.isdbt_base.specs.LayerParameters.{LayerParameters}
use Rattle.isdbt_base.specs.Parameters.{Parameters, layer_sum}
use Rattle.tmcc_word.specs.declared.fault.TmccFault.{TmccFault}
use Rattle.tmcc_word.specs.declared.fault.TmccFault.TheVariants as faults
use Rattle.tmcc_word.specs.declared.layer_bits.LayerBits.{LayerBits}
use Rattle.tmcc_word.specs.declared.layer_bits.LayerBits.TheVariants.{Unused, Used, Refused}
use Rattle.tmcc_word.specs.Fields.{TmccFields}
use Rattle.tmcc_word.specs.CyclicCode.{remainder}
use Rattle.tmcc_word.specs.Words.{sync_code}

-- the number that so many bits of a word from a bit on spell
abbrev pub field : List Bool → ℕ → ℕ → ℕ
field word from width = bits_number (slice_range word from (from + width))

-- a bit of a word
abbrev pub flag : List Bool → ℕ → Bool
flag word at = slice_index_or word at false

-- what a sync word means, if anything: whether the frame is odd
abbrev pub odd_in : ℕ → Option Bool
odd_in n = if n == sync_code false then Some false else if n == sync_code true then Some true else None

-- the modulation of a code, if it has a meaning
abbrev pub modulation_in : ℕ → Option Modulation
modulation_in n = if n == 1 then Some Qpsk else if n == 2 then Some Qam16 else if n == 3 then Some Qam64 else None

-- the inner rate of a code, if it has a meaning
abbrev pub rate_in : ℕ → Option Rate
rate_in n = if n == 0 then Some R12 else if n == 1 then Some R23 else if n == 2 then Some R34 else if n == 3 then Some R56 else if n == 4 then Some R78 else None

-- the time interleaving length of a code, if it has a meaning
abbrev pub depth_in : ℕ → Option DepthCode
depth_in n = if n == 0 then Some D0 else if n == 1 then Some D1 else if n == 2 then Some D2 else if n == 3 then Some D3 else None

-- a layer of these codes is used where each has a meaning and the segments are 1 to 13, and else is refused
abbrev pub layer_of_codes : ℕ → Option Modulation → Option Rate → Option DepthCode → LayerBits
layer_of_codes n (Some m) (Some r) (Some d) = if nat_le 1 n && nat_le n 13 then Used (record { segments = n; modulation = m; rate = r; depth = d }) else Refused
layer_of_codes n None r d = Refused
layer_of_codes n (Some m) None d = Refused
layer_of_codes n (Some m) (Some r) None = Refused

-- what the 13 bits of a layer say that begin at a bit: modulation, inner rate, time interleaving length, segments
unfoldable pub layer_field_at : List Bool → ℕ → LayerBits
layer_field_at word at =
    if field word at 3 == 7 then Unused
    else layer_of_codes (field word (at + 9) 4) (modulation_in (field word at 3)) (rate_in (field word (at + 3) 3)) (depth_in (field word (at + 6) 3))

-- a setting of 13 segments, or their sum
abbrev pub of_13_segments : Parameters → Result Parameters TmccFault
of_13_segments s = let sum = layer_sum (λ l. l.segments) s in if sum == 13 then Ok s else Err (faults.Segments sum)

-- the setting that layer A and the bits of B and C give, or the first cause of refusal
abbrev pub setting_with_a : Bool → LayerParameters → LayerBits → LayerBits → Result Parameters TmccFault
setting_with_a partial a (Used b) (Used c) = of_13_segments (record { partial = partial; a = a; b = Some b; c = Some c })
setting_with_a partial a (Used b) Unused = of_13_segments (record { partial = partial; a = a; b = Some b; c = None })
setting_with_a partial a Unused Unused = of_13_segments (record { partial = partial; a = a; b = None; c = None })
setting_with_a partial a (Used b) Refused = Err (faults.LayerField C)
setting_with_a partial a Unused (Used c) = Err (faults.LayerField B)
setting_with_a partial a Unused Refused = Err (faults.LayerField B)
setting_with_a partial a Refused c = Err (faults.LayerField B)

-- the setting that a partial reception flag and the bits of three layers give, or the first cause of refusal
abbrev pub setting_of : Bool → LayerBits → LayerBits → LayerBits → Result Parameters TmccFault
setting_of partial (Used a) b c = if partial && not (a.segments == 1) then Err (faults.LayerField A) else setting_with_a partial a b c
setting_of partial Unused b c = Err (faults.LayerField A)
setting_of partial Refused b c = Err (faults.LayerField A)

-- the setting whose 40 bits begin at a bit
unfoldable pub setting_at : List Bool → ℕ → Result Parameters TmccFault
setting_at word at = setting_of (flag word at) (layer_field_at word (at + 1)) (layer_field_at word (at + 14)) (layer_field_at word (at + 27))

-- the value of a result, if there is one
abbrev pub ok_part : {X E : Type 0} → Result X E → Option X
ok_part (Ok x) = Some x
ok_part (Err e) = None

-- what the information says that begins at a bit and whose setting is read so
abbrev pub with_now : List Bool → ℕ → Result Parameters TmccFault → Result TmccFields TmccFault
with_now word at (Err e) = Err e
with_now word at (Ok s) = Ok (record { start_up = flag word (at + 6); countdown = field word (at + 2) 4; now = s; next = ok_part (setting_at word (at + 47)) })

-- what the information says whose 102 bits begin at a bit, or the first cause of refusal
unfoldable pub info_at : List Bool → ℕ → Result TmccFields TmccFault
info_at word at = if not (field word at 2 == 0) then Err faults.System else with_now word at (setting_at word (at + 7))

-- what a word says whose information is read so
abbrev pub with_info : Bool → Result TmccFields TmccFault → Result (TmccFields × Bool) TmccFault
with_info odd (Err e) = Err e
with_info odd (Ok i) = Ok (i, odd)

-- what a word says whose sync word is read so
abbrev pub with_sync : List Bool → Option Bool → Result (TmccFields × Bool) TmccFault
with_sync word None = Err faults.Sync
with_sync word (Some odd) =
    if not (field word 17 3 == 0) then Err faults.SegmentType
    else if not (remainder 102 (field word 20 184) == 0) then Err faults.Parity
    else with_info odd (info_at word 20)

-- what a word says and whether its frame is odd, or the first cause of refusal
unfoldable pub read : List Bool → Result (TmccFields × Bool) TmccFault
read word = with_sync word (odd_in (field word 1 16))
