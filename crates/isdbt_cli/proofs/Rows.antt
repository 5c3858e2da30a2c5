-- Worked command lines.
use Rattle.std.proofs.Common.{◌≡◌, List, [], ◌∷◌, true, false, None, Some, refl}
use Rattle.std.specs.Prelude.{codes}
use Rattle.std.specs.Fmt.{digits}
use Rattle.isdbt_base.specs.declared.kinds.Mode.TheVariants.{M1, M2, M3}
use Rattle.isdbt_base.specs.declared.kinds.Guard.TheVariants.{G4, G8, G16, G32}
use Rattle.isdbt_base.specs.declared.stream.Form.TheVariants.{V1, V2}
use Rattle.isdbt_base.specs.declared.kinds.Modulation.TheVariants.{Qpsk, Qam16, Qam64}
use Rattle.isdbt_base.specs.declared.kinds.Rate.TheVariants.{R12, R23, R34, R56, R78}
use Rattle.isdbt_base.specs.declared.kinds.DepthCode.TheVariants.{D0, D1, D2, D3}
use Rattle.isdbt_base.specs.declared.kinds.Rate.{Rate}
use Rattle.isdbt_base.specs.declared.kinds.DepthCode.{DepthCode}
use Rattle.isdbt_base.specs.Parameters.{Parameters}
use Rattle.isdbt_base.specs.Plans.{Transmission, Switch}
use Rattle.isdbt_cli.specs.CommandLines.{remux, code, receive, show_cells, SpellSwitches, SpellCommand}
use Rattle.setting_words.specs.SettingWords.{setting_word}

-- one layer
one_layer : SpellCommand (remux (record { first = record { mode = M1; guard = G4; setting = record { partial = false; a = record { segments = 13; modulation = Qpsk; rate = R12; depth = D0 }; b = None; c = None } }; switches = [] }) (codes "a.ts") None None)
    (codes "remux" ∷ codes "1" ∷ codes "1/4" ∷ codes "A:13:qpsk:1/2:0" ∷ codes "A=a.ts" ∷ [])
unfolding SpellCommand digits
one_layer = (codes "1" ∷ codes "1/4" ∷ codes "A:13:qpsk:1/2:0" ∷ [], record { behind = []; first = refl; switches = refl }, refl)

-- partial reception and a wide layer
partial_and_wide : SpellCommand (remux (record { first = record { mode = M3; guard = G8; setting = record { partial = true; a = record { segments = 1; modulation = Qpsk; rate = R23; depth = D3 }; b = Some (record { segments = 12; modulation = Qam64; rate = R34; depth = D2 }); c = None } }; switches = [] }) (codes "a") (Some (codes "b")) None)
    (codes "remux" ∷ codes "3" ∷ codes "1/8" ∷ codes "A:1:qpsk:2/3:4:partial,B:12:64qam:3/4:2" ∷ codes "A=a" ∷ codes "B=b" ∷ [])
unfolding SpellCommand digits
partial_and_wide = (codes "3" ∷ codes "1/8" ∷ codes "A:1:qpsk:2/3:4:partial,B:12:64qam:3/4:2" ∷ [], record { behind = []; first = refl; switches = refl }, refl)

-- three layers
three_layers : SpellCommand (remux (record { first = record { mode = M1; guard = G32; setting = record { partial = false; a = record { segments = 1; modulation = Qpsk; rate = R12; depth = D0 }; b = Some (record { segments = 6; modulation = Qam16; rate = R23; depth = D2 }); c = Some (record { segments = 6; modulation = Qam64; rate = R78; depth = D3 }) } }; switches = [] }) (codes "a") (Some (codes "b")) (Some (codes "c")))
    (codes "remux" ∷ codes "1" ∷ codes "1/32" ∷ codes "A:1:qpsk:1/2:0,B:6:16qam:2/3:8,C:6:64qam:7/8:16" ∷ codes "A=a" ∷ codes "B=b" ∷ codes "C=c" ∷ [])
unfolding SpellCommand digits
three_layers = (codes "1" ∷ codes "1/32" ∷ codes "A:1:qpsk:1/2:0,B:6:16qam:2/3:8,C:6:64qam:7/8:16" ∷ [], record { behind = []; first = refl; switches = refl }, refl)

-- a layer of all segments with QPSK, and two switches behind it
abbrev one : Rate → DepthCode → Parameters
one rate depth = record { partial = false; a = record { segments = 13; modulation = Qpsk; rate = rate; depth = depth }; b = None; c = None }

abbrev first : Transmission
first = record { mode = M1; guard = G4; setting = one R12 D0 }

abbrev later : List Switch
later = record { frame = 20; after = record { mode = M1; guard = G4; setting = one R34 D1 } } ∷ record { frame = 30; after = record { mode = M2; guard = G8; setting = one R34 D1 } } ∷ []

-- the first one keeps the mode, and tells it or doesn't
kept : SpellSwitches first later (codes "@20" ∷ codes "A:13:qpsk:3/4:4" ∷ codes "@30" ∷ codes "2" ∷ codes "1/8" ∷ codes "A:13:qpsk:3/4:2" ∷ [])
unfolding digits
kept = (false, codes "@30" ∷ codes "2" ∷ codes "1/8" ∷ codes "A:13:qpsk:3/4:2" ∷ [], refl, λ _. (refl, refl), (true, [], refl, λ e. absurd (cc), refl))

told : SpellSwitches first later (codes "@20" ∷ codes "1" ∷ codes "1/4" ∷ codes "A:13:qpsk:3/4:4" ∷ codes "@30" ∷ codes "2" ∷ codes "1/8" ∷ codes "A:13:qpsk:3/4:2" ∷ [])
unfolding digits
told = (true, codes "@30" ∷ codes "2" ∷ codes "1/8" ∷ codes "A:13:qpsk:3/4:2" ∷ [], refl, λ e. absurd (cc), (true, [], refl, λ e. absurd (cc), refl))

-- a coding
coding : SpellCommand (code (record { first = record { mode = M3; guard = G8; setting = record { partial = true; a = record { segments = 1; modulation = Qpsk; rate = R23; depth = D3 }; b = Some (record { segments = 12; modulation = Qam64; rate = R34; depth = D2 }); c = None } }; switches = [] }) (record { v2 = false }) (codes "x.bts"))
    (codes "code" ∷ codes "3" ∷ codes "1/8" ∷ codes "A:1:qpsk:2/3:4:partial,B:12:64qam:3/4:2" ∷ codes "IN=x.bts" ∷ [])
unfolding SpellCommand digits
coding = (codes "3" ∷ codes "1/8" ∷ codes "A:1:qpsk:2/3:4:partial,B:12:64qam:3/4:2" ∷ [], record { behind = []; first = refl; switches = refl }, refl)

-- the same switches, of which the last changes the mode: in version 2
changing : SpellCommand (code (record { first = first; switches = later }) (record { v2 = true }) (codes "x"))
    (codes "code" ∷ codes "1" ∷ codes "1/4" ∷ codes "A:13:qpsk:1/2:0" ∷ codes "@20" ∷ codes "A:13:qpsk:3/4:4" ∷ codes "@30" ∷ codes "2" ∷ codes "1/8" ∷ codes "A:13:qpsk:3/4:2"
    ∷ codes "IN=x" ∷ codes "v2" ∷ [])
unfolding SpellCommand digits
changing = (
  codes "1" ∷ codes "1/4" ∷ codes "A:13:qpsk:1/2:0" ∷ codes "@20" ∷ codes "A:13:qpsk:3/4:4" ∷ codes "@30" ∷ codes "2" ∷ codes "1/8" ∷ codes "A:13:qpsk:3/4:2" ∷ [],
  record { behind = codes "@20" ∷ codes "A:13:qpsk:3/4:4" ∷ codes "@30" ∷ codes "2" ∷ codes "1/8" ∷ codes "A:13:qpsk:3/4:2" ∷ []; first = refl; switches = kept },
  refl,
)

-- a receiving, of a stream of each version
receiving : SpellCommand (receive (record { form = V1 M2 G16; fix = false }) false (codes "x.cells")) (codes "receive" ∷ codes "2" ∷ codes "1/16" ∷ codes "IN=x.cells" ∷ [])
unfolding SpellCommand
receiving = refl

receiving_heads : SpellCommand (receive (record { form = V2; fix = false }) false (codes "x.cells")) (codes "receive" ∷ codes "IN=x.cells" ∷ [])
unfolding SpellCommand
receiving_heads = refl

-- in part, with words corrected; and a listing
receiving_part : SpellCommand (receive (record { form = V2; fix = true }) true (codes "x.cells")) (codes "receive" ∷ codes "IN=x.cells" ∷ codes "partial" ∷ codes "fix" ∷ [])
unfolding SpellCommand
receiving_part = refl

listing : SpellCommand (show_cells (record { form = V1 M1 G4; fix = true }) (codes "x.cells")) (codes "show" ∷ codes "cells" ∷ codes "1" ∷ codes "1/4" ∷ codes "IN=x.cells" ∷ codes "fix" ∷ [])
unfolding SpellCommand
listing = refl

-- the same lengths of time interleaving in mode 2
mode_2 : setting_word M2 (record { partial = false; a = record { segments = 6; modulation = Qam64; rate = R56; depth = D3 }; b = Some (record { segments = 7; modulation = Qpsk; rate = R12; depth = D1 }); c = None })
    ≡ codes "A:6:64qam:5/6:8,B:7:qpsk:1/2:2"
unfolding digits
mode_2 = refl
