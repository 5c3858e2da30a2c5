-- Accepted settings that have the same bits in a word are equal.
use Rattle.std.proofs.Common.{◌≡◌, true, ap, sym, ◌∙◌, Ok, Result, Err, [], append-nil}
use Rattle.std.proofs.lemmas.Bool.{eqb-true}
use Rattle.isdbt_base.specs.Bits.{bits_number, number_bits}
use Rattle.isdbt_base.specs.Parameters.{Parameters, IsAccepted}
use Rattle.tmcc_word.specs.declared.fault.TmccFault.{TmccFault}
use Rattle.tmcc_word.specs.Words.{setting_field}
use Rattle.tmcc_word.specs.Reading.{setting_at}
use Rattle.tmcc_word.proofs.Numbers.{number_bits-number}
use Rattle.tmcc_word.proofs.ReadBack.{length-setting_field, setting-stands}
use Rattle.seg_receiver.specs.ReceiveRefusals.{same_setting}

abbrev or_else : Parameters → Result Parameters TmccFault → Parameters
or_else t (Ok s) = s
or_else t (Err e) = t

field-40 : (s : Parameters) → number_bits 40 (bits_number (setting_field s)) ≡ setting_field s
field-40 s = ap (λ w. number_bits w (bits_number (setting_field s))) (sym (length-setting_field s)) ∙ number_bits-number (setting_field s)

at-start : (s : Parameters) → IsAccepted s → setting_at (setting_field s) 0 ≡ Ok s
at-start s h = setting-stands (setting_field s) 0 s h (record { rest = []; here = sym (append-nil (setting_field s)) })

pub same-equal : (s u : Parameters) → IsAccepted s → IsAccepted u → same_setting s u ≡ true → s ≡ u
same-equal s u h k same =
    let fields : setting_field s ≡ setting_field u = sym (field-40 s) ∙ ap (number_bits 40) (eqb-true (bits_number (setting_field s)) (bits_number (setting_field u)) same) ∙ field-40 u in
    ap (or_else s) (sym (at-start s h) ∙ ap (λ w. setting_at w 0) fields ∙ at-start u k)
