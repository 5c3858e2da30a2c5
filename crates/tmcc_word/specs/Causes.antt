-- Why the information of a word is refused.
use Rattle.tmcc_word.specs.declared.fault.TmccFault.{TmccFault}
use Rattle.tmcc_word.specs.declared.fault.TmccFault.TheVariants.{Sync, SegmentType, Parity, System, LayerField, Segments}

-- the causes of refusal that are sought in the information: those of the rest of the word are not among them
abbrev pub IsOfInformation : TmccFault → Type 0
IsOfInformation Sync = ⊥
IsOfInformation SegmentType = ⊥
IsOfInformation Parity = ⊥
IsOfInformation System = Unit {0}
IsOfInformation (LayerField layer) = Unit {0}
IsOfInformation (Segments sum) = Unit {0}
