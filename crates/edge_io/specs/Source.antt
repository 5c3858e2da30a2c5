-- What a source has left.
use Rattle.std.specs.Prelude.{ℕ, List, None, Some}
use Rattle.std.specs.declared.option.Option.{Option}
use Rattle.edge_io.specs.declared.file_shelf.Source.{Source}
use Rattle.edge_io.specs.declared.file_shelf.Source.TheVariants.{File, Standard}

-- what the file or standard input tells of what it has left
abbrev pub source_left : {F I : Type 0} → (F → Option (List ℕ)) → (I → Option (List ℕ)) → Option (Source F I) → Option (List ℕ)
source_left file_left standard_left None = None
source_left file_left standard_left (Some (File file)) = file_left file
source_left file_left standard_left (Some (Standard input)) = standard_left input
