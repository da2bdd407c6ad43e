-- What is written at least once.
use Rattle.std.specs.Prelude.{◌≤◌, length, ⊤}
use Rattle.sd_lex.specs.PlainTree.{StatementTree, local_array, map_scope}
use Rattle.sd_program.specs.Place.{length_of}

-- an array that is declared has an extent, and a map a parameter
abbrev pub HasParts : StatementTree → Type 0
HasParts (local_array line name extents bits) = 1 ≤ length_of extents
HasParts (map_scope line parameters ranges body) = 1 ≤ length parameters
HasParts statement = ⊤
