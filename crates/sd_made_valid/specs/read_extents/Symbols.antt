-- Arrays whose extents name size symbols.
use Rattle.std.specs.Prelude.{List, ⊤}
use Rattle.sd_lex.specs.PlainTree.{StatementTree, argument_array, local_array}
use Rattle.sd_program.specs.Names.{Name}
use Rattle.sd_made_valid.specs.read_shapes.Fits.{extents_written, AreExtents}

-- the extents of an array that a statement declares are affine expressions of these size symbols
abbrev pub NamesSymbols : (symbols : List Name) → StatementTree → Type 0
NamesSymbols symbols (argument_array line name bits extents) = AreExtents symbols (extents_written extents)
NamesSymbols symbols (local_array line name extents bits) = AreExtents symbols (extents_written extents)
NamesSymbols symbols statement = ⊤
