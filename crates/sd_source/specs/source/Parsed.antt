-- What a source has come to, as that of the definition.
use Rattle.std.specs.Prelude.{Result, Ok, Err}
use Rattle.sd_lex.specs.declared.syntax.program.Program.{Program}
use Rattle.sd_lex.specs.PlainTree.{ProgramTree}
use Rattle.sd_lex.specs.TreeFold.{program_of}
use Rattle.sd_context.specs.declared.blocks.refusal.Refusal.{Refusal}

abbrev pub parsed : Result Program Refusal → Result ProgramTree Refusal
parsed (Ok program) = Ok (program_of program)
parsed (Err refusal) = Err refusal
