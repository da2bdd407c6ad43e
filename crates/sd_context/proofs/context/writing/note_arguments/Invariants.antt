use Rattle.std.proofs.Common.{◌≡◌, drop, map}
use Rattle.sd_lex.specs.TreeFold.{call_argument_of}
use Rattle.sd_context.specs.context.Writing as writing
use Rattle.sd_context.proofs.context.writing.note_arguments.Given as goal

-- what is left decides
abbrev pub invariant-loop-name : goal.invariant-loop-name
invariant-loop-name l = writing.noted_all l.written (writing.written_arguments (map call_argument_of (drop l.name-index l.arguments)) l.left) ≡ writing.noted_all l.initial.written (writing.written_arguments (map call_argument_of l.arguments) l.parameters)
