use Rattle.std.proofs.Common.{◌≡◌, drop, map}
use Rattle.sd_lex.specs.TreeFold.{call_argument_of}
use Rattle.sd_source.specs.nodes.Names.{noted_own}
use Rattle.sd_source.specs.nodes.SourceItems.{given}
use Rattle.sd_source.proofs.nodes.call.note_given.Given as goal

-- what is noted so far with what is left of both
abbrev pub invariant-loop-parameter : goal.invariant-loop-parameter
invariant-loop-parameter l = noted_own l.own l.names (given l.access (drop l.parameter-index l.parameters) (map call_argument_of l.left)) ≡ noted_own l.own l.initial.names (given l.access l.parameters (map call_argument_of l.arguments))
