use Rattle.std.proofs.Common.{◌≡◌, drop}
use Rattle.sd_lex.specs.TreeFold.{block_of}
use Rattle.sd_elab.specs.elab.Elaboration.{arguments_in_force}
use Rattle.sd_elab.proofs.elab.function.push_arguments.Given as goal

abbrev pub invariant-loop-argument : goal.invariant-loop-argument
invariant-loop-argument l = arguments_in_force (block_of (drop l.argument-index l.arguments)) l.next l.containers ≡ arguments_in_force (block_of l.arguments) 0 l.initial.containers
