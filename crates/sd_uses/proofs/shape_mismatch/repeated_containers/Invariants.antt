use Rattle.std.proofs.Common.{◌≡◌, [], drop, map}
use Rattle.sd_lex.specs.TreeFold.{call_argument_of}
use Rattle.sd_names.proofs.NameLemmas.{repeated_from}
use Rattle.sd_uses.specs.ShapeMismatch.{containers_of}
use Rattle.sd_uses.proofs.shape_mismatch.repeated_containers.Given as goal

-- what was met, and what is left
abbrev pub invariant-loop-name : goal.invariant-loop-name
invariant-loop-name l = repeated_from l.met l.twice (containers_of (map call_argument_of (drop l.name-index l.arguments))) ≡ repeated_from [] [] (containers_of (map call_argument_of l.arguments))
