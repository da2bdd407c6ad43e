use Rattle.std.proofs.Common.{◌≡◌, ◌++◌, drop}
use Rattle.sd_lex.specs.TreeFold.{block_of}
use Rattle.sd_source.specs.nodes.SourceNodes as source
use Rattle.sd_source.proofs.nodes.parameters.access_to_each.Given as goal

-- the parameters so far with those of what is left
abbrev pub invariant-loop-argument : goal.invariant-loop-argument
invariant-loop-argument l = l.parameters.items ++ source.access_to_each l.reads l.writes (block_of (drop l.argument-index l.arguments)) ≡ source.access_to_each l.reads l.writes (block_of l.arguments)
