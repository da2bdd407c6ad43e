use Rattle.std.proofs.Common.{◌≡◌, map}
use Rattle.sd_names.specs.Names.{named_entries}
use Rattle.sd_context.specs.blocks.Closing as closing
use Rattle.sd_context.proofs.blocks.closing.signature_of.Given as goal

-- the parameters so far
abbrev pub invariant-loop-name : goal.invariant-loop-name
invariant-loop-name l = l.all.items ≡ map (closing.parameter_of l.written) (named_entries l.yielded)
