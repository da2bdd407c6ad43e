use Rattle.std.proofs.Common.{◌≡◌, ◌++◌, replicate}
use Rattle.sd_source.specs.nodes.Nodes.{plain_node}
use Rattle.sd_source.proofs.nodes.nodes.add_plain.Given as goal

abbrev pub invariant-loop : goal.invariant-loop
invariant-loop l = l.nodes.items ≡ l.initial.nodes.items ++ replicate l.counter (plain_node l.line)
