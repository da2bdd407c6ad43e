use Rattle.std.proofs.Common.{◌≡◌, map}
use Rattle.sd_graph.specs.TreeFold.{named_container}
use Rattle.sd_validity.specs.rules.NestedLinks as nested
use Rattle.sd_links.proofs.nesting.do_arguments_come_first.Given as goal

-- the arguments that are left come first among the containers that are left where all do
abbrev pub invariant-loop-container : goal.invariant-loop-container
invariant-loop-container l =
    nested.do_arguments_come_first l.left (map named_container l.container-iterator) ≡ nested.do_arguments_come_first l.arguments (map named_container l.containers.entries)
