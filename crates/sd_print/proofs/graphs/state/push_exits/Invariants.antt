use Rattle.std.proofs.Common.{◌≡◌, ◌++◌, take, map, string_bytes}
use Rattle.std.specs.List.{flat_map}
use Rattle.sd_graph.specs.TreeFold.{exit_tree}
use Rattle.sd_print.specs.graphs.StateText.{exit_text}
use Rattle.sd_print.proofs.graphs.state.push_exits.Given as goal

-- what is added so far
abbrev pub invariant-loop-exit : goal.invariant-loop-exit
invariant-loop-exit l = string_bytes l.text ≡ string_bytes l.initial.text ++ flat_map (exit_text (map string_bytes l.names) l.order) (map exit_tree (take l.exit-index l.exits))
