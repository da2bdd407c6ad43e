use Rattle.std.proofs.Common.{◌≡◌, string_bytes}
use Rattle.std.specs.List.{flat_map, range_with_len}
use Rattle.sd_graph.specs.TreeFold.{graph_tree}
use Rattle.sd_json.specs.AnswerText.{container_line}
use Rattle.sd_json.proofs.text.arrays_text.Given as goal

-- the lines so far
abbrev pub invariant-loop-argument : goal.invariant-loop-argument
invariant-loop-argument l = string_bytes l.text ≡ flat_map (container_line (graph_tree l.bound.graph) l.memory) (range_with_len 0 l.argument)
