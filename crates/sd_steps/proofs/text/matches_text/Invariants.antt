use Rattle.std.proofs.Common.{◌≡◌, ◌++◌, drop, string_bytes}
use Rattle.std.specs.List.{flat_map}
use Rattle.sd_graph.specs.TreeFold.{graph_tree}
use Rattle.sd_steps.specs.StepText.{step_line, matches_text}
use Rattle.sd_steps.proofs.text.matches_text.Given as goal

-- the lines of the steps that are left come behind those that were written
abbrev pub invariant-loop-step : goal.invariant-loop-step
invariant-loop-step l = matches_text (graph_tree l.bound.graph) ≡ string_bytes l.text ++ flat_map step_line (drop l.step-index l.steps)
