-- A graph and its memory as they are kept, and what steers them.
use Rattle.std.specs.Prelude.{◌<◌, ◌≤◌, ◌^◌, Option, Some, None, ⊤}
use Rattle.sd_graph.specs.PlainTree.{GraphTree}
use Rattle.sd_graph.specs.TreeFold.{graph_tree}
use Rattle.sd_graph.specs.declared.graph.Bound.{Bound}
use Rattle.sd_exchange.specs.maps.RunsAlike.{RunsAlike}
use Rattle.sd_validity.specs.rules.Valid.{IsValid}
use Rattle.sd_words.specs.Command.{Command, to_run}
use Rattle.sd_tool.specs.Work.{Work}
use Rattle.sd_tool.specs.declared.steering.Steered.{Steered}
use Rattle.sd_tool.specs.declared.workspace.Workspace.{Workspace}

abbrev pub work_of : Workspace → Work
work_of kept = record { tree = graph_tree kept.bound.graph; memory = kept.memory.contents }

-- the graph that a chain made, or the one that it was to be made of, where the chain has no steps
abbrev pub made_of : Bound → Option Bound → GraphTree
made_of bound None = graph_tree bound.graph
made_of bound (Some other) = graph_tree other.graph

-- the graph that a call goes by
abbrev pub graph_of : Steered → GraphTree
graph_of kept = made_of kept.work.bound kept.other

-- runs of a graph may be told as those of a source's graph: both are valid, and the source's run is done wherever this one is, and leaves the same
pub record RunsFor (source other : GraphTree) : Type 0 where
  pub source_valid : IsValid source
  pub valid : IsValid other
  pub alike : RunsAlike other source

-- a run may spend 2^40 turns at most, and 1 to 64 workers do it
abbrev pub IsLimited : Command → Type 0
IsLimited (to_run run) = (run.turns ≤ 2 ^ 40) × (0 < run.workers) × (run.workers ≤ 64)
IsLimited command = ⊤
