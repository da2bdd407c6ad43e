-- Of which machine the code keeps a run.
use Rattle.std.specs.Prelude.{◌≡◌, ⊤, [], Option, Some, None, true}
use Rattle.sd_work.specs.Change.{innermost}
use Rattle.sd_work.specs.BigStep.{Reached}
use Rattle.sd_work.specs.Residual.{Term, ended}
use Rattle.sd_work.specs.Step.{Machine}
use Rattle.sd_work.specs.WellFormed.{IsWellFormed}
use Rattle.sd_graph.specs.PlainTree.{GraphTree}
use Rattle.sd_graph.specs.TreeFold.{graph_tree}
use Rattle.sd_graph.specs.TreeParts.{containers_of}
use Rattle.sd_graph.specs.declared.graph.Sdfg.{Sdfg}
use Rattle.sd_graph.specs.declared.place.Place.{Place}
use Rattle.sd_scope.specs.scope.Standing.{opening_reach}
use Rattle.sd_scope.specs.declared.scope.base.Base.{Base}
use Rattle.sd_left.specs.tree.Standing.{run_left}
use Rattle.sd_left.specs.declared.left.left.Run.{Run}
use Rattle.sd_left.specs.left.Kept.{run_kept}
use Rattle.sd_left.specs.left.Waits.{is_run_counted}
use Rattle.sd_left.specs.left.Tells.{run_tells}
use Rattle.sd_core.specs.declared.machine.Machine.TheInside.{Inside}

-- the work that is left of a run of a graph. Where no run is kept, a run that has ended
abbrev pub term_of : GraphTree → Base → Option Run → (now : Reached) → Term Place
term_of tree base None now = ended (innermost now.memories)
term_of tree base (Some run) now = run_left (run_kept run) tree (opening_reach (containers_of tree) base) base.around

-- a run of a graph that the code keeps, with the turns that are left
pub record Kept : Type 0 where
  pub graph : Sdfg
  pub base : Base
  pub run : Option Run
  pub stack : Reached

-- the machine of residual work that it is
abbrev pub machine_of : Kept → Machine Place
machine_of kept = record { term = term_of (graph_tree kept.graph) kept.base kept.run kept.stack; turns = kept.stack.turns }

-- the counts of a run that is kept are right, it is settled, and no memory is on the stack
pub record IsRunKept (run : Run) (now : Reached) : Type 0 where
  pub right : (run_tells run).is_right ≡ true
  pub counted : is_run_counted run [] ≡ true
  pub memories : now.memories ≡ []

abbrev pub IsKeptBy : Option Run → (now : Reached) → Type 0
IsKeptBy None now = ⊤
IsKeptBy (Some run) now = IsRunKept run now

pub record IsSound (kept : Kept) : Type 0 where
  pub run : IsKeptBy kept.run kept.stack
  pub formed : IsWellFormed (machine_of kept)

-- what a machine of the code keeps
abbrev pub kept_of : Inside → Kept
kept_of inside = record { graph = inside.graph.now; base = inside.base; run = inside.run; stack = inside.stack }

abbrev pub IsKept : Inside → Type 0
IsKept inside = IsSound (kept_of inside)
