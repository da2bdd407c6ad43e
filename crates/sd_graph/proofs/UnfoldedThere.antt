-- A run of a graph touches only what is there, where the containers that are named are in force.
use Rattle.std.proofs.Common.{ℕ, zero, suc, ℤ, List, [], ◌∷◌, ◌++◌, map}
use Rattle.sd_range.specs.Subset.{elements}
use Rattle.sd_work.specs.Memory.{Memory, Memories}
use Rattle.sd_work.specs.Exit.{Values}
use Rattle.sd_work.specs.Residual.{Term}
use Rattle.sd_work.specs.Touch.{Touch, SomeExitTouches}
use Rattle.sd_graph.specs.PlainTree.{KindTree, task, map_scope, consume_scope, nested_graph, reduction, copy, ItemTrees, no_item, and_item, StateTrees, no_state, and_state, GraphTree, graph}
use Rattle.sd_graph.specs.TreeParts.{containers_of, exits_at}
use Rattle.sd_graph.specs.Context.{Reach, Context, frames_at, own_reach, private_memory}
use Rattle.sd_graph.specs.Unfold.{point_terms, at_point, at_element, element_memory, in_graph, reach_inside, run_memory, exit_of, unfold_kind, unfold_items, unfold_state, unfold_graph, run_of}
use Rattle.sd_graph.specs.There.{IsThere, TouchesWhatIsThere, PartsTouchWhatIsThere}
use Rattle.sd_graph.specs.InForce.{IsKindInForce, AreItemsInForce, AreStatesInForce, AreContainersInForce}
use Rattle.sd_graph.specs.InPlace.{KindHasStreamsInPlace, ItemsHaveStreamsInPlace, StatesHaveStreamsInPlace, HasStreamsInPlace, arguments_of, ArgumentsComeFirst, IsKindLinked, AreItemsLinked, AreStatesLinked, IsLinked}
use Rattle.sd_graph.specs.GraphMemory.{IsMemoryOf}
use Rattle.sd_graph.specs.declared.place.Frame.{Frame}
use Rattle.sd_graph.specs.declared.place.Place.{Place}
use Rattle.sd_graph.proofs.Reached.{IsReached, entered_reached, private_has, element_has, run_reached, links_find, nested_reached}
use Rattle.sd_graph.proofs.LeafThere.{task_there, copy_there, reduction_there, exits_there}

points_there : (memories : Memories) (term : List ℤ → Term Place) → ((point : List ℤ) → TouchesWhatIsThere memories (term point)) → (points : List (List ℤ)) → PartsTouchWhatIsThere memories (point_terms term points)
points_there memories term each [] = tt
points_there memories term each (point ∷ points) = (each point, points_there memories term each points)

-- the conditions of a state
conditions_there : (states : StateTrees) (state : ℕ) (memories : Memories) (context : Context) (touch : Touch) → IsReached memories [] context → AreStatesInForce states context.containers →
    StatesHaveStreamsInPlace states context.containers → SomeExitTouches (map (exit_of context) (exits_at states state)) touch → IsThere memories touch
conditions_there no_state state memories context touch reached force streams touched = elim touched [ ]
conditions_there (and_state items exits states) zero memories context touch reached force streams touched = exits_there memories context exits touch reached force.1 streams.1 touched
conditions_there (and_state items exits states) (suc state) memories context touch reached force streams touched = conditions_there states state memories context touch reached force.2 streams.2 touched

-- a nested graph has a link for each of its arguments
linked_first : (tree : GraphTree) → IsLinked tree → ArgumentsComeFirst (arguments_of tree) (containers_of tree)
linked_first (graph name containers arguments variables symbols states) linked = linked.0

mutual
  kind_there : (kind : KindTree) (line : ℕ) (memories : Memories) (private : List ℕ) (context : Context) → IsReached memories private context → IsKindInForce kind context.containers private →
      KindHasStreamsInPlace kind context.containers → IsKindLinked kind → TouchesWhatIsThere memories (unfold_kind kind line context)
  kind_there (task code ins outs) line memories private context reached force streams linked =
      λ touch touched. task_there memories private context code ins outs touch reached force.0 force.1 streams touched
  kind_there (map_scope sequential params own body) line memories private context reached force streams linked =
      points_there memories _ (λ point.
      items_there body (private_memory context.containers own ∷ memories) (own ++ private) (at_point context params own point)
      (entered_reached (private_memory context.containers own) memories own private context _ _ (private_has context.containers own) reached) force streams linked) _
  kind_there (consume_scope source element own body) line memories private context reached force streams linked = (
    reached.streams source force.0 streams.0,
    tt,
    λ value.
        items_there body (element_memory context element own value ∷ memories) (element ∷ own ++ private) (at_element context element own value)
        (entered_reached (element_memory context element own value) memories (element ∷ own) private context _ _ (element_has context element own value force.1) reached) force.2 streams.1 linked,
  )
  kind_there (nested_graph inner links) line memories private context reached force streams linked =
      graph_there inner memories (reach_inside context links (containers_of inner)) (run_memory (containers_of inner)) (frames_at context line)
      (λ names loops values. nested_reached memories context links (arguments_of inner) (containers_of inner) names loops (frames_at context line) values
      (links_find memories private context links reached force.0 streams.0) linked.0 (linked_first inner linked.1))
      force.1 streams.1 linked.1
  kind_there (reduction resolution axis identity from to) line memories private context reached force streams linked =
      λ touch touched. reduction_there memories context resolution axis identity from to touch (reached.arrays from.memlet.container force.0 streams.0) (reached.arrays to.memlet.container force.1.0 streams.1.0) touched
  kind_there (copy from to) line memories private context reached force streams linked =
      λ touch touched. copy_there memories context from to (elements from.memlet.subset context.values) (elements to.memlet.subset context.values) touch
      (reached.arrays from.memlet.container force.0 streams.0) (reached.arrays to.memlet.container force.1.0 streams.1.0) touched

  items_there : (items : ItemTrees) (memories : Memories) (private : List ℕ) (context : Context) → IsReached memories private context → AreItemsInForce items context.containers private →
      ItemsHaveStreamsInPlace items context.containers → AreItemsLinked items → PartsTouchWhatIsThere memories (unfold_items items context)
  items_there no_item memories private context reached force streams linked = tt
  items_there (and_item line kind items) memories private context reached force streams linked =
      (kind_there kind line memories private context reached force.0 streams.0 linked.0, items_there items memories private context reached force.1 streams.1 linked.1)

  state_there : (states : StateTrees) (state : ℕ) (memories : Memories) (context : Context) → IsReached memories [] context → AreStatesInForce states context.containers →
      StatesHaveStreamsInPlace states context.containers → AreStatesLinked states → TouchesWhatIsThere memories (unfold_state states state context)
  state_there no_state state memories context reached force streams linked = tt
  state_there (and_state items exits states) zero memories context reached force streams linked = items_there items memories [] context reached force.0 streams.0 linked.0
  state_there (and_state items exits states) (suc state) memories context reached force streams linked = state_there states state memories context reached force.2 streams.2 linked.1

  graph_there : (tree : GraphTree) (memories : Memories) (reach : ℕ → Reach) (own : Memory) (around : List Frame) →
      ((names : List (List ℕ)) (loops : List ℕ) (values : Values) → IsReached (own ∷ memories) [] (in_graph (containers_of tree) names loops reach around values)) →
      AreContainersInForce tree → HasStreamsInPlace tree → IsLinked tree → TouchesWhatIsThere memories (unfold_graph tree reach own around)
  graph_there (graph name containers arguments variables symbols states) memories reach own around reached force streams linked = (
    state_there states 0 (own ∷ memories) _ (reached variables _ _) force streams linked.1,
    λ state values. state_there states state (own ∷ memories) _ (reached variables _ values) force streams linked.1,
    λ state values touch touched. conditions_there states state (own ∷ memories) _ touch (reached variables _ values) force streams touched,
  )

pub run_there : (tree : GraphTree) (memory : Memory) → AreContainersInForce tree → HasStreamsInPlace tree → IsLinked tree → IsMemoryOf tree memory → TouchesWhatIsThere [] (run_of tree memory)
run_there tree memory force streams linked of =
    graph_there tree [] (own_reach (containers_of tree)) memory [] (λ names loops values. run_reached (containers_of tree) names loops [] values memory of) force streams linked
