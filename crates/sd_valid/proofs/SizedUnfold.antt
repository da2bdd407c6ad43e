-- The work of a graph with its sizes bound is that of the graph where its size symbols have them.
use Rattle.std.proofs.Common.{◌≡◌, ℕ, zero, suc, ℤ, pos, List, [], map, length, replicate, Bool, Option, false, refl, ap, ◌∙◌}
use Rattle.std.specs.List.{zip}
use Rattle.std.proofs.Math.Path.{fun_ext}
use Rattle.sd_range.specs.Points.{points, ranges_of}
use Rattle.sd_work.specs.Memory.{Memory, Reference}
use Rattle.sd_work.specs.Exit.{Values}
use Rattle.sd_work.specs.Exit as work
use Rattle.sd_work.specs.Leaf.{copy_of, reduction_of}
use Rattle.sd_work.specs.Residual.{Term, leaf, list, Items, owning, pool, Terms, also, idle, begun}
use Rattle.sd_graph.specs.PlainTree.{KindTree, task, map_scope, consume_scope, nested_graph, reduction, copy, ItemTrees, no_item, and_item, StateTrees, no_state, and_state, GraphTree, graph}
use Rattle.sd_graph.specs.TreeParts.{containers_of, exits_at}
use Rattle.sd_graph.specs.ContainerParts.{Containers}
use Rattle.sd_graph.specs.Context.{Reach, Context, own_reach, link_elements, frames_at, place_at}
use Rattle.sd_graph.specs.Unfold.{unfold_kind, unfold_items, unfold_state, unfold_graph, run_of, exit_of, reduction_pairs, map_over, at_element, element_memory, list_of, in_graph, at_state, reach_inside, run_memory}
use Rattle.sd_graph.specs.declared.place.Frame.{Frame}
use Rattle.sd_graph.specs.declared.place.Place.{Place}
use Rattle.sd_valid.specs.BoundExpression.{bound_link, bound_param}
use Rattle.sd_valid.specs.BoundTree.{bound_kind, bound_items, bound_states, bound_graph}
use Rattle.sd_valid.specs.SizedValues.{sized, AreElements}
use Rattle.sd_valid.specs.SizedWork.{at_sizes, sized_containers, sized_kind, sized_items, sized_state, sized_graph, sized_run}
use Rattle.sd_valid.proofs.SizedLaws.{bound-points}
use Rattle.sd_valid.proofs.SizedUses.{before_same}
use Rattle.sd_valid.proofs.SizedLoops.{exits_at_same, loops_same}
use Rattle.sd_valid.proofs.SizedItems.{elements_same, task_same, exits_work, pairs_same, map_same, reach_same}

list_same : (sizes : List ℤ) (context : Context) (items : ItemTrees) (parts others : Terms Place) → parts ≡ others → list_of context (bound_items sizes items) parts ≡ list_of context items others
list_same sizes context items parts others same =
    ap (λ (before : ℕ → ℕ → Bool). list Items before parts) (before_same sizes context.containers items) ∙ ap (list_of context items) same

containers_same : (sizes : List ℤ) (tree : GraphTree) → containers_of (bound_graph sizes tree) ≡ sized_containers sizes (containers_of tree)
containers_same sizes (graph name containers arguments variables symbols states) = refl

state_place_same : (sizes : List ℤ) (containers : Containers) (names : List (List ℕ)) (states : StateTrees) (reach : ℕ → Reach) (around : List Frame) (state : ℕ) (values : Values) →
    at_state containers names (bound_states sizes states) reach around state values ≡ at_state containers names states reach around state values
state_place_same sizes containers names states reach around state values = ap (λ (loops : List ℕ). in_graph containers names loops reach around values) (loops_same sizes states (length names) state)

mutual
  kind_work : (sizes : List ℤ) → AreElements sizes → (kind : KindTree) (line : ℕ) (context : Context) → unfold_kind (bound_kind sizes kind) line context ≡ sized_kind sizes kind line context
  kind_work sizes fit (task code ins outs) line context = ap (leaf (place_at context line)) (task_same sizes context code ins outs fit)
  kind_work sizes fit (map_scope sequential params private body) line context =
      ap (map_over context sequential (map (bound_param sizes) params) private (λ inside. list_of inside (bound_items sizes body) (unfold_items (bound_items sizes body) inside))) (bound-points sizes context.values params)
      ∙ map_same sizes context sequential params private (λ inside. list_of inside (bound_items sizes body) (unfold_items (bound_items sizes body) inside)) (points (ranges_of params) (sized sizes context.values))
      ∙ ap (λ (inner : Context → Term Place). map_over context sequential params private inner (points (ranges_of params) (sized sizes context.values)))
      (fun_ext (λ inside. list_same sizes inside body (unfold_items (bound_items sizes body) inside) (sized_items sizes body inside) (items_work sizes fit body inside)))
  kind_work sizes fit (consume_scope stream element private body) line context =
      ap (λ (inner : ℤ → Term Place). pool (context.reach stream).level (context.reach stream).container inner idle false)
      (fun_ext (λ value. ap (owning (element_memory context element private value))
      (list_same sizes (at_element context element private value) body (unfold_items (bound_items sizes body) (at_element context element private value)) (sized_items sizes body (at_element context element private value))
      (items_work sizes fit body (at_element context element private value)))))
  kind_work sizes fit (nested_graph inner links) line context =
      ap (λ (containers : Containers). unfold_graph (bound_graph sizes inner) (reach_inside context (map (bound_link sizes) links) containers) (run_memory containers) (frames_at context line)) (containers_same sizes inner)
      ∙ ap (λ (reach : ℕ → Reach). unfold_graph (bound_graph sizes inner) reach (run_memory (sized_containers sizes (containers_of inner))) (frames_at context line)) (reach_same sizes context links (sized_containers sizes (containers_of inner)))
      ∙ graph_work sizes fit inner (reach_inside (at_sizes sizes context) links (sized_containers sizes (containers_of inner))) (run_memory (sized_containers sizes (containers_of inner))) (frames_at context line)
  kind_work sizes fit (reduction resolution axis identity from to) line context =
      ap (λ (targets : List (Option Reference)). leaf (place_at context line) (reduction_of resolution identity targets (reduction_pairs context axis (bound_link sizes from) (bound_link sizes to)))) (elements_same sizes context to)
      ∙ ap (λ (pairs : List (Option Reference × Option Reference)). leaf (place_at context line) (reduction_of resolution identity (link_elements (at_sizes sizes context) to) pairs)) (pairs_same sizes context axis from to)
  kind_work sizes fit (copy from to) line context =
      ap (λ (sources : List (Option Reference)). leaf (place_at context line) (copy_of (zip sources (link_elements context (bound_link sizes to))))) (elements_same sizes context from)
      ∙ ap (λ (targets : List (Option Reference)). leaf (place_at context line) (copy_of (zip (link_elements (at_sizes sizes context) from) targets))) (elements_same sizes context to)

  items_work : (sizes : List ℤ) → AreElements sizes → (items : ItemTrees) (context : Context) → unfold_items (bound_items sizes items) context ≡ sized_items sizes items context
  items_work sizes fit no_item context = refl
  items_work sizes fit (and_item line kind items) context =
      ap (λ (first : Term Place). also first (unfold_items (bound_items sizes items) context)) (kind_work sizes fit kind line context)
      ∙ ap (λ (rest : Terms Place). also (sized_kind sizes kind line context) rest) (items_work sizes fit items context)

  state_work : (sizes : List ℤ) → AreElements sizes → (states : StateTrees) (state : ℕ) (context : Context) → unfold_state (bound_states sizes states) state context ≡ sized_state sizes states state context
  state_work sizes fit no_state state context = refl
  state_work sizes fit (and_state items exits states) zero context =
      list_same sizes context items (unfold_items (bound_items sizes items) context) (sized_items sizes items context) (items_work sizes fit items context)
  state_work sizes fit (and_state items exits states) (suc state) context = state_work sizes fit states state context

  graph_work : (sizes : List ℤ) → AreElements sizes → (tree : GraphTree) (reach : ℕ → Reach) (own : Memory) (around : List Frame) → unfold_graph (bound_graph sizes tree) reach own around ≡ sized_graph sizes tree reach own around
  graph_work sizes fit (graph name containers arguments variables symbols states) reach own around =
      let bound = sized_containers sizes containers in
      let values = replicate (length variables) (pos 0) in
      let exits : ℕ → Values → List (work.Exit Place) = λ state values. map (exit_of (at_state bound variables (bound_states sizes states) reach around state values)) (exits_at (bound_states sizes states) state) in
      let sized_body : ℕ → Values → Term Place = λ state values. sized_state sizes states state (at_state bound variables states reach around state values) in
      ap (λ (body : ℕ → Values → Term Place). begun body exits own values)
      (fun_ext (λ state. fun_ext (λ values.
      ap (unfold_state (bound_states sizes states) state) (state_place_same sizes bound variables states reach around state values)
      ∙ state_work sizes fit states state (at_state bound variables states reach around state values))))
      ∙ ap (λ (exits : ℕ → Values → List (work.Exit Place)). begun sized_body exits own values)
      (fun_ext (λ state. fun_ext (λ values.
      ap (λ (context : Context). map (exit_of context) (exits_at (bound_states sizes states) state)) (state_place_same sizes bound variables states reach around state values)
      ∙ ap (map (exit_of (at_state bound variables states reach around state values))) (exits_at_same sizes states state)
      ∙ exits_work sizes (at_state bound variables states reach around state values) (exits_at states state) fit)))

-- a run of a whole graph
pub run_work : (sizes : List ℤ) → AreElements sizes → (tree : GraphTree) (memory : Memory) → run_of (bound_graph sizes tree) memory ≡ sized_run sizes tree memory
run_work sizes fit tree memory =
    ap (λ (containers : Containers). unfold_graph (bound_graph sizes tree) (own_reach containers) memory []) (containers_same sizes tree)
    ∙ graph_work sizes fit tree (own_reach (sized_containers sizes (containers_of tree))) memory []
