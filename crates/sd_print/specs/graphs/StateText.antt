-- The text of a state, the graphs nested in it aside.
use Rattle.std.specs.Prelude.{ℕ, List, [], ◌++◌, map, codes, Option, Some, None, if◌then◌else◌}
use Rattle.std.specs.List.{flat_map}
use Rattle.std.specs.Fmt.{decimal}
use Rattle.sd_range.specs.declared.affine.Affine.{Affine}
use Rattle.sd_graph.specs.PlainTree.{KindTree, task, map_scope, consume_scope, nested_graph, reduction, copy, ItemTrees, no_item, and_item, StateTrees, GuardTree, ExitTree}
use Rattle.sd_graph.specs.ContainerParts.{Containers}
use Rattle.sd_graph.specs.LoopScope.{loops_in_force}
use Rattle.sd_wire.specs.declared.loops.span.LoopSpan.{LoopSpan}
use Rattle.sd_wire.specs.loops.Spans.{variables_in}
use Rattle.sd_wire.specs.wiring.Listing.{nodes_of, edges_of}
use Rattle.sd_print.specs.graphs.AffineText.{variable_name, affine_text}
use Rattle.sd_print.specs.graphs.LinkText.{edge_text}
use Rattle.sd_print.specs.graphs.NodeText.{labels, nodes_text}

-- the parameters of the scopes among items, those of outer ones first
abbrev mutual
  pub kind_params : KindTree → List ℕ
  kind_params (task code ins outs) = []
  kind_params (map_scope sequential params private body) = map (λ param. param.0) params ++ item_params body
  kind_params (consume_scope stream element private body) = item_params body
  kind_params (nested_graph inner links) = []
  kind_params (reduction resolution axis identity from to) = []
  kind_params (copy from to) = []

  pub item_params : ItemTrees → List ℕ
  item_params no_item = []
  item_params (and_item line kind items) = kind_params kind ++ item_params items

-- the variables of a state from the outermost: those of the loops in force, and then those of its scopes
abbrev pub order_of : (states : StateTrees) → (variables : ℕ) → (number : ℕ) → ItemTrees → List ℕ
order_of states variables number items = loops_in_force states variables number ++ item_params items

-- the same, where the graph's loops have these spans
abbrev pub order_in : List LoopSpan → (number : ℕ) → ItemTrees → List ℕ
order_in spans number items = variables_in spans number ++ item_params items

abbrev pub condition_text : Option GuardTree → List ℕ
condition_text None = []
condition_text (Some guard) = codes " if line " ++ decimal guard.line

module _ (names : List (List ℕ)) (order : List ℕ) where
  abbrev pub assignment_text : ℕ × Affine → List ℕ
  assignment_text assignment = codes " set " ++ (variable_name names assignment.0 ++ (codes "=" ++ affine_text names order assignment.1))

  -- a transition: a marked one leads back
  abbrev pub exit_text : ExitTree → List ℕ
  exit_text exit =
      (if exit.back then codes "back " else codes "next ") ++ (decimal exit.to ++ (condition_text exit.when ++ (flat_map assignment_text exit.set ++ codes "\n")))

-- a state with its nodes, edges and transitions
abbrev pub state_text : (names : List (List ℕ)) → Containers → (order : List ℕ) → (number : ℕ) → ItemTrees → List ExitTree → List ℕ
state_text names containers order number items exits =
    codes "state " ++ (decimal number ++ (codes "\n" ++ (nodes_text containers 0 (nodes_of containers items) (labels names containers order items)
    ++ (flat_map (edge_text names containers order) (edges_of containers items) ++ flat_map (exit_text names order) exits))))
