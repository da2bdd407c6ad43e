-- What items do to which containers, and which are before which, with sizes or without.
use Rattle.std.proofs.Common.{◌≡◌, ℕ, zero, suc, ℤ, List, [], ◌∷◌, map, Option, Some, None, option_map, refl, ap, ◌∙◌}
use Rattle.sd_graph.specs.declared.link.Link.{Link}
use Rattle.sd_graph.specs.PlainTree.{KindTree, task, map_scope, consume_scope, nested_graph, reduction, copy, ItemTrees, no_item, and_item, StateTrees, no_state, and_state, GraphTree, graph, GuardTree, ExitTree}
use Rattle.sd_graph.specs.ContainerParts.{Containers, container_at}
use Rattle.sd_graph.specs.Mode.{Mode, Read, joined_mode}
use Rattle.sd_graph.specs.Wiring.{Use, use_of, output_mode, output_use, modes_on, link_uses, nested_uses, guard_uses, exit_uses, kind_uses, item_uses, state_uses, graph_uses, uses_of_each, is_before, before}
use Rattle.sd_valid.specs.BoundExpression.{bound_link}
use Rattle.sd_valid.specs.BoundTree.{bound_guard, bound_exit, bound_entry, bound_kind, bound_items, bound_states, bound_graph}

-- two lists of containers have the same kinds
abbrev pub SameKinds : Containers → Containers → Type 0
SameKinds containers others = (number : ℕ) → (container_at containers number).kind ≡ (container_at others number).kind

-- sizes change no kinds
pub same_kinds : (sizes : List ℤ) (containers : Containers) → SameKinds (map (bound_entry sizes) containers) containers
same_kinds sizes [] number = refl
same_kinds sizes (entry ∷ containers) zero = refl
same_kinds sizes (entry ∷ containers) (suc number) = same_kinds sizes containers number

reads_same : (sizes : List ℤ) (mode : Mode) (links : List Link) → map (use_of mode) (map (bound_link sizes) links) ≡ map (use_of mode) links
reads_same sizes mode [] = refl
reads_same sizes mode (link ∷ links) = ap (λ (rest : List Use). use_of mode link ∷ rest) (reads_same sizes mode links)

output_same : (containers others : Containers) (link : Link) → SameKinds containers others → output_mode containers link ≡ output_mode others link
output_same containers others link same = rw (same link.memlet.container) refl

outputs_same : (sizes : List ℤ) (containers others : Containers) (links : List Link) → SameKinds containers others → map (output_use containers) (map (bound_link sizes) links) ≡ map (output_use others) links
outputs_same sizes containers others [] same = refl
outputs_same sizes containers others (link ∷ links) same = rw (output_same containers others link same, outputs_same sizes containers others links same) refl

link_same : (sizes : List ℤ) (link : Link) (mode : Option Mode) → link_uses (bound_link sizes link) mode ≡ link_uses link mode
link_same sizes link None = refl
link_same sizes link (Some mode) = refl

nested_same : (sizes : List ℤ) (inner : List Use) (number : ℕ) (links : List Link) → nested_uses inner number (map (bound_link sizes) links) ≡ nested_uses inner number links
nested_same sizes inner number [] = refl
nested_same sizes inner number (link ∷ links) = rw (link_same sizes link (joined_mode (modes_on number inner)), nested_same sizes inner (suc number) links) refl

guard_same : (sizes : List ℤ) (when : Option GuardTree) → guard_uses (option_map (bound_guard sizes) when) ≡ guard_uses when
guard_same sizes None = refl
guard_same sizes (Some guard) = reads_same sizes Read guard.reads

exits_same : (sizes : List ℤ) (exits : List ExitTree) → exit_uses (map (bound_exit sizes) exits) ≡ exit_uses exits
exits_same sizes [] = refl
exits_same sizes (exit ∷ exits) = rw (guard_same sizes exit.when, exits_same sizes exits) refl

mutual
  pub kind_same : (sizes : List ℤ) (kind : KindTree) (containers others : Containers) → SameKinds containers others → kind_uses (bound_kind sizes kind) containers ≡ kind_uses kind others
  kind_same sizes (task code ins outs) containers others same = rw (reads_same sizes Read ins, outputs_same sizes containers others outs same) refl
  kind_same sizes (map_scope sequential params private body) containers others same = rw (items_same sizes body containers others same) refl
  kind_same sizes (consume_scope stream element private body) containers others same = rw (items_same sizes body containers others same) refl
  kind_same sizes (nested_graph inner links) containers others same =
      ap (λ (uses : List Use). nested_uses uses 0 (map (bound_link sizes) links)) (graph_same sizes inner) ∙ nested_same sizes (graph_uses inner) 0 links
  kind_same sizes (reduction resolution axis identity from to) containers others same = refl
  kind_same sizes (copy from to) containers others same = refl

  pub items_same : (sizes : List ℤ) (items : ItemTrees) (containers others : Containers) → SameKinds containers others → item_uses (bound_items sizes items) containers ≡ item_uses items others
  items_same sizes no_item containers others same = refl
  items_same sizes (and_item line kind items) containers others same = rw (kind_same sizes kind containers others same, items_same sizes items containers others same) refl

  states_same : (sizes : List ℤ) (states : StateTrees) (containers others : Containers) → SameKinds containers others → state_uses (bound_states sizes states) containers ≡ state_uses states others
  states_same sizes no_state containers others same = refl
  states_same sizes (and_state items exits states) containers others same =
      rw (items_same sizes items containers others same, exits_same sizes exits, states_same sizes states containers others same) refl

  graph_same : (sizes : List ℤ) (tree : GraphTree) → graph_uses (bound_graph sizes tree) ≡ graph_uses tree
  graph_same sizes (graph name containers arguments variables symbols states) = states_same sizes states (map (bound_entry sizes) containers) containers (same_kinds sizes containers)

each_same : (sizes : List ℤ) (items : ItemTrees) (containers : Containers) → uses_of_each (bound_items sizes items) containers ≡ uses_of_each items containers
each_same sizes no_item containers = refl
each_same sizes (and_item line kind items) containers = rw (kind_same sizes kind containers containers (λ number. refl), each_same sizes items containers) refl

-- which items are before which
pub before_same : (sizes : List ℤ) (containers : Containers) (items : ItemTrees) → before containers (bound_items sizes items) ≡ before containers items
before_same sizes containers items = ap is_before (each_same sizes items containers)
