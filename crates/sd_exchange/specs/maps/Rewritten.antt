-- A graph with one list of items in it rewritten.
use Rattle.std.specs.Prelude.{ℕ, Bool, List, [], ◌++◌}
use Rattle.sd_subset.specs.boxes.Box.{Parameter}
use Rattle.sd_graph.specs.ContainerParts.{Containers}
use Rattle.sd_graph.specs.PlainTree.{KindTree, map_scope, consume_scope, nested_graph, ItemTrees, and_item, StateTrees, and_state, GraphTree, graph, ExitTree}
use Rattle.sd_graph.specs.declared.link.Link.{Link}

-- one list of items for another, in a graph with these containers and with these parameters in force
abbrev pub Rewrite : Type 1
Rewrite = Containers → List Parameter → ItemTrees → ItemTrees → Type 0

mutual
  -- an item rewritten somewhere inside
  pub data KindRewritten (R : Rewrite) : Containers → List Parameter → KindTree → KindTree → Type 0 where
    in_map : (sequential : Bool) (containers : Containers) (around params : List Parameter) (private : List ℕ) (body other : ItemTrees) → ItemsRewritten R containers (around ++ params) body other →
        KindRewritten R containers around (map_scope sequential params private body) (map_scope sequential params private other)
    in_pool : (containers : Containers) (around : List Parameter) (stream element : ℕ) (private : List ℕ) (body other : ItemTrees) → ItemsRewritten R containers around body other →
        KindRewritten R containers around (consume_scope stream element private body) (consume_scope stream element private other)
    in_nested : (containers : Containers) (around : List Parameter) (tree other : GraphTree) (links : List Link) → GraphRewritten R tree other →
        KindRewritten R containers around (nested_graph tree links) (nested_graph other links)

  -- items, themselves or one of them
  pub data ItemsRewritten (R : Rewrite) : Containers → List Parameter → ItemTrees → ItemTrees → Type 0 where
    at_once : (containers : Containers) (around : List Parameter) (items others : ItemTrees) → R containers around items others → ItemsRewritten R containers around items others
    in_first : (containers : Containers) (around : List Parameter) (line : ℕ) (kind other : KindTree) (items : ItemTrees) → KindRewritten R containers around kind other →
        ItemsRewritten R containers around (and_item line kind items) (and_item line other items)
    in_later : (containers : Containers) (around : List Parameter) (line : ℕ) (kind : KindTree) (items others : ItemTrees) → ItemsRewritten R containers around items others →
        ItemsRewritten R containers around (and_item line kind items) (and_item line kind others)

  -- the items of one state
  pub data StatesRewritten (R : Rewrite) : Containers → StateTrees → StateTrees → Type 0 where
    in_state : (containers : Containers) (items others : ItemTrees) (exits : List ExitTree) (states : StateTrees) → ItemsRewritten R containers [] items others →
        StatesRewritten R containers (and_state items exits states) (and_state others exits states)
    in_states : (containers : Containers) (items : ItemTrees) (exits : List ExitTree) (states others : StateTrees) → StatesRewritten R containers states others →
        StatesRewritten R containers (and_state items exits states) (and_state items exits others)

  pub data GraphRewritten (R : Rewrite) : GraphTree → GraphTree → Type 0 where
    in_graph : (name : List ℕ) (containers : Containers) (arguments : ℕ) (variables : List (List ℕ)) (symbols : ℕ) (states others : StateTrees) → StatesRewritten R containers states others →
        GraphRewritten R (graph name containers arguments variables symbols states) (graph name containers arguments variables symbols others)
