-- The accesses of items and of the bodies of scopes: node, container, mode and box.
use Rattle.std.specs.Prelude.{ℕ, suc, List, [], ◌∷◌, ◌++◌, map, Option, Some, None, not}
use Rattle.std.specs.List.{filter}
use Rattle.sd_subset.specs.boxes.Box.{Parameter, Box, box_of, replaced}
use Rattle.sd_graph.specs.declared.link.Link.{Link}
use Rattle.sd_graph.specs.ContainerParts.{Containers}
use Rattle.sd_graph.specs.Mode.{Mode, Read, Write, Take, joined_mode}
use Rattle.sd_graph.specs.Wiring.{Use, has_number, output_mode, reduction_mode, modes_on, graph_uses}
use Rattle.sd_graph.specs.PlainTree.{KindTree, task, map_scope, consume_scope, nested_graph, reduction, copy, ItemTrees, no_item, and_item}
use Rattle.sd_prop.specs.propagation.ItemNodes.{own_node, nodes_behind, past}

-- an access: the node of its item, its container, its mode, and the box of what it touches. A stream's box has no dimension
pub record Access : Type 0 where
  pub node : ℕ
  pub container : ℕ
  pub mode : Mode
  pub box : Box

-- the access of a link, in a mode
abbrev pub access_of : (node : ℕ) → Mode → Link → Access
access_of node mode link = record { node = node; container = link.memlet.container; mode = mode; box = box_of link.memlet.subset.dims }

-- that of an output
abbrev pub output_access : Containers → (node : ℕ) → Link → Access
output_access containers node link = access_of node (output_mode containers link) link

-- those of a nested graph through a link, in the mode of its parameter; none where the parameter is not used
abbrev pub link_accesses : (node : ℕ) → Link → Option Mode → List Access
link_accesses node link None = []
link_accesses node link (Some mode) = access_of node mode link ∷ []

-- those through its links, the first of which is for the parameter of this number
abbrev pub nested_accesses : (node : ℕ) → List Use → (number : ℕ) → List Link → List Access
nested_accesses node inner number [] = []
nested_accesses node inner number (link ∷ links) = link_accesses node link (joined_mode (modes_on number inner)) ++ nested_accesses node inner (suc number) links

-- a consume scope takes from its stream
abbrev pub take_access : (node : ℕ) → (stream : ℕ) → Access
take_access node stream = record { node = node; container = stream; mode = Take; box = [] }

-- an access with the parameters of a map replaced
abbrev pub access_replaced : List Parameter → Access → Access
access_replaced parameters access = record access { box = replaced parameters access.box }

-- the accesses of containers other than these
abbrev pub outside_accesses : (own : List ℕ) → List Access → List Access
outside_accesses own accesses = filter (λ access. not (has_number own access.container)) accesses

abbrev mutual
  -- the accesses of an item, whose nodes are the first of these, in order of node and connector: the parameters of its scopes are replaced, their own containers left out
  pub kind_accesses : KindTree → Containers → (nodes : List ℕ) → List Access
  kind_accesses (task code ins outs) containers nodes =
      map (access_of (own_node nodes) Read) ins ++ map (output_access containers (own_node nodes)) outs
  kind_accesses (map_scope sequential params private body) containers nodes =
      map (access_replaced params) (outside_accesses private (item_accesses body containers (nodes_behind nodes)))
  kind_accesses (consume_scope stream element private body) containers nodes =
      take_access (own_node nodes) stream ∷ outside_accesses (element ∷ private) (item_accesses body containers (nodes_behind nodes))
  kind_accesses (nested_graph inner links) containers nodes = nested_accesses (own_node nodes) (graph_uses inner) 0 links
  kind_accesses (reduction resolution axis identity from to) containers nodes =
      access_of (own_node nodes) Read from ∷ access_of (own_node nodes) (reduction_mode resolution identity) to ∷ []
  kind_accesses (copy from to) containers nodes = access_of (own_node nodes) Read from ∷ access_of (own_node nodes) Write to ∷ []

  -- those of items one after another
  pub item_accesses : ItemTrees → Containers → (nodes : List ℕ) → List Access
  item_accesses no_item containers nodes = []
  item_accesses (and_item line kind items) containers nodes = kind_accesses kind containers nodes ++ item_accesses items containers (past kind nodes)
