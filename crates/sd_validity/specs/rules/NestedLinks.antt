-- Rule 5: a nested graph has a link of the right shape for each argument, and none that it writes under a second name.
use Rattle.std.specs.Prelude.{ℕ, zero, suc, nat_eq, List, [], ◌∷◌, ◌++◌, map, length, Bool, true, false, not, ◌&&◌, ◌||◌, if◌then◌else◌}
use Rattle.sd_graph.specs.PlainTree.{KindTree, task, map_scope, consume_scope, nested_graph, reduction, copy, ItemTrees, no_item, and_item, StateTrees, no_state, and_state, GraphTree, graph}
use Rattle.sd_graph.specs.TreeParts.{containers_of}
use Rattle.sd_graph.specs.ContainerParts.{Containers, container_at, is_argument}
use Rattle.sd_graph.specs.Wiring.{has_number}
use Rattle.sd_graph.specs.InPlace.{arguments_of}
use Rattle.sd_graph.specs.declared.link.Link.{Link}
use Rattle.sd_validity.specs.rules.Places.{Thing, whole, leaving, doing, Place}
use Rattle.sd_validity.specs.rules.Parts.{container_of, link_spans}
use Rattle.sd_validity.specs.rules.Shapes.{are_extents_same, are_steps_one, dim_extent, shape_of}

-- ---- arguments

-- the first so many containers are the arguments, and no others
abbrev pub do_arguments_come_first : (arguments : ℕ) → Containers → Bool
do_arguments_come_first zero [] = true
do_arguments_come_first (suc arguments) [] = false
do_arguments_come_first zero (entry ∷ entries) = not (is_argument entry.1.kind) && do_arguments_come_first zero entries
do_arguments_come_first (suc arguments) (entry ∷ entries) = is_argument entry.1.kind && do_arguments_come_first arguments entries

-- ---- shapes

-- the ranges of a link have the step 1, and the extents of the parameter
abbrev pub has_shape : Containers → (number : ℕ) → Link → Bool
has_shape inner number link =
    are_steps_one (link_spans link) && are_extents_same (map dim_extent (container_at inner number).extents) (shape_of (link_spans link))

-- so do the links from this number on
abbrev pub have_shapes : Containers → (number : ℕ) → List Link → Bool
have_shapes inner number [] = true
have_shapes inner number (link ∷ links) = has_shape inner number link && have_shapes inner (suc number) links

-- ---- what a graph writes

-- the containers of the links whose parameters, from this number on, are written
abbrev pub written_through : (written : List ℕ) → (number : ℕ) → List Link → List ℕ
written_through written number [] = []
written_through written number (link ∷ links) =
    (if has_number written number then container_of link ∷ [] else []) ++ written_through written (suc number) links

-- the containers that an item writes
abbrev mutual
  pub written_by : KindTree → List ℕ
  written_by (task code ins outs) = map container_of outs
  written_by (map_scope sequential params private body) = written_in body
  written_by (consume_scope stream element private body) = written_in body
  written_by (nested_graph inner links) = written_through (written_of inner) 0 links
  written_by (reduction resolution axis identity from to) = container_of to ∷ []
  written_by (copy from to) = container_of to ∷ []

  pub written_in : ItemTrees → List ℕ
  written_in no_item = []
  written_in (and_item line kind items) = written_by kind ++ written_in items

  pub written_in_states : StateTrees → List ℕ
  written_in_states no_state = []
  written_in_states (and_state items exits states) = written_in items ++ written_in_states states

  pub written_of : GraphTree → List ℕ
  written_of (graph name containers arguments variables symbols states) = written_in_states states

-- of two links of one container neither parameter is written; the links are those from this number on
abbrev pub is_unshared : (written : List ℕ) → (first : ℕ) → Link → (number : ℕ) → List Link → Bool
is_unshared written first link number [] = true
is_unshared written first link number (other ∷ links) =
    (not (nat_eq (container_of link) (container_of other)) || not (has_number written first || has_number written number))
    && is_unshared written first link (suc number) links

abbrev pub are_unshared : (written : List ℕ) → (number : ℕ) → List Link → Bool
are_unshared written number [] = true
are_unshared written number (link ∷ links) = is_unshared written number link (suc number) links && are_unshared written (suc number) links

-- ---- the rule

abbrev pub are_links_right : GraphTree → List Link → Bool
are_links_right inner links =
    (nat_eq (length links) (arguments_of inner) && have_shapes (containers_of inner) 0 links) && are_unshared (written_of inner) 0 links

abbrev pub is_nesting_right : GraphTree → Thing → Bool
is_nesting_right tree whole = do_arguments_come_first (arguments_of tree) (containers_of tree)
is_nesting_right tree (leaving items exits) = true
is_nesting_right tree (doing (task code ins outs)) = true
is_nesting_right tree (doing (map_scope sequential params private body)) = true
is_nesting_right tree (doing (consume_scope stream element private body)) = true
is_nesting_right tree (doing (nested_graph inner links)) = are_links_right inner links
is_nesting_right tree (doing (reduction resolution axis identity from to)) = true
is_nesting_right tree (doing (copy from to)) = true

abbrev pub rule_5 : (before : List Place) → Place → Bool
rule_5 before place = is_nesting_right place.graph place.thing
