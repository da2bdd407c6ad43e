-- Paths to states, and the two states of one graph to which two paths lead.
use Rattle.std.specs.Prelude.{ℕ, nat_eq, nat_lt, List, [], ◌∷◌, Option, Some, None, option_map, Bool, not, ◌&&◌, if◌then◌else◌}
use Rattle.sd_graph.specs.PlainTree.{KindTree, nested_graph, StateTrees, GraphTree}
use Rattle.sd_graph.specs.TreeParts.{states_of_graph, count_states}
use Rattle.sd_prop.specs.propagation.Scopes.{is_same_path}
use Rattle.sd_mapx.specs.Paths.{place_of}
use Rattle.sd_mapx.specs.Found.{Found, found_at}

-- two states: the place of the graph that has them, its states, and their numbers
pub record TwoStates : Type 0 where
  pub place : List ℕ
  pub states : StateTrees
  pub first : ℕ
  pub second : ℕ

-- the path of a state is that of its graph, which is empty for the whole graph, and then its number
abbrev pub parted : (path : List ℕ) → Option (List ℕ × ℕ)
parted [] = None
parted (number ∷ []) = Some ([], number)
parted (number ∷ next ∷ path) = option_map (λ parts. (number ∷ parts.0, parts.1)) (parted (next ∷ path))

-- the place of a graph: that of the item in which it is nested
abbrev pub place_of_graph : GraphTree → (path : List ℕ) → Option (List ℕ)
place_of_graph tree [] = Some []
place_of_graph tree (number ∷ path) = place_of tree (number ∷ path)

-- the graph that is nested in an item
abbrev pub graph_in : KindTree → Option GraphTree
graph_in (nested_graph inner links) = Some inner
graph_in kind = None

abbrev pub graph_of : Option Found → Option GraphTree
graph_of None = None
graph_of (Some found) = graph_in found.kind

abbrev pub graph_at_place : GraphTree → (place : List ℕ) → Option GraphTree
graph_at_place tree [] = Some tree
graph_at_place tree (number ∷ place) = graph_of (found_at tree (number ∷ place))

-- the numbers are those of two states
abbrev pub are_two : (count first second : ℕ) → Bool
are_two count first second = (nat_lt first count && nat_lt second count) && not (nat_eq first second)

abbrev pub two_of : Option GraphTree → (place : List ℕ) → (first second : ℕ) → Option TwoStates
two_of None place first second = None
two_of (Some tree) place first second =
    if are_two (count_states (states_of_graph tree)) first second
    then Some (record { place = place; states = states_of_graph tree; first = first; second = second })
    else None

abbrev pub two_at : GraphTree → Option (List ℕ) → (first second : ℕ) → Option TwoStates
two_at tree None first second = None
two_at tree (Some place) first second = two_of (graph_at_place tree place) place first second

abbrev pub two_named : GraphTree → Option (List ℕ × ℕ) → Option (List ℕ × ℕ) → Option TwoStates
two_named tree None other = None
two_named tree (Some first) None = None
two_named tree (Some first) (Some second) = if is_same_path first.0 second.0 then two_at tree (place_of_graph tree first.0) first.1 second.1 else None

-- the two states of one graph, if the paths lead to such
abbrev pub two_states : GraphTree → (first second : List ℕ) → Option TwoStates
two_states tree first second = two_named tree (parted first) (parted second)
