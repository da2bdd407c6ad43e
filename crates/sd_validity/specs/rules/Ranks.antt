-- Ranks of variables: a variable has a higher one than those that its range, or its begin and its end, name.
use Rattle.std.specs.Prelude.{ℕ, zero, suc, nat_eq, List, [], ◌∷◌, ◌++◌, length, map, replicate, Bool, true, false, not, ◌||◌, if◌then◌else◌, Option, Some, None, slice_index_or}
use Rattle.std.specs.List.{list_all, filter, flat_map}
use Rattle.sd_range.specs.declared.affine.Affine.{Affine}
use Rattle.sd_range.specs.declared.range.Range.{Range}
use Rattle.sd_graph.specs.PlainTree.{ValueTree, literal, variable, local, input, one, two, choice, KindTree, task, map_scope, consume_scope, nested_graph, reduction, copy, ItemTrees, no_item, and_item, StateTrees, no_state, and_state, GraphTree, GuardTree, ExitTree}
use Rattle.sd_graph.specs.TreeParts.{states_of_graph}
use Rattle.sd_graph.specs.LoopScope.{numbers_below}
use Rattle.sd_graph.specs.Wiring.{has_number}
use Rattle.sd_validity.specs.rules.GraphParts.{variables_of}
use Rattle.sd_validity.specs.rules.Shapes.{variables_in}
use Rattle.sd_validity.specs.rules.Compared.{Comparison, compared}

-- a variable, with variables that its range, its begin or its end names
pub record Naming : Type 0 where
  pub variable : ℕ
  pub named : List ℕ

-- those that a range names
abbrev pub range_variables : Range → List ℕ
range_variables range = flat_map variables_in (range.begin ∷ range.ends)

-- those that the ranges of a map's parameters name
abbrev pub param_naming : ℕ × Range → Naming
param_naming param = record { variable = param.0; named = range_variables param.1 }

abbrev pub param_namings : List (ℕ × Range) → List Naming
param_namings params = map param_naming params

-- those that the begin of a loop names, where a transition without a mark sets its variable
abbrev pub begin_naming : ℕ × Affine → Naming
begin_naming assignment = record { variable = assignment.0; named = variables_in assignment.1 }

abbrev pub begin_namings : List ExitTree → List Naming
begin_namings exits = flat_map (λ exit. if exit.back then [] else map begin_naming exit.set) exits

-- the variables of an affine value
abbrev pub value_variables : (variables : List ℕ) → ValueTree → List ℕ
value_variables variables (literal number) = []
value_variables variables (variable place) = slice_index_or variables place 0 ∷ []
value_variables variables (local number) = []
value_variables variables (input connector at) = []
value_variables variables (one sign of) = value_variables variables of
value_variables variables (two sign left right) = value_variables variables left ++ value_variables variables right
value_variables variables (choice value when other) = []

-- what is compared with an end
abbrev pub end_naming : (variables : List ℕ) → Option Comparison → List Naming
end_naming variables None = []
end_naming variables (Some comparison) =
    record { variable = slice_index_or variables comparison.place 0; named = value_variables variables comparison.bound } ∷ []

abbrev pub condition_naming : Option GuardTree → List Naming
condition_naming None = []
condition_naming (Some guard) = end_naming guard.code.variables (compared guard.code.body)

-- the variables that a transition sets, if it leads to a state
abbrev pub set_by : (state : ℕ) → ExitTree → List ℕ
set_by state exit = if nat_eq exit.to state then map (λ assignment. assignment.0) exit.set else []

abbrev pub set_to : (state : ℕ) → List ExitTree → List ℕ
set_to state exits = flat_map (set_by state) exits

abbrev pub begun_at : StateTrees → (state : ℕ) → List ℕ
begun_at no_state state = []
begun_at (and_state items exits states) state = set_to state exits ++ begun_at states state

-- those that the ends of loops name, of the loops that begin at a state
abbrev pub is_begun : (begun : List ℕ) → Naming → Bool
is_begun begun naming = has_number begun naming.variable

abbrev pub end_namings : (begun : List ℕ) → List ExitTree → List Naming
end_namings begun exits = flat_map (λ exit. filter (is_begun begun) (condition_naming exit.when)) exits

abbrev mutual
  pub kind_namings : KindTree → List Naming
  kind_namings (task code ins outs) = []
  kind_namings (map_scope sequential params private body) = param_namings params ++ item_namings body
  kind_namings (consume_scope stream element private body) = item_namings body
  kind_namings (nested_graph inner links) = []
  kind_namings (reduction resolution axis identity from to) = []
  kind_namings (copy from to) = []

  pub item_namings : ItemTrees → List Naming
  item_namings no_item = []
  item_namings (and_item line kind items) = kind_namings kind ++ item_namings items

-- all of the states from this number on, among these
abbrev pub namings_from : (all : StateTrees) → (state : ℕ) → StateTrees → List Naming
namings_from all state no_state = []
namings_from all state (and_state items exits states) =
    (begin_namings exits ++ end_namings (begun_at all state) exits) ++ (item_namings items ++ namings_from all (suc state) states)

abbrev pub namings : StateTrees → List Naming
namings states = namings_from states 0 states

-- by a table of which variables have a rank; one that the graph does not have is in no table
abbrev pub is_ranked : (table : List Bool) → (number : ℕ) → Bool
is_ranked table number = slice_index_or table number true

-- what a naming of this variable names has a rank, by a table
abbrev pub is_naming_ranked : (table : List Bool) → (number : ℕ) → Naming → Bool
is_naming_ranked table number naming = not (nat_eq naming.variable number) || list_all (is_ranked table) naming.named

-- the variables of the graph, each of whose namings name only such as have a rank by a table
abbrev pub raised : List Naming → (count : ℕ) → (table : List Bool) → List Bool
raised all count table = map (λ number. list_all (is_naming_ranked table number) all) (numbers_below count)

-- which variables have a rank of at most so much: each that they name has less
abbrev pub ranked : List Naming → (count most : ℕ) → List Bool
ranked all count zero = replicate count false
ranked all count (suc most) = raised all count (ranked all count most)

-- which variables of a graph have a rank of at most 7
unfoldable pub ranks_of : GraphTree → List Bool
ranks_of tree = ranked (namings (states_of_graph tree)) (length (variables_of tree)) 7
