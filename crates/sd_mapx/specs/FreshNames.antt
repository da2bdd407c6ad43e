-- Names that a graph does not use.
use Rattle.std.specs.Prelude.{◌≡◌, ℕ, zero, suc, ◌+◌, ◌<◌, ◌≤◌, List, [], ◌∷◌, ◌++◌, length, map, Bool, true, false, bytes_eq, if◌then◌else◌, slice_index_or}
use Rattle.std.specs.List.{flat_map, list_any}
use Rattle.std.specs.Fmt.{decimal}
use Rattle.sd_graph.specs.PlainTree.{KindTree, task, map_scope, consume_scope, nested_graph, reduction, copy, ItemTrees, no_item, and_item, StateTrees, no_state, and_state, GraphTree, graph, ExitTree}
use Rattle.sd_validity.specs.rules.Places.{param_numbers}

-- the variables that transitions set
abbrev pub set_by : List ExitTree → List ℕ
set_by exits = flat_map (λ exit. map (λ assignment. assignment.0) exit.set) exits

abbrev mutual
  -- the variables of a graph that are a parameter; a nested graph has variables of its own
  pub params_in : KindTree → List ℕ
  params_in (task code ins outs) = []
  params_in (map_scope sequential params private body) = param_numbers params ++ params_among body
  params_in (consume_scope stream element private body) = params_among body
  params_in (nested_graph inner links) = []
  params_in (reduction resolution axis identity from to) = []
  params_in (copy from to) = []

  pub params_among : ItemTrees → List ℕ
  params_among no_item = []
  params_among (and_item line kind items) = params_in kind ++ params_among items

-- those that are a parameter or are set by a transition
abbrev pub variables_used : StateTrees → List ℕ
variables_used no_state = []
variables_used (and_state items exits states) = params_among items ++ (set_by exits ++ variables_used states)

-- the name of a variable
abbrev pub name_of : (variables : List (List ℕ)) → (variable : ℕ) → List ℕ
name_of variables variable = slice_index_or variables variable []

-- the names in use: of the graph's containers, and of those variables. One that only stands in the list of variables is not
abbrev pub names_in_use : GraphTree → List (List ℕ)
names_in_use (graph name containers arguments variables symbols states) =
    map (λ entry. entry.0) containers ++ map (name_of variables) (variables_used states)

abbrev pub is_used : (used : List (List ℕ)) → (name : List ℕ) → Bool
is_used used name = list_any (bytes_eq name) used

-- a name, the sign `$` and a number
abbrev pub numbered : (name : List ℕ) → (number : ℕ) → List ℕ
numbered name number = name ++ 36 ∷ decimal number

-- the first that is not used, of so many from this number on and the one behind them
abbrev pub first_unused : (many : ℕ) → (used : List (List ℕ)) → (name : List ℕ) → (number : ℕ) → List ℕ
first_unused zero used name number = numbered name number
first_unused (suc many) used name number = if is_used used (numbered name number) then first_unused many used name (number + 1) else numbered name number

-- the name with the least number from 1 on that is not used: there are fewer names that are used than numbers that are tried
abbrev pub fresh_name : (used : List (List ℕ)) → (name : List ℕ) → List ℕ
fresh_name used name = first_unused (length used) used name 1

-- fresh names for several, each used from then on
abbrev pub fresh_names : (used : List (List ℕ)) → List (List ℕ) → List (List ℕ)
fresh_names used [] = []
fresh_names used (name ∷ names) = fresh_name used name ∷ fresh_names (fresh_name used name ∷ used) names

-- what a fresh name is: the name with a number, not used, where those with a lesser number from 1 on are
pub record IsLeastUnused (used : List (List ℕ)) (name fresh : List ℕ) : Type 0 where
  pub number : ℕ
  pub from_one : 1 ≤ number
  pub told : fresh ≡ numbered name number
  pub new : is_used used fresh ≡ false
  pub least : (other : ℕ) → 1 ≤ other → other < number → is_used used (numbered name other) ≡ true
