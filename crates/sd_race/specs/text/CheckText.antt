-- The text of the check of an accepted graph.
use Rattle.std.specs.Prelude.{ℕ, List, [], ◌∷◌, ◌++◌, length, codes}
use Rattle.std.specs.List.{flat_map}
use Rattle.sd_graph.specs.ContainerParts.{Containers}
use Rattle.sd_graph.specs.LoopScope.{loops_in_force}
use Rattle.sd_graph.specs.PlainTree.{StateTrees, GraphTree, graph}
use Rattle.sd_print.specs.graphs.GraphText.{path_text}
use Rattle.sd_prop.specs.propagation.Accesses.{Access}
use Rattle.sd_prop.specs.propagation.Joined.{annotated}
use Rattle.sd_race.specs.text.AccessText.{use_text, touched_text}

-- a scope's path and its accesses as a whole
abbrev pub WholeScope : Type 0
WholeScope = List ℕ × List Access

-- the state in which the scope with a path stands
abbrev pub state_of : (path : List ℕ) → ℕ
state_of [] = 0
state_of (state ∷ path) = state

module _ (names : List (List ℕ)) (containers : Containers) (order : List ℕ) where
  -- the line of an access, as `scope 1.1: read A[0:3]`
  abbrev pub access_line : (path : List ℕ) → Access → List ℕ
  access_line path access =
      codes "scope " ++ (path_text path ++ (codes ": " ++ (use_text containers access ++ (touched_text names containers order access ++ codes "\n"))))

  -- a line for each access of a scope
  abbrev pub scope_text : WholeScope → List ℕ
  scope_text scope = flat_map (access_line scope.0) scope.1

-- the lines of a scope of one of a graph's own states, variables being from the outermost loop in force there
abbrev pub scope_lines : (names : List (List ℕ)) → Containers → (states : StateTrees) → WholeScope → List ℕ
scope_lines names containers states scope = scope_text names containers (loops_in_force states (length names) (state_of scope.0)) scope

-- those of several scopes of a graph
abbrev pub scopes_text : GraphTree → List WholeScope → List ℕ
scopes_text (graph name containers arguments variables symbols states) scopes = flat_map (scope_lines variables containers states) scopes

-- the lines of the scopes in lists of the graph's own states, and that the graph is accepted
abbrev pub check_text : GraphTree → List ℕ
check_text tree = scopes_text tree (annotated tree) ++ codes "accepted\n"
