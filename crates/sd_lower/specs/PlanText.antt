-- The text of a plan: how the pieces of each map come to its containers.
use Rattle.std.specs.Prelude.{ℕ, List, [], ◌++◌, Option, Some, None, true, false, codes}
use Rattle.std.specs.List.{flat_map}
use Rattle.sd_graph.specs.ContainerParts.{Containers, name_at}
use Rattle.sd_graph.specs.PlainTree.{GraphTree}
use Rattle.sd_graph.specs.TreeParts.{containers_of}
use Rattle.sd_print.specs.graphs.GraphText.{path_text}
use Rattle.sd_prop.specs.propagation.Scopes.{Over, points, elements, Scope, scope_at}
use Rattle.sd_lower.specs.Kinds.{scope_kinds, top_paths}
use Rattle.sd_lower.specs.declared.kinds.Kind.{Kind}
use Rattle.sd_lower.specs.declared.kinds.Kind.TheVariants.{Shared, Copied}
use Rattle.sd_lower.specs.declared.kinds.MapContainer.{MapContainer}

abbrev pub kind_word : Kind → List ℕ
kind_word Shared = codes "shared"
kind_word Copied = codes "copied"

-- the line of a container, as `scope 1.1: A shared`
abbrev pub container_line : Containers → MapContainer → List ℕ
container_line containers one =
    codes "scope " ++ (path_text one.at.steps ++ (codes ": " ++ (name_at containers one.container ++ (codes " " ++ (kind_word one.kind ++ codes "\n")))))

-- the line of a scope that is one piece, as `scope 1.1: sequential`
abbrev pub whole_line : (path : List ℕ) → (word : List ℕ) → List ℕ
whole_line path word = codes "scope " ++ (path_text path ++ (codes ": " ++ (word ++ codes "\n")))

-- the lines of a scope done over this
abbrev pub lines_over : Over → Containers → Scope → List ℕ
lines_over (points true params) containers scope = whole_line scope.path (codes "sequential")
lines_over (points false params) containers scope = flat_map (container_line containers) (scope_kinds scope)
lines_over elements containers scope = whole_line scope.path (codes "board")

-- those of a scope that was looked for
abbrev pub found_lines : Containers → Option Scope → List ℕ
found_lines containers None = []
found_lines containers (Some scope) = lines_over scope.over containers scope

-- those of the scope with a path
abbrev pub lines_at : GraphTree → (path : List ℕ) → List ℕ
lines_at tree path = found_lines (containers_of tree) (scope_at tree path)

-- those of all scopes that stand in lists of the graph's own states, in order
abbrev pub plan_text : GraphTree → List ℕ
plan_text tree = flat_map (lines_at tree) (top_paths tree)
