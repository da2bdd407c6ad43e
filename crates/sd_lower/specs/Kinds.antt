-- Which containers the points of a map only read, and which it changes too.
use Rattle.std.specs.Prelude.{ℕ, nat_eq, List, [], ◌∷◌, ◌++◌, map, Option, Some, None, Bool, true, false, not, ◌||◌, if◌then◌else◌}
use Rattle.std.specs.List.{flat_map, fold, list_all}
use Rattle.sd_graph.specs.Mode.{Mode, Read, Write, Resolve, Push, Take}
use Rattle.sd_graph.specs.PlainTree.{GraphTree}
use Rattle.sd_graph.specs.Wiring.{has_number}
use Rattle.sd_prop.specs.propagation.Accesses.{Access}
use Rattle.sd_prop.specs.propagation.Scopes.{Over, points, elements, Scope, scope_at, top_scopes}
use Rattle.sd_lower.specs.declared.kinds.Kind.{Kind}
use Rattle.sd_lower.specs.declared.kinds.Kind.TheVariants.{Shared, Copied}
use Rattle.sd_lower.specs.declared.kinds.MapContainer.{MapContainer}

-- ---- one map

-- containers, with that of one access more where it is new
abbrev pub with_container : (known : List ℕ) → Access → List ℕ
with_container known access = if has_number known access.container then known else known ++ access.container ∷ []

-- the containers of accesses, in the order of first access
abbrev pub containers_in : List Access → List ℕ
containers_in accesses = fold with_container [] accesses

-- an access only reads
abbrev pub is_read : Mode → Bool
is_read Read = true
is_read Write = false
is_read (Resolve by) = false
is_read Push = false
is_read Take = false

-- each access of a container only reads
abbrev pub is_only_read : List Access → (container : ℕ) → Bool
is_only_read accesses container = list_all (λ access. not (nat_eq access.container container) || is_read access.mode) accesses

-- what is only read is shared, what is changed is copied
abbrev pub kind_of : List Access → (container : ℕ) → Kind
kind_of accesses container = if is_only_read accesses container then Shared else Copied

-- a container of a map with this path
abbrev pub map_container : (path : List ℕ) → List Access → (container : ℕ) → MapContainer
map_container path accesses container = record { at = record { steps = path }; container = container; kind = kind_of accesses container }

-- a map whose points are in any order is cut into pieces
abbrev pub is_cut : Over → Bool
is_cut (points true params) = false
is_cut (points false params) = true
is_cut elements = false

-- the containers of a scope that is cut into pieces; a scope that is not has no kinds
abbrev pub scope_kinds : Scope → List MapContainer
scope_kinds scope = if is_cut scope.over then map (map_container scope.path scope.accesses) (containers_in scope.accesses) else []

-- ---- a graph

-- the paths of the scopes that stand in lists of the graph's own states, in order
abbrev pub top_paths : GraphTree → List (List ℕ)
top_paths tree = map (λ scope. scope.path) (top_scopes tree)

-- the containers of a scope that was looked for
abbrev pub found_kinds : Option Scope → List MapContainer
found_kinds None = []
found_kinds (Some scope) = scope_kinds scope

-- those of the scope with a path
abbrev pub kinds_at : GraphTree → (path : List ℕ) → List MapContainer
kinds_at tree path = found_kinds (scope_at tree path)

-- those of all maps that stand in lists of the graph's own states
abbrev pub all_kinds : GraphTree → List MapContainer
all_kinds tree = flat_map (kinds_at tree) (top_paths tree)
