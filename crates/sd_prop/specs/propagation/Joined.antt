-- The accesses of a scope as a whole: one for each container and mode, in the order of first access, its box the hull of all.
use Rattle.std.specs.Prelude.{ℕ, nat_eq, List, [], ◌∷◌, ◌++◌, map, Option, option_map, Bool, true, false, ◌&&◌, if◌then◌else◌}
use Rattle.std.specs.List.{filter, fold, list_any}
use Rattle.sd_subset.specs.boxes.Box.{Box}
use Rattle.sd_subset.specs.boxes.Hull.{hull}
use Rattle.sd_graph.specs.PlainTree.{GraphTree}
use Rattle.sd_graph.specs.ContainerParts.{Containers, container_at, extents_of}
use Rattle.sd_graph.specs.Mode.{Mode, Read, Write, Resolve, Push, Take, resolution_number}
use Rattle.sd_prop.specs.propagation.Accesses.{Access, access_replaced}
use Rattle.sd_prop.specs.propagation.Scopes.{Scope, params_of, scope_at, top_scopes}

abbrev pub is_same_mode : Mode → Mode → Bool
is_same_mode Read Read = true
is_same_mode Write Write = true
is_same_mode (Resolve by) (Resolve other) = nat_eq (resolution_number by) (resolution_number other)
is_same_mode Push Push = true
is_same_mode Take Take = true
is_same_mode mode other = false

-- two accesses are of one container and mode
abbrev pub is_like : Access → Access → Bool
is_like access other = nat_eq access.container other.container && is_same_mode access.mode other.mode

-- the first accesses of each container and mode
abbrev pub with_access : (known : List Access) → Access → List Access
with_access known access = if list_any (is_like access) known then known else known ++ access ∷ []

abbrev pub first_accesses : List Access → List Access
first_accesses accesses = fold with_access [] accesses

-- the boxes of the accesses that are like one
abbrev pub boxes_like : Access → List Access → List Box
boxes_like access accesses = map (λ other. other.box) (filter (is_like access) accesses)

-- an access with the hull of the boxes of those like it
abbrev pub joined_access : Containers → List Access → Access → Access
joined_access containers accesses access =
    record access { box = hull (extents_of (container_at containers access.container)) (boxes_like access accesses) }

-- one access for each container and mode, with the node of the first
abbrev pub joined_accesses : Containers → List Access → List Access
joined_accesses containers accesses = map (joined_access containers accesses) (first_accesses accesses)

-- the accesses of a scope as a whole: its own parameters replaced too, and joined
abbrev pub propagated : Scope → List Access
propagated scope = joined_accesses scope.containers (map (access_replaced (params_of scope.over)) scope.accesses)

-- those of the scope with a path; there are none where no scope has it
abbrev pub propagated_at : GraphTree → (path : List ℕ) → Option (List Access)
propagated_at tree path = option_map propagated (scope_at tree path)

-- those of each scope that stands in a list of a state of the graph itself, with its path
abbrev pub annotated : GraphTree → List (List ℕ × List Access)
annotated tree = map (λ scope. (scope.path, propagated scope)) (top_scopes tree)
