-- What the rewrites that change the order of points ask of the scopes of a graph, which stand in its order.
use Rattle.std.specs.Prelude.{ℕ, List, [], ◌∷◌, Bool, true, false, not, ◌&&◌, ◌||◌}
use Rattle.std.specs.List.{list_all}
use Rattle.sd_prop.specs.propagation.Scopes.{Over, points, elements, Scope, is_same_path}
use Rattle.sd_race.specs.race.Tests.{is_free_of_races}

-- where this is asked of it, a scope is free of races
abbrev pub passes : (is_asked : Bool) → Scope → Bool
passes is_asked scope = not is_asked || is_free_of_races scope

-- each scope with this path is
abbrev pub is_free_at : (path : List ℕ) → List Scope → Bool
is_free_at path scopes = list_all (λ (scope : Scope). passes (is_same_path path scope.path) scope) scopes

-- where this is asked of it, the first scope is
abbrev pub first_passes : (is_asked : Bool) → List Scope → Bool
first_passes is_asked [] = true
first_passes is_asked (scope ∷ scopes) = passes is_asked scope

-- the scope behind each with this path is: for a map round one map alone, that map
abbrev pub is_free_behind : (path : List ℕ) → List Scope → Bool
is_free_behind path [] = true
is_free_behind path (scope ∷ scopes) = first_passes (is_same_path path scope.path) scopes && is_free_behind path scopes

-- a scope that is done for each element of a stream
abbrev pub is_over_elements : Over → Bool
is_over_elements (points sequential params) = false
is_over_elements elements = true

-- each of those is
abbrev pub are_pools_free : List Scope → Bool
are_pools_free scopes = list_all (λ (scope : Scope). passes (is_over_elements scope.over) scope) scopes
