-- The pairs of accesses that the race check asks, and when they are accepted.
use Rattle.std.specs.Prelude.{◌≡◌, List, [], ◌∷◌, ◌++◌, map, true, false, if◌then◌else◌}
use Rattle.std.specs.List.{AllByRecursion, flat_map}
use Rattle.sd_subset.specs.boxes.Box.{Parameter, Box}
use Rattle.sd_subset.specs.boxes.Apart.{AreHarmless}
use Rattle.sd_graph.specs.Mode.{do_conflict}
use Rattle.sd_graph.specs.PlainTree.{GraphTree}
use Rattle.sd_prop.specs.propagation.Accesses.{Access}
use Rattle.sd_prop.specs.propagation.Scopes.{Over, points, elements, is_sequential, Scope, all_scopes}

-- two accesses of a scope's body
pub record Pair : Type 0 where
  pub scope : Scope
  pub first : Access
  pub second : Access

abbrev pub pair_of : Scope → (first second : Access) → Pair
pair_of scope first second = record { scope = scope; first = first; second = second }

-- each pair of these accesses, one with itself included, in the order of the first and then of the second
abbrev pub pairs_among : Scope → List Access → List Pair
pairs_among scope [] = []
pairs_among scope (access ∷ accesses) = map (pair_of scope access) (access ∷ accesses) ++ pairs_among scope accesses

abbrev pub pairs_of : Scope → List Pair
pairs_of scope = pairs_among scope scope.accesses

-- the pairs that the check asks of a scope: none of a sequential map, whose points come one after another
abbrev pub asked_pairs : Scope → List Pair
asked_pairs scope = if is_sequential scope.over then [] else pairs_of scope

-- those of each scope of a graph, in their order; scopes inside a sequential map are asked as all others are
abbrev pub all_pairs : GraphTree → List Pair
all_pairs tree = flat_map asked_pairs (all_scopes tree)

-- boxes that share no element where a scope's body is done twice: at two points of a map; no two are known to for two elements of a stream
abbrev pub AreHarmlessOver : Over → (around : List Parameter) → Box → Box → Type 0
AreHarmlessOver (points sequential params) around box other = AreHarmless around params box other
AreHarmlessOver elements around box other = ⊥

-- a pair is accepted: where it is of one container, in modes that conflict, its boxes are harmless
abbrev pub IsAccepted : Pair → Type 0
IsAccepted pair =
    pair.first.container ≡ pair.second.container → do_conflict pair.first.mode pair.second.mode ≡ true →
    AreHarmlessOver pair.scope.over pair.scope.around pair.first.box pair.second.box

-- a scope is free of races, whether it is sequential or not: each pair of its accesses is accepted
abbrev pub IsFreeOfRaces : Scope → Type 0
IsFreeOfRaces scope = AllByRecursion IsAccepted (pairs_of scope)

-- a scope is accepted: where it is not sequential, it is free of races
abbrev pub IsScopeAccepted : Scope → Type 0
IsScopeAccepted scope = is_sequential scope.over ≡ false → IsFreeOfRaces scope

abbrev pub AreScopesAccepted : List Scope → Type 0
AreScopesAccepted scopes = AllByRecursion IsScopeAccepted scopes

-- a graph: each of its scopes is
abbrev pub IsGraphAccepted : GraphTree → Type 0
IsGraphAccepted tree = AreScopesAccepted (all_scopes tree)
