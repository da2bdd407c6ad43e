-- Which scopes the check asks: those that are no sequential maps.
use Rattle.std.specs.List.{Contains}
use Rattle.std.proofs.Common.{◌≡◌, ◌↔◌, inl, inr, Bool, true, false, if◌then◌else◌, List, [], ◌∷◌, ◌++◌, map, refl, ap, sym, ◌∙◌, subst}
use Rattle.std.proofs.lemmas.List.Elements.{Contains-append_cases, Contains-append_right}
use Rattle.sd_range.proofs.Members.{Contains-nil, Contains-first, Contains-from_map, Contains-from_flat_map}
use Rattle.sd_subset.proofs.boxes_lemmas.Disjoint.{of_member}
use Rattle.sd_graph.specs.PlainTree.{GraphTree}
use Rattle.sd_prop.specs.propagation.Accesses.{Access}
use Rattle.sd_prop.specs.propagation.Scopes.{is_sequential, Scope, all_scopes}
use Rattle.sd_race.specs.race.Pairs.{Pair, pair_of, pairs_among, pairs_of, asked_pairs, IsFreeOfRaces, IsScopeAccepted, IsGraphAccepted}
use Rattle.sd_race.specs.race.Race.{Race, IsRaceOf}
use Rattle.sd_race.proofs.race_lemmas.Members.{all-of_each}

pub accepted-where : (tree : GraphTree) → IsGraphAccepted tree ↔ ((scope : Scope) → Contains (all_scopes tree) scope → is_sequential scope.over ≡ false → IsFreeOfRaces scope)
accepted-where tree = (
  λ accepted scope member. of_member IsScopeAccepted (all_scopes tree) scope accepted member,
  λ each. all-of_each IsScopeAccepted (all_scopes tree) each,
)

-- a pair of a scope is of this scope
pair-of : (scope : Scope) (accesses : List Access) (pair : Pair) → Contains (pairs_among scope accesses) pair → pair.scope ≡ scope
pair-of scope [] pair member = absurd (Contains-nil pair member)
pair-of scope (access ∷ accesses) pair member =
    elim (Contains-append_cases (map (pair_of scope access) (access ∷ accesses)) (pairs_among scope accesses) pair member) [
      | inl here ↦ let (other, at, is) = Contains-from_map (pair_of scope access) (access ∷ accesses) pair here in ap (λ (p : Pair). p.scope) (sym is)
      | inr later ↦ pair-of scope accesses pair later
    ]

-- a scope that is asked for a pair is no sequential map
asked-of : (marked : Bool) (pairs : List Pair) (pair : Pair) → Contains (if marked then [] else pairs) pair → (marked ≡ false) × Contains pairs pair
asked-of true pairs pair member = absurd (Contains-nil pair member)
asked-of false pairs pair member = (refl, member)

pub race-of : (tree : GraphTree) (race : Race) → IsRaceOf tree race → (scope : Scope) × Contains (all_scopes tree) scope × (is_sequential scope.over ≡ false) × (race.at ≡ scope.path)
race-of tree race is =
    let pair = is.pair in
    let member : Contains (is.first.passed ++ pair ∷ is.first.rest) pair = Contains-append_right is.first.passed (pair ∷ is.first.rest) pair (Contains-first pair is.first.rest) in
    let (scope, among, at) = Contains-from_flat_map asked_pairs (all_scopes tree) pair (subst (λ pairs. Contains pairs pair) (sym is.first.split) member) in
    let (unmarked, own) = asked-of (is_sequential scope.over) (pairs_of scope) pair at in
    (scope, among, unmarked, ap (λ (told : Race). told.at) is.told ∙ ap (λ (s : Scope). s.path) (pair-of scope scope.accesses pair own))
