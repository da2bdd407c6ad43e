-- What holds of all members of lists, part by part, and the pairs of an accepted scope.
use Rattle.std.specs.List.{AllByRecursion, Contains, flat_map}
use Rattle.std.proofs.Common.{◌≡◌, inl, inr, Bool, true, false, if◌then◌else◌, List, [], ◌∷◌, ◌++◌, map, refl, ap, sym, subst, ◌∙◌}
use Rattle.sd_range.proofs.Members.{Contains-nil, Contains-first, Contains-cases, Contains-later, Contains-map}
use Rattle.sd_subset.proofs.boxes_lemmas.Disjoint.{of_member}
use Rattle.sd_race.proofs.race_lemmas.Modes.{do_conflict-turned}
use Rattle.sd_prop.specs.propagation.Accesses.{Access}
use Rattle.sd_prop.specs.propagation.Scopes.{is_sequential, Scope}
use Rattle.sd_race.specs.race.Pairs.{pair_of, pairs_among, pairs_of, asked_pairs, IsAccepted, IsFreeOfRaces, IsScopeAccepted}
use Rattle.sd_race.proofs.race_lemmas.Symmetric.{harmless_over-turned}

-- what holds of all of two lists, one behind the other, holds of all of each
pub all-parts : {A : Type 0} (P : A → Type 0) (xs ys : List A) → AllByRecursion P (xs ++ ys) → AllByRecursion P xs × AllByRecursion P ys
all-parts P [] ys all = (tt, all)
all-parts P (x ∷ xs) ys all = let parts = all-parts P xs ys all.1 in ((all.0, parts.0), parts.1)

-- and the other way
pub all-joined : {A : Type 0} (P : A → Type 0) (xs ys : List A) → AllByRecursion P xs → AllByRecursion P ys → AllByRecursion P (xs ++ ys)
all-joined P [] ys first second = second
all-joined P (x ∷ xs) ys first second = (first.0, all-joined P xs ys first.1 second)

-- what holds of each member holds of all
pub all-of_each : {A : Type 0} (P : A → Type 0) (xs : List A) → ((x : A) → Contains xs x → P x) → AllByRecursion P xs
all-of_each P [] each = tt
all-of_each P (x ∷ xs) each = (each x (Contains-first x xs), all-of_each P xs (λ other member. each other (Contains-later x xs other member)))

-- of a scope that is not sequential all pairs are asked
pub asked-all : (scope : Scope) → is_sequential scope.over ≡ false → asked_pairs scope ≡ pairs_of scope
asked-all scope is = ap (λ marked. if marked then [] else pairs_of scope) is

-- what is asked of a scope is accepted where the scope is
pub asked-accepted : (scope : Scope) → IsScopeAccepted scope → AllByRecursion IsAccepted (asked_pairs scope)
asked-accepted scope accepted = by_mark (is_sequential scope.over) accepted where
  by_mark : (marked : Bool) → (marked ≡ false → IsFreeOfRaces scope) → AllByRecursion IsAccepted (if marked then [] else pairs_of scope)
  by_mark true free = tt
  by_mark false free = free refl

-- and the other way
pub scope-accepted : (scope : Scope) → AllByRecursion IsAccepted (asked_pairs scope) → IsScopeAccepted scope
scope-accepted scope accepted is = subst (AllByRecursion IsAccepted) (asked-all scope is) accepted

-- the pairs that are asked of accepted scopes
pub pairs-accepted : (scopes : List Scope) → AllByRecursion IsScopeAccepted scopes → AllByRecursion IsAccepted (flat_map asked_pairs scopes)
pairs-accepted [] accepted = tt
pairs-accepted (scope ∷ scopes) accepted = all-joined IsAccepted (asked_pairs scope) (flat_map asked_pairs scopes) (asked-accepted scope accepted.0) (pairs-accepted scopes accepted.1)

-- a pair may be turned
pub accepted-turned : (scope : Scope) (access other : Access) → IsAccepted (pair_of scope access other) → IsAccepted (pair_of scope other access)
accepted-turned scope access other accepted same conflict =
    harmless_over-turned scope.over scope.around access.box other.box (accepted (sym same) (do_conflict-turned other.mode access.mode ∙ conflict))

-- each two accesses of which each pair is accepted
pub accepted-two : (scope : Scope) (accesses : List Access) → AllByRecursion IsAccepted (pairs_among scope accesses) → (access other : Access) → Contains accesses access → Contains accesses other → IsAccepted (pair_of scope access other)
accepted-two scope [] all access other member second = absurd (Contains-nil access member)
accepted-two scope (first ∷ accesses) all access other member second =
    let parts = all-parts IsAccepted (map (pair_of scope first) (first ∷ accesses)) (pairs_among scope accesses) all in
    let with_first : (x : Access) → Contains (first ∷ accesses) x → IsAccepted (pair_of scope first x) =
    λ x at. of_member IsAccepted (map (pair_of scope first) (first ∷ accesses)) (pair_of scope first x) parts.0 (Contains-map (pair_of scope first) (first ∷ accesses) x at) in
    elim (Contains-cases first accesses access member) [
      | inl is ↦ subst (λ x. IsAccepted (pair_of scope x other)) is (with_first other second)
      | inr later ↦ elim (Contains-cases first accesses other second) [
        | inl is ↦ subst (λ x. IsAccepted (pair_of scope access x)) is (accepted-turned scope first access (with_first access (Contains-later first accesses access later)))
        | inr behind ↦ accepted-two scope accesses parts.1 access other later behind
      ]
    ]
