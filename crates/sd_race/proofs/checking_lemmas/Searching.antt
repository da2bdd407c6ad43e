-- A search for the first pair that is not accepted, from one part of the pairs to the next.
use Rattle.std.specs.List.{AllByRecursion, flat_map}
use Rattle.std.specs.Option.{is_some}
use Rattle.std.proofs.lemmas.Bool.{true≢false}
use Rattle.std.proofs.Common.{◌≡◌, ◌↔◌, ℕ, Bool, true, false, not, IsTrue, ◌+◌, ◌<◌, List, [], ◌∷◌, ◌++◌, Option, Some, None, option_map, map, length, drop, slice_index_or, sym, subst, ◌∙◌, ap, refl, append_assoc}
use Rattle.sd_prop.specs.propagation.Accesses.{Access}
use Rattle.sd_prop.specs.propagation.Scopes.{Scope}
use Rattle.sd_race.specs.race.Pairs.{Pair, IsAccepted, IsFreeOfRaces, IsScopeAccepted, AreScopesAccepted, pair_of, pairs_among, pairs_of, asked_pairs}
use Rattle.sd_race.specs.race.Race.{Race, race_of}
use Rattle.sd_race.proofs.race_lemmas.Members.{all-parts, all-joined, asked-accepted, scope-accepted}
use Rattle.sd_race.proofs.race_lemmas.FirstLaws.{none-refused}
use Rattle.sd_subset.proofs.boxes_lemmas.Walks.{drop-next}
use Rattle.sd_race.specs.declared.checking.race.Race as told
use Rattle.sd_race.specs.checking.Found.{IsFirstOf}
use Rattle.sd_race.specs.checking.Found as found_specs

-- the race of the pairs behind accepted ones is that of all
pub first_later : (passed rest : List Pair) (race : Option Race) → AllByRecursion IsAccepted passed → IsFirstOf rest race → IsFirstOf (passed ++ rest) race
first_later passed rest None accepted all = all-joined IsAccepted passed rest accepted all
first_later passed rest (Some race) accepted first = (
  first.0,
  record {
    passed = passed ++ first.1.passed;
    rest = first.1.rest;
    split = ap (λ pairs. passed ++ pairs) first.1.split ∙ sym (append_assoc passed first.1.passed (first.0 ∷ first.1.rest));
    accepted = all-joined IsAccepted passed first.1.passed accepted first.1.accepted;
    refused = first.1.refused;
  },
  first.2,
)

-- the race of some pairs is that of all, whatever is behind them
pub first_already : (pairs behind : List Pair) (race : Race) → IsFirstOf pairs (Some race) → IsFirstOf (pairs ++ behind) (Some race)
first_already pairs behind race first = (
  first.0,
  record {
    passed = first.1.passed;
    rest = first.1.rest ++ behind;
    split = ap (λ all. all ++ behind) first.1.split ∙ append_assoc first.1.passed (first.0 ∷ first.1.rest) behind;
    accepted = first.1.accepted;
    refused = first.1.refused;
  },
  first.2,
)

-- the first pair of all is not accepted
pub first_here : (pair : Pair) (behind : List Pair) → (IsAccepted pair → ⊥) → IsFirstOf (pair ∷ behind) (Some (race_of pair))
first_here pair behind refused = (pair, record { passed = []; rest = behind; split = refl; accepted = tt; refused = refused }, refl)

-- each pair that is asked of each scope is accepted, so each scope is
pub scopes_accepted : (scopes : List Scope) → AllByRecursion IsAccepted (flat_map asked_pairs scopes) → AreScopesAccepted scopes
scopes_accepted [] all = tt
scopes_accepted (scope ∷ scopes) all =
    let parts = all-parts IsAccepted (asked_pairs scope) (flat_map asked_pairs scopes) all in
    (scope-accepted scope parts.0, scopes_accepted scopes parts.1)

module _ (scope : Scope) (access : Access) (others : List Access) (i : ℕ) (other : Access) (below : i < length others) (is : other ≡ slice_index_or others i other) where
  -- past an accepted pair
  pub pair_passed : IsAccepted (pair_of scope access other) → (race : Option Race) → IsFirstOf (map (pair_of scope access) (drop (i + 1) others)) race → IsFirstOf (map (pair_of scope access) (drop i others)) race
  pair_passed accepted race first =
      subst (λ rest. IsFirstOf (map (pair_of scope access) rest) race) (sym (drop-next others i other below is))
      (first_later (pair_of scope access other ∷ []) (map (pair_of scope access) (drop (i + 1) others)) race (accepted, tt) first)

  -- at one that is not
  pub pair_found : (IsAccepted (pair_of scope access other) → ⊥) → IsFirstOf (map (pair_of scope access) (drop i others)) (Some (race_of (pair_of scope access other)))
  pair_found refused =
      subst (λ rest. IsFirstOf (map (pair_of scope access) rest) (Some (race_of (pair_of scope access other)))) (sym (drop-next others i other below is))
      (first_here (pair_of scope access other) (map (pair_of scope access) (drop (i + 1) others)) refused)

module _ (scopes : List Scope) (i : ℕ) (scope : Scope) (below : i < length scopes) (is : scope ≡ slice_index_or scopes i scope) where
  -- past an accepted scope
  pub scope_passed : IsScopeAccepted scope → (race : Option Race) → IsFirstOf (flat_map asked_pairs (drop (i + 1) scopes)) race → IsFirstOf (flat_map asked_pairs (drop i scopes)) race
  scope_passed accepted race first =
      subst (λ rest. IsFirstOf (flat_map asked_pairs rest) race) (sym (drop-next scopes i scope below is))
      (first_later (asked_pairs scope) (flat_map asked_pairs (drop (i + 1) scopes)) race (asked-accepted scope accepted) first)

  -- at one with a race
  pub scope_found : (race : Race) → IsFirstOf (asked_pairs scope) (Some race) → IsFirstOf (flat_map asked_pairs (drop i scopes)) (Some race)
  scope_found race first =
      subst (λ rest. IsFirstOf (flat_map asked_pairs rest) (Some race)) (sym (drop-next scopes i scope below is))
      (first_already (asked_pairs scope) (flat_map asked_pairs (drop (i + 1) scopes)) race first)

module _ (scope : Scope) (access : Access) (left behind : List Access) (is : left ≡ access ∷ behind) where
  -- past an access without a race
  pub access_passed : AllByRecursion IsAccepted (map (pair_of scope access) left) → (race : Option Race) → IsFirstOf (pairs_among scope behind) race → IsFirstOf (pairs_among scope left) race
  access_passed accepted race first =
      subst (λ all. IsFirstOf (pairs_among scope all) race) (sym is)
      (first_later (map (pair_of scope access) (access ∷ behind)) (pairs_among scope behind) race (subst (λ all. AllByRecursion IsAccepted (map (pair_of scope access) all)) is accepted) first)

  -- at one with a race
  pub access_found : (race : Race) → IsFirstOf (map (pair_of scope access) left) (Some race) → IsFirstOf (pairs_among scope left) (Some race)
  access_found race first =
      subst (λ all. IsFirstOf (pairs_among scope all) (Some race)) (sym is)
      (first_already (map (pair_of scope access) (access ∷ behind)) (pairs_among scope behind) race (subst (λ all. IsFirstOf (map (pair_of scope access) all) (Some race)) is first))

-- what a search answers of pairs, where it found none
pub none_found : (pairs : List Pair) (found : Option told.Race) → ((race : told.Race) → found ≡ Some race → ⊥) → IsFirstOf pairs (option_map found_specs.race_of found) → AllByRecursion IsAccepted pairs
none_found pairs None not first = first
none_found pairs (Some race) not first = absurd (not race refl)

-- and where it found one
pub some_found : (pairs : List Pair) (found : Option told.Race) (race : told.Race) → found ≡ Some race → IsFirstOf pairs (option_map found_specs.race_of found) → IsFirstOf pairs (Some (found_specs.race_of race))
some_found pairs found race is first = subst (λ some. IsFirstOf pairs (option_map found_specs.race_of some)) is first

-- a scope is free of races exactly where a search finds none in it
pub scope_verdict : (scope : Scope) (found : Option told.Race) (is : Bool) → is_some found ≡ not is → IsFirstOf (pairs_of scope) (option_map found_specs.race_of found) → IsTrue is ↔ IsFreeOfRaces scope
scope_verdict scope None true none first = (λ yes. first, λ accepted. refl)
scope_verdict scope None false none first = absurd (true≢false (sym none))
scope_verdict scope (Some race) true none first = absurd (true≢false none)
scope_verdict scope (Some race) false none first = (λ yes. absurd (true≢false (sym yes)), λ accepted. absurd (none-refused (pairs_of scope) first.0 accepted first.1))
