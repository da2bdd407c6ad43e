-- What the tests of scopes tell.
use Rattle.std.proofs.Common.{◌≡◌, ℕ, nat_eq, ◌+◌, ◌<◌, List, [], ◌∷◌, drop, take, length, ◌≤◌, ◌-◌, zero, suc, slice_index_or, Bool, true, false, ◌&&◌, refl, ap, sym, ◌∙◌, ◌↔◌, IsTrue, arith}
use Rattle.std.proofs.Math.Seq.{drop-nil}
use Rattle.std.specs.Str.{bytes_eq}
use Rattle.sd_subset.proofs.boxes_lemmas.Walks.{drop-next}
use Rattle.sd_graph.specs.PlainTree.{GraphTree}
use Rattle.sd_prop.specs.propagation.Scopes.{Over, points, elements, Scope, is_same_path, all_scopes}
use Rattle.sd_prop.proofs.collecting_lemmas.Paths.{same_numbers}
use Rattle.sd_race.specs.race.Pairs.{IsFreeOfRaces}
use Rattle.sd_race.specs.race.Tests.{is_free_of_races}
use Rattle.sd_race.proofs.race_lemmas.Deciding.{free-decides}
use Rattle.sd_safe.proofs.fit_lemmas.Members.{each-passes}
use Rattle.sd_exchange.specs.maps.AcceptedPools.{IsOverElements, IsPoolAccepted, ArePoolsAccepted}
use Rattle.sd_mapx.specs.ScopeTests.{passes, is_free_at, first_passes, is_free_behind, is_over_elements, are_pools_free}
use Rattle.sd_mapx.proofs.FreeThere.{AreFreeAt}

same_number : (number : ℕ) → nat_eq number number ≡ true
same_number number = grind arith

same_path : (path : List ℕ) → is_same_path path path ≡ true
same_path [] = refl
same_path (number ∷ path) = ap (λ same. same && is_same_path path path) (same_number number) ∙ same_path path

passed : (is_asked : Bool) (scope : Scope) → passes is_asked scope ≡ true → is_asked ≡ true → IsFreeOfRaces scope
passed true scope is asked = (free-decides scope).0 is
passed false scope is asked = cc

pub free_at : (path : List ℕ) (scopes : List Scope) → is_free_at path scopes ≡ true → AreFreeAt path scopes
free_at path scopes is =
    each-passes (λ (scope : Scope). scope.path ≡ path → IsFreeOfRaces scope) (λ (scope : Scope). passes (is_same_path path scope.path) scope)
    (λ scope is same. passed (is_same_path path scope.path) scope is (ap (is_same_path path) same ∙ same_path path)) scopes is

over_elements : (over : Over) → IsOverElements over → is_over_elements over ≡ true
over_elements (points sequential params) is = absurd is
over_elements elements is = refl

pub pools_free : (tree : GraphTree) → are_pools_free (all_scopes tree) ≡ true → ArePoolsAccepted tree
pools_free tree is =
    each-passes IsPoolAccepted (λ (scope : Scope). passes (is_over_elements scope.over) scope)
    (λ scope is pool parallel. passed (is_over_elements scope.over) scope is (over_elements scope.over pool)) (all_scopes tree) is

-- the code's answer is the test's
pub as_tested : (told : Bool) (scope : Scope) → IsTrue told ↔ IsFreeOfRaces scope → told ≡ is_free_of_races scope
as_tested told scope means = same told (is_free_of_races scope) (λ is. (free-decides scope).1 (means.0 is)) (λ is. means.1 ((free-decides scope).0 is))
  where
    same : (told test : Bool) → (IsTrue told → test ≡ true) → (test ≡ true → IsTrue told) → told ≡ test
    same true true there back = refl
    same true false there back = sym (there refl)
    same false true there back = back refl
    same false false there back = refl

-- ---- one scope more of those that are left

take_all : {A : Type 0} (count : ℕ) (members : List A) → length members ≤ count → take count members ≡ members
take_all zero [] all = refl
take_all (suc count) [] all = refl
take_all zero (first ∷ members) all = absurd (omega (arith, all))
take_all (suc count) (first ∷ members) all = ap (λ rest. first ∷ rest) (take_all count members (omega (arith, all)))

-- a list from a number on
pub all_left : {A : Type 0} (number : ℕ) (members : List A) → take (length members - number) (drop number members) ≡ drop number members
all_left number [] = ap (take (0 - number)) (drop-nil number) ∙ take_all (0 - number) [] (omega arith) ∙ sym (drop-nil number)
all_left zero (first ∷ members) = take_all (length (first ∷ members) - 0) (first ∷ members) (omega arith)
all_left (suc number) (first ∷ members) =
    let less : length (first ∷ members) - suc number ≡ length members - number = omega arith in
    ap (λ count. take count (drop number members)) less ∙ all_left number members

module _ (path : List ℕ) (scopes : List Scope) (i : ℕ) (scope : Scope) (within : i < length scopes) (is : scope ≡ slice_index_or scopes i scope) (asked : Bool) (same : bytes_eq path scope.path ≡ asked) where
  asked_is : is_same_path path scope.path ≡ asked
  asked_is = same_numbers path scope.path ∙ same

  pub at_next : is_free_at path (drop i scopes) ≡ (passes asked scope && is_free_at path (drop (i + 1) scopes))
  at_next =
      ap (is_free_at path) (drop-next scopes i scope within is)
      ∙ ap (λ asked. passes asked scope && is_free_at path (drop (i + 1) scopes)) asked_is

  pub behind_next : is_free_behind path (drop i scopes) ≡ (first_passes asked (drop (i + 1) scopes) && is_free_behind path (drop (i + 1) scopes))
  behind_next =
      ap (is_free_behind path) (drop-next scopes i scope within is)
      ∙ ap (λ asked. first_passes asked (drop (i + 1) scopes) && is_free_behind path (drop (i + 1) scopes)) asked_is
