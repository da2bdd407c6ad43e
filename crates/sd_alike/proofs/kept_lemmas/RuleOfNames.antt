-- The rule of names holds of a graph exactly where its part on single places does, and in each graph what is made its own or a parameter is so once.
use Rattle.std.proofs.Common.{◌≡◌, ◌∙◌, ℕ, List, [], ◌∷◌, ◌++◌, Bool, true, false, ◌&&◌, Some, None, if◌then◌else◌, bytes_eq, refl, sym, ap, subst}
use Rattle.std.specs.List.{AllByRecursion, list_all, flat_map}
use Rattle.std.proofs.lemmas.Slice.Eq.{bytes_eq-Decides}
use Rattle.sd_graph.specs.PlainTree.{GraphTree, graph}
use Rattle.sd_graph.specs.TreeParts.{containers_of}
use Rattle.sd_validity.specs.rules.Places.{Thing, whole, leaving, doing, Place, places_of, all_places}
use Rattle.sd_validity.specs.rules.Failing.{failing, Holds}
use Rattle.sd_validity.specs.rules.NamesInForce.{held_at, params_at, set_at, of_graph, numbers_at, are_new, are_apart, are_own_private, are_private_held, is_each_held, are_symbols_apart, are_single, are_names_in_force, rule_1}
use Rattle.sd_validity.specs.things.Behind.{AllBehind, things_at, StandsBehind}
use Rattle.sd_validity.proofs.rules_lemmas.HoldingLemmas.{both, each_passes, parts}
use Rattle.sd_validity.proofs.things_lemmas.Walked.{places_walked}
use Rattle.sd_alike.proofs.kept_lemmas.Held.{HoldsAll}
use Rattle.sd_alike.proofs.kept_lemmas.HeldPlaces.{test_of, joined, all_held, all_passes}
use Rattle.sd_alike.proofs.kept_lemmas.NamesAsked.{names_asked}
use Rattle.sd_alike.proofs.kept_lemmas.OnceThings.{AreOnce, IsSingle, once_more, once_part, once_single}
use Rattle.sd_alike.proofs.kept_lemmas.OwnThings.{things_of, things_joined, at_own, own_things}
use Rattle.sd_alike.proofs.kept_lemmas.EachGraph.{EachGraph, IsPart, graph_places, graph_each}
use Rattle.sd_alike.proofs.kept_lemmas.NumbersKept.{IsOnceGraph}

-- ---- the parts of the rule at a place

numbers_are : (numbers : Thing → List ℕ) (places : List Place) → numbers_at numbers places ≡ flat_map numbers (things_at places)
numbers_are numbers [] = refl
numbers_are numbers (place ∷ places) = ap (λ rest. numbers place.thing ++ rest) (numbers_are numbers places)

-- its four parts
record IsNamedAt (before : List Place) (place : Place) : Type 0 where
  names : are_names_in_force place ≡ true
  held : is_each_held place.graph place.thing ≡ true
  apart : are_symbols_apart place.graph place.thing ≡ true
  own : are_own_private (containers_of place.graph) place.thing ≡ true
  single : are_single (of_graph before place) place.thing ≡ true

named_at : (before : List Place) (place : Place) → rule_1 before place ≡ true → IsNamedAt before place
named_at before place is =
    let held = is_each_held place.graph place.thing in
    let apart = are_symbols_apart place.graph place.thing in
    let own = are_own_private (containers_of place.graph) place.thing in
    let single = are_single (of_graph before place) place.thing in
    let parts = both (are_names_in_force place && (held && apart)) (own && single) is in
    let first = both (are_names_in_force place) (held && apart) parts.0 in
    let graph_parts = both held apart first.1 in
    let rest = both own single parts.1 in
    record { names = first.0; held = graph_parts.0; apart = graph_parts.1; own = rest.0; single = rest.1 }

names_of : (before : List Place) (place : Place) → rule_1 before place ≡ true → test_of names_asked place ≡ true
names_of before place is =
    let at = named_at before place is in
    joined (are_names_in_force place && are_symbols_apart place.graph place.thing) (are_own_private (containers_of place.graph) place.thing)
    (joined (are_names_in_force place) (are_symbols_apart place.graph place.thing) at.names at.apart) at.own

held_of : (before : List Place) (place : Place) → rule_1 before place ≡ true → is_each_held place.graph place.thing ≡ true
held_of before place is = (named_at before place is).held

single_of : (before : List Place) (place : Place) → rule_1 before place ≡ true → IsSingle (things_of place.graph_path before) place.thing
single_of before place is =
    let earlier = of_graph before place in
    let single = (named_at before place is).single in
    let held = are_new (numbers_at held_at earlier) (held_at place.thing) in
    let new = are_new (numbers_at params_at earlier ++ numbers_at set_at earlier) (params_at place.thing) in
    let first = both (held && new) (are_apart (numbers_at params_at earlier) (set_at place.thing)) single in
    let two = both held new first.0 in
    record {
      held = sym (ap (λ known. are_new known (held_at place.thing)) (numbers_are held_at earlier)) ∙ two.0;
      params = (λ i. are_new (sym (numbers_are params_at earlier) i ++ sym (numbers_are set_at earlier) i) (params_at place.thing)) ∙ two.1;
      unset = sym (ap (λ known. are_apart known (set_at place.thing)) (numbers_are params_at earlier)) ∙ first.1;
    }

single_is : (before : List Place) (place : Place) → IsSingle (things_of place.graph_path before) place.thing → are_single (of_graph before place) place.thing ≡ true
single_is before place single =
    let earlier = of_graph before place in
    joined (are_new (numbers_at held_at earlier) (held_at place.thing) && are_new (numbers_at params_at earlier ++ numbers_at set_at earlier) (params_at place.thing)) (are_apart (numbers_at params_at earlier) (set_at place.thing))
    (joined (are_new (numbers_at held_at earlier) (held_at place.thing)) (are_new (numbers_at params_at earlier ++ numbers_at set_at earlier) (params_at place.thing))
    (ap (λ known. are_new known (held_at place.thing)) (numbers_are held_at earlier) ∙ single.held)
    ((λ i. are_new (numbers_are params_at earlier i ++ numbers_are set_at earlier i) (params_at place.thing)) ∙ single.params))
    (ap (λ known. are_apart known (set_at place.thing)) (numbers_are params_at earlier) ∙ single.unset)

-- ---- from the rule

passed_first : (before : List Place) (place : Place) (places : List Place) (passes : Bool) → rule_1 before place ≡ passes →
    (if passes then failing rule_1 (before ++ place ∷ []) places else Some place.path) ≡ None → (rule_1 before place ≡ true) × (failing rule_1 (before ++ place ∷ []) places ≡ None)
passed_first before place places true passes none = (passes, none)
passed_first before place places false passes none = cc

one_more : (path : List ℕ) (before : List Place) (place : Place) (same : Bool) → bytes_eq place.graph_path path ≡ same → AreOnce (things_of path before) → IsSingle (things_of place.graph_path before) place.thing →
    AreOnce (things_of path (before ++ place ∷ []))
one_more path before place true is once single =
    let equal : place.graph_path ≡ path = (bytes_eq-Decides place.graph_path path).0 is in
    subst AreOnce (sym (things_joined path before (place ∷ []) ∙ ap (λ rest. things_of path before ++ rest) (at_own path place [] true is)))
    (once_more (things_of path before) place.thing once (subst (λ path. IsSingle (things_of path before) place.thing) equal single))
one_more path before place false is once single =
    subst AreOnce (sym (things_joined path before (place ∷ []) ∙ ap (λ rest. things_of path before ++ rest) (at_own path place [] false is) ∙ nothing (things_of path before))) once
  where
    nothing : (things : List Thing) → things ++ [] ≡ things
    nothing [] = refl
    nothing (thing ∷ things) = ap (λ rest. thing ∷ rest) (nothing things)

again : (before : List Place) (place : Place) (places : List Place) → (before ++ place ∷ []) ++ places ≡ before ++ place ∷ places
again [] place places = refl
again (first ∷ before) place places = ap (λ rest. first ∷ rest) (again before place places)

once_along : (before places : List Place) → failing rule_1 before places ≡ None → ((path : List ℕ) → AreOnce (things_of path before)) → (path : List ℕ) → AreOnce (things_of path (before ++ places))
once_along before [] none once path = subst (λ all. AreOnce (things_of path all)) (sym (nothing before)) (once path)
  where
    nothing : (places : List Place) → places ++ [] ≡ places
    nothing [] = refl
    nothing (place ∷ places) = ap (λ rest. place ∷ rest) (nothing places)
once_along before (place ∷ places) none once path =
    let first = passed_first before place places (rule_1 before place) refl none in
    subst (λ all. AreOnce (things_of path all)) (again before place places)
    (once_along (before ++ place ∷ []) places first.1
    (λ path. one_more path before place (bytes_eq place.graph_path path) refl (once path) (single_of before place first.0)) path)

-- what is known of each graph
pub record IsNamedGraph (tree : GraphTree) : Type 0 where
  pub once : IsOnceGraph tree
  pub named : HoldsAll names_asked tree

module _ (tree : GraphTree) (holds : Holds rule_1 tree) where
  names_pass : list_all (test_of names_asked) (all_places tree) ≡ true
  names_pass = each_passes rule_1 (test_of names_asked) names_of [] (all_places tree) holds

  pub symbols_pass : list_all (λ (place : Place). are_symbols_apart place.graph place.thing) (all_places tree) ≡ true
  symbols_pass = each_passes rule_1 (λ (place : Place). are_symbols_apart place.graph place.thing) (λ before place is. (named_at before place is).apart) [] (all_places tree) holds

  pub names_held : HoldsAll names_asked tree
  names_held = all_held names_asked tree [] 0 names_pass

  part_once : (inner : GraphTree) (path : List ℕ) (depth : ℕ) → IsPart (λ tree. IsNamedGraph tree) (all_places tree) (places_of inner path depth) → IsNamedGraph inner
  part_once inner path depth (before, (behind, e)) =
      let mid = places_of inner path depth in
      let all = once_along [] (all_places tree) holds (λ path. record { held = refl; params = refl; apart = λ n param set. no_number n param }) path in
      let tests = each_passes rule_1 (λ place. is_each_held place.graph place.thing) held_of [] (all_places tree) holds in
      let split = parts (λ place. is_each_held place.graph place.thing) before (mid ++ behind) (sym (ap (list_all (λ place. is_each_held place.graph place.thing)) e) ∙ tests) in
      let here = parts (λ place. is_each_held place.graph place.thing) mid behind split.1 in
      let named = parts (test_of names_asked) before (mid ++ behind) (sym (ap (list_all (test_of names_asked)) e) ∙ names_pass) in
      record {
        once = record {
          once = subst AreOnce (own_things inner path depth)
              (once_part (things_of path before) (things_of path mid) (things_of path behind)
              (subst AreOnce (ap (things_of path) e ∙ things_joined path before (mid ++ behind) ∙ ap (λ rest. things_of path before ++ rest) (things_joined path mid behind)) all));
          held = first_held inner path depth here.0;
        };
        named = all_held names_asked inner path depth (parts (test_of names_asked) mid behind named.1).0;
      }
    where
      no_number : (n : ℕ) → false ≡ true → ⊥
      no_number n none = cc

      first_held : (inner : GraphTree) (path : List ℕ) (depth : ℕ) → list_all (λ place. is_each_held place.graph place.thing) (places_of inner path depth) ≡ true → are_private_held inner ≡ true
      first_held (graph name containers arguments variables symbols states) path depth all = (both (are_private_held (graph name containers arguments variables symbols states)) _ all).0

  pub each_once : EachGraph (λ tree. IsNamedGraph tree) tree
  each_once = graph_each (λ tree. IsNamedGraph tree) (all_places tree) part_once tree [] 0 ([], ([], sym (nothing (all_places tree))))
    where
      nothing : (places : List Place) → places ++ [] ≡ places
      nothing [] = refl
      nothing (place ∷ places) = ap (λ rest. place ∷ rest) (nothing places)

-- ---- to the rule

each_held_at : (tree : GraphTree) (thing : Thing) → are_private_held tree ≡ true → is_each_held tree thing ≡ true
each_held_at tree whole is = is
each_held_at tree (leaving items exits) is = refl
each_held_at tree (doing kind) is = refl

rule_at : (before : List Place) (place : Place) → StandsBehind before place → test_of names_asked place ≡ true → IsOnceGraph place.graph → rule_1 before place ≡ true
rule_at before place (rest, stands) named once =
    let held = is_each_held place.graph place.thing in
    let apart = are_symbols_apart place.graph place.thing in
    let own = are_own_private (containers_of place.graph) place.thing in
    let names = both (are_names_in_force place && apart) own named in
    let first = both (are_names_in_force place) apart names.0 in
    joined (are_names_in_force place && (held && apart)) (own && are_single (of_graph before place) place.thing)
    (joined (are_names_in_force place) (held && apart) first.0 (joined held apart (each_held_at place.graph place.thing once.held) first.1))
    (joined own (are_single (of_graph before place) place.thing) names.1
    (single_is before place (once_single (things_of place.graph_path before) place.thing rest (subst AreOnce stands once.once))))

none_fails : (before places : List Place) → AllBehind StandsBehind before places → list_all (test_of names_asked) places ≡ true → AllByRecursion (λ (place : Place). IsNamedGraph place.graph) places → failing rule_1 before places ≡ None
none_fails before [] stands named once = refl
none_fails before (place ∷ places) stands named once =
    let names = both (test_of names_asked place) (list_all (test_of names_asked) places) named in
    ap (λ passes. if passes then failing rule_1 (before ++ place ∷ []) places else Some place.path) (rule_at before place stands.0 names.0 once.0.once)
    ∙ none_fails (before ++ place ∷ []) places stands.1 names.1 once.1

pub rule_of_names : (tree : GraphTree) → HoldsAll names_asked tree → EachGraph (λ tree. IsNamedGraph tree) tree → Holds rule_1 tree
rule_of_names tree named once =
    none_fails [] (all_places tree) (places_walked tree) (all_passes names_asked tree [] 0 named) (graph_places (λ tree. IsNamedGraph tree) tree [] 0 once)
