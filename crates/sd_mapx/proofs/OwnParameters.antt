-- In a valid graph the ranges of a map name none of its parameters.
use Rattle.std.proofs.Common.{◌≡◌, ◌≢◌, inl, inr, ℕ, ℤ, nat_lt, List, [], ◌∷◌, Option, Some, None, Bool, true, false, not, ◌&&◌, ◌||◌, length, refl, sym, subst}
use Rattle.std.specs.List.{AllByRecursion, Contains, list_all}
use Rattle.sd_range.specs.declared.affine.Affine.{Affine}
use Rattle.sd_range.specs.declared.range.Range.{Range}
use Rattle.sd_range.proofs.Members.{Contains-first}
use Rattle.sd_graph.specs.PlainTree.{KindTree, task, map_scope, consume_scope, nested_graph, reduction, copy, GraphTree}
use Rattle.sd_graph.specs.Wiring.{has_number}
use Rattle.sd_validity.specs.rules.GraphParts.{variables_of, symbols_in}
use Rattle.sd_validity.specs.rules.Places.{doing, Place, param_numbers, all_places}
use Rattle.sd_validity.specs.rules.Parts.{is_range_passed, are_params_passed, is_thing_passed}
use Rattle.sd_validity.specs.rules.NamesInForce.{is_there, is_variable_in_force, names_tests, params_at}
use Rattle.sd_validity.specs.rules.SizesGone.{sizes_tests, are_extents_constant, rule_8}
use Rattle.sd_validity.specs.rules.Valid.{IsValid}
use Rattle.sd_validity.proofs.rules_lemmas.HoldingLemmas.{both, each_passes}
use Rattle.sd_validity.proofs.paths_lemmas.Found.{all_both}
use Rattle.sd_safe.proofs.fit_lemmas.Members.{one_of_two, found-member, each-passes}
use Rattle.sd_safe.proofs.fit_lemmas.Fresh.{IsFreshPlace, fresh-places}
use Rattle.sd_alike.specs.alike.Maps.{AffineWithout, RangesWithout, IsExpandable}
use Rattle.sd_mapx.specs.Found.{Found, found_at}
use Rattle.sd_mapx.specs.Conditions.{is_found}
use Rattle.sd_mapx.specs.MapTests.{has_two_params}
use Rattle.sd_mapx.proofs.ConditionLaws.{HoldsFound}
use Rattle.sd_mapx.proofs.FoundPlaces.{graph_found}

abbrev pub HasNoSizes : Place → Bool
HasNoSizes place = is_thing_passed (sizes_tests (symbols_in place.graph)) place.thing

-- what is in force and no size symbol is a parameter about the place, or a variable of a loop
in_scope : (there symbol about loop : Bool) → (there && (symbol || (about || loop))) ≡ true → not symbol ≡ true → (about || loop) ≡ true
in_scope true true about loop is none = cc
in_scope true false about loop is none = is
in_scope false symbol about loop is none = cc

module _ (place : Place) (fresh : IsFreshPlace place) (param : ℕ × Range) (own : Contains (params_at place.thing) param.0) where
  apart_from : (number : ℕ) → is_variable_in_force place number ≡ true → not (nat_lt number (symbols_in place.graph)) ≡ true → param.0 ≢ number
  apart_from number is none same =
      let mine : Contains (params_at place.thing) number = subst (λ v. Contains (params_at place.thing) v) same own in
      elim (one_of_two (has_number place.scopes.params number) (has_number place.loops number)
      (in_scope (is_there place.graph number) (nat_lt number (symbols_in place.graph)) (has_number place.scopes.params number) (has_number place.loops number) is none)) [
        | inl about ↦ fresh.other number mine (found-member place.scopes.params number about)
        | inr loop ↦ fresh.unset number mine (found-member place.loops number loop)
      ]

  terms_apart : (terms : List (ℕ × ℤ)) → list_all (λ term. is_variable_in_force place term.0) terms ≡ true → list_all (λ term. not (nat_lt term.0 (symbols_in place.graph))) terms ≡ true →
      AllByRecursion (λ term. AllByRecursion (λ (one : ℕ × Range). one.0 ≢ term.0) (param ∷ [])) terms
  terms_apart [] is none = tt
  terms_apart (term ∷ terms) is none =
      let named = both (is_variable_in_force place term.0) (list_all (λ term. is_variable_in_force place term.0) terms) is in
      let free = both (not (nat_lt term.0 (symbols_in place.graph))) (list_all (λ term. not (nat_lt term.0 (symbols_in place.graph))) terms) none in
      ((apart_from term.0 named.0 free.0, tt), terms_apart terms named.1 free.1)

  ends_apart : (ends : List Affine) → list_all (λ (a : Affine). list_all (λ term. is_variable_in_force place term.0) a.terms) ends ≡ true →
      list_all (λ (a : Affine). list_all (λ term. not (nat_lt term.0 (symbols_in place.graph))) a.terms) ends ≡ true → AllByRecursion (AffineWithout (param ∷ [])) ends
  ends_apart [] is none = tt
  ends_apart (end ∷ ends) is none =
      let named = both (list_all (λ term. is_variable_in_force place term.0) end.terms) (list_all (λ (a : Affine). list_all (λ term. is_variable_in_force place term.0) a.terms) ends) is in
      let free = both (list_all (λ term. not (nat_lt term.0 (symbols_in place.graph))) end.terms) (list_all (λ (a : Affine). list_all (λ term. not (nat_lt term.0 (symbols_in place.graph))) a.terms) ends) none in
      (terms_apart end.terms named.0 free.0, ends_apart ends named.1 free.1)

  ranges_apart : (ranges : List (ℕ × Range)) → are_params_passed (names_tests place) ranges ≡ true → are_params_passed (sizes_tests (symbols_in place.graph)) ranges ≡ true → RangesWithout (param ∷ []) ranges
  ranges_apart [] is none = tt
  ranges_apart (next ∷ ranges) is none =
      let range : Range = next.1 in
      let named = both (is_range_passed (names_tests place) range) (are_params_passed (names_tests place) ranges) is in
      let free = both (is_range_passed (sizes_tests (symbols_in place.graph)) range) (are_params_passed (sizes_tests (symbols_in place.graph)) ranges) none in
      let begin = both (list_all (λ term. is_variable_in_force place term.0) range.begin.terms) (list_all (λ (a : Affine). list_all (λ term. is_variable_in_force place term.0) a.terms) range.ends) named.0 in
      let begin_free = both (list_all (λ term. not (nat_lt term.0 (symbols_in place.graph))) range.begin.terms) (list_all (λ (a : Affine). list_all (λ term. not (nat_lt term.0 (symbols_in place.graph))) a.terms) range.ends) free.0 in
      ((terms_apart range.begin.terms begin.0 begin_free.0, ends_apart range.ends begin.1 begin_free.1), ranges_apart ranges named.1 free.1)

-- a map with two parameters at such a place is one that may be expanded
map_expandable : (variables : ℕ) (place : Place) → IsFreshPlace place → HasNoSizes place ≡ true → (kind : KindTree) → place.thing ≡ doing kind → has_two_params kind ≡ true → IsExpandable variables kind
map_expandable variables place fresh free (task code ins outs) is two = cc
map_expandable variables place fresh free (map_scope sequential [] private body) is two = cc
map_expandable variables place fresh free (map_scope sequential (first ∷ []) private body) is two = cc
map_expandable variables place fresh free (map_scope sequential (first ∷ second ∷ others) private body) is two =
    let named = subst (λ thing. is_thing_passed (names_tests place) thing ≡ true) is fresh.named in
    let sized = subst (λ thing. is_thing_passed (sizes_tests (symbols_in place.graph)) thing ≡ true) is free in
    record {
      sequential = sequential;
      first = first;
      second = second;
      others = others;
      private = private;
      body = body;
      shape = refl;
      apart = ranges_apart place fresh first
          (subst (λ thing. Contains (params_at thing) first.0) (sym is) (Contains-first first.0 (param_numbers (second ∷ others))))
          (second ∷ others)
          (both (is_range_passed (names_tests place) first.1) (are_params_passed (names_tests place) (second ∷ others)) named).1
          (both (is_range_passed (sizes_tests (symbols_in place.graph)) first.1) (are_params_passed (sizes_tests (symbols_in place.graph)) (second ∷ others)) sized).1;
    }
map_expandable variables place fresh free (consume_scope stream element private body) is two = cc
map_expandable variables place fresh free (nested_graph inner links) is two = cc
map_expandable variables place fresh free (reduction resolution axis identity from to) is two = cc
map_expandable variables place fresh free (copy from to) is two = cc

no_sizes : (before : List Place) (place : Place) → rule_8 before place ≡ true → HasNoSizes place ≡ true
no_sizes before place is = (both (are_extents_constant place.graph place.thing) (HasNoSizes place) is).1

pub found_expandable : (tree : GraphTree) → IsValid tree → (place : List ℕ) (found : Option Found) → found_at tree place ≡ found → is_found has_two_params found ≡ true → HoldsFound IsExpandable found
found_expandable tree valid place None is two = cc
found_expandable tree valid place (Some found) is two =
    let sizes = each-passes (λ place. HasNoSizes place ≡ true) HasNoSizes (λ place is. is) (all_places tree) (each_passes rule_8 HasNoSizes no_sizes [] (all_places tree) valid.sizes) in
    let at = graph_found (λ place. IsFreshPlace place × (HasNoSizes place ≡ true)) tree [] 0 place found
    (all_both IsFreshPlace (λ place. HasNoSizes place ≡ true) (all_places tree) (fresh-places tree valid.names) sizes) is in
    map_expandable (length (variables_of found.tree)) at.place at.holds.0 at.holds.1 found.kind at.thing two
