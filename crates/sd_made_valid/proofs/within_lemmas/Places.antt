-- Places that keep each part of the rule on limits, behind those before them, keep the rule.
use Rattle.std.proofs.Common.{◌≡◌, ℕ, List, [], ◌∷◌, ◌++◌, length, nat_le, Some, None, Bool, true, false, ◌&&◌, if◌then◌else◌, refl}
use Rattle.std.specs.List.{AllByRecursion, list_all}
use Rattle.sd_graph.specs.PlainTree.{KindTree, task, map_scope, consume_scope, nested_graph, reduction, copy}
use Rattle.sd_graph.specs.TreeParts.{containers_of}
use Rattle.sd_validity.specs.rules.Places.{Thing, whole, leaving, doing, Place}
use Rattle.sd_validity.specs.rules.Parts.{is_thing_passed}
use Rattle.sd_validity.specs.rules.Failing.{Rule, failing}
use Rattle.sd_validity.specs.rules.WithinLimits.{is_small, is_container_small, nodes_at, has_small_params, is_thing_small, elements_among, nodes_among, rule_7}
use Rattle.sd_validity.proofs.rules_lemmas.HoldingLemmas.{both}
use Rattle.sd_validity.specs.bound_elements.Elements.{are_elements_few, elements_rule}
use Rattle.sd_made_valid.specs.graphs.Nesting.{is_nested_little}
use Rattle.sd_made.specs.limits.Containers.{are_containers_few}
use Rattle.sd_made.specs.limits.Expressions.{expression_tests}
use Rattle.sd_made.specs.nodes.FewNodes.{are_nodes_few, nodes_rule}
use Rattle.sd_made_valid.specs.ends.Ends.{are_ends_small}
use Rattle.sd_made.specs.depths.About.{has_few_about}
use Rattle.sd_made_valid.specs.maps.Parameters.{has_few_parameters, are_parameters_few}
use Rattle.sd_made_valid.specs.code.Code.{code_tests}
use Rattle.sd_made_valid.specs.ranks.Ranks.{has_ranked_parameters, are_variables_ranked}
use Rattle.sd_made_valid.proofs.within_lemmas.Tests.{thing_passed}

-- ---- one place

-- the parts that ask of a place alone
pub record IsKept (place : Place) : Type 0 where
  pub nested : is_nested_little place ≡ true
  pub containers : are_containers_few (containers_of place.graph) ≡ true
  pub ends : are_ends_small place place.thing ≡ true
  pub about : has_few_about place place.thing ≡ true
  pub parameters : are_parameters_few place.thing ≡ true
  pub ranks : are_variables_ranked place place.thing ≡ true
  pub expressions : is_thing_passed expression_tests place.thing ≡ true
  pub code : is_thing_passed code_tests place.thing ≡ true

params_small : (ranks : List Bool) (kind : KindTree) → has_few_parameters kind ≡ true → has_ranked_parameters ranks kind ≡ true → has_small_params ranks kind ≡ true
params_small ranks (task code ins outs) few ranked = refl
params_small ranks (map_scope sequential params private body) few ranked = λ i. few i && ranked i
params_small ranks (consume_scope stream element private body) few ranked = refl
params_small ranks (nested_graph inner links) few ranked = refl
params_small ranks (reduction resolution axis identity from to) few ranked = refl
params_small ranks (copy from to) few ranked = refl

module _ (place : Place) (elements nodes : ℕ) (nested : is_nested_little place ≡ true) (containers : are_containers_few (containers_of place.graph) ≡ true) where
  thing_small : (thing : Thing) → are_elements_few place.graph elements thing ≡ true → are_nodes_few (nodes_at place.graph thing) nodes ≡ true → are_ends_small place thing ≡ true →
      has_few_about place thing ≡ true → are_parameters_few thing ≡ true → are_variables_ranked place thing ≡ true → is_thing_small elements nodes place thing ≡ true
  thing_small whole counted few ends about parameters ranks =
      let these = containers_of place.graph in
      let small = list_all (λ entry. is_container_small entry.1) these in
      let extents = list_all (λ entry. list_all is_small entry.1.extents) these in
      let all = both (nat_le (length these) 256) (small && extents) containers in
      let each = both small extents all.1 in
      λ i. nested i && ((all.0 i && each.0 i) && (each.1 i && counted i))
  thing_small (leaving items exits) counted few ends about parameters ranks = λ i. few i && (ends i && ranks i)
  thing_small (doing kind) counted few ends about parameters ranks = λ i. about i && params_small place.ranks kind parameters ranks i

place_small : (before : List Place) (place : Place) → elements_rule before place ≡ true → nodes_rule before place ≡ true → IsKept place → rule_7 before place ≡ true
place_small before place elements nodes kept =
    let small = thing_small place (elements_among before) (nodes_among before) kept.nested kept.containers place.thing elements nodes kept.ends kept.about kept.parameters kept.ranks in
    let passed = thing_passed place.thing kept.expressions kept.code in
    λ i. small i && passed i

-- ---- one place after another

-- where a rule fails at none of some places, it holds at the first and fails at none of the others
first_holds : (rule : Rule) (before : List Place) (place : Place) (places : List Place) → failing rule before (place ∷ places) ≡ None →
    (rule before place ≡ true) × (failing rule (before ++ place ∷ []) places ≡ None)
first_holds rule before place places none = by_answer (rule before place) refl none
  where
    by_answer : (holds : Bool) → rule before place ≡ holds → (if holds then failing rule (before ++ place ∷ []) places else Some place.path) ≡ None →
        (rule before place ≡ true) × (failing rule (before ++ place ∷ []) places ≡ None)
    by_answer true is none = (is, none)
    by_answer false is none = cc

pub none_fails : (before places : List Place) → failing elements_rule before places ≡ None → failing nodes_rule before places ≡ None → AllByRecursion IsKept places → failing rule_7 before places ≡ None
none_fails before [] elements nodes all = refl
none_fails before (place ∷ places) elements nodes all =
    let counted = first_holds elements_rule before place places elements in
    let few = first_holds nodes_rule before place places nodes in
    rw (place_small before place counted.0 few.0 all.0) (none_fails (before ++ place ∷ []) places counted.1 few.1 all.1)
