-- Where no condition fails, the graph with two states fused runs as the old one, and is valid.
use Rattle.std.proofs.Common.{◌≡◌, ℕ, ◌<◌, List, Option, Some, None, Bool, true, false, if◌then◌else◌, refl, sym, subst, arith}
use Rattle.sd_graph.specs.PlainTree.{GraphTree, graph}
use Rattle.sd_graph.specs.TreeParts.{states_of_graph}
use Rattle.sd_graph.specs.Upwards.{LeadsUpwards}
use Rattle.sd_validity.specs.rules.Failing.{Rule, Holds, first_failing}
use Rattle.sd_validity.specs.rules.Transitions.{rule_3}
use Rattle.sd_validity.specs.rules.WithinLimits.{rule_7}
use Rattle.sd_validity.specs.rules.Valid.{IsValid}
use Rattle.sd_validity.proofs.rules_lemmas.UpwardsLemmas.{leads_upwards}
use Rattle.sd_alike.specs.alike.Rewritten.{RunsSame}
use Rattle.sd_alike.proofs.kept_lemmas.NamesThere.{valid_names_its_variables}
use Rattle.sd_statex.specs.states.FusedStates.{AreStatesFusible}
use Rattle.sd_statex.specs.states.ChangedGraphs.{GraphHas}
use Rattle.sd_statex.proofs.states_lemmas.WholeFused.{fused_runs_same}
use Rattle.sd_statex.proofs.kept_lemmas.ValidFused.{graph_has, step_upwards, fused_valid}
use Rattle.sd_mapx.specs.Conditions.{lowest_failing, is_no_place, is_kept, meets_limits}
use Rattle.sd_statex.specs.StatePaths.{TwoStates, two_states}
use Rattle.sd_statex.specs.StateTests.{has_plain_step, is_only_way, are_told, are_told_with}
use Rattle.sd_statex.specs.StateFusion.{fused_by, fused_at, state_fusion_conditions}
use Rattle.sd_statex.proofs.TwoFound.{both, at_place, IsThere, are_there, AreSole, are_sole}

-- ---- conditions

passed : (holds : Bool) (number : ℕ) (rest : Option ℕ) → (if holds then rest else Some number) ≡ None → (holds ≡ true) × (rest ≡ None)
passed true number rest none = (refl, none)
passed false number rest none = cc

no_place : (path : Option (List ℕ)) → is_no_place path ≡ true → path ≡ None
no_place None is = refl
no_place (Some path) is = cc

kept_rule : (rule : Rule) (tree : GraphTree) → is_kept rule tree ≡ true → Holds rule tree
kept_rule rule tree is = no_place (first_failing rule tree) is

-- what each condition says
record DoHold (tree : GraphTree) (first second : List ℕ) : Type 0 where
  told : are_told (two_states tree first second) ≡ true
  plain : are_told_with has_plain_step (two_states tree first second) ≡ true
  only : are_told_with is_only_way (two_states tree first second) ≡ true
  limits : meets_limits (fused_at tree first second) ≡ true

do_hold : (tree : GraphTree) (first second : List ℕ) → lowest_failing (state_fusion_conditions tree first second) ≡ None → DoHold tree first second
do_hold tree first second none =
    let told = are_told (two_states tree first second) in
    let plain = are_told_with has_plain_step (two_states tree first second) in
    let only = are_told_with is_only_way (two_states tree first second) in
    let limits = meets_limits (fused_at tree first second) in
    let last : Option ℕ = if limits then None else Some 9 in
    let third : Option ℕ = if only then last else Some 3 in
    let one = passed told 1 (if plain then third else Some 2) none in
    let two = passed plain 2 third one.1 in
    let three = passed only 3 last two.1 in
    let nine = passed limits 9 None three.1 in
    record { told = one.0; plain = two.0; only = three.0; limits = nine.0 }

-- ---- two states that are told

-- in the graph that has them they may be fused
abbrev AreSoleIn : (first second : ℕ) → GraphTree → Type 0
AreSoleIn first second (graph name containers arguments variables symbols states) = AreSole first second states

sole_in : (first second : ℕ) (inner : GraphTree) → AreSole first second (states_of_graph inner) → AreSoleIn first second inner
sole_in first second (graph name containers arguments variables symbols states) sole = sole

may_be_fused : (first second : ℕ) (tree : GraphTree) → AreSoleIn first second tree → LeadsUpwards tree → AreStatesFusible first second tree
may_be_fused first second (graph name containers arguments variables symbols states) sole up =
    let less : first < second = (step_upwards first second states sole.step up.0).0 in
    record { step = sole.step; entry = sole.entry; apart = sole.apart; later = λ none. absurd (omega (arith, less, none)) }

fusible_at : (tree : GraphTree) (two : TwoStates) → IsThere tree two → has_plain_step two.states two.first two.second ≡ true → is_only_way two.states two.first two.second ≡ true → LeadsUpwards tree →
    GraphHas (AreStatesFusible two.first two.second) tree two.place
fusible_at tree two there plain only up =
    let sole : AreSole two.first two.second (states_of_graph there.inner) =
    subst (AreSole two.first two.second) (sym there.states) (are_sole two.states two.first two.second there.apart plain only) in
    graph_has (AreSoleIn two.first two.second) (AreStatesFusible two.first two.second) (may_be_fused two.first two.second) tree two.place
    (at_place (AreSoleIn two.first two.second) there.inner (sole_in two.first two.second there.inner sole) tree two.place there.found) up

-- a fact of the graph with the two states fused, where it holds of each that may be fused
by_two : (tree : GraphTree) (first second : List ℕ) (Fact : GraphTree → Type 0) → IsValid tree →
    ((two : TwoStates) → GraphHas (AreStatesFusible two.first two.second) tree two.place → meets_limits (fused_by tree (Some two)) ≡ true → Fact (fused_by tree (Some two))) →
    DoHold tree first second → Fact (fused_at tree first second)
by_two tree first second Fact valid gives hold = by (two_states tree first second) refl hold.told hold.plain hold.only hold.limits
  where
    by : (found : Option TwoStates) → two_states tree first second ≡ found → are_told found ≡ true → are_told_with has_plain_step found ≡ true → are_told_with is_only_way found ≡ true →
        meets_limits (fused_by tree found) ≡ true → Fact (fused_by tree found)
    by None is told plain only limits = cc
    by (Some two) is told plain only limits =
        gives two (fusible_at tree two (are_there tree first second two is) plain only (leads_upwards tree valid.transitions)) limits

pub fused_runs : (tree : GraphTree) (first second : List ℕ) → IsValid tree → lowest_failing (state_fusion_conditions tree first second) ≡ None → RunsSame tree (fused_at tree first second)
fused_runs tree first second valid none =
    by_two tree first second (RunsSame tree) valid (λ two has limits. fused_runs_same two.first two.second tree two.place has (valid_names_its_variables tree valid.names)) (do_hold tree first second none)

pub fused_is_valid : (tree : GraphTree) (first second : List ℕ) → IsValid tree → lowest_failing (state_fusion_conditions tree first second) ≡ None → IsValid (fused_at tree first second)
fused_is_valid tree first second valid none =
    by_two tree first second IsValid valid
    (λ two has limits.
    let after : GraphTree = fused_by tree (Some two) in
    let rules = both (is_kept rule_3 after) (is_kept rule_7 after) limits in
    fused_valid two.first two.second tree two.place valid has (kept_rule rule_3 after rules.0) (kept_rule rule_7 after rules.1))
    (do_hold tree first second none)
