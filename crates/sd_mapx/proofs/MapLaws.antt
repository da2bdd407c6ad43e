-- Where no condition fails, the rewritten graph runs as the old one, and is valid.
use Rattle.std.proofs.Common.{◌≡◌, ℕ, List, [], ◌∷◌, Option, Some, None, Bool, true, refl}
use Rattle.sd_graph.specs.PlainTree.{GraphTree}
use Rattle.sd_validity.specs.rules.Failing.{Holds, first_failing}
use Rattle.sd_validity.specs.rules.Transitions.{rule_3}
use Rattle.sd_validity.specs.rules.WithinLimits.{rule_7}
use Rattle.sd_validity.specs.rules.Valid.{IsValid}
use Rattle.sd_validity.proofs.rules_lemmas.HoldingLemmas.{both}
use Rattle.sd_alike.specs.alike.Places.{graph_with, GraphLeads}
use Rattle.sd_alike.specs.alike.Maps.{IsCollapsible, collapsed, IsExpandable, expanded}
use Rattle.sd_alike.specs.alike.Rewritten.{RunsSame}
use Rattle.sd_alike.proofs.alike_lemmas.CollapsedMaps.{collapsed_runs_same, expanded_runs_same}
use Rattle.sd_alike.proofs.kept_lemmas.HeldReplaced.{rule_stays}
use Rattle.sd_alike.proofs.kept_lemmas.LocalRules.{dimensions_asked, streams_asked, nesting_asked, shapes_asked, sizes_asked, dimensions_local, streams_local, nesting_local, shapes_local, sizes_local, dimensions_params, streams_params, nesting_params, shapes_params, sizes_params, collapsed_keeps, expanded_keeps}
use Rattle.sd_alike.proofs.kept_lemmas.NamesKept.{collapsed_keeps_names, expanded_keeps_names}
use Rattle.sd_alike.proofs.kept_lemmas.NamesThere.{valid_names_its_variables}
use Rattle.sd_mapx.specs.Paths.{place_of}
use Rattle.sd_mapx.specs.Found.{Found, found_at}
use Rattle.sd_mapx.specs.Conditions.{lowest_failing, found_by, item_of, is_found, is_no_place, is_kept, meets_limits}
use Rattle.sd_mapx.specs.MapTests.{is_map, is_round_one_map, is_inner_free, has_two_params}
use Rattle.sd_mapx.specs.Results.{replaced_by, collapsed_at, expanded_at}
use Rattle.sd_mapx.specs.MapConditions.{collapse_conditions, expansion_conditions}
use Rattle.sd_mapx.proofs.ConditionLaws.{graph_leads, first_holds, found_collapsible}
use Rattle.sd_mapx.proofs.OwnParameters.{found_expandable}

-- ---- the last condition

no_place : (failing : Option (List ℕ)) → is_no_place failing ≡ true → failing ≡ None
no_place None is = refl
no_place (Some path) is = cc

pub both_kept : (tree : GraphTree) → meets_limits tree ≡ true → Holds rule_3 tree × Holds rule_7 tree
both_kept tree is =
    let kept = both (is_kept rule_3 tree) (is_kept rule_7 tree) is in
    (no_place (first_failing rule_3 tree) kept.0, no_place (first_failing rule_7 tree) kept.1)

-- ---- a place that leads to such a map

record IsSound (tree other : GraphTree) : Type 0 where
  pub runs : RunsSame tree other
  pub valid : meets_limits other ≡ true → IsValid other

collapse_sound : (tree : GraphTree) (place : List ℕ) → IsValid tree → GraphLeads IsCollapsible tree place → IsSound tree (graph_with collapsed [] tree place)
collapse_sound tree place valid leads = record {
  runs = collapsed_runs_same tree place leads (valid_names_its_variables tree valid.names);
  valid = λ is. let kept = both_kept (graph_with collapsed [] tree place) is in record {
    names = collapsed_keeps_names tree place leads valid.names;
    dimensions = rule_stays dimensions_asked dimensions_local IsCollapsible collapsed (collapsed_keeps dimensions_asked dimensions_local dimensions_params) tree place leads valid.dimensions;
    transitions = kept.0;
    streams = rule_stays streams_asked streams_local IsCollapsible collapsed (collapsed_keeps streams_asked streams_local streams_params) tree place leads valid.streams;
    nesting = rule_stays nesting_asked nesting_local IsCollapsible collapsed (collapsed_keeps nesting_asked nesting_local nesting_params) tree place leads valid.nesting;
    shapes = rule_stays shapes_asked shapes_local IsCollapsible collapsed (collapsed_keeps shapes_asked shapes_local shapes_params) tree place leads valid.shapes;
    limits = kept.1;
    sizes = rule_stays sizes_asked sizes_local IsCollapsible collapsed (collapsed_keeps sizes_asked sizes_local sizes_params) tree place leads valid.sizes;
  };
}

expand_sound : (tree : GraphTree) (place : List ℕ) → IsValid tree → GraphLeads IsExpandable tree place → IsSound tree (graph_with expanded [] tree place)
expand_sound tree place valid leads = record {
  runs = expanded_runs_same tree place leads (valid_names_its_variables tree valid.names);
  valid = λ is. let kept = both_kept (graph_with expanded [] tree place) is in record {
    names = expanded_keeps_names tree place leads valid.names;
    dimensions = rule_stays dimensions_asked dimensions_local IsExpandable expanded (expanded_keeps dimensions_asked dimensions_local dimensions_params) tree place leads valid.dimensions;
    transitions = kept.0;
    streams = rule_stays streams_asked streams_local IsExpandable expanded (expanded_keeps streams_asked streams_local streams_params) tree place leads valid.streams;
    nesting = rule_stays nesting_asked nesting_local IsExpandable expanded (expanded_keeps nesting_asked nesting_local nesting_params) tree place leads valid.nesting;
    shapes = rule_stays shapes_asked shapes_local IsExpandable expanded (expanded_keeps shapes_asked shapes_local shapes_params) tree place leads valid.shapes;
    limits = kept.1;
    sizes = rule_stays sizes_asked sizes_local IsExpandable expanded (expanded_keeps sizes_asked sizes_local sizes_params) tree place leads valid.sizes;
  };
}

-- ---- from the conditions

record AreCollapseConditions (tree : GraphTree) (path : List ℕ) : Type 0 where
  round : is_found is_round_one_map (item_of tree path) ≡ true
  free : is_found is_inner_free (item_of tree path) ≡ true
  limits : meets_limits (collapsed_at tree path) ≡ true

collapse_holds : (tree : GraphTree) (path : List ℕ) → lowest_failing (collapse_conditions tree path) ≡ None → AreCollapseConditions tree path
collapse_holds tree path none =
    let item : Option Found = item_of tree path in
    let last : List (ℕ × Bool) = (9, meets_limits (collapsed_at tree path)) ∷ [] in
    let free : List (ℕ × Bool) = (3, is_found is_inner_free item) ∷ last in
    let round : List (ℕ × Bool) = (2, is_found is_round_one_map item) ∷ free in
    let first = first_holds 1 (is_found is_map item) round none in
    let second = first_holds 2 (is_found is_round_one_map item) free first.1 in
    let third = first_holds 3 (is_found is_inner_free item) last second.1 in
    record { round = second.0; free = third.0; limits = (first_holds 9 (meets_limits (collapsed_at tree path)) [] third.1).0 }

collapsed_sound : (tree : GraphTree) (place : Option (List ℕ)) → IsValid tree → is_found is_round_one_map (found_by tree place) ≡ true → is_found is_inner_free (found_by tree place) ≡ true → IsSound tree (replaced_by collapsed [] tree place)
collapsed_sound tree None valid round free = cc
collapsed_sound tree (Some place) valid round free = collapse_sound tree place valid (graph_leads IsCollapsible tree place (found_collapsible (found_at tree place) round free))

pub collapsed_runs : (tree : GraphTree) (path : List ℕ) → IsValid tree → lowest_failing (collapse_conditions tree path) ≡ None → RunsSame tree (collapsed_at tree path)
collapsed_runs tree path valid none = let holds = collapse_holds tree path none in (collapsed_sound tree (place_of tree path) valid holds.round holds.free).runs

pub collapsed_valid : (tree : GraphTree) (path : List ℕ) → IsValid tree → lowest_failing (collapse_conditions tree path) ≡ None → IsValid (collapsed_at tree path)
collapsed_valid tree path valid none = let holds = collapse_holds tree path none in (collapsed_sound tree (place_of tree path) valid holds.round holds.free).valid holds.limits

record AreExpansionConditions (tree : GraphTree) (path : List ℕ) : Type 0 where
  two : is_found has_two_params (item_of tree path) ≡ true
  limits : meets_limits (expanded_at tree path) ≡ true

expansion_holds : (tree : GraphTree) (path : List ℕ) → lowest_failing (expansion_conditions tree path) ≡ None → AreExpansionConditions tree path
expansion_holds tree path none =
    let item : Option Found = item_of tree path in
    let last : List (ℕ × Bool) = (9, meets_limits (expanded_at tree path)) ∷ [] in
    let first = first_holds 1 (is_found is_map item) ((2, is_found has_two_params item) ∷ last) none in
    let second = first_holds 2 (is_found has_two_params item) last first.1 in
    record { two = second.0; limits = (first_holds 9 (meets_limits (expanded_at tree path)) [] second.1).0 }

expanded_sound : (tree : GraphTree) (place : Option (List ℕ)) → IsValid tree → is_found has_two_params (found_by tree place) ≡ true → IsSound tree (replaced_by expanded [] tree place)
expanded_sound tree None valid two = cc
expanded_sound tree (Some place) valid two = expand_sound tree place valid (graph_leads IsExpandable tree place (found_expandable tree valid place (found_at tree place) refl two))

pub expanded_runs : (tree : GraphTree) (path : List ℕ) → IsValid tree → lowest_failing (expansion_conditions tree path) ≡ None → RunsSame tree (expanded_at tree path)
expanded_runs tree path valid none = let holds = expansion_holds tree path none in (expanded_sound tree (place_of tree path) valid holds.two).runs

pub expanded_valid : (tree : GraphTree) (path : List ℕ) → IsValid tree → lowest_failing (expansion_conditions tree path) ≡ None → IsValid (expanded_at tree path)
expanded_valid tree path valid none = let holds = expansion_holds tree path none in (expanded_sound tree (place_of tree path) valid holds.two).valid holds.limits
