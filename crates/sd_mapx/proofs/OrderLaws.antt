-- Where no condition fails, the graph with its points in another order ends alike, and is valid.
use Rattle.std.proofs.Common.{◌≡◌, ◌≢◌, ℕ, ℤ, zero, suc, List, [], ◌∷◌, ◌++◌, length, Option, Some, None, Bool, true, ◌&&◌, sym, subst}
use Rattle.std.specs.List.{AllByRecursion}
use Rattle.sd_range.specs.declared.affine.Affine.{Affine}
use Rattle.sd_subset.specs.boxes.Box.{Parameter}
use Rattle.sd_subset.specs.boxes.InForce.{IsOther, NamesOthers, RangeNamesOthers}
use Rattle.sd_graph.specs.ContainerParts.{Containers}
use Rattle.sd_graph.specs.PlainTree.{KindTree, task, map_scope, consume_scope, nested_graph, reduction, copy, ItemTrees, no_item, and_item, StateTrees, no_state, and_state, GraphTree, graph}
use Rattle.sd_prop.specs.propagation.Scopes.{all_scopes}
use Rattle.sd_validity.specs.rules.Valid.{IsValid}
use Rattle.sd_validity.proofs.rules_lemmas.HoldingLemmas.{both}
use Rattle.sd_safe.specs.normal.NormalForm.{IsGraphNormal}
use Rattle.sd_alike.specs.alike.Places.{graph_with, KindLeads, ItemsLead, StatesLead, GraphLeads}
use Rattle.sd_alike.specs.alike.Maps.{AffineWithout, RangesWithout, IsCollapsible}
use Rattle.sd_exchange.specs.maps.AcceptedPools.{ArePoolsAccepted}
use Rattle.sd_exchange.specs.maps.Tails.{Asked, KindLeadsTo, ItemsLeadTo, StatesLeadTo, GraphLeadsTo}
use Rattle.sd_exchange.specs.maps.OrderAsked.{InterchangeAskedOf, InterchangeAsked}
use Rattle.sd_exchange.specs.maps.OrderRewrites.{interchanged}
use Rattle.sd_exchange.proofs.valid_lemmas.ValidOrder.{BothEndAlike, interchanged-alike}
use Rattle.sd_exchange.proofs.kept_lemmas.ValidKept.{interchanged_valid}
use Rattle.sd_mapx.specs.Paths.{place_of}
use Rattle.sd_mapx.specs.Found.{Found, found_at}
use Rattle.sd_mapx.specs.Conditions.{lowest_failing, found_by, item_of, is_found, meets_limits}
use Rattle.sd_mapx.specs.MapTests.{is_map, is_round_one_map, is_inner_free}
use Rattle.sd_mapx.specs.ScopeTests.{is_free_at, is_free_behind, are_pools_free}
use Rattle.sd_mapx.specs.Results.{replaced_by, interchanged_at}
use Rattle.sd_mapx.specs.MapConditions.{interchange_conditions}
use Rattle.sd_mapx.proofs.ConditionLaws.{graph_leads, first_holds, found_collapsible}
use Rattle.sd_mapx.proofs.FreeThere.{IsFreeKind, FirstFree, GraphMayLead, free_there}
use Rattle.sd_mapx.proofs.ScopeLaws.{free_at, pools_free}
use Rattle.sd_mapx.proofs.MapLaws.{both_kept}

-- ---- what holds of the item to which a place leads, and that it is free of races

module _ (Holds : ℕ → KindTree → Type 0) (G : Asked)
    (gives : (c : Containers) (a : List Parameter) (v line : ℕ) (kind : KindTree) (items : ItemTrees) → Holds v kind → IsFreeKind c a kind → G c a v (and_item line kind items)) where
  mutual
    kind_both : (c : Containers) (a : List Parameter) (v : ℕ) (kind : KindTree) (path : List ℕ) → KindLeads Holds v kind path → KindLeadsTo FirstFree c a v kind path → KindLeadsTo G c a v kind path
    kind_both c a v (task code ins outs) path leads free = leads
    kind_both c a v (map_scope sequential params private body) path leads free = items_both c (a ++ params) v body path leads free
    kind_both c a v (consume_scope stream element private body) path leads free = items_both c a v body path leads free
    kind_both c a v (nested_graph inner links) path leads free = graph_both inner path leads free
    kind_both c a v (reduction resolution axis identity from to) path leads free = leads
    kind_both c a v (copy from to) path leads free = leads

    items_both : (c : Containers) (a : List Parameter) (v : ℕ) (items : ItemTrees) (path : List ℕ) → ItemsLead Holds v items path → ItemsLeadTo FirstFree c a v items path → ItemsLeadTo G c a v items path
    items_both c a v no_item path leads free = leads
    items_both c a v (and_item line kind items) [] leads free = leads
    items_both c a v (and_item line kind items) (zero ∷ []) leads free = gives c a v line kind items leads free
    items_both c a v (and_item line kind items) (zero ∷ next ∷ path) leads free = kind_both c a v kind (next ∷ path) leads free
    items_both c a v (and_item line kind items) (suc number ∷ path) leads free = items_both c a v items (number ∷ path) leads free

    states_both : (c : Containers) (v : ℕ) (states : StateTrees) (path : List ℕ) → StatesLead Holds v states path → StatesLeadTo FirstFree c v states path → StatesLeadTo G c v states path
    states_both c v no_state path leads free = leads
    states_both c v (and_state items exits states) [] leads free = leads
    states_both c v (and_state items exits states) (zero ∷ path) leads free = items_both c [] v items path leads free
    states_both c v (and_state items exits states) (suc number ∷ path) leads free = states_both c v states (number ∷ path) leads free

    pub graph_both : (tree : GraphTree) (path : List ℕ) → GraphLeads Holds tree path → GraphLeadsTo FirstFree tree path → GraphLeadsTo G tree path
    graph_both (graph name containers arguments variables symbols states) path leads free = states_both containers (length variables) states path leads free

-- ---- maps that may be interchanged

others_at : (params : List Parameter) (variable : ℕ) → AllByRecursion (λ (param : Parameter). param.0 ≢ variable) params → IsOther params variable
others_at [] variable apart = tt
others_at (param ∷ params) variable apart = ((λ same. apart.0 (sym same)), others_at params variable apart.1)

terms_others : (params : List Parameter) (terms : List (ℕ × ℤ)) → AllByRecursion (λ term. AllByRecursion (λ (param : Parameter). param.0 ≢ term.0) params) terms → AllByRecursion (λ term. IsOther params term.0) terms
terms_others params [] apart = tt
terms_others params (term ∷ terms) apart = (others_at params term.0 apart.0, terms_others params terms apart.1)

ends_others : (params : List Parameter) (ends : List Affine) → AllByRecursion (AffineWithout params) ends → AllByRecursion (NamesOthers params) ends
ends_others params [] apart = tt
ends_others params (end ∷ ends) apart = (terms_others params end.terms apart.0, ends_others params ends apart.1)

ranges_others : (params others : List Parameter) → RangesWithout params others → AllByRecursion (λ (other : Parameter). RangeNamesOthers params other.1) others
ranges_others params [] apart = tt
ranges_others params (other ∷ others) apart = ((terms_others params other.1.begin.terms apart.0.0, ends_others params other.1.ends apart.0.1), ranges_others params others apart.1)

interchange_asked : (c : Containers) (a : List Parameter) (v line : ℕ) (kind : KindTree) (items : ItemTrees) → IsCollapsible v kind → IsFreeKind c a kind → InterchangeAsked c a v (and_item line kind items)
interchange_asked c a v line kind items nest free =
    subst (λ kind. IsFreeKind c a kind → InterchangeAskedOf c a kind) (sym nest.shape) (λ free. (ranges_others nest.outer nest.inner nest.apart, free)) free

-- ---- from the conditions

record AreInterchangeConditions (tree : GraphTree) (path : List ℕ) : Type 0 where
  round : is_found is_round_one_map (item_of tree path) ≡ true
  inner : is_found is_inner_free (item_of tree path) ≡ true
  scope : is_free_at path (all_scopes tree) ≡ true
  pools : are_pools_free (all_scopes tree) ≡ true
  limits : meets_limits (interchanged_at tree path) ≡ true

interchange_holds : (tree : GraphTree) (path : List ℕ) → lowest_failing (interchange_conditions tree path) ≡ None → AreInterchangeConditions tree path
interchange_holds tree path none =
    let item : Option Found = item_of tree path in
    let last : List (ℕ × Bool) = (9, meets_limits (interchanged_at tree path)) ∷ [] in
    let pools : List (ℕ × Bool) = (8, are_pools_free (all_scopes tree)) ∷ last in
    let scopes : List (ℕ × Bool) = (4, is_free_at path (all_scopes tree) && is_free_behind path (all_scopes tree)) ∷ pools in
    let inner : List (ℕ × Bool) = (3, is_found is_inner_free item) ∷ scopes in
    let round : List (ℕ × Bool) = (2, is_found is_round_one_map item) ∷ inner in
    let first = first_holds 1 (is_found is_map item) round none in
    let second = first_holds 2 (is_found is_round_one_map item) inner first.1 in
    let third = first_holds 3 (is_found is_inner_free item) scopes second.1 in
    let fourth = first_holds 4 (is_free_at path (all_scopes tree) && is_free_behind path (all_scopes tree)) pools third.1 in
    let eighth = first_holds 8 (are_pools_free (all_scopes tree)) last fourth.1 in
    record {
      round = second.0;
      inner = third.0;
      scope = (both (is_free_at path (all_scopes tree)) (is_free_behind path (all_scopes tree)) fourth.0).0;
      pools = eighth.0;
      limits = (first_holds 9 (meets_limits (interchanged_at tree path)) [] eighth.1).0;
    }

interchanged_ends : (tree : GraphTree) (place : Option (List ℕ)) → IsValid tree → IsGraphNormal tree → ArePoolsAccepted tree → GraphMayLead tree place →
    is_found is_round_one_map (found_by tree place) ≡ true → is_found is_inner_free (found_by tree place) ≡ true → BothEndAlike tree (replaced_by interchanged [] tree place)
interchanged_ends tree None valid normal pools free round inner = cc
interchanged_ends tree (Some place) valid normal pools free round inner =
    interchanged-alike tree place valid normal pools
    (graph_both IsCollapsible InterchangeAsked interchange_asked tree place (graph_leads IsCollapsible tree place (found_collapsible (found_at tree place) round inner)) free)

pub interchanged_alike : (tree : GraphTree) (path : List ℕ) → IsValid tree → IsGraphNormal tree → lowest_failing (interchange_conditions tree path) ≡ None → BothEndAlike tree (interchanged_at tree path)
interchanged_alike tree path valid normal none =
    let holds = interchange_holds tree path none in
    interchanged_ends tree (place_of tree path) valid normal (pools_free tree holds.pools) (free_there tree path (free_at path (all_scopes tree) holds.scope)) holds.round holds.inner

interchanged_stays : (tree : GraphTree) (place : Option (List ℕ)) → IsValid tree → is_found is_round_one_map (found_by tree place) ≡ true → is_found is_inner_free (found_by tree place) ≡ true →
    meets_limits (replaced_by interchanged [] tree place) ≡ true → IsValid (replaced_by interchanged [] tree place)
interchanged_stays tree None valid round inner limits = cc
interchanged_stays tree (Some place) valid round inner limits =
    let kept = both_kept (graph_with interchanged [] tree place) limits in
    interchanged_valid tree place valid (graph_leads IsCollapsible tree place (found_collapsible (found_at tree place) round inner)) kept.0 kept.1

pub interchange_valid : (tree : GraphTree) (path : List ℕ) → IsValid tree → lowest_failing (interchange_conditions tree path) ≡ None → IsValid (interchanged_at tree path)
interchange_valid tree path valid none =
    let holds = interchange_holds tree path none in interchanged_stays tree (place_of tree path) valid holds.round holds.inner holds.limits
