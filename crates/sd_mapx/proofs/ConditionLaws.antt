-- Where the conditions of a rewrite hold, its path leads to an item of which the laws speak.
use Rattle.std.proofs.Common.{◌≡◌, ◌≢◌, ℕ, ℤ, zero, suc, nat_eq, List, [], ◌∷◌, length, Option, Some, None, Bool, true, false, not, ◌&&◌, ◌||◌, refl, sym, ◌∙◌, ap, arith}
use Rattle.std.specs.List.{AllByRecursion, list_all}
use Rattle.sd_range.specs.declared.affine.Affine.{Affine}
use Rattle.sd_range.specs.declared.range.Range.{Range}
use Rattle.sd_graph.specs.PlainTree.{KindTree, task, map_scope, consume_scope, nested_graph, reduction, copy, ItemTrees, no_item, and_item, StateTrees, no_state, and_state, GraphTree, graph}
use Rattle.sd_validity.specs.rules.GraphParts.{variables_of}
use Rattle.sd_alike.specs.alike.Places.{KindLeads, ItemsLead, StatesLead, GraphLeads}
use Rattle.sd_alike.specs.alike.Maps.{AffineWithout, RangesWithout, IsCollapsible}
use Rattle.sd_mapx.specs.Found.{Found, found_in, found_among, found_in_states, found_at}
use Rattle.sd_mapx.specs.Conditions.{lowest_failing, is_found}
use Rattle.sd_mapx.specs.MapTests.{has_param, names_none, range_names_none, ranges_name_none, is_round_one_map, is_inner_free}

-- ---- tests

both : (a b : Bool) → (a && b) ≡ true → (a ≡ true) × (b ≡ true)
both true b is = (refl, is)
both false b is = cc

same_number : (number : ℕ) → nat_eq number number ≡ true
same_number number = grind arith

not_param : (variable : ℕ) (param : ℕ × Range) (rest : Bool) → not (nat_eq variable param.0 || rest) ≡ true → (param.0 ≢ variable) × (not rest ≡ true)
not_param variable param rest is = split (nat_eq variable param.0) refl is
  where
    split : (same : Bool) → nat_eq variable param.0 ≡ same → not (same || rest) ≡ true → (param.0 ≢ variable) × (not rest ≡ true)
    split true known none = cc
    split false known none = ((λ equal. differs (sym (same_number variable) ∙ ap (nat_eq variable) (sym equal) ∙ known)), none)
      where
        differs : true ≡ false → ⊥
        differs same = cc

without_params : (params : List (ℕ × Range)) (variable : ℕ) → not (has_param params variable) ≡ true → AllByRecursion (λ param. param.0 ≢ variable) params
without_params [] variable none = tt
without_params (param ∷ params) variable none =
    let parts = not_param variable param (has_param params variable) none in
    (parts.0, without_params params variable parts.1)

without_terms : (params : List (ℕ × Range)) (terms : List (ℕ × ℤ)) → list_all (λ term. not (has_param params term.0)) terms ≡ true → AllByRecursion (λ term. AllByRecursion (λ param. param.0 ≢ term.0) params) terms
without_terms params [] none = tt
without_terms params (term ∷ terms) none =
    let parts = both (not (has_param params term.0)) (list_all (λ term. not (has_param params term.0)) terms) none in
    (without_params params term.0 parts.0, without_terms params terms parts.1)

without_ends : (params : List (ℕ × Range)) (ends : List Affine) → list_all (names_none params) ends ≡ true → AllByRecursion (AffineWithout params) ends
without_ends params [] none = tt
without_ends params (end ∷ ends) none =
    let parts = both (names_none params end) (list_all (names_none params) ends) none in
    (without_terms params end.terms parts.0, without_ends params ends parts.1)

pub without_ranges : (params others : List (ℕ × Range)) → ranges_name_none params others ≡ true → RangesWithout params others
without_ranges params [] none = tt
without_ranges params (other ∷ others) none =
    let parts = both (range_names_none params other.1) (ranges_name_none params others) none in
    let range = both (names_none params other.1.begin) (list_all (names_none params) other.1.ends) parts.0 in
    ((without_terms params other.1.begin.terms range.0, without_ends params other.1.ends range.1), without_ranges params others parts.1)

pub is_collapsible : (variables : ℕ) (kind : KindTree) → is_round_one_map kind ≡ true → is_inner_free kind ≡ true → IsCollapsible variables kind
is_collapsible variables (task code ins outs) round free = cc
is_collapsible variables (map_scope sequential params (number ∷ private) body) round free = cc
is_collapsible variables (map_scope sequential params [] no_item) round free = cc
is_collapsible variables (map_scope sequential params [] (and_item line (task code ins outs) no_item)) round free = cc
is_collapsible variables (map_scope sequential params [] (and_item line (map_scope inner_sequential inner private body) no_item)) round free = record {
  outer_sequential = sequential;
  outer = params;
  inner_line = line;
  inner_sequential = inner_sequential;
  inner = inner;
  private = private;
  body = body;
  shape = refl;
  apart = without_ranges params inner free;
}
is_collapsible variables (map_scope sequential params [] (and_item line (consume_scope stream element private body) no_item)) round free = cc
is_collapsible variables (map_scope sequential params [] (and_item line (nested_graph inner links) no_item)) round free = cc
is_collapsible variables (map_scope sequential params [] (and_item line (reduction resolution axis identity from to) no_item)) round free = cc
is_collapsible variables (map_scope sequential params [] (and_item line (copy from to) no_item)) round free = cc
is_collapsible variables (map_scope sequential params [] (and_item line kind (and_item next other items))) round free = cc
is_collapsible variables (consume_scope stream element private body) round free = cc
is_collapsible variables (nested_graph inner links) round free = cc
is_collapsible variables (reduction resolution axis identity from to) round free = cc
is_collapsible variables (copy from to) round free = cc

-- ---- where a path leads

module _ (Holds : ℕ → KindTree → Type 0) where
  abbrev pub HoldsFound : Option Found → Type 0
  HoldsFound None = ⊥
  HoldsFound (Some found) = Holds (length (variables_of found.tree)) found.kind

  mutual
    kind_leads : (tree : GraphTree) (kind : KindTree) (place : List ℕ) → HoldsFound (found_in tree kind place) → KindLeads Holds (length (variables_of tree)) kind place
    kind_leads tree (task code ins outs) place holds = holds
    kind_leads tree (map_scope sequential params private body) place holds = items_lead tree body place holds
    kind_leads tree (consume_scope stream element private body) place holds = items_lead tree body place holds
    kind_leads tree (nested_graph inner links) place holds = graph_leads inner place holds
    kind_leads tree (reduction resolution axis identity from to) place holds = holds
    kind_leads tree (copy from to) place holds = holds

    items_lead : (tree : GraphTree) (items : ItemTrees) (place : List ℕ) → HoldsFound (found_among tree items place) → ItemsLead Holds (length (variables_of tree)) items place
    items_lead tree no_item place holds = holds
    items_lead tree (and_item line kind items) [] holds = holds
    items_lead tree (and_item line kind items) (zero ∷ []) holds = holds
    items_lead tree (and_item line kind items) (zero ∷ next ∷ place) holds = kind_leads tree kind (next ∷ place) holds
    items_lead tree (and_item line kind items) (suc number ∷ place) holds = items_lead tree items (number ∷ place) holds

    states_lead : (tree : GraphTree) (states : StateTrees) (place : List ℕ) → HoldsFound (found_in_states tree states place) → StatesLead Holds (length (variables_of tree)) states place
    states_lead tree no_state place holds = holds
    states_lead tree (and_state items exits states) [] holds = holds
    states_lead tree (and_state items exits states) (zero ∷ place) holds = items_lead tree items place holds
    states_lead tree (and_state items exits states) (suc number ∷ place) holds = states_lead tree states (number ∷ place) holds

    pub graph_leads : (tree : GraphTree) (place : List ℕ) → HoldsFound (found_at tree place) → GraphLeads Holds tree place
    graph_leads (graph name containers arguments variables symbols states) place holds = states_lead (graph name containers arguments variables symbols states) states place holds

-- ---- conditions

pub first_holds : (number : ℕ) (holds : Bool) (others : List (ℕ × Bool)) → lowest_failing ((number, holds) ∷ others) ≡ None → (holds ≡ true) × (lowest_failing others ≡ None)
first_holds number true others none = (refl, none)
first_holds number false others none = cc

pub found_collapsible : (found : Option Found) → is_found is_round_one_map found ≡ true → is_found is_inner_free found ≡ true → HoldsFound IsCollapsible found
found_collapsible None round free = cc
found_collapsible (Some found) round free = is_collapsible (length (variables_of found.tree)) found.kind round free
